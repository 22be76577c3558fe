-- A list of at most 16 is taken whole.
use Rattle.std.proofs.Common.{sym}
use Rattle.std.proofs.lemmas.List.{take_all}
use mathlib.Core.Path.{◌∙◌}
use Rattle.manage.specs.Aces.{put_listed}
use Rattle.manage.proofs.aces.put_listed.Goals as goal

pub returns : goal.returns
unfolding put_listed
returns c = rw (c.listed_ace.ensures, take_all 16 _ c.requires, sym c.is_empty.ensures ∙ c.if-is_empty.false)
