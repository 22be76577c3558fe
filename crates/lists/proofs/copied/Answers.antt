use Rattle.std.proofs.lemmas.List.{drop-replicate}
use Rattle.lists.proofs.copied.Goals as goal

pub returns : goal.returns
returns g c = rw (c.copy_from_slice.ensures.after, drop-replicate)
