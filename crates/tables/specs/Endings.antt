-- Which tokens end, in the enum of the code. A page 02h lists its tokens in its own bytes, which stand beside the enum.
use Rattle.std.specs.Prelude.{ℕ, List}
use Rattle.paper.specs.Effects.{Ending, own, named, listed, all_tokens}
use Rattle.paper.specs.Pages.{tokens_in}
use Rattle.tables.specs.declared.tokens.EndKind.{EndKind}
use Rattle.tables.specs.declared.tokens.EndKind.TheVariants.{Own, Named, Listed, AllTokens}

abbrev pub ending_of : EndKind → List ℕ → Ending
ending_of (Own i n) page = own i n
ending_of (Named i l) page = named i l
ending_of Listed page = listed (tokens_in page)
ending_of AllTokens page = all_tokens
