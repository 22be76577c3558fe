-- Behind the compared bytes as many zeros are left as the array has more.
use Rattle.std.proofs.Common.{◌++◌, length, take, ap}
use Rattle.std.proofs.lemmas.List.{drop-replicate}
use Rattle.paper.specs.Identifiers.{compared_bytes}
use Rattle.tables.proofs.identifiers.kept_id.Goals as goal

pub returns : goal.returns
returns c =
    let compared = take (compared_bytes c.args.k) c.args.id.now in
    rw (c.copy_from_slice.ensures.after, c.first-compared.ensures, c.compared_bytes.ensures) (ap (λ zeros. compared ++ zeros) (drop-replicate (length compared) 24 0))
