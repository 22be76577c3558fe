-- The bytes of the number, all eight of them, in hex.
use native.Mathlib.Omega.{arith}
use borrow.Author.Rules.{rules}
use Rattle.lists.proofs.Bytes.{bytes_length}
use Rattle.lists.specs.Bytes.{be_bytes}
use Rattle.journal.proofs.Told.{hex_length}
use Rattle.acl.specs.State.{number_text}
use Rattle.acl.proofs.Named.{all_written}
use Rattle.acl.proofs.naming.put_number.Goals as goal

pub returns : goal.returns
unfolding number_text
returns c =
    let w = rw (all_written c.put_be64.ensures (bytes_length 8 c.args.number) (search rules)) at c.put_hex.ensures in
    record { wrote = w; fits = omega (arith, w.ended, hex_length (be_bytes 8 c.args.number), bytes_length 8 c.args.number) }
