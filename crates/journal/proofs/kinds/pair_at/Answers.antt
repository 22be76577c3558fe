-- Both digits are in the word and have values below 16.
use native.Mathlib.Omega.{arith}
use Rattle.journal.specs.Kinds.{is_hex}
use Rattle.journal.proofs.Digits.{all_at, hex_at, hex_length, pair_room}
use Rattle.journal.proofs.kinds.pair_at.Goals as goal

pub hex_value-requires : goal.hex_value-requires
hex_value-requires c = all_at is_hex c.args.w.now _ c.requires.0 (omega (arith, pair_room _ c.requires.0 _ c.requires.1))

pub hex_value-requires-2 : goal.hex_value-requires-2
hex_value-requires-2 c = all_at is_hex c.args.w.now _ c.requires.0 (omega (arith, pair_room _ c.requires.0 _ c.requires.1))

pub overflow_mul-k : goal.overflow_mul-k
overflow_mul-k c = omega (arith, pair_room _ c.requires.0 _ c.requires.1)

pub bounds-w-k : goal.bounds-w-k
bounds-w-k c = omega (arith, pair_room _ c.requires.0 _ c.requires.1)

pub overflow_mul-k-2 : goal.overflow_mul-k-2
overflow_mul-k-2 c = omega (arith, pair_room _ c.requires.0 _ c.requires.1)

pub overflow_add-k : goal.overflow_add-k
overflow_add-k c = omega (arith, pair_room _ c.requires.0 _ c.requires.1)

pub bounds-w-k-2 : goal.bounds-w-k-2
bounds-w-k-2 c = omega (arith, pair_room _ c.requires.0 _ c.requires.1)

pub returns : goal.returns
returns c = omega (arith, c.hex_value-2.ensures, c.hex_value.ensures, hex_length c.args.w.now, hex_at c.args.w.now c.args.k (omega (arith, hex_length c.args.w.now)))
