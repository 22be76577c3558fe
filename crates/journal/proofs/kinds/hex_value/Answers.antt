-- Each range has its own law.
use native.Mathlib.Omega.{arith}
use Prim.Native.Nat.{◌≤◌}
use Rattle.journal.proofs.Digits.{hex_decimal, hex_lower, hex_upper, hex_else}
use Rattle.journal.proofs.kinds.hex_value.Goals as goal
use Rattle.journal.proofs.kinds.hex_value.Goals.{in_default-via-then-b-lt48, in_default-via-else-b-lt48+else-b-lt58+then-b-lt97, in_default-via-else-b-lt48+else-b-lt58+else-b-lt97+else-b-lt103}

pub returns-in-48-to-57 : goal.returns-in-48-to-57
returns-in-48-to-57 c = let b = c.args.b in omega (arith, hex_decimal b (omega arith) (omega arith))

pub returns-in-97-to-102 : goal.returns-in-97-to-102
returns-in-97-to-102 c = let b = c.args.b in omega (arith, hex_lower b (omega arith) (omega arith))

last : (c : goal.In_default) → (0x41 ≤ c.args.b) × (c.args.b ≤ 0x46)
last c =
    elim c.in_default.branch [
      | in_default-via-then-b-lt48 w ↦ hex_else c.args.b c.requires (λ x y. omega arith) (λ x y. omega arith)
      | in_default-via-else-b-lt48+else-b-lt58+then-b-lt97 w ↦ hex_else c.args.b c.requires (λ x y. omega arith) (λ x y. omega arith)
      | in_default-via-else-b-lt48+else-b-lt58+else-b-lt97+else-b-lt103 w ↦ hex_else c.args.b c.requires (λ x y. omega arith) (λ x y. omega arith)
    ]

pub overflow_sub-result-in_default : goal.overflow_sub-result-in_default
overflow_sub-result-in_default c = (last c).0

pub returns-in_default : goal.returns-in_default
returns-in_default c = omega (arith, last c, hex_upper c.args.b (last c).0 (last c).1)
