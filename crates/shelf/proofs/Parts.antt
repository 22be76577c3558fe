-- A part of a list, read by its own count.
use Prim.Native.Nat.{ℕ, ◌+◌, ◌-◌, ◌≤◌, ◌<◌}
use mathlib.Core.Path.{◌≡◌, ap, ◌∙◌}
use mathlib.Core.List.{List}
use native.Mathlib.Omega.{arith}
use lib.ListN.{take, drop, get_or}
use lib.Seq.{get_or-take, get_or-drop}

pub of_part : (at end : ℕ) (l : List ℕ) {k : ℕ} → at ≤ k → k < end → get_or (take (end - at) (drop at l)) (k - at) 0 ≡ get_or l k 0
of_part at end l {k} h g =
    let e : at + (k - at) ≡ k = omega arith in
    get_or-take (end - at) (drop at l) (k - at) 0 (omega arith) ∙ (get_or-drop at l (k - at) 0 ∙ ap (λ i. get_or l i 0) e)
