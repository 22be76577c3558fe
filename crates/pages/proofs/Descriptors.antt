-- The descriptors of a run: none where a descriptor's bytes are not all there, or the first and those behind it.
use Prim.Native.Nat.{ℕ, suc, ◌/◌, ◌≤◌, ◌<◌}
use mathlib.Core.Path.{◌≡◌}
use mathlib.Core.List.{List, [], ◌∷◌}
use native.Mathlib.Omega.{arith}
use lib.ListN.{length, take, drop, length-drop}
use Rattle.lists.specs.Lists.{parts}
use Rattle.paper.specs.Pages.{descriptor_in, descriptors_in}
use Rattle.paper.specs.declared.state.Descriptor.{Descriptor}

pub descriptors_none : (run : List ℕ) → length run < 20 → descriptors_in run ≡ []
unfolding descriptors_in parts
descriptors_none run h =
    let e : length run / 20 ≡ 0 = omega arith in rw e

pub descriptors_turn : (run : List ℕ) {first others : List ℕ} {d : Descriptor} → 20 ≤ length run → first ≡ take 20 run → others ≡ drop 20 run → d ≡ descriptor_in first → descriptors_in run ≡ d ∷ descriptors_in others
unfolding descriptors_in parts
descriptors_turn run h f o e =
    let n : length run / 20 ≡ suc (length (drop 20 run) / 20) = simp length-drop (omega arith) in rw (n, e, f, o)
