-- Laws of a buffer that bytes are laid into from its start on.
use Prim.Native.Nat.{ℕ, ◌≤◌}
use mathlib.Core.Path.{◌≡◌, refl, ◌∙◌}
use mathlib.Core.List.{List, [], ◌++◌}
use native.Mathlib.Omega.{arith}
use lib.ListN.{length, take, drop, length-append, length-take, length-drop}
use lib.Seq.{take-nil, take_all, take-append-le, take-take, drop_at}
use Rattle.lists.specs.Bytes.{deliver}

pub deliver_none : (buffer : List ℕ) → deliver [] buffer ≡ buffer
unfolding deliver
deliver_none buffer = rw take-nil

module _ (bytes buffer : List ℕ) where
  pub length_deliver : length (deliver bytes buffer) ≡ length buffer
  unfolding deliver
  length_deliver = simp (length-append, length-take, length-drop) (omega arith)

  -- where there is room for all bytes, or for no more than n of them
  pub deliver_all : length bytes ≤ length buffer → deliver bytes buffer ≡ bytes ++ drop (length bytes) buffer
  unfolding deliver
  deliver_all h = rw (take_all (length buffer) bytes h)

  pub take_deliver : (n : ℕ) → n ≤ length bytes → n ≤ length buffer → take n (deliver bytes buffer) ≡ take n bytes
  unfolding deliver
  take_deliver n h k =
      let e : n ≤ length (take (length buffer) bytes) = omega (arith, length-take (length buffer) bytes) in
      take-append-le n (take (length buffer) bytes) (drop (length bytes) buffer) e ∙ take-take n (length buffer) bytes k

  -- what follows them is kept
  pub drop_deliver : length bytes ≤ length buffer → drop (length bytes) (deliver bytes buffer) ≡ drop (length bytes) buffer
  drop_deliver h = rw (deliver_all h) (drop_at bytes (drop (length bytes) buffer) (length bytes) refl)
