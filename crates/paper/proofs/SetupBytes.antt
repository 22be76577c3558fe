-- A setup's bytes: what an accepted setup keeps, and that TransportIDs cut from its bytes are kept as they are listed.
use Prim.Native.Nat.{ℕ, zero, suc, ◌*◌, ◌/◌, ◌%◌}
use mathlib.Core.Path.{◌≡◌, refl}
use mathlib.Core.List.{List, map, append-nil}
use mathlib.Core.Bool.{true}
use native.Mathlib.Omega.{arith}
use lib.ListN.{length, take, drop, length-take, length-drop}
use lib.Seq.{take_all}
use lib.Dec.{eqb}
use borrow.Author.Tests.{eqb-true}
use Rattle.lists.specs.Lists.{parts}
use Rattle.lists.proofs.Tests.{and_true}
use Rattle.paper.specs.Sizes.{id_size}
use Rattle.paper.specs.Identifiers.{kept}
use Rattle.paper.specs.Setup.{setup_rules, ids_in, luns_in, accepted}
use Rattle.paper.specs.declared.state.IdType.TheVariants.{TransportId}

-- ---- accepted: no TransportID or LUN is cut, and the rules are kept
pub record Accepted (ids luns : List ℕ) : Type 0 where
  pub whole_ids : length ids % 24 ≡ 0
  pub whole_luns : length luns % 8 ≡ 0
  pub rules : setup_rules (ids_in ids) (luns_in luns) ≡ true

pub accepted_so : (ids luns : List ℕ) → accepted ids luns ≡ true → Accepted ids luns
unfolding accepted
accepted_so ids luns h =
    let a = and_true (eqb (length ids % id_size) 0) _ h in
    let b = and_true (eqb (length luns % 8) 0) _ a.1 in
    record { whole_ids = eqb-true _ _ a.0; whole_luns = eqb-true _ _ b.0; rules = b.1 }

-- ---- a whole TransportID is kept as it is
kept_whole : (x : List ℕ) → length x ≡ 24 → kept TransportId x ≡ x
kept_whole x h = rw (take_all 24 x (omega arith), h) (append-nil x)

pub kept_parts : (n : ℕ) (l : List ℕ) → length l ≡ 24 * n → map (kept TransportId) (parts 24 n l) ≡ parts 24 n l
unfolding parts
kept_parts zero l h = refl
kept_parts (suc n) l h =
    rw (kept_whole (take 24 l) (simp length-take (omega arith)), kept_parts n (drop 24 l) (simp length-drop (omega arith)))

pub ids_kept : (s : List ℕ) → length s % 24 ≡ 0 → map (kept TransportId) (ids_in s) ≡ ids_in s
unfolding ids_in
ids_kept s h = kept_parts (length s / 24) s (omega arith)
