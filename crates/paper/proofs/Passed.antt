-- What a command has found where its tests pass.
use Prim.Native.Nat.{ℕ, ◌<◌}
use mathlib.Core.Path.{◌≡◌, refl}
use mathlib.Core.List.{List}
use mathlib.Core.Bool.{Bool, true, false, not, ◌||◌}
use native.Mathlib.Omega.{arith}
use lib.Dec.{eqb, leb}
use borrow.Author.Tests.{not-false, leb-false}
use Rattle.lists.specs.Lists.{any, all, is_some}
use Rattle.lists.specs.Pages.{whole_page}
use Rattle.lists.proofs.Tests.{or_false}
use Rattle.wire.specs.Lun.{lun_form}
use Rattle.paper.specs.Sizes.{max_tokens, max_proxies}
use Rattle.paper.specs.Identifiers.{kept}
use Rattle.paper.specs.Grounds.{is_ta}
use Rattle.paper.specs.Tables.{units_of, enrolment_of, tokens_of}
use Rattle.paper.specs.Rows.{token_for, rows_of, clash_for, some_clash, has_lun, row_with}
use Rattle.paper.specs.Standing.{has_ace}
use Rattle.paper.specs.Effects.{joined, enrolling}
use Rattle.paper.specs.Pages.{key_in, generation_in, ace_pages, bad_page, bad_places}
use Rattle.paper.specs.Applied.{applied}
use Rattle.paper.specs.Commands.{Verdict, passes, failing, wrong_key, malformed, managed, too_many, manage_tests, elsewhere, enroll_tests, request_tests, assign_tests}
use Rattle.paper.specs.declared.state.IdType.TheVariants.{AccessId}
use Rattle.paper.specs.declared.state.Coordinator.{Coordinator}
use Rattle.paper.specs.declared.answers.Condition.{Condition}

-- a chain of tests that ends well has passed each
passing : (b : Bool) (k : Condition) (next : Verdict) → failing b k next ≡ passes → (b ≡ false) × (next ≡ passes)
passing true k next e = let z : ◌≡◌ {A = ℕ} 0 1 = cc in absurd (omega arith)
passing false k next e = (refl, e)

-- ---- ENROLL
pub record Joins (c : Coordinator) (i : ℕ) (id : List ℕ) : Type 0 where
  pub listed : has_ace c id ≡ true
  pub clear : clash_for (applied c (enrolling (joined i (kept AccessId id)))) i ≡ false

pub joins : (c : Coordinator) (i : ℕ) (id : List ℕ) → enroll_tests c i id ≡ passes → Joins c i id
unfolding enroll_tests
joins c i id h =
    let a = passing (elsewhere id (enrolment_of c i)) _ _ h in
    let b = passing (not (has_ace c id)) _ _ a.1 in
    let d = passing (clash_for (applied c (enrolling (joined i (kept AccessId id)))) i) _ _ b.1 in
    record { listed = not-false _ b.0; clear = d.0 }

-- ---- REQUEST PROXY TOKEN
pub record Issues (c : Coordinator) (i l n : ℕ) : Type 0 where
  pub opens : is_some (row_with is_ta l (rows_of c i)) ≡ true
  pub room : c.tokens.count < 32
  pub number : eqb n 0 ≡ false
  pub new : is_some (token_for (tokens_of c) n) ≡ false

pub issues : (c : Coordinator) (i l n : ℕ) → request_tests c i l n ≡ passes → Issues c i l n
unfolding request_tests
issues c i l n h =
    let a = passing (not (is_some (row_with is_ta l (rows_of c i)))) _ _ h in
    let b = passing (leb max_tokens c.tokens.count) _ _ a.1 in
    let d = passing (eqb n 0 || is_some (token_for (tokens_of c) n)) _ _ b.1 in
    let e = or_false (eqb n 0) _ d.0 in
    record { opens = not-false _ a.0; room = leb-false _ _ b.0; number = e.0; new = e.1 }

-- ---- ASSIGN PROXY LUN
pub record Assigns (c : Coordinator) (i n l : ℕ) : Type 0 where
  pub live : is_some (token_for (tokens_of c) n) ≡ true
  pub form : lun_form l ≡ true
  pub free : any (has_lun l) (rows_of c i) ≡ false
  pub room : c.proxies.count < 32

pub assigns : (c : Coordinator) (i n l : ℕ) → assign_tests c i n l ≡ passes → Assigns c i n l
unfolding assign_tests
assigns c i n l h =
    let a = passing (not (is_some (token_for (tokens_of c) n))) _ _ h in
    let b = passing (not (lun_form l) || any (has_lun l) (rows_of c i)) _ _ a.1 in
    let d = passing (leb max_proxies c.proxies.count) _ _ b.1 in
    let e = or_false (not (lun_form l)) _ b.0 in
    record { live = not-false _ a.0; form = not-false _ e.0; free = e.1; room = leb-false _ _ d.0 }

-- ---- MANAGE ACL
pub record Manages (c : Coordinator) (list : List ℕ) : Type 0 where
  pub pages : any bad_page (ace_pages list) ≡ false
  pub places : any (bad_places (units_of c)) (ace_pages list) ≡ false
  pub room : too_many (managed c list) ≡ false
  pub apart : some_clash (managed c list) ≡ false

pub manages : (c : Coordinator) (list : List ℕ) → manage_tests c list ≡ passes → Manages c list
unfolding manage_tests malformed
manages c list h =
    let a = passing (not (all whole_page (ace_pages list))) _ _ h in
    let b = passing (wrong_key c (key_in list)) _ _ a.1 in
    let d = passing (malformed c list) _ _ b.1 in
    let e = passing (any (bad_places (units_of c)) (ace_pages list)) _ _ d.1 in
    let f = passing (too_many (managed c list)) _ _ e.1 in
    let g = passing (some_clash (managed c list)) _ _ f.1 in
    let l = or_false (not (eqb (generation_in list) c.generation)) _ d.0 in
    record {
      pages = (or_false (any bad_page (ace_pages list)) _ l.1).0;
      places = e.0;
      room = f.0;
      apart = g.0;
    }
