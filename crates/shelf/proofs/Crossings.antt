-- What crosses is what was there: out and in again gives the coordinator, in and out again the bytes that name variants; and an answer that is not GOOD leaves what C handed in.
use Prim.Native.Nat.{ℕ}
use mathlib.Core.Path.{◌≡◌, refl, ap, ◌∙◌}
use mathlib.Core.List.{List, [], ◌∷◌, map}
use mathlib.Core.Bool.{Bool, true, false}
use Rattle.lists.specs.Lists.{all}
use Rattle.lists.proofs.Tests.{split, and_true}
use Rattle.lists.proofs.Members.{all_map, in_all}
use Rattle.paper.specs.Outcomes.{Decision, refuse, check, good, outcome_of}
use Rattle.paper.proofs.Unchanged.{unchanged}
use Rattle.paper.specs.declared.state.IdType.{IdType}
use Rattle.paper.specs.declared.state.IdType.TheVariants.{AccessId, TransportId}
use Rattle.paper.specs.declared.state.Extent.{Extent}
use Rattle.paper.specs.declared.state.Extent.TheVariants.{Listed, Everything}
use Rattle.paper.specs.declared.state.Ace.{Ace}
use Rattle.paper.specs.declared.state.Coordinator.{Coordinator}
use Rattle.paper.specs.declared.answers.Answer.TheVariants.{Good}
use Rattle.shelf.specs.Crossing.{names_one, kind_of, extent_of, enabled_of, ace_in, well_ace, well_named, coordinator_in, kind_byte, extent_byte, enabled_byte, ace_out, shelf_of, status_byte, call_outcome, call_buffer}
use Rattle.shelf.proofs.Named.{Crosses, out_of_one}
use Rattle.shelf.specs.declared.layout.ShelfAce.{ShelfAce}
use Rattle.shelf.specs.declared.layout.Shelf.{Shelf}

-- ---- out and in
kind_crosses : (k : IdType) → Crosses kind_of kind_byte k
kind_crosses AccessId = record { same = refl; named = refl }
kind_crosses TransportId = record { same = refl; named = refl }

extent_crosses : (e : Extent) → Crosses extent_of extent_byte e
extent_crosses Listed = record { same = refl; named = refl }
extent_crosses Everything = record { same = refl; named = refl }

enabled_crosses : (b : Bool) → Crosses enabled_of enabled_byte b
enabled_crosses true = record { same = refl; named = refl }
enabled_crosses false = record { same = refl; named = refl }

aces_in_out : (l : List Ace) → map ace_in (map ace_out l) ≡ l
aces_in_out [] = refl
aces_in_out (a ∷ l) = rw ((kind_crosses a.kind).same, (extent_crosses a.extent).same, aces_in_out l)

pub in_out : (c : Coordinator) → coordinator_in (shelf_of c) ≡ c
unfolding coordinator_in shelf_of
in_out c = rw ((enabled_crosses c.enabled).same, aces_in_out c.acl.items)

pub named_out : (c : Coordinator) → well_named (shelf_of c) ≡ true
unfolding well_named shelf_of
named_out c =
    rw (enabled_crosses c.enabled).named
    (all_map ace_out well_ace c.acl.items
    ∙ in_all _ c.acl.items (λ a m. rw ((kind_crosses a.kind).named, (extent_crosses a.extent).named)))

-- ---- in and out
aces_out_in : (l : List ShelfAce) → all well_ace l ≡ true → map ace_out (map ace_in l) ≡ l
aces_out_in [] h = refl
aces_out_in (a ∷ l) h =
    let both = and_true (well_ace a) (all well_ace l) h in
    let named = and_true (names_one a.kind) (names_one a.extent) both.0 in
    rw (out_of_one AccessId TransportId kind_byte refl refl a.kind named.0, out_of_one Listed Everything extent_byte refl refl a.extent named.1, aces_out_in l both.1)

pub out_in : (s : Shelf) → well_named s ≡ true → shelf_of (coordinator_in s) ≡ s
unfolding well_named coordinator_in shelf_of
out_in s h =
    let named = and_true (names_one s.enabled) (all well_ace s.acl.items) h in
    rw (out_of_one false true enabled_byte refl refl s.enabled named.0, aces_out_in s.acl.items named.1)

-- ---- "a refusal gives the fixed status, sense or number and changes neither the state nor a byte of the reply buffer."
pub record Untouched (s : Shelf) (decide : Coordinator → Decision) (buffer : List ℕ) : Type 0 where
  pub state : (call_outcome s decide).state ≡ s
  pub bytes : call_buffer s decide buffer ≡ buffer
  pub delivered : (call_outcome s decide).delivered ≡ 0

good_status : (c : Coordinator) (d : Decision) → (outcome_of c d).answer ≡ Good → status_byte (outcome_of c d).values.status ≡ 0
good_status c (refuse n) g = cc
good_status c (check k) g = cc
good_status c (good es bytes) g = refl

pub nothing_changed : (s : Shelf) (decide : Coordinator → Decision) (buffer : List ℕ) → ((call_outcome s decide).values.status ≡ 0 → ⊥) → Untouched s decide buffer
unfolding call_outcome call_buffer
nothing_changed s decide buffer n = split (well_named s) named (λ e. record { state = rw e; bytes = rw e; delivered = rw e })
  where
    named : well_named s ≡ true → Untouched s decide buffer
    named e =
        let c = coordinator_in s in
        let u = unchanged c (decide c) buffer (λ g. n (rw e (good_status c (decide c) g))) in
        record { state = rw e (ap shelf_of u.state ∙ out_in s e); bytes = rw e u.bytes; delivered = rw e u.delivered }
