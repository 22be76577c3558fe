-- What crosses to C and back: the coordinator with a byte where it has an enum or a bool. A state in which such a byte is none of the two that name something is no coordinator: it "breaks a standing rule" (refusal 2).
use Rattle.std.specs.Prelude.{ℕ, List, map, Bool, true, false, cond, ◌&&◌, eqb, leb, Option}
use Rattle.std.specs.Option.{unwrap_or}
use Rattle.lists.specs.Lists.{all}
use Rattle.paper.specs.Answers.{values_of}
use Rattle.paper.specs.Outcomes.{Decision, outcome_of, buffer_after, routed, opening_of}
use Rattle.paper.specs.declared.state.IdType.{IdType}
use Rattle.paper.specs.declared.state.IdType.TheVariants.{AccessId, TransportId}
use Rattle.paper.specs.declared.state.Extent.{Extent}
use Rattle.paper.specs.declared.state.Extent.TheVariants.{Listed, Everything}
use Rattle.paper.specs.declared.state.Ace.{Ace}
use Rattle.paper.specs.declared.state.Coordinator.{Coordinator}
use Rattle.paper.specs.declared.answers.Values.{Values}
use Rattle.paper.specs.declared.answers.Answer.TheVariants.{Refused}
use Rattle.paper.specs.declared.answers.Refusal.TheVariants.{BadState}
use Rattle.paper.specs.declared.answers.Opened.{Opened}
use Rattle.paper.specs.declared.answers.Opened.TheVariants.{Opens, Closed, Barred}
use Rattle.paper.specs.declared.outcomes.Outcome.{Outcome}
use Rattle.paper.specs.declared.outcomes.Started.{Started}
use Rattle.paper.specs.declared.outcomes.Opening.{Opening}
use Rattle.shelf.specs.declared.layout.ShelfAce.{ShelfAce}
use Rattle.shelf.specs.declared.layout.Shelf.{Shelf}
use Rattle.shelf.specs.declared.layout.ShelfValues.{ShelfValues}
use Rattle.shelf.specs.declared.layout.ShelfOutcome.{ShelfOutcome}
use Rattle.shelf.specs.declared.layout.ShelfOpening.{ShelfOpening}

-- ---- in: a byte names a variant, or whether access controls are on
abbrev pub names_one : ℕ → Bool
names_one b = leb b 1

-- the two that a byte names: 0 the first
abbrev pub one_of : {A : Type 0} → A → A → ℕ → A
one_of x y b = cond (eqb b 0) x y

abbrev pub kind_of : ℕ → IdType
kind_of b = one_of AccessId TransportId b

abbrev pub extent_of : ℕ → Extent
extent_of b = one_of Listed Everything b

abbrev pub enabled_of : ℕ → Bool
enabled_of b = one_of false true b

abbrev pub ace_in : ShelfAce → Ace
ace_in a =
    record { kind = kind_of a.kind; extent = extent_of a.extent; id = a.id; count = a.count; luacds = a.luacds }

abbrev pub well_ace : ShelfAce → Bool
well_ace a = names_one a.kind && names_one a.extent

unfoldable pub well_named : Shelf → Bool
well_named s = names_one s.enabled && all well_ace s.acl.items

unfoldable pub coordinator_in : Shelf → Coordinator
coordinator_in s =
    record {
      enabled = enabled_of s.enabled;
      generation = s.generation;
      key = s.key;
      initiators = s.initiators;
      units = s.units;
      acl = record { count = s.acl.count; items = map ace_in s.acl.items };
      tokens = s.tokens;
      proxies = s.proxies;
    }

-- ---- out
abbrev pub kind_byte : IdType → ℕ
kind_byte AccessId = 0
kind_byte TransportId = 1

abbrev pub extent_byte : Extent → ℕ
extent_byte Listed = 0
extent_byte Everything = 1

abbrev pub enabled_byte : Bool → ℕ
enabled_byte false = 0
enabled_byte true = 1

abbrev pub ace_out : Ace → ShelfAce
ace_out a =
    record { kind = kind_byte a.kind; extent = extent_byte a.extent; id = a.id; count = a.count; luacds = a.luacds }

unfoldable pub shelf_of : Coordinator → Shelf
shelf_of c =
    record {
      enabled = enabled_byte c.enabled;
      generation = c.generation;
      key = c.key;
      initiators = c.initiators;
      units = c.units;
      acl = record { count = c.acl.count; items = map ace_out c.acl.items };
      tokens = c.tokens;
      proxies = c.proxies;
    }

-- a refusal has no status: FFh, which SAM does not use
abbrev pub status_byte : Option ℕ → ℕ
status_byte s = unwrap_or s 0xFF

abbrev pub values_out : Values → ShelfValues
values_out v = record { status = status_byte v.status; number = v.number; sense = v.sense }

abbrev pub outcome_out : Outcome → ShelfOutcome
outcome_out o = record { state = shelf_of o.state; values = values_out o.values; delivered = o.delivered }

abbrev pub started_out : Started → ShelfOutcome
started_out o = record { state = shelf_of o.state; values = values_out o.values; delivered = 0 }

abbrev pub unit_opened : Opened → ℕ
unit_opened (Opens u) = u
unit_opened (Closed k) = 0
unit_opened (Barred n) = 0

abbrev pub opening_out : Opening → ShelfOpening
opening_out o = record { unit = unit_opened o.opened; values = values_out o.values }

-- ---- the calls. "They return the number, change no state and write no byte."
abbrev pub refused_shelf : Shelf → ShelfOutcome
refused_shelf s = record { state = s; values = values_out (values_of (Refused BadState)); delivered = 0 }

unfoldable pub call_outcome : Shelf → (Coordinator → Decision) → ShelfOutcome
call_outcome s decide =
    cond (well_named s) (outcome_out (outcome_of (coordinator_in s) (decide (coordinator_in s)))) (refused_shelf s)

unfoldable pub call_buffer : Shelf → (Coordinator → Decision) → List ℕ → List ℕ
call_buffer s decide buffer = cond (well_named s) (buffer_after (decide (coordinator_in s)) buffer) buffer

unfoldable pub route_opening : Shelf → ℕ → ℕ → ShelfOpening
route_opening s i l =
    cond (well_named s) (opening_out (opening_of (routed (coordinator_in s) i l))) (opening_out (opening_of (Barred BadState)))
