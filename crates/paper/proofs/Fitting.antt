-- What an effect must meet for the tables and the readings of the history to stay in step. The standing rules and the tests of a command see to it.
use Prim.Native.Nat.{ℕ, ◌<◌}
use mathlib.Core.Path.{◌≡◌}
use mathlib.Core.List.{List, [], ◌∷◌}
use Rattle.std.specs.Prelude.{None}
use mathlib.Core.Bool.{true}
use Rattle.lists.specs.Lists.{find}
use Rattle.lists.proofs.Members.{none_find}
use Rattle.paper.specs.Identifiers.{kept}
use Rattle.paper.specs.Contents.{not_enrolled}
use Rattle.paper.specs.Tables.{enrolment_of, aces_of, tokens_of, proxies_of}
use Rattle.paper.specs.Effects.{turned_on, turned_off, flushed, joined, left, link_event, issued, ended, assigned, released, Effect, switched, keyed, granted, enrolling, tokening, proxying}
use Rattle.paper.specs.Applied.{is_proxy, applied}
use Rattle.paper.proofs.Invariant.{Sound}
use Rattle.paper.proofs.GroundRows.{no_proxy_lem}
use Rattle.paper.proofs.Passed.{Issues, Assigns}
use Rattle.paper.specs.declared.state.IdType.TheVariants.{AccessId}
use Rattle.paper.specs.declared.state.Coordinator.{Coordinator}

-- turned on: the readings begin anew there, so the tables hold nothing
pub record Empty (c : Coordinator) : Type 0 where
  pub aces : aces_of c ≡ []
  pub tokens : tokens_of c ≡ []
  pub proxies : proxies_of c ≡ []
  pub enrolments : (i : ℕ) → enrolment_of c i ≡ not_enrolled

-- enrolled: the AccessID is as it is kept
pub record Joining (c : Coordinator) (i : ℕ) (id : List ℕ) : Type 0 where
  pub there : i < c.initiators.count
  pub whole : kept AccessId id ≡ id

-- issued: what REQUEST PROXY TOKEN tests
pub record Issuing (c : Coordinator) (i l n : ℕ) : Type 0 where
  pub on : c.enabled ≡ true
  pub there : i < c.initiators.count
  pub passed : Issues c i l n

-- assigned: what ASSIGN PROXY LUN tests
pub record Assigning (c : Coordinator) (i l n : ℕ) : Type 0 where
  pub on : c.enabled ≡ true
  pub passed : Assigns c i n l

-- the initiator has no such proxy LUN yet: it would be a row with that LUN
pub assigned_free : {c : Coordinator} {i l n : ℕ} → Sound c → Assigning c i l n → find (is_proxy i l) (proxies_of c) ≡ None
assigned_free {c} {i} {l} sound fit =
    none_find (is_proxy i l) (proxies_of c) (λ p m. no_proxy_lem c i l fit.on (sound.live p m) fit.passed.free m)

abbrev pub Fit : Coordinator → Effect → Type 0
Fit c (switched turned_on) = Empty c
Fit c (switched turned_off) = Unit {0}
Fit c (keyed k) = Unit {0}
Fit c (granted k id content n) = Unit {0}
Fit c (enrolling flushed) = Unit {0}
Fit c (enrolling (joined i id)) = Joining c i id
Fit c (enrolling (left i)) = i < c.initiators.count
Fit c (enrolling (link_event i)) = i < c.initiators.count
Fit c (tokening (issued i l n)) = Issuing c i l n
Fit c (tokening (ended e)) = Unit {0}
Fit c (proxying (assigned i l n)) = Assigning c i l n
Fit c (proxying (released i l)) = Unit {0}

-- effects one after the other
abbrev pub FitAll : Coordinator → List Effect → Type 0
FitAll c [] = Unit {0}
FitAll c (e ∷ es) = Fit c e × FitAll (applied c e) es
