-- The auditor's table rests on demand 3: whatever the input, what an audit counts as standing after a line are the rows of the unit in the reach list of the coordinator after that line, and that list names every ground of access that stands by the history since the last setup, and no other.
use Prim.Native.Nat.{ℕ}
use mathlib.Core.Path.{◌≡◌, refl, sym, subst}
use mathlib.Core.List.{List, [], ◌∷◌, map}
use mathlib.Core.Bool.{Bool, true, false, cond}
use Rattle.std.specs.Prelude.{Option, Some, None}
use lib.ListN.{length, take}
use lib.Dec.{eqb}
use Rattle.lists.specs.Lists.{keep, parts, count}
use Rattle.lists.specs.Order.{sort}
use Rattle.lists.proofs.Tests.{both}
use Rattle.paper.specs.Setup.{setup_in}
use Rattle.paper.specs.Fresh.{fresh}
use Rattle.paper.specs.Readings.{Stands}
use Rattle.paper.specs.Runs.{Names, took}
use Rattle.paper.specs.Reports.{reach_rows, row_bytes}
use Rattle.paper.specs.Standing.{standing}
use Rattle.paper.specs.declared.state.Coordinator.{Coordinator}
use Rattle.paper.proofs.Demand3.{always_stands, reach_list}
use Rattle.journal.specs.Statements.{setup, command, link, route, reach, Line, skipped, said, too_long, expected, read_line}
use Rattle.journal.specs.Replay.{step_said, step_line}
use Rattle.journal.specs.Lines.{is_end, fed as fed_replay, answered as answered_replay, lengthened as lengthened_replay}
use Rattle.journal.specs.Reached.{Reached}
use Rattle.journal.proofs.ReplayRuns.{reach_keeps, nothing_reached, step_reached}
use Rattle.audit.specs.Deeds.{done_by}
use Rattle.audit.specs.Ledger.{deed_bytes, forgotten, runs_of}
use Rattle.audit.specs.Following.{Kept, changed_by, changed_if, followed, Auditing, begun, answered, lengthened, fed, ended}
use Rattle.audit.specs.declared.following.Inquiry.{Inquiry}
use Rattle.audit.specs.declared.ledger.Deed.{Deed}
use Rattle.audit.proofs.Grounds.{deed_size}
use Rattle.audit.proofs.Standing.{stands_are_reach}

-- ---- an audit reads its input as a replay does
pub replays : (q : Inquiry) (a : Auditing) (s : List ℕ) → (fed q a s).replaying ≡ fed_replay a.replaying s
unfolding fed fed_replay
replays q a [] = refl
replays q a (b ∷ s) = go (is_end b) (replays q (answered q a) s) (replays q (lengthened a b) s)
  where
    go : (t : Bool) → (fed q (answered q a) s).replaying ≡ fed_replay (answered_replay a.replaying) s → (fed q (lengthened a b) s).replaying ≡ fed_replay (lengthened_replay a.replaying b) s → (fed q (cond t (answered q a) (lengthened a b)) s).replaying ≡ fed_replay (cond t (answered_replay a.replaying) (lengthened_replay a.replaying b)) s
    go true whole part = whole
    go false whole part = part

-- ---- a line that is no setup, command or link event changes nothing
same_state : (c : Coordinator) (number : ℕ) (line : Line) → done_by number line ≡ None → (step_line c number line).state ≡ c
unfolding done_by step_line step_said
same_state c number skipped e = refl
same_state c number too_long e = refl
same_state c number (expected k kind) e = refl
same_state c number (said (setup ids luns)) e = cc
same_state c number (said (command i cdb list random n)) e = cc
same_state c number (said (link i)) e = cc
same_state c number (said (route i l)) e = refl
same_state c number (said (reach n)) e = reach_keeps c n

-- ---- what is counted as standing are the unit's rows of the reach list, and the state is one that demand 3 speaks of
abbrev AsListed : ℕ → Coordinator → List ℕ → Type 0
AsListed unit c standing =
    map (take 4) (runs_of 14 standing) ≡ map row_bytes (keep (λ r. eqb r.unit unit) (reach_rows c))

pub record Rests (q : Inquiry) (c : Coordinator) (standing : List ℕ) : Type 0 where
  pub reached : Reached c
  pub listed : AsListed q.unit c standing

reached_stands : (c : Coordinator) → Reached c → standing c ≡ true
reached_stands c r = always_stands r.ids r.luns _ refl r.accepted c r.es r.calls

line_rests : (q : Inquiry) (c : Coordinator) (number : ℕ) (line : Line) (k : Kept) → Rests q c k.standing → Rests q (step_line c number line).state (followed q number line (step_line c number line).state k).standing
unfolding followed changed_by
line_rests q c number line k r =
    let after = (step_line c number line).state in
    let reached = step_reached c number line r.reached in
    record { reached = reached; listed = go (done_by number line) refl }
  where
    go : (done : Option Deed) → done_by number line ≡ done → AsListed q.unit (step_line c number line).state (changed_if q done (step_line c number line).state k).standing
    go None e = subst (λ d. AsListed q.unit d k.standing) (sym (same_state c number line e)) r.listed
    go (Some d) e =
        let after = (step_line c number line).state in
        stands_are_reach after (reached_stands after (step_reached c number line r.reached)) q.unit (forgotten d.what k.standing) (deed_bytes d) (deed_size d)

abbrev pub RestsAt : Inquiry → Auditing → Type 0
RestsAt q a = Rests q a.replaying.state a.kept.standing

answered_rests : (q : Inquiry) (a : Auditing) → RestsAt q a → RestsAt q (answered q a)
answered_rests q a r = line_rests q a.replaying.state a.replaying.number (read_line a.replaying.line) a.kept r

fed_rests : (q : Inquiry) (a : Auditing) (s : List ℕ) → RestsAt q a → RestsAt q (fed q a s)
unfolding fed
fed_rests q a [] r = r
fed_rests q a (b ∷ s) r =
    fed_rests q (cond (is_end b) (answered q a) (lengthened a b)) s (both (λ (x : Auditing). RestsAt q x) (is_end b) (answered_rests q a r) r)

ended_rests : (q : Inquiry) (a : Auditing) → RestsAt q a → RestsAt q (ended q a)
unfolding ended
ended_rests q a r = both (λ (x : Auditing). RestsAt q x) (eqb (length a.replaying.line) 0) r (answered_rests q a r)

begun_rests : (q : Inquiry) → RestsAt q begun
unfolding parts reach_rows sort count fresh
begun_rests q = record { reached = nothing_reached; listed = refl }

-- after each part of an input, and at its end
pub audit_rests : (q : Inquiry) (input : List ℕ) → RestsAt q (fed q begun input)
audit_rests q input = fed_rests q begun input (begun_rests q)

pub audit_rests_at_end : (q : Inquiry) (input : List ℕ) → RestsAt q (ended q (fed q begun input))
audit_rests_at_end q input = ended_rests q (fed q begun input) (audit_rests q input)

-- "the reach list names every ground of access that stands, each once, in order, and no other"
pub names_all : {q : Inquiry} {c : Coordinator} {standing : List ℕ} → (r : Rests q c standing) → Names (reach_rows c) (Stands (setup_in r.reached.ids r.reached.luns) (took (setup_in r.reached.ids r.reached.luns) r.reached.es))
names_all {q} {c} r =
    let x = r.reached in reach_list x.ids x.luns _ refl x.accepted c x.es x.calls
