-- A journal fed in parts: what is read of a line in parts is read as a whole, and of a line that is too long the first 262,145 bytes tell as much as all of it.
use Prim.Native.Nat.{ℕ, suc, ◌+◌, ◌-◌, ◌≤◌}
use mathlib.Core.Path.{◌≡◌, refl, ap, sym, ◌∙◌, subst}
use mathlib.Core.List.{List, [], ◌∷◌, ◌++◌, append_assoc, append-nil}
use mathlib.Core.Bool.{Bool, true, false, cond, ◌&&◌}
use native.Mathlib.Omega.{arith}
use native.Mathlib.Numerals.{add-one}
use lib.ListN.{length, take, drop, length-take, length-drop}
use lib.Seq.{take_all}
use lib.Dec.{ltb}
use borrow.Author.Tests.{ltb-true, ltb-false, lt-ltb, eq-eqb, ne_eqb}
use Rattle.std.proofs.lemmas.List.{take-append-drop, nil_from_length}
use Rattle.lists.specs.Lists.{any, place_of, parts}
use Rattle.lists.proofs.Tests.{split, clashes, or_false, and_true}
use Rattle.lists.proofs.Members.{place_some, place_none}
use Rattle.paper.specs.Fresh.{nothing, fresh, started}
use Rattle.paper.specs.Setup.{accepted, ids_in, luns_in}
use Rattle.journal.specs.Lines.{is_end}
use Rattle.journal.specs.TakenIn.{before_end, TookIn}
use Rattle.journal.specs.Statements.{read_line}
use Rattle.journal.specs.Replay.{step_line}
use Rattle.journal.proofs.Taking.{cut_twice}
use Rattle.audit.specs.Following.{kept_in, followed, Auditing, answered, lengthened, fed, ended}
use Rattle.audit.specs.declared.following.Inquiry.{Inquiry}
use Rattle.oberkosz.specs.Places.{is_audit, inquiry_of, At}
use Rattle.oberkosz.specs.declared.task.Task.{Task}
use Rattle.oberkosz.specs.declared.step.Place.{Place}

-- ---- of a line that is too long its first bytes tell as much
cut_reads : (s : List ℕ) → read_line (take 262145 s) ≡ read_line s
unfolding read_line
cut_reads s =
    split (ltb 262144 (length s))
    (λ e. rw (lt-ltb 262144 (length (take 262145 s)) (omega (arith, length-take 262145 s, ltb-true 262144 (length s) e)), e))
    (λ e. ap read_line (take_all 262145 s (omega (arith, ltb-false 262144 (length s) e))))

-- ---- part after part
fed_append : (q : Inquiry) (x : Auditing) (a b : List ℕ) → fed q x (a ++ b) ≡ fed q (fed q x a) b
unfolding fed
fed_append q x [] b = refl
fed_append q x (c ∷ a) b = fed_append q (cond (is_end c) (answered q x) (lengthened x c)) a b

-- bytes within a line
abbrev line_of : Auditing → List ℕ → Auditing
line_of x l =
    record {
      replaying = record { state = x.replaying.state; number = x.replaying.number; line = l; written = x.replaying.written };
      kept = x.kept;
    }

fed_within : (q : Inquiry) (x : Auditing) (s : List ℕ) → any is_end s ≡ false → fed q x s ≡ line_of x (x.replaying.line ++ s)
unfolding fed
fed_within q x [] e = ap (line_of x) (sym (append-nil x.replaying.line))
fed_within q x (b ∷ s) e =
    let (here, rest) = or_false (is_end b) (any is_end s) e in
    rw here (fed_within q (lengthened x b) s rest ∙ ap (line_of x) (append_assoc x.replaying.line (b ∷ []) s))

-- bytes up to the end of a line, with it
fed_whole : (q : Inquiry) (x : Auditing) (s : List ℕ) → any is_end s ≡ true → fed q x (take (place_of is_end s + 1) s) ≡ answered q (line_of x (x.replaying.line ++ before_end s))
unfolding fed place_of
fed_whole q x [] e = clashes e refl
fed_whole q x (b ∷ s) e =
    split (is_end b)
    (λ h. rw h (rw h (ap (λ l. answered q (line_of x l)) (sym (append-nil x.replaying.line)))))
    (λ h.
    rw (h, add-one (suc (place_of is_end s)))
    (rw (h, fed) (ap (λ n. fed q (lengthened x b) (take n s)) (sym (add-one (place_of is_end s))) ∙ (fed_whole q (lengthened x b) s (rw h at e) ∙ ap (λ l. answered q (line_of x l)) (append_assoc x.replaying.line (b ∷ []) (before_end s))))))

-- ---- the program goes on: it went on before, and there was room
pub all_going : {r : Bool} (a b c : Bool) → r ≡ (a && (b && c)) → r ≡ true → (a ≡ true) × (c ≡ true)
all_going {r} a b c e going =
    let on = and_true a (b && c) (sym e ∙ going) in (on.0, (and_true b c on.1).1)

-- ---- a line that was answered and followed is where the audit is
module _ (task : Task) (p r : Place) (standing ended standing' ended' : List ℕ) (l : List ℕ) where
  abbrev i : Inquiry
  i = inquiry_of task

  -- what `step` says of it
  abbrev KeptOn : Type 0
  KeptOn =
      is_audit task ≡ true → r.going ≡ true → (p.going ≡ true) × (kept_in r.grounds standing' ended' ≡ followed i p.number (read_line l) r.state (kept_in p.grounds standing ended))

  pub answered_at : r.state ≡ (step_line p.state p.number (read_line l)).state → r.number ≡ p.number + 1 → r.used ≡ 0 → KeptOn → (x : Auditing) → p.state ≡ x.replaying.state → p.number ≡ x.replaying.number → (is_audit task ≡ true → p.going ≡ true → kept_in p.grounds standing ended ≡ x.kept) → read_line l ≡ read_line x.replaying.line → {line : List ℕ} → At task r line standing' ended' (answered i x)
  answered_at stepped number size on x same count grounds read {line} =
      let state : r.state ≡ (answered i x).replaying.state = stepped ∙ rw (same, count, read) refl in
      record {
        state = state;
        number = number ∙ ap (λ n. n + 1) count;
        kept = rw size refl;
        grounds = λ audit going.
            let was = on audit going in
            was.1
            ∙ (ap (λ n. followed i n (read_line l) r.state (kept_in p.grounds standing ended)) count
            ∙ (ap (λ s. followed i x.replaying.number s r.state (kept_in p.grounds standing ended)) read
            ∙ (ap (λ c. followed i x.replaying.number (read_line x.replaying.line) c (kept_in p.grounds standing ended)) state
            ∙ ap (λ k. followed i x.replaying.number (read_line x.replaying.line) (answered i x).replaying.state k) (grounds audit was.0))));
      }

-- ---- what was taken from a chunk is what is fed of it
module _ (task : Task) (p : Place) (line chunk line' : List ℕ) (b : Bool) (eaten used : ℕ) (t : TookIn (take p.used line) chunk b eaten (take used line') used) (standing ended : List ℕ) where
  -- the line so far
  line_so : {x : Auditing} → At task p line standing ended x → take used line' ≡ take 262145 (x.replaying.line ++ before_end chunk)
  line_so {x} a = t.kept ∙ cut_twice 262145 x.replaying.line (before_end chunk) a.kept

  pub fed_part : b ≡ false → {q : Place} → q.state ≡ p.state → q.number ≡ p.number → q.used ≡ used → q.going ≡ p.going → q.grounds ≡ p.grounds → {x : Auditing} → At task p line standing ended x → At task q line' standing ended (fed (inquiry_of task) x (take eaten chunk))
  fed_part e {q} same number size going grounds {x} a =
      let none = sym t.whole ∙ e in
      let all : take eaten chunk ≡ chunk = take_all eaten chunk (omega (arith, rw e at t.read)) in
      let is : fed (inquiry_of task) x (take eaten chunk) ≡ line_of x (x.replaying.line ++ chunk) = ap (fed (inquiry_of task) x) all ∙ fed_within (inquiry_of task) x chunk none in
      let before : before_end chunk ≡ chunk = take_all (place_of is_end chunk) chunk (omega (arith, place_none is_end chunk none)) in
      subst (λ y. At task q line' standing ended y) (sym is)
      (record {
        state = same ∙ a.state;
        number = number ∙ a.number;
        kept = rw size (line_so a ∙ ap (λ s. take 262145 (x.replaying.line ++ s)) before);
        grounds = λ audit goes. ap (λ g. kept_in g standing ended) grounds ∙ a.grounds audit (sym going ∙ goes);
      })

  pub fed_line : b ≡ true → {q : Place} {line'' standing' ended' : List ℕ} → q.state ≡ (step_line p.state p.number (read_line (take used line'))).state → q.number ≡ p.number + 1 → q.used ≡ 0 → KeptOn task p q standing ended standing' ended' (take used line') → {x : Auditing} → At task p line standing ended x → At task q line'' standing' ended' (fed (inquiry_of task) x (take eaten chunk))
  fed_line e {q} {line''} {standing'} {ended'} stepped number size on {x} a =
      let some = sym t.whole ∙ e in
      let is : fed (inquiry_of task) x (take eaten chunk) ≡ answered (inquiry_of task) (line_of x (x.replaying.line ++ before_end chunk)) = ap (λ n. fed (inquiry_of task) x (take n chunk)) (rw e at t.read) ∙ fed_whole (inquiry_of task) x chunk some in
      let read : read_line (take used line') ≡ read_line (x.replaying.line ++ before_end chunk) = ap read_line (line_so a) ∙ cut_reads (x.replaying.line ++ before_end chunk) in
      subst (λ y. At task q line'' standing' ended' y) (sym is)
      (answered_at task p q standing ended standing' ended' (take used line') stepped number size on (line_of x (x.replaying.line ++ before_end chunk)) a.state a.number a.grounds read)

-- ---- the end of the input
module _ (task : Task) {p : Place} {line standing ended₀ : List ℕ} {x : Auditing} (long : 262145 ≤ length line) (a : At task p line standing ended₀ x) where
  pub ended_none : p.used ≡ 0 → At task p line standing ended₀ (ended (inquiry_of task) x)
  unfolding ended
  ended_none e =
      let none : length x.replaying.line ≡ 0 = omega (arith, ap length a.kept, length-take 262145 x.replaying.line, length-take p.used line) in
      rw (eq-eqb (length x.replaying.line) 0 none) a

  pub ended_some : p.used ≤ 262145 → (p.used ≡ 0 → ⊥) → {r : Place} {line' standing' ended' : List ℕ} → r.state ≡ (step_line p.state p.number (read_line (take p.used line))).state → r.number ≡ p.number + 1 → r.used ≡ 0 → KeptOn task p r standing ended₀ standing' ended' (take p.used line) → At task r line' standing' ended' (ended (inquiry_of task) x)
  unfolding ended
  ended_some few d {r} {line'} {standing'} {ended'} stepped number size on =
      let some : length x.replaying.line ≡ 0 → ⊥ = λ e. d (omega (arith, e, ap length a.kept, length-take 262145 x.replaying.line, length-take p.used line)) in
      let read : read_line (take p.used line) ≡ read_line x.replaying.line = ap read_line a.kept ∙ cut_reads x.replaying.line in
      rw (ne_eqb (length x.replaying.line) 0 some) (answered_at task p r standing ended₀ standing' ended' (take p.used line) stepped number size on x a.state a.number a.grounds read)

-- ---- "Before the first setup the coordinator is the one that a refused setup leaves"
pub begun_so : (started [] []).state ≡ fresh nothing
unfolding started ids_in luns_in parts
begun_so = split (accepted [] []) (λ e. rw e refl) (λ e. rw e refl)

-- something is read of a chunk that has something, and no more than there is
pub some_read : (old chunk : List ℕ) (b : Bool) (eaten : ℕ) (line : List ℕ) (used : ℕ) → TookIn old chunk b eaten line used → 1 ≤ length chunk → (1 ≤ eaten) × (eaten ≤ length chunk)
some_read old chunk b eaten line used t h = go b t.whole t.read
  where
    go : (b : Bool) → b ≡ any is_end chunk → eaten ≡ cond b (place_of is_end chunk + 1) (length chunk) → (1 ≤ eaten) × (eaten ≤ length chunk)
    go true e r = (omega (arith, r), omega (arith, r, place_some is_end chunk (sym e)))
    go false e r = (omega (arith, r, h), omega (arith, r))

-- ---- a chunk, part after part: where the program is, the rest of the chunk leads on to where all of it leads
pub record Reached (task : Task) (q : Place) (line standing ended₀ rest : List ℕ) (whole : Auditing) : Type 0 where
  pub here : Auditing
  pub at : At task q line standing ended₀ here
  pub on : fed (inquiry_of task) here rest ≡ whole

module _ {task : Task} {q : Place} {line standing ended₀ : List ℕ} where
  pub reached_next : {q' : Place} {line' standing' ended' rest : List ℕ} {whole : Auditing} (n : ℕ) → (r : Reached task q line standing ended₀ rest whole) → At task q' line' standing' ended' (fed (inquiry_of task) r.here (take n rest)) → Reached task q' line' standing' ended' (take (length rest - n) (drop n rest)) whole
  reached_next {rest = rest} n r a =
      let i = inquiry_of task in
      let all : take (length rest - n) (drop n rest) ≡ drop n rest = take_all (length rest - n) (drop n rest) (omega (arith, length-drop n rest)) in
      record {
        here = fed i r.here (take n rest);
        at = a;
        on = ap (fed i (fed i r.here (take n rest))) all ∙ sym (fed_append i r.here (take n rest) (drop n rest)) ∙ ap (fed i r.here) (take-append-drop n rest) ∙ r.on;
      }

  pub reached_last : {rest : List ℕ} {whole : Auditing} → length rest ≡ 0 → Reached task q line standing ended₀ rest whole → At task q line standing ended₀ whole
  unfolding fed
  reached_last {rest} e r = subst (λ y. At task q line standing ended₀ y) (ap (fed (inquiry_of task) r.here) (sym (nil_from_length rest e)) ∙ r.on) r.at
