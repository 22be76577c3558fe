-- "Freed room is used: a request with a usable number never gets 55h/05h while tokens issued less tokens ended is under 32."; and ASSIGN gets it "exactly when 32 proxy LUNs stand".
use Prim.Native.Nat.{ℕ, ◌≤◌, ◌<◌}
use mathlib.Core.Path.{◌≡◌, refl, ap, sym, ◌∙◌}
use mathlib.Core.Bool.{Bool, true, false, cond, not, ◌&&◌, ◌||◌}
use mathlib.Core.Bool as Bool
use mathlib.Core.List.{List, [], ◌∷◌, ◌++◌}
use Rattle.std.specs.Prelude.{Option, Some, None}
use mathlib.Core.Logic.{◌↔◌, ⊎_elim}
use native.Mathlib.Omega.{arith}
use lib.ListN.{length}
use lib.Dec.{eqb, leb, ltb}
use borrow.Author.Tests.{not-true, not-false, leb-true, le-leb, le-ltb, lt-leb, eq-eqb}
use Rattle.lists.specs.Lists.{◌∈◌, any, keep, gather, is_some}
use Rattle.lists.specs.Bytes.{be, be_bytes}
use Rattle.lists.proofs.Tests.{split, and_true, or_false}
use Rattle.lists.proofs.Bytes.{bytes_length}
use Rattle.lists.proofs.Members.{in_cons, from_gather, none_any, any_append, any_map, find_any}
use Rattle.wire.specs.Lun.{lun_form}
use Rattle.paper.specs.Setup.{Setup}
use Rattle.paper.specs.Grounds.{is_ta}
use Rattle.paper.specs.Contents.{Enrolment, not_enrolled, enrolled, pending, held}
use Rattle.paper.specs.Tables.{units_of, transport_of, enrolment_of, aces_of, tokens_of, proxies_of}
use Rattle.paper.specs.Rows.{content_for, row_at, transport_rows, enrolment_rows, token_for, proxy_row, owned_by, row_of_proxy, proxy_rows, rows_of, has_lun, row_with, pending_has}
use Rattle.paper.specs.Orders.{Order, request_token, assign, order, service_action, length_field, operation, exactly, read_in, read_out, reading_of}
use Rattle.paper.specs.Effects.{Effect, issued, assigned, tokening, proxying}
use Rattle.paper.specs.InForce.{in_force, effects}
use Rattle.paper.specs.Commands.{Verdict, fails, passes, failing, request_tests, assign_tests, tests}
use Rattle.paper.specs.Outcomes.{Decision, refuse, check, good, judged, in_room, reply_to, decide_order, decide_reading, owed, decide_command}
use Rattle.paper.specs.Readings.{History, is_on, enrolment, given_to, enrolled_under, given_by_t, given_by_a, at_lun, place_named, token, issued_less_ended, usable}
use Rattle.paper.specs.Reports.{reach_rows}
use Rattle.paper.proofs.Stood.{stood, counted}
use Rattle.paper.proofs.TableCounts.{Counts}
use Rattle.paper.proofs.ProxyCount.{is_x, x_rows_count}
use Rattle.paper.proofs.Invariant.{Holds}
use Rattle.paper.proofs.Given.{holds_given, transport_given}
use Rattle.paper.proofs.GroundRows.{rows_on}
use Rattle.paper.proofs.OnlyWhileOn.{place_on}
use Rattle.paper.proofs.RowsStand.{initiators}
use Rattle.paper.specs.declared.state.Ground.TheVariants.{GroundA, GroundT, GroundW}
use Rattle.paper.specs.declared.state.IdType.TheVariants.{AccessId, TransportId}
use Rattle.paper.specs.declared.state.Token.{Token}
use Rattle.paper.specs.declared.state.ProxyLun.{ProxyLun}
use Rattle.paper.specs.declared.state.Row.{Row}
use Rattle.paper.specs.declared.state.Coordinator.{Coordinator}
use Rattle.paper.specs.declared.answers.Refusal.TheVariants.{ShortBuffer}
use Rattle.paper.specs.declared.answers.Condition.{Condition}
use Rattle.paper.specs.declared.answers.Condition.TheVariants.{PendingEnrolled, BadLun, DeadToken, NoRoom}

-- "the LUN must open by a T or A row"
abbrev by_ta : ℕ → Row → Bool
by_ta l r = is_ta r.ground && has_lun l r

any_never : {A : Type 0} (l : List A) → any (λ x. false) l ≡ false
any_never l = none_any (λ x. false) l (λ x m. refl)

-- a CDB that requests a token by naming a LUN: "LUN there in REQUEST PROXY TOKEN, allocation length in 10-13", and not "under 8"
pub record Requests (cdb : List ℕ) (l : ℕ) : Type 0 where
  pub size : length cdb ≡ 16
  pub opcode : operation cdb ≡ 0x86
  pub action : service_action cdb ≡ 0x04
  pub lun : be 8 cdb 2 ≡ l
  pub allocation : 8 ≤ length_field cdb

-- a CDB and a parameter list that assign a proxy LUN: "16 (09h, token then LUN)"
pub record Assigns (cdb list : List ℕ) (n l : ℕ) : Type 0 where
  pub size : length cdb ≡ 16
  pub opcode : operation cdb ≡ 0x87
  pub action : service_action cdb ≡ 0x09
  pub told : length_field cdb ≡ 16
  pub given : length list ≡ 16
  pub number : be 8 list 0 ≡ n
  pub lun : be 8 list 8 ≡ l

-- these are read as the orders that they give
pub read_request_lem : {cdb : List ℕ} {l : ℕ} → Requests cdb l → reading_of cdb [] ≡ order (request_token l)
unfolding reading_of read_in
read_request_lem {cdb} k = rw (k.opcode, k.action, le-ltb (length_field cdb) 8 k.allocation, k.lun)

pub read_assign : {cdb list : List ℕ} {n l : ℕ} → Assigns cdb list n l → reading_of cdb list ≡ order (assign n l)
unfolding reading_of read_out exactly
read_assign k = rw (k.opcode, k.action, k.given, k.number, k.lun)

-- a CHECK CONDITION is the answer where a test fails with it, and nowhere else, whatever buffer is lent
check_fails : (room : ℕ) (v : Verdict) (es : List Effect) (bytes : List ℕ) (k : Condition) → in_room room (judged v (good es bytes)) ≡ check k → v ≡ fails k
check_fails room (fails x) es bytes k q = let same : x ≡ k = cc in ap fails same
check_fails room passes es bytes k q = absurd (delivered (ltb room (length bytes)) q)
  where
    delivered : (b : Bool) → cond b (refuse ShortBuffer) (good es bytes) ≡ check k → ⊥
    delivered true p = let z : ◌≡◌ {A = ℕ} 0 1 = cc in omega arith
    delivered false p = let z : ◌≡◌ {A = ℕ} 0 1 = cc in omega arith

-- tests that pass fail with nothing
passes_not : {k : Condition} → passes ≡ fails k → ⊥
passes_not e = let z : ◌≡◌ {A = ℕ} 0 1 = cc in omega arith

-- ---- a command whose bytes are read as an order, of an initiator that is there: the order in force decides
ordered : (w : Setup) (h : History) (c : Coordinator) → Holds w h c → (on : Bool) → is_on h ≡ on → (i : ℕ) → i < length w.transports → (cdb list : List ℕ) (random room : ℕ) (o : Order) → length cdb ≡ 16 → length list ≡ owed cdb → reading_of cdb list ≡ order o → decide_command c i cdb list random room ≡ in_room room (decide_order c i random (in_force on o))
unfolding decide_command decide_reading
ordered w h c holds on e i n cdb list random room o size owes read =
    let within : i < c.initiators.count = omega (arith, n, initiators w h c holds) in
    let decided : decide_reading c i random (reading_of cdb list) ≡ decide_order c i random (in_force on o) = ap (decide_reading c i random) read ∙ ap (λ b. decide_order c i random (in_force b o)) (holds.agrees.on ∙ e) in
    rw (holds.stands, lt-leb c.initiators.count i within, eq-eqb (length cdb) 16 size, eq-eqb (length list) (owed cdb) owes, decided)

either : {a b x y : Bool} → a ≡ x → b ≡ y → a || b ≡ x || y
either p q = rw (p, q)

module _ (w : Setup) (h : History) (c : Coordinator) (holds : Holds w h c) (i l : ℕ) where
  -- ---- the T and A rows are what the TransportID's and the enrolled AccessID's pages give; W and X rows do not count
  any_t : i < length w.transports → any (by_ta l) (transport_rows c i) ≡ any (at_lun l) (given_by_t w h i)
  unfolding transport_rows
  any_t n =
      any_map (row_at i GroundT) (by_ta l) (held (units_of c) (content_for (aces_of c) TransportId (transport_of c i)))
      ∙ ap (any (at_lun l)) (transport_given w h c holds.agrees i (omega (arith, n, initiators w h c holds)))

  any_a : (e : Enrolment) → any (by_ta l) (enrolment_rows c i e) ≡ any (at_lun l) (given_to w h AccessId (enrolled_under e))
  unfolding enrolment_rows
  any_a not_enrolled = refl
  any_a (enrolled id) =
      any_map (row_at i GroundA) (by_ta l) (held (units_of c) (content_for (aces_of c) AccessId id))
      ∙ ap (any (at_lun l)) (holds_given w h c holds.agrees AccessId id)
  any_a (pending id) =
      any_map (row_at i GroundW) (by_ta l) (held (units_of c) (content_for (aces_of c) AccessId id))
      ∙ any_never (held (units_of c) (content_for (aces_of c) AccessId id))

  any_x : any (by_ta l) (proxy_rows c i) ≡ false
  unfolding proxy_rows
  any_x =
      none_any (by_ta l) (gather (row_of_proxy (tokens_of c)) (keep (owned_by i) (proxies_of c)))
      (λ r m.
      let (p, k, g) = from_gather (row_of_proxy (tokens_of c)) (keep (owned_by i) (proxies_of c)) m in
      by r p (token_for (tokens_of c) p.token) g)
    where
      by : (r : Row) (p : ProxyLun) (o : Option Token) → r ∈ proxy_row p o → by_ta l r ≡ false
      by r p None m = elim m [ ]
      by r p (Some t) m = ⊎_elim (λ e. ap (by_ta l) e) (λ j. elim j [ ]) (in_cons m)

  any_awx : any (by_ta l) (enrolment_rows c i (enrolment_of c i) ++ proxy_rows c i) ≡ any (at_lun l) (given_by_a w h i)
  any_awx =
      any_append (by_ta l) (enrolment_rows c i (enrolment_of c i)) (proxy_rows c i)
      ∙ (ap (λ b. any (by_ta l) (enrolment_rows c i (enrolment_of c i)) || b) any_x
      ∙ (Bool.or-false (any (by_ta l) (enrolment_rows c i (enrolment_of c i)))
      ∙ (ap (λ e. any (by_ta l) (enrolment_rows c i e)) (holds.agrees.enrolments i)
      ∙ any_a (enrolment h i))))

  -- so the LUN opens by a T or A row exactly when the history has a place that it names
  pub opens_named : is_on h ≡ true → i < length w.transports → is_some (row_with is_ta l (rows_of c i)) ≡ is_some (place_named w h i l)
  unfolding row_with place_named
  opens_named on n =
      find_any (by_ta l) (rows_of c i)
      ∙ (ap (any (by_ta l)) (rows_on c i (holds.agrees.on ∙ on))
      ∙ (any_append (by_ta l) (transport_rows c i) (enrolment_rows c i (enrolment_of c i) ++ proxy_rows c i)
      ∙ (either (any_t n) any_awx
      ∙ (sym (any_append (at_lun l) (given_by_t w h i) (given_by_a w h i))
      ∙ sym (find_any (at_lun l) (given_by_t w h i ++ given_by_a w h i))))))

  -- ---- "a request with a usable number never gets 55h/05h while tokens issued less tokens ended is under 32": with a LUN that opens, it passes. The table's count is the number of its entries in use in every state of a run (TableCounts)
  pub request_room : is_on h ≡ true → i < length w.transports → c.tokens.count ≡ length (tokens_of c) → (random : ℕ) → is_some (place_named w h i l) ≡ true → usable w h random ≡ true → issued_less_ended w h < 32 → request_tests c i l random ≡ passes
  unfolding request_tests
  request_room on n sized random there u room =
      let (nonzero, free) = and_true (not (eqb random 0)) (not (is_some (token w h random))) u in
      let opened : is_some (row_with is_ta l (rows_of c i)) ≡ true = opens_named on n ∙ there in
      let few : c.tokens.count < 32 = omega (arith, sized, ap length holds.agrees.live, room) in
      let dead : is_some (token_for (tokens_of c) random) ≡ false = ap is_some (holds.agrees.tokens random) ∙ not-true (is_some (token w h random)) free in
      rw (opened, lt-leb 32 c.tokens.count few, not-true (eqb random 0) nonzero, dead)

  -- ---- the command itself
  -- GOOD of a request: the number is issued, and its eight bytes are delivered
  abbrev granting : ℕ → Decision
  granting random = good (tokening (issued i l random) ∷ []) (be_bytes 8 random)

  -- what a request's bytes are decided to be, while access controls are on or off
  asked : (on : Bool) → is_on h ≡ on → i < length w.transports → (cdb : List ℕ) (random room : ℕ) → Requests cdb l → decide_command c i cdb [] random room ≡ in_room room (decide_order c i random (in_force on (request_token l)))
  asked on e n cdb random room k =
      ordered w h c holds on e i n cdb [] random room (request_token l) k.size (rw k.opcode) (read_request_lem k)

  -- while they are on, its tests decide
  asked_on : is_on h ≡ true → i < length w.transports → (cdb : List ℕ) (random room : ℕ) → Requests cdb l → decide_command c i cdb [] random room ≡ in_room room (judged (request_tests c i l random) (granting random))
  unfolding decide_order in_force tests effects reply_to
  asked_on on n cdb random room k = asked true on n cdb random room k

  -- "IN 04h is GOOD with 0 bytes" while access controls are off
  asked_off : is_on h ≡ false → i < length w.transports → (cdb : List ℕ) (random room : ℕ) → Requests cdb l → decide_command c i cdb [] random room ≡ in_room room (good [] [])
  unfolding decide_order in_force tests effects reply_to
  asked_off off n cdb random room k = asked false off n cdb random room k

  -- REQUEST PROXY TOKEN is GOOD. A LUN names a place only while access controls are on
  pub request_good : i < length w.transports → c.tokens.count ≡ length (tokens_of c) → (cdb : List ℕ) (random room : ℕ) → Requests cdb l → 8 ≤ room → is_some (place_named w h i l) ≡ true → usable w h random ≡ true → issued_less_ended w h < 32 → decide_command c i cdb [] random room ≡ good (tokening (issued i l random) ∷ []) (be_bytes 8 random)
  request_good n sized cdb random room k lent there u free =
      let on = place_on w h c holds i l there in
      asked_on on n cdb random room k
      ∙ (ap (λ v. in_room room (judged v (granting random))) (request_room on n sized random there u free)
      ∙ rw (bytes_length 8 random, le-ltb room 8 lent))

  -- ---- whether or not the LUN opens anything, whatever buffer is lent, and whether access controls are on or off, 55h/05h is not the answer
  never_full : is_on h ≡ true → i < length w.transports → c.tokens.count ≡ length (tokens_of c) → (random : ℕ) → usable w h random ≡ true → issued_less_ended w h < 32 → request_tests c i l random ≡ fails NoRoom → ⊥
  unfolding request_tests
  never_full on n sized random u room q =
      split (is_some (place_named w h i l))
      (λ there. passes_not (sym (request_room on n sized random there u room) ∙ q))
      (λ absent. closed (opens_named on n ∙ absent))
    where
      closed : is_some (row_with is_ta l (rows_of c i)) ≡ false → ⊥
      closed e = other (pending_has l (rows_of c i)) (rw e at q)
        where
          other : (b : Bool) → ◌≡◌ {A = Verdict} (fails (cond b PendingEnrolled BadLun)) (fails NoRoom) → ⊥
          other true p = let z : ◌≡◌ {A = ℕ} 0 1 = cc in omega arith
          other false p = let z : ◌≡◌ {A = ℕ} 0 1 = cc in omega arith

  pub never_answers_full : i < length w.transports → c.tokens.count ≡ length (tokens_of c) → (cdb : List ℕ) (random room : ℕ) → Requests cdb l → usable w h random ≡ true → issued_less_ended w h < 32 → decide_command c i cdb [] random room ≡ check NoRoom → ⊥
  never_answers_full n sized cdb random room k u free q =
      split (is_on h)
      (λ on.
      never_full on n sized random u free
      (check_fails room (request_tests c i l random) (tokening (issued i l random) ∷ []) (be_bytes 8 random) NoRoom (sym (asked_on on n cdb random room k) ∙ q)))
      (λ off. passes_not (check_fails room passes [] [] NoRoom (sym (asked_off off n cdb random room k) ∙ q)))

-- ---- "ASSIGN checks 20h/0Ah; 20h/09h (form, or any row of the caller has the LUN); 55h/05h exactly when 32 proxy LUNs stand."
abbrev assigning : Bool → Bool → Bool → Verdict
assigning live bad full = failing (not live) DeadToken (failing bad BadLun (failing full NoRoom passes))

full_only : (live bad full : Bool) → assigning live bad full ≡ fails NoRoom → (live ≡ true) × (bad ≡ false) × (full ≡ true)
full_only false bad full q = absurd (let z : ◌≡◌ {A = ℕ} 0 1 = cc in omega arith)
full_only true true full q = absurd (let z : ◌≡◌ {A = ℕ} 0 1 = cc in omega arith)
full_only true false true q = (refl, refl, refl)
full_only true false false q = absurd (let z : ◌≡◌ {A = ℕ} 0 1 = cc in omega arith)

assign_room : (w : Setup) (h : History) (c : Coordinator) → Holds w h c → (i n l : ℕ) → (assign_tests c i n l ≡ fails NoRoom) ↔ ((is_some (token w h n) ≡ true) × (lun_form l ≡ true) × (any (has_lun l) (rows_of c i) ≡ false) × (32 ≤ c.proxies.count))
unfolding assign_tests
assign_room w h c holds i n l = (
  λ q.
      let (live, bad, full) = full_only (is_some (token_for (tokens_of c) n)) (not (lun_form l) || any (has_lun l) (rows_of c i)) (leb 32 c.proxies.count) q in
      let (form, free) = or_false (not (lun_form l)) (any (has_lun l) (rows_of c i)) bad in
      (ap is_some (sym (holds.agrees.tokens n)) ∙ live, not-false (lun_form l) form, free, leb-true 32 c.proxies.count full),
  λ k. rw (ap is_some (holds.agrees.tokens n) ∙ k.0, k.1, k.2, le-leb 32 c.proxies.count k.3),
)

-- with the X rows of the list for the proxy LUNs that stand, of which there are never more than 32
assign_full : (w : Setup) (h : History) (c : Coordinator) → Holds w h c → Counts c → (i n l : ℕ) → (assign_tests c i n l ≡ fails NoRoom) ↔ ((is_some (token w h n) ≡ true) × (lun_form l ≡ true) × (any (has_lun l) (rows_of c i) ≡ false) × (length (keep is_x (reach_rows c)) ≡ 32))
assign_full w h c holds s i n l =
    let most = (counted c (stood c holds.stands).counts).few_proxies in
    let same : c.proxies.count ≡ length (keep is_x (reach_rows c)) = s.proxies ∙ sym (x_rows_count c holds.stands) in
    let room = assign_room w h c holds i n l in (
      λ q. let (live, form, free, full) = room.0 q in (live, form, free, omega (arith, most, same, full)),
      λ k. room.1 (k.0, k.1, k.2, omega (arith, same, k.3)),
    )

-- "09h is 20h/0Ah" while access controls are off: it stays in force, and finds no live token
assign_in_force : (on : Bool) (n l : ℕ) → in_force on (assign n l) ≡ assign n l
unfolding in_force
assign_in_force true n l = refl
assign_in_force false n l = refl

-- of the answer to the command, whether access controls are on or off
pub assign_answers_full : (w : Setup) (h : History) (c : Coordinator) → Holds w h c → Counts c → (i n l : ℕ) → i < length w.transports → (cdb list : List ℕ) (random room : ℕ) → Assigns cdb list n l → (decide_command c i cdb list random room ≡ check NoRoom) ↔ ((is_some (token w h n) ≡ true) × (lun_form l ≡ true) × (any (has_lun l) (rows_of c i) ≡ false) × (length (keep is_x (reach_rows c)) ≡ 32))
unfolding decide_order tests effects reply_to
assign_answers_full w h c holds s i n l there cdb list random room k =
    let full = assign_full w h c holds s i n l in
    let tested : decide_command c i cdb list random room ≡ in_room room (judged (assign_tests c i n l) (good (proxying (assigned i l n) ∷ []) [])) =
    ordered w h c holds (is_on h) refl i there cdb list random room (assign n l) k.size (rw (k.opcode, k.told, k.given)) (read_assign k)
    ∙ ap (λ o. in_room room (decide_order c i random o)) (assign_in_force (is_on h) n l)
    in (
      λ q. full.0 (check_fails room (assign_tests c i n l) (proxying (assigned i l n) ∷ []) [] NoRoom (sym tested ∙ q)),
      λ r. tested ∙ ap (λ v. in_room room (judged v (good (proxying (assigned i l n) ∷ []) []))) (full.1 r),
    )
