-- Each exit of a function that reads is a case of its definition: a word that is at fault, or what is said.
use Prim.Native.Nat.{ℕ, ◌-◌, ◌<◌, ◌≤◌}
use mathlib.Core.List.{List}
use mathlib.Core.Bool.{Bool, true, false, not, ◌||◌}
use mathlib.Core.Path.{◌≡◌, refl, sym, ap, ap₂, subst, ◌∙◌}
use native.Mathlib.Omega.{arith}
use borrow.Author.Tests.{leb-true, eqb-true, eq-eqb, ne_eqb, lt-ltb, le-ltb}
use lib.ListN.{length, get_or, take}
use lib.Seq.{take_all}
use lib.Dec.{eqb, leb}
use lib.Pointwise.{pointwise}
use Rattle.std.specs.Prelude.{Option, Result, Ok, Err, IfOk, IfErr, IsErrAnd}
use Rattle.std.specs.Bool.{then_some}
use Rattle.std.specs.Option.{ok_or}
use Rattle.std.specs.Cmp.{unsigned_Decides}
use Rattle.std.proofs.lemmas.Slice.Eq.{slice_eq-Decides}
use Rattle.lists.specs.Bytes.{same_bytes}
use Rattle.lists.proofs.Bytes.{same_refl, same_take}
use Rattle.lists.proofs.Tests.{and_true, same_test, split}
use Rattle.journal.specs.Words.{next_word, rest_of, has_word}
use Rattle.journal.specs.Kinds.{is_bytes, bytes_of, is_list, is_number, is_buffer, decimal_of, is_digits, digits_of}
use Rattle.journal.specs.Statements.{setup, command, link, route, reach, Line, skipped, said, too_long, expected, read_setup, read_lent, read_list, read_command, read_link, read_route, read_reach, is_word, setup_word, command_word, link_word, route_word, reach_word, read_statement, without_cr, read_kept, read_line}
use Rattle.journal.specs.Parsed.{line_of, Reads}
use Rattle.journal.specs.declared.statement.Kind.TheVariants.{Keyword, Bytes, ByteList, Number, Buffer, Digits, End}
use Rattle.journal.specs.declared.statement.Fault.{Fault}
use Rattle.journal.specs.declared.statement.Parsed.{Parsed}
use Rattle.journal.specs.declared.statement.Parsed.TheVariants.{Setup}
use Rattle.journal.specs.declared.statement.ReadLine.{ReadLine}
use Rattle.journal.proofs.Lengths.{bytes_fit, next_fit}

-- ---- a test of a word that the code cut out is the test of the word in the line
abbrev pub ended : List ℕ → Bool
ended s = not (has_word s)

module _ {A : Type 0} (p : List ℕ → Bool) (val : List ℕ → A) {o : Option A} {w u : List ℕ} (g : Fault) {q : Result A Fault} (is : w ≡ u) (e : o ≡ then_some (p w) (val w)) (h : q ≡ ok_or o g) where
  asked : q ≡ ok_or (then_some (p u) (val u)) g
  asked = h ∙ ap (λ x. ok_or x g) (e ∙ ap (λ x. then_some (p x) (val x)) is)

  pub unfit : {f : Fault} → q ≡ Err f → (p u ≡ false) × (f ≡ g)
  unfit {f} k =
      split
      (p u)
      (λ t. let z : ◌≡◌ {A = Result A Fault} (Ok (val u)) (Err f) = sym (rw t at asked) ∙ k in absurd cc)
      (λ t. let z : ◌≡◌ {A = Result A Fault} (Err g) (Err f) = sym (rw t at asked) ∙ k in (t, cc))

  pub fit : {x : A} → q ≡ Ok x → (p u ≡ true) × (x ≡ val u)
  fit {x} k =
      split
      (p u)
      (λ t. let z : ◌≡◌ {A = Result A Fault} (Ok (val u)) (Ok x) = sym (rw t at asked) ∙ k in (t, cc))
      (λ t. let z : ◌≡◌ {A = Result A Fault} (Err g) (Ok x) = sym (rw t at asked) ∙ k in absurd cc)

-- what `needs` is asked, where the code has the test's answer
pub tested : {b d : Bool} → b ≡ d → then_some b (tt {0}) ≡ then_some d (tt {0})
tested e = ap (λ b. then_some b (tt {0})) e

-- a fault is handed on as it is
pub handed : {T : Type 0} (r : Result T Fault) {f g : Fault} {line : Line} → IsErrAnd r (λ e. e ≡ f) → f ≡ g → expected g.word g.expected ≡ line → IfErr r (λ e. expected e.word e.expected ≡ line)
handed (Ok x) h e k = absurd h
handed (Err x) h e k = ap (λ (f : Fault). expected f.word f.expected) (h ∙ e) ∙ k

pub handed_any : {T : Type 0} (r : Result T Fault) {f g : Fault} {line : List ℕ → List ℕ → Line} → IsErrAnd r (λ e. e ≡ f) → f ≡ g → ((a b : List ℕ) → expected g.word g.expected ≡ line a b) → IfErr r (λ e. (a b : List ℕ) → expected e.word e.expected ≡ line a b)
handed_any (Ok x) h e k = absurd h
handed_any (Err x) h e k = λ a b. ap (λ (f : Fault). expected f.word f.expected) (h ∙ e) ∙ k a b

-- the line that is read is the same by another name
pub ok_so : (r : Result ReadLine Fault) (first second : List ℕ) {line other : Line} → line ≡ other → IfOk r (λ q. Reads q first second line) → IfOk r (λ q. Reads q first second other)
ok_so r first second e h = subst (λ l. IfOk r (λ q. Reads q first second l)) e h

pub err_so : {T : Type 0} (r : Result T Fault) {line other : Line} → line ≡ other → IfErr r (λ f. expected f.word f.expected ≡ line) → IfErr r (λ f. expected f.word f.expected ≡ other)
err_so r e h = subst (λ l. IfErr r (λ f. expected f.word f.expected ≡ l)) e h

-- ---- the kinds that have a limit
pub list_fits : (w : List ℕ) → is_list w ≡ true → (is_bytes w ≡ true) × (length (bytes_of w) ≤ 65536)
unfolding is_list
list_fits w h = let b = and_true (is_bytes w) (leb (length (bytes_of w)) 65536) h in (b.0, leb-true (length (bytes_of w)) 65536 b.1)

-- ---- the statements without byte strings
module _ (s : List ℕ) where
  pub link_number : is_number (next_word s) ≡ false → expected 2 Number ≡ read_link s
  unfolding read_link
  link_number h = rw h

  pub reach_buffer : is_buffer (next_word s) ≡ false → expected 2 Buffer ≡ read_reach s
  unfolding read_reach
  reach_buffer h = rw h

  module _ (h : is_number (next_word s) ≡ true) where
    pub link_end : ended (rest_of s) ≡ false → expected 3 End ≡ read_link s
    unfolding read_link
    link_end l = rw (h, l)

    pub link_said : {i : ℕ} → ended (rest_of s) ≡ true → i ≡ decimal_of (next_word s) → said (link i) ≡ read_link s
    unfolding read_link
    link_said l e = rw (h, l) (ap (λ i. said (link i)) e)

  module _ (h : is_buffer (next_word s) ≡ true) where
    pub reach_end : ended (rest_of s) ≡ false → expected 3 End ≡ read_reach s
    unfolding read_reach
    reach_end l = rw (h, l)

    pub reach_said : {n : ℕ} → ended (rest_of s) ≡ true → n ≡ decimal_of (next_word s) → said (reach n) ≡ read_reach s
    unfolding read_reach
    reach_said l e = rw (h, l) (ap (λ n. said (reach n)) e)

module _ (s : List ℕ) where
  pub route_number : is_number (next_word s) ≡ false → expected 2 Number ≡ read_route s
  unfolding read_route
  route_number h = rw h

  module _ (h : is_number (next_word s) ≡ true) where
    pub route_digits : is_digits (next_word (rest_of s)) ≡ false → expected 3 Digits ≡ read_route s
    unfolding read_route
    route_digits k = rw (h, k)

    module _ (k : is_digits (next_word (rest_of s)) ≡ true) where
      pub route_end : ended (rest_of (rest_of s)) ≡ false → expected 4 End ≡ read_route s
      unfolding read_route
      route_end l = rw (h, k, l)

      pub route_said : {i n : ℕ} → ended (rest_of (rest_of s)) ≡ true → i ≡ decimal_of (next_word s) → n ≡ digits_of (next_word (rest_of s)) → said (route i n) ≡ read_route s
      unfolding read_route
      route_said l e f = rw (h, k, l) (ap₂ (λ i n. said (route i n)) e f)

-- ---- RANDOM and BUFFER
module _ (i : ℕ) (a b s : List ℕ) where
  pub lent_digits : is_digits (next_word s) ≡ false → expected 5 Digits ≡ read_lent i a b s
  unfolding read_lent
  lent_digits h = rw h

  module _ (h : is_digits (next_word s) ≡ true) where
    pub lent_buffer : is_buffer (next_word (rest_of s)) ≡ false → expected 6 Buffer ≡ read_lent i a b s
    unfolding read_lent
    lent_buffer k = rw (h, k)

    module _ (k : is_buffer (next_word (rest_of s)) ≡ true) where
      pub lent_end : ended (rest_of (rest_of s)) ≡ false → expected 7 End ≡ read_lent i a b s
      unfolding read_lent
      lent_end l = rw (h, k, l)

      pub lent_said : {r n : ℕ} → ended (rest_of (rest_of s)) ≡ true → r ≡ digits_of (next_word s) → n ≡ decimal_of (next_word (rest_of s)) → said (command i a b r n) ≡ read_lent i a b s
      unfolding read_lent
      lent_said l e f = rw (h, k, l) (ap₂ (λ r n. said (command i a b r n)) e f)

-- ---- what has no byte strings leaves the buffers as they are
module _ {r : ReadLine} {p : Parsed} (e : (r.parsed ≡ p) × (r.first ≡ 0) × (r.second ≡ 0)) where
  pub read_plainly : {first second : List ℕ} {line : Line} → ((a b : List ℕ) → line_of p a b ≡ line) → Reads r first second line
  read_plainly {first} {second} f =
      record { is = ap (λ q. line_of q (take r.first first) (take r.second second)) e.0 ∙ f (take r.first first) (take r.second second); first_fits = omega (arith, e.1); second_fits = omega (arith, e.2) }

pub reads_so : {r : ReadLine} {first second : List ℕ} {line other : Line} → line ≡ other → Reads r first second line → Reads r first second other
reads_so {r} {first} {second} e h = subst (λ l. Reads r first second l) e h

-- ---- what has them
module _ (s : List ℕ) where
  pub setup_first : is_bytes (next_word s) ≡ false → expected 2 Bytes ≡ read_setup s
  unfolding read_setup
  setup_first h = rw h

  module _ (h : is_bytes (next_word s) ≡ true) where
    pub setup_second : is_bytes (next_word (rest_of s)) ≡ false → expected 3 Bytes ≡ read_setup s
    unfolding read_setup
    setup_second k = rw (h, k)

    module _ (k : is_bytes (next_word (rest_of s)) ≡ true) where
      pub setup_end : ended (rest_of (rest_of s)) ≡ false → expected 4 End ≡ read_setup s
      unfolding read_setup
      setup_end l = rw (h, k, l)

      setup_said : ended (rest_of (rest_of s)) ≡ true → said (setup (bytes_of (next_word s)) (bytes_of (next_word (rest_of s)))) ≡ read_setup s
      unfolding read_setup
      setup_said l = rw (h, k, l)

      pub setup_read : {n m : ℕ} {first second w v : List ℕ} → length s ≤ 262144 → ended (rest_of (rest_of s)) ≡ true → w ≡ next_word s → v ≡ next_word (rest_of s) → (n ≡ length (bytes_of w)) × (take n first ≡ bytes_of w) → (m ≡ length (bytes_of v)) × (take m second ≡ bytes_of v) → Reads (record { parsed = Setup; first = n; second = m }) first second (read_setup s)
      setup_read short l e f c d =
          record { is = ap₂ (λ a b. said (setup a b)) (c.1 ∙ ap bytes_of e) (d.1 ∙ ap bytes_of f) ∙ setup_said l; first_fits = omega (arith, c.0, ap (λ x. length (bytes_of x)) e, bytes_fit s short); second_fits = omega (arith, d.0, ap (λ x. length (bytes_of x)) f, next_fit s short) }

  pub command_number : is_number (next_word s) ≡ false → expected 2 Number ≡ read_command s
  unfolding read_command
  command_number h = rw h

  module _ (h : is_number (next_word s) ≡ true) where
    pub command_cdb : is_bytes (next_word (rest_of s)) ≡ false → expected 3 Bytes ≡ read_command s
    unfolding read_command
    command_cdb k = rw (h, k)

    module _ (k : is_bytes (next_word (rest_of s)) ≡ true) where
      pub command_list : is_list (next_word (rest_of (rest_of s))) ≡ false → expected 4 ByteList ≡ read_command s
      unfolding read_command read_list
      command_list l = rw (h, k, l)

      module _ (l : is_list (next_word (rest_of (rest_of s))) ≡ true) where
        pub command_lent : {i : ℕ} {t : List ℕ} → i ≡ decimal_of (next_word s) → t ≡ rest_of (rest_of (rest_of s)) → read_lent i (bytes_of (next_word (rest_of s))) (bytes_of (next_word (rest_of (rest_of s)))) t ≡ read_command s
        unfolding read_command read_list
        command_lent e f = rw (h, k, l) (ap₂ (λ i t. read_lent i (bytes_of (next_word (rest_of s))) (bytes_of (next_word (rest_of (rest_of s)))) t) e f)

        pub command_read : {p : Parsed} {i n m : ℕ} {first second w v t : List ℕ} → length s ≤ 262144 → i ≡ decimal_of (next_word s) → w ≡ next_word (rest_of s) → v ≡ next_word (rest_of (rest_of s)) → t ≡ rest_of (rest_of (rest_of s)) → (n ≡ length (bytes_of w)) × (take n first ≡ bytes_of w) → (m ≡ length (bytes_of v)) × (take m second ≡ bytes_of v) → ((a b : List ℕ) → line_of p a b ≡ read_lent i a b t) → Reads (record { parsed = p; first = n; second = m }) first second (read_command s)
        command_read {p} {i} {n} {m} {first} {second} {w} {v} {t} short e f g r c d reads =
            record {
              is = reads (take n first) (take m second) ∙ (ap₂ (λ a b. read_lent i a b t) (c.1 ∙ ap bytes_of f) (d.1 ∙ ap bytes_of g) ∙ command_lent e r);
              first_fits = omega (arith, c.0, ap (λ x. length (bytes_of x)) f, next_fit s short);
              second_fits = omega (arith, d.0, ap (λ x. length (bytes_of x)) g, (list_fits (next_word (rest_of (rest_of s))) l).1);
            }

-- ---- the first word
pub word_is : (w v : List ℕ) (r : Bool) → r ≡ pointwise eqb w v → r ≡ is_word w v
word_is w v r e =
    let d = slice_eq-Decides unsigned_Decides w v r e in
    same_test
    (λ t. let q : w ≡ v = d.0 t in rw q (rw (eq-eqb (length v) (length v) refl, same_refl (length v) v)))
    (λ t.
    let p = and_true (eqb (length w) (length v)) (same_bytes (length v) w v) t in
    let l = eqb-true (length w) (length v) p.0 in
    d.1 (sym (take_all (length v) w (omega (arith, l))) ∙ (same_take w v (length v) (omega (arith, l)) (omega arith) p.1 ∙ take_all (length v) v (omega arith))))

pub named : (v : List ℕ) {w u : List ℕ} {b t : Bool} → w ≡ u → b ≡ is_word w v → b ≡ t → is_word u v ≡ t
named v e f h = sym (f ∙ ap (λ w. is_word w v) e) ∙ h

module _ (s : List ℕ) where
  pub statement_setup : is_word (next_word s) setup_word ≡ true → read_setup (rest_of s) ≡ read_statement s
  unfolding read_statement
  statement_setup h = rw h

  module _ (h : is_word (next_word s) setup_word ≡ false) where
    pub statement_command : is_word (next_word s) command_word ≡ true → read_command (rest_of s) ≡ read_statement s
    unfolding read_statement
    statement_command k = rw (h, k)

    module _ (k : is_word (next_word s) command_word ≡ false) where
      pub statement_link : is_word (next_word s) link_word ≡ true → read_link (rest_of s) ≡ read_statement s
      unfolding read_statement
      statement_link l = rw (h, k, l)

      module _ (l : is_word (next_word s) link_word ≡ false) where
        pub statement_route : is_word (next_word s) route_word ≡ true → read_route (rest_of s) ≡ read_statement s
        unfolding read_statement
        statement_route m = rw (h, k, l, m)

        module _ (m : is_word (next_word s) route_word ≡ false) where
          pub statement_reach : is_word (next_word s) reach_word ≡ true → read_reach (rest_of s) ≡ read_statement s
          unfolding read_statement
          statement_reach n = rw (h, k, l, m, n)

          pub statement_none : is_word (next_word s) reach_word ≡ false → expected 1 Keyword ≡ read_statement s
          unfolding read_statement
          statement_none n = rw (h, k, l, m, n)

-- ---- the line
module _ (s : List ℕ) where
  pub cr_empty : length s ≡ 0 → s ≡ without_cr s
  unfolding without_cr
  cr_empty h = rw (eq-eqb (length s) 0 h)

  module _ (h : length s ≡ 0 → ⊥) where
    pub cr_dropped : get_or s (length s - 1) 0 ≡ 0x0D → take (length s - 1) s ≡ without_cr s
    unfolding without_cr
    cr_dropped k = rw (ne_eqb (length s) 0 h, eq-eqb (get_or s (length s - 1) 0) 0x0D k)

    pub cr_other : (get_or s (length s - 1) 0 ≡ 0x0D → ⊥) → s ≡ without_cr s
    unfolding without_cr
    cr_other k = rw (ne_eqb (length s) 0 h, ne_eqb (get_or s (length s - 1) 0) 0x0D k)

  module _ {b : Bool} (e : b ≡ (eqb (length s) 0 || eqb (get_or s 0 0) 0x23)) where
    pub kept_none : b ≡ true → skipped ≡ read_kept s
    unfolding read_kept
    kept_none h = rw (sym e ∙ h)

    pub kept_said : b ≡ false → read_statement s ≡ read_kept s
    unfolding read_kept
    kept_said h = rw (sym e ∙ h)

  pub line_long : 262144 < length s → too_long ≡ read_line s
  unfolding read_line
  line_long h = rw (lt-ltb 262144 (length s) h)

  pub line_kept : length s ≤ 262144 → read_kept (without_cr s) ≡ read_line s
  unfolding read_line
  line_kept h = rw (le-ltb 262144 (length s) h)
