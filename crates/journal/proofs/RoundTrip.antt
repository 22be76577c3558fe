-- What is written of a statement is read back as that statement.
use Prim.Native.Nat.{ℕ, ◌-◌, ◌≤◌, ◌<◌}
use mathlib.Core.Path.{◌≡◌, refl, ◌∙◌}
use mathlib.Core.List.{List, [], ◌∷◌, ◌++◌}
use mathlib.Core.Bool.{Bool, true}
use native.Mathlib.Omega.{arith}
use borrow.Author.Tests.{le-ltb, le-leb, leb-true, ltb-true, ne_eqb}
use lib.Dec.{leb}
use lib.ListN.{length, get_or}
use Rattle.lists.specs.Lists.{all}
use Rattle.lists.specs.Bytes.{same_bytes}
use Rattle.lists.proofs.Members.{all_in, in_all, all_append}
use Rattle.journal.specs.Words.{skip_spaces, word_at, after_word}
use Rattle.journal.specs.Texts.{digits_up_to, decimal_text, hex_text, bytes_text}
use Rattle.journal.specs.Statements.{Said, setup, command, link, route, reach, said, read_setup, read_command, read_list, read_lent, read_link, read_route, read_reach, read_statement, read_kept, read_line, without_cr, setup_word, command_word, link_word, route_word, reach_word}
use Rattle.journal.specs.Written.{digits_text, one_word, last_word, written, AreBytes, Fits}
use Rattle.journal.proofs.Digits.{all_at}
use Rattle.journal.proofs.Spelled.{above, Word, next_one, rest_one, next_last, rest_last, no_word, ends_space, bytes_word, bytes_is, bytes_back, list_is, number_word, number_back, number_is, buffer_is, digits_word, digits_is, digits_same}

-- ---- the statements, from behind the first word on
link_back : (i : ℕ) → i < 18446744073709551616 → read_link (last_word (decimal_text i)) ≡ said (link i)
unfolding read_link
link_back i h =
    let w = number_word i in
    rw (next_last (decimal_text i) w, rest_last (decimal_text i) w, no_word, number_is i h, number_back i h)

reach_back : (n : ℕ) → n ≤ 65536 → read_reach (last_word (decimal_text n)) ≡ said (reach n)
unfolding read_reach
reach_back n h =
    let w = number_word n in
    rw (next_last (decimal_text n) w, rest_last (decimal_text n) w, no_word, buffer_is n h, number_back n (omega arith))

route_back : (i l : ℕ) → i < 18446744073709551616 → l < 18446744073709551616 → read_route (one_word (decimal_text i) (last_word (digits_text l))) ≡ said (route i l)
unfolding read_route
route_back i l h k =
    let v = digits_word l in
    let t = last_word (digits_text l) in
    let e = ends_space (digits_text l) in
    rw (next_one (decimal_text i) t (number_word i) e, rest_one (decimal_text i) t (number_word i) e, next_last (digits_text l) v, rest_last (digits_text l) v, no_word, number_is i h, number_back i h, digits_is l, digits_same l k)

setup_back : (ids luns : List ℕ) → AreBytes ids → AreBytes luns → read_setup (one_word (bytes_text ids) (last_word (bytes_text luns))) ≡ said (setup ids luns)
unfolding read_setup
setup_back ids luns f g =
    let v = bytes_word luns g in
    let t = last_word (bytes_text luns) in
    let e = ends_space (bytes_text luns) in
    rw (next_one (bytes_text ids) t (bytes_word ids f) e, rest_one (bytes_text ids) t (bytes_word ids f) e, next_last (bytes_text luns) v, rest_last (bytes_text luns) v, no_word, bytes_is ids f, bytes_back ids f, bytes_is luns g, bytes_back luns g)

lent_back : (i : ℕ) (cdb list : List ℕ) (random n : ℕ) → random < 18446744073709551616 → n ≤ 65536 → read_lent i cdb list (one_word (digits_text random) (last_word (decimal_text n))) ≡ said (command i cdb list random n)
unfolding read_lent
lent_back i cdb list random n h k =
    let v = number_word n in
    let t = last_word (decimal_text n) in
    let e = ends_space (decimal_text n) in
    rw (next_one (digits_text random) t (digits_word random) e, rest_one (digits_text random) t (digits_word random) e, next_last (decimal_text n) v, rest_last (decimal_text n) v, no_word, digits_is random, digits_same random h, buffer_is n k, number_back n (omega arith))

list_back : (i : ℕ) (cdb list t : List ℕ) → AreBytes list → length list ≤ 65536 → read_list i cdb (one_word (bytes_text list) (last_word t)) ≡ read_lent i cdb list (last_word t)
unfolding read_list
list_back i cdb list t f h =
    let w = bytes_word list f in
    let e = ends_space t in
    rw (next_one (bytes_text list) (last_word t) w e, rest_one (bytes_text list) (last_word t) w e, list_is list f h, bytes_back list f)

command_back : (i : ℕ) (cdb t : List ℕ) → i < 18446744073709551616 → AreBytes cdb → read_command (one_word (decimal_text i) (one_word (bytes_text cdb) (last_word t))) ≡ read_list i cdb (last_word t)
unfolding read_command
command_back i cdb t h f =
    let u = one_word (bytes_text cdb) (last_word t) in
    let d = ends_space (bytes_text cdb ++ last_word t) in
    let w = bytes_word cdb f in
    let e = ends_space t in
    rw (next_one (decimal_text i) u (number_word i) d, rest_one (decimal_text i) u (number_word i) d, next_one (bytes_text cdb) (last_word t) w e, rest_one (bytes_text cdb) (last_word t) w e, number_is i h, number_back i h, bytes_is cdb f, bytes_back cdb f)

-- ---- the first word
module _ (t : List ℕ) where
  setup_first : read_statement (setup_word ++ last_word t) ≡ read_setup (last_word t)
  unfolding read_statement skip_spaces word_at after_word same_bytes
  setup_first = refl

  command_first : read_statement (command_word ++ last_word t) ≡ read_command (last_word t)
  unfolding read_statement skip_spaces word_at after_word same_bytes
  command_first = refl

  link_first : read_statement (link_word ++ last_word t) ≡ read_link (last_word t)
  unfolding read_statement skip_spaces word_at after_word same_bytes
  link_first = refl

  route_first : read_statement (route_word ++ last_word t) ≡ read_route (last_word t)
  unfolding read_statement skip_spaces word_at after_word same_bytes
  route_first = refl

  reach_first : read_statement (reach_word ++ last_word t) ≡ read_reach (last_word t)
  unfolding read_statement skip_spaces word_at after_word same_bytes
  reach_first = refl

-- ---- a line without control characters is read as it stands, if it is not too long
abbrev printed : ℕ → Bool
printed b = leb 0x20 b

last_printed : (w : List ℕ) → Word w → all printed (last_word w) ≡ true
last_printed w r = in_all printed w (λ x m. let l = ltb-true 0x20 x (all_in above r.plain m) in le-leb 0x20 x (omega arith))

one_printed : (w t : List ℕ) → Word w → all printed t ≡ true → all printed (one_word w t) ≡ true
one_printed w t r p = rw (all_append printed w t, p) (rw (last_printed w r))

no_cr : (l : List ℕ) → 1 ≤ length l → all printed l ≡ true → without_cr l ≡ l
unfolding without_cr
no_cr l some p =
    let last = leb-true 0x20 (get_or l (length l - 1) 0) (all_at printed l (length l - 1) p (omega arith)) in
    rw (ne_eqb (length l) 0 (λ e. omega arith), ne_eqb (get_or l (length l - 1) 0) 0x0D (λ e. omega arith))

line_read : (l : List ℕ) → 1 ≤ length l → (get_or l 0 0 ≡ 0x23 → ⊥) → all printed l ≡ true → length l ≤ 262144 → read_line l ≡ read_statement l
unfolding read_line read_kept
line_read l some c p h =
    rw (le-ltb 262144 (length l) h, no_cr l some p, ne_eqb (length l) 0 (λ e. omega arith), ne_eqb (get_or l 0 0) 0x23 c)

-- ---- there and back
pub round_trip : (s : Said) → Fits s → read_line (written s) ≡ said s
unfolding written
round_trip (setup ids luns) (f, h) =
    let p = one_printed (bytes_text ids) _ (bytes_word ids f.0) (last_printed (bytes_text luns) (bytes_word luns f.1)) in
    line_read _ (omega arith) (λ e. omega arith) p h ∙ (setup_first _ ∙ setup_back ids luns f.0 f.1)
round_trip (command i cdb list random n) (f, h) =
    let p = one_printed (digits_text random) _ (digits_word random) (last_printed (decimal_text n) (number_word n)) in
    let q = one_printed (bytes_text cdb) _ (bytes_word cdb f.1) (one_printed (bytes_text list) _ (bytes_word list f.2) p) in
    line_read _ (omega arith) (λ e. omega arith) (one_printed (decimal_text i) _ (number_word i) q) h
    ∙ (command_first _ ∙ (command_back i cdb _ f.0 f.1 ∙ (list_back i cdb list _ f.2 f.3 ∙ lent_back i cdb list random n f.4 f.5)))
round_trip (link i) (f, h) =
    line_read _ (omega arith) (λ e. omega arith) (last_printed (decimal_text i) (number_word i)) h ∙ (link_first _ ∙ link_back i f)
round_trip (route i l) (f, h) =
    let p = one_printed (decimal_text i) _ (number_word i) (last_printed (digits_text l) (digits_word l)) in
    line_read _ (omega arith) (λ e. omega arith) p h ∙ (route_first _ ∙ route_back i l f.0 f.1)
round_trip (reach n) (f, h) =
    line_read _ (omega arith) (λ e. omega arith) (last_printed (decimal_text n) (number_word n)) h ∙ (reach_first _ ∙ reach_back n f)

-- ---- as it reads: "link 3", "setup - 0aff"
pub link_reads : written (link 3) ≡ 0x6C ∷ 0x69 ∷ 0x6E ∷ 0x6B ∷ 0x20 ∷ 0x33 ∷ []
unfolding written digits_up_to
link_reads = refl

pub setup_reads : written (setup [] (0x0A ∷ 0xFF ∷ [])) ≡ 0x73 ∷ 0x65 ∷ 0x74 ∷ 0x75 ∷ 0x70 ∷ 0x20 ∷ 0x2D ∷ 0x20 ∷ 0x30 ∷ 0x61 ∷ 0x66 ∷ 0x66 ∷ []
unfolding written bytes_text hex_text
setup_reads = refl
