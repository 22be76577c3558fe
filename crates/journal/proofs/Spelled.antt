-- The words of a line as they are written: each is read back as the number or the bytes that it stands for.
use Prim.Native.Nat.{ℕ, zero, suc, ◌+◌, ◌-◌, ◌*◌, ◌/◌, ◌%◌, ◌^◌, ◌≤◌, ◌<◌}
use mathlib.Core.Path.{◌≡◌, refl, ap, sym, ◌∙◌}
use mathlib.Core.List.{List, [], ◌∷◌, ◌++◌, append-nil}
use mathlib.Core.Bool.{Bool, true, false}
use native.Mathlib.Omega.{arith}
use native.Mathlib.Nat.{pow-suc}
use borrow.Author.Tests.{lt-ltb, le-leb, ltb-true, ltb-false, ne_eqb}
use lib.Dec.{ltb}
use lib.ListN.{length, length-append}
use Rattle.lists.specs.Lists.{here, there, all}
use Rattle.lists.specs.Bytes.{be_bytes}
use Rattle.lists.proofs.Bytes.{be_bytes_lem, bytes_length, bytes_below}
use Rattle.lists.proofs.Members.{all_append, place_in}
use Rattle.lists.proofs.Tests.{split, and_true}
use Rattle.journal.specs.Words.{is_space, skip_spaces, word_at, after_word, next_word, rest_of}
use Rattle.journal.specs.Kinds.{is_digit, hex_value, is_hex, is_dash, is_bytes, hex_bytes, bytes_of, is_list, decimal_from, decimal_of, is_number, is_buffer, is_digits, digits_of}
use Rattle.journal.specs.Texts.{digits_up_to, decimal_text, hex_char, hex_text, bytes_text}
use Rattle.journal.specs.Written.{digits_text, one_word, last_word, AreBytes}
use Rattle.journal.proofs.Digits.{in_range, hex_decimal, hex_lower, bytes_even, bytes_pairs, digits_long}
use Rattle.journal.proofs.Told.{hex_length}
use Rattle.journal.proofs.Printed.{text_some}

-- ---- a word: at least one byte, each above the space
abbrev pub above : ℕ → Bool
above b = ltb 0x20 b

pub record Word (w : List ℕ) : Type 0 where
  pub some : 1 ≤ length w
  pub plain : all above w ≡ true

-- where a word ends: at a space, or with the line
pub record Ends (t : List ℕ) : Type 0 where
  pub none : word_at t ≡ []
  pub stays : after_word t ≡ t

ends_line : Ends []
unfolding word_at after_word
ends_line = record { none = refl; stays = refl }

pub ends_space : (t : List ℕ) → Ends (0x20 ∷ t)
unfolding word_at after_word
ends_space t = record { none = refl; stays = refl }

above_space : (b : ℕ) → above b ≡ true → is_space b ≡ false
above_space b h = let l = ltb-true 0x20 b h in ne_eqb b 0x20 (λ e. omega arith)

word_at_lem : (w t : List ℕ) → all above w ≡ true → Ends t → (word_at (w ++ t) ≡ w) × (after_word (w ++ t) ≡ t)
unfolding word_at after_word
word_at_lem [] t p e = (e.none, e.stays)
word_at_lem (b ∷ w) t p e =
    let q = and_true (above b) (all above w) p in
    let r = word_at_lem w t q.1 e in
    (rw (above_space b q.0, r.0), rw (above_space b q.0, r.1))

-- a word behind a space is the next one
module _ (w t : List ℕ) (r : Word w) (e : Ends t) where
  skipped_to : skip_spaces (one_word w t) ≡ w ++ t
  unfolding skip_spaces
  skipped_to = go w r.some r.plain
    where
      go : (v : List ℕ) → 1 ≤ length v → all above v ≡ true → skip_spaces (v ++ t) ≡ v ++ t
      go [] h p = absurd (omega arith)
      go (b ∷ v) h p = rw (above_space b (and_true (above b) (all above v) p).0)

  pub next_one : next_word (one_word w t) ≡ w
  next_one = ap word_at skipped_to ∙ (word_at_lem w t r.plain e).0

  pub rest_one : rest_of (one_word w t) ≡ t
  rest_one = ap after_word skipped_to ∙ (word_at_lem w t r.plain e).1

module _ (w : List ℕ) (r : Word w) where
  pub next_last : next_word (last_word w) ≡ w
  next_last = rw append-nil at (next_one w [] r ends_line)

  pub rest_last : rest_of (last_word w) ≡ []
  rest_last = rw append-nil at (rest_one w [] r ends_line)

pub no_word : next_word [] ≡ []
unfolding skip_spaces word_at
no_word = refl

-- ---- hex digits
hex_char_lem : (d : ℕ) → d < 16 → (hex_value (hex_char d) ≡ d) × (above (hex_char d) ≡ true)
hex_char_lem d h =
    split
    (ltb d 10)
    (λ e.
    let l = ltb-true d 10 e in
    rw e (hex_decimal (0x30 + d) (omega arith) (omega arith) ∙ omega arith, lt-ltb 0x20 (0x30 + d) (omega arith)))
    (λ e.
    let l = ltb-false d 10 e in
    rw e (hex_lower (0x57 + d) (omega arith) (omega arith) ∙ omega arith, lt-ltb 0x20 (0x57 + d) (omega arith)))

hex_back : (s : List ℕ) → AreBytes s → hex_bytes (hex_text s) ≡ s
unfolding hex_text hex_bytes
hex_back [] f = refl
hex_back (x ∷ s) f =
    let h = f x (here refl) in
    let e : x / 16 * 16 + x % 16 ≡ x = omega arith in
    rw ((hex_char_lem (x / 16) (omega arith)).0, (hex_char_lem (x % 16) (omega arith)).0, hex_back s (λ y k. f y (there k)), e)

hex_all : (p : ℕ → Bool) (s : List ℕ) → AreBytes s → ((d : ℕ) → d < 16 → p (hex_char d) ≡ true) → all p (hex_text s) ≡ true
unfolding hex_text
hex_all p [] f g = refl
hex_all p (x ∷ s) f g =
    let h = f x (here refl) in
    rw (g (x / 16) (omega arith), g (x % 16) (omega arith)) (hex_all p s (λ y k. f y (there k)) g)

is_hex_lem : (d : ℕ) → d < 16 → is_hex (hex_char d) ≡ true
is_hex_lem d h = rw (hex_char_lem d h).0 (lt-ltb d 16 h)

-- ---- bytes
hex_some : (s : List ℕ) → 1 ≤ length s → is_dash (hex_text s) ≡ false
hex_some s h = rw (ne_eqb (length (hex_text s)) 1 (λ e. omega (arith, hex_length s)))

pub bytes_word : (s : List ℕ) → AreBytes s → Word (bytes_text s)
unfolding bytes_text
bytes_word [] f = record { some = omega arith; plain = refl }
bytes_word (x ∷ s) f =
    rw (text_some (x ∷ s) (λ e. omega arith)) (record {
      some = omega (arith, hex_length (x ∷ s));
      plain = hex_all above (x ∷ s) f (λ d h. (hex_char_lem d h).1);
    })

pub bytes_is : (s : List ℕ) → AreBytes s → is_bytes (bytes_text s) ≡ true
unfolding bytes_text is_bytes
bytes_is [] f = refl
bytes_is (x ∷ s) f =
    let w = hex_text (x ∷ s) in
    let l = hex_length (x ∷ s) in
    let dash = hex_some (x ∷ s) (omega arith) in
    rw (text_some (x ∷ s) (λ e. omega arith)) (sym (bytes_even w refl dash (λ e. omega arith) (omega arith) (sym (hex_all is_hex (x ∷ s) f is_hex_lem))))

pub bytes_back : (s : List ℕ) → AreBytes s → bytes_of (bytes_text s) ≡ s
unfolding bytes_text bytes_of
bytes_back [] f = refl
bytes_back (x ∷ s) f =
    let dash = hex_some (x ∷ s) (omega arith) in
    rw (text_some (x ∷ s) (λ e. omega arith)) (bytes_pairs (hex_text (x ∷ s)) refl dash ∙ hex_back (x ∷ s) f)

pub list_is : (s : List ℕ) → AreBytes s → length s ≤ 65536 → is_list (bytes_text s) ≡ true
unfolding is_list
list_is s f h = rw (bytes_is s f, bytes_back s f) (le-leb (length s) 65536 h)

-- ---- numbers in decimal
digits_some : (k n : ℕ) → 1 ≤ length (digits_up_to (suc k) n)
unfolding digits_up_to
digits_some k n =
    split
    (ltb n 10)
    (λ e. rw e (omega arith))
    (λ e. rw e (omega (arith, length-append (digits_up_to k (n / 10)) ((0x30 + n % 10) ∷ []))))

digits_all : (p : ℕ → Bool) → ((d : ℕ) → d < 10 → p (0x30 + d) ≡ true) → (k n : ℕ) → all p (digits_up_to k n) ≡ true
unfolding digits_up_to
digits_all p g zero n = refl
digits_all p g (suc k) n =
    split
    (ltb n 10)
    (λ e. rw (e, g n (ltb-true n 10 e)))
    (λ e.
    rw (e, all_append p (digits_up_to k (n / 10)) ((0x30 + n % 10) ∷ []), digits_all p g k (n / 10), g (n % 10) (omega arith)))

decimal_more : (a : ℕ) (xs : List ℕ) (y : ℕ) → decimal_from a (xs ++ (y ∷ [])) ≡ decimal_from a xs * 10 + (y - 0x30)
unfolding decimal_from
decimal_more a [] y = refl
decimal_more a (x ∷ xs) y = decimal_more (a * 10 + (x - 0x30)) xs y

digits_back : (k n : ℕ) → n < 10 ^ k → decimal_from 0 (digits_up_to k n) ≡ n
unfolding digits_up_to decimal_from
digits_back zero n h = omega arith
digits_back (suc k) n h =
    split
    (ltb n 10)
    (λ e. rw e (omega arith))
    (λ e.
    rw (e, decimal_more 0 (digits_up_to k (n / 10)) (0x30 + n % 10), digits_back k (n / 10) (omega (arith, h, pow-suc 10 k))) (omega arith))

pub number_word : (n : ℕ) → Word (decimal_text n)
number_word n =
    record {
      some = digits_some 19 n;
      plain = digits_all above (λ d l. lt-ltb 0x20 (0x30 + d) (omega arith)) 20 n;
    }

pub number_back : (n : ℕ) → n < 18446744073709551616 → decimal_of (decimal_text n) ≡ n
number_back n h = digits_back 20 n (omega arith)

pub number_is : (n : ℕ) → n < 18446744073709551616 → is_number (decimal_text n) ≡ true
unfolding is_number
number_is n h =
    let digits = digits_all is_digit (λ d l. in_range 0x30 0x39 (0x30 + d) (omega arith) (omega arith)) 20 n in
    rw (ne_eqb (length (decimal_text n)) 0 (λ e. omega (arith, digits_some 19 n)), digits, number_back n h) (lt-ltb n 18446744073709551616 h)

pub buffer_is : (n : ℕ) → n ≤ 65536 → is_buffer (decimal_text n) ≡ true
unfolding is_buffer
buffer_is n h =
    rw (number_is n (omega arith), number_back n (omega arith)) (le-leb n 65536 h)

-- ---- sixteen digits
number_bytes : (n x : ℕ) → AreBytes (be_bytes n x)
number_bytes n x y m = let r = place_in 0 m in omega (arith, r.2, bytes_below n x r.0)

digits_length : (x : ℕ) → length (digits_text x) ≡ 16
digits_length x = omega (arith, hex_length (be_bytes 8 x), bytes_length 8 x)

pub digits_word : (x : ℕ) → Word (digits_text x)
digits_word x =
    record {
      some = omega (arith, digits_length x);
      plain = hex_all above (be_bytes 8 x) (number_bytes 8 x) (λ d h. (hex_char_lem d h).1);
    }

pub digits_is : (x : ℕ) → is_digits (digits_text x) ≡ true
digits_is x =
    sym (digits_long (digits_text x) (digits_length x) (sym (hex_all is_hex (be_bytes 8 x) (number_bytes 8 x) is_hex_lem)))

pub digits_same : (x : ℕ) → x < 18446744073709551616 → digits_of (digits_text x) ≡ x
unfolding digits_of
digits_same x h = rw (hex_back (be_bytes 8 x) (number_bytes 8 x)) (be_bytes_lem 8 x (omega arith))
