-- What the words of an answer line take, and where the line stands once it is written.
use Prim.Native.Nat.{ℕ, zero, suc, ◌+◌, ◌*◌, ◌/◌, ◌%◌, ◌≤◌}
use mathlib.Core.Path.{◌≡◌, refl, ap, ◌∙◌}
use mathlib.Core.List.{List, [], ◌∷◌, ◌++◌, append_assoc}
use mathlib.Core.Bool.{Bool, true, false, cond}
use native.Mathlib.Omega.{arith}
use lib.ListN.{length, take, drop, length-append, length-take}
use lib.Seq.{take_all}
use lib.Dec.{eqb, ltb}
use Rattle.lists.specs.Lists.{all, place_of}
use Rattle.lists.proofs.Deliver.{take_deliver}
use Rattle.lists.proofs.Parts.{length_gather}
use Rattle.wire.specs.Write.{Wrote}
use Rattle.wire.proofs.Writing.{delivered}
use Rattle.paper.specs.Answers.{sense_bytes, sense_of, number_of}
use Rattle.paper.specs.declared.answers.Condition.{Condition}
use Rattle.paper.specs.declared.answers.Refusal.{Refusal}
use Rattle.paper.specs.declared.answers.Answer.{Answer}
use Rattle.paper.specs.declared.answers.Answer.TheVariants.{Good, Check, Refused}
use Rattle.paper.specs.declared.answers.Opened.{Opened}
use Rattle.paper.specs.declared.answers.Opened.TheVariants.{Opens, Closed, Barred}
use Rattle.journal.specs.Texts.{digits_up_to, decimal_text, byte_text, hex_text, bytes_text, kept_text, spoiled_text, line_text, word_text, colon_text, end_text, kind_text}
use Rattle.journal.specs.declared.statement.Kind.{Kind}
use Rattle.journal.specs.declared.statement.Kind.TheVariants.{Keyword, Bytes, ByteList, Number, Buffer, Digits, End}
use Rattle.journal.specs.Replay.{is_lent, spoiled_from, others_text, untouched_text, checked_text, lent_text, plain_text, opened_text}
use Rattle.journal.proofs.Lent.{is_spoiled}

-- ---- a text that a test decides
pub either_most : (b : Bool) (n : ℕ) (l m : List ℕ) → length l ≤ n → length m ≤ n → length (cond b l m) ≤ n
either_most true n l m h k = h
either_most false n l m h k = k

-- ---- numbers and bytes
pub digits_most : (k n : ℕ) → length (digits_up_to k n) ≤ k
unfolding digits_up_to
digits_most zero n = omega arith
digits_most (suc k) n =
    let more = digits_up_to k (n / 10) ++ ((0x30 + n % 10) ∷ []) in
    either_most (ltb n 10) (suc k) ((0x30 + n) ∷ []) more (omega arith)
    (omega (arith, digits_most k (n / 10), length-append (digits_up_to k (n / 10)) ((0x30 + n % 10) ∷ [])))

pub decimal_most : (n : ℕ) → length (decimal_text n) ≤ 20
decimal_most n = digits_most 20 n

pub hex_length : (s : List ℕ) → length (hex_text s) ≡ 2 * length s
unfolding hex_text
hex_length s = length_gather byte_text 2 s (λ x h. refl) ∙ omega arith

pub bytes_most : (s : List ℕ) → length (bytes_text s) ≤ 1 + 2 * length s
unfolding bytes_text
bytes_most s =
    either_most (eqb (length s) 0) (1 + 2 * length s) (0x2D ∷ []) (hex_text s) (omega arith) (omega (arith, hex_length s))

pub sense_length : (k : Condition) → length (sense_of k) ≡ 18
unfolding sense_bytes
sense_length k = refl

-- ---- what the words take
spoiled_most : (n : ℕ) (s : List ℕ) → length (spoiled_from n s) ≤ 29
spoiled_most n s =
    let k = n + place_of is_spoiled (drop n s) in omega (arith, length-append spoiled_text (decimal_text k), decimal_most k)

others_most : (n : ℕ) (s : List ℕ) → length (others_text n s) ≤ 29
unfolding others_text
others_most n s =
    either_most (all is_lent (drop n s)) 29 kept_text (spoiled_from n s) (omega arith) (spoiled_most n s)

untouched_most : (s : List ℕ) → length (untouched_text s) ≤ 29
unfolding untouched_text
untouched_most s =
    either_most (all is_lent (drop 0 s)) 29 [] (spoiled_from 0 s) (omega arith) (spoiled_most 0 s)

pub check_length : (k : Condition) → length (checked_text (Check k)) ≡ 43
check_length k = simp length-append (omega (arith, hex_length (sense_of k), sense_length k))

pub refused_most : (n : Refusal) → length (checked_text (Refused n)) ≤ 29
refused_most n = simp length-append (omega (arith, decimal_most (number_of n)))

pub plain_most : (a : Answer) → length (plain_text a) ≤ 43
plain_most Good = omega arith
plain_most (Check k) = omega (arith, check_length k)
plain_most (Refused n) = omega (arith, refused_most n)

pub opened_most : (o : Opened) → length (opened_text o) ≤ 43
opened_most (Opens u) = simp length-append (omega (arith, decimal_most u))
opened_most (Closed k) = omega (arith, check_length k)
opened_most (Barred n) = omega (arith, refused_most n)

pub lent_most : (a : Answer) (n : ℕ) (s : List ℕ) → length s ≤ 65536 → length (lent_text a n s) ≤ 131129
lent_most Good n s h =
    simp length-append (omega (arith, decimal_most n, bytes_most (take n s), length-take n s, others_most n s))
lent_most (Check k) n s h = simp length-append (omega (arith, check_length k, untouched_most s))
lent_most (Refused r) n s h = simp length-append (omega (arith, refused_most r, untouched_most s))

-- ---- a line that is written from 0 on stands at the start of the buffer
line_taken : {limit e : ℕ} {xs b₀ b₁ : List ℕ} → Wrote limit 0 xs b₀ e b₁ → length xs ≤ limit → length xs ≤ length b₀ → take e b₁ ≡ xs
line_taken {limit} {e} {xs} {b₀} w h k =
    let end : e ≡ length xs = omega (arith, w.ended) in
    rw (delivered w, take_all limit xs h, take_deliver xs b₀ e (omega arith) (omega arith)) (take_all e xs (omega arith))

-- ---- an answer line, written into a buffer that has room for it
pub line_most : (word said : List ℕ) → length word ≤ 25 → length said ≤ 131129 → length ((word ++ said) ++ end_text) ≤ 140000
line_most word said h k = omega (arith, length-append (word ++ said) end_text, length-append word said)

pub told : {limit e : ℕ} {xs b₀ b₁ : List ℕ} → Wrote limit 0 xs b₀ e b₁ → length xs ≤ 140000 → 140000 ≤ limit → 140000 ≤ length b₀ → (take e b₁ ≡ xs) × (e ≤ 140000)
told w h k m = (line_taken w (omega arith) (omega arith), omega (arith, w.ended))

-- ---- a line that is no statement
pub number_most : (number : ℕ) → length (line_text ++ decimal_text number) ≤ 25
number_most number = omega (arith, length-append line_text (decimal_text number), decimal_most number)

pub kind_most : (kind : Kind) → length (kind_text kind) ≤ 52
kind_most Keyword = omega arith
kind_most Bytes = omega arith
kind_most ByteList = omega arith
kind_most Number = omega arith
kind_most Buffer = omega arith
kind_most Digits = omega arith
kind_most End = omega arith

abbrev pub expected_text : ℕ → Kind → List ℕ
expected_text which kind = word_text ++ (decimal_text which ++ (colon_text ++ kind_text kind))

pub expected_most : (which : ℕ) (kind : Kind) → length (expected_text which kind) ≤ 81
expected_most which kind =
    let rest = colon_text ++ kind_text kind in
    omega (arith, length-append word_text (decimal_text which ++ rest), length-append (decimal_text which) rest, length-append colon_text (kind_text kind), decimal_most which, kind_most kind)

-- the parts are written one after the other
pub in_parts : (number : ℕ) (message : List ℕ) → ((line_text ++ decimal_text number) ++ message) ++ end_text ≡ (line_text ++ (decimal_text number ++ message)) ++ end_text
in_parts number message = ap (λ (l : List ℕ). l ++ end_text) (append_assoc line_text (decimal_text number) message)
