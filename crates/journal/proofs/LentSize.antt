-- A statement asks for a lent buffer of at most 65,536 bytes.
use Prim.Native.Nat.{ℕ, ◌≤◌}
use mathlib.Core.Path.{◌≡◌, refl}
use mathlib.Core.Bool.{Bool, true, not, ◌||◌}
use mathlib.Core.List.{List}
use native.Mathlib.Omega.{arith}
use lib.ListN.{length, get_or}
use lib.Dec.{eqb, leb, ltb}
use borrow.Author.Tests.{leb-true}
use Rattle.lists.proofs.Tests.{split, both, and_true}
use Rattle.journal.specs.Words.{next_word, rest_of, has_word}
use Rattle.journal.specs.Kinds.{is_bytes, is_list, is_number, is_buffer, decimal_of, is_digits}
use Rattle.journal.specs.Statements.{Line, needs, read_setup, read_lent, read_list, read_command, read_link, read_route, read_reach, is_word, setup_word, command_word, link_word, route_word, reach_word, read_statement, without_cr, read_kept, read_line, lent_by}
use Rattle.journal.specs.declared.statement.Kind.{Kind}

data Small (l : Line) : Type 0 where
  small : lent_by l ≤ 65536 → Small l

none : {l : Line} → lent_by l ≡ 0 → Small l
none e = small (omega arith)

-- a word that is a buffer's size says so
sized : (w : List ℕ) → is_buffer w ≡ true → decimal_of w ≤ 65536
unfolding is_buffer
sized w h = leb-true (decimal_of w) 65536 (and_true (is_number w) (leb (decimal_of w) 65536) h).1

by_buffer : (w : List ℕ) (k : ℕ) (kind : Kind) {l : Line} → (decimal_of w ≤ 65536 → Small l) → Small (needs (is_buffer w) k kind l)
by_buffer w k kind f = split (is_buffer w) (λ e. rw e (f (sized w e))) (λ e. rw e (none refl))

by_need : (b : Bool) (k : ℕ) (kind : Kind) {l : Line} → Small l → Small (needs b k kind l)
by_need b k kind s = both Small b s (none refl)

by_setup : (s : List ℕ) → Small (read_setup s)
unfolding read_setup
by_setup s =
    by_need (is_bytes (next_word s)) _ _ (by_need (is_bytes (next_word (rest_of s))) _ _ (by_need (not (has_word (rest_of (rest_of s)))) _ _ (none refl)))

by_command : (s : List ℕ) → Small (read_command s)
unfolding read_command read_list read_lent
by_command s =
    let cdb = rest_of s in
    let list = rest_of cdb in
    let random = rest_of list in
    let size = rest_of random in
    by_need (is_number (next_word s)) _ _
    (by_need (is_bytes (next_word cdb)) _ _
    (by_need (is_list (next_word list)) _ _
    (by_need (is_digits (next_word random)) _ _
    (by_buffer (next_word size) _ _ (λ h. by_need (not (has_word (rest_of size))) _ _ (small h))))))

by_link : (s : List ℕ) → Small (read_link s)
unfolding read_link
by_link s = by_need (is_number (next_word s)) _ _ (by_need (not (has_word (rest_of s))) _ _ (none refl))

by_route : (s : List ℕ) → Small (read_route s)
unfolding read_route
by_route s =
    by_need (is_number (next_word s)) _ _ (by_need (is_digits (next_word (rest_of s))) _ _ (by_need (not (has_word (rest_of (rest_of s)))) _ _ (none refl)))

by_reach : (s : List ℕ) → Small (read_reach s)
unfolding read_reach
by_reach s = by_buffer (next_word s) _ _ (λ h. by_need (not (has_word (rest_of s))) _ _ (small h))

by_statement : (s : List ℕ) → Small (read_statement s)
unfolding read_statement
by_statement s =
    both Small (is_word (next_word s) setup_word) (by_setup (rest_of s))
    (both Small (is_word (next_word s) command_word) (by_command (rest_of s))
    (both Small (is_word (next_word s) link_word) (by_link (rest_of s))
    (both Small (is_word (next_word s) route_word) (by_route (rest_of s))
    (both Small (is_word (next_word s) reach_word) (by_reach (rest_of s))
    (none refl)))))

by_line : (s : List ℕ) → Small (read_line s)
unfolding read_line read_kept
by_line s =
    let kept = without_cr s in
    both Small (ltb 262144 (length s)) (none refl) (both Small (eqb (length kept) 0 || eqb (get_or kept 0 0) 0x23) (none refl) (by_statement kept))

pub lent_small : (s : List ℕ) → lent_by (read_line s) ≤ 65536
lent_small s = is (by_line s)
  where
    is : {l : Line} → Small l → lent_by l ≤ 65536
    is (small h) = h

-- so does what was read of a line
pub lent_read : {l : Line} (s : List ℕ) → l ≡ read_line s → lent_by l ≤ 65536
lent_read s e = rw e (lent_small s)
