-- What a line of a journal says: a statement, nothing, or the first fault that is found.
use Rattle.std.specs.Prelude.{ℕ, ◌-◌, List, [], ◌∷◌, Bool, cond, not, ◌&&◌, ◌||◌, length, get_or, take, eqb, ltb}
use Rattle.lists.specs.Bytes.{same_bytes}
use Rattle.journal.specs.Words.{next_word, rest_of, has_word}
use Rattle.journal.specs.Kinds.{is_bytes, bytes_of, is_list, is_number, is_buffer, decimal_of, is_digits, digits_of}
use Rattle.journal.specs.declared.statement.Kind.{Kind}
use Rattle.journal.specs.declared.statement.Kind.TheVariants.{Keyword, Bytes, ByteList, Number, Buffer, Digits, End}

pub data Said : Type 0 where
  setup : List ℕ → List ℕ → Said  -- the TransportIDs, the default LUNs
  command : ℕ → List ℕ → List ℕ → ℕ → ℕ → Said  -- initiator, CDB, parameter bytes, random number, size of the buffer
  link : ℕ → Said  -- initiator
  route : ℕ → ℕ → Said  -- initiator, LUN
  reach : ℕ → Said  -- size of the buffer

pub data Line : Type 0 where
  skipped : Line
  said : Said → Line
  too_long : Line
  expected : ℕ → Kind → Line  -- which word, and what was expected

-- a word is of the kind that its place asks for, or at fault
abbrev pub needs : Bool → ℕ → Kind → Line → Line
needs ok k kind next = cond ok next (expected k kind)

-- "a word after the last one"
abbrev pub ending : ℕ → List ℕ → Line → Line
ending k s next = needs (not (has_word s)) k End next

-- ---- the statements, from behind the first word on
unfoldable pub read_setup : List ℕ → Line
read_setup s =
    needs (is_bytes (next_word s)) 2 Bytes
    (needs (is_bytes (next_word (rest_of s))) 3 Bytes
    (ending 4 (rest_of (rest_of s))
    (said (setup (bytes_of (next_word s)) (bytes_of (next_word (rest_of s)))))))

-- RANDOM and BUFFER, behind the list
unfoldable pub read_lent : ℕ → List ℕ → List ℕ → List ℕ → Line
read_lent i cdb list s =
    needs (is_digits (next_word s)) 5 Digits
    (needs (is_buffer (next_word (rest_of s))) 6 Buffer
    (ending 7 (rest_of (rest_of s))
    (said (command i cdb list (digits_of (next_word s)) (decimal_of (next_word (rest_of s)))))))

-- the list, behind the CDB
unfoldable pub read_list : ℕ → List ℕ → List ℕ → Line
read_list i cdb s = needs (is_list (next_word s)) 4 ByteList (read_lent i cdb (bytes_of (next_word s)) (rest_of s))

unfoldable pub read_command : List ℕ → Line
read_command s =
    needs (is_number (next_word s)) 2 Number
    (needs (is_bytes (next_word (rest_of s))) 3 Bytes
    (read_list (decimal_of (next_word s)) (bytes_of (next_word (rest_of s))) (rest_of (rest_of s))))

unfoldable pub read_link : List ℕ → Line
read_link s =
    needs (is_number (next_word s)) 2 Number (ending 3 (rest_of s) (said (link (decimal_of (next_word s)))))

unfoldable pub read_route : List ℕ → Line
read_route s =
    needs (is_number (next_word s)) 2 Number
    (needs (is_digits (next_word (rest_of s))) 3 Digits
    (ending 4 (rest_of (rest_of s))
    (said (route (decimal_of (next_word s)) (digits_of (next_word (rest_of s)))))))

unfoldable pub read_reach : List ℕ → Line
read_reach s =
    needs (is_buffer (next_word s)) 2 Buffer (ending 3 (rest_of s) (said (reach (decimal_of (next_word s)))))

-- ---- the first word
abbrev pub is_word : List ℕ → List ℕ → Bool
is_word w v = eqb (length w) (length v) && same_bytes (length v) w v

-- "setup", "command", "link", "route", "reach" in ASCII
abbrev pub setup_word : List ℕ
setup_word = 0x73 ∷ 0x65 ∷ 0x74 ∷ 0x75 ∷ 0x70 ∷ []

abbrev pub command_word : List ℕ
command_word = 0x63 ∷ 0x6F ∷ 0x6D ∷ 0x6D ∷ 0x61 ∷ 0x6E ∷ 0x64 ∷ []

abbrev pub link_word : List ℕ
link_word = 0x6C ∷ 0x69 ∷ 0x6E ∷ 0x6B ∷ []

abbrev pub route_word : List ℕ
route_word = 0x72 ∷ 0x6F ∷ 0x75 ∷ 0x74 ∷ 0x65 ∷ []

abbrev pub reach_word : List ℕ
reach_word = 0x72 ∷ 0x65 ∷ 0x61 ∷ 0x63 ∷ 0x68 ∷ []

unfoldable pub read_statement : List ℕ → Line
read_statement s =
    cond (is_word (next_word s) setup_word) (read_setup (rest_of s))
    (cond (is_word (next_word s) command_word) (read_command (rest_of s))
    (cond (is_word (next_word s) link_word) (read_link (rest_of s))
    (cond (is_word (next_word s) route_word) (read_route (rest_of s))
    (cond (is_word (next_word s) reach_word) (read_reach (rest_of s))
    (expected 1 Keyword)))))

-- ---- a line, without its LF
-- "One CR (0Dh) at the end of the line is dropped"
unfoldable pub without_cr : List ℕ → List ℕ
without_cr s =
    cond (not (eqb (length s) 0) && eqb (get_or s (length s - 1) 0) 0x0D) (take (length s - 1) s) s

-- "If nothing is left, or the first byte is `#`, the line is skipped"
unfoldable pub read_kept : List ℕ → Line
read_kept s = cond (eqb (length s) 0 || eqb (get_or s 0 0) 0x23) skipped (read_statement s)

-- "Over 262,144 it is no statement, whatever stands in it."
unfoldable pub read_line : List ℕ → Line
read_line s = cond (ltb 262144 (length s)) too_long (read_kept (without_cr s))

-- the size of the buffer that a line asks for
abbrev pub lent_by : Line → ℕ
lent_by skipped = 0
lent_by (said (setup ids luns)) = 0
lent_by (said (command i cdb list random n)) = n
lent_by (said (link i)) = 0
lent_by (said (route i l)) = 0
lent_by (said (reach n)) = n
lent_by too_long = 0
lent_by (expected k kind) = 0
