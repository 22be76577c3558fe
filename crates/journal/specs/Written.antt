-- A statement written as a line: its words, separated by one space.
use Rattle.std.specs.Prelude.{ℕ, ◌≤◌, ◌<◌, List, ◌∷◌, ◌++◌, length}
use Rattle.lists.specs.Lists.{◌∈◌}
use Rattle.lists.specs.Bytes.{be_bytes}
use Rattle.journal.specs.Texts.{decimal_text, hex_text, bytes_text}
use Rattle.journal.specs.Statements.{Said, setup, command, link, route, reach, setup_word, command_word, link_word, route_word, reach_word}

-- "exactly 16 hex digits"
abbrev pub digits_text : ℕ → List ℕ
digits_text x = hex_text (be_bytes 8 x)

-- words behind the first, each with a space before it
abbrev pub last_word : List ℕ → List ℕ
last_word w = 0x20 ∷ w

abbrev pub one_word : List ℕ → List ℕ → List ℕ
one_word w rest = 0x20 ∷ (w ++ rest)

unfoldable pub written : Said → List ℕ
written (setup ids luns) = setup_word ++ one_word (bytes_text ids) (last_word (bytes_text luns))
written (command i cdb list random n) =
    command_word
    ++ one_word (decimal_text i) (one_word (bytes_text cdb) (one_word (bytes_text list) (one_word (digits_text random) (last_word (decimal_text n)))))
written (link i) = link_word ++ last_word (decimal_text i)
written (route i l) = route_word ++ one_word (decimal_text i) (last_word (digits_text l))
written (reach n) = reach_word ++ last_word (decimal_text n)

-- ---- what a line can say
abbrev pub AreBytes : List ℕ → Type 0
AreBytes s = (x : ℕ) → x ∈ s → x < 256

abbrev pub InRange : Said → Type 0
InRange (setup ids luns) = AreBytes ids × AreBytes luns
InRange (command i cdb list random n) =
    (i < 18446744073709551616)
    × AreBytes cdb
    × AreBytes list
    × (length list ≤ 65536)
    × (random < 18446744073709551616)
    × (n ≤ 65536)
InRange (link i) = i < 18446744073709551616
InRange (route i l) = (i < 18446744073709551616) × (l < 18446744073709551616)
InRange (reach n) = n ≤ 65536

abbrev pub Fits : Said → Type 0
Fits s = InRange s × (length (written s) ≤ 262144)
