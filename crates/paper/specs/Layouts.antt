-- The layout of ACE pages, as they are sent and as they are reported, for identifiers of n bytes: in the first release n is Sizes.idSize, and nothing else says how long an identifier is.
use Rattle.std.specs.Prelude.{ℕ, ◌+◌}

-- a page's head: its code, a reserved byte, and in two bytes the page length, the number of bytes that follow the head
abbrev pub head_size : ℕ
head_size = 4

-- where a page for an identifier has the identifier: behind the head, NOCNCL, its type and, in two bytes, its length
abbrev pub id_place : ℕ
id_place = 8

-- where its descriptors begin
abbrev pub run_place : ℕ → ℕ
run_place n = id_place + n

-- its page length without descriptors
abbrev pub grant_length : ℕ → ℕ
grant_length n = 4 + n

-- a LUACD descriptor, or a proxy token descriptor of the report
abbrev pub descriptor_size : ℕ
descriptor_size = 20
