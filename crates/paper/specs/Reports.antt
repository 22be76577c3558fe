-- "Bytes of the two reports". Big-endian.
use Rattle.std.specs.Prelude.{ℕ, ◌+◌, ◌*◌, List, [], ◌∷◌, ◌++◌, Bool, cond, ◌&&◌, ◌||◌, length, get_or, replicate, eqb, ltb}
use Rattle.lists.specs.Lists.{gather, below}
use Rattle.lists.specs.Order.{sort}
use Rattle.lists.specs.Bytes.{be_bytes}
use Rattle.wire.specs.Lun.{lun_of}
use Rattle.paper.specs.Sizes.{id_size}
use Rattle.paper.specs.Layouts.{grant_length, descriptor_size}
use Rattle.paper.specs.Identifiers.{type_byte, less_id, kept}
use Rattle.paper.specs.Grounds.{letter_of}
use Rattle.paper.specs.Contents.{Content, these, everything}
use Rattle.paper.specs.Tables.{content_of, units_of, aces_of, tokens_of}
use Rattle.paper.specs.Rows.{rows_of}
use Rattle.paper.specs.declared.state.Luacd.{Luacd}
use Rattle.paper.specs.declared.state.Ace.{Ace}
use Rattle.paper.specs.declared.state.Token.{Token}
use Rattle.paper.specs.declared.state.Row.{Row}
use Rattle.paper.specs.declared.state.Coordinator.{Coordinator}

-- ---- REPORT ACL
-- "pages by identifier type, then identifier, ascending, LUACDs by LUN, .. tokens ascending"
abbrev pub ace_before : Ace → Ace → Bool
ace_before a b = less_id a.kind a.id b.kind b.id

abbrev pub luacd_before : Luacd → Luacd → Bool
luacd_before p q = ltb p.lun q.lun

abbrev pub token_before : Token → Token → Bool
token_before t s = ltb t.number s.number

-- the eight bytes of a unit's default LUN
abbrev pub default_bytes : List ℕ → ℕ → List ℕ
default_bytes luns u = be_bytes 8 (lun_of (get_or luns u 0))

-- a LUACD descriptor: access mode 00h and three reserved bytes, LUN, default LUN
unfoldable pub luacd_bytes : List ℕ → Luacd → List ℕ
luacd_bytes luns p = replicate 4 0 ++ (be_bytes 8 (lun_of p.lun) ++ default_bytes luns p.unit)

-- a page's head: its code, a reserved byte, and the number of bytes that follow
abbrev pub head_bytes : ℕ → ℕ → List ℕ
head_bytes code n = code ∷ (0 ∷ be_bytes 2 n)

-- a reserved byte, the identifier's type, its length n and the identifier
unfoldable pub identifier_bytes : ℕ → Ace → List ℕ
identifier_bytes n a = 0 ∷ (type_byte a.kind ∷ (be_bytes 2 n ++ kept a.kind a.id))

-- "A Granted page has 32 + 20k bytes; an ACE of everything is a Granted All page (01h) of 32.", with identifiers of n bytes
abbrev pub granted_bytes : ℕ → List ℕ → Ace → Content → List ℕ
granted_bytes n luns a (these ls) =
    head_bytes 0x00 (grant_length n + descriptor_size * length ls)
    ++ (identifier_bytes n a ++ gather (luacd_bytes luns) (sort luacd_before ls))
granted_bytes n luns a everything = head_bytes 0x01 (grant_length n) ++ identifier_bytes n a

unfoldable pub ace_bytes : List ℕ → Ace → List ℕ
ace_bytes luns a = granted_bytes id_size luns a (content_of a)

-- a proxy token descriptor: four reserved bytes, token, default LUN
unfoldable pub token_bytes : List ℕ → Token → List ℕ
token_bytes luns t = replicate 4 0 ++ (be_bytes 8 t.number ++ default_bytes luns t.unit)

-- "proxy page last with tokens ascending, left out if empty (H)"
unfoldable pub proxy_page : List ℕ → List Token → List ℕ
proxy_page luns [] = []
proxy_page luns (t ∷ ts) =
    head_bytes 0x02 (descriptor_size * length (t ∷ ts)) ++ gather (token_bytes luns) (sort token_before (t ∷ ts))

unfoldable pub report_pages : Coordinator → List ℕ
report_pages c =
    gather (ace_bytes (units_of c)) (sort ace_before (aces_of c)) ++ proxy_page (units_of c) (tokens_of c)

-- "REPORT ACL: length of what follows (4), DLgeneration (4), pages". While disabled there are no pages, and it is its header
unfoldable pub report_bytes : Coordinator → List ℕ
report_bytes c = be_bytes 4 (4 + length (report_pages c)) ++ (be_bytes 4 c.generation ++ report_pages c)

-- ---- the reach list
-- one number before another, or the same and the rest decides
abbrev pub then_by : ℕ → ℕ → Bool → Bool
then_by a b rest = ltb a b || (eqb a b && rest)

-- "initiator, nn, unit, ground in ASCII. Ascending by those four."
unfoldable pub row_before : Row → Row → Bool
row_before r q =
    then_by r.initiator q.initiator
    (then_by r.lun q.lun
    (then_by r.unit q.unit
    (ltb (letter_of r.ground) (letter_of q.ground))))

-- the rows of all initiators, in order
unfoldable pub reach_rows : Coordinator → List Row
reach_rows c = sort row_before (gather (rows_of c) (below c.initiators.count))

-- "four bytes a row"
unfoldable pub row_bytes : Row → List ℕ
row_bytes r = r.initiator ∷ (r.lun ∷ (r.unit ∷ (letter_of r.ground ∷ [])))

-- "4-byte length of what follows, version 01h, 00h disabled or 01h enabled, 2-byte row count; then four bytes a row"
unfoldable pub reach_bytes : Coordinator → List ℕ
reach_bytes c =
    be_bytes 4 (4 + 4 * length (reach_rows c))
    ++ (0x01 ∷ (cond c.enabled 0x01 0x00 ∷ (be_bytes 2 (length (reach_rows c)) ++ gather row_bytes (reach_rows c))))
