-- "MANAGE ACL": the list, its pages, which LUACDs of a page stand, and what the list puts into effect.
use Rattle.std.specs.Prelude.{ℕ, ◌-◌, ◌/◌, ◌%◌, List, [], ◌∷◌, ◌++◌, map, Bool, true, cond, not, ◌&&◌, ◌||◌, length, get_or, take, drop, eqb, ltb}
use Rattle.lists.specs.Lists.{any, parts, place_of, gather}
use Rattle.lists.specs.Bytes.{be}
use Rattle.lists.specs.Pages.{pages_of}
use Rattle.wire.specs.Lun.{lun_of, head_of, lun_form}
use Rattle.paper.specs.Sizes.{id_size}
use Rattle.paper.specs.Layouts.{head_size, id_place, run_place, grant_length, descriptor_size}
use Rattle.paper.specs.Identifiers.{same_id, valid_transport, kept}
use Rattle.paper.specs.Contents.{these, everything}
use Rattle.paper.specs.Effects.{turned_on, flushed, listed, all_tokens, ended, Effect, switched, keyed, granted, enrolling, tokening}
use Rattle.paper.specs.declared.state.IdType.{IdType}
use Rattle.paper.specs.declared.state.IdType.TheVariants.{AccessId, TransportId}
use Rattle.paper.specs.declared.state.Luacd.{Luacd}
use Rattle.paper.specs.declared.state.Descriptor.{Descriptor}

-- "Header: key 4-11, new key 12-19, FLUSH bit 7 of byte 21, DLgeneration 24-27."
abbrev pub key_in : List ℕ → ℕ
key_in list = be 8 list 4

abbrev pub new_key_in : List ℕ → ℕ
new_key_in list = be 8 list 12

abbrev pub top_bit : ℕ → Bool
top_bit b = eqb (b / 128 % 2) 1

abbrev pub flush_in : List ℕ → Bool
flush_in list = top_bit (get_or list 21 0)

abbrev pub generation_in : List ℕ → ℕ
generation_in list = be 4 list 24

-- the pages begin behind the header
abbrev pub list_head : ℕ
list_head = 28

-- "Each ACE page is read as its own part of the list, beginning where the last one ended."
unfoldable pub ace_pages : List ℕ → List (List ℕ)
ace_pages list = pages_of (drop list_head list)

-- ---- one page
abbrev pub page_code : List ℕ → ℕ
page_code page = get_or page 0 0

-- the page length, which does not count the head
abbrev pub page_length : List ℕ → ℕ
page_length page = be 2 page 2

-- bit 7 of byte 4
abbrev pub nocncl_of : List ℕ → Bool
nocncl_of page = top_bit (get_or page 4 0)

abbrev pub type_in : List ℕ → ℕ
type_in page = get_or page 5 0

-- 00h is AccessID; the rest is asked of 01h alone
abbrev pub id_type_of : ℕ → IdType
id_type_of b = cond (eqb b 0) AccessId TransportId

abbrev pub page_type : List ℕ → IdType
page_type page = id_type_of (type_in page)

abbrev pub id_length_in : List ℕ → ℕ
id_length_in page = be 2 page 6

-- an identifier of n bytes
abbrev pub page_id : ℕ → List ℕ → List ℕ
page_id n page = take n (drop id_place page)

-- the identifier as it is kept
abbrev pub kept_id : List ℕ → List ℕ
kept_id page = kept (page_type page) (page_id id_size page)

-- "The page's run of descriptors is handed back as part of the caller's list."
abbrev pub descriptor_run : ℕ → List ℕ → List ℕ
descriptor_run n page = drop (run_place n) page

-- a LUACD as it is sent: its access mode, its LUN and its default LUN
unfoldable pub descriptor_in : List ℕ → Descriptor
descriptor_in bytes = record { mode = get_or bytes 0 0; lun = be 8 bytes 4; default = be 8 bytes 12 }

unfoldable pub descriptors_in : List ℕ → List Descriptor
descriptors_in run = map descriptor_in (parts descriptor_size (length run / descriptor_size) run)

abbrev pub descriptors_of : List ℕ → List Descriptor
descriptors_of page = descriptors_in (descriptor_run id_size page)

-- the tokens that a page 02h lists
abbrev pub token_in : List ℕ → ℕ
token_in bytes = be 8 bytes 0

unfoldable pub tokens_in : List ℕ → List ℕ
tokens_in page = map token_in (parts 8 (page_length page / 8) (drop head_size page))

-- ---- "A LUACD stands if no later one in its page has its LUN or its default LUN."
abbrev pub overrules : Descriptor → Descriptor → Bool
overrules d later = eqb later.lun d.lun || eqb later.default d.default

unfoldable pub not_overruled : List Descriptor → List Descriptor
not_overruled [] = []
not_overruled (d ∷ ds) = cond (any (overrules d) ds) (not_overruled ds) (d ∷ not_overruled ds)

-- whether a unit has that default LUN
abbrev pub is_default : ℕ → ℕ → Bool
is_default l head = eqb (lun_of head) l

-- the place that a LUACD gives to the unit with its default LUN
abbrev pub luacd_of : List ℕ → Descriptor → Luacd
luacd_of luns d = record { lun = head_of d.lun; unit = place_of (is_default d.default) luns }

-- the LUACDs of a page that stand
unfoldable pub page_luacds : List ℕ → List ℕ → List Luacd
page_luacds luns page = map (luacd_of luns) (not_overruled (descriptors_of page))

-- ---- phase 3: "26h/00h"
abbrev pub bad_transport : List ℕ → Bool
bad_transport page = eqb (type_in page) 1 && not (valid_transport (page_id id_size page))

-- "identifier type not 00h (AccessID) or 01h; identifier length not 24; bad TransportID"
unfoldable pub bad_identifier : List ℕ → Bool
bad_identifier page = not (ltb (type_in page) 2) || (not (eqb (id_length_in page) id_size) || bad_transport page)

-- "an access mode not 00h (H)"
abbrev pub bad_mode : Descriptor → Bool
bad_mode d = not (eqb d.mode 0)

-- "a page length other than 28 + 20k (00h), ..", with identifiers of n bytes
abbrev pub bad_list_length : ℕ → ℕ → Bool
bad_list_length n size = ltb size (grant_length n) || not (eqb ((size - grant_length n) % descriptor_size) 0)

unfoldable pub bad_list_page : List ℕ → Bool
bad_list_page page = bad_list_length id_size (page_length page) || (bad_identifier page || any bad_mode (descriptors_of page))

-- ".. 28 (01h), .."
unfoldable pub bad_all_page : List ℕ → Bool
bad_all_page page = not (eqb (page_length page) (grant_length id_size)) || bad_identifier page

-- ".. 8k (02h) or 0 (03h)"; "a page code over 03h"
unfoldable pub bad_page : List ℕ → Bool
bad_page page =
    cond (eqb (page_code page) 0x00) (bad_list_page page)
    (cond (eqb (page_code page) 0x01) (bad_all_page page)
    (cond (eqb (page_code page) 0x02) (not (eqb (page_length page % 8) 0))
    (cond (eqb (page_code page) 0x03) (not (eqb (page_length page) 0))
    true)))

-- "two grant pages (00h or 01h) with one type and identifier"
abbrev pub is_grant : List ℕ → Bool
is_grant page = ltb (page_code page) 2

unfoldable pub same_grant : List ℕ → List ℕ → Bool
same_grant p q =
    is_grant p && (is_grant q && same_id (page_type p) (page_id id_size p) (page_type q) (page_id id_size q))

-- ---- phase 4: "20h/09h: a LUN of another form, or a default LUN no unit has"
abbrev pub bad_place : List ℕ → Descriptor → Bool
bad_place luns d = not (lun_form d.lun) || not (any (is_default d.default) luns)

unfoldable pub bad_places : List ℕ → List ℕ → Bool
bad_places luns page = eqb (page_code page) 0x00 && any (bad_place luns) (descriptors_of page)

-- ---- "pages apply in order"
-- "Page 00h replaces the ACE by the page's LUACDs", "Page 01h replaces it by all units", "Page 02h revokes the tokens it lists, skipping any not live (H); page 03h revokes all."
unfoldable pub page_effects : List ℕ → List ℕ → List Effect
page_effects luns page =
    cond (eqb (page_code page) 0x00)
    (granted (page_type page) (kept_id page) (these (page_luacds luns page)) (nocncl_of page) ∷ [])
    (cond (eqb (page_code page) 0x01) (granted (page_type page) (kept_id page) everything (nocncl_of page) ∷ [])
    (cond (eqb (page_code page) 0x02) (tokening (ended (listed (tokens_in page))) ∷ [])
    (cond (eqb (page_code page) 0x03) (tokening (ended all_tokens) ∷ [])
    [])))

-- "The new key is then taken, access controls are on, FLUSH turns every enrolled initiator pending, and pages apply in order." They are turned on where they were off
unfoldable pub manage_effects : List ℕ → Bool → List ℕ → List Effect
manage_effects luns on list =
    (keyed (new_key_in list) ∷ cond on [] (switched turned_on ∷ []))
    ++ (cond (flush_in list) (enrolling flushed ∷ []) [] ++ gather (page_effects luns) (ace_pages list))
