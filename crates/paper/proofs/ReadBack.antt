-- One layout, read and written: what a writer of the reports lays out is read back by the readers of the lists. A LUN, a page's head, an identifier, a LUACD descriptor and a run of them, a token and a run of them.
use Prim.Native.Nat.{ℕ, zero, suc, ◌*◌, ◌/◌, ◌<◌, ◌^◌}
use mathlib.Core.Path.{◌≡◌, refl, ap, ◌∙◌}
use mathlib.Core.List.{List, [], ◌∷◌, ◌++◌, map, append-nil}
use mathlib.Core.Bool.{false}
use lib.Dec.{eqb}
use borrow.Author.Tests.{eq-eqb}
use native.Mathlib.Omega.{arith}
use native.Mathlib.Nat.{mul-div_cancel_left}
use lib.ListN.{length, get_or, replicate}
use lib.Seq.{take_at, drop_at}
use Rattle.lists.specs.Lists.{◌∈◌, any, pairs, place_of, gather}
use Rattle.lists.specs.Bytes.{be, be_bytes}
use Rattle.lists.proofs.Bytes.{be_at, be_bytes_lem, bytes_length}
use Rattle.lists.proofs.Members.{map_map, map_same, any_none, in_get_or}
use Rattle.lists.proofs.Tests.{or_false}
use Rattle.lists.proofs.Parts.{parts_gather, length_gather}
use Rattle.wire.specs.Lun.{lun_of}
use Rattle.paper.specs.Sizes.{id_size}
use Rattle.paper.specs.Identifiers.{type_byte, kept}
use Rattle.paper.specs.Pages.{page_code, page_length, id_type_of, page_type, id_length_in, page_id, kept_id, descriptor_in, descriptors_in, descriptor_run, is_default, luacd_of, token_in, tokens_in}
use Rattle.paper.specs.Reports.{luacd_bytes, head_bytes, identifier_bytes, token_bytes}
use Rattle.paper.proofs.Getters.{length_kept}
use Rattle.paper.proofs.Lengths.{length_luacd}
use Rattle.paper.proofs.SameId.{kept_again}
use Rattle.paper.proofs.Luns.{head_back, same_lun}
use Rattle.paper.specs.declared.state.IdType.{IdType}
use Rattle.paper.specs.declared.state.IdType.TheVariants.{AccessId, TransportId}
use Rattle.paper.specs.declared.state.Luacd.{Luacd}
use Rattle.paper.specs.declared.state.Descriptor.{Descriptor}
use Rattle.paper.specs.declared.state.Ace.{Ace}
use Rattle.paper.specs.declared.state.Token.{Token}

-- ---- a LUN: its eight bytes, at a place
whole : (h : ℕ) → h < 65536 → lun_of h < 256 ^ 8
whole h l = omega arith

pub lun_back : (h at : ℕ) (p q : List ℕ) → length p ≡ at → h < 65536 → be 8 (p ++ (be_bytes 8 (lun_of h) ++ q)) at ≡ lun_of h
lun_back h at p q l m = be_at 8 (lun_of h) at p q l (whole h m)

-- ---- a page's head
pub code_back : (code n : ℕ) (rest : List ℕ) → page_code (head_bytes code n ++ rest) ≡ code
code_back code n rest = refl

pub length_back : (code n : ℕ) (rest : List ℕ) → n < 65536 → page_length (head_bytes code n ++ rest) ≡ n
length_back code n rest h = be_at 2 n 2 (code ∷ (0 ∷ [])) rest refl (omega arith)

-- ---- an identifier, behind a page's head
type_back : (k : IdType) → id_type_of (type_byte k) ≡ k
type_back AccessId = refl
type_back TransportId = refl

module _ (code n : ℕ) (a : Ace) (rest : List ℕ) where
  abbrev pub page : List ℕ
  page = head_bytes code n ++ (identifier_bytes id_size a ++ rest)

  pub page_type_lem : page_type page ≡ a.kind
  unfolding identifier_bytes be_bytes
  page_type_lem = type_back a.kind

  pub page_size_lem : id_length_in page ≡ id_size
  unfolding identifier_bytes be_bytes be
  page_size_lem = refl

  pub page_id_lem : page_id id_size page ≡ kept a.kind a.id
  unfolding identifier_bytes be_bytes
  page_id_lem = take_at (kept a.kind a.id) rest id_size (length_kept a.kind a.id)

  pub page_kept : kept_id page ≡ kept a.kind a.id
  page_kept = rw (page_type_lem, page_id_lem) (kept_again a.kind a.id)

  pub page_run : descriptor_run id_size page ≡ rest
  unfolding identifier_bytes be_bytes
  page_run = drop_at (kept a.kind a.id) rest id_size (length_kept a.kind a.id)

-- ---- a LUACD descriptor
-- as it is sent: access mode 00h, its LUN, the default LUN of its unit
abbrev pub sent_as : List ℕ → Luacd → Descriptor
sent_as luns p = record { mode = 0; lun = lun_of p.lun; default = lun_of (get_or luns p.unit 0) }

-- its LUN and its unit's default LUN have two bytes
pub record Fitting (luns : List ℕ) (p : Luacd) : Type 0 where
  pub lun : p.lun < 65536
  pub default : get_or luns p.unit 0 < 65536

-- eight bytes at 4, and eight at 12, behind four others
first_back : (x y : ℕ) → x < 256 ^ 8 → be 8 (replicate 4 0 ++ (be_bytes 8 x ++ be_bytes 8 y)) 4 ≡ x
first_back x y h = be_at 8 x 4 (replicate 4 0) (be_bytes 8 y) refl h

second_back : (x y : ℕ) → y < 256 ^ 8 → be 8 (replicate 4 0 ++ (be_bytes 8 x ++ be_bytes 8 y)) 12 ≡ y
second_back x y h = rw append-nil at (be_at 8 y 12 (replicate 4 0 ++ be_bytes 8 x) [] (omega (arith, bytes_length 8 x)) h)

pub luacd_back : (luns : List ℕ) (p : Luacd) → Fitting luns p → descriptor_in (luacd_bytes luns p) ≡ sent_as luns p
unfolding descriptor_in luacd_bytes
luacd_back luns p f = rw (first_back _ _ (whole _ f.lun), second_back _ _ (whole _ f.default))

-- the unit with a default LUN, where all of them are different
unit_back : (luns : List ℕ) (u : ℕ) → u < length luns → pairs eqb luns ≡ false → place_of (is_default (lun_of (get_or luns u 0))) luns ≡ u
unfolding pairs place_of
unit_back [] u h d = absurd (omega arith)
unit_back (x ∷ l) zero h d = rw (eq-eqb (lun_of x) (lun_of x) refl)
unit_back (x ∷ l) (suc u) h d =
    let parted = or_false (any (eqb x) l) (pairs eqb l) d in
    let inside : u < length l = omega arith in
    rw (same_lun x (get_or l u 0) ∙ any_none (eqb x) parted.0 (in_get_or 0 l u inside)) (ap suc (unit_back l u inside parted.1))

pub place_back : (luns : List ℕ) (p : Luacd) → p.unit < length luns → pairs eqb luns ≡ false → luacd_of luns (sent_as luns p) ≡ p
place_back luns p h d = rw (head_back p.lun, unit_back luns p.unit h d)

-- a run of descriptors
pub run_back : (luns : List ℕ) (ls : List Luacd) → ((p : Luacd) → p ∈ ls → Fitting luns p) → descriptors_in (gather (luacd_bytes luns) ls) ≡ map (sent_as luns) ls
unfolding descriptors_in
run_back luns ls f =
    let run = gather (luacd_bytes luns) ls in
    let size = length_gather (luacd_bytes luns) 20 ls (λ p m. length_luacd luns p) in
    let many : length run / 20 ≡ length ls = rw size (mul-div_cancel_left (length ls) (omega arith)) in
    let cut = rw append-nil at (parts_gather (luacd_bytes luns) 20 ls [] (λ p m. length_luacd luns p)) in
    rw (many, cut) (map_map (luacd_bytes luns) descriptor_in (sent_as luns) ls (λ p m. luacd_back luns p (f p m)))

-- ---- tokens: in the report, and as a page 02h lists them
pub token_back : (luns : List ℕ) (t : Token) → t.number < 256 ^ 8 → be 8 (token_bytes luns t) 4 ≡ t.number
unfolding token_bytes
token_back luns t h = first_back t.number _ h

pub tokens_back : (ns : List ℕ) → ((n : ℕ) → n ∈ ns → n < 256 ^ 8) → length ns < 8192 → tokens_in (head_bytes 0x02 (8 * length ns) ++ gather (be_bytes 8) ns) ≡ ns
unfolding tokens_in be_bytes
tokens_back ns f l =
    let many : page_length (head_bytes 0x02 (8 * length ns) ++ gather (be_bytes 8) ns) / 8 ≡ length ns = rw (length_back 0x02 (8 * length ns) (gather (be_bytes 8) ns) (omega arith)) (mul-div_cancel_left (length ns) (omega arith)) in
    let cut = rw append-nil at (parts_gather (be_bytes 8) 8 ns [] (λ n m. bytes_length 8 n)) in
    rw (many, cut) (map_map (be_bytes 8) token_in (λ n. n) ns (λ n m. be_bytes_lem 8 n (f n m)) ∙ map_same (λ n. n) ns (λ n m. refl))
