-- The history, what took effect, and what stands by it. The imports show that no table is read: the setup, the effects, and what an identifier or an ACE is.
use Rattle.std.specs.Prelude.{ℕ, ◌<◌, ◌≡◌, List, [], ◌∷◌, ◌++◌, Bool, true, false, cond, not, ◌&&◌, length, eqb}
use Rattle.std.specs.Prelude.{Option, Some, None}
use Rattle.lists.specs.Lists.{◌∈◌, find, keep, nth, is_some}
use Rattle.wire.specs.Lun.{lun_of, head_of}
use Rattle.paper.specs.Identifiers.{same_id}
use Rattle.paper.specs.Grounds.{opens_by}
use Rattle.paper.specs.Setup.{Setup}
use Rattle.paper.specs.Contents.{Content, held, all_units, Enrolment, not_enrolled, enrolled, pending}
use Rattle.paper.specs.Effects.{Switching, turned_on, turned_off, Enrolling, flushed, joined, left, link_event, Ending, ends, outlives, issued, ended, assigned, released, Effect, switched, keyed, granted, enrolling, tokening, proxying, suspended, ended_under, ends_enrolments}
use Rattle.paper.specs.declared.state.IdType.{IdType}
use Rattle.paper.specs.declared.state.IdType.TheVariants.{AccessId, TransportId}
use Rattle.paper.specs.declared.state.Luacd.{Luacd}
use Rattle.paper.specs.declared.state.Token.{Token}
use Rattle.paper.specs.declared.state.Ground.{Ground}
use Rattle.paper.specs.declared.state.Ground.TheVariants.{GroundA, GroundO, GroundT, GroundW, GroundX}
use Rattle.paper.specs.declared.state.Row.{Row}

-- what took effect, newest first
abbrev pub History : Type 0
History = List Effect

-- ---- access controls
abbrev pub is_on_after : Switching → Bool
is_on_after turned_on = true
is_on_after turned_off = false

-- are they on?
unfoldable pub is_on : History → Bool
is_on [] = false
is_on (switched s ∷ h) = is_on_after s
is_on (keyed k ∷ h) = is_on h
is_on (granted k id content n ∷ h) = is_on h
is_on (enrolling x ∷ h) = is_on h
is_on (tokening x ∷ h) = is_on h
is_on (proxying x ∷ h) = is_on h

-- ---- pages: the last one for an identifier, since access controls were last turned on
unfoldable pub last_page : History → IdType → List ℕ → Option Content
last_page [] k id = None
last_page (switched s ∷ h) k id = None
last_page (keyed x ∷ h) k id = last_page h k id
last_page (granted l a content n ∷ h) k id = cond (same_id l a k id) (Some content) (last_page h k id)
last_page (enrolling x ∷ h) k id = last_page h k id
last_page (tokening x ∷ h) k id = last_page h k id
last_page (proxying x ∷ h) k id = last_page h k id

-- ---- enrolments: that of an initiator, since access controls were last turned on
abbrev pub after_enrolment : Enrolling → ℕ → Enrolment → Enrolment
after_enrolment flushed i e = suspended e
after_enrolment (joined j id) i e = cond (eqb j i) (enrolled id) e
after_enrolment (left j) i e = cond (eqb j i) not_enrolled e
after_enrolment (link_event j) i e = cond (eqb j i) (suspended e) e

unfoldable pub enrolment : History → ℕ → Enrolment
enrolment [] i = not_enrolled
enrolment (switched s ∷ h) i = not_enrolled
enrolment (keyed k ∷ h) i = enrolment h i
enrolment (granted k id content n ∷ h) i =
    cond (ends_enrolments k content n) (ended_under id (enrolment h i)) (enrolment h i)
enrolment (enrolling x ∷ h) i = after_enrolment x i (enrolment h i)
enrolment (tokening x ∷ h) i = enrolment h i
enrolment (proxying x ∷ h) i = enrolment h i

-- ---- what an identifier gives: the units, each at its LUN, of the last page for it
-- an identifier for which there was no page gives nothing
abbrev pub on_page : Setup → Option Content → List Luacd
on_page w None = []
on_page w (Some content) = held w.luns content

abbrev pub given_to : Setup → History → IdType → Option (List ℕ) → List Luacd
given_to w h k None = []
given_to w h k (Some id) = on_page w (last_page h k id)

-- the TransportID of an initiator, if there is one of that number
abbrev pub transport_id : Setup → ℕ → Option (List ℕ)
transport_id w i = nth w.transports i

-- the AccessID under which an initiator is enrolled, and under which it is pending
abbrev pub enrolled_under : Enrolment → Option (List ℕ)
enrolled_under not_enrolled = None
enrolled_under (enrolled id) = Some id
enrolled_under (pending id) = None

abbrev pub pending_under : Enrolment → Option (List ℕ)
pending_under not_enrolled = None
pending_under (enrolled id) = None
pending_under (pending id) = Some id

-- "T from its TransportID's ACE, A from its AccessID's ACE when enrolled, W the same when pending"
abbrev pub given_by_t : Setup → History → ℕ → List Luacd
given_by_t w h i = given_to w h TransportId (transport_id w i)

abbrev pub given_by_a : Setup → History → ℕ → List Luacd
given_by_a w h i = given_to w h AccessId (enrolled_under (enrolment h i))

abbrev pub given_by_w : Setup → History → ℕ → List Luacd
given_by_w w h i = given_to w h AccessId (pending_under (enrolment h i))

-- ---- tokens
-- the unit that a LUN opens for an initiator by its TransportID, or by its AccessID while it is enrolled, if it opens one
abbrev pub at_lun : ℕ → Luacd → Bool
at_lun l p = eqb (lun_of p.lun) l

unfoldable pub place_named : Setup → History → ℕ → ℕ → Option Luacd
place_named w h i l = find (at_lun l) (given_by_t w h i ++ given_by_a w h i)

-- a token as it is issued. By naming a LUN that opens nothing there is none
abbrev pub token_from : ℕ → ℕ → ℕ → Option Luacd → Option Token
token_from i l n None = None
token_from i l n (Some p) = Some (record { number = n; unit = p.unit; requester = i; lun = head_of l })

abbrev pub token_issued : Setup → History → ℕ → ℕ → ℕ → Option Token
token_issued w h i l n = token_from i l n (place_named w h i l)

-- what is left of a token after an ending
abbrev pub unless_ended : Ending → Option Token → Option Token
unless_ended e None = None
unless_ended e (Some t) = cond (ends e t) None (Some t)

-- the token that a number stands for: as it was last issued, unless it was ended since. "Each issue is a new token, even with a number used before."
unfoldable pub token : Setup → History → ℕ → Option Token
token w [] n = None
token w (switched s ∷ h) n = None
token w (keyed k ∷ h) n = token w h n
token w (granted k id content x ∷ h) n = token w h n
token w (enrolling x ∷ h) n = token w h n
token w (tokening (issued i l m) ∷ h) n = cond (eqb m n) (token_issued w h i l m) (token w h n)
token w (tokening (ended e) ∷ h) n = unless_ended e (token w h n)
token w (proxying x ∷ h) n = token w h n

-- the tokens that were issued and have not ended, in the order of their issue
abbrev pub one_more : List Token → Option Token → List Token
one_more ts None = ts
one_more ts (Some t) = ts ++ (t ∷ [])

unfoldable pub live_tokens : Setup → History → List Token
live_tokens w [] = []
live_tokens w (switched s ∷ h) = []
live_tokens w (keyed k ∷ h) = live_tokens w h
live_tokens w (granted k id content x ∷ h) = live_tokens w h
live_tokens w (enrolling x ∷ h) = live_tokens w h
live_tokens w (tokening (issued i l n) ∷ h) = one_more (live_tokens w h) (token_issued w h i l n)
live_tokens w (tokening (ended e) ∷ h) = keep (outlives e) (live_tokens w h)
live_tokens w (proxying x ∷ h) = live_tokens w h

-- "tokens issued less tokens ended"
abbrev pub issued_less_ended : Setup → History → ℕ
issued_less_ended w h = length (live_tokens w h)

-- "a usable number": not zero, and no live token's
abbrev pub usable : Setup → History → ℕ → Bool
usable w h n = not (eqb n 0) && not (is_some (token w h n))

-- ---- proxy LUNs: the token behind an initiator's, as it was issued when the LUN was assigned; unless the proxy LUN was released, or that token ended, since
abbrev pub same_proxy_lun : ℕ → ℕ → ℕ → ℕ → Bool
same_proxy_lun j m i l = eqb j i && eqb m l

unfoldable pub proxy_token : Setup → History → ℕ → ℕ → Option Token
proxy_token w [] i l = None
proxy_token w (switched s ∷ h) i l = None
proxy_token w (keyed k ∷ h) i l = proxy_token w h i l
proxy_token w (granted k id content x ∷ h) i l = proxy_token w h i l
proxy_token w (enrolling x ∷ h) i l = proxy_token w h i l
proxy_token w (tokening (issued j m n) ∷ h) i l = proxy_token w h i l
proxy_token w (tokening (ended e) ∷ h) i l = unless_ended e (proxy_token w h i l)
proxy_token w (proxying (assigned j m n) ∷ h) i l = cond (same_proxy_lun j m i l) (token w h n) (proxy_token w h i l)
proxy_token w (proxying (released j m) ∷ h) i l = cond (same_proxy_lun j m i l) None (proxy_token w h i l)

-- ---- what stands
abbrev pub Gives : List Luacd → ℕ → ℕ → Type 0
Gives places l u = record { lun = l; unit = u } ∈ places

-- the grounds on which a LUN gives an initiator a unit. "X its proxy LUNs"; "Disabled: each initiator has a row O for each unit at its default LUN."
abbrev pub On : Setup → History → Ground → ℕ → ℕ → ℕ → Type 0
On w h GroundT i l u = (is_on h ≡ true) × Gives (given_by_t w h i) l u
On w h GroundA i l u = (is_on h ≡ true) × Gives (given_by_a w h i) l u
On w h GroundW i l u = (is_on h ≡ true) × Gives (given_by_w w h i) l u
On w h GroundX i l u = (is_on h ≡ true) × (t : Token) × (proxy_token w h i (lun_of l) ≡ Some t) × (t.unit ≡ u)
On w h GroundO i l u = (is_on h ≡ false) × Gives (all_units w.luns) l u

-- a row stands: the initiator and the unit are the setup's, the LUN is 00h, nn and six 00h, and there is a ground. So a row is "four bytes"
pub record Stands (w : Setup) (h : History) (r : Row) : Type 0 where
  pub initiator : r.initiator < length w.transports
  pub lun : r.lun < 256
  pub unit : r.unit < length w.luns
  pub ground : On w h r.ground r.initiator r.lun r.unit

-- a LUN opens a unit for an initiator
pub record OpensTo (w : Setup) (h : History) (i l u : ℕ) : Type 0 where
  pub ground : Ground
  pub opens : opens_by ground ≡ true
  pub stands : Stands w h (record { initiator = i; lun = l; unit = u; ground = ground })

-- "No LUN opens two units for one initiator."
abbrev pub OneUnit : Setup → History → Type 0
OneUnit w h = (i l u v : ℕ) → OpensTo w h i l u → OpensTo w h i l v → u ≡ v
