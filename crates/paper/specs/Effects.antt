-- What can take effect, one thing at a time, in families. The coordinator puts effects into its tables (Applied), and the history is read from them (Readings): what both need of an effect stands here, and reads no table.
use Rattle.std.specs.Prelude.{ℕ, List, Bool, true, false, cond, not, ◌&&◌, ◌||◌, eqb}
use Rattle.lists.specs.Lists.{any}
use Rattle.wire.specs.Lun.{lun_of}
use Rattle.paper.specs.Identifiers.{same_id}
use Rattle.paper.specs.Contents.{Content, holds_nothing, Enrolment, not_enrolled, enrolled, pending}
use Rattle.paper.specs.declared.state.IdType.{IdType}
use Rattle.paper.specs.declared.state.IdType.TheVariants.{AccessId, TransportId}
use Rattle.paper.specs.declared.state.Token.{Token}

-- access controls go on or off
pub data Switching : Type 0 where
  turned_on turned_off : Switching

-- enrolments change
pub data Enrolling : Type 0 where
  flushed : Enrolling  -- every enrolled initiator turns pending
  joined : ℕ → List ℕ → Enrolling  -- an initiator enrols under an AccessID
  left : ℕ → Enrolling  -- its enrolment ends
  link_event : ℕ → Enrolling  -- the host tells of a link event

-- which tokens end
pub data Ending : Type 0 where
  own : ℕ → ℕ → Ending  -- that initiator's, of that number: "REVOKE ends the caller's own token"
  named : ℕ → ℕ → Ending  -- "08h ends all tokens the caller got by naming that LUN"
  listed : List ℕ → Ending  -- "Page 02h revokes the tokens it lists"
  all_tokens : Ending  -- "page 03h revokes all"

-- tokens are issued and end
pub data Tokening : Type 0 where
  issued : ℕ → ℕ → ℕ → Tokening  -- initiator, LUN named, number
  ended : Ending → Tokening

-- proxy LUNs are assigned and released
pub data Proxying : Type 0 where
  assigned : ℕ → ℕ → ℕ → Proxying  -- initiator, LUN, token
  released : ℕ → ℕ → Proxying  -- initiator, LUN

pub data Effect : Type 0 where
  switched : Switching → Effect
  keyed : ℕ → Effect  -- the key is taken
  granted : IdType → List ℕ → Content → Bool → Effect  -- a page for an identifier, with its NOCNCL
  enrolling : Enrolling → Effect
  tokening : Tokening → Effect
  proxying : Proxying → Effect

-- ---- what an effect does to one enrolment
-- "FLUSH turns every enrolled initiator pending"; a link event "turns that initiator from enrolled to pending"
abbrev pub suspended : Enrolment → Enrolment
suspended not_enrolled = not_enrolled
suspended (enrolled id) = pending id
suspended (pending id) = pending id

abbrev pub ended_under : List ℕ → Enrolment → Enrolment
ended_under id not_enrolled = not_enrolled
ended_under id (enrolled a) = cond (same_id AccessId a AccessId id) not_enrolled (enrolled a)
ended_under id (pending a) = cond (same_id AccessId a AccessId id) not_enrolled (pending a)

-- "A page that removes an AccessID's ACE, or replaces it with NOCNCL 0, ends every enrolment under it."
abbrev pub ends_enrolments : IdType → Content → Bool → Bool
ends_enrolments TransportId content nocncl = false
ends_enrolments AccessId content nocncl = holds_nothing content || not nocncl

-- ---- whether a token ends
abbrev pub ends : Ending → Token → Bool
ends (own i n) t = eqb t.requester i && eqb t.number n
ends (named i l) t = eqb t.requester i && eqb (lun_of t.lun) l
ends (listed ns) t = any (λ n. eqb n t.number) ns
ends all_tokens t = true

abbrev pub outlives : Ending → Token → Bool
outlives e t = not (ends e t)
