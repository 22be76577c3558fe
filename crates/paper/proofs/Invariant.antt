-- What holds after every statement of a run: the tables say what the history says, and the tables hold together by themselves.
use Prim.Native.Nat.{ℕ}
use mathlib.Core.Path.{◌≡◌}
use mathlib.Core.List.{List, []}
use Rattle.std.specs.Prelude.{Option, Some, None}
use mathlib.Core.Bool.{true}
use Rattle.lists.specs.Lists.{◌∈◌, find, is_some}
use Rattle.lists.proofs.Members.{Once}
use Rattle.paper.specs.Setup.{Setup}
use Rattle.paper.specs.Contents.{Content, these}
use Rattle.paper.specs.Tables.{unit_table, units_of, transports_of, enrolment_of, aces_of, tokens_of, proxies_of}
use Rattle.paper.specs.Rows.{content_for, has_number, token_for}
use Rattle.paper.specs.Standing.{standing}
use Rattle.paper.specs.Applied.{is_proxy}
use Rattle.paper.specs.Readings.{History, is_on, last_page, enrolment, live_tokens, token, proxy_token}
use Rattle.paper.proofs.Getters.{settled}
use Rattle.paper.specs.declared.state.IdType.{IdType}
use Rattle.paper.specs.declared.state.Token.{Token}
use Rattle.paper.specs.declared.state.ProxyLun.{ProxyLun}
use Rattle.paper.specs.declared.state.Coordinator.{Coordinator}

-- what an identifier holds by its last page: nothing where there was none
abbrev pub content_left : Option Content → Content
content_left None = these []
content_left (Some content) = content

-- the token behind an initiator's proxy LUN, by the tables
abbrev pub token_behind : List Token → Option ProxyLun → Option Token
token_behind ts None = None
token_behind ts (Some p) = token_for ts p.token

abbrev pub behind : Coordinator → ℕ → ℕ → Option Token
behind c i l = token_behind (tokens_of c) (find (is_proxy i l) (proxies_of c))

-- ---- the tables say what the history says
pub record Agrees (w : Setup) (h : History) (c : Coordinator) : Type 0 where
  pub transports : transports_of c ≡ w.transports
  pub units : units_of c ≡ w.luns
  pub on : c.enabled ≡ is_on h
  pub pages : (k : IdType) (id : List ℕ) → content_for (aces_of c) k id ≡ content_left (last_page h k id)
  pub enrolments : (i : ℕ) → enrolment_of c i ≡ enrolment h i
  pub live : tokens_of c ≡ live_tokens w h
  pub tokens : (n : ℕ) → token_for (tokens_of c) n ≡ token w h n
  pub proxies : (i l : ℕ) → behind c i l ≡ proxy_token w h i l

-- ---- the tables by themselves, between the effects of one statement too
pub record Sound (c : Coordinator) : Type 0 where
  pub tokens : (n : ℕ) → Once (has_number n) (tokens_of c)
  pub proxies : (i l : ℕ) → Once (is_proxy i l) (proxies_of c)
  pub live : (p : ProxyLun) → p ∈ proxies_of c → is_some (token_for (tokens_of c) p.token) ≡ true
  pub kept : (i : ℕ) → settled (enrolment_of c i) ≡ enrolment_of c i

-- ---- after every statement
pub record Holds (w : Setup) (h : History) (c : Coordinator) : Type 0 where
  pub agrees : Agrees w h c
  pub sound : Sound c
  pub stands : standing c ≡ true
  pub table : c.units ≡ unit_table w.luns
