-- The counts of tokens and proxy LUNs are the numbers of their entries in every state of a run: each change writes the entries in use and their number.
use mathlib.Core.Path.{◌≡◌, refl, ap, sym}
use mathlib.Core.List.{List, [], ◌∷◌, ◌++◌}
use mathlib.Core.Bool.{Bool, true, false}
use lib.ListN.{length}
use Rattle.lists.specs.Lists.{keep}
use Rattle.wire.specs.Lun.{head_of}
use Rattle.paper.specs.Setup.{Setup}
use Rattle.paper.specs.Tables.{tokens_of, proxies_of, with_tokens, with_proxies}
use Rattle.paper.specs.Fresh.{fresh}
use Rattle.paper.specs.Effects.{outlives, turned_on, turned_off, flushed, joined, left, link_event, issued, ended, assigned, released, Effect, switched, keyed, granted, enrolling, tokening, proxying, ends_enrolments}
use Rattle.paper.specs.Applied.{after_grant, issued_token, kept_by, other_proxy, applied, applied_all}
use Rattle.paper.specs.Outcomes.{Decision, refuse, check, good, decide_command, decide_link, outcome_of}
use Rattle.paper.specs.Runs.{Entry}
use Rattle.paper.specs.Promises.{Calls, none_yet, commanded, linked}
use Rattle.paper.proofs.Getters.{tokens_with, proxies_with}
use Rattle.paper.specs.declared.state.Token.{Token}
use Rattle.paper.specs.declared.state.ProxyLun.{ProxyLun}
use Rattle.paper.specs.declared.state.Coordinator.{Coordinator}

pub record Counts (c : Coordinator) : Type 0 where
  pub tokens : c.tokens.count ≡ length (tokens_of c)
  pub proxies : c.proxies.count ≡ length (proxies_of c)

-- a table as it is written
with_tokens_lem : (c : Coordinator) (l : List Token) → Counts c → Counts (with_tokens c l)
with_tokens_lem c l n = record { tokens = ap length (sym (tokens_with c l)); proxies = n.proxies }

with_proxies_lem : (c : Coordinator) (l : List ProxyLun) → Counts c → Counts (with_proxies c l)
with_proxies_lem c l n = record { tokens = n.tokens; proxies = ap length (sym (proxies_with c l)) }

-- ---- what takes effect writes one of these two tables, or neither
counts_stay : (c : Coordinator) (e : Effect) → Counts c → Counts (applied c e)
unfolding applied
counts_stay c (switched turned_on) n = record { tokens = n.tokens; proxies = n.proxies }
counts_stay c (switched turned_off) n = record { tokens = refl; proxies = refl }
counts_stay c (keyed k) n = record { tokens = n.tokens; proxies = n.proxies }
counts_stay c (granted k id content x) n = go (ends_enrolments k content x)
  where
    go : (b : Bool) → Counts (after_grant c k id content b)
    go true = record { tokens = n.tokens; proxies = n.proxies }
    go false = record { tokens = n.tokens; proxies = n.proxies }
counts_stay c (enrolling flushed) n = record { tokens = n.tokens; proxies = n.proxies }
counts_stay c (enrolling (joined i id)) n = record { tokens = n.tokens; proxies = n.proxies }
counts_stay c (enrolling (left i)) n = record { tokens = n.tokens; proxies = n.proxies }
counts_stay c (enrolling (link_event i)) n = record { tokens = n.tokens; proxies = n.proxies }
counts_stay c (tokening (issued i l m)) n = with_tokens_lem c (tokens_of c ++ (issued_token c i l m ∷ [])) n
counts_stay c (tokening (ended e)) n =
    let left_over = keep (outlives e) (tokens_of c) in
    with_proxies_lem (with_tokens c left_over) (keep (kept_by e (tokens_of c)) (proxies_of c)) (with_tokens_lem c left_over n)
counts_stay c (proxying (assigned i l m)) n =
    with_proxies_lem c (proxies_of c ++ (record { initiator = i; lun = head_of l; token = m } ∷ [])) n
counts_stay c (proxying (released i l)) n = with_proxies_lem c (keep (other_proxy i l) (proxies_of c)) n

all_stay : (c : Coordinator) (es : List Effect) → Counts c → Counts (applied_all c es)
unfolding applied_all
all_stay c [] n = n
all_stay c (e ∷ es) n = all_stay (applied c e) es (counts_stay c e n)

decided_stay : (c : Coordinator) (d : Decision) → Counts c → Counts (outcome_of c d).state
decided_stay c (refuse k) n = n
decided_stay c (check k) n = n
decided_stay c (good es bytes) n = all_stay c es n

-- ---- in every state of a run
pub fresh_counts : (w : Setup) → Counts (fresh w)
unfolding fresh
fresh_counts w = record { tokens = refl; proxies = refl }

pub calls_count : (first : Coordinator) → Counts first → (c : Coordinator) (es : List Entry) → Calls first c es → Counts c
calls_count first start c es none_yet = start
calls_count first start c es (commanded {c = now} {es = before} i cdb list random buffer calls kept) =
    rw kept.0 (decided_stay now (decide_command now i cdb list random (length buffer)) (calls_count first start now before calls))
calls_count first start c es (linked {c = now} {es = before} i calls kept) =
    rw kept (decided_stay now (decide_link now i) (calls_count first start now before calls))
