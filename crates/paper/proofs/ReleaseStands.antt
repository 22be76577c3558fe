-- RELEASE PROXY LUN keeps the standing rules: the X rows are some of those before.
use Prim.Native.Nat.{ℕ}
use mathlib.Core.Path.{◌≡◌, refl}
use mathlib.Core.Bool.{Bool, true}
use native.Mathlib.Omega.{arith}
use Rattle.lists.specs.Lists.{keep}
use Rattle.lists.proofs.Members.{from_keep, length_keep, pairs_keep}
use Rattle.paper.specs.Tables.{enrolment_of, proxies_of, tokens_of, with_proxies}
use Rattle.paper.specs.Rows.{row_of_proxy, owned_by, transport_rows, proxy_rows, open_rows, clashing}
use Rattle.paper.specs.Standing.{same_proxy, empty_while_off, standing}
use Rattle.paper.specs.Effects.{released, proxying}
use Rattle.paper.specs.Applied.{other_proxy, applied}
use Rattle.paper.proofs.Getters.{proxies_with}
use Rattle.paper.proofs.Stood.{stood, counted}
use Rattle.paper.proofs.Ruled.{Ruled, ruled, stands_by}
use Rattle.paper.proofs.FewerRows.{Fewer, some_all, some_gather, fewer_rows, some_rows, same_enrolment}
use Rattle.paper.proofs.Counts.{within, proxies_counted, proxies_within}
use Rattle.paper.proofs.TablesStand.{put_proxies}
use Rattle.paper.specs.declared.state.ProxyLun.{ProxyLun}
use Rattle.paper.specs.declared.state.Coordinator.{Coordinator}

module _ (c : Coordinator) (q : ProxyLun → Bool) where
  fewer_proxies : Ruled c → Ruled (with_proxies c (keep q (proxies_of c)))
  fewer_proxies w =
      let l = proxies_of c in
      let r = w.proxies in
      put_proxies c (keep q l) w
      (record { once = pairs_keep same_proxy q l r.once; each = λ p m. r.each p (from_keep q l m).0 })

  fewer_x : (i : ℕ) → Fewer clashing (proxy_rows (with_proxies c (keep q (proxies_of c))) i) (proxy_rows c i)
  unfolding proxy_rows
  fewer_x i =
      rw (proxies_with c (keep q (proxies_of c)))
      (some_gather clashing (row_of_proxy (tokens_of c)) (row_of_proxy (tokens_of c)) (owned_by i) q (λ p. some_all clashing (row_of_proxy (tokens_of c) p)) (proxies_of c))

  fewer_stand : standing c ≡ true → standing (with_proxies c (keep q (proxies_of c))) ≡ true
  unfolding transport_rows open_rows empty_while_off
  fewer_stand h =
      let s = stood c h in
      let n = counted c s.counts in
      let d = with_proxies c (keep q (proxies_of c)) in
      stands_by d
      (fewer_proxies (ruled c (stood c h)))
      (within d (proxies_within c (keep q (proxies_of c)) n (omega (arith, length_keep q (proxies_of c), proxies_counted c, n.few_proxies))))
      (fewer_rows c d refl (λ i k. some_rows c d i refl refl (some_all clashing (transport_rows c i)) (rw (same_enrolment c d refl refl i (enrolment_of c i)) (some_all clashing _)) (fewer_x i)) s.clashes)
      s.off

pub release_stands : (c : Coordinator) (i l : ℕ) → standing c ≡ true → standing (applied c (proxying (released i l))) ≡ true
unfolding applied
release_stands c i l h = fewer_stand c (other_proxy i l) h
