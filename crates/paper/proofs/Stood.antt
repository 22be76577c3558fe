-- What a standing coordinator gives: each rule of refusal 2 by its name, and its counts as bounds.
use Prim.Native.Nat.{◌≤◌}
use mathlib.Core.Path.{◌≡◌}
use mathlib.Core.Bool.{true}
use lib.Dec.{leb}
use Rattle.lists.specs.Lists.{all}
use Rattle.lists.proofs.Tests.{and_true}
use borrow.Author.Tests.{leb-true}
use Rattle.paper.specs.Tables.{aces_of}
use Rattle.paper.specs.Standing.{setup_kept, within_sizes, identifiers_once, present_once, luacds_once, lists_filled, well_formed, tokens_nonzero, references_there, no_clash, generation_right, empty_while_off, standing, few_luacds}
use Rattle.paper.specs.declared.state.Coordinator.{Coordinator}

pub record Stood (c : Coordinator) : Type 0 where
  pub setup : setup_kept c ≡ true
  pub counts : within_sizes c ≡ true
  pub identifiers : identifiers_once c ≡ true
  pub proxies : present_once c ≡ true
  pub luacds : luacds_once c ≡ true
  pub lists : lists_filled c ≡ true
  pub forms : well_formed c ≡ true
  pub tokens : tokens_nonzero c ≡ true
  pub references : references_there c ≡ true
  pub clashes : no_clash c ≡ true
  pub generation : generation_right c ≡ true
  pub off : empty_while_off c ≡ true

pub stood : (c : Coordinator) → standing c ≡ true → Stood c
unfolding standing
stood c h =
    let a = and_true (setup_kept c) _ h in
    let b = and_true (within_sizes c) _ a.1 in
    let d = and_true (identifiers_once c) _ b.1 in
    let e = and_true (present_once c) _ d.1 in
    let f = and_true (luacds_once c) _ e.1 in
    let g = and_true (lists_filled c) _ f.1 in
    let i = and_true (well_formed c) _ g.1 in
    let j = and_true (tokens_nonzero c) _ i.1 in
    let k = and_true (references_there c) _ j.1 in
    let l = and_true (no_clash c) _ k.1 in
    let m = and_true (generation_right c) _ l.1 in
    record {
      setup = a.0;
      counts = b.0;
      identifiers = d.0;
      proxies = e.0;
      luacds = f.0;
      lists = g.0;
      forms = i.0;
      tokens = j.0;
      references = k.0;
      clashes = l.0;
      generation = m.0;
      off = m.1;
    }

-- no count passes its size
pub record Counted (c : Coordinator) : Type 0 where
  pub few_initiators : c.initiators.count ≤ 16
  pub few_units : c.units.count ≤ 32
  pub few_aces : c.acl.count ≤ 32
  pub luacds_few : all few_luacds (aces_of c) ≡ true
  pub few_tokens : c.tokens.count ≤ 32
  pub few_proxies : c.proxies.count ≤ 32

pub counted : (c : Coordinator) → within_sizes c ≡ true → Counted c
unfolding within_sizes
counted c h =
    let a = and_true (leb c.initiators.count 16) _ h in
    let b = and_true (leb c.units.count 32) _ a.1 in
    let d = and_true (leb c.acl.count 32) _ b.1 in
    let e = and_true (all few_luacds (aces_of c)) _ d.1 in
    let f = and_true (leb c.tokens.count 32) _ e.1 in
    record {
      few_initiators = leb-true _ _ a.0;
      few_units = leb-true _ _ b.0;
      few_aces = leb-true _ _ d.0;
      luacds_few = e.0;
      few_tokens = leb-true _ _ f.0;
      few_proxies = leb-true _ _ f.1;
    }
