-- The key is taken and access controls are turned on: the standing rules between effects stay.
use Prim.Native.Nat.{ℕ}
use mathlib.Core.Path.{refl}
use Rattle.paper.specs.Standing.{setup_kept, generation_right}
use Rattle.paper.specs.Effects.{turned_on, switched, keyed}
use Rattle.paper.specs.Applied.{applied}
use Rattle.paper.proofs.Ruled.{Ruled}
use Rattle.paper.specs.declared.state.Coordinator.{Coordinator}

pub keyed_ruled : (c : Coordinator) (key : ℕ) → Ruled c → Ruled (applied c (keyed key))
unfolding applied setup_kept generation_right
keyed_ruled c key r =
    record {
      setup = r.setup;
      generation = r.generation;
      aces = r.aces;
      tokens = r.tokens;
      proxies = r.proxies;
      enrolments = r.enrolments;
    }

-- "DLgeneration .. 1 enabled"
pub on_ruled : (c : Coordinator) → Ruled c → Ruled (applied c (switched turned_on))
unfolding applied setup_kept generation_right
on_ruled c r =
    record {
      setup = r.setup;
      generation = refl;
      aces = r.aces;
      tokens = r.tokens;
      proxies = r.proxies;
      enrolments = r.enrolments;
    }
