-- While access controls are off, the reach list is every unit at its default LUN for every initiator, and nothing else.
use Prim.Native.Nat.{ℕ, ◌<◌}
use mathlib.Core.Path.{◌≡◌, refl, sym, subst}
use mathlib.Core.Bool.{false}
use native.Mathlib.Omega.{arith}
use lib.ListN.{length}
use Rattle.lists.proofs.Tests.{clashes}
use Rattle.paper.specs.Setup.{Setup}
use Rattle.paper.specs.Contents.{all_units}
use Rattle.paper.specs.Reports.{reach_rows}
use Rattle.paper.specs.Readings.{History, is_on, Gives, On, Stands}
use Rattle.paper.specs.Runs.{Names}
use Rattle.paper.proofs.Invariant.{Holds}
use Rattle.paper.proofs.RowsStand.{initiators, row_stands, row_of}
use Rattle.paper.proofs.ReachNames.{reach_names}
use Rattle.paper.specs.declared.state.Ground.{Ground}
use Rattle.paper.specs.declared.state.Ground.TheVariants.{GroundA, GroundO, GroundT, GroundW, GroundX}
use Rattle.paper.specs.declared.state.Row.{Row}
use Rattle.paper.specs.declared.state.Coordinator.{Coordinator}

-- a row O of one of the setup's initiators, for one of its units at the unit's default LUN
pub record Open (w : Setup) (r : Row) : Type 0 where
  pub initiator : r.initiator < length w.transports
  pub place : Gives (all_units w.luns) r.lun r.unit
  pub ground : r.ground ≡ GroundO

module _ (w : Setup) (h : History) (c : Coordinator) (holds : Holds w h c) (off : is_on h ≡ false) where
  -- no other ground stands while they are off
  only_open : (g : Ground) (i l u : ℕ) → On w h g i l u → (g ≡ GroundO) × Gives (all_units w.luns) l u
  only_open GroundT i l u (on, k) = clashes on off
  only_open GroundA i l u (on, k) = clashes on off
  only_open GroundW i l u (on, k) = clashes on off
  only_open GroundX i l u (on, t, e, q) = clashes on off
  only_open GroundO i l u (o, k) = (refl, k)

  pub off_names : Names (reach_rows c) (Open w)
  off_names =
      let names = reach_names w h c holds in (
        names.0,
        λ r. (λ m. opened ((names.1 r).0 m), λ o. (names.1 r).1 (stands o)),
      )
    where
      opened : {r : Row} → Stands w h r → Open w r
      opened {r} s =
          let g = only_open r.ground r.initiator r.lun r.unit s.ground in
          record { initiator = s.initiator; place = g.1; ground = g.0 }

      stands : {r : Row} → Open w r → Stands w h r
      stands {r} o =
          let on = subst (λ g. On w h g r.initiator r.lun r.unit) (sym o.ground) (off, o.place) in
          row_stands w h c holds r.initiator (omega (arith, o.initiator, initiators w h c holds)) (row_of w h c holds r.ground r.initiator r.lun r.unit o.initiator on)
