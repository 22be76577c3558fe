-- The outcome of a command that delivers no byte: its tests, and what takes effect where they pass.
use Rattle.std.specs.Prelude.{List, []}
use Rattle.paper.specs.Effects.{Effect}
use Rattle.paper.specs.Commands.{Verdict}
use Rattle.paper.specs.Outcomes.{good, judged, outcome_of}
use Rattle.paper.specs.declared.state.Coordinator.{Coordinator}
use Rattle.paper.specs.declared.outcomes.Outcome.{Outcome}

abbrev pub answered : Coordinator → Verdict → List Effect → Outcome
answered c v es = outcome_of c (judged v (good es []))
