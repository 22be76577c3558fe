-- The coordinator that a setup starts.
use Rattle.std.specs.Prelude.{ℕ, List, [], false, cond}
use Rattle.paper.specs.Answers.{values_of}
use Rattle.paper.specs.Setup.{Setup, setup_in, accepted}
use Rattle.paper.specs.Tables.{coordinator_of, initiator_table, unit_table, acl_of, token_table, proxy_table}
use Rattle.paper.specs.declared.state.Coordinator.{Coordinator}
use Rattle.paper.specs.declared.outcomes.Started.{Started}
use Rattle.paper.specs.declared.answers.Refusal.TheVariants.{BadSetup}
use Rattle.paper.specs.declared.answers.Answer.{Answer}
use Rattle.paper.specs.declared.answers.Answer.TheVariants.{Good, Refused}

-- a setup without initiators and units
abbrev pub nothing : Setup
nothing = record { transports = []; luns = [] }

-- "A fresh coordinator is disabled and starts with every table empty."
unfoldable pub fresh : Setup → Coordinator
fresh w =
    coordinator_of false 0 0 (initiator_table w.transports) (unit_table w.luns) (acl_of []) (token_table []) (proxy_table [])

abbrev pub started_with : Setup → Answer → Started
started_with w a = record { state = fresh w; answer = a; values = values_of a }

-- "1: setup breaks the rules above (at setup only); a coordinator without initiators and units comes back"
unfoldable pub started : List ℕ → List ℕ → Started
started ids luns = cond (accepted ids luns) (started_with (setup_in ids luns) Good) (started_with nothing (Refused BadSetup))
