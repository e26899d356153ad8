-- The report of how a call ended.
use Rattle.std.specs.Prelude.{◌≡◌, ◌⊎◌, ℕ, take, List, Option}
use Rattle.cc_io.specs.Faults.{Increased}
use Rattle.cc_io.specs.Sink.{append}
use Rattle.cc_report.specs.Outcome.{status_of, text_of}
use Rattle.cc_report.specs.declared.outcome.Ending.{Ending}
use Rattle.cc_report.specs.declared.outcome.Ending.TheVariants.{Line, Report}
use Rattle.cc_report.specs.declared.outcome.Outcome.{Outcome}
use Rattle.cc_report.specs.declared.outcome.Outcome.TheVariants.{Done}

-- the outcome of an ending, and what is said of it
abbrev pub outcome_of : Ending → Outcome
outcome_of (Line outcome) = outcome
outcome_of (Report text) = Done

abbrev pub said_by : Ending → List ℕ
said_by (Line outcome) = text_of outcome
said_by (Report text) = text.items

-- A call that ended so and tells this text answers `status`: the text was written whole and the status is its own, or
-- the report's count of faults increased, a prefix of the text was written and the status is 3.
abbrev pub IsReported : (ended : Outcome) (said : List ℕ) (status : ℕ) (held_before held : Option (List ℕ)) (faults_before faults : ℕ) → Type 0
IsReported ended said status held_before held faults_before faults =
    ((status ≡ status_of ended) × (held ≡ append held_before said))
    ⊎ ((status ≡ 3) × Increased faults_before faults × ((count : ℕ) × (held ≡ append held_before (take count said))))
