-- What a source compiles to, why it is refused, and the outcome of one that is not compiled.
use Rattle.std.specs.Prelude.{◌≡◌, ◌⊎◌, ℕ, List, Option, Some, None}
use Rattle.std.specs.Option.{ForSome}
use Rattle.c_typed.specs.Typed.{ProgramTree}
use Rattle.cc_source.specs.Accepted.{Accepts, Refuses}
use Rattle.cc_source.specs.declared.fault.CompileFault.{CompileFault}
use Rattle.cc_io.specs.Files.{Name, FileSet, content}
use Rattle.cc_source.specs.Refusal.{refusal_of}
use Rattle.cc_report.specs.declared.outcome.Outcome.{Outcome}
use Rattle.cc_report.specs.declared.outcome.Outcome.TheVariants.{Refused, ReadFault, NoMemory}
use Rattle.cc_report.specs.declared.refusal.Refusal.{Refusal}

-- A source is refused so, for its fault.
abbrev pub IsRefused : List ℕ → Refusal → Type 0
IsRefused source refusal = (e : CompileFault) × Refuses e source × (refusal_of e source ≡ Some refusal)

-- ---- the outcome of a source that is not compiled

abbrev pub outcome_of_refusal : Option Refusal → Outcome
outcome_of_refusal None = NoMemory
outcome_of_refusal (Some refusal) = Refused refusal

-- The file of a source was not compiled: it is refused so where it is known, or it was not read, or memory ran out.
abbrev pub CompileFails : Name → Outcome → Option FileSet → (unread : Type 0) → Type 0
CompileFails name (Refused refusal) known unread = ForSome known (λ files. IsRefused (content name files) refusal)
CompileFails name ReadFault known unread = unread
CompileFails name NoMemory known unread = Unit {0}
CompileFails name _ known unread = ⊥

-- The source is refused so, or memory ran out.
abbrev pub IsRejectionOf : List ℕ → Outcome → Type 0
IsRejectionOf source (Refused refusal) = IsRefused source refusal
IsRejectionOf source NoMemory = Unit {0}
IsRejectionOf source _ = ⊥

-- ---- laws

-- A source has at most one refusal.
abbrev pub OneRefusal : Type 0
OneRefusal = (source : List ℕ) (r s : Refusal) → IsRefused source r → IsRefused source s → r ≡ s

-- A source that is accepted has none.
abbrev pub AcceptedIsNotRefused : Type 0
AcceptedIsNotRefused = (source : List ℕ) (p : ProgramTree) (r : Refusal) → Accepts source p → IsRefused source r → ⊥

-- A source is accepted, or it has one.
abbrev pub AcceptedOrRefused : Type 0
AcceptedOrRefused = (source : List ℕ) → ((p : ProgramTree) × Accepts source p) ⊎ ((r : Refusal) × IsRefused source r)
