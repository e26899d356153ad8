-- What holds of the lines of every function.
use Rattle.std.specs.Prelude.{◌≡◌, ℕ, nat_lt, if◌then◌else◌, IsTrue}
use Rattle.g_graph.specs.WellFormed.{all_of}
use Rattle.s_linear.specs.Linear.{LinearFunction}
use Rattle.s_linear.specs.Lines.{code_labels, marks, goes_to, lines}

-- Each label below their number is marked once, and no other.
abbrev pub LabelsAreMarkedOnce : Type 0
LabelsAreMarkedOnce = (f : LinearFunction) (k : ℕ) → marks k (lines f) ≡ (if nat_lt k (code_labels f.code) then 1 else 0)

-- Each line that goes to a label goes to one below their number.
abbrev pub LinesGoToLabels : Type 0
LinesGoToLabels = (f : LinearFunction) → IsTrue (all_of (goes_to (λ l. nat_lt l (code_labels f.code))) (lines f))
