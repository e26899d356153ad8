-- Labels and targets, as the code keeps them.
use Rattle.std.specs.Prelude.{ℕ, List, map}
use Rattle.g_build_def.specs.Switch as s
use Rattle.g_build.specs.declared.labels.Target.{Target}
use Rattle.g_build.specs.declared.labels.Label.{Label}

abbrev pub target_of : Target → s.Target
target_of t = record { segment = t.segment; group = t.group }

abbrev pub label_of : Label → s.Label
label_of l = record { word = l.word; target = target_of l.target }

-- labels of these words that lead to one place
abbrev pub labels_at : s.Target → List ℕ → List s.Label
labels_at t ws = map (λ w. record { word = w; target = t }) ws
