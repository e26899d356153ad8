use Rattle.std.proofs.Common.{◌≡◌, ◌++◌, map, drop}
use Rattle.g_build.specs.LabelViews.{label_of, target_of, labels_at}
use Rattle.g_build.proofs.labels.push_labels.Given as goal

abbrev pub invariant-loop-word : goal.invariant-loop-word
invariant-loop-word l =
    map label_of l.labels.items ++ labels_at (target_of l.target) (drop l.word-index l.cases)
    ≡ map label_of l.initial.labels.items ++ labels_at (target_of l.target) l.cases
