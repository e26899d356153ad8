-- One label of a `switch`.
use Rattle.std.specs.Prelude.{ℕ}
use Rattle.val_core.specs.declared.operation.Op2.TheVariants as op
use Rattle.c_typed.specs.Typed.{GroupTrees}
use Rattle.g_graph.specs.declared.op.Origin.{Origin}
use Rattle.g_build_def.specs.Writer.{Point, Built, given, bind}
use Rattle.g_build_def.specs.Operations.{const_made, bin_made}
use Rattle.g_build_def.specs.Switch.{Label, word_difference, moved_where, default_target, labels_of, some_segment_has_several, segment_made, from_made}

-- whether the value is equal to the word of a label, and the number after that label
pub record Found : Type 0 where
  pub equal : Origin
  pub number : Origin

abbrev pub label_made : (value : Origin) → (default : ℕ) → Label → (number : Origin) → Point → Built Found
label_made p d l n s =
    bind (const_made l.word s) (λ w t.
    bind (bin_made op.Eq p w t) (λ q u.
    bind (moved_where q (word_difference l.target.segment d) n u) (λ m v. given (record { equal = q; number = m }) v)))

-- the number of the segment, where `from` has come into scope if some segment has several groups
abbrev pub segment_chosen : (value : Origin) → GroupTrees → Point → Built Origin
segment_chosen p gs s =
    bind (segment_made p (default_target 0 0 gs).segment (labels_of 0 0 gs) s) (λ x t.
    bind (from_made (some_segment_has_several gs) (default_target 0 0 gs).group (labels_of 0 0 gs) x.equals t) (λ _ u. given x.number u))
