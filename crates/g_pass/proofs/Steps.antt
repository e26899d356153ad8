-- Each rule makes a step wherever it applies.
use Rattle.std.proofs.Common.{◌≡◌, Bool, true, false, if◌then◌else◌, List, Some, None, subst}
use Rattle.std.proofs.lemmas.Option.{none-some, same_Some}
use Rattle.r_rule.specs.declared.steps.Rule.TheVariants.{Fold, Cne, Dne, Inv, Push, Pull, Invert, Unroll, Inline}
use Rattle.g_graph.specs.Plain.{PlainLambda}
use Rattle.r_edit.specs.Steps.{MayStandFor}
use Rattle.r_fold.specs.Laws.{FoldIsAStep}
use Rattle.r_cne.specs.Laws.{CneIsAStep}
use Rattle.r_dne.specs.Laws.{DneIsAStep}
use Rattle.r_inv.specs.Laws.{InvIsAStep}
use Rattle.r_push.specs.Laws.{PushIsAStep}
use Rattle.r_pull.specs.Laws.{PullIsAStep}
use Rattle.r_unroll.specs.Laws.{UnrollIsAStep}
use Rattle.r_invert.specs.Laws.{InvertIsAStep}
use Rattle.r_inline.specs.Laws.{InlineIsAStep}
use Rattle.g_pass.specs.Sweep.{applies, applied}
use Rattle.g_pass.proofs.InlinedSteps.{inlined_is_a_step}
use Rattle.g_pass.specs.MeaningLaws.{RulesAreSteps}

where-it-applies : (held : List PlainLambda) (test : Bool) (l x k : PlainLambda) → MayStandFor held l x → (if test then Some x else None) ≡ Some k → MayStandFor held l k
where-it-applies held true l x k step e = subst (MayStandFor held l) (same_Some x k e) step
where-it-applies held false l x k step e = absurd (none-some k e)

pub rules_are_steps : FoldIsAStep → CneIsAStep → DneIsAStep → InvIsAStep → PushIsAStep → PullIsAStep → InvertIsAStep → UnrollIsAStep → InlineIsAStep → RulesAreSteps
rules_are_steps fold cne dne inv push pull invert unroll inline Fold held n l k well all apart e = where-it-applies held (applies Fold l n) l (applied Fold n l) k (fold held n l well) e
rules_are_steps fold cne dne inv push pull invert unroll inline Cne held n l k well all apart e = where-it-applies held (applies Cne l n) l (applied Cne n l) k (cne held n l well) e
rules_are_steps fold cne dne inv push pull invert unroll inline Dne held n l k well all apart e = where-it-applies held (applies Dne l n) l (applied Dne n l) k (dne held n l well) e
rules_are_steps fold cne dne inv push pull invert unroll inline Inv held n l k well all apart e = where-it-applies held (applies Inv l n) l (applied Inv n l) k (inv held n l well) e
rules_are_steps fold cne dne inv push pull invert unroll inline Push held n l k well all apart e = where-it-applies held (applies Push l n) l (applied Push n l) k (push held n l well) e
rules_are_steps fold cne dne inv push pull invert unroll inline Pull held n l k well all apart e = where-it-applies held (applies Pull l n) l (applied Pull n l) k (pull held n l well) e
rules_are_steps fold cne dne inv push pull invert unroll inline Invert held n l k well all apart e = where-it-applies held (applies Invert l n) l (applied Invert n l) k (invert held n l well) e
rules_are_steps fold cne dne inv push pull invert unroll inline Unroll held n l k well all apart e = where-it-applies held (applies Unroll l n) l (applied Unroll n l) k (unroll held n l well) e
rules_are_steps fold cne dne inv push pull invert unroll inline Inline held n l k well all apart e = inlined_is_a_step inline held n l k well all e
