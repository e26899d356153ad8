use Rattle.std.proofs.Common.{refl, sym, ap, subst, ◌∙◌}
use Rattle.cc_source.specs.Refusal.{refusal_of}
use Rattle.cc_source.specs.Refused.{IsRejectionOf, outcome_of_refusal}
use Rattle.cc_source.proofs.lemmas.Sources.{rejected as is_rejected}
use Rattle.cc_view.proofs.shown.rejected.Goals as goal

pub returns-clause-ended : goal.returns-clause-ended
returns-clause-ended c =
    let s = c.args.source.now in
    let e = c.args.fault in
    subst (IsRejectionOf s) (sym (c.nothing.ensures.ended ∙ (c.outcome_of.ensures ∙ ap outcome_of_refusal c.refusal_of.ensures))) (is_rejected s e (refusal_of e s) c.requires refl)
