use Rattle.std.proofs.Common.{refl, sym, ap, subst, ◌∙◌}
use Rattle.cc_source.specs.Refusal.{refusal_of}
use Rattle.cc_source.specs.Refused.{IsRejectionOf, outcome_of_refusal}
use Rattle.cc_source.proofs.lemmas.Sources.{rejected}
use Rattle.cc_top.proofs.interpreting.rejection_of.Goals as goal

pub returns : goal.returns
returns c =
    let s = c.args.source.now in
    let e = c.args.fault in
    subst (IsRejectionOf s) (sym (c.outcome_of.ensures ∙ ap outcome_of_refusal c.refusal_of.ensures)) (rejected s e (refusal_of e s) c.requires refl)
