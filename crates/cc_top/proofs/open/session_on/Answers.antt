use Rattle.std.proofs.Common.{◌≡◌, sym, ap, subst, ◌∙◌}
use Rattle.cc_source.specs.Refusal.{refusal_of}
use Rattle.cc_source.specs.Refused.{IsRejectionOf}
use Rattle.cc_source.proofs.lemmas.Sources.{rejected}
use Rattle.cc_top.proofs.open.session_on.Goals as goal

pub returns-clause-rejected : goal.returns-clause-rejected
returns-clause-rejected c =
    let text = c.args.text.items in
    let fault = c.in-Err.fault in
    let same : c.deref-in-Err.result.now ≡ text = c.deref-in-Err.ensures.value ∙ (c.in_ok-copy.ensures.items ∙ c.deref.ensures.value) in
    subst (IsRejectionOf text) (sym c.outcome_of.ensures)
    (rejected text fault c.refusal_of.result c.in-Err.ensures.refused (ap (refusal_of fault) (sym same) ∙ sym c.refusal_of.ensures))
