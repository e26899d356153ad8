use Rattle.std.proofs.Common.{◌∙◌}
use Rattle.std.proofs.lemmas.Result.{IfErr-weaker, IfOk-weaker}
use Rattle.cc_source.proofs.lemmas.Sources.{fails_of_read}
use Rattle.cc_top.proofs.Runs.{program_of_read}
use Rattle.cc_top.proofs.interpreting.program_of.Goals as goal

pub returns-clause-accepted : goal.returns-clause-accepted
returns-clause-accepted g c =
    IfOk-weaker c.typed_of.result _ _ (λ p h. program_of_read c.args.source.now _ c.deref.result.now p (λ all known. c.deref.ensures.value ∙ c.in-Ok.ensures.bytes all known) h) c.typed_of.ensures.accepted

pub returns-clause-err : goal.returns-clause-err
returns-clause-err g c =
    IfErr-weaker c.typed_of.result _ _ (λ e h. fails_of_read c.args.source.now e _ _ c.deref.result.now (λ all known. c.deref.ensures.value ∙ c.in-Ok.ensures.bytes all known) h) c.typed_of.ensures.err
