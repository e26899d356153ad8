use Rattle.std.proofs.Common.{◌∙◌}
use Rattle.std.proofs.lemmas.Result.{IfErr-weaker, IfOk-weaker}
use Rattle.cc_top.proofs.SourceLemmas.{compiled_of_read}
use Rattle.cc_source.proofs.lemmas.Sources.{fails_of_read}
use Rattle.cc_top.proofs.build.compile_file.Goals as goal

pub returns-clause-compiled : goal.returns-clause-compiled
returns-clause-compiled g c =
    IfOk-weaker c.compile_by_workers.result _ _
    (λ found h. compiled_of_read c.args.recipe.now c.args.form c.args.source.now _ c.deref.result.now found.image.items found.functions found.rows.items
    (λ all known. c.deref.ensures.value ∙ c.in-Ok.ensures.bytes all known) h)
    c.compile_by_workers.ensures.accepted

pub returns-clause-err : goal.returns-clause-err
returns-clause-err g c =
    IfErr-weaker c.compile_by_workers.result _ _
    (λ e h. fails_of_read c.args.source.now e _ _ c.deref.result.now (λ all known. c.deref.ensures.value ∙ c.in-Ok.ensures.bytes all known) h) c.compile_by_workers.ensures.err
