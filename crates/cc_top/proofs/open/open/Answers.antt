use Rattle.std.proofs.lemmas.Result.{IfErr-weaker}
use Rattle.cc_source.proofs.lemmas.Sources.{fails_of_read}
use Rattle.cc_top.proofs.Opening.{opened_on_read}
use Rattle.cc_top.proofs.open.open.Goals as goal

pub returns-in-Ok-clause-opened : goal.returns-in-Ok-clause-opened
returns-in-Ok-clause-opened g c =
    opened_on_read c.args.recipe c.args.form c.args.source.now _ c.in-Ok.text.items c.session_on.result c.in-Ok.ensures.bytes c.session_on.ensures.opened c.session_on.ensures.accepted

pub returns-in-Ok-clause-err : goal.returns-in-Ok-clause-err
returns-in-Ok-clause-err g c =
    IfErr-weaker c.session_on.result _ _ (λ e h. fails_of_read c.args.source.now e _ _ c.in-Ok.text.items c.in-Ok.ensures.bytes h) c.session_on.ensures.rejected
