use Rattle.std.proofs.Common.{◌≡◌, OnOk, subst}
use Rattle.c_check.proofs.ExternalLemmas.{function_from}
use Rattle.c_check.proofs.externals.external_function.Goals as goal

pub returns : goal.returns
returns c =
    subst (λ z. OnOk c.function.result (c.function.new.state ≡ z.1))
    (function_from c.args.x.now c.start.result c.args.state.now c.specified_type.new.state c.in_ok-specified.specified c.start.ensures c.in_ok-specified.ensures.value c.in_ok-specified.ensures.state)
    c.function.ensures
