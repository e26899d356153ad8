use Rattle.std.proofs.Common.{◌≡◌, OnOk, subst}
use Rattle.c_check.proofs.ExternalLemmas.{globals_from}
use Rattle.c_check.proofs.externals.external_globals.Goals as goal

pub returns : goal.returns
returns c =
    subst (λ z. OnOk c.more_globals.result (c.more_globals.new.state ≡ z.1))
    (globals_from c.args.x.now c.args.state.now c.specified_type.new.state c.global_declared.new.state c.in_ok-specified.specified c.is_some-is_const.result c.as_slice.result.now
    c.in_ok-specified.ensures.value c.in_ok-specified.ensures.state c.is_some-is_const.ensures c.as_slice.ensures c.in_ok-global_declared.ensures)
    c.more_globals.ensures
