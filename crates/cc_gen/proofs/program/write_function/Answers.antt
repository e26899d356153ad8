use Rattle.cc_gen.specs.Generated.{call_line, function_head, function_end}
use Rattle.cc_gen.proofs.PrefixLemmas.{prefix-middle, on_err, last-err}
use Rattle.cc_gen.proofs.program.write_function.Goals as goal

pub returns-in_err-write_call-clause-err : goal.returns-in_err-write_call-clause-err
returns-in_err-write_call-clause-err g c =
    on_err c.from_residual-in_err-write_call.result
    (prefix-middle _ _ _ (function_head c.args.number c.args.drawn.now) (call_line c.args.drawn.now.callee) function_end c.in_ok-write_head.ensures.ok c.in_err-write_call.ensures.err)

pub returns-clause-err : goal.returns-clause-err
returns-clause-err g c =
    last-err c.write_text.result _ _ _ _ (function_head c.args.number c.args.drawn.now)
    (call_line c.args.drawn.now.callee) function_end c.in_ok-write_head.ensures.ok c.in_ok-write_call.ensures.ok c.write_text.ensures.err
