use Rattle.cc_gen.specs.Generated.{main_head, main_lines, main_end}
use Rattle.std.proofs.Common.{◌++◌}
use Rattle.cc_gen.proofs.PrefixLemmas.{prefix-first, prefix-middle, on_err, last-ok, last-err}
use Rattle.cc_gen.proofs.program.write_main.Goals as goal

pub returns-in_err-write_text-clause-err : goal.returns-in_err-write_text-clause-err
returns-in_err-write_text-clause-err g c =
    on_err c.from_residual.result (prefix-first _ _ main_head (main_lines c.args.functions ++ main_end) c.in_err-write_text.ensures.err)

pub returns-in_err-write_main_lines-clause-err : goal.returns-in_err-write_main_lines-clause-err
returns-in_err-write_main_lines-clause-err g c =
    on_err c.from_residual-in_err-write_main_lines.result (prefix-middle _ _ _ main_head (main_lines c.args.functions) main_end c.in_ok-write_text.ensures.ok c.in_err-write_main_lines.ensures.err)

pub returns-clause-ok : goal.returns-clause-ok
returns-clause-ok g c =
    last-ok c.write_text-2.result _ _ _ _ main_head (main_lines c.args.functions) main_end c.in_ok-write_text.ensures.ok c.in_ok-write_main_lines.ensures.ok c.write_text-2.ensures.ok

pub returns-clause-err : goal.returns-clause-err
returns-clause-err g c =
    last-err c.write_text-2.result _ _ _ _ main_head (main_lines c.args.functions) main_end c.in_ok-write_text.ensures.ok c.in_ok-write_main_lines.ensures.ok c.write_text-2.ensures.err
