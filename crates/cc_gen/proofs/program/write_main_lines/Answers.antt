use Rattle.std.proofs.Common.{sym, ◌∙◌, rules, arith}
use Rattle.cc_io.proofs.lemmas.Sink.{append-none}
use Rattle.cc_gen.specs.Generated.{main_line}
use Rattle.cc_gen.proofs.PrefixLemmas.{prefix-number, append-number, on_err}
use Rattle.cc_gen.proofs.program.write_main_lines.Goals as goal

pub loop-number-init : goal.loop-number-init
loop-number-init g c = record { appended = sym (append-none _); rest = search rules; kept = search rules }

pub loop-number-preserved : goal.loop-number-preserved
loop-number-preserved g c =
    let wrote = c.in_ok-write_main_line.ensures in
    record {
      appended = append-number main_line c.loop-number.number _ _ _ c.loop-number.invariant.appended wrote.ok;
      rest = wrote.rest ∙ c.loop-number.invariant.rest;
      kept = omega (arith, wrote.cause.kept);
    }

pub returns-in_err-write_main_line-clause-err : goal.returns-in_err-write_main_line-clause-err
returns-in_err-write_main_line-clause-err g c =
    on_err c.from_residual.result (prefix-number main_line c.args.functions c.loop-number.number _ _ _ (search rules) c.loop-number.invariant.appended c.in_err-write_main_line.ensures.err)
