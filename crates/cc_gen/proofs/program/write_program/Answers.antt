use Rattle.cc_gen.specs.Generated.{functions_text, main_text}
use Rattle.cc_gen.proofs.PrefixLemmas.{then-err}
use Rattle.cc_gen.proofs.program.write_program.Goals as goal

pub returns-clause-err : goal.returns-clause-err
returns-clause-err g c =
    then-err c.write_main.result _ _ _ (functions_text c.args.start c.args.functions) (main_text c.args.functions) c.in_ok-write_functions.ensures.ok c.write_main.ensures.err
