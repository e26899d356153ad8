use Rattle.std.proofs.Common.{rules, tests, ◌∙◌, ap, length}
use Rattle.std.specs.Option.{unwrap_or}
use Rattle.std.proofs.lemmas.Iterator.{YieldsList-from_slice}
use Rattle.std.proofs.lemmas.Iterator.Search.{position_from_yields_List}
use Rattle.c_lex.specs.Classes as class
use Rattle.c_lex.proofs.RunLemmas.{first_or_len}
use Rattle.c_lex.proofs.runs.line_len.Goals as goal

pub returns-clause-run : goal.returns-clause-run
returns-clause-run c =
    let xs = c.args.text.now in
    let found = position_from_yields_List (class.is_line_end) _ _ c.position.result c.position.ensures.ran (YieldsList-from_slice xs (cc)) (λ x b q k. search (rules, tests)) in
    c.unwrap_or.ensures ∙ (ap (λ o. unwrap_or o (length xs)) found ∙ first_or_len (class.is_line_end) xs)
