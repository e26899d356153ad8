use Rattle.std.proofs.Common.{not, rules, tests, ◌∙◌, ap, length}
use Rattle.std.specs.Option.{unwrap_or}
use Rattle.std.proofs.lemmas.Iterator.{YieldsList-from_slice}
use Rattle.std.proofs.lemmas.Iterator.Search.{position_from_yields_List}
use Rattle.c_lex.specs.Digits as digit
use Rattle.c_lex.proofs.RunLemmas.{run_or_len}
use Rattle.c_lex.proofs.runs.digits_len.Goals as goal

pub returns-clause-run : goal.returns-clause-run
returns-clause-run c =
    let xs = c.args.text.now in
    let found =
    position_from_yields_List (λ b. not (digit.is_digit_in c.args.base b)) _ _ c.position.result c.position.ensures.ran (YieldsList-from_slice xs (cc)) (λ x b q k. search (rules, tests)) in
    c.unwrap_or.ensures ∙ (ap (λ o. unwrap_or o (length xs)) found ∙ run_or_len (digit.is_digit_in c.args.base) xs)
