use Rattle.std.proofs.Common.{◌∙◌}
use Rattle.log_check.proofs.Splits.{not_same}
use Rattle.log_check.proofs.Numbers.{not_text, not_parsed, not_formatted}
use Rattle.log_check.proofs.number.number.Goals as goal

pub returns-in_default-clause-none : goal.returns-in_default-clause-none
returns-in_default-clause-none c n small e = not_text c.args.word.now n c.in_default.ensures.cases.0 small e

pub returns-in_default-parse-clause-none : goal.returns-in_default-parse-clause-none
returns-in_default-parse-clause-none c n small e =
    not_parsed c.in-Ok.text.now n c.in_default-parse.field-0 c.in_default-parse.ensures.value.0 small (c.in-Ok.ensures.cases.0 ∙ e)

pub returns-else-eq-clause-none : goal.returns-else-eq-clause-none
returns-else-eq-clause-none c n small e =
    not_formatted c.in-Ok.text.now n c.in-Ok-parse.number c.in-Ok-parse.ensures.value.0
    (λ same. not_same c.format.result.now c.in-Ok.text.now c.if-eq.ensures (c.format.ensures.text ∙ same)) small (c.in-Ok.ensures.cases.0 ∙ e)
