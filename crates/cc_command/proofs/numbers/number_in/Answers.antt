use Rattle.std.proofs.Common.{rules}
use Rattle.cc_command.proofs.NumberLemmas.{number_in-none, number_in-some, number_in-below, number_in-above}
use Rattle.cc_command.proofs.numbers.number_in.Goals as goal
use Rattle.cc_command.proofs.numbers.number_in.Goals.{else-least-value-via-then-least-value+else-value-most, else-least-value-via-else-least-value}

pub returns-then-not-is_number-clause-value : goal.returns-then-not-is_number-clause-value
returns-then-not-is_number-clause-value c =
    number_in-none c.args.least c.args.most c.args.text.now (search rules)

pub returns-then-value-most-clause-value : goal.returns-then-value-most-clause-value
returns-then-value-most-clause-value c =
    number_in-some c.args.least c.args.most c.digits_value-value.result c.args.text.now (search rules) (search rules) (search rules) (search rules) (search rules) (search rules)

pub returns-else-least-value-clause-value : goal.returns-else-least-value-clause-value
returns-else-least-value-clause-value c =
    elim c.else-least-value.branch [
      | else-least-value-via-then-least-value+else-value-most w ↦
          number_in-above c.args.least c.args.most c.digits_value-value.result c.args.text.now (search rules) (search rules) (search rules) (search rules) (search rules)
      | else-least-value-via-else-least-value w ↦
          number_in-below c.args.least c.args.most c.digits_value-value.result c.args.text.now (search rules) (search rules) (search rules) (search rules) (search rules)
    ]
