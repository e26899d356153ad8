use Rattle.std.proofs.Common.{◌≡◌, length, arith, rules}
use Rattle.rv_machine.proofs.Bytes.{number-one, number-two, number-four}
use Rattle.rv_machine.proofs.block.number_of.Goals as goal

pub returns-in-len1-clause-value : goal.returns-in-len1-clause-value
returns-in-len1-clause-value c =
    let one : length c.args.bytes.now ≡ 1 = omega arith in
    rw (number-one c.args.bytes.now one) (search rules)

pub returns-in-len2-clause-value : goal.returns-in-len2-clause-value
returns-in-len2-clause-value c =
    let two : length c.args.bytes.now ≡ 2 = omega arith in
    rw (number-two c.args.bytes.now two) (search rules)

pub returns-in-len4-clause-value : goal.returns-in-len4-clause-value
returns-in-len4-clause-value c =
    let four : length c.args.bytes.now ≡ 4 = omega arith in
    rw (number-four c.args.bytes.now four) (search rules)
