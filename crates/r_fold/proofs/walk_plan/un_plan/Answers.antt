-- The word of the one input is known.
use Rattle.std.proofs.Common.{◌≡◌, length, ◌∙◌, arith}
use Rattle.r_fold.proofs.Parts.{un_is}
use Rattle.r_fold.proofs.walk_plan.un_plan.Goals as goal

pub returns-in-len1 : goal.returns-in-len1
returns-in-len1 c =
    let one : length c.args.inputs.now ≡ 1 = omega arith in
    λ before h. c.operand_plan.ensures ∙ un_is c.args.op c.args.inputs.now _ before c.constant.result one (c.constant.ensures before h)
