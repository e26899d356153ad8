use Rattle.std.proofs.Common.{◌≡◌, ◌+◌, ◌-◌, ◌≤◌, true, false, length, take, vec_len, Some, ap, ◌∙◌, arith, rules, refl, length-drop}
use Rattle.rv_machine.specs.declared.block.Block.{Block}
use Rattle.rv_machine.specs.Memory.{has_flag, number}
use Rattle.rv_machine.proofs.HeldBlocks.{outside-allowed, block-bad, block-allowed, block-load}
use Rattle.rv_machine.proofs.memory.Memory.load.Goals as goal

pub returns-in_err-block-clause-value : goal.returns-in_err-block-clause-value
returns-in_err-block-clause-value c =
    rw c.from_residual.ensures
    rw (outside-allowed c.args.self.now c.args.flag c.args.address c.args.width (omega arith) c.in_err-block.ensures) refl

pub returns-then-not-has_flag-clause-value : goal.returns-then-not-has_flag-clause-value
returns-then-not-has_flag-clause-value c =
    let bad : has_flag c.in_ok-block.block.now.flags c.args.flag ≡ false = search rules in
    rw (block-bad c.args.self.now c.args.address c.in_ok-block.block.now c.in_ok-block.ensures c.args.flag c.args.width (omega arith) bad) refl

pub returns-clause-value : goal.returns-clause-value
returns-clause-value c =
    let b : Block = c.in_ok-block.block.now in
    let good : has_flag b.flags c.args.flag ≡ true = search rules in
    let from : length c.bytes_from-bytes.result.now ≡ length b.bytes.items - (c.args.address - b.at) =
    ap length c.bytes_from-bytes.ensures ∙ length-drop (c.args.address - b.at) b.bytes.items in
    let within : c.args.address + c.args.width ≤ b.at + vec_len b.bytes =
    omega (arith, from, c.if-bytes-width.false, c.in_ok-block.ensures.above, c.in_ok-block.ensures.below, b.bytes.ok) in
    rw (block-allowed c.args.self.now c.args.address b c.in_ok-block.ensures c.args.flag c.args.width within good)
    rw (block-load c.args.self.now c.args.address b c.in_ok-block.ensures c.args.width within)
    (ap Some (c.number_of.ensures.value ∙ ap (λ bs. number (take c.args.width bs)) c.bytes_from-bytes.ensures))
