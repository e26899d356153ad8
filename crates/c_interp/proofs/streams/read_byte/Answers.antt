use Rattle.std.proofs.Common.{◌++◌, ◌∷◌, [], ◌∙◌, ap}
use Rattle.val_core.specs.declared.values.Value.TheVariants.{Num}
use Rattle.c_interp.proofs.Ports.{word_at_end, read_end, read_one}
use Rattle.c_interp.proofs.streams.read_byte.Goals as goal

pub returns-in-Ok-Some-clause-step : goal.returns-in-Ok-Some-clause-step
returns-in-Ok-Some-clause-step g c = λ p n.
    read_one p n _ c.args.machine.now c.replace_newest.new.operands c.in-Ok-Some.byte _ _ ⊥ ⊥ c.requires.normal
    (c.replace_newest.ensures c.args.machine.now.operands.items (Num word_at_end) c.in_ok-push.ensures.items ∙ ap (λ b. c.args.machine.now.operands.items ++ Num b ∷ []) c.from.ensures) c.hand_over.ensures.held (rw c.in-Ok-Some.field-0-is at c.in-Ok-Some.ensures.received)

pub returns-in-Ok-None-clause-step : goal.returns-in-Ok-None-clause-step
returns-in-Ok-None-clause-step g c = λ p n.
    read_end p n _ c.args.machine.now c.push.new.self _ _ ⊥ ⊥ c.requires.normal
    c.in_ok-push.ensures.items c.hand_over.ensures.held (rw c.in-Ok-None.field-0-is at c.in-Ok-None.ensures.received)

pub returns-in-Err-clause-step : goal.returns-in-Err-clause-step
returns-in-Err-clause-step g c = λ p n. (record { held = c.hand_over.ensures.held; left = c.in-Err.ensures.left }, λ m held i. c.in-Err.ensures.cause.increased)
