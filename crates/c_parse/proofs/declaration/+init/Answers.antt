use Rattle.std.proofs.Common.{◌∙◌, arith}
use Rattle.c_parse.proofs.DeclarationLemmas.{inits-begin, inits-go}
use Rattle.c_parse.proofs.declaration.+init.Goals as goal

pub init_items-loop-turn-init : goal.init_items-loop-turn-init
init_items-loop-turn-init t c =
    rw (c.new-more.ensures, c.in_ok-first.ensures)
    (inits-begin c.args.fuel c.in_ok-value.value c.args.tokens.now _ (omega arith) c.in_ok-value.ensures)

pub init_items-loop-turn-preserved : goal.init_items-loop-turn-preserved
init_items-loop-turn-preserved t c =
    c.loop-turn.invariant
    ∙ inits-go c.args.fuel c.loop-turn._turn c.loop-turn.inits c.in_ok-inits.inits c.loop-turn.tokens _ c.sees_more.result
    (omega arith) c.sees_more.ensures c.if-not-sees_more.false c.in_ok-inits.ensures
