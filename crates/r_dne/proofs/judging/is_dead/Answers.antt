use Rattle.std.proofs.Common.{◌||◌, ◌+◌, not, drop, arith, ap, sym, ◌∙◌}
use Rattle.r_dne.specs.Listed.{exits_in}
use Rattle.r_dne.proofs.Judged.{some_true, dead_is, head_is, all_asked}
use Rattle.r_dne.proofs.judging.is_dead.Goals as goal

pub returns-then-stays-clause-dead : goal.returns-then-stays-clause-dead
returns-then-stays-clause-dead g c = λ x e.
    let head = head_is c.args.shape c.args.arena.now c.requires x e c.loop-port.port c.uses.result.count c.uses.result.kind c.loop-port-test.true c.uses.ensures.kind c.uses.ensures.count in
    sym (dead_is c.args.arena.now x ∙ ap not (c.loop-port.invariant.none x e ∙ ap some_true head
    ∙ ap (λ t. t || some_true (drop (c.loop-port.port + 1) (exits_in c.args.arena.now x))) (sym c.stays.ensures ∙ c.if-stays.true)))

pub loop-port-preserved : goal.loop-port-preserved
loop-port-preserved g c = record {
  none = λ x e.
      let head = head_is c.args.shape c.args.arena.now c.requires x e c.loop-port.port c.uses.result.count c.uses.result.kind c.loop-port-test.true c.uses.ensures.kind c.uses.ensures.count in
      c.loop-port.invariant.none x e ∙ ap some_true head ∙ ap (λ t. t || some_true (drop (c.loop-port.port + 1) (exits_in c.args.arena.now x))) (sym c.stays.ensures ∙ c.if-stays.false);
  looks = omega arith;
}

pub returns-clause-dead : goal.returns-clause-dead
returns-clause-dead g c = λ x e.
    sym (dead_is c.args.arena.now x ∙ ap not (c.loop-port.invariant.none x e ∙ all_asked c.args.shape c.args.arena.now c.requires x e c.loop-port.port (omega arith)))
