use Rattle.std.proofs.Common.{◌≡◌, drop, sym, ap, ◌∙◌, arith}
use Rattle.r_sweep.specs.Removals.{uses_carried}
use Rattle.r_inv.specs.Carried.{can_carry}
use Rattle.r_inv.specs.Cost.{uses_cost}
use Rattle.r_inv.proofs.Ports.{count, none_moved, other_there, uses_own, uses_there, uses_kinds, uses_go, uses_stay}
use Rattle.r_inv.proofs.moving.move_variables.Goals as goal

pub loop-port-init : goal.loop-port-init
loop-port-init g c =
    let h = c.requires.shape in
    let none = none_moved c.args.shape c.args.arena.now c.requires.whole h c.args.carried.now (c.requires.carried h.node h.there) (ap can_carry c.requires.theta) in
    record {
      gone = sym (ap (λ ds. uses_carried c.args.shape.node c.args.shape.home c.args.shape.outputs ds c.args.arena.now) none);
      looks = omega (arith, ap (λ ds. uses_cost c.args.shape.node c.args.shape.home c.args.shape.outputs ds c.args.arena.now) none);
      within = omega arith;
    }

pub carried_at-requires : goal.carried_at-requires
carried_at-requires g c =
    let h = c.requires.shape in
    omega (arith, count c.args.shape c.args.arena.now c.requires.whole h c.args.carried.now (c.requires.carried h.node h.there) (ap can_carry c.requires.theta))

pub move_output-requires-clause-other : goal.move_output-requires-clause-other
move_output-requires-clause-other g c =
    let h = c.requires.shape in
    other_there c.args.shape c.args.arena.now c.requires.whole h c.args.carried.now (c.requires.carried h.node h.there) (ap can_carry c.requires.theta)
    c.loop-port.port c.loop-port-test.true c.loop-port.invariant.within c.in-Some.to c.in-Some.ensures

pub move_output-requires-clause-own : goal.move_output-requires-clause-own
move_output-requires-clause-own g c =
    let h = c.requires.shape in
    uses_own c.args.shape c.args.arena.now c.requires.whole h c.args.carried.now (c.requires.carried h.node h.there) (ap can_carry c.requires.theta)
    c.loop-port.port c.loop-port-test.true c.loop-port.invariant.within c.in-Some.to c.in-Some.ensures c.loop-port.arena c.loop-port.invariant.gone

pub move_output-requires-clause-there : goal.move_output-requires-clause-there
move_output-requires-clause-there g c =
    let h = c.requires.shape in
    uses_there c.args.shape c.args.arena.now c.requires.whole h c.args.carried.now (c.requires.carried h.node h.there) (ap can_carry c.requires.theta)
    c.loop-port.port c.loop-port-test.true c.loop-port.invariant.within c.in-Some.to c.in-Some.ensures c.loop-port.arena c.loop-port.invariant.gone

pub move_output-requires-clause-kinds : goal.move_output-requires-clause-kinds
move_output-requires-clause-kinds g c =
    let h = c.requires.shape in
    uses_kinds c.args.shape c.args.arena.now c.requires.whole h c.args.carried.now (c.requires.carried h.node h.there) (ap can_carry c.requires.theta)
    c.loop-port.port c.loop-port-test.true c.loop-port.invariant.within c.in-Some.to c.in-Some.ensures c.loop-port.arena c.loop-port.invariant.gone

pub loop-port-preserved-in-Some : goal.loop-port-preserved-in-Some
loop-port-preserved-in-Some g c =
    let h = c.requires.shape in
    let go = uses_go c.args.shape c.args.arena.now c.requires.whole h c.args.carried.now (c.requires.carried h.node h.there) (ap can_carry c.requires.theta)
    c.loop-port.port c.loop-port-test.true c.loop-port.invariant.within c.in-Some.to c.in-Some.ensures c.loop-port.arena c.loop-port.invariant.gone in
    record { gone = c.move_output.ensures.moved ∙ go.0; looks = omega (arith, go.1); within = omega arith }

pub loop-port-preserved : goal.loop-port-preserved
loop-port-preserved g c =
    let h = c.requires.shape in
    let stay = uses_stay c.args.shape c.args.arena.now c.requires.whole h c.args.carried.now (c.requires.carried h.node h.there) (ap can_carry c.requires.theta)
    c.loop-port.port c.loop-port-test.true c.loop-port.invariant.within c.in_default.ensures in
    record { gone = c.loop-port.invariant.gone ∙ sym stay.0; looks = omega (arith, stay.1); within = omega arith }

pub returns-clause-moved : goal.returns-clause-moved
returns-clause-moved g c =
    let last : c.loop-port.port ≡ 0 = omega arith in
    c.loop-port.invariant.gone ∙ ap (λ k. uses_carried c.args.shape.node c.args.shape.home k (drop k c.args.carried.now) c.args.arena.now) last

pub returns-clause-looks : goal.returns-clause-looks
returns-clause-looks g c =
    let last : c.loop-port.port ≡ 0 = omega arith in
    omega (arith, ap (λ k. uses_cost c.args.shape.node c.args.shape.home k (drop k c.args.carried.now) c.args.arena.now) last)
