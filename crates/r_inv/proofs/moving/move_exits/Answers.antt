use Rattle.std.proofs.Common.{◌≡◌, ◌-◌, drop, sym, ap, subst, ◌∙◌, arith}
use Rattle.r_sweep.specs.Removals.{exit_removed, exits_carried}
use Rattle.r_sweep.specs.Exit.{IsExit}
use Rattle.r_inv.specs.Carried.{can_carry}
use Rattle.r_inv.specs.Cost.{exits_cost}
use Rattle.r_inv.proofs.Ports.{count, none_moved, other_there, exits_own, exits_there, exits_kinds, exits_may_go, exits_go, exits_stay}
use Rattle.r_inv.proofs.moving.move_exits.Goals as goal

pub loop-port-init : goal.loop-port-init
loop-port-init g c =
    let h = c.requires.shape in
    let none = none_moved c.args.shape c.args.arena.now c.requires.whole h c.args.carried.now (c.requires.carried h.node h.there) (ap can_carry c.requires.gamma) in
    record {
      gone = sym (ap (λ ds. exits_carried c.args.shape.node c.args.shape.regions c.args.shape.home c.args.shape.outputs ds c.args.arena.now) none);
      looks = omega (arith, ap (λ ds. exits_cost c.args.shape.node c.args.shape.regions c.args.shape.home c.args.shape.outputs ds c.args.arena.now) none);
      within = omega arith;
    }

pub carried_at-requires : goal.carried_at-requires
carried_at-requires g c =
    let h = c.requires.shape in
    omega (arith, count c.args.shape c.args.arena.now c.requires.whole h c.args.carried.now (c.requires.carried h.node h.there) (ap can_carry c.requires.gamma))

pub move_output-requires-clause-other : goal.move_output-requires-clause-other
move_output-requires-clause-other g c =
    let h = c.requires.shape in
    other_there c.args.shape c.args.arena.now c.requires.whole h c.args.carried.now (c.requires.carried h.node h.there) (ap can_carry c.requires.gamma)
    c.loop-port.port c.loop-port-test.true c.loop-port.invariant.within c.in-Some.to c.in-Some.ensures

pub move_output-requires-clause-own : goal.move_output-requires-clause-own
move_output-requires-clause-own g c =
    let h = c.requires.shape in
    exits_own c.args.shape c.args.arena.now c.requires.whole h c.args.carried.now (c.requires.carried h.node h.there) (ap can_carry c.requires.gamma)
    c.loop-port.port c.loop-port-test.true c.loop-port.invariant.within c.requires.gamma c.in-Some.to c.in-Some.ensures c.loop-port.arena c.loop-port.invariant.gone

pub move_output-requires-clause-there : goal.move_output-requires-clause-there
move_output-requires-clause-there g c =
    let h = c.requires.shape in
    exits_there c.args.shape c.args.arena.now c.requires.whole h c.args.carried.now (c.requires.carried h.node h.there) (ap can_carry c.requires.gamma)
    c.loop-port.port c.loop-port-test.true c.loop-port.invariant.within c.requires.gamma c.in-Some.to c.in-Some.ensures c.loop-port.arena c.loop-port.invariant.gone

pub move_output-requires-clause-kinds : goal.move_output-requires-clause-kinds
move_output-requires-clause-kinds g c =
    let h = c.requires.shape in
    exits_kinds c.args.shape c.args.arena.now c.requires.whole h c.args.carried.now (c.requires.carried h.node h.there) (ap can_carry c.requires.gamma)
    c.loop-port.port c.loop-port-test.true c.loop-port.invariant.within c.requires.gamma c.in-Some.to c.in-Some.ensures c.loop-port.arena c.loop-port.invariant.gone

pub remove_exit-requires : goal.remove_exit-requires
remove_exit-requires g c =
    let h = c.requires.shape in
    subst (λ a. IsExit c.args.shape.node c.args.shape.regions (c.loop-port.port - 1) a) (sym c.move_output.ensures.moved)
    (exits_may_go c.args.shape c.args.arena.now c.requires.whole h c.args.carried.now (c.requires.carried h.node h.there) (ap can_carry c.requires.gamma)
    c.loop-port.port c.loop-port-test.true c.loop-port.invariant.within c.requires.gamma c.in-Some.to c.in-Some.ensures c.loop-port.arena c.loop-port.invariant.gone)

pub loop-port-preserved-in-Some : goal.loop-port-preserved-in-Some
loop-port-preserved-in-Some g c =
    let h = c.requires.shape in
    let go = exits_go c.args.shape c.args.arena.now c.requires.whole h c.args.carried.now (c.requires.carried h.node h.there) (ap can_carry c.requires.gamma)
    c.loop-port.port c.loop-port-test.true c.loop-port.invariant.within c.requires.gamma c.in-Some.to c.in-Some.ensures c.loop-port.arena c.loop-port.invariant.gone in
    record {
      gone = c.remove_exit.ensures.gone ∙ ap (exit_removed c.args.shape.node c.args.shape.regions (c.loop-port.port - 1)) c.move_output.ensures.moved ∙ go.0;
      looks = omega (arith, go.1);
      within = omega arith;
    }

pub loop-port-preserved : goal.loop-port-preserved
loop-port-preserved g c =
    let h = c.requires.shape in
    let stay = exits_stay c.args.shape c.args.arena.now c.requires.whole h c.args.carried.now (c.requires.carried h.node h.there) (ap can_carry c.requires.gamma)
    c.loop-port.port c.loop-port-test.true c.loop-port.invariant.within c.in_default.ensures in
    record { gone = c.loop-port.invariant.gone ∙ sym stay.0; looks = omega (arith, stay.1); within = omega arith }

pub returns-clause-moved : goal.returns-clause-moved
returns-clause-moved g c =
    let last : c.loop-port.port ≡ 0 = omega arith in
    c.loop-port.invariant.gone ∙ ap (λ k. exits_carried c.args.shape.node c.args.shape.regions c.args.shape.home k (drop k c.args.carried.now) c.args.arena.now) last

pub returns-clause-looks : goal.returns-clause-looks
returns-clause-looks g c =
    let last : c.loop-port.port ≡ 0 = omega arith in
    omega (arith, ap (λ k. exits_cost c.args.shape.node c.args.shape.regions c.args.shape.home k (drop k c.args.carried.now) c.args.arena.now) last)
