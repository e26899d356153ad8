use Rattle.std.proofs.Common.{◌≡◌, ◌+◌, ◌-◌, ◌*◌, ◌&&◌, not, true, false, refl, ap, sym, drop, length, ◌∙◌, arith}
use Rattle.r_edit.specs.InPlace.{all_stay}
use Rattle.r_sweep.specs.Removals.{from_last, exit_removed}
use Rattle.r_dne.specs.Listed.{exits_in}
use Rattle.r_dne.specs.Gone.{with_note}
use Rattle.r_dne.proofs.Gammas.{origin_there, now_stays, now_gone, now_all, now_may_go, none_judged, all_judged, noted_once, on_err}
use Rattle.r_dne.proofs.gamma_sweep.shrink_exits.Goals as goal

pub uses-requires : goal.uses-requires
uses-requires g c =
    let h = c.requires.shape in
    origin_there c.args.shape c.args.arena.now c.requires.whole h c.requires.gamma c.loop-port.port c.loop-port-test.true c.loop-port.invariant.within c.loop-port.arena (c.loop-port.invariant.gone h.node h.there)

pub remove_exit-requires : goal.remove_exit-requires
remove_exit-requires g c =
    let h = c.requires.shape in
    now_may_go c.args.shape c.args.arena.now c.requires.whole h c.requires.gamma c.loop-port.port c.loop-port-test.true c.loop-port.invariant.within c.loop-port.arena (c.loop-port.invariant.gone h.node h.there)
    c.uses.result.kind c.uses.result.count c.uses.ensures.kind c.uses.ensures.count (sym c.stays.ensures ∙ c.if-not-stays.true)

pub loop-port-init : goal.loop-port-init
loop-port-init g c = record {
  gone = λ y e. sym (ap (λ ts. from_last (exit_removed c.args.shape.node (length y.regions)) c.args.shape.outputs ts c.args.arena.now)
      (none_judged c.args.shape c.args.arena.now c.requires.whole c.requires.shape c.requires.gamma y e));
  noted = λ y e. sym (ap (λ ts. not (all_stay ts)) (none_judged c.args.shape c.args.arena.now c.requires.whole c.requires.shape c.requires.gamma y e));
  kept = λ q. refl;
  log = refl;
  within = omega arith;
  looks = omega arith;
}

pub loop-port-preserved : goal.loop-port-preserved
loop-port-preserved g c =
    let h = c.requires.shape in
    let asked = sym c.stays.ensures ∙ c.if-not-stays.false in
    let one : (c.loop-port.port - 1) + 1 ≡ c.loop-port.port = omega arith in
    record {
      gone = now_stays c.args.shape c.args.arena.now c.requires.whole h c.requires.gamma c.loop-port.port c.loop-port-test.true c.loop-port.invariant.within c.loop-port.arena (c.loop-port.invariant.gone h.node h.there)
          c.uses.result.kind c.uses.result.count c.uses.ensures.kind c.uses.ensures.count asked;
      noted = λ y e. c.loop-port.invariant.noted y e
          ∙ sym (ap not (now_all c.args.shape c.args.arena.now c.requires.whole h c.requires.gamma c.loop-port.port c.loop-port-test.true c.loop-port.invariant.within c.loop-port.arena (c.loop-port.invariant.gone h.node h.there)
          c.uses.result.kind c.uses.result.count c.uses.ensures.kind c.uses.ensures.count y e ∙ ap (λ t. t && all_stay (drop c.loop-port.port (exits_in c.args.arena.now y))) asked));
      kept = c.loop-port.invariant.kept;
      log = c.loop-port.invariant.log;
      within = omega arith;
      looks = omega (arith, ap (λ k. (2 + c.args.shape.regions) * k) one);
    }

pub loop-port-preserved-then-not-stays : goal.loop-port-preserved-then-not-stays
loop-port-preserved-then-not-stays g c =
    let h = c.requires.shape in
    let asked = sym c.stays.ensures ∙ c.if-not-stays.true in
    let one : (c.loop-port.port - 1) + 1 ≡ c.loop-port.port = omega arith in
    record {
      gone = λ y e. c.remove_exit.ensures.gone
          ∙ now_gone c.args.shape c.args.arena.now c.requires.whole h c.requires.gamma c.loop-port.port c.loop-port-test.true c.loop-port.invariant.within c.loop-port.arena (c.loop-port.invariant.gone h.node h.there)
          c.uses.result.kind c.uses.result.count c.uses.ensures.kind c.uses.ensures.count asked y e;
      noted = λ y e. sym (ap not (now_all c.args.shape c.args.arena.now c.requires.whole h c.requires.gamma c.loop-port.port c.loop-port-test.true c.loop-port.invariant.within c.loop-port.arena (c.loop-port.invariant.gone h.node h.there)
          c.uses.result.kind c.uses.result.count c.uses.ensures.kind c.uses.ensures.count y e ∙ ap (λ t. t && all_stay (drop c.loop-port.port (exits_in c.args.arena.now y))) asked));
      kept = λ q. absurd (let d : true ≡ false = q in cc);
      log = c.in_ok-note.ensures.ok ∙ noted_once c.loop-port.noted c.args.shape.node c.args.log.now.items c.loop-port.log.items c.loop-port.invariant.log;
      within = omega arith;
      looks = omega (arith, ap (λ k. (2 + c.args.shape.regions) * k) one);
    }

pub returns : goal.returns
returns g c =
    let last : c.loop-port.port ≡ 0 = omega arith in
    record {
      gone = λ y e. c.loop-port.invariant.gone y e ∙ all_judged c.args.shape c.args.arena.now c.requires.whole c.requires.shape c.requires.gamma c.loop-port.port last y e;
      noted = λ y e. c.loop-port.invariant.noted y e ∙ ap (λ k. not (all_stay (drop k (exits_in c.args.arena.now y)))) last;
      log = c.loop-port.invariant.log;
      err_arena = tt;
      err_log = tt;
      looks = omega arith;
    }

pub returns-in_err-note-clause-err_arena : goal.returns-in_err-note-clause-err_arena
returns-in_err-note-clause-err_arena g c = on_err _ c.from_residual.result (c.loop-port.invariant.kept c.in_err-note.ensures.err_noted)

pub returns-in_err-note-clause-err_log : goal.returns-in_err-note-clause-err_log
returns-in_err-note-clause-err_log g c =
    on_err _ c.from_residual.result
    (c.in_err-note.ensures.err ∙ c.loop-port.invariant.log ∙ ap (λ t. with_note t c.args.shape.node c.args.log.now.items) c.in_err-note.ensures.err_noted)

pub returns-in_err-note-clause-looks : goal.returns-in_err-note-clause-looks
returns-in_err-note-clause-looks g c =
    let one : (c.loop-port.port - 1) + 1 ≡ c.loop-port.port = omega arith in
    omega (arith, ap (λ k. (2 + c.args.shape.regions) * k) one)
