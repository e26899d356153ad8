use Rattle.std.proofs.Common.{◌≡◌, ◌-◌, Some, false, drop, arith, ap, sym, refl, ◌∙◌}
use Rattle.std.proofs.lemmas.Option.{slice_get-get_or}
use Rattle.r_sweep.specs.Removals.{from_last, variable_removed}
use Rattle.r_dne.proofs.Loops.{told_here, tests, none_judged, now_gone, now_variable}
use Rattle.r_dne.proofs.theta_sweep.remove_variables.Goals as goal

pub loop-index-init : goal.loop-index-init
loop-index-init g c =
    let told = told_here c.args.shape c.args.arena.now c.requires.whole c.requires.shape c.requires.theta (λ us. c.args.stay.now ≡ us) c.requires.stay in
    let all = tests c.args.shape c.args.arena.now c.requires.whole c.requires.shape c.requires.theta c.args.stay.now told in
    record {
      gone = sym (ap (λ us. from_last (variable_removed c.args.shape.node) c.args.shape.outputs us c.args.arena.now)
          (none_judged c.args.shape c.args.arena.now c.requires.whole c.requires.shape c.requires.theta c.args.stay.now all));
      within = omega arith;
      looks = omega arith;
    }

pub bounds-stay-index : goal.bounds-stay-index
bounds-stay-index g c =
    let told = told_here c.args.shape c.args.arena.now c.requires.whole c.requires.shape c.requires.theta (λ us. c.args.stay.now ≡ us) c.requires.stay in
    let all = tests c.args.shape c.args.arena.now c.requires.whole c.requires.shape c.requires.theta c.args.stay.now told in
    omega (arith, all, c.loop-index.invariant.within, c.loop-index-test.true)

pub remove_variable-requires-clause-variable : goal.remove_variable-requires-clause-variable
remove_variable-requires-clause-variable g c =
    let told = told_here c.args.shape c.args.arena.now c.requires.whole c.requires.shape c.requires.theta (λ us. c.args.stay.now ≡ us) c.requires.stay in
    let all = tests c.args.shape c.args.arena.now c.requires.whole c.requires.shape c.requires.theta c.args.stay.now told in
    let test = slice_get-get_or c.args.stay.now (c.loop-index.index - 1) _ (omega (arith, all, c.loop-index.invariant.within, c.loop-index-test.true)) ∙ ap Some c.if-not-stay-index.true in
    now_variable c.args.shape c.args.arena.now c.requires.whole c.requires.shape c.requires.theta c.args.stay.now told c.loop-index.index c.loop-index-test.true c.loop-index.invariant.within c.loop-index.arena
    c.loop-index.invariant.gone false test refl

pub loop-index-preserved-then-not-stay-index : goal.loop-index-preserved-then-not-stay-index
loop-index-preserved-then-not-stay-index g c =
    let told = told_here c.args.shape c.args.arena.now c.requires.whole c.requires.shape c.requires.theta (λ us. c.args.stay.now ≡ us) c.requires.stay in
    let all = tests c.args.shape c.args.arena.now c.requires.whole c.requires.shape c.requires.theta c.args.stay.now told in
    let test = slice_get-get_or c.args.stay.now (c.loop-index.index - 1) _ (omega (arith, all, c.loop-index.invariant.within, c.loop-index-test.true)) ∙ ap Some c.if-not-stay-index.true in
    record {
      gone = c.remove_variable.ensures.gone
          ∙ now_gone c.args.shape c.args.arena.now c.requires.whole c.requires.shape c.requires.theta c.args.stay.now told c.loop-index.index c.loop-index-test.true c.loop-index.invariant.within c.loop-index.arena
          c.loop-index.invariant.gone false test refl;
      within = omega arith;
      looks = omega arith;
    }

pub returns-clause-gone : goal.returns-clause-gone
returns-clause-gone g c =
    let last : c.loop-index.index ≡ 0 = omega arith in
    c.loop-index.invariant.gone ∙ ap (λ k. from_last (variable_removed c.args.shape.node) k (drop k c.args.stay.now) c.args.arena.now) last
