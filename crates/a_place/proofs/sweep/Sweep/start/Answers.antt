use Rattle.std.proofs.Common.{◌≤◌, ◌<◌, ◌∙◌, refl, ap, subst, length, take, get_or, arith}
use Rattle.a_place.specs.Places.{given}
use Rattle.a_place.specs.Sweep.{IsSweepAt}
use Rattle.a_place.proofs.Positions.{at_span}
use Rattle.a_place.proofs.Steps.{one_given}
use Rattle.a_place.proofs.sweep.Sweep.start.Goals as goal

pub loop-name-preserved : goal.loop-name-preserved
loop-name-preserved c =
    let k = c.loop-name.name-index in
    let names = c.args.names.now in
    let before = c.loop-name.invariant in
    let step = c.in_ok-give.ensures in
    let inside : k < length names = c.loop-name-test.true in
    record {
      names = step.names ∙ before.names;
      lines = step.lines ∙ before.lines;
      count = omega (arith, step.count, before.count);
      sweep = λ ls i gs e a s.
          let ends = ap (λ span. span.last) (at_span ls c.args.spans.now (get_or names k 0) _ e (c.requires.names k inside)) in
          subst (λ g. IsSweepAt ls i g c.give.new.self) (one_given ls names k (get_or names k 0) gs inside refl)
          (step.sweep ls i (given ls (take k names) gs) (a k inside).0 ends (subst (λ l. i ≤ l) ends (a k inside).1) (before.sweep ls i gs e a s));
    }
