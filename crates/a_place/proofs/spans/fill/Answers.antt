use Rattle.std.proofs.Common.{◌-◌, ◌∙◌, refl, arith}
use Rattle.a_place.proofs.Intervals.{fill_next, names_are_below}
use Rattle.a_place.proofs.spans.fill.Goals as goal

pub begin-requires-clause-below : goal.begin-requires-clause-below
begin-requires-clause-below c =
    let h = names_are_below c.args.lines.now (c.loop-position.position - 1) c.index-lines-position.result c.deref.result.now (omega arith)
    c.index-lines-position.is (c.deref.ensures.value ∙ c.in_ok-read_names.ensures) in
    omega (arith, h, c.requires.count, c.loop-position.auto.spans)

pub loop-position-preserved : goal.loop-position-preserved
loop-position-preserved c = record {
  within = omega arith;
  filled = λ x d h.
      fill_next x (c.loop-position.position - 1) c.loop-position.position _ c.args.lines.now c.index-lines-position.result c.deref.result.now _ _
      (omega arith) (omega arith) refl c.index-lines-position.is (c.deref.ensures.value ∙ c.in_ok-read_names.ensures)
      (c.loop-position.invariant.filled x d (omega arith)) (c.begin.ensures x d (omega arith));
}
