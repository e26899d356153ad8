use Rattle.std.proofs.Common.{[], ◌∙◌, ap, filter, length, length-set, get_or, arith}
use Rattle.std.specs.Prelude.{◌==◌}
use Rattle.val_core.specs.Numbers.{numbers_from}
use Rattle.a_place.specs.Places.{first}
use Rattle.a_place.proofs.Positions.{at_span, length_spans}
use Rattle.a_place.proofs.lemmas.Starting.{start_put, start_skip}
use Rattle.a_place.proofs.placing.starts.Goals as goal
use Rattle.a_place.proofs.placing.starts.Goals.{then-span-end+in_ok-put, else-span-end}

pub loop-name-preserved : goal.loop-name-preserved
loop-name-preserved c =
    let before = c.loop-name.invariant in
    elim c.if-span-end.branch [
      | then-span-end+in_ok-put w ↦ record {
        size = ap length (w.starts-is ∙ w.in_ok-put.ensures) ∙ length-set c.loop-name.starts _ _ ∙ before.size;
        starts = λ ls p e h.
            start_put (λ x. first x ls) c.loop-name.starts c.if-span-end.starts c.loop-name.name _ p
            (ap (λ span. span.first) (at_span ls c.args.spans.now c.loop-name.name _ e c.loop-name-test.true))
            (omega (arith, before.size, w.if-span-end.true)) (w.starts-is ∙ w.in_ok-put.ensures) (before.starts ls p e h);
      }
      | else-span-end w ↦ record {
        size = ap length w.starts-is ∙ before.size;
        starts = λ ls p e h.
            ap (λ starts. get_or starts p []) w.starts-is
            ∙ start_skip (λ x. first x ls) (get_or c.loop-name.starts p []) c.loop-name.name _ p c.args.end
            (ap (λ span. span.first) (at_span ls c.args.spans.now c.loop-name.name _ e c.loop-name-test.true)) h w.if-span-end.false
            (before.starts ls p e h);
      }
    ]

pub returns-clause-starts : goal.returns-clause-starts
returns-clause-starts c = λ ls p e h.
    c.loop-name.invariant.starts ls p e h
    ∙ ap (λ n. filter (λ x. first x ls == p) (numbers_from 0 n)) (let all = length_spans ls c.args.spans.now e in
    omega (arith, all, c.loop-name-test.false, c.loop-name.auto.name-end))
