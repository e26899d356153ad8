use Rattle.std.proofs.Common.{◌≡◌, ◌<◌, ◌∙◌, refl, sym, ap, true, false, get_or, arith}
use Rattle.std.specs.Prelude.{nat_lt}
use Rattle.std.proofs.lemmas.Bool.{lt-ltb}
use Rattle.a_share.specs.Chosen.{candidate}
use Rattle.a_share.specs.Giving.{fits_at}
use Rattle.a_share.proofs.Placing.{none_tried, tried_more, trial_passes}
use Rattle.a_share.proofs.Trying.{other_left, other_found, candidate_below}
use Rattle.a_share.proofs.giving.Giving.choose.Goals as goal

pub loop-partner-init : goal.loop-partner-init
loop-partner-init c = record { tried = none_tried (fits_at c.args.facts.now c.args.name c.args.self.now) 31; size = refl; left = refl }

pub loop-k-preserved : goal.loop-k-preserved
loop-k-preserved c =
    let g = c.args.self.now in
    let r = tried_more (fits_at c.args.facts.now c.args.name g) c.loop-k.tried c.tries-in-loop-k.new.tried c.candidate-place.result c.tries-in-loop-k.result c.loop-k.invariant.size
    c.tries-in-loop-k.ensures.tried c.tries-in-loop-k.ensures.result c.if-tries-2.false c.loop-k.invariant.tried in
    let below : candidate c.loop-k.k < 31 = candidate_below c.loop-k.k c.loop-k-test.true in
    let low : nat_lt c.candidate-place.result 31 ≡ true = lt-ltb c.candidate-place.result 31 (omega (arith, c.candidate-place.ensures, below)) in
    let fails : fits_at c.args.facts.now c.args.name g (candidate c.loop-k.k) ≡ false =
    ap (fits_at c.args.facts.now c.args.name g) (sym c.candidate-place.ensures) ∙ r.1 low in
    record {
      tried = r.0;
      size = c.tries-in-loop-k.array_long;
      left = sym (other_left (fits_at c.args.facts.now c.args.name g) g.next c.loop-k.k c.loop-k-test.true fails) ∙ c.loop-k.invariant.left;
    }

pub returns-then-tries-2 : goal.returns-then-tries-2
returns-then-tries-2 c =
    let g = c.args.self.now in
    let t = trial_passes (nat_lt c.candidate-place.result 31) (get_or c.loop-k.tried c.candidate-place.result false) (fits_at c.args.facts.now c.args.name g c.candidate-place.result)
    (sym c.if-tries-2.true ∙ c.tries-in-loop-k.ensures.result) in
    let passes : fits_at c.args.facts.now c.args.name g (candidate c.loop-k.k) ≡ true =
    ap (fits_at c.args.facts.now c.args.name g) (sym c.candidate-place.ensures) ∙ t.1 in
    c.candidate-place.ensures
    ∙ (sym (other_found (fits_at c.args.facts.now c.args.name g) g.next c.loop-k.k c.loop-k-test.true passes) ∙ c.loop-k.invariant.left)
