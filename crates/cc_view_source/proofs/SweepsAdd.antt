-- The steps of the sweeps of a table add up to those of the answer's log.
use Rattle.std.proofs.Common.{◌≡◌, ◌≤◌, ◌+◌, ◌-◌, ℕ, List, [], ◌∷◌, length, length-append, Option, None, Some, refl, sym, ap, ◌∙◌, arith}
use Rattle.std.specs.List.{fold, sum_by}
use Rattle.std.proofs.lemmas.Option.{same_Some}
use Rattle.r_rule.specs.declared.steps.Rule.{Rule}
use Rattle.g_graph.specs.Ids.{region_ids}
use Rattle.g_graph.specs.Plain.{PlainLambda}
use Rattle.r_rule.specs.Optimised.{PlainOptimised}
use Rattle.g_pass_def.specs.Answers.{lambda_of}
use Rattle.g_pass_def.specs.Sweep.{in_order, optimise, stepped, sweep, tried, RuleTable, Swept}
use Rattle.g_pass.specs.Counts.{counts_of}
use Rattle.g_pass.specs.declared.replayed_sweeps.SweepCount.{SweepCount}
use Rattle.g_pass.specs.Sweep.{rules}
use Rattle.cc_view_source.specs.TableLaws.{SweepsMakeTheAnswer}

stepped-grows : (r : Rule) (n : ℕ) (s : Swept) (o : Option PlainLambda) → length s.steps ≤ length (stepped r n s o).steps
stepped-grows r n s None = omega arith
stepped-grows r n s (Some k) = omega (arith, length-append s.steps (record { rule = r; node = n } ∷ []))

abbrev add-steps : ℕ → SweepCount → ℕ
add-steps a c = a + c.steps

module _ (t : RuleTable) (callees : List PlainLambda) where
  tried-grows : (r : Rule) (s : Swept) (ns : List ℕ) → length s.steps ≤ length (fold (tried t callees r) s ns).steps
  tried-grows r s [] = omega arith
  tried-grows r s (n ∷ ns) =
      let next = tried t callees r s n in
      let one : length s.steps ≤ length next.steps = stepped-grows r n s (t.step r callees n s.lambda) in
      let more : length next.steps ≤ length (fold (tried t callees r) s (n ∷ ns)).steps = tried-grows r next ns in
      omega (arith, one, more)

  total : (s : Swept) (rs : List Rule) (before : ℕ) → fold add-steps before (counts_of t callees s rs) + length s.steps ≡ before + length (fold (sweep t callees) s rs).steps
  total s [] before = refl
  total s (r ∷ rs) before =
      let next = sweep t callees s r in
      let grown : length s.steps ≤ length next.steps = tried-grows r s (in_order t r (region_ids s.lambda.body)) in
      let rest : fold add-steps before (counts_of t callees s (r ∷ rs)) + length next.steps ≡ before + (length next.steps - length s.steps) + length (fold (sweep t callees) s (r ∷ rs)).steps =
      total next rs (before + (length next.steps - length s.steps)) in
      omega (arith, grown, rest)

abbrev the-swept : PlainOptimised → Swept
the-swept o = record { lambda = o.lambda; steps = o.steps }

pub sweeps_add : SweepsMakeTheAnswer
sweeps_add recipe ls answers f callees a found made =
    let l = lambda_of ls f in
    let is : optimise rules callees recipe l ≡ a = same_Some (optimise rules callees recipe l) a (sym made ∙ found) in
    let same : length (optimise rules callees recipe l).steps ≡ length a.steps = ap (λ (o : PlainOptimised). length o.steps) is in
    let all : sum_by (λ (c : SweepCount). c.steps) (counts_of rules callees (record { lambda = l; steps = [] }) recipe) + 0 ≡ 0 + length (optimise rules callees recipe l).steps =
    total rules callees (record { lambda = l; steps = [] }) recipe 0 in
    (ap the-swept is, omega (arith, all, same))
