-- Inlining of calls of some lambdas, the callees.
use Rattle.std.specs.Prelude.{ℕ, ◌==◌, List, [], ◌∷◌, Option, None, Some, option_map, option_and_then, is_some, unwrap_or, if◌then◌else◌}
use Rattle.r_rule.specs.declared.steps.Rule.TheVariants.{Inline}
use Rattle.g_graph.specs.Plain.{PlainLambda}
use Rattle.r_inline.specs.Called.{called_at}
use Rattle.r_inline.specs.Rule.{applies, lambda_inlined}
use Rattle.r_sweep_def.specs.Swept.{Change}

-- the first of these lambdas that has the number
abbrev pub numbered : ℕ → List PlainLambda → Option PlainLambda
numbered f [] = None
numbered f (c ∷ callees) = if c.number == f then Some c else numbered f callees

-- the callee that comes in the place of the call at a node
abbrev pub inlined_at : (callees : List PlainLambda) → (node : ℕ) → PlainLambda → Option PlainLambda
inlined_at callees n l = option_and_then (λ f. option_and_then (λ c. if applies l n c then Some c else None) (numbered f callees)) (called_at n l)

-- the rule, which with fixed callees looks at its lambda alone
abbrev pub inline_change : (callees : List PlainLambda) → Change
inline_change callees = record {
  rule = Inline;
  applies = λ l n. is_some (inlined_at callees n l);
  changed = λ n l. unwrap_or (option_map (λ c. lambda_inlined n c l) (inlined_at callees n l)) l;
}
