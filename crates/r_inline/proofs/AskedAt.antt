-- What the walk asks is what the rule is said to be local by.
use Rattle.std.proofs.Common.{◌≡◌, ℕ, Bool, true, false, cond, List, [], ◌∷◌, ◌++◌, Option, None, Some, option_map, refl, ap, ◌∙◌}
use Rattle.std.specs.Prelude.{option_and_then, ◌&&◌}
use Rattle.std.specs.List.{AllByRecursion}
use Rattle.r_rule.specs.declared.steps.Rule.TheVariants.{Inline}
use Rattle.g_graph.specs.Ids.{region_ids}
use Rattle.g_graph.specs.declared.op.Op.{Op}
use Rattle.g_graph.specs.declared.op.Origin.{Origin}
use Rattle.g_graph.specs.Plain.{NodeTree, node, inputs_in, nodes_in, results_of, PlainLambda}
use Rattle.g_graph.specs.WellFormed.{IsWellFormed}
use Rattle.r_inline.specs.Called.{called_by}
use Rattle.r_edit.specs.Numbering.{node_count}
use Rattle.r_inline.specs.Rule.{calls, inlined, may_inline}
use Rattle.r_inline.specs.Asked.{part_of, callee_for, inline_asked}
use Rattle.r_inline.specs.Callees.{numbered, inline_change}
use Rattle.r_inline.specs.WalkLaws.{InlineIsLocal}
use Rattle.r_inline.specs.AskedAt.{comes_at, made_at}
use Rattle.r_sweep_def.specs.Swept.{Logged, Change, tried_by, swept_by}
use Rattle.r_walk.specs.Asks as asks
use Rattle.r_walk.specs.Laws.{WalksAreSweeps}
use Rattle.r_walk.specs.Walk.{walked}

module _ (callees : List PlainLambda) where
  asked_is : asks.asked_by (made_at (λ f. numbered f callees)) ≡ inline_asked callees
  asked_is = λ i values next before uses x. same values next x i
    where
      one : (values next : ℕ) (op : Op) (inputs : List Origin) (c : PlainLambda) (t : Bool) →
          asks.part_of (option_map (λ r. record { nodes = nodes_in r; outputs = results_of r; taken = node_count c.body }) (cond t (Some (inlined next c inputs)) None))
          ≡ part_of next inputs (cond t (Some c) None)
      one values next op inputs c true = refl
      one values next op inputs c false = refl

      of_callee : (values next : ℕ) (op : Op) (inputs : List Origin) (o : Option PlainLambda) →
          asks.part_of (option_and_then (comes_at values next op inputs) o)
          ≡ part_of next inputs (option_and_then (λ c. cond (may_inline values next c && calls c op inputs) (Some c) None) o)
      of_callee values next op inputs None = refl
      of_callee values next op inputs (Some c) = one values next op inputs c (may_inline values next c && calls c op inputs)

      of_call : (values next : ℕ) (op : Op) (inputs : List Origin) (o : Option ℕ) →
          asks.part_of (option_and_then (comes_at values next op inputs) (option_and_then (λ f. numbered f callees) o))
          ≡ part_of next inputs (option_and_then (λ f. option_and_then (λ c. cond (may_inline values next c && calls c op inputs) (Some c) None) (numbered f callees)) o)
      of_call values next op inputs None = refl
      of_call values next op inputs (Some f) = of_callee values next op inputs (numbered f callees)

      same : (values next : ℕ) (x : NodeTree) → asks.part_of (made_at (λ f. numbered f callees) values next x) ≡ part_of next (inputs_in x) (callee_for callees values next x)
      same values next (node id op inputs rs) = of_call values next op inputs (called_by op)

  pub walk_is_sweep : WalksAreSweeps → InlineIsLocal → AllByRecursion IsWellFormed callees → (s : Logged) → IsWellFormed s.lambda → (found : ℕ → Option PlainLambda) → ((f : ℕ) → found f ≡ numbered f callees) →
      walked Inline (asks.asked_by (made_at found)) s ≡ swept_by (inline_change callees) (region_ids s.lambda.body) s
  walk_is_sweep law local all s well found e =
      let same : found ≡ (λ f. numbered f callees) = λ i f. e f i in
      ap (λ by. walked Inline (asks.asked_by (made_at by)) s) same
      ∙ ap (λ ask. walked Inline ask s) asked_is
      ∙ law (inline_change callees) (inline_asked callees) s (local callees all) well

-- ---- what a sweep makes is well formed

module _ (c : Change) (keeps : (l : PlainLambda) (n : ℕ) → IsWellFormed l → c.applies l n ≡ true → IsWellFormed (c.changed n l)) where
  one_keeps : (n : ℕ) (s : Logged) → IsWellFormed s.lambda → IsWellFormed (tried_by c s n).lambda
  one_keeps n s well = by (c.applies s.lambda n) refl
    where
      by : (t : Bool) → c.applies s.lambda n ≡ t → IsWellFormed (cond t (record { lambda = c.changed n s.lambda; steps = s.steps ++ record { rule = c.rule; node = n } ∷ [] }) s).lambda
      by true may = keeps s.lambda n well may
      by false may = well

  pub sweep_keeps : (ns : List ℕ) (s : Logged) → IsWellFormed s.lambda → IsWellFormed (swept_by c ns s).lambda
  sweep_keeps [] s well = well
  sweep_keeps (n ∷ ns) s well = sweep_keeps ns (tried_by c s n) (one_keeps n s well)
