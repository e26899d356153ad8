-- What the rule makes of a node is what it says of it.
use Rattle.std.specs.List.{AllByRecursion}
use Rattle.std.specs.Prelude.{◌&&◌, option_and_then, is_some, unwrap_or}
use Rattle.std.proofs.Common.{◌≡◌, ℕ, ◌+◌, ◌<◌, ◌≤◌, ◌==◌, ◌⊎◌, Bool, true, false, cond, List, [], ◌∷◌, ◌++◌, length, Option, None, Some, option_map, refl, sym, ap, subst, ◌∙◌, inl, inr, arith}
use Rattle.std.proofs.lemmas.Bool.{and_parts}
use Rattle.std.proofs.lemmas.Option.{cond_some}
use Rattle.g_graph.specs.declared.op.Kind.{Kind}
use Rattle.g_graph.specs.declared.op.Origin.{Origin}
use Rattle.g_graph.specs.Ids.{region_ids, node_ids, nodes_ids, regions_ids}
use Rattle.g_graph.specs.Plain.{RegionTree, region, NodeTree, node, NodeTrees, node_then, id_of, op_of, inputs_in, nodes_in, results_of, regions_in, PlainLambda}
use Rattle.g_graph.specs.Program.{lambda_values}
use Rattle.g_graph.specs.Splice.{args_to_inputs, joined_nodes}
use Rattle.g_graph.specs.WellFormed.{IsWellFormed}
use Rattle.g_graph.proofs.lemmas.Redirects.{region_ids-redirected}
use Rattle.g_mean.specs.Copies.{IsAmong, AreRead, known_after, is_argument}
use Rattle.g_mean.specs.Edits.{IsPartOf}
use Rattle.g_mean.proofs.lemmas.Copies.{among-left, among-right}
use Rattle.g_mean.proofs.lemmas.Inside.{inputs-read}
use Rattle.g_mean.proofs.lemmas.Splices.{known-among}
use Rattle.r_edit.specs.Numbering.{node_count, region_numbered}
use Rattle.r_inline.specs.Called.{called_by, called_at}
use Rattle.r_inline.specs.Laws.{InlineIsAStep}
use Rattle.r_inline.specs.Rule.{is_call, inlined, may_inline, applies, lambda_inlined}
use Rattle.r_walk.specs.Context.{IsContext}
use Rattle.r_walk.specs.Laws.{AreOutputsAmong, region_with, Becomes, IsSaid}
use Rattle.r_walk.proofs.lemmas.Contexts.{whole_part}
use Rattle.r_walk.proofs.lemmas.Copies.{copies_are_new}
use Rattle.r_walk.proofs.lemmas.Local.{ids_in, part_of, inside_it, below_next, gone}
use Rattle.r_inline.specs.Asked as asked
use Rattle.r_inline.specs.Asked.{callee_for, inline_asked}
use Rattle.r_inline.specs.Callees.{numbered, inlined_at, inline_change}
use Rattle.r_inline.specs.WalkLaws.{InlineIsLocal}
use Rattle.r_inline.proofs.CalledAt.{no_calls}
use Rattle.r_inline.proofs.Chosen.{inlines, chosen}
use Rattle.r_inline.proofs.Known.{read_outputs, copied_outputs}

-- ---- the callee

well-one : (f : ℕ) (callees : List PlainLambda) (c : PlainLambda) → AllByRecursion IsWellFormed callees → numbered f callees ≡ Some c → IsWellFormed c
well-one f [] c all e = absurd cc
well-one f (b ∷ callees) c all e = by (b.number == f) e (λ d. well-one f callees c all.1 d)
  where
    by : (t : Bool) → cond t (Some b) (numbered f callees) ≡ Some c → (numbered f callees ≡ Some c → IsWellFormed c) → IsWellFormed c
    by true d h =
        let same : b ≡ c = cc in
        subst IsWellFormed same all.0
    by false d h = h d

record IsFound (callees : List PlainLambda) (test : PlainLambda → Bool) (c : PlainLambda) : Type 0 where
  function : ℕ
  number : numbered function callees ≡ Some c
  holds : test c ≡ true

is-found : (callees : List PlainLambda) (test : PlainLambda → Bool) (called : Option ℕ) (c : PlainLambda) →
    option_and_then (λ f. option_and_then (λ b. cond (test b) (Some b) None) (numbered f callees)) called ≡ Some c → IsFound callees test c
is-found callees test None c e = absurd cc
is-found callees test (Some f) c e = by (numbered f callees) refl e
  where
    by : (o : Option PlainLambda) → numbered f callees ≡ o → option_and_then (λ b. cond (test b) (Some b) None) o ≡ Some c → IsFound callees test c
    by None d k = absurd cc
    by (Some b) d k =
        let p = cond_some (test b) b c k in
        record { function = f; number = d ∙ ap Some p.1; holds = sym (ap test p.1) ∙ p.0 }

not-there : (callees : List PlainLambda) (n : ℕ) (l : PlainLambda) → (IsAmong n (region_ids l.body) → ⊥) → is_some (inlined_at callees n l) ≡ false
not-there callees n l h = ap (λ o. is_some (option_and_then (λ f. option_and_then (λ c. cond (applies l n c) (Some c) None) (numbered f callees)) o)) (no_calls n l.body h)

-- ---- the nodes that come

are-new : (next : ℕ) (c : PlainLambda) (inputs : List Origin) (n : ℕ) → IsAmong n (nodes_ids (nodes_in (inlined next c inputs))) → next ≤ n
are-new next c inputs n h =
    copies_are_new next c.body n
    (subst (IsAmong n) (ids_in (inlined next c inputs) ∙ region_ids-redirected (args_to_inputs inputs) (region_numbered next c.body)) h)

reads : (l : PlainLambda) (args : List Kind) (before : NodeTrees) (x : NodeTree) (after : NodeTrees) (results : List Origin) → IsPartOf l (region args (joined_nodes before (node_then x after)) results) →
    AreRead (is_argument (length args)) (known_after [] before) (inputs_in x)
reads l args before (node id op inputs rs) after results part = inputs-read l args before id op inputs rs after results part

before-among : (before : NodeTrees) (n : ℕ) → IsAmong n (known_after [] before) → IsAmong n (nodes_ids before)
before-among before n h = by (known-among [] before n h)
  where
    by : IsAmong n [] ⊎ IsAmong n (nodes_ids before) → IsAmong n (nodes_ids before)
    by (inl k) = absurd k
    by (inr k) = k

module _ (callees : List PlainLambda) (all : AllByRecursion IsWellFormed callees) (l : PlainLambda) (context : RegionTree → RegionTree) (args : List Kind) (before : NodeTrees) (x : NodeTree)
    (after : NodeTrees) (results : List Origin) (around : IsContext context) (well : IsWellFormed l) (at : l.body ≡ context (region args (joined_nodes before (node_then x after)) results)) where
  same : inlined_at callees (id_of x) l ≡ callee_for callees (lambda_values l) l.next x
  same = chosen l context args before x after results around well at callees

  part : IsPartOf l (region args (joined_nodes before (node_then x after)) results)
  part = part_of l context args before x after results around well at

  module _ (c : PlainLambda) (is : callee_for callees (lambda_values l) l.next x ≡ Some c) where
    abbrev nodes : NodeTrees
    nodes = nodes_in (inlined l.next c (inputs_in x))

    abbrev outs : List Origin
    outs = results_of (inlined l.next c (inputs_in x))

    abbrev now : PlainLambda
    now = record l { body = context (region_with args before (id_of x) nodes outs after results); next = l.next + node_count c.body }

    found : IsFound callees (λ b. may_inline (lambda_values l) l.next b && is_call b x) c
    found = is-found callees (λ b. may_inline (lambda_values l) l.next b && is_call b x) (called_by (op_of x)) c is

    call : is_call c x ≡ true
    call = (and_parts (may_inline (lambda_values l) l.next c) (is_call c x) found.holds).1

    well-callee : IsWellFormed c
    well-callee = well-one found.function callees c all found.number

    changed-so : (inline_change callees).changed (id_of x) l ≡ now
    changed-so =
        ap (λ o. unwrap_or (option_map (λ b. lambda_inlined (id_of x) b l) o) l) (same ∙ is)
        ∙ ap (λ o. record l { body = unwrap_or o l.body; next = l.next + node_count c.body }) (inlines l context args before x after results around well at c call)

    known-so : AreOutputsAmong (nodes_ids before ++ node_ids x ++ nodes_ids nodes) outs
    known-so =
        copied_outputs l.next (inputs_in x) c.body (whole_part c well-callee).closed (nodes_ids before ++ node_ids x ++ nodes_ids nodes)
        (read_outputs (length args) (known_after [] before) (nodes_ids before ++ node_ids x ++ nodes_ids nodes)
        (λ n k. among-left n (nodes_ids before ++ node_ids x) (nodes_ids nodes) (among-left n (nodes_ids before) (node_ids x) (before-among before n k)))
        (inputs_in x) (reads l args before x after results part))
        (λ n k. among-right n (nodes_ids before ++ node_ids x) (nodes_ids nodes) k)

    not-old : (n : ℕ) → n < l.next → IsAmong n (nodes_ids nodes) → ⊥
    not-old n less h = absurd (omega (arith, are-new l.next c (inputs_in x) n h))

    inert-so : (n : ℕ) → IsAmong n (regions_ids (regions_in x)) → is_some (inlined_at callees n ((inline_change callees).changed (id_of x) l)) ≡ false
    inert-so n within =
        let inside = inside_it l context args before x after results around well at n within in
        let less = below_next l context args before x after results around well at n inside in
        ap (λ k. is_some (inlined_at callees n k)) changed-so
        ∙ not-there callees n now (gone l context args before x after results around well at nodes outs n inside (not-old n less))

    becomes-so : Becomes (inline_change callees) l context args before x after results nodes outs (node_count c.body)
    becomes-so = record {
      applies = ap is_some (same ∙ is);
      changed = changed-so;
      known = known-so;
      numbers = λ n less h. absurd (not-old n less h);
      inert = inert-so;
    }

  said-so : (uses : List Origin) → IsSaid (inline_change callees) l context args before x after results (inline_asked callees (lambda_values l) l.next before uses x)
  said-so uses = by (callee_for callees (lambda_values l) l.next x) refl
    where
      by : (o : Option PlainLambda) → callee_for callees (lambda_values l) l.next x ≡ o → IsSaid (inline_change callees) l context args before x after results (asked.part_of l.next (inputs_in x) o)
      by None e = ap is_some (same ∙ e)
      by (Some c) e = becomes-so c e

module _ (step : InlineIsAStep) (callees : List PlainLambda) (all : AllByRecursion IsWellFormed callees) where
  keeps-so : (l : PlainLambda) (n : ℕ) → IsWellFormed l → is_some (inlined_at callees n l) ≡ true → IsWellFormed (unwrap_or (option_map (λ c. lambda_inlined n c l) (inlined_at callees n l)) l)
  keeps-so l n well may = by (inlined_at callees n l) refl may
    where
      by : (o : Option PlainLambda) → inlined_at callees n l ≡ o → is_some o ≡ true → IsWellFormed (unwrap_or (option_map (λ c. lambda_inlined n c l) o) l)
      by None e t = absurd cc
      by (Some c) e t =
          let found = is-found callees (λ b. applies l n b) (called_at n l) c e in
          (step n c l (well-one found.function callees c all found.number) well found.holds).well_formed

pub inline_is_local : InlineIsAStep → InlineIsLocal
inline_is_local step callees all = record {
  keeps = keeps-so step callees all;
  absent = λ l n h. not-there callees n l h;
  said = λ l context args before x after results uses around well at same. said-so callees all l context args before x after results around well at uses;
}
