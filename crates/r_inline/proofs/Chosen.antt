-- The callee that comes in the place of a node is the one that is found for it.
use Rattle.std.specs.Prelude.{◌&&◌, option_and_then, is_some}
use Rattle.std.proofs.Common.{◌≡◌, ℕ, Bool, true, false, cond, List, Option, None, Some, option_map, refl, sym, ap, ◌∙◌}
use Rattle.g_graph.specs.declared.op.Kind.{Kind}
use Rattle.g_graph.specs.declared.op.Op.TheVariants.{Apply}
use Rattle.g_graph.specs.declared.op.Origin.{Origin}
use Rattle.g_graph.specs.Change.{region_changed, has_node}
use Rattle.g_graph.specs.Nodes.{node_at}
use Rattle.g_graph.specs.Plain.{RegionTree, region, NodeTree, node, NodeTrees, node_then, id_of, op_of, inputs_in, nodes_in, results_of, PlainLambda}
use Rattle.g_graph.specs.Program.{lambda_values}
use Rattle.g_graph.specs.Splice.{joined_nodes, region_spliced}
use Rattle.g_graph.specs.WellFormed.{IsWellFormed}
use Rattle.g_graph.proofs.lemmas.Change.{region_can_change}
use Rattle.g_graph.proofs.lemmas.Indexes.{same_number_true}
use Rattle.r_inline.specs.Called.{called_by, called_at}
use Rattle.r_inline.specs.Rule.{is_call, inputs_of_call, inlined, inline_here, may_inline, applies}
use Rattle.r_walk.specs.Context.{ChangesOnlyAt, IsContext}
use Rattle.r_walk.specs.Laws.{region_with}
use Rattle.r_walk.proofs.lemmas.Contexts.{whole_part}
use Rattle.r_walk.proofs.lemmas.Local.{not_found, found_here, replaced_at, not_before, changed_at, unchanged_at}
use Rattle.r_inline.specs.Callees.{numbered, inlined_at}
use Rattle.r_inline.specs.Asked.{callee_for}
use Rattle.r_inline.proofs.CalledAt.{kept_if, holds_call, calls_found}

only_there : (next n : ℕ) (c : PlainLambda) → ChangesOnlyAt n (inline_here next n c)
only_there next n c (region args nodes results) e =
    ap (λ o. option_map (λ inputs. region_spliced n (inlined next c inputs) (region args nodes results)) (option_and_then (inputs_of_call c) o)) (not_found n nodes e)

only-calls : (f n : ℕ) → ChangesOnlyAt n (holds_call f n)
only-calls f n (region args nodes results) e = ap (λ o. option_and_then (λ y. kept_if f (called_by (op_of y)) (region args nodes results)) o) (not_found n nodes e)

not-call : (c : PlainLambda) (x : NodeTree) → called_by (op_of x) ≡ None → is_call c x ≡ false
not-call c (node id (Apply f) inputs rs) e = absurd cc
not-call c (node id _ inputs rs) e = refl

and-false : (b : Bool) → (b && false) ≡ false
and-false true = refl
and-false false = refl

module _ (l : PlainLambda) (context : RegionTree → RegionTree) (args : List Kind) (before : NodeTrees) (x : NodeTree) (after : NodeTrees) (results : List Origin) (around : IsContext context)
    (well : IsWellFormed l) (at : l.body ≡ context (region args (joined_nodes before (node_then x after)) results)) where
  abbrev here : RegionTree
  here = region args (joined_nodes before (node_then x after)) results

  first : has_node (id_of x) before ≡ false
  first = not_before l context args before x after results around well at

  found : node_at (id_of x) (joined_nodes before (node_then x after)) ≡ Some x
  found = found_here args before x after results first

  here-is : (c : PlainLambda) → inline_here l.next (id_of x) c here ≡ option_map (λ inputs. region_spliced (id_of x) (inlined l.next c inputs) here) (inputs_of_call c x)
  here-is c = ap (λ o. option_map (λ inputs. region_spliced (id_of x) (inlined l.next c inputs) here) (option_and_then (inputs_of_call c) o)) found

  -- ---- a call of the callee

  pub inlines : (c : PlainLambda) → is_call c x ≡ true →
      region_changed (inline_here l.next (id_of x) c) l.body
      ≡ Some (context (region_with args before (id_of x) (nodes_in (inlined l.next c (inputs_in x))) (results_of (inlined l.next c (inputs_in x))) after results))
  inlines c e =
      changed_at l context args before x after results around well at (inline_here l.next (id_of x) c) (only_there l.next (id_of x) c)
      (region_with args before (id_of x) (nodes_in (inlined l.next c (inputs_in x))) (results_of (inlined l.next c (inputs_in x))) after results)
      (here-is c ∙ ap (λ t. option_map (λ inputs. region_spliced (id_of x) (inlined l.next c inputs) here) (cond t (Some (inputs_in x)) None)) e
      ∙ ap Some (replaced_at args before x after results first (inlined l.next c (inputs_in x))))

  not-inlined : (c : PlainLambda) → is_call c x ≡ false → region_changed (inline_here l.next (id_of x) c) l.body ≡ None
  not-inlined c e =
      unchanged_at l context args before x after results around well at (inline_here l.next (id_of x) c) (only_there l.next (id_of x) c)
      (here-is c ∙ ap (λ t. option_map (λ inputs. region_spliced (id_of x) (inlined l.next c inputs) here) (cond t (Some (inputs_in x)) None)) e)

  changes-so : (c : PlainLambda) → is_some (region_changed (inline_here l.next (id_of x) c) l.body) ≡ is_call c x
  changes-so c = by (is_call c x) refl
    where
      by : (t : Bool) → is_call c x ≡ t → is_some (region_changed (inline_here l.next (id_of x) c) l.body) ≡ t
      by true e = ap is_some (inlines c e)
      by false e = ap is_some (not-inlined c e)

  applies-so : (c : PlainLambda) → applies l (id_of x) c ≡ (may_inline (lambda_values l) l.next c && is_call c x)
  applies-so c = ap (λ t. may_inline (lambda_values l) l.next c && t) (changes-so c)

  -- ---- the function that is called

  called-so : (f : ℕ) → called_by (op_of x) ≡ Some f → called_at (id_of x) l ≡ Some f
  called-so f e =
      calls_found f (id_of x) l.body (whole_part l well).unique
      (sym (region_can_change (holds_call f (id_of x)) l.body)
      ∙ ap is_some (changed_at l context args before x after results around well at (holds_call f (id_of x)) (only-calls f (id_of x)) here holds))
    where
      holds : holds_call f (id_of x) here ≡ Some here
      holds =
          ap (λ o. option_and_then (λ y. kept_if f (called_by (op_of y)) here) o) found
          ∙ ap (λ o. kept_if f o here) e ∙ ap (λ t. cond t (Some here) None) (same_number_true f)

  pub chosen : (callees : List PlainLambda) → inlined_at callees (id_of x) l ≡ callee_for callees (lambda_values l) l.next x
  chosen callees = by (called_by (op_of x)) refl
    where
      one : (o : Option PlainLambda) →
          option_and_then (λ c. cond (applies l (id_of x) c) (Some c) None) o ≡ option_and_then (λ c. cond (may_inline (lambda_values l) l.next c && is_call c x) (Some c) None) o
      one None = refl
      one (Some c) = ap (λ t. cond t (Some c) None) (applies-so c)

      none : called_by (op_of x) ≡ None → (o : Option PlainLambda) → option_and_then (λ c. cond (applies l (id_of x) c) (Some c) None) o ≡ None
      none e None = refl
      none e (Some c) =
          ap (λ t. cond t (Some c) None) (applies-so c ∙ ap (λ t. may_inline (lambda_values l) l.next c && t) (not-call c x e) ∙ and-false (may_inline (lambda_values l) l.next c))

      nothing : called_by (op_of x) ≡ None → (o : Option ℕ) → option_and_then (λ f. option_and_then (λ c. cond (applies l (id_of x) c) (Some c) None) (numbered f callees)) o ≡ None
      nothing e None = refl
      nothing e (Some g) = none e (numbered g callees)

      by : (o : Option ℕ) → called_by (op_of x) ≡ o →
          inlined_at callees (id_of x) l ≡ option_and_then (λ f. option_and_then (λ c. cond (may_inline (lambda_values l) l.next c && is_call c x) (Some c) None) (numbered f callees)) o
      by None e = nothing e (called_at (id_of x) l)
      by (Some f) e =
          ap (λ o. option_and_then (λ f. option_and_then (λ c. cond (applies l (id_of x) c) (Some c) None) (numbered f callees)) o) (called-so f e) ∙ one (numbered f callees)
