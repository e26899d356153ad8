-- What the rule makes of a node is what it says of it.
use Rattle.std.specs.Prelude.{option_and_then, is_some, unwrap_or}
use Rattle.std.proofs.Common.{◌≡◌, ℕ, ◌+◌, ◌<◌, false, List, ◌++◌, length, Option, None, Some, option_map, refl, sym, ap, subst, ◌∙◌, arith}
use Rattle.g_graph.specs.declared.op.Kind.{Kind}
use Rattle.g_graph.specs.declared.op.Origin.{Origin}
use Rattle.g_graph.specs.Change.{has_node}
use Rattle.g_graph.specs.Ids.{region_ids, node_ids, nodes_ids, regions_ids}
use Rattle.g_graph.specs.Plain.{RegionTree, region, NodeTree, NodeTrees, node_then, id_of, nodes_in, results_of, regions_in, PlainLambda}
use Rattle.g_graph.specs.Program.{lambda_values}
use Rattle.g_graph.specs.Splice.{joined_nodes, region_spliced}
use Rattle.g_graph.specs.WellFormed.{IsWellFormed}
use Rattle.g_graph.proofs.lemmas.Splices.{nodes_ids-joined}
use Rattle.g_mean.specs.Copies.{IsAmong}
use Rattle.g_mean.proofs.lemmas.Copies.{among-right}
use Rattle.r_edit.specs.Numbering.{node_count}
use Rattle.r_invert.specs.Rule.{in_place, invert_here, body_inverted, applies, with_body, lambda_inverted}
use Rattle.r_walk.specs.Context.{ChangesOnlyAt, IsContext}
use Rattle.r_walk.specs.Laws.{region_with, Becomes, IsSaid}
use Rattle.r_walk.proofs.lemmas.Contexts.{whole_part}
use Rattle.r_walk.proofs.lemmas.Local.{not_found, found_here, replaced_at, ids_in, below_one, absent, not_before, changed_at, unchanged_at, inside_it, below_next, ids_now, gone}
use Rattle.r_invert.specs.Asked as asked
use Rattle.r_invert.specs.Asked.{invert_asked}
use Rattle.r_invert.specs.WalkLaws.{invert_change, InvertIsLocal}
use Rattle.r_invert.specs.Edit.{new_in}
use Rattle.r_invert.proofs.NewNumbers.{new_within}
use Rattle.r_invert.proofs.Inverted.{IsNew, is_new}

only-there : (values next n : ℕ) → ChangesOnlyAt n (invert_here values next n)
only-there values next n (region args nodes results) e =
    ap (λ o. option_map (λ part. region_spliced n part (region args nodes results)) (option_and_then (in_place values next) o)) (not_found n nodes e)

not-there : (l : PlainLambda) (n : ℕ) → (IsAmong n (region_ids l.body) → ⊥) → applies l n ≡ false
not-there l n h = ap is_some (absent l n (invert_here (lambda_values l) l.next n) (only-there (lambda_values l) l.next n) h)

module _ (l : PlainLambda) (context : RegionTree → RegionTree) (args : List Kind) (before : NodeTrees) (x : NodeTree) (after : NodeTrees) (results : List Origin) (around : IsContext context)
    (well : IsWellFormed l) (at : l.body ≡ context (region args (joined_nodes before (node_then x after)) results)) where
  abbrev here : RegionTree
  here = region args (joined_nodes before (node_then x after)) results

  first : has_node (id_of x) before ≡ false
  first = not_before l context args before x after results around well at

  here-is : invert_here (lambda_values l) l.next (id_of x) here ≡ option_map (λ part. region_spliced (id_of x) part here) (in_place (lambda_values l) l.next x)
  here-is = ap (λ o. option_map (λ part. region_spliced (id_of x) part here) (option_and_then (in_place (lambda_values l) l.next) o)) (found_here args before x after results first)

  stays-so : in_place (lambda_values l) l.next x ≡ None → applies l (id_of x) ≡ false
  stays-so e =
      ap is_some
      (unchanged_at l context args before x after results around well at (invert_here (lambda_values l) l.next (id_of x)) (only-there (lambda_values l) l.next (id_of x))
      (here-is ∙ ap (option_map (λ part. region_spliced (id_of x) part here)) e))

  module _ (r : RegionTree) (is : in_place (lambda_values l) l.next x ≡ Some r) where
    abbrev body : RegionTree
    body = context (region_with args before (id_of x) (nodes_in r) (results_of r) after results)

    abbrev now : PlainLambda
    now = record l { body = body; next = l.next + node_count r }

    new : IsNew l.next r
    new = is_new (lambda_values l) l.next x r is

    body-is : body_inverted (id_of x) l ≡ Some body
    body-is =
        changed_at l context args before x after results around well at (invert_here (lambda_values l) l.next (id_of x)) (only-there (lambda_values l) l.next (id_of x))
        (region_with args before (id_of x) (nodes_in r) (results_of r) after results)
        (here-is ∙ ap (option_map (λ part. region_spliced (id_of x) part here)) is ∙ ap Some (replaced_at args before x after results first r))

    old-ids : region_ids l.body ≡ (around.first ++ (nodes_ids before ++ (node_ids x ++ nodes_ids after))) ++ around.last
    old-ids = ap region_ids at ∙ around.numbers here ∙ ap (λ ids. (around.first ++ ids) ++ around.last) (nodes_ids-joined before (node_then x after))

    taken : new_in l.next (region_ids body) ≡ node_count r
    taken =
        ap (new_in l.next) (ids_now l context args before x after results around well at (nodes_in r) (results_of r))
        ∙ new_within l.next around.first (nodes_ids before) (node_ids x) (nodes_ids (nodes_in r)) (nodes_ids after) around.last
        (λ n h. below_one l.next n (region_ids l.body) (whole_part l well).below (subst (IsAmong n) (sym old-ids) h)) new.numbers
        ∙ ap length (ids_in r)

    changed-so : lambda_inverted (id_of x) l ≡ now
    changed-so = ap (λ o. unwrap_or (option_map (with_body l) o) l) body-is ∙ ap (λ k. record l { body = body; next = l.next + k }) taken

    not-old : (n : ℕ) → n < l.next → IsAmong n (nodes_ids (nodes_in r)) → ⊥
    not-old n less h = absurd (omega (arith, new.numbers n h))

    inert-so : (n : ℕ) → IsAmong n (regions_ids (regions_in x)) → applies (lambda_inverted (id_of x) l) n ≡ false
    inert-so n within =
        let inside = inside_it l context args before x after results around well at n within in
        let less = below_next l context args before x after results around well at n inside in
        ap (λ k. applies k n) changed-so
        ∙ not-there now n (gone l context args before x after results around well at (nodes_in r) (results_of r) n inside (not-old n less))

    becomes-so : Becomes invert_change l context args before x after results (nodes_in r) (results_of r) (node_count r)
    becomes-so = record {
      applies = ap is_some body-is;
      changed = changed-so;
      known = new.known (nodes_ids before ++ node_ids x ++ nodes_ids (nodes_in r)) (λ n h. among-right n (nodes_ids before ++ node_ids x) (nodes_ids (nodes_in r)) h);
      numbers = λ n less h. absurd (not-old n less h);
      inert = inert-so;
    }

  said-so : (uses : List Origin) → IsSaid invert_change l context args before x after results (invert_asked (lambda_values l) l.next before uses x)
  said-so uses = by (in_place (lambda_values l) l.next x) refl
    where
      by : (o : Option RegionTree) → in_place (lambda_values l) l.next x ≡ o → IsSaid invert_change l context args before x after results (asked.part_of o)
      by None e = stays-so e
      by (Some r) e = becomes-so r e

pub invert_is_local : ((n : ℕ) (l : PlainLambda) → IsWellFormed l → IsWellFormed (lambda_inverted n l)) → InvertIsLocal
invert_is_local keeps = record {
  keeps = λ l n well may. keeps n l well;
  absent = not-there;
  said = λ l context args before x after results uses around well at same. said-so l context args before x after results around well at uses;
}
