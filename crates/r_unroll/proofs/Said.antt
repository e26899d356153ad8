-- What the rule makes of a node is what it says of it.
use Rattle.std.specs.Option.{option_or}
use Rattle.std.specs.Prelude.{◌&&◌, ◌-◌, ◌^◌, nat_le, not, is_some, unwrap_or, option_and_then}
use Rattle.std.proofs.Common.{◌≡◌, ℕ, ◌+◌, ◌<◌, ◌⊎◌, Bool, true, false, cond, List, [], ◌∷◌, ◌++◌, Option, None, Some, option_map, refl, sym, ap, subst, ◌∙◌, inl, inr, arith}
use Rattle.std.proofs.lemmas.Bool.{and_parts}
use Rattle.std.proofs.lemmas.List.{length-append}
use Rattle.base.specs.Limits.{most_loop_values}
use Rattle.g_graph.specs.declared.op.Kind.{Kind}
use Rattle.g_graph.specs.declared.op.Op.TheVariants.{Theta}
use Rattle.g_graph.specs.declared.op.Origin.{Origin}
use Rattle.g_graph.specs.Change.{region_changed, regions_changed, has_node}
use Rattle.g_graph.specs.Count.{region_values}
use Rattle.g_graph.specs.Ids.{region_ids, node_ids, nodes_ids, regions_ids}
use Rattle.g_graph.specs.Nodes.{node_set}
use Rattle.g_graph.specs.Plain.{RegionTree, region, NodeTree, node, NodeTrees, no_nodes, node_then, no_regions, region_then, id_of, PlainLambda}
use Rattle.g_graph.specs.Program.{lambda_values}
use Rattle.g_graph.specs.Splice.{joined_nodes}
use Rattle.g_graph.specs.WellFormed.{IsWellFormed}
use Rattle.g_mean.specs.Copies.{IsAmong}
use Rattle.g_mean.proofs.lemmas.Copies.{among-left, among-split}
use Rattle.r_edit.specs.Numbering.{node_count}
use Rattle.r_edit.specs.Size.{may_change_size}
use Rattle.r_unroll.specs.Rule.{region_loops, unrolled, growth, may_unroll, node_unrolled, unroll_here, body_unrolled, applies, with_body, lambda_unrolled}
use Rattle.r_walk.specs.Context.{ChangesOnlyAt, IsContext}
use Rattle.r_walk.specs.Laws.{region_with, Becomes, IsSaid}
use Rattle.r_walk.proofs.lemmas.Local.{not_found, found_here, set_at, absent, not_before, changed_at, unchanged_at, count_now, unchanged_within}
use Rattle.r_unroll.specs.Asked.{part_of, unroll_asked}
use Rattle.r_unroll.specs.WalkLaws.{unroll_change, UnrollIsLocal}
use Rattle.r_unroll.proofs.Loops.{unchanged_without_loops, unrolled_has_no_loops, unrolled_count, unrolled_numbers}

only_there : (values next n : ℕ) → ChangesOnlyAt n (unroll_here values next n)
only_there values next n (region args nodes results) e =
    ap (λ o. option_map (λ y. region args (node_set n y nodes) results) (option_and_then (node_unrolled values next) o)) (not_found n nodes e)

no-loops : (values next : ℕ) (r : RegionTree) → may_unroll values next r ≡ true → region_loops r ≡ false
no-loops values next r e =
    let small = nat_le (region_values r) most_loop_values in
    let numbers = nat_le (next + 2 + node_count r) (2 ^ 32 - 1) in
    let p = and_parts (small && not (region_loops r) && numbers) (may_change_size values (growth r) 0) e in
    let q = and_parts (small && not (region_loops r)) numbers p.0 in
    not-true (region_loops r) (and_parts small (not (region_loops r)) q.0).1
  where
    not-true : (t : Bool) → not t ≡ true → t ≡ false
    not-true true d = absurd cc
    not-true false d = refl

module _ (l : PlainLambda) (context : RegionTree → RegionTree) (args : List Kind) (before : NodeTrees) (x : NodeTree) (after : NodeTrees) (results : List Origin) (around : IsContext context)
    (well : IsWellFormed l) (at : l.body ≡ context (region args (joined_nodes before (node_then x after)) results)) where
  first : has_node (id_of x) before ≡ false
  first = not_before l context args before x after results around well at

  here-is : unroll_here (lambda_values l) l.next (id_of x) (region args (joined_nodes before (node_then x after)) results)
      ≡ option_map (λ y. region args (node_set (id_of x) y (joined_nodes before (node_then x after))) results) (node_unrolled (lambda_values l) l.next x)
  here-is =
      ap (λ o. option_map (λ y. region args (node_set (id_of x) y (joined_nodes before (node_then x after))) results) (option_and_then (node_unrolled (lambda_values l) l.next) o))
      (found_here args before x after results first)

  stays-so : node_unrolled (lambda_values l) l.next x ≡ None → applies l (id_of x) ≡ false
  stays-so e =
      ap is_some
      (unchanged_at l context args before x after results around well at (unroll_here (lambda_values l) l.next (id_of x)) (only_there (lambda_values l) l.next (id_of x))
      (here-is ∙ ap (option_map (λ y. region args (node_set (id_of x) y (joined_nodes before (node_then x after))) results)) e))

  becomes-body : (y : NodeTree) → node_unrolled (lambda_values l) l.next x ≡ Some y → body_unrolled (id_of x) l ≡ Some (context (region_with args before (id_of x) (node_then y no_nodes) [] after results))
  becomes-body y e =
      changed_at l context args before x after results around well at (unroll_here (lambda_values l) l.next (id_of x)) (only_there (lambda_values l) l.next (id_of x))
      (region_with args before (id_of x) (node_then y no_nodes) [] after results)
      (here-is ∙ ap (option_map (λ y. region args (node_set (id_of x) y (joined_nodes before (node_then x after))) results)) e ∙ ap Some (set_at args before x after results first y))

-- the loop that is unrolled
module _ (l : PlainLambda) (context : RegionTree → RegionTree) (args : List Kind) (before : NodeTrees) (id : ℕ) (inputs : List Origin) (r : RegionTree) (after : NodeTrees) (results : List Origin)
    (around : IsContext context) (well : IsWellFormed l) (at : l.body ≡ context (region args (joined_nodes before (node_then (node id Theta inputs (region_then r no_regions)) after)) results))
    (may : may_unroll (lambda_values l) l.next r ≡ true) where
  abbrev x : NodeTree
  x = node id Theta inputs (region_then r no_regions)

  abbrev y : NodeTree
  y = node id Theta inputs (region_then (unrolled l.next r) no_regions)

  abbrev now : RegionTree
  now = context (region_with args before id (node_then y no_nodes) [] after results)

  is-so : node_unrolled (lambda_values l) l.next x ≡ Some y
  is-so = ap (λ t. cond t (Some y) None) may

  body-is : body_unrolled id l ≡ Some now
  body-is = becomes-body l context args before x after results around well at y is-so

  taken : node_count now - node_count l.body ≡ 2 + node_count r
  taken =
      omega (
        arith,
        count_now l context args before x after results around well at (node_then y no_nodes) [],
        length-append (region_ids r) [],
        length-append (region_ids (unrolled l.next r)) [],
        length-append (id ∷ (region_ids (unrolled l.next r) ++ [])) [],
        unrolled_count l.next r,
      )

  unroll-is : lambda_unrolled id l ≡ record l { body = now; next = l.next + (2 + node_count r) }
  unroll-is = ap (λ o. with_body l (unwrap_or o l.body)) body-is ∙ ap (λ k. record l { body = now; next = l.next + k }) taken

  inert-so : (n : ℕ) → IsAmong n (regions_ids (region_then r no_regions)) → applies (lambda_unrolled id l) n ≡ false
  inert-so n within =
      let k : PlainLambda = record l { body = now; next = l.next + (2 + node_count r) } in
      let f : RegionTree → Option RegionTree = unroll_here (lambda_values k) k.next n in
      let quiet : region_changed f (unrolled l.next r) ≡ None =
      unchanged_without_loops (lambda_values k) k.next n (unrolled l.next r) (unrolled_has_no_loops l.next r (no-loops (lambda_values l) l.next r may)) in
      let none : regions_changed f (region_then (unrolled l.next r) no_regions) ≡ None = ap (λ o. option_or (option_map (λ s. region_then s no_regions) o) None) quiet in
      ap (λ j. applies j n) unroll-is
      ∙ ap is_some (unchanged_within l context args before x after results around well at Theta inputs (region_then (unrolled l.next r) no_regions) [] n f (only_there (lambda_values k) k.next n) within none)

  numbers-so : (n : ℕ) → n < l.next → IsAmong n (nodes_ids (node_then y no_nodes)) → IsAmong n (node_ids x)
  numbers-so n less (inl e) = inl e
  numbers-so n less (inr h) = by (among-split n (region_ids (unrolled l.next r) ++ []) [] h)
    where
      own : IsAmong n (region_ids (unrolled l.next r)) ⊎ IsAmong n [] → IsAmong n (node_ids x)
      own (inl k) = inr (among-left n (region_ids r) [] (unrolled_numbers l.next r n less k))
      own (inr k) = absurd k

      by : IsAmong n (region_ids (unrolled l.next r) ++ []) ⊎ IsAmong n [] → IsAmong n (node_ids x)
      by (inl k) = own (among-split n (region_ids (unrolled l.next r)) [] k)
      by (inr k) = absurd k

  unrolls : Becomes unroll_change l context args before x after results (node_then y no_nodes) [] (2 + node_count r)
  unrolls = record {
    applies = ap is_some body-is;
    changed = unroll-is;
    known = tt;
    numbers = numbers-so;
    inert = inert-so;
  }

  says : (uses : List Origin) → IsSaid unroll_change l context args before x after results (unroll_asked (lambda_values l) l.next before uses x)
  says uses = subst (λ o. IsSaid unroll_change l context args before x after results (part_of (2 + node_count r) o)) (sym is-so) unrolls

said-of : (l : PlainLambda) (context : RegionTree → RegionTree) (args : List Kind) (before : NodeTrees) (x : NodeTree) (after : NodeTrees) (results uses : List Origin) →
    IsContext context → IsWellFormed l → l.body ≡ context (region args (joined_nodes before (node_then x after)) results) →
    IsSaid unroll_change l context args before x after results (unroll_asked (lambda_values l) l.next before uses x)
said-of l context args before (node id Theta inputs (region_then r no_regions)) after results uses around well at = by (may_unroll (lambda_values l) l.next r) refl
  where
    by : (t : Bool) → may_unroll (lambda_values l) l.next r ≡ t →
        IsSaid unroll_change l context args before (node id Theta inputs (region_then r no_regions)) after results
        (unroll_asked (lambda_values l) l.next before uses (node id Theta inputs (region_then r no_regions)))
    by true e = says l context args before id inputs r after results around well at e uses
    by false e =
        let x = node id Theta inputs (region_then r no_regions) in
        let none : node_unrolled (lambda_values l) l.next x ≡ None = ap (λ t. cond t (Some (node id Theta inputs (region_then (unrolled l.next r) no_regions))) None) e in
        subst (λ o. IsSaid unroll_change l context args before x after results (part_of (2 + node_count r) o)) (sym none) (stays-so l context args before x after results around well at none)
said-of l context args before (node id Theta inputs no_regions) after results uses around well at = stays-so l context args before (node id Theta inputs no_regions) after results around well at refl
said-of l context args before (node id Theta inputs (region_then r (region_then t rs))) after results uses around well at =
    stays-so l context args before (node id Theta inputs (region_then r (region_then t rs))) after results around well at refl
said-of l context args before (node id op inputs rs) after results uses around well at = stays-so l context args before (node id op inputs rs) after results around well at refl

pub unroll_is_local : ((n : ℕ) (l : PlainLambda) → IsWellFormed l → IsWellFormed (lambda_unrolled n l)) → UnrollIsLocal
unroll_is_local keeps = record {
  keeps = λ l n well may. keeps n l well;
  absent = λ l n h. ap is_some (absent l n (unroll_here (lambda_values l) l.next n) (only_there (lambda_values l) l.next n) h);
  said = λ l context args before x after results uses around well at same. said-of l context args before x after results uses around well at;
}
