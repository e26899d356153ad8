-- The numbers and the values of the changed region.
use Rattle.std.proofs.Common.{◌≡◌, ◌+◌, ◌*◌, ℕ, zero, suc, ◌==◌, Bool, true, false, cond, List, [], ◌∷◌, ◌++◌, map, length, replicate, Some, refl, sym, ap, ◌∙◌, arith}
use Rattle.std.proofs.lemmas.List.{length-map, length-append, length-replicate}
use Rattle.g_graph.specs.declared.op.Kind.TheVariants.{Value}
use Rattle.g_graph.specs.declared.op.Op.{Op}
use Rattle.g_graph.specs.declared.op.Op.TheVariants.{Gamma}
use Rattle.g_graph.specs.declared.op.Origin.{Origin}
use Rattle.g_graph.specs.Plain.{RegionTree, region, NodeTree, node, NodeTrees, no_nodes, node_then, RegionTrees, no_regions, region_then, id_of, args_of}
use Rattle.g_graph.specs.Ids.{region_ids, node_ids, nodes_ids, regions_ids}
use Rattle.g_graph.specs.Signatures.{is_pure, outputs_of, result_kinds}
use Rattle.g_graph.specs.Count.{region_values, node_values, nodes_values, regions_values}
use Rattle.g_graph.specs.Nodes.{node_at}
use Rattle.g_graph.specs.Replace.{nodes_redirected}
use Rattle.g_graph.specs.Splice.{joined_nodes}
use Rattle.g_graph.proofs.lemmas.Redirects.{nodes_ids-redirected, nodes_values-redirected}
use Rattle.g_graph.proofs.lemmas.Unique.{times, times_append, times_cons}
use Rattle.r_edit.specs.Uses.{is_read}
use Rattle.r_edit.specs.Places.{kept}
use Rattle.r_edit.specs.Entries.{argument_after, is_gone_argument}
use Rattle.r_edit.specs.InPlace.{region_taking}
use Rattle.r_edit.specs.Removal.{nodes_without}
use Rattle.r_edit.proofs.lemmas.Pure.{pure-outputs}
use Rattle.r_pull.specs.Rule.{args_from, copy_used, region_filled, copies_in, regions_filled, copies, gone_among, gone_args, more_args}
use Rattle.r_pull.proofs.Means.{regions_pulled}

-- ---- consecutive numbers

abbrev pub counted : (first count : ℕ) → List ℕ
counted first zero = []
counted first (suc count) = first ∷ counted (suc first) count

counted-more : (first a b : ℕ) → counted first (a + b) ≡ counted first a ++ counted (first + a) b
counted-more first zero b =
    let none : 0 + b ≡ b = omega arith in
    let same : first ≡ first + 0 = omega arith in
    ap (counted first) none ∙ ap (λ k. counted k b) same
counted-more first (suc a) b =
    let more : suc a + b ≡ suc (a + b) = omega arith in
    let next : suc first + a ≡ first + suc a = omega arith in
    ap (counted first) more ∙ ap (λ ns. first ∷ ns) (counted-more (suc first) a b) ∙ ap (λ k. first ∷ (counted (suc first) a ++ counted k b)) next

-- ---- numbers

module _ (stays : List Bool) (first : ℕ) (op : Op) (inputs : List Origin) (m : ℕ) where
  one-ids : (copy : ℕ) (r : RegionTree) → times m (region_ids (region_filled stays copy first op inputs r)) ≡ times m (region_ids r) + times m (counted copy (copies_in stays r))
  one-ids copy (region args nodes results) = by (is_read (is_gone_argument stays) (region args nodes results))
    where
      used : Origin → Origin
      used = copy_used stays copy

      by : (t : Bool) → times m (region_ids (cond t (region (args ++ replicate (length inputs) Value)
          (node_then (node copy op (args_from first inputs) no_regions) (nodes_redirected used nodes)) (map used results))
          (region (args ++ replicate (length inputs) Value) nodes results))) ≡ times m (nodes_ids nodes) + times m (counted copy (cond t 1 0))
      by true = omega (arith, times_cons m copy (nodes_ids (nodes_redirected used nodes)), times_cons m copy [], ap (times m) (nodes_ids-redirected used nodes))
      by false = omega arith

  pub filled-ids : (copy : ℕ) (rs : RegionTrees) → times m (regions_ids (regions_filled stays copy first op inputs rs)) ≡ times m (regions_ids rs) + times m (counted copy (copies stays rs))
  filled-ids copy no_regions = omega arith
  filled-ids copy (region_then r rs) =
      let next = copy + copies_in stays r in
      omega (
        arith,
        one-ids copy r,
        filled-ids next rs,
        times_append m (region_ids r) (regions_ids rs),
        times_append m (region_ids (region_filled stays copy first op inputs r)) (regions_ids (regions_filled stays next first op inputs rs)),
        ap (times m) (counted-more copy (copies_in stays r) (copies stays rs)),
        times_append m (counted copy (copies_in stays r)) (counted next (copies stays rs)),
      )

-- ---- values

pub kept-gone : {X : Type 0} (stays : List Bool) (xs : List X) → length (kept stays xs) + gone_among stays (length xs) ≡ length xs
kept-gone [] [] = omega arith
kept-gone [] (x ∷ xs) = omega arith
kept-gone (t ∷ ts) [] = omega arith
kept-gone (true ∷ ts) (x ∷ xs) = omega (arith, kept-gone ts xs)
kept-gone (false ∷ ts) (x ∷ xs) = omega (arith, kept-gone ts xs)

module _ (stays : List Bool) (first : ℕ) (op : Op) (pure : is_pure op ≡ true) (inputs : List Origin) where
  copy-values : (copy : ℕ) (ins : List Origin) → node_values (node copy op ins no_regions) ≡ 2
  copy-values copy ins = omega (arith, ap length (pure-outputs op pure no_regions))

  one-values : (copy : ℕ) (r : RegionTree) → region_values (region_taking stays (region_filled stays copy first op inputs r)) + gone_among stays (length (args_of r) + length inputs) ≡
      region_values r + length inputs + 2 * copies_in stays r
  one-values copy (region args nodes results) = by (is_read (is_gone_argument stays) (region args nodes results))
    where
      used : Origin → Origin
      used = copy_used stays copy

      after : Origin → Origin
      after = argument_after stays

      more : length (args ++ replicate (length inputs) Value) ≡ length args + length inputs
      more = omega (arith, length-append args (replicate (length inputs) Value), length-replicate (length inputs) Value)

      left : length (kept stays (args ++ replicate (length inputs) Value)) + gone_among stays (length args + length inputs) ≡ length args + length inputs
      left = omega (arith, kept-gone stays (args ++ replicate (length inputs) Value), ap (gone_among stays) more, more)

      by : (t : Bool) →
          region_values (region_taking stays (cond t (region (args ++ replicate (length inputs) Value)
          (node_then (node copy op (args_from first inputs) no_regions) (nodes_redirected used nodes)) (map used results))
          (region (args ++ replicate (length inputs) Value) nodes results)))
          + gone_among stays (length args + length inputs) ≡ region_values (region args nodes results) + length inputs + 2 * cond t 1 0
      by true =
          omega (
            arith,
            left,
            copy-values copy (map after (args_from first inputs)),
            nodes_values-redirected after (nodes_redirected used nodes),
            nodes_values-redirected used nodes,
            length-map (map used results) after,
            length-map results used,
          )
      by false = omega (arith, left, nodes_values-redirected after nodes, length-map results after)

  pub pulled-values : (copy : ℕ) (rs : RegionTrees) → regions_values (regions_pulled stays copy first op inputs rs) + gone_args stays (length inputs) rs ≡
      regions_values rs + more_args (length inputs) rs + 2 * copies stays rs
  pulled-values copy no_regions = omega arith
  pulled-values copy (region_then r rs) =
      omega (arith, one-values copy r, pulled-values (copy + copies_in stays r) rs)

  pub outputs-as-many : (copy : ℕ) (rs : RegionTrees) → length (outputs_of Gamma (regions_pulled stays copy first op inputs rs)) ≡ length (outputs_of Gamma rs)
  outputs-as-many copy no_regions = refl
  outputs-as-many copy (region_then (region args nodes results) rs) = by (is_read (is_gone_argument stays) (region args nodes results))
    where
      used : Origin → Origin
      used = copy_used stays copy

      after : Origin → Origin
      after = argument_after stays

      by : (t : Bool) →
          length (result_kinds (region_taking stays (cond t (region (args ++ replicate (length inputs) Value)
          (node_then (node copy op (args_from first inputs) no_regions) (nodes_redirected used nodes)) (map used results))
          (region (args ++ replicate (length inputs) Value) nodes results)))) ≡ length (result_kinds (region args nodes results))
      by true = length-map (map after (map used results)) _ ∙ length-map (map used results) after ∙ length-map results used ∙ sym (length-map results _)
      by false = length-map (map after results) _ ∙ length-map results after ∙ sym (length-map results _)

-- ---- the node that goes

-- another node is still found where one is exchanged
pub still-found : (n : ℕ) (before : NodeTrees) (g y : NodeTree) (after : NodeTrees) (x : NodeTree) → id_of y ≡ id_of g → (g ≡ x → ⊥) → node_at n (joined_nodes before (node_then g after)) ≡ Some x →
    node_at n (joined_nodes before (node_then y after)) ≡ Some x
still-found n no_nodes g y after x number apart e = ap (λ k. cond (k == n) (Some y) (node_at n after)) number ∙ by (id_of g == n) e
  where
    by : (t : Bool) → cond t (Some g) (node_at n after) ≡ Some x → cond t (Some y) (node_at n after) ≡ Some x
    by true d = let same : g ≡ x = cc in absurd (apart same)
    by false d = d
still-found n (node_then z before) g y after x number apart e = by (id_of z == n) e (still-found n before g y after x number apart)
  where
    by : (t : Bool) → cond t (Some z) (node_at n (joined_nodes before (node_then g after))) ≡ Some x →
        (node_at n (joined_nodes before (node_then g after)) ≡ Some x → node_at n (joined_nodes before (node_then y after)) ≡ Some x) →
        cond t (Some z) (node_at n (joined_nodes before (node_then y after))) ≡ Some x
    by true d rest = d
    by false d rest = rest d

pub without-ids : (n : ℕ) (ns : NodeTrees) (x : NodeTree) → node_at n ns ≡ Some x → (m : ℕ) → times m (nodes_ids (nodes_without n ns)) + times m (node_ids x) ≡ times m (nodes_ids ns)
without-ids n no_nodes x e m = absurd cc
without-ids n (node_then z ns) x e m = by (id_of z == n) e (λ d. without-ids n ns x d m)
  where
    by : (t : Bool) → cond t (Some z) (node_at n ns) ≡ Some x → (node_at n ns ≡ Some x → times m (nodes_ids (nodes_without n ns)) + times m (node_ids x) ≡ times m (nodes_ids ns)) →
        times m (nodes_ids (cond t ns (node_then z (nodes_without n ns)))) + times m (node_ids x) ≡ times m (node_ids z ++ nodes_ids ns)
    by true d rest =
        let same : z ≡ x = cc in
        omega (arith, times_append m (node_ids z) (nodes_ids ns), ap (λ y. times m (node_ids y)) same)
    by false d rest = omega (arith, times_append m (node_ids z) (nodes_ids ns), times_append m (node_ids z) (nodes_ids (nodes_without n ns)), rest d)

pub without-values : (n : ℕ) (ns : NodeTrees) (x : NodeTree) → node_at n ns ≡ Some x → nodes_values (nodes_without n ns) + node_values x ≡ nodes_values ns
without-values n no_nodes x e = absurd cc
without-values n (node_then z ns) x e = by (id_of z == n) e (without-values n ns x)
  where
    by : (t : Bool) → cond t (Some z) (node_at n ns) ≡ Some x → (node_at n ns ≡ Some x → nodes_values (nodes_without n ns) + node_values x ≡ nodes_values ns) →
        nodes_values (cond t ns (node_then z (nodes_without n ns))) + node_values x ≡ node_values z + nodes_values ns
    by true d rest =
        let same : z ≡ x = cc in
        omega (arith, ap node_values same)
    by false d rest = omega (arith, rest d)
