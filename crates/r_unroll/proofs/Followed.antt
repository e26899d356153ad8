-- The loop in its region, by the index of its node.
use Rattle.std.specs.Prelude.{◌==◌, ◌+◌, option_and_then, is_some, slice_set}
use Rattle.std.proofs.Common.{◌≡◌, ℕ, suc, Bool, true, false, cond, List, [], ◌∷◌, length, slice_index_or, None, Some, option_map, slice_get, refl, sym, ap, ◌∙◌, arith}
use Rattle.std.proofs.lemmas.Option.{same_Some, slice_get-get_or}
use Rattle.g_graph.specs.declared.op.Kind.{Kind}
use Rattle.g_graph.specs.declared.op.Op.{Op}
use Rattle.g_graph.specs.declared.op.Op.TheVariants.{Theta}
use Rattle.g_graph.specs.declared.op.Origin.{Origin}
use Rattle.g_graph.specs.Plain.{RegionTree, region, NodeTree, node, NodeTrees, no_nodes, node_then, no_regions, region_then, nodes_of, regions_of, id_of}
use Rattle.g_graph.specs.Change.{node_index}
use Rattle.g_graph.specs.Nodes.{node_at, node_set}
use Rattle.g_graph.proofs.lemmas.Found.{node_set_at}
use Rattle.g_graph.proofs.lemmas.Splices.{index_within}
use Rattle.r_edit.proofs.lemmas.Loops.{loop_node}
use Rattle.r_unroll.specs.Edit.{only_followed, node_followed, followed_at}
use Rattle.r_unroll.specs.Rule.{unrolled, followed_by, may_unroll, node_unrolled, unroll_here}
use Rattle.g_graph.proofs.lemmas.Change.{is_some_map}

-- ---- indexes

record AtIndex (n first q : ℕ) (xs : List NodeTree) : Type 0 where
  index : ℕ
  is : q ≡ first + index
  node : node_at n (nodes_of xs) ≡ slice_get xs index

at-index : (n first q : ℕ) (xs : List NodeTree) → node_index n first (nodes_of xs) ≡ Some q → AtIndex n first q xs
at-index n first q [] e = absurd cc
at-index n first q (x ∷ xs) e = by (id_of x == n) refl e (λ d. at-index n (suc first) q xs d)
  where
    by : (t : Bool) → (id_of x == n) ≡ t → cond t (Some first) (node_index n (suc first) (nodes_of xs)) ≡ Some q → (node_index n (suc first) (nodes_of xs) ≡ Some q → AtIndex n (suc first) q xs) →
        AtIndex n first q (x ∷ xs)
    by true t d go =
        let same : first ≡ q = same_Some first q d in
        record { index = 0; is = omega (arith, same); node = ap (λ b. cond b (Some x) (node_at n (nodes_of xs))) t }
    by false t d go =
        let r = go d in
        record { index = suc r.index; is = omega (arith, r.is); node = ap (λ b. cond b (Some x) (node_at n (nodes_of xs))) t ∙ r.node }

found-there : (n p : ℕ) (xs : List NodeTree) (x : NodeTree) → node_index n 0 (nodes_of xs) ≡ Some p → x ≡ slice_index_or xs p x → node_at n (nodes_of xs) ≡ Some x
found-there n p xs x e d =
    let r = at-index n 0 p xs e in
    let same : r.index ≡ p = omega (arith, r.is) in
    r.node ∙ ap (slice_get xs) same ∙ slice_get-get_or xs p x (index_within n p xs e) ∙ ap Some (sym d)

none-there : (n first : ℕ) (ns : NodeTrees) → node_index n first ns ≡ None → node_at n ns ≡ None
none-there n first no_nodes e = refl
none-there n first (node_then x ns) e = by (id_of x == n) e (λ d. none-there n (suc first) ns d)
  where
    by : (t : Bool) → cond t (Some first) (node_index n (suc first) ns) ≡ None → (node_index n (suc first) ns ≡ None → node_at n ns ≡ None) → cond t (Some x) (node_at n ns) ≡ None
    by true d go = absurd cc
    by false d go = go d

-- ---- the loop

-- the node with another only region
abbrev pub node_with : (last : NodeTree) → (outs : List Origin) → NodeTree → NodeTree
node_with last outs (node id op inputs rs) = node id op inputs (only_followed last outs rs)

followed-some : (values next : ℕ) (last : NodeTree) (outs : List Origin) (x : NodeTree) → is_some (node_unrolled values next x) ≡ true →
    node_followed values next last outs x ≡ Some (node_with last outs x)
followed-some values next last outs (node id Theta inputs (region_then r no_regions)) e = by (may_unroll values next r) e
  where
    by : (t : Bool) → is_some (cond t (Some (loop_node id inputs (unrolled next r))) None) ≡ true →
        cond t (Some (loop_node id inputs (followed_by last outs r))) None ≡ Some (loop_node id inputs (followed_by last outs r))
    by true d = refl
    by false d = absurd cc
followed-some values next last outs (node id Theta inputs no_regions) e = absurd cc
followed-some values next last outs (node id Theta inputs (region_then r (region_then t rs))) e = absurd cc
followed-some values next last outs (node id _ inputs rs) e = absurd cc

one-region : (values next id : ℕ) (op : Op) (inputs : List Origin) (rs : List RegionTree) → is_some (node_unrolled values next (node id op inputs (regions_of rs))) ≡ true → length rs ≡ 1
one-region values next id Theta inputs [] e = absurd cc
one-region values next id Theta inputs (r ∷ []) e = refl
one-region values next id Theta inputs (r ∷ s ∷ rs) e = absurd cc
one-region values next id _ inputs rs e = absurd cc

module _ (values next n p : ℕ) (args : List Kind) (xs : List NodeTree) (results : List Origin) (can : is_some (unroll_here values next n (region args (nodes_of xs) results)) ≡ true) where
  some-at : (x : NodeTree) → node_at n (nodes_of xs) ≡ Some x → is_some (node_unrolled values next x) ≡ true
  some-at x d =
      sym (is_some_map (λ y. region args (node_set n y (nodes_of xs)) results) (node_unrolled values next x))
      ∙ ap (λ o. is_some (option_map (λ y. region args (node_set n y (nodes_of xs)) results) (option_and_then (node_unrolled values next) o))) (sym d) ∙ can

  pub never-none : node_index n 0 (nodes_of xs) ≡ None → ⊥
  never-none e =
      let no : false ≡ true =
      ap (λ o. is_some (option_map (λ y. region args (node_set n y (nodes_of xs)) results) (option_and_then (node_unrolled values next) o))) (sym (none-there n 0 (nodes_of xs) e)) ∙ can in
      absurd cc

  module _ (at : node_index n 0 (nodes_of xs) ≡ Some p) (x : NodeTree) (is : x ≡ slice_index_or xs p x) where
    pub one-there : (id : ℕ) (op : Op) (inputs : List Origin) (rs : List RegionTree) → node id op inputs (regions_of rs) ≡ x → length rs ≡ 1
    one-there id op inputs rs e =
        one-region values next id op inputs rs (ap (λ z. is_some (node_unrolled values next z)) e ∙ some-at x (found-there n p xs x at is))

    pub followed-there : (last : NodeTree) (outs : List Origin) (y : NodeTree) → y ≡ node_with last outs x →
        followed_at values next n last outs (region args (nodes_of xs) results) ≡ Some (region args (nodes_of (slice_set xs p y)) results)
    followed-there last outs y e =
        ap (λ o. option_map (λ z. region args (node_set n z (nodes_of xs)) results) (option_and_then (node_followed values next last outs) o)) (found-there n p xs x at is)
        ∙ ap (option_map (λ z. region args (node_set n z (nodes_of xs)) results)) (followed-some values next last outs x (some-at x (found-there n p xs x at is)) ∙ ap Some (sym e))
        ∙ ap (λ ns. Some (region args ns results)) (node_set_at n p y xs at)
