-- What is known of the first node of an op and inputs.
use Rattle.std.proofs.Common.{◌≡◌, ℕ, suc, ◌⊎◌, Bool, true, false, ◌&&◌, cond, List, [], ◌∷◌, length, Some, refl, sym, ap, ◌∙◌, inl, inr}
use Rattle.std.proofs.lemmas.Bool.{and_parts}
use Rattle.g_graph.specs.declared.op.Op.{Op}
use Rattle.g_graph.specs.declared.op.Origin.{Origin}
use Rattle.g_graph.specs.Plain.{node, NodeTrees, no_nodes, node_then, RegionTrees}
use Rattle.g_graph.specs.Scope.{same_origin}
use Rattle.g_graph.specs.Splice.{joined_nodes}
use Rattle.g_graph.specs.Views.{op_view, same_op}
use Rattle.val_core.proofs.lemmas.Views.{same_itself, same_equal}
use Rattle.g_graph.proofs.lemmas.Indexes.{same_origin_self}
use Rattle.g_graph.proofs.lemmas.Moved.{same_origin_true}
use Rattle.r_edit.specs.Lookup.{same_origins, is_node_of, first_of}

-- ---- what is the same is equal

same_origins_true : (xs ys : List Origin) → same_origins xs ys ≡ true → xs ≡ ys
same_origins_true [] [] e = refl
same_origins_true [] (b ∷ ys) e = absurd cc
same_origins_true (a ∷ xs) [] e = absurd cc
same_origins_true (a ∷ xs) (b ∷ ys) e =
    let both = and_parts (same_origin a b) (same_origins xs ys) e in
    λ i. same_origin_true a b both.0 i ∷ same_origins_true xs ys both.1 i

same_origins_itself : (xs : List Origin) → same_origins xs xs ≡ true
same_origins_itself [] = refl
same_origins_itself (a ∷ xs) = λ i. same_origin_self a i && same_origins_itself xs i

pub unequal_lengths : (xs ys : List Origin) → (length xs ≡ length ys → ⊥) → same_origins xs ys ≡ false
unequal_lengths [] [] h = absurd (h refl)
unequal_lengths [] (b ∷ ys) h = refl
unequal_lengths (a ∷ xs) [] h = refl
unequal_lengths (a ∷ xs) (b ∷ ys) h = by_test (same_origin a b) (unequal_lengths xs ys (λ e. h (ap suc e)))
  where
    by_test : (t : Bool) → same_origins xs ys ≡ false → (t && same_origins xs ys) ≡ false
    by_test true e = e
    by_test false e = refl

-- ---- the first node

is_node_itself : (op : Op) (inputs : List Origin) (id : ℕ) (rs : RegionTrees) → is_node_of op inputs (node id op inputs rs) ≡ true
is_node_itself op inputs id rs = λ i. same_itself op_view op i && same_origins_itself inputs i

-- a node of this number, op and inputs among others
pub record Among (op : Op) (inputs : List Origin) (n : ℕ) (ns : NodeTrees) : Type 0 where
  pub before : NodeTrees
  pub regions : RegionTrees
  pub after : NodeTrees
  pub is : ns ≡ joined_nodes before (node_then (node n op inputs regions) after)

-- the first of joined nodes is among the first of these, or it is the first of the others
first_joined : (op : Op) (inputs : List Origin) (ns ms : NodeTrees) (n : ℕ) → first_of op inputs (joined_nodes ns ms) ≡ Some n → Among op inputs n ns ⊎ (first_of op inputs ms ≡ Some n)
first_joined op inputs no_nodes ms n e = inr e
first_joined op inputs (node_then (node id op' inputs' rs) ns) ms n e = by_test (is_node_of op inputs (node id op' inputs' rs)) refl e (first_joined op inputs ns ms n)
  where
    by_test : (t : Bool) → is_node_of op inputs (node id op' inputs' rs) ≡ t → cond t (Some id) (first_of op inputs (joined_nodes ns ms)) ≡ Some n →
        (first_of op inputs (joined_nodes ns ms) ≡ Some n → Among op inputs n ns ⊎ (first_of op inputs ms ≡ Some n)) →
        Among op inputs n (node_then (node id op' inputs' rs) ns) ⊎ (first_of op inputs ms ≡ Some n)
    by_test true t q h =
        let both = and_parts (same_op op op') (same_origins inputs inputs') t in
        let number : id ≡ n = cc in
        inl (record {
          before = no_nodes;
          regions = rs;
          after = ns;
          is = λ i. node_then (node (number i) (sym (same_equal op_view op op' both.0) i) (sym (same_origins_true inputs inputs' both.1) i) rs) ns;
        })
    by_test false t q h = by (h q)
      where
        by : Among op inputs n ns ⊎ (first_of op inputs ms ≡ Some n) → Among op inputs n (node_then (node id op' inputs' rs) ns) ⊎ (first_of op inputs ms ≡ Some n)
        by (inl a) = inl (record { before = node_then (node id op' inputs' rs) a.before; regions = a.regions; after = a.after; is = ap (node_then (node id op' inputs' rs)) a.is })
        by (inr f) = inr f

-- The first node of the op and inputs of a node stands before it, or it is the node.
pub first_before : (op : Op) (inputs : List Origin) (before : NodeTrees) (id : ℕ) (rs : RegionTrees) (after : NodeTrees) (n : ℕ) →
    first_of op inputs (joined_nodes before (node_then (node id op inputs rs) after)) ≡ Some n → Among op inputs n before ⊎ (id ≡ n)
first_before op inputs before id rs after n e = by (first_joined op inputs before (node_then (node id op inputs rs) after) n e)
  where
    by : Among op inputs n before ⊎ (first_of op inputs (node_then (node id op inputs rs) after) ≡ Some n) → Among op inputs n before ⊎ (id ≡ n)
    by (inl a) = inl a
    by (inr f) =
        let own : Some id ≡ Some n = sym (ap (λ t. cond t (Some id) (first_of op inputs after)) (is_node_itself op inputs id rs)) ∙ f in
        inr cc
