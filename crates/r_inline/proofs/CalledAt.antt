-- The function that a node calls is found where the node stands, as numbers are unique.
use Rattle.std.specs.Option.{option_or}
use Rattle.std.specs.Prelude.{◌||◌, not, option_and_then, is_some}
use Rattle.std.proofs.Common.{◌≡◌, ℕ, ◌==◌, Bool, true, false, cond, List, ◌∷◌, ◌++◌, Option, None, Some, refl, sym, ap, ap₂, subst, ◌∙◌, inl, inr}
use Rattle.std.proofs.lemmas.Bool.{and_parts}
use Rattle.g_graph.specs.declared.op.Op.{Op}
use Rattle.g_graph.specs.Change.{some_region, some_in_nodes, some_in_regions}
use Rattle.g_graph.specs.Ids.{region_ids, node_ids, nodes_ids, regions_ids}
use Rattle.g_graph.specs.Nodes.{node_at}
use Rattle.g_graph.specs.Plain.{RegionTree, region, NodeTree, node, NodeTrees, no_nodes, node_then, RegionTrees, no_regions, region_then, op_of}
use Rattle.g_graph.specs.WellFormed.{some_of, distinct}
use Rattle.g_graph.proofs.lemmas.Unique.{same_number}
use Rattle.g_mean.specs.Copies.{IsAmong}
use Rattle.g_mean.proofs.lemmas.Copies.{among-left, among-right}
use Rattle.g_mean.proofs.lemmas.Edits.{distinct-split}
use Rattle.g_mean.proofs.lemmas.Holds.{none-among, distinct-apart}
use Rattle.r_inline.specs.Called.{called_by, region_calls, node_calls, nodes_call, regions_call}

-- ---- a number that is not there

module _ (n : ℕ) where
  none-by : (id : ℕ) (op : Op) (rs : RegionTrees) → (n ≡ id → ⊥) → regions_call n rs ≡ None → (t : Bool) → (id == n) ≡ t → cond t (called_by op) (regions_call n rs) ≡ None
  none-by id op rs other none true q = absurd (other (sym (same_number id n q)))
  none-by id op rs other none false q = none

  mutual
    pub no_calls : (r : RegionTree) → (IsAmong n (region_ids r) → ⊥) → region_calls n r ≡ None
    no_calls (region args nodes results) h = nodes-call-none nodes h

    node-calls-none : (x : NodeTree) → (IsAmong n (node_ids x) → ⊥) → node_calls n x ≡ None
    node-calls-none (node id op inputs rs) h = none-by id op rs (λ e. h (inl e)) (regions-call-none rs (λ k. h (inr k))) (id == n) refl

    nodes-call-none : (ns : NodeTrees) → (IsAmong n (nodes_ids ns) → ⊥) → nodes_call n ns ≡ None
    nodes-call-none no_nodes h = refl
    nodes-call-none (node_then x ns) h =
        ap₂ option_or (node-calls-none x (λ k. h (among-left n (node_ids x) (nodes_ids ns) k))) (nodes-call-none ns (λ k. h (among-right n (node_ids x) (nodes_ids ns) k)))

    regions-call-none : (rs : RegionTrees) → (IsAmong n (regions_ids rs) → ⊥) → regions_call n rs ≡ None
    regions-call-none no_regions h = refl
    regions-call-none (region_then r rs) h =
        ap₂ option_or (no_calls r (λ k. h (among-left n (region_ids r) (regions_ids rs) k))) (regions-call-none rs (λ k. h (among-right n (region_ids r) (regions_ids rs) k)))

-- ---- a node that calls

-- a region that itself holds node n, which calls the function
abbrev pub kept_if : (f : ℕ) → Option ℕ → RegionTree → Option RegionTree
kept_if f None r = None
kept_if f (Some g) r = cond (g == f) (Some r) None

abbrev pub holds_call : (f n : ℕ) → RegionTree → Option RegionTree
holds_call f n (region args nodes results) = option_and_then (λ y. kept_if f (called_by (op_of y)) (region args nodes results)) (node_at n nodes)

module _ (f n : ℕ) where
  -- what is among the rest is not in the first
  in-rest : (xs ys : List ℕ) → distinct (xs ++ ys) ≡ true → (found : Option ℕ) → ((IsAmong n ys → ⊥) → found ≡ None) → found ≡ Some f → IsAmong n xs → ⊥
  in-rest xs ys d found h e k = absurd (let none : found ≡ None = h (λ j. distinct-apart xs ys d n k j) in cc)

  later : (x : NodeTree) (ns : NodeTrees) → distinct (node_ids x ++ nodes_ids ns) ≡ true → nodes_call n ns ≡ Some f → option_or (node_calls n x) (nodes_call n ns) ≡ Some f
  later x ns d e = ap₂ option_or (node-calls-none n x (in-rest (node_ids x) (nodes_ids ns) d (nodes_call n ns) (nodes-call-none n ns) e)) e

  calls-so : (o : Option ℕ) (r : RegionTree) → is_some (kept_if f o r) ≡ true → o ≡ Some f
  calls-so None r e = absurd cc
  calls-so (Some g) r e = by (g == f) refl e
    where
      by : (t : Bool) → (g == f) ≡ t → is_some (cond t (Some r) None) ≡ true → Some g ≡ Some f
      by true q d = ap Some (same_number g f q)
      by false q d = absurd cc

  here : (ns : NodeTrees) (r : RegionTree) → distinct (nodes_ids ns) ≡ true → is_some (option_and_then (λ y. kept_if f (called_by (op_of y)) r) (node_at n ns)) ≡ true → nodes_call n ns ≡ Some f
  here no_nodes r d e = absurd cc
  here (node_then (node id op inputs rs) ns) r d e = by (id == n) refl e (λ k. here ns r (distinct-split (id ∷ regions_ids rs) (nodes_ids ns) d).1 k)
    where
      by : (t : Bool) → (id == n) ≡ t → is_some (option_and_then (λ y. kept_if f (called_by (op_of y)) r) (cond t (Some (node id op inputs rs)) (node_at n ns))) ≡ true →
          (is_some (option_and_then (λ y. kept_if f (called_by (op_of y)) r) (node_at n ns)) ≡ true → nodes_call n ns ≡ Some f) →
          option_or (node_calls n (node id op inputs rs)) (nodes_call n ns) ≡ Some f
      by true q k rest = ap (λ o. option_or o (nodes_call n ns)) (ap (λ t. cond t (called_by op) (regions_call n rs)) q ∙ calls-so (called_by op) r k)
      by false q k rest = later (node id op inputs rs) ns d (rest k)

  mutual
    pub calls_found : (r : RegionTree) → distinct (region_ids r) ≡ true → some_region (λ s. is_some (holds_call f n s)) r ≡ true → region_calls n r ≡ Some f
    calls_found (region args nodes results) d e = by (is_some (holds_call f n (region args nodes results))) refl e (λ k. nodes-found nodes d k)
      where
        by : (t : Bool) → is_some (holds_call f n (region args nodes results)) ≡ t → (t || some_in_nodes (λ s. is_some (holds_call f n s)) nodes) ≡ true →
            (some_in_nodes (λ s. is_some (holds_call f n s)) nodes ≡ true → nodes_call n nodes ≡ Some f) → nodes_call n nodes ≡ Some f
        by true q k rest = here nodes (region args nodes results) d q
        by false q k rest = rest k

    nodes-found : (ns : NodeTrees) → distinct (nodes_ids ns) ≡ true → some_in_nodes (λ s. is_some (holds_call f n s)) ns ≡ true → nodes_call n ns ≡ Some f
    nodes-found no_nodes d e = absurd cc
    nodes-found (node_then (node id op inputs rs) ns) d e =
        by (some_in_regions (λ s. is_some (holds_call f n s)) rs) refl e (λ k. regions-found rs q.1 k) (λ k. nodes-found ns p.1 k)
      where
        p : (distinct (id ∷ regions_ids rs) ≡ true) × (distinct (nodes_ids ns) ≡ true)
        p = distinct-split (id ∷ regions_ids rs) (nodes_ids ns) d

        q : (not (some_of (λ m. id == m) (regions_ids rs)) ≡ true) × (distinct (regions_ids rs) ≡ true)
        q = and_parts (not (some_of (λ m. id == m) (regions_ids rs))) (distinct (regions_ids rs)) p.0

        inside : regions_call n rs ≡ Some f → (t : Bool) → (id == n) ≡ t → cond t (called_by op) (regions_call n rs) ≡ Some f
        inside k true g =
            absurd
            (let none : regions_call n rs ≡ None = regions-call-none n rs (λ j. none-among id (regions_ids rs) q.0 (subst (λ m. IsAmong m (regions_ids rs)) (sym (same_number id n g)) j)) in
            cc)
        inside k false g = k

        by : (t : Bool) → some_in_regions (λ s. is_some (holds_call f n s)) rs ≡ t → (t || some_in_nodes (λ s. is_some (holds_call f n s)) ns) ≡ true →
            (some_in_regions (λ s. is_some (holds_call f n s)) rs ≡ true → regions_call n rs ≡ Some f) → (some_in_nodes (λ s. is_some (holds_call f n s)) ns ≡ true → nodes_call n ns ≡ Some f) →
            option_or (node_calls n (node id op inputs rs)) (nodes_call n ns) ≡ Some f
        by true g k own rest = ap (λ o. option_or o (nodes_call n ns)) (inside (own g) (id == n) refl)
        by false g k own rest = later (node id op inputs rs) ns d (rest k)

    regions-found : (rs : RegionTrees) → distinct (regions_ids rs) ≡ true → some_in_regions (λ s. is_some (holds_call f n s)) rs ≡ true → regions_call n rs ≡ Some f
    regions-found no_regions d e = absurd cc
    regions-found (region_then r rs) d e = by (some_region (λ s. is_some (holds_call f n s)) r) refl e (λ k. calls_found r p.0 k) (λ k. regions-found rs p.1 k)
      where
        p : (distinct (region_ids r) ≡ true) × (distinct (regions_ids rs) ≡ true)
        p = distinct-split (region_ids r) (regions_ids rs) d

        by : (t : Bool) → some_region (λ s. is_some (holds_call f n s)) r ≡ t → (t || some_in_regions (λ s. is_some (holds_call f n s)) rs) ≡ true →
            (some_region (λ s. is_some (holds_call f n s)) r ≡ true → region_calls n r ≡ Some f) → (some_in_regions (λ s. is_some (holds_call f n s)) rs ≡ true → regions_call n rs ≡ Some f) →
            option_or (region_calls n r) (regions_call n rs) ≡ Some f
        by true g k own rest = ap (λ o. option_or o (regions_call n rs)) (own g)
        by false g k own rest = ap₂ option_or (no_calls n r (in-rest (region_ids r) (regions_ids rs) d (regions_call n rs) (regions-call-none n rs) (rest k))) (rest k)
