-- The numbers of the nodes that are put together: each stands once, within its bounds.
use Rattle.std.proofs.Common.{◌≡◌, ◌⊎◌, inl, inr, ◌≤◌, ◌<◌, ◌+◌, ℕ, zero, suc, Bool, true, false, List, [], ◌∷◌, ◌++◌, refl, sym, ap, ◌∙◌, arith, subst}
use Rattle.std.specs.Prelude.{◌==◌, ◌&&◌, nat_lt, if◌then◌else◌}
use Rattle.std.proofs.lemmas.Bool.Decides.{nat_tests}
use Rattle.g_graph.specs.declared.op.Kind.{Kind}
use Rattle.g_graph.specs.declared.op.Kind.TheVariants.{Value}
use Rattle.g_graph.specs.declared.op.Origin.{Origin}
use Rattle.g_graph.specs.declared.op.Op.{Op}
use Rattle.g_graph.specs.declared.op.Op.TheVariants.{Gamma, Theta}
use Rattle.g_graph.specs.Plain.{RegionTree, region, NodeTree, node, NodeTrees, no_nodes, node_then, RegionTrees, no_regions, region_then, id_of}
use Rattle.g_graph.specs.Ids.{region_ids, node_ids, nodes_ids, regions_ids}
use Rattle.g_graph.specs.WellFormed.{all_of, distinct}
use Rattle.g_graph.proofs.lemmas.Unique.{times, times_append, times_cons, distinct_of_counts}
use Rattle.g_graph.proofs.lemmas.Indexes.{same_number_true}
use Rattle.g_build_keeps.specs.Formation.{AreApart, Standing, at_start, after_node, NodeForms, NodesForm, RegionForms, RegionsForm}
use Rattle.g_build_keeps.proofs.lemmas.Joins.{Ends, node_rises, nodes_rise, regions_rise}

-- each number stands once at most, from the first on and before the other
pub record Once (first : ℕ) (ns : List ℕ) (next : ℕ) : Type 0 where
  pub once : (n : ℕ) → times n ns ≤ 1
  pub low : (n : ℕ) → 1 ≤ times n ns → first ≤ n
  pub high : (n : ℕ) → 1 ≤ times n ns → n < next

once_none : (lo hi : ℕ) → Once lo [] hi
once_none lo hi = record { once = λ n. omega arith; low = λ n h. absurd (omega (arith, h)); high = λ n h. absurd (omega (arith, h)) }

-- numbers of two lists that lie apart
once_apart : (first low high from to next : ℕ) (xs ys : List ℕ) → AreApart first low high from to next → Once low xs high → Once from ys to → Once first (xs ++ ys) next
once_apart first low high from to next xs ys w a b = record {
  once = λ n. one n (times n xs) (times n ys) (times_append n xs ys) (a.once n) (b.once n) (λ j k. never n w.apart (a.low n j) (a.high n j) (b.low n k) (b.high n k));
  low = λ n h. either n (times n xs) (times n ys) (times_append n xs ys) h (λ j. omega (arith, w.low_within, a.low n j)) (λ k. omega (arith, w.from_within, b.low n k));
  high = λ n h. either n (times n xs) (times n ys) (times_append n xs ys) h (λ j. omega (arith, w.high_within, a.high n j)) (λ k. omega (arith, w.to_within, b.high n k));
}
  where
    never : (n : ℕ) → (high ≤ from) ⊎ (to ≤ low) → low ≤ n → n < high → from ≤ n → n < to → ⊥
    never n (inl h) c d e f = omega (arith, h, d, e)
    never n (inr h) c d e f = omega (arith, h, c, f)

    one : (n j k : ℕ) → times n (xs ++ ys) ≡ j + k → j ≤ 1 → k ≤ 1 → (1 ≤ j → 1 ≤ k → ⊥) → times n (xs ++ ys) ≤ 1
    one n zero k e c d f = omega (arith, e, d)
    one n (suc j) zero e c d f = omega (arith, e, c)
    one n (suc j) (suc k) e c d f = absurd (f (omega arith) (omega arith))

    either : {P : Type 0} → (n j k : ℕ) → times n (xs ++ ys) ≡ j + k → 1 ≤ times n (xs ++ ys) → (1 ≤ j → P) → (1 ≤ k → P) → P
    either n zero k e h f g = g (omega (arith, e, h))
    either n (suc j) k e h f g = f (omega arith)

-- one number before those of a list
once_first : (lo id hi : ℕ) (ns : List ℕ) → lo ≤ id → suc id ≤ hi → Once (suc id) ns hi → Once lo (id ∷ ns) hi
once_first lo id hi ns l m a = once_apart lo lo (suc id) (suc id) hi hi (id ∷ []) ns apart own a
  where
    same : (n : ℕ) → times n (id ∷ []) ≡ (if id == n then 1 else 0)
    same n = times_cons n id [] ∙ omega arith

    by_test : (n : ℕ) (t : Bool) → (id == n) ≡ t → (times n (id ∷ []) ≤ 1) × (1 ≤ times n (id ∷ []) → lo ≤ n) × (1 ≤ times n (id ∷ []) → n < suc id)
    by_test n true e =
        let one = same n ∙ ap (λ t. if t then 1 else 0) e in
        let equal : id ≡ n = grind (arith, nat_tests, e) in
        (omega (arith, one), λ h. omega (arith, l, equal), λ h. omega (arith, equal))
    by_test n false e =
        let none = same n ∙ ap (λ t. if t then 1 else 0) e in
        (omega (arith, none), λ h. absurd (omega (arith, none, h)), λ h. absurd (omega (arith, none, h)))

    apart : AreApart lo lo (suc id) (suc id) hi hi
    apart = record { low_within = omega arith; high_within = m; from_within = omega (arith, l); to_within = omega arith; apart = inl (omega arith) }

    own : Once lo (id ∷ []) (suc id)
    own = record { once = λ n. (by_test n (id == n) refl).0; low = λ n. (by_test n (id == n) refl).1; high = λ n. (by_test n (id == n) refl).2 }

mutual
  node_once : (allowed : Op → ℕ → Type 0) (c : Standing) (x : NodeTree) (ks : List Kind) (m : ℕ) → NodeForms allowed c x ks m → Once c.next (node_ids x) m
  node_once a c (node id Gamma inputs rs) ks m h =
      once_first c.next id m (regions_ids rs) h.0 (regions_rise a (suc id) h.2.0 ks rs m h.2.5) (regions_once a (suc id) h.2.0 ks rs m h.2.5)
  node_once a c (node id Theta inputs rs) ks m h =
      once_first c.next id m (regions_ids rs) h.0 (regions_rise a (suc id) ks (Value ∷ ks) rs m h.2.3) (regions_once a (suc id) ks (Value ∷ ks) rs m h.2.3)
  node_once a c (node id op inputs rs) ks m h =
      once_first c.next id m (regions_ids rs) h.0 (omega (arith, h.2.rises)) (subst (λ ns. Once (suc id) ns m) (ap regions_ids (sym h.2.without)) (once_none (suc id) m))

  nodes_once : (allowed : Op → ℕ → Type 0) (c : Standing) (ns : NodeTrees) (m : ℕ) (outs : List Kind) (results : List Origin) → NodesForm allowed c ns (Ends m outs results) →
      Once c.next (nodes_ids ns) m
  nodes_once a c no_nodes m outs results h = once_none c.next m
  nodes_once a c (node_then x ns) m outs results h =
      once_apart c.next c.next h.1 h.1 m m (node_ids x) (nodes_ids ns)
      (record {
        low_within = omega arith;
        high_within = nodes_rise a (after_node c (id_of x) h.0 h.1) ns m outs results h.3;
        from_within = omega (arith, node_rises a c x h.0 h.1 h.2);
        to_within = omega arith;
        apart = inl (omega arith);
      })
      (node_once a c x h.0 h.1 h.2) (nodes_once a (after_node c (id_of x) h.0 h.1) ns m outs results h.3)

  pub region_once : (allowed : Op → ℕ → Type 0) (n : ℕ) (args outs : List Kind) (r : RegionTree) (m : ℕ) → RegionForms allowed n args outs r m → Once n (region_ids r) m
  region_once a n args outs (region own nodes results) m h = nodes_once a (at_start n args) nodes m outs results h.1

  regions_once : (allowed : Op → ℕ → Type 0) (n : ℕ) (args outs : List Kind) (rs : RegionTrees) (m : ℕ) → RegionsForm allowed n args outs rs m → Once n (regions_ids rs) m
  regions_once a n args outs no_regions m h = once_none n m
  regions_once a n args outs (region_then r rs) m h =
      once_apart n h.0 h.1 h.2 h.3 m (region_ids r) (regions_ids rs) h.6 (region_once a h.0 args outs r h.1 h.4) (regions_once a h.2 args outs rs h.3 h.5)

-- ---- the test of a lambda

all_below : (hi : ℕ) (ns : List ℕ) → ((n : ℕ) → 1 ≤ times n ns → n < hi) → all_of (λ n. nat_lt n hi) ns ≡ true
all_below hi [] h = refl
all_below hi (x ∷ ns) h =
    λ i. first (h x (omega (arith, times_cons x x ns ∙ ap (λ t. (if t then 1 else 0) + times x ns) (same_number_true x)))) i
    && all_below hi ns (λ n k. h n (omega (arith, k, times_cons n x ns))) i
  where
    first : x < hi → nat_lt x hi ≡ true
    first h = grind (arith, nat_tests, h)

pub once_fits : (first : ℕ) (ns : List ℕ) (next : ℕ) → Once first ns next → (distinct ns && all_of (λ n. nat_lt n next) ns) ≡ true
once_fits first ns next h = λ i. distinct_of_counts ns h.once i && all_below next ns h.high i
