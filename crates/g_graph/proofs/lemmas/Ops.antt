-- A property of the ops of a region, at any depth, through the changes that rules make.
use Rattle.std.specs.Option.{option_or}
use Rattle.std.proofs.Common.{◌≡◌, ℕ, ◌==◌, Bool, true, false, List, length, Option, Some, None, refl, sym, subst, ◌∙◌, if◌then◌else◌, option_map}
use Rattle.std.specs.Prelude.{unwrap_or}
use Rattle.std.proofs.lemmas.List.{length-map}
use Rattle.std.proofs.lemmas.Option.{same_Some}
use Rattle.g_graph.specs.declared.op.Op.{Op}
use Rattle.g_graph.specs.declared.op.Origin.{Origin}
use Rattle.g_graph.specs.Plain.{RegionTree, region, NodeTree, node, NodeTrees, no_nodes, node_then, RegionTrees, no_regions, region_then, id_of, PlainLambda}
use Rattle.g_graph.specs.Change.{region_changed, node_changed, nodes_changed, regions_changed, lambda_changed}
use Rattle.g_graph.specs.Replace.{nodes_redirected, region_redirected}
use Rattle.g_graph.specs.Splice.{outputs_to_results, joined_nodes, nodes_spliced, region_spliced}
use Rattle.g_graph.specs.Nodes.{node_at, node_set}
use Rattle.g_graph.specs.Lists.{RegionOps, NodeOps, NodesOps, RegionsOps}

module _ (p : Op → ℕ → Type 0) where
  pub redirected_ops : (g : Origin → Origin) (ns : NodeTrees) → NodesOps p ns → NodesOps p (nodes_redirected g ns)
  redirected_ops g no_nodes h = h
  redirected_ops g (node_then (node id op inputs rs) xs) h =
      ((subst (λ m. p op m) (sym (length-map inputs g)) h.0.0, h.0.1), redirected_ops g xs h.1)

  pub region_redirected_ops : (g : Origin → Origin) (r : RegionTree) → RegionOps p r → RegionOps p (region_redirected g r)
  region_redirected_ops g (region args nodes results) h = redirected_ops g nodes h

  pub joined_ops : (xs ys : NodeTrees) → NodesOps p xs → NodesOps p ys → NodesOps p (joined_nodes xs ys)
  joined_ops no_nodes ys h k = k
  joined_ops (node_then x xs) ys h k = (h.0, joined_ops xs ys h.1 k)

  pub split-ops : (xs ys : NodeTrees) → NodesOps p (joined_nodes xs ys) → NodesOps p xs × NodesOps p ys
  split-ops no_nodes ys h = (tt, h)
  split-ops (node_then x xs) ys h = let rest = split-ops xs ys h.1 in ((h.0, rest.0), rest.1)

  spliced_ops : (n : ℕ) (own : NodeTrees) (outputs : List Origin) (ns : NodeTrees) → NodesOps p own → NodesOps p ns → NodesOps p (nodes_spliced n own outputs ns)
  spliced_ops n own outputs no_nodes k h = h
  spliced_ops n own outputs (node_then x xs) k h = by_test (id_of x == n) (spliced_ops n own outputs xs k h.1)
    where
      by_test : (t : Bool) → NodesOps p (nodes_spliced n own outputs xs) →
          NodesOps p (if t then joined_nodes own (nodes_redirected (outputs_to_results n outputs) xs) else node_then x (nodes_spliced n own outputs xs))
      by_test true rest = joined_ops own (nodes_redirected (outputs_to_results n outputs) xs) k (redirected_ops (outputs_to_results n outputs) xs h.1)
      by_test false rest = (h.0, rest)

  pub region_spliced_ops : (n : ℕ) (own r : RegionTree) → RegionOps p own → RegionOps p r → RegionOps p (region_spliced n own r)
  region_spliced_ops n (region args nodes outputs) (region args' ns results) k h = spliced_ops n nodes outputs ns k h

  pub found_ops : (n : ℕ) (ns : NodeTrees) (x : NodeTree) → node_at n ns ≡ Some x → NodesOps p ns → NodeOps p x
  found_ops n no_nodes x e h = absurd (cc)
  found_ops n (node_then y ns) x e h = by_test (id_of y == n) e (λ q. found_ops n ns x q h.1)
    where
      by_test : (t : Bool) → (if t then Some y else node_at n ns) ≡ Some x → (node_at n ns ≡ Some x → NodeOps p x) → NodeOps p x
      by_test true q rest = subst (λ z. NodeOps p z) (same_Some y x q) h.0
      by_test false q rest = rest q

  pub set_ops : (n : ℕ) (y : NodeTree) (ns : NodeTrees) → NodeOps p y → NodesOps p ns → NodesOps p (node_set n y ns)
  set_ops n y no_nodes k h = h
  set_ops n y (node_then x xs) k h = by_test (id_of x == n) (set_ops n y xs k h.1)
    where
      by_test : (t : Bool) → NodesOps p (node_set n y xs) → NodesOps p (if t then node_then y xs else node_then x (node_set n y xs))
      by_test true rest = (k, h.1)
      by_test false rest = (h.0, rest)

  -- ---- a change of one region, at any depth

  module _ (f : RegionTree → Option RegionTree) (keeps : (r s : RegionTree) → f r ≡ Some s → RegionOps p r → RegionOps p s) where
    mutual
      region_ops : (r s : RegionTree) → region_changed f r ≡ Some s → RegionOps p r → RegionOps p s
      region_ops (region args nodes results) s e h =
          by_cases (f (region args nodes results)) (nodes_changed f nodes) refl refl e (λ ms q. nodes_ops nodes ms q h)
        where
          by_cases : (o : Option RegionTree) (q : Option NodeTrees) → f (region args nodes results) ≡ o → nodes_changed f nodes ≡ q →
              option_or o (option_map (λ ns. region args ns results) q) ≡ Some s → ((ms : NodeTrees) → nodes_changed f nodes ≡ Some ms → NodesOps p ms) → RegionOps p s
          by_cases (Some t) q a b c rest = keeps (region args nodes results) s (a ∙ c) h
          by_cases None (Some ms) a b c rest = subst (λ z. RegionOps p z) (same_Some (region args ms results) s c) (rest ms b)
          by_cases None None a b c rest = absurd (cc)

      node_ops : (x y : NodeTree) → node_changed f x ≡ Some y → NodeOps p x → NodeOps p y
      node_ops (node id op inputs rs) y e h = by_cases (regions_changed f rs) refl e (λ ss q. regions_ops rs ss q h.1)
        where
          by_cases : (o : Option RegionTrees) → regions_changed f rs ≡ o → option_map (λ ss. node id op inputs ss) o ≡ Some y →
              ((ss : RegionTrees) → regions_changed f rs ≡ Some ss → RegionsOps p ss) → NodeOps p y
          by_cases (Some ss) a c rest = subst (λ z. NodeOps p z) (same_Some (node id op inputs ss) y c) (h.0, rest ss a)
          by_cases None a c rest = absurd (cc)

      nodes_ops : (ns ms : NodeTrees) → nodes_changed f ns ≡ Some ms → NodesOps p ns → NodesOps p ms
      nodes_ops no_nodes ms e h = absurd (cc)
      nodes_ops (node_then x xs) ms e h =
          by_cases (node_changed f x) (nodes_changed f xs) refl refl e (λ y q. node_ops x y q h.0) (λ ys q. nodes_ops xs ys q h.1)
        where
          by_cases : (o : Option NodeTree) (q : Option NodeTrees) → node_changed f x ≡ o → nodes_changed f xs ≡ q →
              option_or (option_map (λ y. node_then y xs) o) (option_map (λ ys. node_then x ys) q) ≡ Some ms →
              ((y : NodeTree) → node_changed f x ≡ Some y → NodeOps p y) → ((ys : NodeTrees) → nodes_changed f xs ≡ Some ys → NodesOps p ys) → NodesOps p ms
          by_cases (Some y) q a b c first rest = subst (λ z. NodesOps p z) (same_Some (node_then y xs) ms c) (first y a, h.1)
          by_cases None (Some ys) a b c first rest = subst (λ z. NodesOps p z) (same_Some (node_then x ys) ms c) (h.0, rest ys b)
          by_cases None None a b c first rest = absurd (cc)

      regions_ops : (rs ss : RegionTrees) → regions_changed f rs ≡ Some ss → RegionsOps p rs → RegionsOps p ss
      regions_ops no_regions ss e h = absurd (cc)
      regions_ops (region_then r rs) ss e h =
          by_cases (region_changed f r) (regions_changed f rs) refl refl e (λ s q. region_ops r s q h.0) (λ ts q. regions_ops rs ts q h.1)
        where
          by_cases : (o : Option RegionTree) (q : Option RegionTrees) → region_changed f r ≡ o → regions_changed f rs ≡ q →
              option_or (option_map (λ s. region_then s rs) o) (option_map (λ ts. region_then r ts) q) ≡ Some ss →
              ((s : RegionTree) → region_changed f r ≡ Some s → RegionOps p s) → ((ts : RegionTrees) → regions_changed f rs ≡ Some ts → RegionsOps p ts) → RegionsOps p ss
          by_cases (Some s) q a b c first rest = subst (λ z. RegionsOps p z) (same_Some (region_then s rs) ss c) (first s a, h.1)
          by_cases None (Some ts) a b c first rest = subst (λ z. RegionsOps p z) (same_Some (region_then r ts) ss c) (h.0, rest ts b)
          by_cases None None a b c first rest = absurd (cc)

    pub changed_ops : (l : PlainLambda) → RegionOps p l.body → RegionOps p (lambda_changed f l).body
    changed_ops l h = by_change (region_changed f l.body) refl
      where
        by_change : (o : Option RegionTree) → region_changed f l.body ≡ o → RegionOps p (unwrap_or o l.body)
        by_change None e = h
        by_change (Some s) e = region_ops l.body s e h

-- ---- a property that another one follows from

module _ (p q : Op → ℕ → Type 0) (follows : (op : Op) (n : ℕ) → p op n → q op n) where
  mutual
    pub region_follows : (r : RegionTree) → RegionOps p r → RegionOps q r
    region_follows (region args nodes results) h = nodes_follow nodes h

    node_follows : (x : NodeTree) → NodeOps p x → NodeOps q x
    node_follows (node id op inputs rs) h = (follows op (length inputs) h.0, regions_follow rs h.1)

    nodes_follow : (ns : NodeTrees) → NodesOps p ns → NodesOps q ns
    nodes_follow no_nodes h = h
    nodes_follow (node_then x xs) h = (node_follows x h.0, nodes_follow xs h.1)

    regions_follow : (rs : RegionTrees) → RegionsOps p rs → RegionsOps q rs
    regions_follow no_regions h = h
    regions_follow (region_then r rs) h = (region_follows r h.0, regions_follow rs h.1)
