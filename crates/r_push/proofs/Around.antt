-- What stands around a region, where a change is made of the region around the node whose regions hold a number.
use Rattle.std.specs.Option.{option_or}
use Rattle.std.proofs.Common.{◌≡◌, ℕ, ◌==◌, ◌||◌, Bool, true, false, List, [], ◌∷◌, ◌++◌, Option, None, Some, option_map, refl, sym, ap, ap₂, subst, ◌∙◌, inl, inr}
use Rattle.g_graph.specs.declared.op.Kind.{Kind}
use Rattle.g_graph.specs.declared.op.Op.{Op}
use Rattle.g_graph.specs.declared.op.Origin.{Origin}
use Rattle.g_graph.specs.Change.{region_changed, nodes_changed, has_node}
use Rattle.g_graph.specs.Ids.{region_ids, nodes_ids, regions_ids}
use Rattle.g_graph.specs.Plain.{RegionTree, region, NodeTree, node, NodeTrees, no_nodes, node_then, RegionTrees, no_regions, region_then, nodes_in, regions_in}
use Rattle.g_graph.specs.Splice.{joined_nodes}
use Rattle.g_graph.specs.WellFormed.{distinct}
use Rattle.g_graph.proofs.lemmas.Indexes.{has_node-joined}
use Rattle.g_graph.proofs.lemmas.Splices.{nodes_ids-joined}
use Rattle.g_mean.specs.Copies.{IsAmong}
use Rattle.g_mean.proofs.lemmas.Copies.{among-left, among-right, test-other}
use Rattle.g_mean.proofs.lemmas.Edits.{distinct-split}
use Rattle.g_mean.proofs.lemmas.Holds.{distinct-apart}
use Rattle.r_walk.specs.Context.{joined_regions, IsContext}
use Rattle.r_walk.proofs.lemmas.Contexts.{has_none, map_twice, ChangesOnlyAround, regions_ids-joined, nodes_changed_within, regions_changed_within, body_context, inner_context}

-- ---- regions that hold a number

abbrev pub regions_have : ℕ → RegionTrees → Bool
regions_have n no_regions = false
regions_have n (region_then r rs) = has_node n (nodes_in r) || regions_have n rs

-- a region of one of these nodes
abbrev pub nodes_hold : ℕ → NodeTrees → Bool
nodes_hold n no_nodes = false
nodes_hold n (node_then x xs) = regions_have n (regions_in x) || nodes_hold n xs

pub regions_lack : (n : ℕ) (rs : RegionTrees) → (IsAmong n (regions_ids rs) → ⊥) → regions_have n rs ≡ false
regions_lack n no_regions h = refl
regions_lack n (region_then (region args nodes results) rs) h =
    ap₂ (λ s t. s || t) (has_none n nodes (λ k. h (among-left n (nodes_ids nodes) (regions_ids rs) k))) (regions_lack n rs (λ k. h (among-right n (nodes_ids nodes) (regions_ids rs) k)))

pub nodes_lack : (n : ℕ) (ns : NodeTrees) → (IsAmong n (nodes_ids ns) → ⊥) → nodes_hold n ns ≡ false
nodes_lack n no_nodes h = refl
nodes_lack n (node_then (node id op inputs rs) ns) h =
    ap₂ (λ s t. s || t) (regions_lack n rs (λ k. h (inr (among-left n (regions_ids rs) (nodes_ids ns) k)))) (nodes_lack n ns (λ k. h (among-right n (id ∷ regions_ids rs) (nodes_ids ns) k)))

or_both : (s t u : Bool) → (s || (t || u)) ≡ ((s || t) || u)
or_both true t u = refl
or_both false t u = refl

regions_have-joined : (n : ℕ) (rs ss : RegionTrees) → regions_have n (joined_regions rs ss) ≡ (regions_have n rs || regions_have n ss)
regions_have-joined n no_regions ss = refl
regions_have-joined n (region_then r rs) ss = ap (λ t. has_node n (nodes_in r) || t) (regions_have-joined n rs ss) ∙ or_both (has_node n (nodes_in r)) (regions_have n rs) (regions_have n ss)

pub nodes_hold-joined : (n : ℕ) (xs ys : NodeTrees) → nodes_hold n (joined_nodes xs ys) ≡ (nodes_hold n xs || nodes_hold n ys)
nodes_hold-joined n no_nodes ys = refl
nodes_hold-joined n (node_then x xs) ys = ap (λ t. regions_have n (regions_in x) || t) (nodes_hold-joined n xs ys) ∙ or_both (regions_have n (regions_in x)) (nodes_hold n xs) (nodes_hold n ys)

-- ---- a change there

-- A change that a region admits only where a region of a node of it holds the number.
abbrev pub ChangesAround : (n : ℕ) → (RegionTree → Option RegionTree) → Type 0
ChangesAround n f = (r : RegionTree) → nodes_hold n (nodes_in r) ≡ false → f r ≡ None

pub none_around : (n : ℕ) (f : RegionTree → Option RegionTree) → ChangesAround n f → ChangesOnlyAround n f
none_around n f only (region args nodes results) h = only (region args nodes results) (nodes_lack n nodes h)

-- ---- the numbers of a node in its region

-- a number of region r of a node stands nowhere else in the region that holds the node
pub record IsApart (n : ℕ) (before : NodeTrees) (id : ℕ) (done rest : RegionTrees) (after : NodeTrees) : Type 0 where
  pub before_it : IsAmong n (nodes_ids before) → ⊥
  pub itself : (id == n) ≡ false
  pub earlier : IsAmong n (regions_ids done) → ⊥
  pub later : IsAmong n (regions_ids rest) → ⊥
  pub after_it : IsAmong n (nodes_ids after) → ⊥

module _ (n : ℕ) (before : NodeTrees) (id : ℕ) (op : Op) (inputs : List Origin) (done : RegionTrees) (r : RegionTree) (rest : RegionTrees) (after : NodeTrees) where
  abbrev all_regions : RegionTrees
  all_regions = joined_regions done (region_then r rest)

  within_all : IsAmong n (region_ids r) → IsAmong n (regions_ids (joined_regions done (region_then r rest)))
  within_all h =
      subst (IsAmong n) (sym (regions_ids-joined done (region_then r rest))) (among-right n (regions_ids done) (region_ids r ++ regions_ids rest) (among-left n (region_ids r) (regions_ids rest) h))

  pub in_outer : IsAmong n (region_ids r) → IsAmong n (nodes_ids (joined_nodes before (node_then (node id op inputs (joined_regions done (region_then r rest))) after)))
  in_outer h =
      subst (IsAmong n) (sym (nodes_ids-joined before (node_then (node id op inputs all_regions) after)))
      (among-right n (nodes_ids before) ((id ∷ regions_ids all_regions) ++ nodes_ids after) (among-left n (id ∷ regions_ids all_regions) (nodes_ids after) (inr (within_all h))))

  pub apart_here : distinct (nodes_ids (joined_nodes before (node_then (node id op inputs (joined_regions done (region_then r rest))) after))) ≡ true → IsAmong n (region_ids r) → IsApart n before id done rest after
  apart_here unique h =
      record {
        before_it = λ j. distinct-apart (nodes_ids before) ((id ∷ regions_ids all_regions) ++ nodes_ids after) own n j (among-left n (id ∷ regions_ids all_regions) (nodes_ids after) (inr inside));
        itself = test-other id n (λ e. distinct-apart (id ∷ []) (regions_ids all_regions) node_own n (inl (sym e)) inside);
        earlier = λ j. distinct-apart (regions_ids done) (region_ids r ++ regions_ids rest) inner n j (among-left n (region_ids r) (regions_ids rest) h);
        later = λ j. distinct-apart (region_ids r) (regions_ids rest) (distinct-split (regions_ids done) (region_ids r ++ regions_ids rest) inner).1 n h j;
        after_it = λ j. distinct-apart (id ∷ regions_ids all_regions) (nodes_ids after) (distinct-split (nodes_ids before) ((id ∷ regions_ids all_regions) ++ nodes_ids after) own).1 n (inr inside) j;
      }
    where
      inside : IsAmong n (regions_ids all_regions)
      inside = within_all h

      own : distinct (nodes_ids before ++ ((id ∷ regions_ids all_regions) ++ nodes_ids after)) ≡ true
      own = subst (λ ids. distinct ids ≡ true) (nodes_ids-joined before (node_then (node id op inputs all_regions) after)) unique

      node_own : distinct (id ∷ regions_ids all_regions) ≡ true
      node_own = (distinct-split (id ∷ regions_ids all_regions) (nodes_ids after) (distinct-split (nodes_ids before) ((id ∷ regions_ids all_regions) ++ nodes_ids after) own).1).0

      inner : distinct (regions_ids done ++ (region_ids r ++ regions_ids rest)) ≡ true
      inner = subst (λ ids. distinct ids ≡ true) (regions_ids-joined done (region_then r rest)) (distinct-split (id ∷ []) (regions_ids all_regions) node_own).1

-- ---- contexts

-- A context in which such a change is made within the region, where its number is there, but is not of one of the region's
-- own nodes.
pub record IsAround (context : RegionTree → RegionTree) : Type 0 where
  pub is : IsContext context
  pub inside : (n : ℕ) (f : RegionTree → Option RegionTree) (r : RegionTree) → ChangesAround n f → has_node n (nodes_in r) ≡ false → IsAmong n (region_ids r) →
      distinct (region_ids (context r)) ≡ true → region_changed f (context r) ≡ option_map context (region_changed f r)

pub body_around : IsAround (λ r. r)
body_around = record { is = body_context; inside = λ n f r only lacks h unique. itself (region_changed f r) }
  where
    itself : (o : Option RegionTree) → o ≡ option_map (λ r. r) o
    itself None = refl
    itself (Some r) = refl

-- the numbers of a region in a context are unique
unique_in : (context : RegionTree → RegionTree) → IsContext context → (r : RegionTree) → distinct (region_ids (context r)) ≡ true → distinct (region_ids r) ≡ true
unique_in context is r unique =
    (distinct-split is.first (region_ids r) (distinct-split (is.first ++ region_ids r) is.last (subst (λ ids. distinct ids ≡ true) (is.numbers r) unique)).0).1

module _ (context : RegionTree → RegionTree) (around : IsAround context) (args : List Kind) (before : NodeTrees) (id : ℕ) (op : Op) (inputs : List Origin)
    (done rest : RegionTrees) (after : NodeTrees) (results : List Origin) where
  abbrev holding : RegionTree → NodeTree
  holding r = node id op inputs (joined_regions done (region_then r rest))

  abbrev with_region : RegionTree → RegionTree
  with_region r = region args (joined_nodes before (node_then (holding r) after)) results

  module _ (n : ℕ) (f : RegionTree → Option RegionTree) (r : RegionTree) (only : ChangesAround n f) (apart : IsApart n before id done rest after) where
    -- the number is not one of the region around
    pub own_lack : has_node n (joined_nodes before (node_then (node id op inputs (joined_regions done (region_then r rest))) after)) ≡ false
    own_lack = has_node-joined n before (node_then (holding r) after) ∙ (λ i. has_none n before apart.before_it i || (apart.itself i || has_none n after apart.after_it i))

    none_held : has_node n (nodes_in r) ≡ false → nodes_hold n (joined_nodes before (node_then (holding r) after)) ≡ false
    none_held lacks =
        nodes_hold-joined n before (node_then (holding r) after)
        ∙ ap₂ (λ s t. s || (t || nodes_hold n after)) (nodes_lack n before apart.before_it)
        (regions_have-joined n done (region_then r rest) ∙ (λ i. regions_lack n done apart.earlier i || (lacks i || regions_lack n rest apart.later i)))
        ∙ nodes_lack n after apart.after_it

    -- within the nodes, the change is made in the region
    pub nodes_inside : nodes_changed f (joined_nodes before (node_then (node id op inputs (joined_regions done (region_then r rest))) after))
        ≡ option_map (λ s. joined_nodes before (node_then (node id op inputs (joined_regions done (region_then s rest))) after)) (region_changed f r)
    nodes_inside =
        nodes_changed_within n f (none_around n f only) before (holding r) after apart.before_it apart.after_it
        ∙ ap (λ o. option_map (λ y. joined_nodes before (node_then y after)) (option_map (λ ss. node id op inputs ss) o))
        (regions_changed_within n f (none_around n f only) done r rest apart.earlier apart.later)
        ∙ ap (option_map (λ y. joined_nodes before (node_then y after))) (map_twice (λ s. joined_regions done (region_then s rest)) (λ ss. node id op inputs ss) (region_changed f r))
        ∙ map_twice holding (λ y. joined_nodes before (node_then y after)) (region_changed f r)

    inside_here : has_node n (nodes_in r) ≡ false → region_changed f (with_region r) ≡ option_map with_region (region_changed f r)
    inside_here lacks =
        ap₂ (λ a b. option_or a (option_map (λ ns. region args ns results) b)) (only (with_region r) (none_held lacks)) nodes_inside
        ∙ map_twice (λ s. joined_nodes before (node_then (holding s) after)) (λ ns. region args ns results) (region_changed f r)

  changes-inside : (n : ℕ) (f : RegionTree → Option RegionTree) (r : RegionTree) → ChangesAround n f → has_node n (nodes_in r) ≡ false → IsAmong n (region_ids r) →
      distinct (region_ids (context (with_region r))) ≡ true → region_changed f (context (with_region r)) ≡ option_map (λ s. context (with_region s)) (region_changed f r)
  changes-inside n f r only lacks h unique =
      around.inside n f (with_region r) only (own_lack n f r only apart) (in_outer n before id op inputs done r rest after h) unique ∙ ap (option_map context) (inside_here n f r only apart lacks)
      ∙ map_twice with_region context (region_changed f r)
    where
      apart : IsApart n before id done rest after
      apart = apart_here n before id op inputs done r rest after (unique_in context around.is (with_region r) unique) h

  pub inner_around : IsAround (λ r. context (region args (joined_nodes before (node_then (node id op inputs (joined_regions done (region_then r rest))) after)) results))
  inner_around = record { is = inner_context context around.is args before id op inputs done rest after results; inside = changes-inside }
