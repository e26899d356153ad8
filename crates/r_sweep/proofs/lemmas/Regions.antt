-- The region that itself holds a node, among the regions of its parent.
use Rattle.std.specs.Option.{option_or}
use Rattle.std.proofs.Common.{◌≡◌, ◌≤◌, ◌<◌, ◌+◌, ◌⊎◌, inl, inr, ℕ, suc, ◌==◌, ◌||◌, Bool, true, false, Option, None, Some, option_map, List, [], ◌∷◌, ◌++◌, length, refl, sym, ap, ◌∙◌, arith, append_assoc}
use Rattle.std.specs.Prelude.{if◌then◌else◌}
use Rattle.std.proofs.lemmas.Bool.{cases_Bool, and_parts}
use Rattle.g_graph.specs.declared.op.Kind.{Kind}
use Rattle.g_graph.specs.declared.op.Op.TheVariants.{Gamma}
use Rattle.g_graph.specs.declared.op.Origin.{Origin}
use Rattle.g_graph.specs.Plain.{RegionTree, region, node, NodeTrees, no_nodes, node_then, RegionTrees, no_regions, region_then, args_of, nodes_in}
use Rattle.g_graph.specs.Ids.{region_ids, nodes_ids, regions_ids}
use Rattle.g_graph.specs.Signatures.{first_args, outputs_of, result_kinds}
use Rattle.g_graph.specs.Change.{region_changed, nodes_changed, regions_changed, has_node}
use Rattle.g_graph.specs.WellFormed.{every_region, every_in_regions}
use Rattle.g_graph.proofs.lemmas.Nodes.{has_times}
use Rattle.g_graph.proofs.lemmas.Unique.{times, times_append, times_cons}
use Rattle.g_arena_def.specs.Flat.{FlatNode, place_in, region_flat, regions_flat, in_region, in_nodes, in_regions}
use Rattle.g_arena_def.specs.Edits.{at_with}
use Rattle.r_sweep.proofs.lemmas.Outside.{AreOnce, none_first, none_both, at_most_first, AreOutside, AreApart, outside_append, apart_append, nodes_outside, regions_outside, later_apart, earlier_apart}

-- ---- changes of the region of one node

-- a change that is made in no region but one that itself holds node n
abbrev pub IsChangeAt : ℕ → (RegionTree → Option RegionTree) → Type 0
IsChangeAt n g = (r : RegionTree) → has_node n (nodes_in r) ≡ false → g r ≡ None

-- a region that takes and gives what another one does
pub record IsAlike (r s : RegionTree) : Type 0 where
  pub args : args_of s ≡ args_of r
  pub results : result_kinds s ≡ result_kinds r

pub has_none : (n : ℕ) (ns : NodeTrees) → times n (nodes_ids ns) ≡ 0 → has_node n ns ≡ false
has_none n ns e = by (cases_Bool (has_node n ns))
  where
    by : (has_node n ns ≡ true) ⊎ (has_node n ns ≡ false) → has_node n ns ≡ false
    by (inl h) = absurd (omega (arith, e, has_times n ns h))
    by (inr h) = h

pub changed_none : (g : RegionTree → Option RegionTree) (args : List Kind) (ns : NodeTrees) (results : List Origin) → g (region args ns results) ≡ None → nodes_changed g ns ≡ None →
    region_changed g (region args ns results) ≡ None
changed_none g args ns results e f = λ i. option_or (e i) (option_map (λ ms. region args ms results) (f i))

mutual
  pub nodes_unchanged : (n : ℕ) (g : RegionTree → Option RegionTree) → IsChangeAt n g → (ns : NodeTrees) → times n (nodes_ids ns) ≡ 0 → nodes_changed g ns ≡ None
  nodes_unchanged n g at no_nodes e = refl
  nodes_unchanged n g at (node_then (node id op inputs rs) xs) e =
      let both = none_both n (id ∷ regions_ids rs) (nodes_ids xs) e in
      let own = regions_unchanged n g at rs (none_first n id (regions_ids rs) both.0).1 in
      let rest = nodes_unchanged n g at xs both.1 in
      λ i. option_or (option_map (λ y. node_then y xs) (option_map (λ ss. node id op inputs ss) (own i))) (option_map (λ ys. node_then (node id op inputs rs) ys) (rest i))

  pub regions_unchanged : (n : ℕ) (g : RegionTree → Option RegionTree) → IsChangeAt n g → (rs : RegionTrees) → times n (regions_ids rs) ≡ 0 → regions_changed g rs ≡ None
  regions_unchanged n g at no_regions e = refl
  regions_unchanged n g at (region_then (region args ns results) rs) e =
      let both = none_both n (nodes_ids ns) (regions_ids rs) e in
      let own = changed_none g args ns results (at (region args ns results) (has_none n ns both.0)) (nodes_unchanged n g at ns both.0) in
      let rest = regions_unchanged n g at rs both.1 in
      λ i. option_or (option_map (λ s. region_then s rs) (own i)) (option_map (λ ss. region_then (region args ns results) ss) (rest i))

-- where node n itself stands among these nodes, nothing below them is changed
pub below_unchanged : (n : ℕ) (g : RegionTree → Option RegionTree) → IsChangeAt n g → (ns : NodeTrees) → AreOnce (nodes_ids ns) → has_node n ns ≡ true → nodes_changed g ns ≡ None
below_unchanged n g at no_nodes once h = refl
below_unchanged n g at (node_then (node id op inputs rs) xs) once h =
    let sum = times_append n (id ∷ regions_ids rs) (nodes_ids xs) in
    by (id == n) refl (once n) sum h (λ q. below_unchanged n g at xs (λ m. omega (arith, once m, times_append m (id ∷ regions_ids rs) (nodes_ids xs))) q)
  where
    by : (t : Bool) → (id == n) ≡ t → times n ((id ∷ regions_ids rs) ++ nodes_ids xs) ≤ 1 → times n ((id ∷ regions_ids rs) ++ nodes_ids xs) ≡ times n (id ∷ regions_ids rs) + times n (nodes_ids xs) →
        (t || has_node n xs) ≡ true → (has_node n xs ≡ true → nodes_changed g xs ≡ None) → nodes_changed g (node_then (node id op inputs rs) xs) ≡ None
    by true e o s q later =
        let head = times_cons n id (regions_ids rs) ∙ ap (λ t. (if t then 1 else 0) + times n (regions_ids rs)) e in
        let own = regions_unchanged n g at rs (omega (arith, o, s, head)) in
        let rest = nodes_unchanged n g at xs (omega (arith, o, s, head)) in
        λ i. option_or (option_map (λ y. node_then y xs) (option_map (λ ss. node id op inputs ss) (own i))) (option_map (λ ys. node_then (node id op inputs rs) ys) (rest i))
    by false e o s q later =
        let head = at_most_first n id (regions_ids rs) in
        let own = regions_unchanged n g at rs (omega (arith, o, s, head, has_times n xs q)) in
        let rest = later q in
        λ i. option_or (option_map (λ y. node_then y xs) (option_map (λ ss. node id op inputs ss) (own i))) (option_map (λ ys. node_then (node id op inputs rs) ys) (rest i))

pub changed_here : (n : ℕ) (g : RegionTree → Option RegionTree) → IsChangeAt n g → (args : List Kind) (ns : NodeTrees) (results : List Origin) → AreOnce (nodes_ids ns) → has_node n ns ≡ true →
    region_changed g (region args ns results) ≡ g (region args ns results)
changed_here n g at args ns results once h = by (g (region args ns results)) (below_unchanged n g at ns once h)
  where
    by : (o : Option RegionTree) → nodes_changed g ns ≡ None → option_or o (option_map (λ ms. region args ms results) (nodes_changed g ns)) ≡ o
    by None e = ap (option_map (λ ms. region args ms results)) e
    by (Some s) e = refl

-- a region that itself holds node n, and whose numbers stand once
pub record IsHolder (n : ℕ) (r : RegionTree) : Type 0 where
  pub has : has_node n (nodes_in r) ≡ true
  pub once : AreOnce (region_ids r)

pub holder_changed : (n : ℕ) (g : RegionTree → Option RegionTree) → IsChangeAt n g → (r : RegionTree) → IsHolder n r → region_changed g r ≡ g r
holder_changed n g at (region args ns results) h = changed_here n g at args ns results h.once h.has

-- ---- a region among those of its parent

last_none : {X : Type 0} (o : Option X) → option_or o None ≡ o
last_none None = refl
last_none (Some x) = refl

pub map_twice : {X Y Z : Type 0} (f : Y → Z) (g : X → Y) (o : Option X) → option_map f (option_map g o) ≡ option_map (λ x. f (g x)) o
map_twice f g None = refl
map_twice f g (Some x) = refl

-- Regions of node `parent`, from a number on, of which one itself holds node n; and what stands in the others, before
-- and after it.
pub record Among (n parent first : ℕ) (rs : RegionTrees) : Type 0 where
  pub place : ℕ
  pub index : ℕ
  pub number : place ≡ first + index
  pub here : RegionTree
  pub before : List FlatNode
  pub after : List FlatNode
  pub fill : RegionTree → RegionTrees
  pub has : has_node n (nodes_in here) ≡ true
  pub is : fill here ≡ rs
  pub flat_is : (s : RegionTree) → in_regions parent first (fill s) ≡ before ++ (in_region (place_in parent place) s ++ after)
  pub records : (s : RegionTree) → regions_flat (fill s) ≡ at_with index (λ r. region_flat s) (regions_flat rs)
  pub within : index < length (regions_flat rs)
  pub first_same : (s : RegionTree) → IsAlike here s → first_args (fill s) ≡ first_args rs
  pub given_same : (s : RegionTree) → IsAlike here s → outputs_of Gamma (fill s) ≡ outputs_of Gamma rs
  pub changed_to : (s : RegionTree) → IsHolder n s → (g : RegionTree → Option RegionTree) → IsChangeAt n g → regions_changed g (fill s) ≡ option_map fill (g s)
  pub parts : (s : RegionTree) (test : RegionTree → Bool) → every_in_regions test (fill s) ≡ true → every_region test s ≡ true
  pub fewer : (s : RegionTree) (m : ℕ) → times m (region_ids s) ≤ times m (regions_ids (fill s))
  pub outside : (m : ℕ) → 1 ≤ times m (region_ids here) → (parent == m) ≡ false → AreOutside m before × AreOutside m after
  pub apart : AreApart (place_in parent place) before × AreApart (place_in parent place) after

-- the first of these regions holds node n
pub among_first : (n parent first : ℕ) (args : List Kind) (ns : NodeTrees) (results : List Origin) (rs : RegionTrees) → AreOnce (nodes_ids ns ++ regions_ids rs) →
    times parent (nodes_ids ns ++ regions_ids rs) ≡ 0 → has_node n ns ≡ true → Among n parent first (region_then (region args ns results) rs)
among_first n parent first args ns results rs once own h = record {
  place = first;
  index = 0;
  number = omega arith;
  here = region args ns results;
  before = [];
  after = in_regions parent (suc first) rs;
  fill = λ s. region_then s rs;
  has = h;
  is = refl;
  flat_is = λ s. refl;
  records = λ s. refl;
  within = omega arith;
  first_same = λ s a. a.args;
  given_same = λ s a. a.results;
  changed_to = λ s q g at.
      (λ i. option_or (option_map (λ t. region_then t rs) (holder_changed n g at s q i))
      (option_map (λ ss. region_then s ss) (regions_unchanged n g at rs (omega (arith, once n, times_append n (nodes_ids ns) (regions_ids rs), has_times n ns h)) i)))
      ∙ last_none (option_map (λ t. region_then t rs) (g s));
  parts = λ s test e. (and_parts (every_region test s) (every_in_regions test rs) e).0;
  fewer = λ s m. omega (arith, times_append m (region_ids s) (regions_ids rs));
  outside = λ m e p. (tt, regions_outside m parent (suc first) rs (omega (arith, once m, e, times_append m (nodes_ids ns) (regions_ids rs))) p);
  apart = (tt, later_apart parent first (suc first) rs (omega arith) (none_both parent (nodes_ids ns) (regions_ids rs) own).1);
}

-- one of the later of these regions does
pub among_later : (n parent first : ℕ) (args : List Kind) (ns : NodeTrees) (results : List Origin) (rs : RegionTrees) → AreOnce (nodes_ids ns ++ regions_ids rs) →
    times parent (nodes_ids ns ++ regions_ids rs) ≡ 0 → times n (nodes_ids ns) ≡ 0 → Among n parent (suc first) rs → Among n parent first (region_then (region args ns results) rs)
among_later n parent first args ns results rs once own none w =
    let r = region args ns results in
    record {
      place = w.place;
      index = suc w.index;
      number = omega (arith, w.number);
      here = w.here;
      before = in_nodes (place_in parent first) ns ++ w.before;
      after = w.after;
      fill = λ s. region_then r (w.fill s);
      has = w.has;
      is = ap (region_then r) w.is;
      flat_is = λ s. ap (λ ys. in_nodes (place_in parent first) ns ++ ys) (w.flat_is s) ∙ sym (append_assoc (in_nodes (place_in parent first) ns) w.before (in_region (place_in parent w.place) s ++ w.after));
      records = λ s. ap (λ ys. region_flat r ∷ ys) (w.records s);
      within = omega (arith, w.within);
      first_same = λ s a. refl;
      given_same = λ s a. refl;
      changed_to = λ s q g at.
          (λ i. option_or (option_map (λ t. region_then t (w.fill s)) (changed_none g args ns results (at r (has_none n ns none)) (nodes_unchanged n g at ns none) i))
          (option_map (λ ss. region_then r ss) (w.changed_to s q g at i)))
          ∙ map_twice (λ ss. region_then r ss) w.fill (g s);
      parts = λ s test e. w.parts s test (and_parts (every_region test r) (every_in_regions test (w.fill s)) e).1;
      fewer = λ s m. omega (arith, w.fewer s m, times_append m (nodes_ids ns) (regions_ids (w.fill s)));
      outside = λ m e p.
          let rest = w.outside m e p in (
            outside_append m (in_nodes (place_in parent first) ns) w.before
                (nodes_outside m (place_in parent first) ns (omega (arith, once m, e, w.fewer w.here m, ap (λ ss. times m (regions_ids ss)) w.is, times_append m (nodes_ids ns) (regions_ids rs))) p) rest.0,
            rest.1,
          );
      apart = (
        apart_append (place_in parent w.place) (in_nodes (place_in parent first) ns) w.before
            (earlier_apart parent w.place first args ns results (omega (arith, w.number)) (none_both parent (nodes_ids ns) (regions_ids rs) own).0) w.apart.0,
        w.apart.1,
      );
    }
