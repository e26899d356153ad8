-- What stands around the region that itself holds a node.
use Rattle.std.specs.Option.{option_or}
use Rattle.std.proofs.Common.{◌≡◌, ◌≤◌, ◌<◌, ◌+◌, ◌⊎◌, inl, inr, ℕ, zero, suc, ◌==◌, ◌||◌, ◌&&◌, Bool, true, false, Option, None, Some, option_map, option_and_then, List, [], ◌∷◌, ◌++◌, map, length, refl, sym, ap, ◌∙◌, arith, append_assoc, append-nil}
use Rattle.std.specs.Prelude.{slice_get, if◌then◌else◌}
use Rattle.std.proofs.lemmas.Bool.{ne_eqb, and_parts}
use Rattle.g_graph.specs.declared.op.Kind.{Kind}
use Rattle.g_graph.specs.declared.op.Op.{Op}
use Rattle.g_graph.specs.declared.op.Op.TheVariants.{Gamma, Theta}
use Rattle.g_graph.specs.declared.op.Origin.{Origin}
use Rattle.g_graph.specs.Plain.{RegionTree, region, node, NodeTrees, no_nodes, node_then, RegionTrees, no_regions, region_then, nodes_in, PlainLambda}
use Rattle.g_graph.specs.Ids.{region_ids, nodes_ids, regions_ids}
use Rattle.g_graph.specs.Signatures.{joined, kind_of, first_args, outputs_of, kind_after}
use Rattle.g_graph.specs.Change.{region_changed, nodes_changed, regions_changed, has_node}
use Rattle.g_graph.specs.WellFormed.{kinds_of, every_region, every_in_nodes, every_in_regions}
use Rattle.g_graph.proofs.lemmas.Indexes.{same_number_true}
use Rattle.g_graph.proofs.lemmas.Nodes.{has_times}
use Rattle.g_graph.proofs.lemmas.Unique.{times, times_append, times_cons}
use Rattle.g_arena_def.specs.declared.place.Place.{Place}
use Rattle.g_arena_def.specs.Flat.{FlatRegion, FlatNode, Flat, body_place, place_in, region_flat, regions_flat, in_region, in_nodes, in_node, in_regions, flat_of, same_node}
use Rattle.g_arena_def.specs.Reads.{found, region_at}
use Rattle.g_arena_def.specs.Edits.{node_with, at_with, region_with}
use Rattle.r_sweep.proofs.lemmas.Outside.{AreOnce, none_first, none_both, at_most_first, times_head, AreOutside, AreApart, IsNone, none_of_both, outside_append, apart_append, outside_apart, place_apart, node_outside, nodes_outside, regions_outside, nodes_apart}
use Rattle.r_sweep.proofs.lemmas.Regions.{IsChangeAt, IsAlike, Among, among_first, among_later, map_twice, has_none, changed_none, IsHolder, holder_changed, nodes_unchanged, regions_unchanged}

-- ---- the first node of a number, in a list

pub node_with_past : (m : ℕ) (f : FlatNode → FlatNode) (xs ys : List FlatNode) → AreOutside m xs → node_with m f (xs ++ ys) ≡ xs ++ node_with m f ys
node_with_past m f [] ys h = refl
node_with_past m f (x ∷ xs) ys h = ap (λ t. if t then f x ∷ (xs ++ ys) else x ∷ node_with m f (xs ++ ys)) h.0.0 ∙ ap (λ zs. x ∷ zs) (node_with_past m f xs ys h.1)

pub found_past : (m : ℕ) (xs ys : List FlatNode) → AreOutside m xs → found m (xs ++ ys) ≡ found m ys
found_past m [] ys h = refl
found_past m (x ∷ xs) ys h = ap (λ t. if t then Some x else found m (xs ++ ys)) h.0.0 ∙ found_past m xs ys h.1

pub node_with_here : (m : ℕ) (f : FlatNode → FlatNode) (x : FlatNode) (ys : List FlatNode) → x.id ≡ m → node_with m f (x ∷ ys) ≡ f x ∷ ys
node_with_here m f x ys e = ap (λ t. if t then f x ∷ ys else x ∷ node_with m f ys) (ap (λ k. k == m) e ∙ same_number_true m)

pub found_here : (m : ℕ) (x : FlatNode) (ys : List FlatNode) → x.id ≡ m → found m (x ∷ ys) ≡ Some x
found_here m x ys e = ap (λ t. if t then Some x else found m ys) (ap (λ k. k == m) e ∙ same_number_true m)

-- ---- an element of a list, set

pub at_with_twice : {X : Type 0} (k : ℕ) (f : X → X) (y : X) (xs : List X) → at_with k f (at_with k (λ x. y) xs) ≡ at_with k (λ x. f y) xs
at_with_twice k f y [] = refl
at_with_twice zero f y (x ∷ xs) = refl
at_with_twice (suc k) f y (x ∷ xs) = ap (λ ys. x ∷ ys) (at_with_twice k f y xs)

pub at_with_get : {X : Type 0} (k : ℕ) (y : X) (xs : List X) → k < length xs → slice_get (at_with k (λ x. y) xs) k ≡ Some y
at_with_get k y [] h = absurd (omega (arith, h))
at_with_get zero y (x ∷ xs) h = refl
at_with_get (suc k) y (x ∷ xs) h = at_with_get k y xs (omega (arith, h))

-- ---- a region below some nodes or regions

abbrev pub region_set : (index : ℕ) → (FlatRegion → FlatRegion) → FlatNode → FlatNode
region_set k f x = record x { regions = at_with k f x.regions }

-- A region below the whole that itself holds node n. What stands before it in pre-order is a function of its arguments
-- and results, which its parent has.
pub record AroundIn (n : ℕ) {T : Type 0} (flat : T → List FlatNode) (numbers : T → List ℕ) (changed : (RegionTree → Option RegionTree) → T → Option T)
    (every : (RegionTree → Bool) → T → Bool) (Same : T → T → Type 0) (whole : T) : Type 0 where
  pub parent : ℕ
  pub index : ℕ
  pub here : RegionTree
  pub before : FlatRegion → List FlatNode
  pub after : List FlatNode
  pub fill : RegionTree → T
  pub has : has_node n (nodes_in here) ≡ true
  pub is : fill here ≡ whole
  pub flat_is : (s : RegionTree) → IsAlike here s → flat (fill s) ≡ before (region_flat s) ++ (in_region (place_in parent index) s ++ after)
  pub same : (s : RegionTree) → IsAlike here s → Same whole (fill s)
  pub changed_to : (s : RegionTree) → IsAlike here s → IsHolder n s → (g : RegionTree → Option RegionTree) → IsChangeAt n g → changed g (fill s) ≡ option_map fill (g s)
  pub sets : (f : FlatRegion → FlatRegion) (r : FlatRegion) (zs : List FlatNode) → node_with parent (region_set index f) (before r ++ zs) ≡ before (f r) ++ zs
  pub gets : (r : FlatRegion) (zs : List FlatNode) → (x : FlatNode) × (found parent (before r ++ zs) ≡ Some x) × (slice_get x.regions index ≡ Some r)
  pub parts : (s : RegionTree) (test : RegionTree → Bool) → every test (fill s) ≡ true → every_region test s ≡ true
  pub mine : 1 ≤ times parent (numbers whole)
  pub fewer : (s : RegionTree) (m : ℕ) → times m (region_ids s) ≤ times m (numbers (fill s))
  pub own : times parent (region_ids here) ≡ 0
  pub apart : (r : FlatRegion) → AreApart (place_in parent index) (before r) × AreApart (place_in parent index) after
  pub outside : (m : ℕ) → 1 ≤ times m (region_ids here) → (r : FlatRegion) → AreOutside m (before r) × AreOutside m after

regroup : {X : Type 0} (p b m a q : List X) → p ++ ((b ++ (m ++ a)) ++ q) ≡ (p ++ b) ++ (m ++ (a ++ q))
regroup p b m a q =
    ap (λ ys. p ++ ys) (append_assoc b (m ++ a) q ∙ ap (λ ys. b ++ ys) (append_assoc m a q)) ∙ sym (append_assoc p b (m ++ (a ++ q)))

-- the same below a greater whole
wrapped : (n : ℕ) {T U : Type 0} (flat : T → List FlatNode) (flat' : U → List FlatNode) (numbers : T → List ℕ) (numbers' : U → List ℕ)
    (changed : (RegionTree → Option RegionTree) → T → Option T) (changed' : (RegionTree → Option RegionTree) → U → Option U)
    (every : (RegionTree → Bool) → T → Bool) (every' : (RegionTree → Bool) → U → Bool) (Same : T → T → Type 0) (Same' : U → U → Type 0) (whole : T)
    (wrap : T → U) (pre post : List FlatNode) →
    ((t : T) → Same whole t → flat' (wrap t) ≡ pre ++ (flat t ++ post)) →
    ((t : T) → Same whole t → Same' (wrap whole) (wrap t)) →
    ((g : RegionTree → Option RegionTree) → IsChangeAt n g → (t : T) → Same whole t → (o : Option T) → changed g t ≡ o → changed' g (wrap t) ≡ option_map wrap o) →
    ((t : T) (test : RegionTree → Bool) → every' test (wrap t) ≡ true → every test t ≡ true) →
    ((t : T) (m : ℕ) → times m (numbers t) ≤ times m (numbers' (wrap t))) →
    ((m : ℕ) → 1 ≤ times m (numbers whole) → AreOutside m pre × AreOutside m post) →
    AroundIn n flat numbers changed every Same whole → AroundIn n flat' numbers' changed' every' Same' (wrap whole)
wrapped n flat flat' numbers numbers' changed changed' every every' Same Same' whole wrap pre post flat_wrap same_wrap changed_wrap part more out w = record {
  parent = w.parent;
  index = w.index;
  here = w.here;
  before = λ r. pre ++ w.before r;
  after = w.after ++ post;
  fill = λ s. wrap (w.fill s);
  has = w.has;
  is = ap wrap w.is;
  flat_is = λ s a.
      flat_wrap (w.fill s) (w.same s a) ∙ ap (λ ys. pre ++ (ys ++ post)) (w.flat_is s a)
      ∙ regroup pre (w.before (region_flat s)) (in_region (place_in w.parent w.index) s) w.after post;
  same = λ s a. same_wrap (w.fill s) (w.same s a);
  changed_to = λ s a q g at. changed_wrap g at (w.fill s) (w.same s a) (option_map w.fill (g s)) (w.changed_to s a q g at) ∙ map_twice wrap w.fill (g s);
  sets = λ f r zs.
      ap (node_with w.parent (region_set w.index f)) (append_assoc pre (w.before r) zs) ∙ node_with_past w.parent (region_set w.index f) pre (w.before r ++ zs) (out w.parent w.mine).0
      ∙ ap (λ ys. pre ++ ys) (w.sets f r zs) ∙ sym (append_assoc pre (w.before (f r)) zs);
  gets = λ r zs.
      let g = w.gets r zs in
      (g.0, ap (found w.parent) (append_assoc pre (w.before r) zs) ∙ found_past w.parent pre (w.before r ++ zs) (out w.parent w.mine).0 ∙ g.1, g.2);
  parts = λ s test e. w.parts s test (part (w.fill s) test e);
  mine = omega (arith, w.mine, more whole w.parent);
  fewer = λ s m. omega (arith, w.fewer s m, more (w.fill s) m);
  own = w.own;
  apart = λ r.
      let o = out w.parent w.mine in
      let p = place_in w.parent w.index in (
        apart_append p pre (w.before r) (outside_apart w.parent w.index pre o.0) (w.apart r).0,
        apart_append p w.after post (w.apart r).1 (outside_apart w.parent w.index post o.1),
      );
  outside = λ m e r.
      let o = out m (omega (arith, e, w.fewer w.here m, ap (λ t. times m (numbers t)) w.is)) in
      (outside_append m pre (w.before r) o.0 (w.outside m e r).0, outside_append m w.after post (w.outside m e r).1 o.1);
}

-- ---- nodes and regions that stay as they are outside the region

-- nodes whose outputs have the kinds of these
pub record SameNodes (ns ms : NodeTrees) : Type 0 where
  pub kinds : (m p : ℕ) (b : Option Kind) → kind_after ms m p b ≡ kind_after ns m p b
  pub numbers : (m : ℕ) → has_node m ms ≡ has_node m ns

pub record SameRegions (rs ss : RegionTrees) : Type 0 where
  pub flat : regions_flat ss ≡ regions_flat rs
  pub first : first_args ss ≡ first_args rs
  pub given : outputs_of Gamma ss ≡ outputs_of Gamma rs

pub outputs_same : (op : Op) (rs ss : RegionTrees) → first_args ss ≡ first_args rs → outputs_of Gamma ss ≡ outputs_of Gamma rs → outputs_of op ss ≡ outputs_of op rs
outputs_same Gamma rs ss f g = g
outputs_same Theta rs ss f g = ap (map Some) f
outputs_same _ rs ss f g = refl

abbrev NodesAround : (n : ℕ) → Place → NodeTrees → Type 0
NodesAround n q ns = AroundIn n (in_nodes q) nodes_ids nodes_changed every_in_nodes SameNodes ns

abbrev RegionsAround : (n parent first : ℕ) → RegionTrees → Type 0
RegionsAround n parent first rs = AroundIn n (in_regions parent first) regions_ids regions_changed every_in_regions SameRegions rs

pub other_node : (o : Option ℕ) (m : ℕ) (ns : List ℕ) → IsNone o ns → 1 ≤ times m ns → same_node o (Some m) ≡ false
other_node None m ns h e = refl
other_node (Some k) m ns h e = ne_eqb k m (λ q. omega (arith, h, e, ap (λ j. times j ns) q))

-- ---- the region is one of the first node

module _ (n : ℕ) (q : Place) (id : ℕ) (op : Op) (inputs : List Origin) (rs : RegionTrees) (xs : NodeTrees) (once : AreOnce ((id ∷ regions_ids rs) ++ nodes_ids xs))
    (none : IsNone q.node ((id ∷ regions_ids rs) ++ nodes_ids xs)) where
  counts : (m : ℕ) → times m ((id ∷ regions_ids rs) ++ nodes_ids xs) ≡ times m (id ∷ regions_ids rs) + times m (nodes_ids xs)
  counts m = times_append m (id ∷ regions_ids rs) (nodes_ids xs)

  -- a number in the regions is not the node's, nor that of a later one
  inner : (m : ℕ) → 1 ≤ times m (regions_ids rs) → ((id == m) ≡ false) × (times m (nodes_ids xs) ≡ 0) × (same_node q.node (Some m) ≡ false)
  inner m e =
      let c = times_cons m id (regions_ids rs) in (
        by (id == m) (omega (arith, once m, counts m, c, e)),
        omega (arith, once m, counts m, at_most_first m id (regions_ids rs), e),
        other_node q.node m ((id ∷ regions_ids rs) ++ nodes_ids xs) none (omega (arith, counts m, at_most_first m id (regions_ids rs), e)),
      )
    where
      by : (t : Bool) → (if t then 1 else 0) ≤ 0 → t ≡ false
      by true h = absurd (omega (arith, h))
      by false h = refl

  node_first : Among n id 0 rs → NodesAround n q (node_then (node id op inputs rs) xs)
  node_first w =
      let x : FlatRegion → FlatNode =
      λ r. record { id = id; op = op; inputs = inputs; outputs = kinds_of (outputs_of op rs); regions = at_with w.place (λ s. r) (regions_flat rs); home = q } in
      let own : (times id (regions_ids rs) ≡ 0) × (times id (nodes_ids xs) ≡ 0) =
      (omega (arith, once id, counts id, times_head id (regions_ids rs)), omega (arith, once id, counts id, times_head id (regions_ids rs))) in
      let here : same_node q.node (Some id) ≡ false =
      other_node q.node id ((id ∷ regions_ids rs) ++ nodes_ids xs) none (omega (arith, counts id, times_head id (regions_ids rs))) in
      let place : w.place ≡ w.index = omega (arith, w.number) in
      let below : (m : ℕ) → times m (region_ids w.here) ≤ times m (regions_ids rs) = λ m. omega (arith, w.fewer w.here m, ap (λ ss. times m (regions_ids ss)) w.is) in
      let outs : (s : RegionTree) → IsAlike w.here s → outputs_of op (w.fill s) ≡ outputs_of op rs = λ s a. outputs_same op rs (w.fill s) (w.first_same s a) (w.given_same s a) in
      record {
        parent = id;
        index = w.place;
        here = w.here;
        before = λ r. x r ∷ w.before;
        after = w.after ++ in_nodes q xs;
        fill = λ s. node_then (node id op inputs (w.fill s)) xs;
        has = w.has;
        is = ap (λ ss. node_then (node id op inputs ss) xs) w.is;
        flat_is = λ s a.
            let outputs = outs s a in
            let records = w.records s ∙ ap (λ k. at_with k (λ r. region_flat s) (regions_flat rs)) (sym place) in
            let rest = ap (λ ys. ys ++ in_nodes q xs) (w.flat_is s) ∙ regroup [] w.before (in_region (place_in id w.place) s) w.after (in_nodes q xs) in
            λ i. record { id = id; op = op; inputs = inputs; outputs = kinds_of (outputs i); regions = records i; home = q } ∷ rest i;
        same = λ s a. record {
          kinds = λ m p b. let outputs = outs s a in λ i. kind_after xs m p (if id == m then joined (slice_get (outputs i) p) else b);
          numbers = λ m. refl;
        };
        changed_to = λ s a h g at.
            (λ i. option_or (option_map (λ y. node_then y xs) (option_map (λ ss. node id op inputs ss) (w.changed_to s h g at i)))
            (option_map (λ ys. node_then (node id op inputs (w.fill s)) ys) (nodes_unchanged n g at xs (inner n (omega (arith, below n, has_times n (nodes_in w.here) w.has, held w.here n))).1 i)))
            ∙ by (g s) w.fill;
        sets = λ f r zs.
            node_with_here id (region_set w.place f) (x r) (w.before ++ zs) refl
            ∙ (λ i. record { id = id; op = op; inputs = inputs; outputs = kinds_of (outputs_of op rs); regions = at_with_twice w.place f r (regions_flat rs) i; home = q } ∷ (w.before ++ zs));
        gets = λ r zs. (x r, found_here id (x r) (w.before ++ zs) refl, at_with_get w.place r (regions_flat rs) (omega (arith, w.within, place)));
        parts = λ s test e. w.parts s test (and_parts (every_in_regions test (w.fill s)) (every_in_nodes test xs) e).0;
        mine = omega (arith, counts id, times_head id (regions_ids rs));
        fewer = λ s m. omega (arith, times_append m (id ∷ regions_ids (w.fill s)) (nodes_ids xs), at_most_first m id (regions_ids (w.fill s)), w.fewer s m);
        own = omega (arith, own.0, below id);
        apart = λ r. (
          (place_apart id w.place q here, w.apart.0),
          apart_append (place_in id w.place) w.after (in_nodes q xs) w.apart.1 (nodes_apart (place_in id w.place) q xs (place_apart id w.place q here) own.1),
        );
        outside = λ m e r.
            let i = inner m (omega (arith, e, below m)) in
            let o = w.outside m e i.0 in
            (((i.0, i.2), o.0), outside_append m w.after (in_nodes q xs) o.1 (nodes_outside m q xs i.1 i.2));
      }
    where
      held : (r : RegionTree) (m : ℕ) → times m (nodes_ids (nodes_in r)) ≡ times m (region_ids r)
      held (region args ns results) m = refl

      by : (o : Option RegionTree) (fill : RegionTree → RegionTrees) →
          option_or (option_map (λ y. node_then y xs) (option_map (λ ss. node id op inputs ss) (option_map fill o))) None ≡ option_map (λ s. node_then (node id op inputs (fill s)) xs) o
      by None fill = refl
      by (Some s) fill = refl

  -- the region stands deeper in the first node
  node_deep : RegionsAround n id 0 rs → NodesAround n q (node_then (node id op inputs rs) xs)
  node_deep w =
      let x : FlatNode = record { id = id; op = op; inputs = inputs; outputs = kinds_of (outputs_of op rs); regions = regions_flat rs; home = q } in
      wrapped n (in_regions id 0) (in_nodes q) regions_ids nodes_ids regions_changed nodes_changed every_in_regions every_in_nodes SameRegions SameNodes rs (λ ss. node_then (node id op inputs ss) xs) (x ∷ []) (in_nodes q xs)
      (λ ss s.
      let outputs = outputs_same op rs ss s.first s.given in
      λ i. record { id = id; op = op; inputs = inputs; outputs = kinds_of (outputs i); regions = s.flat i; home = q } ∷ (in_regions id 0 ss ++ in_nodes q xs))
      (λ ss s. record {
        kinds = λ m p b. let outputs = outputs_same op rs ss s.first s.given in λ i. kind_after xs m p (if id == m then joined (slice_get (outputs i) p) else b);
        numbers = λ m. refl;
      })
      (λ g at ss s o e.
      (λ i. option_or (option_map (λ y. node_then y xs) (option_map (λ qs. node id op inputs qs) (e i)))
      (option_map (λ ys. node_then (node id op inputs ss) ys) (nodes_unchanged n g at xs (inner n (times_here w)).1 i))) ∙ by o)
      (λ ss test e. (and_parts (every_in_regions test ss) (every_in_nodes test xs) e).0)
      (λ ss m. omega (arith, times_append m (id ∷ regions_ids ss) (nodes_ids xs), at_most_first m id (regions_ids ss)))
      (λ m e. let i = inner m e in (((i.0, i.2), tt), nodes_outside m q xs i.1 i.2)) w
    where
      times_here : RegionsAround n id 0 rs → 1 ≤ times n (regions_ids rs)
      times_here w = below w.here w.has (omega (arith, w.fewer w.here n, ap (λ ss. times n (regions_ids ss)) w.is))
        where
          below : (r : RegionTree) → has_node n (nodes_in r) ≡ true → times n (region_ids r) ≤ times n (regions_ids rs) → 1 ≤ times n (regions_ids rs)
          below (region args ns results) h f = omega (arith, has_times n ns h, f)

      by : (o : Option RegionTrees) → option_or (option_map (λ y. node_then y xs) (option_map (λ ss. node id op inputs ss) o)) None ≡ option_map (λ ss. node_then (node id op inputs ss) xs) o
      by None = refl
      by (Some ss) = refl

  -- or below a later one
  node_later : times n (id ∷ regions_ids rs) ≡ 0 → NodesAround n q xs → NodesAround n q (node_then (node id op inputs rs) xs)
  node_later absent w =
      wrapped n (in_nodes q) (in_nodes q) nodes_ids nodes_ids nodes_changed nodes_changed every_in_nodes every_in_nodes SameNodes SameNodes xs (λ ys. node_then (node id op inputs rs) ys) (in_node q (node id op inputs rs)) []
      (λ ys s. ap (λ zs. in_node q (node id op inputs rs) ++ zs) (sym (append-nil (in_nodes q ys))))
      (λ ys s. record { kinds = λ m p b. s.kinds m p (if id == m then joined (slice_get (outputs_of op rs) p) else b); numbers = λ m. ap (λ t. (id == m) || t) (s.numbers m) })
      (λ g at ys s o e. λ i. option_or (option_map (λ y. node_then y ys) (option_map (λ ss. node id op inputs ss) (regions_unchanged n g at rs (none_first n id (regions_ids rs) absent).1 i)))
      (option_map (λ zs. node_then (node id op inputs rs) zs) (e i)))
      (λ ys test e. (and_parts (every_in_regions test rs) (every_in_nodes test ys) e).1)
      (λ ys m. omega (arith, times_append m (id ∷ regions_ids rs) (nodes_ids ys)))
      (λ m e.
      (node_outside m q (node id op inputs rs) (omega (arith, once m, counts m, e)) (other_node q.node m ((id ∷ regions_ids rs) ++ nodes_ids xs) none (omega (arith, counts m, e))), tt)) w

-- ---- the region is below the first region, or below a later one

module _ (n parent first : ℕ) (args : List Kind) (ns : NodeTrees) (results : List Origin) (rs : RegionTrees) (once : AreOnce (nodes_ids ns ++ regions_ids rs)) (own : times parent (nodes_ids ns ++ regions_ids rs) ≡ 0) where
  abbrev r : RegionTree
  r = region args ns results

  sums : (m : ℕ) → times m (nodes_ids ns ++ regions_ids rs) ≡ times m (nodes_ids ns) + times m (regions_ids rs)
  sums m = times_append m (nodes_ids ns) (regions_ids rs)

  not_parent : (m : ℕ) → 1 ≤ times m (nodes_ids ns ++ regions_ids rs) → (parent == m) ≡ false
  not_parent m e = ne_eqb parent m (λ q. omega (arith, own, e, ap (λ j. times j (nodes_ids ns ++ regions_ids rs)) q))

  region_deep : 1 ≤ times n (nodes_ids ns) → has_node n ns ≡ false → NodesAround n (place_in parent first) ns → RegionsAround n parent first (region_then r rs)
  region_deep e h w =
      wrapped n (in_nodes (place_in parent first)) (in_regions parent first) nodes_ids regions_ids nodes_changed regions_changed every_in_nodes every_in_regions SameNodes SameRegions ns (λ ms. region_then (region args ms results) rs) []
      (in_regions parent (suc first) rs)
      (λ ms s. refl)
      (λ ms s. record { flat = refl; first = refl; given = λ i. map (kind_of args (λ m p. s.kinds m p None i)) results })
      (λ g at ms s o c.
      (λ i. option_or (option_map (λ t. region_then t rs) (option_or (at (region args ms results) (s.numbers n ∙ h) i) (option_map (λ qs. region args qs results) (c i))))
      (option_map (λ ss. region_then (region args ms results) ss) (regions_unchanged n g at rs (omega (arith, once n, sums n, e)) i))) ∙ by o)
      (λ ms test c. (and_parts (test (region args ms results)) (every_in_nodes test ms) (and_parts (test (region args ms results) && every_in_nodes test ms) (every_in_regions test rs) c).0).1)
      (λ ms m. omega (arith, times_append m (nodes_ids ms) (regions_ids rs)))
      (λ m f. (tt, regions_outside m parent (suc first) rs (omega (arith, once m, sums m, f)) (not_parent m (omega (arith, sums m, f))))) w
    where
      by : (o : Option NodeTrees) → option_or (option_map (λ t. region_then t rs) (option_map (λ ms. region args ms results) o)) None ≡ option_map (λ ms. region_then (region args ms results) rs) o
      by None = refl
      by (Some ms) = refl

  region_later : times n (nodes_ids ns) ≡ 0 → RegionsAround n parent (suc first) rs → RegionsAround n parent first (region_then r rs)
  region_later e w =
      wrapped n (in_regions parent (suc first)) (in_regions parent first) regions_ids regions_ids regions_changed regions_changed every_in_regions every_in_regions SameRegions SameRegions rs (λ ss. region_then r ss)
      (in_nodes (place_in parent first) ns) []
      (λ ss s. ap (λ zs. in_nodes (place_in parent first) ns ++ zs) (sym (append-nil (in_regions parent (suc first) ss))))
      (λ ss s. record { flat = ap (λ ys. region_flat r ∷ ys) s.flat; first = refl; given = refl })
      (λ g at ss s o c. λ i. option_or (option_map (λ t. region_then t ss) (changed_none g args ns results (at r (has_none n ns e)) (nodes_unchanged n g at ns e) i))
      (option_map (λ qs. region_then r qs) (c i)))
      (λ ss test c. (and_parts (every_region test r) (every_in_regions test ss) c).1)
      (λ ss m. omega (arith, times_append m (nodes_ids ns) (regions_ids ss)))
      (λ m f. (nodes_outside m (place_in parent first) ns (omega (arith, once m, sums m, f)) (not_parent m (omega (arith, sums m, f))), tt)) w

-- ---- each node stands in a region

-- node n itself stands among these nodes, or the region that holds it below them
abbrev NodesHold : (n : ℕ) → Place → NodeTrees → Type 0
NodesHold n q ns = (has_node n ns ≡ true) ⊎ ((has_node n ns ≡ false) × NodesAround n q ns)

abbrev RegionsHold : (n parent first : ℕ) → RegionTrees → Type 0
RegionsHold n parent first rs = Among n parent first rs ⊎ RegionsAround n parent first rs

mutual
  nodes_around : (n : ℕ) (q : Place) (ns : NodeTrees) → AreOnce (nodes_ids ns) → IsNone q.node (nodes_ids ns) → 1 ≤ times n (nodes_ids ns) → NodesHold n q ns
  nodes_around n q no_nodes once none e = absurd (omega (arith, e))
  nodes_around n q (node_then (node id op inputs rs) xs) once none e =
      by_own (id == n) refl (λ o i t. nodes_around n q xs o i t) (λ o i t. regions_around n id 0 rs o i t)
    where
      counted : times n ((id ∷ regions_ids rs) ++ nodes_ids xs) ≡ times n (id ∷ regions_ids rs) + times n (nodes_ids xs)
      counted = times_append n (id ∷ regions_ids rs) (nodes_ids xs)

      later : (m : ℕ) → times m (nodes_ids xs) ≤ 1
      later m = omega (arith, once m, times_append m (id ∷ regions_ids rs) (nodes_ids xs))

      nested : (m : ℕ) → times m (regions_ids rs) ≤ 1
      nested m = omega (arith, once m, times_append m (id ∷ regions_ids rs) (nodes_ids xs), at_most_first m id (regions_ids rs))

      by_rest : NodesHold n q xs → (id == n) ≡ false → times n (regions_ids rs) ≡ 0 → NodesHold n q (node_then (node id op inputs rs) xs)
      by_rest (inl h) t c = inl (λ i. t i || h i)
      by_rest (inr w) t c =
          inr ((λ i. t i || w.0 i), node_later n q id op inputs rs xs once none (times_cons n id (regions_ids rs) ∙ (λ i. (if t i then 1 else 0) + c i)) w.1)

      by_regions : RegionsHold n id 0 rs → (id == n) ≡ false → 1 ≤ times n (regions_ids rs) → NodesHold n q (node_then (node id op inputs rs) xs)
      by_regions (inl w) t c = inr ((λ i. t i || has_none n xs (inner n q id op inputs rs xs once none n c).1 i), node_first n q id op inputs rs xs once none w)
      by_regions (inr w) t c = inr ((λ i. t i || has_none n xs (inner n q id op inputs rs xs once none n c).1 i), node_deep n q id op inputs rs xs once none w)

      by_count : (c : ℕ) → times n (regions_ids rs) ≡ c → (id == n) ≡ false → (AreOnce (nodes_ids xs) → IsNone q.node (nodes_ids xs) → 1 ≤ times n (nodes_ids xs) → NodesHold n q xs) →
          (AreOnce (regions_ids rs) → times id (regions_ids rs) ≡ 0 → 1 ≤ times n (regions_ids rs) → RegionsHold n id 0 rs) → NodesHold n q (node_then (node id op inputs rs) xs)
      by_count zero c t f g =
          let head : times n (id ∷ regions_ids rs) ≡ 0 = times_cons n id (regions_ids rs) ∙ (λ i. (if t i then 1 else 0) + c i) in
          by_rest (f later (none_of_both q.node (id ∷ regions_ids rs) (nodes_ids xs) none).1 (omega (arith, e, counted, head))) t c
      by_count (suc k) c t f g =
          let own : times id (regions_ids rs) ≡ 0 = omega (arith, once id, times_append id (id ∷ regions_ids rs) (nodes_ids xs), times_head id (regions_ids rs)) in
          by_regions (g nested own (omega (arith, c))) t (omega (arith, c))

      by_own : (t : Bool) → (id == n) ≡ t → (AreOnce (nodes_ids xs) → IsNone q.node (nodes_ids xs) → 1 ≤ times n (nodes_ids xs) → NodesHold n q xs) →
          (AreOnce (regions_ids rs) → times id (regions_ids rs) ≡ 0 → 1 ≤ times n (regions_ids rs) → RegionsHold n id 0 rs) → NodesHold n q (node_then (node id op inputs rs) xs)
      by_own true t f g = inl (ap (λ b. b || has_node n xs) t)
      by_own false t f g = by_count (times n (regions_ids rs)) refl t f g

  regions_around : (n parent first : ℕ) (rs : RegionTrees) → AreOnce (regions_ids rs) → times parent (regions_ids rs) ≡ 0 → 1 ≤ times n (regions_ids rs) → RegionsHold n parent first rs
  regions_around n parent first no_regions once own e = absurd (omega (arith, e))
  regions_around n parent first (region_then (region args ns results) rs) once own e =
      by_count (times n (nodes_ids ns)) refl (λ o i t. nodes_around n (place_in parent first) ns o i t) (λ o i t. regions_around n parent (suc first) rs o i t)
    where
      both : (times parent (nodes_ids ns) ≡ 0) × (times parent (regions_ids rs) ≡ 0)
      both = none_both parent (nodes_ids ns) (regions_ids rs) own

      by_nodes : NodesHold n (place_in parent first) ns → 1 ≤ times n (nodes_ids ns) → RegionsHold n parent first (region_then (region args ns results) rs)
      by_nodes (inl h) c = inl (among_first n parent first args ns results rs once own h)
      by_nodes (inr w) c = inr (region_deep n parent first args ns results rs once own c w.0 w.1)

      by_rest : RegionsHold n parent (suc first) rs → times n (nodes_ids ns) ≡ 0 → RegionsHold n parent first (region_then (region args ns results) rs)
      by_rest (inl w) c = inl (among_later n parent first args ns results rs once own c w)
      by_rest (inr w) c = inr (region_later n parent first args ns results rs once own c w)

      by_count : (c : ℕ) → times n (nodes_ids ns) ≡ c → (AreOnce (nodes_ids ns) → times parent (nodes_ids ns) ≡ 0 → 1 ≤ times n (nodes_ids ns) → NodesHold n (place_in parent first) ns) →
          (AreOnce (regions_ids rs) → times parent (regions_ids rs) ≡ 0 → 1 ≤ times n (regions_ids rs) → RegionsHold n parent (suc first) rs) → RegionsHold n parent first (region_then (region args ns results) rs)
      by_count zero c f g =
          by_rest (g (λ m. omega (arith, once m, times_append m (nodes_ids ns) (regions_ids rs))) both.1 (omega (arith, e, c, times_append n (nodes_ids ns) (regions_ids rs)))) c
      by_count (suc k) c f g =
          by_nodes (f (λ m. omega (arith, once m, times_append m (nodes_ids ns) (regions_ids rs))) both.0 (omega (arith, c))) (omega (arith, c))

-- ---- in a lambda

-- a list of nodes with the rest of a lambda
abbrev pub with_nodes : PlainLambda → FlatRegion → List FlatNode → Flat
with_nodes l b xs = record { number = l.number; params = l.params; objects = l.objects; next = l.next; body = b; nodes = xs }

-- The region of a lambda that itself holds node n, at its place, and what stands around it.
pub record Around (n : ℕ) (l : PlainLambda) : Type 0 where
  pub place : Place
  pub here : RegionTree
  pub body : FlatRegion → FlatRegion
  pub before : FlatRegion → List FlatNode
  pub after : List FlatNode
  pub fill : RegionTree → RegionTree
  pub has : has_node n (nodes_in here) ≡ true
  pub is : fill here ≡ l.body
  pub flat_is : (s : RegionTree) → IsAlike here s → flat_of (record l { body = fill s }) ≡ with_nodes l (body (region_flat s)) (before (region_flat s) ++ (in_region place s ++ after))
  pub changed_to : (s : RegionTree) → IsAlike here s → IsHolder n s → (g : RegionTree → Option RegionTree) → IsChangeAt n g → region_changed g (fill s) ≡ option_map fill (g s)
  pub sets : (f : FlatRegion → FlatRegion) (r : FlatRegion) (zs : List FlatNode) → region_with place f (with_nodes l (body r) (before r ++ zs)) ≡ with_nodes l (body (f r)) (before (f r) ++ zs)
  pub gets : (r : FlatRegion) (zs : List FlatNode) → region_at place (with_nodes l (body r) (before r ++ zs)) ≡ Some r
  pub parts : (s : RegionTree) (test : RegionTree → Bool) → every_region test (fill s) ≡ true → every_region test s ≡ true
  pub fewer : (s : RegionTree) (m : ℕ) → times m (region_ids s) ≤ times m (region_ids (fill s))
  pub once : AreOnce (region_ids here)
  pub own : IsNone place.node (region_ids here)
  pub apart : (r : FlatRegion) → AreApart place (before r) × AreApart place after
  pub outside : (m : ℕ) → 1 ≤ times m (region_ids here) → (r : FlatRegion) → AreOutside m (before r) × AreOutside m after

map_same : {X : Type 0} (o : Option X) → option_map (λ x. x) o ≡ o
map_same None = refl
map_same (Some x) = refl

module _ (n : ℕ) (l : PlainLambda) (args : List Kind) (ns : NodeTrees) (results : List Origin) (is : l.body ≡ region args ns results) (once : AreOnce (nodes_ids ns)) where
  around_body : has_node n ns ≡ true → Around n l
  around_body h = record {
    place = body_place;
    here = region args ns results;
    body = λ r. r;
    before = λ r. [];
    after = [];
    fill = λ s. s;
    has = h;
    is = sym is;
    flat_is = λ s a. ap (with_nodes l (region_flat s)) (sym (append-nil (in_region body_place s)));
    changed_to = λ s a q g at. holder_changed n g at s q ∙ sym (map_same (g s));
    sets = λ f r zs. refl;
    gets = λ r zs. refl;
    parts = λ s test e. e;
    fewer = λ s m. omega arith;
    once = once;
    own = tt;
    apart = λ r. (tt, tt);
    outside = λ m e r. (tt, tt);
  }

  around_nested : has_node n ns ≡ false → NodesAround n body_place ns → Around n l
  around_nested h w = record {
    place = place_in w.parent w.index;
    here = w.here;
    body = λ r. record { args = args; results = results };
    before = w.before;
    after = w.after;
    fill = λ s. region args (w.fill s) results;
    has = w.has;
    is = ap (λ ms. region args ms results) w.is ∙ sym is;
    flat_is = λ s a. ap (with_nodes l (record { args = args; results = results })) (w.flat_is s a);
    changed_to = λ s a q g at.
        (λ i. option_or (at (region args (w.fill s) results) ((w.same s a).numbers n ∙ h) i) (option_map (λ ms. region args ms results) (w.changed_to s a q g at i)))
        ∙ map_twice (λ ms. region args ms results) w.fill (g s);
    sets = λ f r zs. ap (with_nodes l (record { args = args; results = results })) (w.sets f r zs);
    gets = λ r zs. let g = w.gets r zs in ap (option_and_then (λ (x : FlatNode). slice_get x.regions w.index)) g.1 ∙ g.2;
    parts = λ s test e. w.parts s test (and_parts (test (region args (w.fill s) results)) (every_in_nodes test (w.fill s)) e).1;
    fewer = λ s m. w.fewer s m;
    once = λ m. omega (arith, once m, w.fewer w.here m, ap (λ ms. times m (nodes_ids ms)) w.is);
    own = w.own;
    apart = w.apart;
    outside = w.outside;
  }

  around_within : 1 ≤ times n (nodes_ids ns) → Around n l
  around_within e = by (nodes_around n body_place ns once tt e)
    where
      by : (has_node n ns ≡ true) ⊎ ((has_node n ns ≡ false) × NodesAround n body_place ns) → Around n l
      by (inl h) = around_body h
      by (inr w) = around_nested w.0 w.1

-- each node of a lambda whose numbers stand once
pub around : (n : ℕ) (l : PlainLambda) → AreOnce (region_ids l.body) → 1 ≤ times n (region_ids l.body) → Around n l
around n l once e = by l.body refl
  where
    by : (r : RegionTree) → l.body ≡ r → Around n l
    by (region args ns results) is =
        around_within n l args ns results is (λ m. omega (arith, once m, ap (λ r. times m (region_ids r)) is)) (omega (arith, e, ap (λ r. times n (region_ids r)) is))

pub alike_then : (r s t : RegionTree) → IsAlike r s → IsAlike s t → IsAlike r t
alike_then r s t a b = record { args = b.args ∙ a.args; results = b.results ∙ a.results }

-- around another region in its place, with fewer numbers
abbrev pub around_other : (n : ℕ) (l : PlainLambda) (z : Around n l) (s : RegionTree) → IsAlike z.here s → has_node n (nodes_in s) ≡ true → ((m : ℕ) → times m (region_ids s) ≤ times m (region_ids z.here)) →
    Around n (record l { body = z.fill s })
around_other n l z s alike has fewer = record {
  place = z.place;
  here = s;
  body = z.body;
  before = z.before;
  after = z.after;
  fill = z.fill;
  has = has;
  is = refl;
  flat_is = λ t a. z.flat_is t (alike_then z.here s t alike a);
  changed_to = λ t a q g at. z.changed_to t (alike_then z.here s t alike a) q g at;
  sets = z.sets;
  gets = z.gets;
  parts = z.parts;
  fewer = z.fewer;
  once = λ m. omega (arith, z.once m, fewer m);
  own = by z.place.node z.own;
  apart = z.apart;
  outside = λ m e r. z.outside m (omega (arith, e, fewer m)) r;
}
  where
    by : (o : Option ℕ) → IsNone o (region_ids z.here) → IsNone o (region_ids s)
    by None h = tt
    by (Some m) h = omega (arith, h, fewer m)
