-- What stands around the body of a lambda, and around a region of a node; and a change at a node that is not there.
use Rattle.std.specs.Option.{option_or}
use Rattle.std.proofs.Common.{◌≡◌, ℕ, ◌+◌, ◌==◌, ◌&&◌, ◌||◌, Bool, true, false, List, [], ◌∷◌, ◌++◌, map, length, Option, None, Some, option_map, refl, sym, ap, ap₂, subst, ◌∙◌, inl, inr, arith}
use Rattle.std.proofs.lemmas.Bool.{and_parts}
use Rattle.std.proofs.lemmas.List.{append_assoc, append-nil, length-map}
use Rattle.g_graph.specs.declared.op.Kind.{Kind}
use Rattle.g_graph.specs.declared.op.Op.{Op}
use Rattle.g_graph.specs.declared.op.Op.TheVariants.{Gamma, Theta}
use Rattle.g_graph.specs.declared.op.Origin.{Origin}
use Rattle.g_graph.specs.Change.{region_changed, node_changed, nodes_changed, regions_changed, has_node}
use Rattle.g_graph.specs.Count.{region_values, regions_values}
use Rattle.g_graph.specs.Ids.{region_ids, node_ids, nodes_ids, regions_ids}
use Rattle.g_graph.specs.Plain.{RegionTree, region, NodeTree, node, NodeTrees, no_nodes, node_then, RegionTrees, no_regions, region_then, id_of, nodes_in, PlainLambda}
use Rattle.g_graph.specs.Signatures.{outputs_of}
use Rattle.g_graph.specs.Splice.{joined_nodes}
use Rattle.g_graph.specs.WellFormed.{all_of, every_region, every_in_nodes, every_in_regions, region_fits, body_fits, numbers_fit, leaves_fit, IsWellFormed}
use Rattle.g_graph.proofs.lemmas.Indexes.{has_node-joined}
use Rattle.g_graph.proofs.lemmas.Nests.{numbers_numbered}
use Rattle.g_graph.proofs.lemmas.Numbers.{Numbered, numbered_left, numbered_right}
use Rattle.g_graph.proofs.lemmas.Splices.{nodes_ids-joined, nodes_values-joined, every_in_nodes-joined}
use Rattle.g_graph.proofs.lemmas.Unique.{same_number}
use Rattle.g_mean.specs.Copies.{IsAmong}
use Rattle.g_mean.specs.Edits.{IsPartOf}
use Rattle.g_mean.proofs.lemmas.Closed.{region-closed}
use Rattle.g_mean.proofs.lemmas.Copies.{among-left, among-right}
use Rattle.g_mean.proofs.lemmas.Holds.{id-among}
use Rattle.r_walk.specs.Context.{joined_regions, ChangesOnlyAt, HasShapeOf, IsContext}

-- ---- regions one after the other

pub regions_ids-joined : (rs ss : RegionTrees) → regions_ids (joined_regions rs ss) ≡ regions_ids rs ++ regions_ids ss
regions_ids-joined no_regions ss = refl
regions_ids-joined (region_then r rs) ss = ap (λ ids. region_ids r ++ ids) (regions_ids-joined rs ss) ∙ sym (append_assoc (region_ids r) (regions_ids rs) (regions_ids ss))

pub regions_values-joined : (rs ss : RegionTrees) → regions_values (joined_regions rs ss) ≡ regions_values rs + regions_values ss
regions_values-joined no_regions ss = omega arith
regions_values-joined (region_then r rs) ss = omega (arith, regions_values-joined rs ss)

every-inner : (test : RegionTree → Bool) (done : RegionTrees) (r : RegionTree) (rest : RegionTrees) → every_in_regions test (joined_regions done (region_then r rest)) ≡ true → every_region test r ≡ true
every-inner test no_regions r rest t = (and_parts (every_region test r) (every_in_regions test rest) t).0
every-inner test (region_then s done) r rest t =
    every-inner test done r rest (and_parts (every_region test s) (every_in_regions test (joined_regions done (region_then r rest))) t).1

-- ---- numbers of nodes

has_among : (n : ℕ) (ns : NodeTrees) → has_node n ns ≡ true → IsAmong n (nodes_ids ns)
has_among n no_nodes e = absurd cc
has_among n (node_then x xs) e = by (id_of x == n) refl e (has_among n xs)
  where
    by : (t : Bool) → (id_of x == n) ≡ t → (t || has_node n xs) ≡ true → (has_node n xs ≡ true → IsAmong n (nodes_ids xs)) → IsAmong n (node_ids x ++ nodes_ids xs)
    by true q d h = among-left n (node_ids x) (nodes_ids xs) (subst (λ z. IsAmong z (node_ids x)) (same_number (id_of x) n q) (id-among x))
    by false q d h = among-right n (node_ids x) (nodes_ids xs) (h d)

-- a number that is not there names no node
pub has_none : (n : ℕ) (ns : NodeTrees) → (IsAmong n (nodes_ids ns) → ⊥) → has_node n ns ≡ false
has_none n ns h = by (has_node n ns) refl
  where
    by : (t : Bool) → has_node n ns ≡ t → t ≡ false
    by true q = absurd (h (has_among n ns q))
    by false q = refl

-- ---- a change at a node

pub or_none : {X : Type 0} (o : Option X) → option_or o None ≡ o
or_none None = refl
or_none (Some x) = refl

pub map_twice : {X Y Z : Type 0} (f : X → Y) (g : Y → Z) (o : Option X) → option_map g (option_map f o) ≡ option_map (λ x. g (f x)) o
map_twice f g None = refl
map_twice f g (Some x) = refl

-- A change that no region admits in which node n does not stand, at any depth.
abbrev pub ChangesOnlyAround : (n : ℕ) → (RegionTree → Option RegionTree) → Type 0
ChangesOnlyAround n f = (r : RegionTree) → (IsAmong n (region_ids r) → ⊥) → f r ≡ None

pub only_around : (n : ℕ) (f : RegionTree → Option RegionTree) → ChangesOnlyAt n f → ChangesOnlyAround n f
only_around n f only (region args nodes results) h = only (region args nodes results) (has_none n nodes h)

module _ (n : ℕ) (f : RegionTree → Option RegionTree) (only : ChangesOnlyAround n f) where
  mutual
    pub unchanged_without : (r : RegionTree) → (IsAmong n (region_ids r) → ⊥) → region_changed f r ≡ None
    unchanged_without (region args nodes results) h =
        ap₂ (λ a b. option_or a (option_map (λ ns. region args ns results) b)) (only (region args nodes results) h) (nodes_unchanged_without nodes h)

    pub nodes_unchanged_without : (ns : NodeTrees) → (IsAmong n (nodes_ids ns) → ⊥) → nodes_changed f ns ≡ None
    nodes_unchanged_without no_nodes h = refl
    nodes_unchanged_without (node_then (node id op inputs rs) ns) h =
        ap₂ (λ a b. option_or (option_map (λ y. node_then y ns) (option_map (λ ss. node id op inputs ss) a)) (option_map (λ ys. node_then (node id op inputs rs) ys) b))
        (regions_unchanged_without rs (λ k. h (inr (among-left n (regions_ids rs) (nodes_ids ns) k))))
        (nodes_unchanged_without ns (λ k. h (among-right n (id ∷ regions_ids rs) (nodes_ids ns) k)))

    pub regions_unchanged_without : (rs : RegionTrees) → (IsAmong n (regions_ids rs) → ⊥) → regions_changed f rs ≡ None
    regions_unchanged_without no_regions h = refl
    regions_unchanged_without (region_then r rs) h =
        ap₂ (λ a b. option_or (option_map (λ s. region_then s rs) a) (option_map (λ ss. region_then r ss) b))
        (unchanged_without r (λ k. h (among-left n (region_ids r) (regions_ids rs) k))) (regions_unchanged_without rs (λ k. h (among-right n (region_ids r) (regions_ids rs) k)))

  -- of nodes, and of regions, one alone may change
  pub nodes_changed_within : (before : NodeTrees) (x : NodeTree) (after : NodeTrees) → (IsAmong n (nodes_ids before) → ⊥) → (IsAmong n (nodes_ids after) → ⊥) →
      nodes_changed f (joined_nodes before (node_then x after)) ≡ option_map (λ y. joined_nodes before (node_then y after)) (node_changed f x)
  nodes_changed_within no_nodes x after h k =
      ap (λ o. option_or (option_map (λ y. node_then y after) (node_changed f x)) (option_map (λ ys. node_then x ys) o)) (nodes_unchanged_without after k)
      ∙ or_none (option_map (λ y. node_then y after) (node_changed f x))
  nodes_changed_within (node_then (node id op inputs rs) before) x after h k =
      let whole = joined_nodes before (node_then x after) in
      ap₂ (λ a b. option_or (option_map (λ y. node_then y whole) (option_map (λ ss. node id op inputs ss) a)) (option_map (λ ys. node_then (node id op inputs rs) ys) b))
      (regions_unchanged_without rs (λ j. h (inr (among-left n (regions_ids rs) (nodes_ids before) j))))
      (nodes_changed_within before x after (λ j. h (among-right n (id ∷ regions_ids rs) (nodes_ids before) j)) k)
      ∙ map_twice (λ y. joined_nodes before (node_then y after)) (λ ys. node_then (node id op inputs rs) ys) (node_changed f x)

  pub regions_changed_within : (done : RegionTrees) (r : RegionTree) (rest : RegionTrees) → (IsAmong n (regions_ids done) → ⊥) → (IsAmong n (regions_ids rest) → ⊥) →
      regions_changed f (joined_regions done (region_then r rest)) ≡ option_map (λ s. joined_regions done (region_then s rest)) (region_changed f r)
  regions_changed_within no_regions r rest h k =
      ap (λ o. option_or (option_map (λ s. region_then s rest) (region_changed f r)) (option_map (λ ss. region_then r ss) o)) (regions_unchanged_without rest k)
      ∙ or_none (option_map (λ s. region_then s rest) (region_changed f r))
  regions_changed_within (region_then d done) r rest h k =
      let whole = joined_regions done (region_then r rest) in
      ap₂ (λ a b. option_or (option_map (λ s. region_then s whole) a) (option_map (λ ss. region_then d ss) b))
      (unchanged_without d (λ j. h (among-left n (region_ids d) (regions_ids done) j)))
      (regions_changed_within done r rest (λ j. h (among-right n (region_ids d) (regions_ids done) j)) k)
      ∙ map_twice (λ s. joined_regions done (region_then s rest)) (λ ss. region_then d ss) (region_changed f r)

-- ---- the body of a lambda

pub body_context : IsContext (λ r. r)
body_context = record {
  first = [];
  last = [];
  numbers = λ r. sym (append-nil (region_ids r));
  changes = λ n f r only h k. itself (region_changed f r);
  part = λ l r h. h;
  values = λ r s shape. omega arith;
}
  where
    itself : (o : Option RegionTree) → o ≡ option_map (λ r. r) o
    itself None = refl
    itself (Some r) = refl

pub whole_part : (l : PlainLambda) → IsWellFormed l → IsPartOf l l.body
whole_part l t =
    let p = and_parts (body_fits l && numbers_fit l && every_region (region_fits (length l.objects)) l.body) (all_of (λ o. leaves_fit o.size 0 o.leaves) l.objects) t in
    let q = and_parts (body_fits l && numbers_fit l) (every_region (region_fits (length l.objects)) l.body) p.0 in
    let numbers = numbers_numbered l (and_parts (body_fits l) (numbers_fit l) q.0).1 in
    record { fits = q.1; closed = region-closed (length l.objects) l.body q.1; unique = numbers.unique; below = numbers.below }

-- ---- a region of a node

outputs-same : (op : Op) (done : RegionTrees) (r s : RegionTree) (rest : RegionTrees) → HasShapeOf r s →
    length (outputs_of op (joined_regions done (region_then r rest))) ≡ length (outputs_of op (joined_regions done (region_then s rest)))
outputs-same Gamma no_regions (region args nodes results) (region args' nodes' results') rest shape =
    length-map results _ ∙ shape.results ∙ sym (length-map results' _)
outputs-same Gamma (region_then d done) r s rest shape = refl
outputs-same Theta no_regions r s rest shape = ap (λ ks. length (map Some ks)) shape.args
outputs-same Theta (region_then d done) r s rest shape = refl
outputs-same op done r s rest shape = refl

-- Around a region of a node stands what is around the region that holds the node, and in it the nodes before and after,
-- and the regions before and after.
module _ (context : RegionTree → RegionTree) (around : IsContext context) (args : List Kind) (before : NodeTrees) (id : ℕ) (op : Op) (inputs : List Origin)
    (done rest : RegionTrees) (after : NodeTrees) (results : List Origin) where
  abbrev holding : RegionTree → NodeTree
  holding r = node id op inputs (joined_regions done (region_then r rest))

  abbrev with_region : RegionTree → RegionTree
  with_region r = region args (joined_nodes before (node_then (holding r) after)) results

  own-ids : (r : RegionTree) → region_ids (with_region r) ≡ (nodes_ids before ++ (id ∷ regions_ids done)) ++ (region_ids r ++ (regions_ids rest ++ nodes_ids after))
  own-ids r =
      nodes_ids-joined before (node_then (holding r) after)
      ∙ ap (λ ids. nodes_ids before ++ (id ∷ (ids ++ nodes_ids after))) (regions_ids-joined done (region_then r rest))
      ∙ simp append_assoc

  all-ids : (r : RegionTree) →
      region_ids (context (with_region r)) ≡ ((around.first ++ (nodes_ids before ++ (id ∷ regions_ids done))) ++ region_ids r) ++ (regions_ids rest ++ (nodes_ids after ++ around.last))
  all-ids r = around.numbers (with_region r) ∙ ap (λ ids. (around.first ++ ids) ++ around.last) (own-ids r) ∙ simp append_assoc

  changes-inside : (n : ℕ) (f : RegionTree → Option RegionTree) (r : RegionTree) → ChangesOnlyAt n f → (IsAmong n (around.first ++ (nodes_ids before ++ (id ∷ regions_ids done))) → ⊥) →
      (IsAmong n (regions_ids rest ++ (nodes_ids after ++ around.last)) → ⊥) → region_changed f (context (with_region r)) ≡ option_map (λ s. context (with_region s)) (region_changed f r)
  changes-inside n f r only h k =
      around.changes n f (with_region r) only (λ j. h (among-left n around.first (nodes_ids before ++ (id ∷ regions_ids done)) j))
      (λ j. k (among-right n (regions_ids rest) (nodes_ids after ++ around.last) (among-right n (nodes_ids after) around.last j)))
      ∙ ap (option_map context) here ∙ map_twice with_region context (region_changed f r)
    where
      in_own : (IsAmong n (nodes_ids before ++ (id ∷ regions_ids done)) → ⊥)
      in_own j = h (among-right n around.first (nodes_ids before ++ (id ∷ regions_ids done)) j)

      not_before : IsAmong n (nodes_ids before) → ⊥
      not_before j = in_own (among-left n (nodes_ids before) (id ∷ regions_ids done) j)

      not_it : (id == n) ≡ false
      not_it = by (id == n) refl
        where
          by : (t : Bool) → (id == n) ≡ t → t ≡ false
          by true q = absurd (in_own (among-right n (nodes_ids before) (id ∷ regions_ids done) (inl (sym (same_number id n q)))))
          by false q = refl

      not_after : IsAmong n (nodes_ids after) → ⊥
      not_after j = k (among-right n (regions_ids rest) (nodes_ids after ++ around.last) (among-left n (nodes_ids after) around.last j))

      absent : has_node n (nodes_in (with_region r)) ≡ false
      absent = has_node-joined n before (node_then (holding r) after) ∙ (λ i. has_none n before not_before i || (not_it i || has_none n after not_after i))

      inner : regions_changed f (joined_regions done (region_then r rest)) ≡ option_map (λ s. joined_regions done (region_then s rest)) (region_changed f r)
      inner =
          regions_changed_within n f (only_around n f only) done r rest (λ j. in_own (among-right n (nodes_ids before) (id ∷ regions_ids done) (inr j)))
          (λ j. k (among-left n (regions_ids rest) (nodes_ids after ++ around.last) j))

      here : region_changed f (with_region r) ≡ option_map with_region (region_changed f r)
      here =
          ap₂ (λ a b. option_or a (option_map (λ ns. region args ns results) b)) (only (with_region r) absent)
          (nodes_changed_within n f (only_around n f only) before (holding r) after not_before not_after
          ∙ ap (λ o. option_map (λ y. joined_nodes before (node_then y after)) (option_map (λ ss. node id op inputs ss) o)) inner)
          ∙ ap (option_map (λ ns. region args ns results))
          (ap (option_map (λ y. joined_nodes before (node_then y after))) (map_twice (λ s. joined_regions done (region_then s rest)) (λ ss. node id op inputs ss) (region_changed f r))
          ∙ map_twice holding (λ y. joined_nodes before (node_then y after)) (region_changed f r))
          ∙ map_twice (λ s. joined_nodes before (node_then (holding s) after)) (λ ns. region args ns results) (region_changed f r)

  part-inside : (l : PlainLambda) (r : RegionTree) → IsPartOf l (with_region r) → IsPartOf l r
  part-inside l r part =
      let test : RegionTree → Bool = region_fits (length l.objects) in
      let nest = (and_parts (test (with_region r)) (every_in_nodes test (joined_nodes before (node_then (holding r) after))) part.fits).1 in
      let nodes = (and_parts (every_in_nodes test before) (every_in_nodes test (node_then (holding r) after)) (sym (every_in_nodes-joined test before (node_then (holding r) after)) ∙ nest)).1 in
      let inner = (and_parts (every_in_regions test (joined_regions done (region_then r rest))) (every_in_nodes test after) nodes).0 in
      let fits : every_region test r ≡ true = every-inner test done r rest inner in
      let known : Numbered l.next (region_ids (with_region r)) = record { unique = part.unique; below = part.below } in
      let all = subst (Numbered l.next) (own-ids r) known in
      let numbers = numbered_left l.next (region_ids r) (regions_ids rest ++ nodes_ids after)
      (numbered_right l.next (nodes_ids before ++ (id ∷ regions_ids done)) (region_ids r ++ (regions_ids rest ++ nodes_ids after)) all) in
      record { fits = fits; closed = region-closed (length l.objects) r fits; unique = numbers.unique; below = numbers.below }

  own-values : (r s : RegionTree) → HasShapeOf r s → region_values (with_region r) + region_values s ≡ region_values (with_region s) + region_values r
  own-values r s shape =
      omega (
        arith,
        nodes_values-joined before (node_then (holding r) after),
        nodes_values-joined before (node_then (holding s) after),
        regions_values-joined done (region_then r rest),
        regions_values-joined done (region_then s rest),
        outputs-same op done r s rest shape,
      )

  pub inner_context : IsContext (λ r. context (region args (joined_nodes before (node_then (node id op inputs (joined_regions done (region_then r rest))) after)) results))
  inner_context = record {
    first = around.first ++ (nodes_ids before ++ (id ∷ regions_ids done));
    last = regions_ids rest ++ (nodes_ids after ++ around.last);
    numbers = all-ids;
    changes = changes-inside;
    part = λ l r h. part-inside l r (around.part l (with_region r) h);
    values = λ r s shape. omega (arith, around.values (with_region r) (with_region s) (record { args = refl; results = refl }), own-values r s shape);
  }
