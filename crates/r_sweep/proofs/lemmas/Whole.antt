-- A node of the list of a well-formed lambda: the region where it stands, and what reads its outputs.
use Rattle.std.proofs.Common.{◌≡◌, ◌+◌, ℕ, ◌==◌, ◌&&◌, not, nat_lt, Bool, true, false, Option, None, Some, option_map, List, [], ◌∷◌, ◌++◌, refl, sym, ap, subst, ◌∙◌, arith, append-nil}
use Rattle.std.specs.Prelude.{if◌then◌else◌}
use Rattle.std.proofs.lemmas.Bool.{or_parts}
use Rattle.std.proofs.lemmas.Bool.Decides.{nat_tests}
use Rattle.std.proofs.lemmas.Option.{same_Some}
use Rattle.r_rule.specs.declared.steps.Step.{Step}
use Rattle.g_graph.specs.declared.op.Origin.{Origin}
use Rattle.g_graph.specs.declared.op.Origin.TheVariants.{Arg, Out}
use Rattle.g_graph.specs.Plain.{node, NodeTrees, no_nodes, node_then, PlainLambda}
use Rattle.g_graph.specs.Ids.{nodes_ids, regions_ids}
use Rattle.g_graph.specs.Scope.{same_origin}
use Rattle.g_graph.specs.WellFormed.{some_of, distinct, IsWellFormed}
use Rattle.g_graph.proofs.lemmas.Unique.{equal_back}
use Rattle.g_graph.proofs.lemmas.Indexes.{same_number_true}
use Rattle.g_arena_def.specs.declared.place.Place.{Place}
use Rattle.g_arena_def.specs.Flat.{FlatRegion, FlatNode, Flat, StandsFor, in_nodes, in_regions, flat_of, same_node, same_place}
use Rattle.g_arena_def.specs.Reads.{found, region_at, times, input_uses}
use Rattle.r_edit.specs.Uses.{nodes_read}
use Rattle.r_sweep_def.specs.Swept.{Change, swept_by}
use Rattle.r_sweep_def.specs.Listed.{Listed, swept_in}
use Rattle.r_sweep.proofs.lemmas.Outside.{AreOutside, IsNone, none_of_both, none_of_rest, regions_apart, nodes_outside}
use Rattle.r_sweep.proofs.lemmas.Inputs.{same_place_self}
use Rattle.r_sweep.proofs.lemmas.Blocks.{Within, start_laid, place, place_other, none_parts, here_once, not_before}
use Rattle.r_sweep.proofs.lemmas.FromLast.{is_beyond}
use Rattle.r_sweep.proofs.lemmas.Kept.{Fitting, fitting, numbers_of, unread_before, unread_own}
use Rattle.r_sweep.proofs.lemmas.Reading.{start_node, node_is_found, input_both, input_none}
use Rattle.r_sweep.proofs.lemmas.Standing.{within}
use Rattle.r_sweep.specs.Walk.{until}
use Rattle.r_sweep.specs.Fast.{IsWhole, HasSwept}
use Rattle.r_sweep.proofs.lemmas.Sizes.{numbers_are}
use Rattle.r_sweep.proofs.lemmas.Walks.{Once, once_of}

-- ---- numbers

pub once_whole : (a : Flat) → IsWhole a → Once (λ (x : FlatNode). x.id) a.nodes
once_whole a h =
    subst (λ (b : Flat). Once (λ (x : FlatNode). x.id) b.nodes) (sym h.stands)
    (once_of (λ (x : FlatNode). x.id) (flat_of h.lambda).nodes (ap distinct (numbers_are h.lambda) ∙ (numbers_of h.lambda h.well).unique))

-- ---- uses

-- what names no output of a node is no output of it
not_named : (n k : ℕ) (o : Origin) → is_beyond n 0 o ≡ false → same_origin (Out n k) o ≡ false
not_named n k (Arg j) h = refl
not_named n k (Out m j) h = ap (λ t. t && (k == j)) (equal_back n m ∙ by (m == n) (nat_lt j 0) (grind (arith, nat_tests)) h)
  where
    by : (t u : Bool) → u ≡ false → (t && not u) ≡ false → t ≡ false
    by false u e q = refl
    by true true e q = absurd cc
    by true false e q = absurd cc

list_unread : (n k : ℕ) (os : List Origin) → some_of (is_beyond n 0) os ≡ false → times (Out n k) os ≡ 0
list_unread n k [] e = refl
list_unread n k (o ∷ os) e =
    let both = or_parts (is_beyond n 0 o) (some_of (is_beyond n 0) os) e in
    ap (λ t. (if t then 1 else 0) + times (Out n k) os) (not_named n k o both.0) ∙ omega (arith, list_unread n k os both.1)

nodes_unread : (n k : ℕ) (p : Place) (ns : NodeTrees) → IsNone p.node (nodes_ids ns) → nodes_read (is_beyond n 0) ns ≡ false → input_uses p (Out n k) (in_nodes p ns) ≡ 0
nodes_unread n k p no_nodes none e = refl
nodes_unread n k p (node_then (node id op inputs rs) xs) none e =
    let both = or_parts (some_of (is_beyond n 0) inputs) (nodes_read (is_beyond n 0) xs) e in
    let parts = none_of_both p.node (id ∷ regions_ids rs) (nodes_ids xs) none in
    let own = none_of_rest p.node id (regions_ids rs) parts.0 in
    let first : (if same_place p p then times (Out n k) inputs else 0) ≡ times (Out n k) inputs = ap (λ t. if t then times (Out n k) inputs else 0) (same_place_self p) in
    omega (
      arith,
      input_both p (Out n k) (in_regions id 0 rs) (in_nodes p xs),
      input_none p (Out n k) (in_regions id 0 rs) (regions_apart p id 0 rs own.0 own.1),
      nodes_unread n k p xs parts.1 both.1,
      first,
      list_unread n k inputs both.0,
    )

-- ---- the node

-- what stands before a node in the list
until_past : (n : ℕ) (xs ys : List FlatNode) → AreOutside n xs → until (λ (x : FlatNode). x.id) n (xs ++ ys) ≡ xs ++ until (λ (x : FlatNode). x.id) n ys
until_past n [] ys h = refl
until_past n (x ∷ xs) ys h = ap (λ t. if t then [] else x ∷ until (λ (y : FlatNode). y.id) n (xs ++ ys)) h.0.0 ∙ ap (λ zs. x ∷ zs) (until_past n xs ys h.1)

pub record Stands (n : ℕ) (x : FlatNode) (a : Flat) : Type 0 where
  pub number : x.id ≡ n
  pub region : FlatRegion
  pub there : region_at x.home a ≡ Some region
  pub apart : same_node x.home.node (Some n) ≡ false
  pub unread : (k : ℕ) → input_uses x.home (Out n k) (until (λ (y : FlatNode). y.id) n a.nodes ++ x ∷ []) ≡ 0

module _ (n : ℕ) (l : PlainLambda) (w : Within n l) (well : IsWellFormed l) where
  abbrev fit : Fitting n l w
  fit = fitting n l w well

  abbrev p : Place
  p = place n l w

  abbrev r : FlatRegion
  r = record { args = w.args; results = w.results }

  abbrev front : List FlatNode
  front = in_nodes p w.before

  abbrev own : FlatNode
  own = start_node n l w

  abbrev rest : List FlatNode
  rest = in_regions n 0 w.regions ++ (in_nodes p w.after ++ w.around.after)

  until_is : until (λ (y : FlatNode). y.id) n (flat_of l).nodes ≡ w.around.before r ++ front
  until_is =
      let here : until (λ (y : FlatNode). y.id) n (own ∷ rest) ≡ [] = ap (λ t. if t then [] else own ∷ until (λ (y : FlatNode). y.id) n rest) (same_number_true n) in
      ap (λ (a : Flat). until (λ (y : FlatNode). y.id) n a.nodes) (start_laid n l w)
      ∙ until_past n (w.around.before r) (front ++ (own ∷ rest)) (w.around.outside n (here_once n l w) r).0
      ∙ ap (λ ys. w.around.before r ++ ys) (until_past n front (own ∷ rest) (nodes_outside n p w.before (not_before n l w) (place_other n l w)) ∙ ap (λ ys. front ++ ys) here ∙ append-nil front)

  own_unread : (k : ℕ) → (if same_place p p then times (Out n k) w.inputs else 0) ≡ 0
  own_unread k = ap (λ t. if t then times (Out n k) w.inputs else 0) (same_place_self p) ∙ list_unread n k w.inputs (unread_own n l w fit)

  standing : Stands n own (flat_of l)
  standing = record {
    number = refl;
    region = r;
    there = ap (region_at p) (start_laid n l w) ∙ w.around.gets r (front ++ (own ∷ rest));
    apart = place_other n l w;
    unread = λ k. ap (λ ys. input_uses p (Out n k) (ys ++ own ∷ [])) until_is
        ∙ omega (
          arith,
          input_both p (Out n k) (w.around.before r ++ front) (own ∷ []),
          input_both p (Out n k) (w.around.before r) front,
          input_none p (Out n k) (w.around.before r) (w.around.apart r).0,
          nodes_unread n k p w.before (none_parts n l w).0 (unread_before n l w fit),
          own_unread k,
        );
  }

pub stands : (n : ℕ) (x : FlatNode) (a : Flat) → IsWhole a → found n a.nodes ≡ Some x → Stands n x a
stands n x a h e =
    let l = h.lambda in
    let here : found n (flat_of l).nodes ≡ Some x = ap (λ (b : Flat). found n b.nodes) (sym h.stands) ∙ e in
    let w = within n l x h.well here in
    let same : start_node n l w ≡ x = same_Some (start_node n l w) x (sym (node_is_found n l w) ∙ here) in
    subst (λ b. Stands n x b) (sym h.stands) (subst (λ y. Stands n y (flat_of l)) same (standing n l w h.well))

-- ---- steps

module _ (c : Change) (step : ℕ → Flat → Option Flat) where
  pub whole_after : ((l : PlainLambda) (n : ℕ) → IsWellFormed l → step n (flat_of l) ≡ option_map flat_of (if c.applies l n then Some (c.changed n l) else None)) →
      ((n : ℕ) (l : PlainLambda) → IsWellFormed l → IsWellFormed (c.changed n l)) → (n : ℕ) (a b : Flat) → IsWhole a → step n a ≡ Some b → IsWhole b
  whole_after same keeps n a b h e =
      by (c.applies h.lambda n) (sym e ∙ ap (step n) h.stands ∙ same h.lambda n h.well)
    where
      by : (t : Bool) → Some b ≡ option_map flat_of (if t then Some (c.changed n h.lambda) else None) → IsWhole b
      by true d = record { lambda = c.changed n h.lambda; stands = same_Some b (flat_of (c.changed n h.lambda)) d; well = keeps n h.lambda h.well }
      by false d = absurd cc

  -- what a sweep over the list makes is what one over the lambda makes
  pub has_swept : ((l : PlainLambda) (ns : List ℕ) (steps : List Step) → IsWellFormed l →
      swept_in c step ns (record { nodes = flat_of l; steps = steps })
      ≡ record { nodes = flat_of (swept_by c ns (record { lambda = l; steps = steps })).lambda; steps = (swept_by c ns (record { lambda = l; steps = steps })).steps }) →
      (ns : List ℕ) (a b : Flat) (steps log : List Step) (l : PlainLambda) → StandsFor a l → IsWellFormed l →
      record { nodes = b; steps = log } ≡ swept_in c step ns (record { nodes = a; steps = steps }) → HasSwept c ns l steps b log
  has_swept sweeps ns a b steps log l stands well e =
      let now = e ∙ ap (λ z. swept_in c step ns (record { nodes = z; steps = steps })) stands ∙ sweeps l ns steps well in
      (ap (λ (s : Listed). s.nodes) now, ap (λ (s : Listed). s.steps) now)
