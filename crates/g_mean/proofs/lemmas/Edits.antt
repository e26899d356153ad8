-- Changes of regions of one lambda.
use Rattle.std.specs.Option.{option_or}
use Rattle.std.proofs.Common.{◌≡◌, ℕ, zero, suc, nat_lt, ◌==◌, Bool, true, false, not, ◌&&◌, ◌||◌, List, [], ◌∷◌, ◌++◌, length, slice_get, Option, None, Some, option_map, unwrap_or, refl, sym, subst, ◌∙◌, inl, inr}
use Rattle.std.proofs.lemmas.Bool.{and_parts, and_from}
use Rattle.g_graph.specs.Plain.{RegionTree, region, node, NodeTrees, no_nodes, node_then, RegionTrees, no_regions, region_then, PlainLambda}
use Rattle.g_graph.specs.Ids.{region_ids, nodes_ids, regions_ids}
use Rattle.g_graph.specs.WellFormed.{all_of, some_of, distinct, body_fits, numbers_fit, leaves_fit, well_formed, every_region, every_in_nodes, every_in_regions, region_fits}
use Rattle.g_mean.specs.Refining.{SameBut, NodesSameBut, RegionsSameBut, LambdaSameBut, LambdasSameBut}
use Rattle.g_mean.specs.Replacement.{Replaces}
use Rattle.g_graph.specs.declared.op.Kind.{Kind}
use Rattle.g_graph.specs.declared.op.Op.{Op}
use Rattle.g_graph.specs.declared.op.Origin.{Origin}
use Rattle.g_graph.specs.Change.{region_changed, nodes_changed, regions_changed, lambda_changed}
use Rattle.g_mean.specs.Edits.{AreEditedAt, IsPartOf, EditsReplace}
use Rattle.g_mean.proofs.lemmas.Calls.{same-itself, nodes-itself, regions-itself}
use Rattle.g_mean.proofs.lemmas.Closed.{region-closed}

-- ---- tests of lists

all-split : {X : Type 0} (test : X → Bool) (xs ys : List X) → all_of test (xs ++ ys) ≡ true → (all_of test xs ≡ true) × (all_of test ys ≡ true)
all-split test [] ys t = (refl, t)
all-split test (x ∷ xs) ys t =
    let p = and_parts (test x) (all_of test (xs ++ ys)) t in
    let q = all-split test xs ys p.1 in
    (and_from (test x) (all_of test xs) p.0 q.0, q.1)

none-by : (first rest all : Bool) → (not all ≡ true → not rest ≡ true) → not (first || all) ≡ true → not (first || rest) ≡ true
none-by true rest all h e = e
none-by false rest all h e = h e

none-left : {X : Type 0} (test : X → Bool) (xs ys : List X) → not (some_of test (xs ++ ys)) ≡ true → not (some_of test xs) ≡ true
none-left test [] ys t = refl
none-left test (x ∷ xs) ys t = none-by (test x) (some_of test xs) (some_of test (xs ++ ys)) (none-left test xs ys) t

pub distinct-split : (xs ys : List ℕ) → distinct (xs ++ ys) ≡ true → (distinct xs ≡ true) × (distinct ys ≡ true)
distinct-split [] ys t = (refl, t)
distinct-split (x ∷ xs) ys t =
    let p = and_parts (not (some_of (λ m. x == m) (xs ++ ys))) (distinct (xs ++ ys)) t in
    let q = distinct-split xs ys p.1 in
    (and_from (not (some_of (λ m. x == m) xs)) (distinct xs) (none-left (λ m. x == m) xs ys p.0) q.0, q.1)

-- ---- the parts of a well-formed lambda

body-part : (l : PlainLambda) → well_formed l ≡ true → IsPartOf l l.body
body-part l t =
    let p = and_parts (body_fits l && numbers_fit l && every_region (region_fits (length l.objects)) l.body) (all_of (λ o. leaves_fit o.size 0 o.leaves) l.objects) t in
    let q = and_parts (body_fits l && numbers_fit l) (every_region (region_fits (length l.objects)) l.body) p.0 in
    let r = and_parts (body_fits l) (numbers_fit l) q.0 in
    let s = and_parts (distinct (region_ids l.body)) (all_of (λ n. nat_lt n l.next) (region_ids l.body)) r.1 in
    record { fits = q.1; closed = region-closed (length l.objects) l.body q.1; unique = s.0; below = s.1 }

-- ---- what follows where a change was made

module _ (P : RegionTree → RegionTree → Type 0) where
  inside : (args : List Kind) (results : List Origin) (ns : NodeTrees) (found : Option NodeTrees) → ((ms : NodeTrees) → found ≡ Some ms → NodesSameBut P ns ms) → (s : RegionTree) →
      option_map (λ ms. region args ms results) found ≡ Some s → SameBut P (region args ns results) s
  inside args results ns None h s e = absurd cc
  inside args results ns (Some ms) h (region args' ms' results') e =
      let same : region args ms results ≡ region args' ms' results' = cc in
      let kinds : args ≡ args' = cc in
      let nodes : ms ≡ ms' = cc in
      let origins : results ≡ results' = cc in
      inr (kinds, subst (λ ks. NodesSameBut P ns ks) nodes (h ms refl), origins)

  first-or-rest : (id : ℕ) (op : Op) (inputs : List Origin) (rs : RegionTrees) (ns : NodeTrees) (first : Option RegionTrees) → ((ss : RegionTrees) → first ≡ Some ss → RegionsSameBut P rs ss) →
      (rest : Option NodeTrees) → ((ks : NodeTrees) → rest ≡ Some ks → NodesSameBut P ns ks) → (ms : NodeTrees) →
      option_or (option_map (λ y. node_then y ns) (option_map (λ ss. node id op inputs ss) first)) (option_map (λ ys. node_then (node id op inputs rs) ys) rest) ≡ Some ms →
      NodesSameBut P (node_then (node id op inputs rs) ns) ms
  first-or-rest id op inputs rs ns (Some ss) h rest k ms e =
      let same : node_then (node id op inputs ss) ns ≡ ms = cc in
      subst (λ z. NodesSameBut P (node_then (node id op inputs rs) ns) z) same ((refl, refl, refl, h ss refl), nodes-itself P ns)
  first-or-rest id op inputs rs ns None h (Some ks) k ms e =
      let same : node_then (node id op inputs rs) ks ≡ ms = cc in
      subst (λ z. NodesSameBut P (node_then (node id op inputs rs) ns) z) same ((refl, refl, refl, regions-itself P rs), k ks refl)
  first-or-rest id op inputs rs ns None h None k ms e = absurd cc

  region-or-rest : (r : RegionTree) (rs : RegionTrees) (first : Option RegionTree) → ((s : RegionTree) → first ≡ Some s → SameBut P r s) → (rest : Option RegionTrees) →
      ((qs : RegionTrees) → rest ≡ Some qs → RegionsSameBut P rs qs) → (ss : RegionTrees) →
      option_or (option_map (λ s. region_then s rs) first) (option_map (λ qs. region_then r qs) rest) ≡ Some ss → RegionsSameBut P (region_then r rs) ss
  region-or-rest r rs (Some s) h rest k ss e =
      let same : region_then s rs ≡ ss = cc in
      subst (λ z. RegionsSameBut P (region_then r rs) z) same (h s refl, regions-itself P rs)
  region-or-rest r rs None h (Some qs) k ss e =
      let same : region_then r qs ≡ ss = cc in
      subst (λ z. RegionsSameBut P (region_then r rs) z) same (same-itself P r, k qs refl)
  region-or-rest r rs None h None k ss e = absurd cc

module _ (P : RegionTree → RegionTree → Type 0) (here : RegionTree → Option RegionTree) (l : PlainLambda) (local : (r s : RegionTree) → IsPartOf l r → here r ≡ Some s → P r s) where
  changed-here : (r : RegionTree) → IsPartOf l r → (found : Option RegionTree) → here r ≡ found → (rest : Option RegionTree) → ((s : RegionTree) → rest ≡ Some s → SameBut P r s) →
      (s : RegionTree) → option_or found rest ≡ Some s → SameBut P r s
  changed-here (region args nodes results) part (Some (region args' nodes' results')) e rest same (region args'' nodes'' results'') d =
      inl (local (region args nodes results) (region args'' nodes'' results'') part (e ∙ d))
  changed-here r part None e rest same s d = same s d

  mutual
    pub changed-same : (r : RegionTree) → IsPartOf l r → (s : RegionTree) → region_changed here r ≡ Some s → SameBut P r s
    changed-same (region args nodes results) part s e =
        let p = and_parts (region_fits (length l.objects) (region args nodes results)) (every_in_nodes (region_fits (length l.objects)) nodes) part.fits in
        changed-here (region args nodes results) part (here (region args nodes results)) refl (option_map (λ ns. region args ns results) (nodes_changed here nodes))
        (inside P args results nodes (nodes_changed here nodes) (λ ms d. nodes-same nodes p.1 part.unique part.below ms d)) s e

    nodes-same : (ns : NodeTrees) → every_in_nodes (region_fits (length l.objects)) ns ≡ true → distinct (nodes_ids ns) ≡ true → all_of (λ n. nat_lt n l.next) (nodes_ids ns) ≡ true →
        (ms : NodeTrees) → nodes_changed here ns ≡ Some ms → NodesSameBut P ns ms
    nodes-same no_nodes t unique below ms e = absurd cc
    nodes-same (node_then (node id op inputs rs) ns) t unique below ms e =
        let p = and_parts (every_in_regions (region_fits (length l.objects)) rs) (every_in_nodes (region_fits (length l.objects)) ns) t in
        let d = distinct-split (id ∷ regions_ids rs) (nodes_ids ns) unique in
        let b = all-split (λ n. nat_lt n l.next) (id ∷ regions_ids rs) (nodes_ids ns) below in
        let f = and_parts (not (some_of (λ m. id == m) (regions_ids rs))) (distinct (regions_ids rs)) d.0 in
        let c = and_parts (nat_lt id l.next) (all_of (λ n. nat_lt n l.next) (regions_ids rs)) b.0 in
        first-or-rest P id op inputs rs ns (regions_changed here rs) (λ ss q. regions-same rs p.0 f.1 c.1 ss q) (nodes_changed here ns) (λ ks q. nodes-same ns p.1 d.1 b.1 ks q) ms e

    regions-same : (rs : RegionTrees) → every_in_regions (region_fits (length l.objects)) rs ≡ true → distinct (regions_ids rs) ≡ true → all_of (λ n. nat_lt n l.next) (regions_ids rs) ≡ true →
        (ss : RegionTrees) → regions_changed here rs ≡ Some ss → RegionsSameBut P rs ss
    regions-same no_regions t unique below ss e = absurd cc
    regions-same (region_then r rs) t unique below ss e =
        let p = and_parts (every_region (region_fits (length l.objects)) r) (every_in_regions (region_fits (length l.objects)) rs) t in
        let d = distinct-split (region_ids r) (regions_ids rs) unique in
        let b = all-split (λ n. nat_lt n l.next) (region_ids r) (regions_ids rs) below in
        region-or-rest P r rs (region_changed here r) (λ s q. changed-same r (record { fits = p.0; closed = region-closed (length l.objects) r p.0; unique = d.0; below = b.0 }) s q)
        (regions_changed here rs) (λ qs q. regions-same rs p.1 d.1 b.1 qs q) ss e

body-same : (P : RegionTree → RegionTree → Type 0) (here : RegionTree → Option RegionTree) (l : PlainLambda) → ((r s : RegionTree) → IsPartOf l r → here r ≡ Some s → P r s) →
    IsPartOf l l.body → SameBut P l.body (lambda_changed here l).body
body-same P here l local part = by (region_changed here l.body) refl
  where
    by : (found : Option RegionTree) → region_changed here l.body ≡ found → SameBut P l.body (unwrap_or found l.body)
    by None e = same-itself P l.body
    by (Some s) e = changed-same P here l local l.body part s e

-- ---- lists of lambdas

pub lambdas-itself : (P : RegionTree → RegionTree → Type 0) (ls : List PlainLambda) → LambdasSameBut P ls ls
lambdas-itself P [] = tt
lambdas-itself P (l ∷ ls) =
    (record { number = refl; params = refl; objects = refl; body = same-itself P l.body }, lambdas-itself P ls)

edited-lists : (P : RegionTree → RegionTree → Type 0) (here : RegionTree → Option RegionTree) (f : ℕ) (ls ks : List PlainLambda) → AreEditedAt here f ls ks →
    ((l : PlainLambda) → slice_get ls f ≡ Some l → well_formed l ≡ true) → ((l : PlainLambda) (r s : RegionTree) → slice_get ls f ≡ Some l → IsPartOf l r → here r ≡ Some s → P r s) →
    LambdasSameBut P ls ks
edited-lists P here f [] [] h well local = tt
edited-lists P here zero (l ∷ ls) (k ∷ ks) h well local = (
  record {
    number = h.0.number;
    params = h.0.params;
    objects = h.0.objects;
    body = subst (λ b. SameBut P l.body b) (sym h.0.body) (body-same P here l (λ r s part e. local l r s refl part e) (body-part l (well l refl)));
  },
  subst (λ js. LambdasSameBut P ls js) h.1 (lambdas-itself P ls),
)
edited-lists P here (suc f) (l ∷ ls) (k ∷ ks) h well local = (
  subst (λ j. LambdaSameBut P l j) h.0 (record { number = refl; params = refl; objects = refl; body = same-itself P l.body }),
  edited-lists P here f ls ks h.1 well local,
)
edited-lists P here f [] (k ∷ ks) h well local = absurd h
edited-lists P here zero (l ∷ ls) [] h well local = absurd h
edited-lists P here (suc f) (l ∷ ls) [] h well local = absurd h

pub edits_replace : EditsReplace
edits_replace ls ks here f h well local = edited-lists (Replaces ls ks) here f ls ks h well local
