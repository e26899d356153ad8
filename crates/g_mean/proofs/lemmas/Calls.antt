-- Calls of lambdas that are equal but for regions that refine, refine.
use Rattle.std.proofs.Common.{ℕ, zero, suc, List, [], ◌∷◌, ◌++◌, length, slice_get, Option, None, Some, refl, subst, inr}
use Rattle.val_core.specs.declared.values.Value.{Value}
use Rattle.val_core.specs.Memory.{Memory, closed}
use Rattle.val_core.specs.Refinement.{Direction, Comparison, Refines}
use Rattle.val_core.specs.Answers.{Returned, then_on}
use Rattle.val_core.specs.Objects.{opened}
use Rattle.val_core.proofs.lemmas.Refinement.{refines-then}
use Rattle.g_graph.specs.Plain.{RegionTree, region, NodeTree, node, NodeTrees, no_nodes, node_then, RegionTrees, no_regions, region_then, PlainObject, PlainLambda, shapes_of}
use Rattle.g_mean.specs.Data.{Datum, val, at_port, with_memory, changed_at}
use Rattle.g_mean.specs.Meaning.{Meaning, Context, region_meaning}
use Rattle.g_mean.specs.Calls.{sizes_of, inside, entered}
use Rattle.g_mean.specs.LessDefined.{Paired}
use Rattle.g_mean.specs.Refining.{Compares, InOrder, MeaningRefines, ContextRefines, RegionRefines, SameBut, NodeSameBut, NodesSameBut, RegionsSameBut, LambdaSameBut, LambdasSameBut}
use Rattle.g_mean.proofs.lemmas.Kept.{IsKept, paired-at}
use Rattle.g_mean.proofs.lemmas.Regions.{on_memory-refines, region-refines}

-- a tree is equal to itself
mutual
  pub same-itself : (P : RegionTree → RegionTree → Type 0) (r : RegionTree) → SameBut P r r
  same-itself P (region args nodes results) = inr (refl, nodes-itself P nodes, refl)

  node-itself : (P : RegionTree → RegionTree → Type 0) (x : NodeTree) → NodeSameBut P x x
  node-itself P (node id op inputs rs) = (refl, refl, refl, regions-itself P rs)

  pub nodes-itself : (P : RegionTree → RegionTree → Type 0) (ns : NodeTrees) → NodesSameBut P ns ns
  nodes-itself P no_nodes = tt
  nodes-itself P (node_then x ns) = (node-itself P x, nodes-itself P ns)

  pub regions-itself : (P : RegionTree → RegionTree → Type 0) (rs : RegionTrees) → RegionsSameBut P rs rs
  regions-itself P no_regions = tt
  regions-itself P (region_then r rs) = (same-itself P r, regions-itself P rs)

abbrev FoundSameBut : (P : RegionTree → RegionTree → Type 0) → Option PlainLambda → Option PlainLambda → Type 0
FoundSameBut P None None = Unit {0}
FoundSameBut P (Some l) (Some k) = LambdaSameBut P l k
FoundSameBut P _ _ = ⊥

pub found-same : (P : RegionTree → RegionTree → Type 0) (ls ks : List PlainLambda) → LambdasSameBut P ls ks → (f : ℕ) → FoundSameBut P (slice_get ls f) (slice_get ks f)
found-same P [] [] h f = tt
found-same P (l ∷ ls) (k ∷ ks) h zero = h.0
found-same P (l ∷ ls) (k ∷ ks) h (suc f) = found-same P ls ks h.1 f
found-same P [] (k ∷ ks) h f = absurd h
found-same P (l ∷ ls) [] h f = absurd h

pub found-itself : (P : RegionTree → RegionTree → Type 0) (l : Option PlainLambda) → FoundSameBut P l l
found-itself P None = tt
found-itself P (Some l) = record { number = refl; params = refl; objects = refl; body = same-itself P l.body }

module _ (cmp : Comparison) (g : Compares cmp) (direction : Direction) (N : Datum → Datum → Type 0) (k : IsKept N) where
  changed-refines : (n : ℕ) (f : Datum → Datum) → ((x y : Datum) → N x y → N (f x) (f y)) → (xs ys : List Datum) → Paired N xs ys → Paired N (changed_at n f xs) (changed_at n f ys)
  changed-refines n f h [] [] near = tt
  changed-refines zero f h (x ∷ xs) (y ∷ ys) near = (h x y near.0, near.1)
  changed-refines (suc n) f h (x ∷ xs) (y ∷ ys) near = (near.0, changed-refines n f h xs ys near.1)
  changed-refines n f h [] (y ∷ ys) near = absurd near
  changed-refines n f h (x ∷ xs) [] near = absurd near

  module _ (P : RegionTree → RegionTree → Type 0) (Q : Context → Context → Type 0) (base : (r s : RegionTree) → P r s → RegionRefines cmp direction N Q r s) (n m : ℕ)
      (order : InOrder direction n m) (call call' : ℕ → Meaning) (calls : (f : ℕ) → MeaningRefines cmp direction N (call f) (call' f)) (global : ℕ → Value)
      (globals : (j : ℕ) → N (val (global j)) (val (global j))) where
    body-refines : (params : ℕ) (os : List PlainObject) → ((b : Memory) → Q (inside n call global os b) (inside m call' global os b)) → (r s : RegionTree) → SameBut P r s → (xs ys : List Datum) →
        Paired N xs ys → (b : Memory) →
        Refines cmp direction (Paired N)
        (then_on (region_meaning (inside n call global os b) r (changed_at params (with_memory (λ j. j ++ opened (shapes_of os))) xs))
        (λ us. Returned (changed_at 1 (with_memory (closed (length b) (length os))) us) []))
        (then_on (region_meaning (inside m call' global os b) s (changed_at params (with_memory (λ j. j ++ opened (shapes_of os))) ys))
        (λ us. Returned (changed_at 1 (with_memory (closed (length b) (length os))) us) []))
    body-refines params os q r s same xs ys near b =
        let context : ContextRefines cmp direction N (inside n call global os b)
        (inside m call' global os b) = record { bounds = order; calls = calls; locals = λ j. k.address (length b) (sizes_of os) j; globals = globals } in
        let whole = region-refines cmp g direction N k P Q base (inside n call global os b) (inside m call' global os b) context (q b) r s same in
        refines-then cmp g.goes (Paired N) (Paired N) direction _ _ _ _
        (whole.on (changed_at params (with_memory (λ j. j ++ opened (shapes_of os))) xs) (changed_at params (with_memory (λ j. j ++ opened (shapes_of os))) ys)
        (changed-refines params (with_memory (λ j. j ++ opened (shapes_of os))) (λ x y h. k.opens x y h (shapes_of os)) xs ys near))
        (λ us vs near'. (changed-refines 1 (with_memory (closed (length b) (length os))) (λ x y h. k.closes x y h (length b) (length os)) us vs near', g.goes.nothing))

    pub entered-refines : ((os : List PlainObject) (b : Memory) → Q (inside n call global os b) (inside m call' global os b)) → (l l' : Option PlainLambda) → FoundSameBut P l l' →
        MeaningRefines cmp direction N (entered n call global l) (entered m call' global l')
    entered-refines q None None h = record { on = λ xs ys near. tt }
    entered-refines q (Some l) (Some l') h =
        record {
          on = λ xs ys near.
              subst (λ os. Refines cmp direction (Paired N) (entered n call global (Some l) xs)
              (entered m call' global (Some (record { number = l'.number; params = l'.params; objects = os; body = l'.body; next = l'.next })) ys)) h.objects
              (subst (λ ps. Refines cmp direction (Paired N) (entered n call global (Some l) xs)
              (entered m call' global (Some (record { number = l'.number; params = ps; objects = l.objects; body = l'.body; next = l'.next })) ys)) h.params
              (on_memory-refines cmp g direction N k (Paired N) (at_port xs l.params) (at_port ys l.params) (paired-at N k xs ys near l.params) _ _
              (λ b. body-refines l.params l.objects (q l.objects) l.body l'.body h.body xs ys near b)));
        }
    entered-refines q None (Some l') h = absurd h
    entered-refines q (Some l) None h = absurd h
