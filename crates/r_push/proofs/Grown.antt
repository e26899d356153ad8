-- Regions with more arguments, and those that a node left.
use Rattle.std.proofs.Common.{◌≡◌, ℕ, zero, suc, ◌+◌, ◌||◌, Bool, true, false, if◌then◌else◌, List, [], ◌∷◌, ◌++◌, map, length, refl, ap, ap₂, subst, ◌∙◌, arith}
use Rattle.std.proofs.lemmas.List.{length-append, map-append}
use Rattle.g_graph.specs.declared.op.Kind.{Kind}
use Rattle.g_graph.specs.declared.op.Kind.TheVariants.{Value}
use Rattle.g_graph.specs.declared.op.Origin.{Origin}
use Rattle.g_graph.specs.declared.op.Origin.TheVariants.{Arg, Out}
use Rattle.g_graph.specs.Count.{region_values, regions_values}
use Rattle.g_graph.specs.Ids.{region_ids, regions_ids}
use Rattle.g_graph.specs.Plain.{RegionTree, region, NodeTrees, RegionTrees, no_regions, region_then, count_of}
use Rattle.g_graph.specs.Scope.{same_origin}
use Rattle.g_graph.specs.WellFormed.{some_of}
use Rattle.g_mean.specs.Copies.{IsAmong, IsClosed, AllClosed}
use Rattle.g_mean.proofs.lemmas.Copies.{among-left, among-right}
use Rattle.r_push.specs.Rule.{carried, regions_carried}
use Rattle.r_push.proofs.Stays.{carried-elsewhere}
use Rattle.r_push.specs.Walk.{grown_by_one, grown, all_grown}
use Rattle.r_walk.specs.Context.{joined_regions}

-- ---- the lists of a region

abbrev pub grown_args : (more : ℕ) → List Kind → List Kind
grown_args zero args = args
grown_args (suc more) args = grown_args more args ++ Value ∷ []

abbrev pub grown_results : (loops : Bool) → (more : ℕ) → List Kind → List Origin → List Origin
grown_results loops zero args results = results
grown_results loops (suc more) args results =
    if loops then grown_results loops more args results ++ Arg (length (grown_args more args)) ∷ [] else grown_results loops more args results

pub grown_is : (loops : Bool) (more : ℕ) (args : List Kind) (nodes : NodeTrees) (results : List Origin) →
    grown loops more (region args nodes results) ≡ region (grown_args more args) nodes (grown_results loops more args results)
grown_is loops zero args nodes results = refl
grown_is loops (suc more) args nodes results = ap (grown_by_one loops) (grown_is loops more args nodes results)

pub grown_args_many : (more : ℕ) (args : List Kind) → length (grown_args more args) ≡ length args + more
grown_args_many zero args = omega arith
grown_args_many (suc more) args = omega (arith, grown_args_many more args, length-append (grown_args more args) (Value ∷ []))

pub grown_results_many : (more : ℕ) (args : List Kind) (results : List Origin) → length (grown_results true more args results) ≡ length results + more
grown_results_many zero args results = omega arith
grown_results_many (suc more) args results =
    omega (arith, grown_results_many more args results, length-append (grown_results true more args results) (Arg (length (grown_args more args)) ∷ []))

-- a change of origins that keeps arguments keeps those that were added
pub grown_mapped : (f : Origin → Origin) → ((k : ℕ) → f (Arg k) ≡ Arg k) → (loops : Bool) (more : ℕ) (args : List Kind) (results : List Origin) →
    map f (grown_results loops more args results) ≡ grown_results loops more args (map f results)
grown_mapped f keeps loops zero args results = refl
grown_mapped f keeps loops (suc more) args results = by loops (grown_mapped f keeps loops more args results)
  where
    by : (t : Bool) → map f (grown_results loops more args results) ≡ grown_results loops more args (map f results) →
        map f (if t then grown_results loops more args results ++ Arg (length (grown_args more args)) ∷ [] else grown_results loops more args results)
        ≡ (if t then grown_results loops more args (map f results) ++ Arg (length (grown_args more args)) ∷ [] else grown_results loops more args (map f results))
    by true e =
        map-append f (grown_results loops more args results) (Arg (length (grown_args more args)) ∷ [])
        ∙ ap₂ (λ os o. os ++ o ∷ []) e (keeps (length (grown_args more args)))
    by false e = e

some-added : (n p k : ℕ) (os : List Origin) → some_of (same_origin (Out n p)) (os ++ Arg k ∷ []) ≡ some_of (same_origin (Out n p)) os
some-added n p k [] = refl
some-added n p k (o ∷ os) = ap (λ t. same_origin (Out n p) o || t) (some-added n p k os)

-- and they are no uses of outputs
pub some_grown : (n p : ℕ) (loops : Bool) (more : ℕ) (args : List Kind) (results : List Origin) →
    some_of (same_origin (Out n p)) (grown_results loops more args results) ≡ some_of (same_origin (Out n p)) results
some_grown n p loops zero args results = refl
some_grown n p loops (suc more) args results = by loops (some_grown n p loops more args results)
  where
    by : (t : Bool) → some_of (same_origin (Out n p)) (grown_results loops more args results) ≡ some_of (same_origin (Out n p)) results →
        some_of (same_origin (Out n p)) (if t then grown_results loops more args results ++ Arg (length (grown_args more args)) ∷ [] else grown_results loops more args results)
        ≡ some_of (same_origin (Out n p)) results
    by true e = some-added n p (length (grown_args more args)) (grown_results loops more args results) ∙ e
    by false e = e

-- ---- regions

grown_ids : (loops : Bool) (more : ℕ) (r : RegionTree) → region_ids (grown loops more r) ≡ region_ids r
grown_ids loops more (region args nodes results) = ap region_ids (grown_is loops more args nodes results)

pub all_grown_ids : (loops : Bool) (more : ℕ) (rs : RegionTrees) → regions_ids (all_grown loops more rs) ≡ regions_ids rs
all_grown_ids loops more no_regions = refl
all_grown_ids loops more (region_then r rs) = ap₂ (λ ns ms. ns ++ ms) (grown_ids loops more r) (all_grown_ids loops more rs)

pub all_grown_joined : (loops : Bool) (more : ℕ) (done : RegionTrees) (r : RegionTree) (rest : RegionTrees) →
    all_grown loops more (joined_regions done (region_then r rest)) ≡ joined_regions (all_grown loops more done) (region_then (grown loops more r) (all_grown loops more rest))
all_grown_joined loops more no_regions r rest = refl
all_grown_joined loops more (region_then d done) r rest = ap (region_then (grown loops more d)) (all_grown_joined loops more done r rest)

pub none_grown : (loops : Bool) (rs : RegionTrees) → all_grown loops 0 rs ≡ rs
none_grown loops no_regions = refl
none_grown loops (region_then r rs) = ap (region_then r) (none_grown loops rs)

pub count_grown_alone : (loops : Bool) (more : ℕ) (rs : RegionTrees) → count_of (all_grown loops more rs) ≡ count_of rs
count_grown_alone loops more no_regions = refl
count_grown_alone loops more (region_then r rs) = ap suc (count_grown_alone loops more rs)

pub count_grown : (loops : Bool) (more : ℕ) (done : RegionTrees) (r q : RegionTree) (rest : RegionTrees) →
    count_of (joined_regions (all_grown loops more done) (region_then r (all_grown loops more rest))) ≡ count_of (joined_regions done (region_then q rest))
count_grown loops more no_regions r q rest = ap suc (count_grown_alone loops more rest)
count_grown loops more (region_then d done) r q rest = ap suc (count_grown loops more done r q rest)

-- ---- where a node left another region

carried_other : (n : ℕ) (r : RegionTree) → IsClosed r → (IsAmong n (region_ids r) → ⊥) → carried n r ≡ grown_by_one false r
carried_other n (region args nodes results) closed apart = carried-elsewhere n args nodes results closed apart

pub regions_carried_other : (n more : ℕ) (rs : RegionTrees) → AllClosed (all_grown false more rs) → (IsAmong n (regions_ids rs) → ⊥) →
    regions_carried n (all_grown false more rs) ≡ all_grown false (suc more) rs
regions_carried_other n more no_regions closed apart = refl
regions_carried_other n more (region_then r rs) closed apart =
    ap₂ region_then
    (carried_other n (grown false more r) closed.0 (λ h. apart (among-left n (region_ids r) (regions_ids rs) (subst (IsAmong n) (grown_ids false more r) h))))
    (regions_carried_other n more rs closed.1 (λ h. apart (among-right n (region_ids r) (regions_ids rs) h)))

pub regions_carried_joined : (n : ℕ) (done : RegionTrees) (r : RegionTree) (rest : RegionTrees) →
    regions_carried n (joined_regions done (region_then r rest)) ≡ joined_regions (regions_carried n done) (region_then (carried n r) (regions_carried n rest))
regions_carried_joined n no_regions r rest = refl
regions_carried_joined n (region_then d done) r rest = ap (region_then (carried n d)) (regions_carried_joined n done r rest)

pub closed_joined : (done : RegionTrees) (r : RegionTree) (rest : RegionTrees) → AllClosed (joined_regions done (region_then r rest)) → AllClosed done × IsClosed r × AllClosed rest
closed_joined no_regions r rest h = (tt, h.0, h.1)
closed_joined (region_then d done) r rest h = let inner = closed_joined done r rest h.1 in ((h.0, inner.0), inner.1, inner.2)

-- ---- values

one_more : (r : RegionTree) → region_values (grown_by_one false r) ≡ region_values r + 1
one_more (region args nodes results) = omega (arith, length-append args (Value ∷ []))

pub grown_values : (more : ℕ) (rs : RegionTrees) → regions_values (all_grown false (suc more) rs) ≡ regions_values (all_grown false more rs) + count_of rs
grown_values more no_regions = omega arith
grown_values more (region_then r rs) = omega (arith, one_more (grown false more r), grown_values more rs)

pub count_joined : (done : RegionTrees) (r : RegionTree) (rest : RegionTrees) → count_of (joined_regions done (region_then r rest)) ≡ count_of done + 1 + count_of rest
count_joined no_regions r rest = omega arith
count_joined (region_then d done) r rest = omega (arith, count_joined done r rest)
