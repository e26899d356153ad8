-- The regions of a node without what went of them.
use Rattle.std.proofs.Common.{◌≡◌, ℕ, zero, suc, Bool, true, false, List, [], ◌∷◌, map, length, refl, sym, ap, ◌∙◌}
use Rattle.std.specs.List.{remove}
use Rattle.std.proofs.lemmas.Bool.{and_parts, or_parts}
use Rattle.g_graph.specs.declared.op.Kind.{Kind}
use Rattle.g_graph.specs.declared.op.Origin.{Origin}
use Rattle.g_graph.specs.Plain.{RegionTree, region, node, NodeTrees, no_nodes, node_then, RegionTrees, no_regions, region_then, count_of}
use Rattle.g_graph.specs.WellFormed.{some_of, region_fits, every_region, every_in_regions}
use Rattle.g_graph.specs.Replace.{nodes_redirected}
use Rattle.g_graph.proofs.lemmas.Redirects.{nodes_unmoved}
use Rattle.g_arena_def.specs.Edits.{argument_less}
use Rattle.r_edit.specs.Uses.{nodes_read, is_read}
use Rattle.r_edit.specs.Places.{kept}
use Rattle.r_edit.specs.Exits.{regions_giving}
use Rattle.r_edit.specs.Entries.{regions_taking, some_reads, is_gone_argument, argument_after}
use Rattle.r_edit.specs.Variables.{region_looping, loop_reads}
use Rattle.r_edit.proofs.lemmas.Kept.{some_fewer}
use Rattle.r_sweep.specs.Removals.{from_last, each_of}
use Rattle.r_sweep.proofs.lemmas.Inputs.{map_map, map_id, regions_with}
use Rattle.r_sweep.proofs.lemmas.Blocks.{result_gone, argument_gone}
use Rattle.r_sweep.proofs.lemmas.FromLast.{remove_none, from_last-kept, from_last-second, origin_arg, arguments_are, is_argument_beyond, same_origins, same_nodes}
use Rattle.r_sweep.proofs.lemmas.Composed.{regions_each, each_is, results_gone, arguments_gone, variable_gone}
use Rattle.r_sweep.proofs.lemmas.There.{region_parts, none_beyond_arguments}

-- ---- lists

pub map_remove : {X Y : Type 0} (f : X → Y) (xs : List X) (k : ℕ) → remove (map f xs) k ≡ map f (remove xs k)
map_remove f [] k = remove_none k ∙ ap (map f) (sym (remove_none k))
map_remove f (x ∷ xs) zero = refl
map_remove f (x ∷ xs) (suc k) = ap (λ ys. f x ∷ ys) (map_remove f xs k)

pub nodes_twice : (f g : Origin → Origin) (ns : NodeTrees) → nodes_redirected f (nodes_redirected g ns) ≡ nodes_redirected (λ o. f (g o)) ns
nodes_twice f g no_nodes = refl
nodes_twice f g (node_then (node id op inputs rs) ns) = λ i. node_then (node id op (map_map f g inputs i) rs) (nodes_twice f g ns i)

-- ---- steps at each region

each_count : (f : RegionTree → RegionTree) (rs : RegionTrees) → count_of (regions_each f rs) ≡ count_of rs
each_count f no_regions = refl
each_count f (region_then r rs) = ap suc (each_count f rs)

steps_count : (f : ℕ → RegionTree → RegionTree) (k : ℕ) (ts : List Bool) (rs : RegionTrees) → count_of (from_last (λ j. regions_each (f j)) k ts rs) ≡ count_of rs
steps_count f k [] rs = refl
steps_count f k (true ∷ ts) rs = steps_count f (suc k) ts rs
steps_count f k (false ∷ ts) rs = each_count (f k) (from_last (λ j. regions_each (f j)) (suc k) ts rs) ∙ steps_count f (suc k) ts rs

steps_each : (f : ℕ → RegionTree → RegionTree) (c k : ℕ) (ts : List Bool) (rs : RegionTrees) → c ≡ count_of rs →
    from_last (λ j qs. each_of (λ i. regions_with i (f j)) c qs) k ts rs ≡ from_last (λ j. regions_each (f j)) k ts rs
steps_each f c k [] rs e = refl
steps_each f c k (true ∷ ts) rs e = steps_each f c (suc k) ts rs e
steps_each f c k (false ∷ ts) rs e =
    let qs = from_last (λ j. regions_each (f j)) (suc k) ts rs in
    ap (each_of (λ i. regions_with i (f k)) c) (steps_each f c (suc k) ts rs e)
    ∙ ap (λ d. each_of (λ i. regions_with i (f k)) d qs) (e ∙ sym (steps_count f (suc k) ts rs)) ∙ each_is (f k) qs

steps_none : (f : ℕ → RegionTree → RegionTree) (k : ℕ) (ts : List Bool) → from_last (λ j. regions_each (f j)) k ts no_regions ≡ no_regions
steps_none f k [] = refl
steps_none f k (true ∷ ts) = steps_none f (suc k) ts
steps_none f k (false ∷ ts) = ap (regions_each (f k)) (steps_none f (suc k) ts)

steps_then : (f : ℕ → RegionTree → RegionTree) (k : ℕ) (ts : List Bool) (r : RegionTree) (rs : RegionTrees) →
    from_last (λ j. regions_each (f j)) k ts (region_then r rs) ≡ region_then (from_last f k ts r) (from_last (λ j. regions_each (f j)) k ts rs)
steps_then f k [] r rs = refl
steps_then f k (true ∷ ts) r rs = steps_then f (suc k) ts r rs
steps_then f k (false ∷ ts) r rs = ap (regions_each (f k)) (steps_then f (suc k) ts r rs)

steps_are : (f : ℕ → RegionTree → RegionTree) (ts : List Bool) (rs : RegionTrees) → from_last (λ j qs. each_of (λ i. regions_with i (f j)) (count_of rs) qs) 0 ts rs ≡ regions_each (from_last f 0 ts) rs
steps_are f ts rs = steps_each f (count_of rs) 0 ts rs refl ∙ by rs
  where
    by : (qs : RegionTrees) → from_last (λ j. regions_each (f j)) 0 ts qs ≡ regions_each (from_last f 0 ts) qs
    by no_regions = steps_none f 0 ts
    by (region_then r qs) = steps_then f 0 ts r qs ∙ ap (region_then (from_last f 0 ts r)) (by qs)

-- ---- results of a Gamma's regions

result_is : (k : ℕ) (ts : List Bool) (args : List Kind) (ns : NodeTrees) (results : List Origin) → from_last result_gone k ts (region args ns results) ≡ region args ns (from_last (λ j ys. remove ys j) k ts results)
result_is k [] args ns results = refl
result_is k (true ∷ ts) args ns results = result_is (suc k) ts args ns results
result_is k (false ∷ ts) args ns results = ap (result_gone k) (result_is (suc k) ts args ns results)

pub results_are : (ts : List Bool) (rs : RegionTrees) → from_last (results_gone (count_of rs)) 0 ts rs ≡ regions_giving ts rs
results_are ts rs = steps_are result_gone ts rs ∙ by rs
  where
    by : (qs : RegionTrees) → regions_each (from_last result_gone 0 ts) qs ≡ regions_giving ts qs
    by no_regions = refl
    by (region_then (region args ns results) qs) = λ i. region_then ((result_is 0 ts args ns results ∙ ap (region args ns) (from_last-kept 0 ts results)) i) (by qs i)

-- ---- arguments of a Gamma's regions

argument_is : (k : ℕ) (ts : List Bool) (args : List Kind) (ns : NodeTrees) (results : List Origin) →
    from_last argument_gone k ts (region args ns results) ≡ region (from_last (λ j ys. remove ys j) k ts args) (nodes_redirected (origin_arg k ts args) ns) (map (origin_arg k ts args) results)
argument_is k [] args ns results = λ i. region args (sym (nodes_unmoved (λ o. o) (λ o. refl) ns) i) (sym (map_id results) i)
argument_is k (true ∷ ts) args ns results = argument_is (suc k) ts args ns results
argument_is k (false ∷ ts) args ns results =
    let left = from_last (λ j ys. remove ys j) (suc k) ts args in
    let g = origin_arg (suc k) ts args in
    let f = argument_less k (length left) in
    ap (argument_gone k) (argument_is (suc k) ts args ns results) ∙ (λ i. region (remove left k) (nodes_twice f g ns i) (map_map f g results i))

argument_kept : (objects : ℕ) (ts : List Bool) (args : List Kind) (ns : NodeTrees) (results : List Origin) → every_region (region_fits objects) (region args ns results) ≡ true →
    is_read (is_gone_argument ts) (region args ns results) ≡ false →
    from_last argument_gone 0 ts (region args ns results) ≡ region (kept ts args) (nodes_redirected (argument_after ts) ns) (map (argument_after ts) results)
argument_kept objects ts args ns results e unread =
    let f = origin_arg 0 ts args in
    let g = argument_after ts in
    let gone = or_parts (nodes_read (is_gone_argument ts) ns) (some_of (is_gone_argument ts) results) unread in
    let beyond = or_parts (nodes_read (is_argument_beyond (length args)) ns) (some_of (is_argument_beyond (length args)) results)
    (none_beyond_arguments objects args ns results (region_parts objects args ns results e)) in
    let agree = arguments_are ts args in
    argument_is 0 ts args ns results
    ∙ (λ i. region (from_last-kept 0 ts args i) (same_nodes f g (is_gone_argument ts) (is_argument_beyond (length args)) agree ns gone.0 beyond.0 i)
    (same_origins f g (is_gone_argument ts) (is_argument_beyond (length args)) agree results gone.1 beyond.1 i))

pub arguments_taken : (objects : ℕ) (ts : List Bool) (rs : RegionTrees) → every_in_regions (region_fits objects) rs ≡ true → some_reads ts rs ≡ false →
    from_last (arguments_gone (count_of rs)) 0 ts rs ≡ regions_taking ts rs
arguments_taken objects ts rs e unread = steps_are argument_gone ts rs ∙ by rs e unread
  where
    by : (qs : RegionTrees) → every_in_regions (region_fits objects) qs ≡ true → some_reads ts qs ≡ false → regions_each (from_last argument_gone 0 ts) qs ≡ regions_taking ts qs
    by no_regions d u = refl
    by (region_then (region args ns results) qs) d u =
        let both = and_parts (every_region (region_fits objects) (region args ns results)) (every_in_regions (region_fits objects) qs) d in
        let reads = or_parts (is_read (is_gone_argument ts) (region args ns results)) (some_reads ts qs) u in
        λ i. region_then (argument_kept objects ts args ns results both.0 reads.0 i) (by qs both.1 reads.1 i)

-- ---- the region of a Theta

abbrev looped : (index : ℕ) → RegionTree → RegionTree
looped k r = argument_gone k (result_gone (suc k) r)

variable_then : (k : ℕ) (ts : List Bool) (r : RegionTree) → from_last variable_gone k ts (region_then r no_regions) ≡ region_then (from_last looped k ts r) no_regions
variable_then k [] r = refl
variable_then k (true ∷ ts) r = variable_then (suc k) ts r
variable_then k (false ∷ ts) r = ap (variable_gone k) (variable_then (suc k) ts r)

looped_is : (k : ℕ) (ts : List Bool) (args : List Kind) (ns : NodeTrees) (results : List Origin) →
    from_last looped k ts (region args ns results)
    ≡ region (from_last (λ j ys. remove ys j) k ts args) (nodes_redirected (origin_arg k ts args) ns) (map (origin_arg k ts args) (from_last (λ j ys. remove ys (suc j)) k ts results))
looped_is k [] args ns results = λ i. region args (sym (nodes_unmoved (λ o. o) (λ o. refl) ns) i) (sym (map_id results) i)
looped_is k (true ∷ ts) args ns results = looped_is (suc k) ts args ns results
looped_is k (false ∷ ts) args ns results =
    let left = from_last (λ j ys. remove ys j) (suc k) ts args in
    let outs = from_last (λ j ys. remove ys (suc j)) (suc k) ts results in
    let g = origin_arg (suc k) ts args in
    let f = argument_less k (length left) in
    ap (looped k) (looped_is (suc k) ts args ns results)
    ∙ (λ i. region (remove left k) (nodes_twice f g ns i) ((ap (map f) (map_remove g outs (suc k)) ∙ map_map f g (remove outs (suc k))) i))

pub variables_looped : (objects : ℕ) (ts : List Bool) (args : List Kind) (ns : NodeTrees) (results : List Origin) → every_region (region_fits objects) (region args ns results) ≡ true →
    loop_reads ts (region args ns results) ≡ false →
    from_last variable_gone 0 ts (region_then (region args ns results) no_regions) ≡ region_then (region_looping ts (region args ns results)) no_regions
variables_looped objects ts args ns results e unread =
    let outs = kept (true ∷ ts) results in
    let f = origin_arg 0 ts args in
    let g = argument_after ts in
    let gone = or_parts (nodes_read (is_gone_argument ts) ns) (some_of (is_gone_argument ts) outs) unread in
    let beyond = or_parts (nodes_read (is_argument_beyond (length args)) ns) (some_of (is_argument_beyond (length args)) results)
    (none_beyond_arguments objects args ns results (region_parts objects args ns results e)) in
    let agree = arguments_are ts args in
    let left : from_last (λ j ys. remove ys (suc j)) 0 ts results ≡ outs = from_last-second 0 ts results ∙ from_last-kept 1 ts results in
    variable_then 0 ts (region args ns results)
    ∙ ap (λ r. region_then r no_regions)
    (looped_is 0 ts args ns results
    ∙ (λ i. region (from_last-kept 0 ts args i) (same_nodes f g (is_gone_argument ts) (is_argument_beyond (length args)) agree ns gone.0 beyond.0 i) (map f (left i)))
    ∙ ap (region (kept ts args) (nodes_redirected g ns))
    (same_origins f g (is_gone_argument ts) (is_argument_beyond (length args)) agree outs gone.1 (some_fewer (is_argument_beyond (length args)) (true ∷ ts) results beyond.1)))
