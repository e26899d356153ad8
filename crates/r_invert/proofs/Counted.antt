-- What the code counts and finds is what the definitions say.
use Rattle.std.specs.Prelude.{◌&&◌, ◌+◌, ◌-◌, ◌^◌, nat_le, option_and_then, is_some}
use Rattle.std.proofs.Common.{◌≡◌, ◌≢◌, ℕ, true, false, cond, List, [], ◌∷◌, length, Bool, Option, None, Some, option_map, refl, ap, ◌∙◌}
use Rattle.std.proofs.Math.Path.{fun_ext}
use Rattle.g_graph.specs.declared.op.Op.TheVariants.{Theta}
use Rattle.g_graph.specs.Plain.{RegionTree, region, NodeTree, node, no_regions, region_then, regions_of, nodes_in}
use Rattle.g_graph.specs.Count.{saturated}
use Rattle.g_graph.specs.Nodes.{node_at}
use Rattle.g_graph.specs.Replace.{region_redirected}
use Rattle.g_graph.specs.Splice.{args_to_inputs, region_spliced}
use Rattle.r_edit.proofs.lemmas.Size.{saturated-decides}
use Rattle.r_invert.specs.Edit.{only_may, regions_so, loop_at, loop_of, is_loop}
use Rattle.r_invert.specs.Rule.{Parts, parts_of, can_count, may_invert, inverted, in_place, invert_here, new_nodes, growth, loop_values}

pub only_one : (values next : ℕ) (rs : List RegionTree) → length rs ≢ 1 → only_may values next (regions_of rs) ≡ false
only_one values next [] e = refl
only_one values next (r ∷ []) e = absurd (e refl)
only_one values next (r ∷ s ∷ rs) e = refl

pub only_two : (values next : ℕ) (r : RegionTree) (g inputs : ℕ) (rs : List RegionTree) → length rs ≢ 2 → regions_so values next r g inputs (regions_of rs) ≡ false
only_two values next r g inputs [] e = refl
only_two values next r g inputs (z ∷ []) e = refl
only_two values next r g inputs (z ∷ b ∷ []) e = absurd (e refl)
only_two values next r g inputs (z ∷ b ∷ t ∷ rs) e = refl

-- ---- where a loop is found

pub found-changes : (values next : ℕ) (x : NodeTree) → is_some (loop_of values next x) ≡ is_some (in_place values next x)
found-changes values next (node id Theta inputs (region_then r no_regions)) = by (parts_of r)
  where
    place : Parts → RegionTree
    place p = region_redirected (args_to_inputs inputs) (inverted next p)

    test : (p : Parts) (t : Bool) →
        is_some (cond (is_some (cond t (Some p) None)) (Some (node id Theta inputs (region_then r no_regions))) None) ≡ is_some (cond t (Some (place p)) None)
    test p true = refl
    test p false = refl

    by : (o : Option Parts) →
        is_some (cond (is_some (option_and_then (λ p. cond (may_invert values next r p) (Some p) None) o)) (Some (node id Theta inputs (region_then r no_regions))) None)
        ≡ is_some (option_and_then (λ p. cond (may_invert values next r p) (Some (place p)) None) o)
    by None = refl
    by (Some p) = test p (may_invert values next r p)
found-changes values next (node id Theta inputs no_regions) = refl
found-changes values next (node id Theta inputs (region_then r (region_then t rs))) = refl
found-changes values next (node id _ inputs rs) = refl

pub here_found : (values next n : ℕ) (r : RegionTree) → is_some (loop_at values next n r) ≡ is_some (invert_here values next n r)
here_found values next n (region args nodes results) = by (node_at n nodes)
  where
    spliced : RegionTree → RegionTree
    spliced part = region_spliced n part (region args nodes results)

    later : (o : Option RegionTree) → is_some o ≡ is_some (option_map spliced o)
    later None = refl
    later (Some y) = refl

    by : (o : Option NodeTree) → is_some (option_and_then (loop_of values next) o) ≡ is_some (option_map spliced (option_and_then (in_place values next) o))
    by None = refl
    by (Some x) = found-changes values next x ∙ later (in_place values next x)

-- ---- a count that is saturated decides as the count itself

may-same : (v next : ℕ) (r : RegionTree) (p : Parts) → may_invert (saturated v) next r p ≡ may_invert v next r p
may-same v next r p =
    ap (λ t. can_count r p && nat_le (next + new_nodes p) (2 ^ 32 - 1) && t) (saturated-decides v (growth p) (loop_values r))

place-same : (v next : ℕ) (x : NodeTree) → in_place (saturated v) next x ≡ in_place v next x
place-same v next (node id Theta inputs (region_then r no_regions)) =
    ap (λ f. option_and_then f (parts_of r)) (fun_ext (λ p. ap (λ t. cond t (Some (region_redirected (args_to_inputs inputs) (inverted next p))) None) (may-same v next r p)))
place-same v next (node id Theta inputs no_regions) = refl
place-same v next (node id Theta inputs (region_then r (region_then t rs))) = refl
place-same v next (node id _ inputs rs) = refl

pub invert-same : (v next n : ℕ) → invert_here (saturated v) next n ≡ invert_here v next n
invert-same v next n = fun_ext (λ r. by r)
  where
    by : (r : RegionTree) → invert_here (saturated v) next n r ≡ invert_here v next n r
    by (region args nodes results) =
        ap (λ f. option_map (λ part. region_spliced n part (region args nodes results)) (option_and_then f (node_at n nodes))) (fun_ext (λ x. place-same v next x))

loop-same : (v next : ℕ) (x : NodeTree) → is_loop (saturated v) next x ≡ is_loop v next x
loop-same v next (node id Theta inputs (region_then r no_regions)) =
    ap (λ f. is_some (option_and_then f (parts_of r))) (fun_ext (λ p. ap (λ t. cond t (Some p) None) (may-same v next r p)))
loop-same v next (node id Theta inputs no_regions) = refl
loop-same v next (node id Theta inputs (region_then r (region_then t rs))) = refl
loop-same v next (node id _ inputs rs) = refl

pub at-same : (v next n : ℕ) → loop_at (saturated v) next n ≡ loop_at v next n
at-same v next n =
    fun_ext (λ r. ap (λ f. option_and_then f (node_at n (nodes_in r))) (fun_ext (λ x. ap (λ t. cond t (Some x) None) (loop-same v next x))))
