-- What the code counts and finds is what the definitions say.
use Rattle.std.specs.Prelude.{◌&&◌, ◌+◌, ◌-◌, ◌^◌, nat_le, not, option_and_then, is_some}
use Rattle.std.proofs.Common.{◌≡◌, ◌≢◌, slice_index_or, ℕ, true, false, cond, List, [], ◌∷◌, length, Bool, Option, None, Some, option_map, refl, sym, ap, ◌∙◌, arith}
use Rattle.std.proofs.Math.Path.{fun_ext}
use Rattle.base.specs.Limits.{most_loop_values}
use Rattle.g_graph.specs.declared.op.Op.TheVariants.{Theta}
use Rattle.g_graph.specs.Plain.{RegionTree, region, NodeTree, node, no_regions, region_then, regions_of}
use Rattle.g_graph.specs.Count.{saturated, region_values}
use Rattle.r_edit.specs.Numbering.{node_count}
use Rattle.g_graph.specs.Nodes.{node_at, node_set}
use Rattle.r_edit.proofs.lemmas.Size.{saturated-decides}
use Rattle.r_unroll.specs.Edit.{small_body, only_body, loop_body, loop_at}
use Rattle.r_unroll.specs.Rule.{growth, may_unroll, unrolled, region_loops, node_unrolled, unroll_here}

-- ---- the only region of a node

pub only_body_none : (values next : ℕ) (rs : List RegionTree) → length rs ≢ 1 → only_body values next (regions_of rs) ≡ None
only_body_none values next [] e = refl
only_body_none values next (r ∷ []) e = absurd (e refl)
only_body_none values next (r ∷ s ∷ rs) e = refl

pub only-body-one : (values next : ℕ) (rs : List RegionTree) (r : RegionTree) → length rs ≡ 1 → r ≡ slice_index_or rs 0 r → only_body values next (regions_of rs) ≡ small_body values next r
only-body-one values next [] r e d = absurd cc
only-body-one values next (s ∷ []) r e d = ap (small_body values next) (sym d)
only-body-one values next (s ∷ t ∷ rs) r e d = absurd (omega (arith, e))

-- ---- where something is found

found-changes : (values next : ℕ) (x : NodeTree) → is_some (loop_body values next x) ≡ is_some (node_unrolled values next x)
found-changes values next (node id Theta inputs (region_then r no_regions)) = by (may_unroll values next r)
  where
    by : (t : Bool) → is_some (cond t (Some r) None) ≡ is_some (cond t (Some (node id Theta inputs (region_then (unrolled next r) no_regions))) None)
    by true = refl
    by false = refl
found-changes values next (node id Theta inputs no_regions) = refl
found-changes values next (node id Theta inputs (region_then r (region_then t rs))) = refl
found-changes values next (node id _ inputs rs) = refl

pub here_found : (values next n : ℕ) (r : RegionTree) → is_some (loop_at values next n r) ≡ is_some (unroll_here values next n r)
here_found values next n (region args nodes results) = by (node_at n nodes)
  where
    later : (o : Option NodeTree) → is_some o ≡ is_some (option_map (λ y. region args (node_set n y nodes) results) o)
    later None = refl
    later (Some y) = refl

    by : (o : Option NodeTree) → is_some (option_and_then (loop_body values next) o)
        ≡ is_some (option_map (λ y. region args (node_set n y nodes) results) (option_and_then (node_unrolled values next) o))
    by None = refl
    by (Some x) = found-changes values next x ∙ later (node_unrolled values next x)

-- ---- a count that is saturated decides as the count itself

pub may-same : (v next : ℕ) (r : RegionTree) → may_unroll (saturated v) next r ≡ may_unroll v next r
may-same v next r =
    ap (λ t. nat_le (region_values r) most_loop_values && not (region_loops r) && nat_le (next + 2 + node_count r) (2 ^ 32 - 1) && t) (saturated-decides v (growth r) 0)

node-same : (v next : ℕ) (x : NodeTree) → node_unrolled (saturated v) next x ≡ node_unrolled v next x
node-same v next (node id Theta inputs (region_then r no_regions)) =
    ap (λ t. cond t (Some (node id Theta inputs (region_then (unrolled next r) no_regions))) None) (may-same v next r)
node-same v next (node id Theta inputs no_regions) = refl
node-same v next (node id Theta inputs (region_then r (region_then t rs))) = refl
node-same v next (node id _ inputs rs) = refl

pub unroll-same : (v next n : ℕ) → unroll_here (saturated v) next n ≡ unroll_here v next n
unroll-same v next n = fun_ext (λ r. by r)
  where
    by : (r : RegionTree) → unroll_here (saturated v) next n r ≡ unroll_here v next n r
    by (region args nodes results) =
        ap (λ f. option_map (λ y. region args (node_set n y nodes) results) (option_and_then f (node_at n nodes))) (fun_ext (λ x. node-same v next x))
