-- The loop at a node, by its regions.
use Rattle.std.specs.Prelude.{◌&&◌, ◌^◌, ◌<◌, ◌≤◌, nat_le, not}
use Rattle.std.proofs.Common.{◌≡◌, ℕ, ◌+◌, ◌-◌, Bool, true, false, cond, None, Some, refl, ap, subst, arith}
use Rattle.std.proofs.lemmas.Bool.{and_parts}
use Rattle.std.proofs.lemmas.Bool.Decides.{nat_tests}
use Rattle.base.specs.Limits.{most_loop_values}
use Rattle.g_graph.specs.Plain.{RegionTree, RegionTrees, no_regions, region_then}
use Rattle.g_graph.specs.Count.{region_values}
use Rattle.g_mean.specs.Copies.{IsClosed, AllClosed}
use Rattle.r_edit.specs.Size.{may_change_size}
use Rattle.r_edit.specs.Numbering.{node_count}
use Rattle.r_unroll.specs.Edit.{only_body}
use Rattle.r_unroll.specs.Rule.{region_loops, growth, may_unroll}

-- what is known of it
record IsOnly (values next : ℕ) (rs : RegionTrees) (r : RegionTree) : Type 0 where
  is : rs ≡ region_then r no_regions
  can : may_unroll values next r ≡ true

only_is : (values next : ℕ) (rs : RegionTrees) (r : RegionTree) → only_body values next rs ≡ Some r → IsOnly values next rs r
only_is values next no_regions r e = absurd cc
only_is values next (region_then s no_regions) r e = by (may_unroll values next s) refl e
  where
    by : (t : Bool) → may_unroll values next s ≡ t → cond t (Some s) None ≡ Some r → IsOnly values next (region_then s no_regions) r
    by true d f = let same : s ≡ r = cc in record { is = ap (λ z. region_then z no_regions) same; can = subst (λ z. may_unroll values next z ≡ true) same d }
    by false d f = absurd cc
only_is values next (region_then s (region_then q rs)) r e = absurd cc

pub only_closed : (values next : ℕ) (rs : RegionTrees) (r : RegionTree) → AllClosed rs → only_body values next rs ≡ Some r → IsClosed r
only_closed values next rs r h e = (subst AllClosed (only_is values next rs r e).is h).0

pub only_small : (values next : ℕ) (rs : RegionTrees) (r : RegionTree) → only_body values next rs ≡ Some r → region_values r ≤ most_loop_values
only_small values next rs r e =
    let small = nat_le (region_values r) most_loop_values in
    let loops = not (region_loops r) in
    let numbers = nat_le (next + 2 + node_count r) (2 ^ 32 - 1) in
    let p = and_parts (small && loops && numbers) (may_change_size values (growth r) 0) (only_is values next rs r e).can in
    let q : nat_le (region_values r) most_loop_values ≡ true = (and_parts small loops (and_parts (small && loops) numbers p.0).0).0 in
    grind (arith, nat_tests)

pub only_numbers : (values next : ℕ) (rs : RegionTrees) (r : RegionTree) → only_body values next rs ≡ Some r → next + 2 + node_count r < 2 ^ 32
only_numbers values next rs r e =
    let small = nat_le (region_values r) most_loop_values in
    let loops = not (region_loops r) in
    let numbers = nat_le (next + 2 + node_count r) (2 ^ 32 - 1) in
    let p = and_parts (small && loops && numbers) (may_change_size values (growth r) 0) (only_is values next rs r e).can in
    let q : nat_le (next + 2 + node_count r) (2 ^ 32 - 1) ≡ true = (and_parts (small && loops) numbers p.0).1 in
    grind (arith, nat_tests)
