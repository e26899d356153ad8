-- What the code makes of the loop that it finds, and that the changed lambda is the rule's.
use Rattle.std.specs.Prelude.{◌&&◌, ◌^◌, ◌<◌, ◌≤◌, nat_le, not, option_and_then, is_some, ◌-◌}
use Rattle.std.proofs.Common.{◌≡◌, ℕ, ◌+◌, true, cond, List, length, Option, None, Some, option_map, refl, sym, ap, ap₂, ◌∙◌, arith}
use Rattle.std.proofs.Math.Path.{fun_ext}
use Rattle.std.proofs.lemmas.Bool.{and_parts}
use Rattle.std.proofs.lemmas.Bool.Decides.{nat_tests}
use Rattle.std.proofs.lemmas.Option.{same_Some}
use Rattle.base.specs.Limits.{most_loop_values}
use Rattle.g_graph.specs.declared.op.Op.TheVariants.{Theta}
use Rattle.g_graph.specs.declared.op.Origin.{Origin}
use Rattle.g_graph.specs.Plain.{RegionTree, region, NodeTree, node, no_regions, region_then, PlainLambda}
use Rattle.g_graph.specs.Change.{lambda_changed}
use Rattle.g_graph.specs.Count.{saturated, region_values}
use Rattle.g_graph.specs.Nodes.{node_at, node_set}
use Rattle.g_graph.specs.Program.{lambda_values}
use Rattle.g_graph.specs.WellFormed.{IsWellFormed}
use Rattle.g_mean.specs.Copies.{IsClosed}
use Rattle.g_mean.proofs.lemmas.Closed.{region-closed}
use Rattle.r_edit.specs.Size.{may_change_size}
use Rattle.r_edit.specs.Numbering.{node_count}
use Rattle.r_edit.proofs.lemmas.Loops.{loop_node}
use Rattle.r_edit.specs.Found.{region_found}
use Rattle.r_unroll.specs.Edit.{loop_body, loop_at, node_followed, followed_at, results_after, next_after}
use Rattle.r_unroll.specs.Rule.{followed_by, second_turn_of, region_loops, growth, applies, lambda_unrolled}
use Rattle.r_unroll.proofs.Counted.{may-same}
use Rattle.r_unroll.proofs.Found.{found-loop, found-some, made, unroll-made}
use Rattle.g_graph.proofs.lemmas.Nests.{regions_of_well_formed}

-- ---- the loop that is found

pub found_closed : (values next n : ℕ) (r y : RegionTree) → IsClosed r → region_found (loop_at values next n) r ≡ Some y → IsClosed y
found_closed values next n r y c e = (found-loop values next n r y c e).closed

pub found_small : (values next n : ℕ) (r y : RegionTree) → IsClosed r → region_found (loop_at values next n) r ≡ Some y → region_values y ≤ most_loop_values
found_small values next n r y c e =
    let small = nat_le (region_values y) most_loop_values in
    let loops = not (region_loops y) in
    let numbers = nat_le (next + 2 + node_count y) (2 ^ 32 - 1) in
    let p = and_parts (small && loops && numbers) (may_change_size values (growth y) 0) (found-loop values next n r y c e).can in
    let q : nat_le (region_values y) most_loop_values ≡ true = (and_parts small loops (and_parts (small && loops) numbers p.0).0).0 in
    grind (arith, nat_tests)

pub found_numbers : (values next n : ℕ) (r y : RegionTree) → IsClosed r → region_found (loop_at values next n) r ≡ Some y → next + 2 + node_count y < 2 ^ 32
found_numbers values next n r y c e =
    let small = nat_le (region_values y) most_loop_values in
    let loops = not (region_loops y) in
    let numbers = nat_le (next + 2 + node_count y) (2 ^ 32 - 1) in
    let p = and_parts (small && loops && numbers) (may_change_size values (growth y) 0) (found-loop values next n r y c e).can in
    let q : nat_le (next + 2 + node_count y) (2 ^ 32 - 1) ≡ true = (and_parts (small && loops) numbers p.0).1 in
    grind (arith, nat_tests)

-- ---- a count that is saturated

loop-same : (v next n : ℕ) → loop_at (saturated v) next n ≡ loop_at v next n
loop-same v next n = fun_ext (λ r. by r)
  where
    one : (x : NodeTree) → loop_body (saturated v) next x ≡ loop_body v next x
    one (node id Theta inputs (region_then r no_regions)) = ap (λ t. cond t (Some r) None) (may-same v next r)
    one (node id Theta inputs no_regions) = refl
    one (node id Theta inputs (region_then r (region_then t rs))) = refl
    one (node id _ inputs rs) = refl

    by : (r : RegionTree) → loop_at (saturated v) next n r ≡ loop_at v next n r
    by (region args nodes results) = ap (λ f. option_and_then f (node_at n nodes)) (fun_ext one)

followed-same : (v next n : ℕ) (last : NodeTree) (outs : List Origin) → followed_at (saturated v) next n last outs ≡ followed_at v next n last outs
followed-same v next n last outs = fun_ext (λ r. by r)
  where
    one : (x : NodeTree) → node_followed (saturated v) next last outs x ≡ node_followed v next last outs x
    one (node id Theta inputs (region_then r no_regions)) = ap (λ t. cond t (Some (loop_node id inputs (followed_by last outs r))) None) (may-same v next r)
    one (node id Theta inputs no_regions) = refl
    one (node id Theta inputs (region_then r (region_then t rs))) = refl
    one (node id _ inputs rs) = refl

    by : (r : RegionTree) → followed_at (saturated v) next n last outs r ≡ followed_at v next n last outs r
    by (region args nodes results) = ap (λ f. option_map (λ y. region args (node_set n y nodes) results) (option_and_then f (node_at n nodes))) (fun_ext one)

-- ---- the lambda

pub body-closed : (l : PlainLambda) → IsWellFormed l → IsClosed l.body
body-closed l w = region-closed (length l.objects) l.body (regions_of_well_formed l w)

pub applies-finds : (v n : ℕ) (l : PlainLambda) → v ≡ saturated (lambda_values l) → applies l n ≡ true → is_some (region_found (loop_at v l.next n) l.body) ≡ true
applies-finds v n l e a =
    ap (λ h. is_some (region_found h l.body)) (ap (λ u. loop_at u l.next n) e ∙ loop-same (lambda_values l) l.next n) ∙ found-some (lambda_values l) l.next n l.body a

pub unroll-is : (v n : ℕ) (l k : PlainLambda) (last : NodeTree) (outs : List Origin) (next : ℕ) → v ≡ saturated (lambda_values l) → IsWellFormed l →
    option_map (second_turn_of l.next) (region_found (loop_at v l.next n) l.body) ≡ Some last → option_map (results_after l.next) (region_found (loop_at v l.next n) l.body) ≡ Some outs →
    option_map (next_after l.next) (region_found (loop_at v l.next n) l.body) ≡ Some next → k ≡ lambda_changed (followed_at v l.next n last outs) l →
    record k { next = next } ≡ lambda_unrolled n l
unroll-is v n l k last outs next e w one two three g = by (region_found (loop_at (lambda_values l) l.next n) l.body) refl (sym found ∙ one) (sym found' ∙ two) (sym found'' ∙ three)
  where
    same : loop_at v l.next n ≡ loop_at (lambda_values l) l.next n
    same = ap (λ u. loop_at u l.next n) e ∙ loop-same (lambda_values l) l.next n

    found : option_map (second_turn_of l.next) (region_found (loop_at v l.next n) l.body) ≡ option_map (second_turn_of l.next) (region_found (loop_at (lambda_values l) l.next n) l.body)
    found = ap (λ h. option_map (second_turn_of l.next) (region_found h l.body)) same

    found' : option_map (results_after l.next) (region_found (loop_at v l.next n) l.body) ≡ option_map (results_after l.next) (region_found (loop_at (lambda_values l) l.next n) l.body)
    found' = ap (λ h. option_map (results_after l.next) (region_found h l.body)) same

    found'' : option_map (next_after l.next) (region_found (loop_at v l.next n) l.body) ≡ option_map (next_after l.next) (region_found (loop_at (lambda_values l) l.next n) l.body)
    found'' = ap (λ h. option_map (next_after l.next) (region_found h l.body)) same

    by : (o : Option RegionTree) → region_found (loop_at (lambda_values l) l.next n) l.body ≡ o →
        option_map (second_turn_of l.next) (region_found (loop_at (lambda_values l) l.next n) l.body) ≡ Some last →
        option_map (results_after l.next) (region_found (loop_at (lambda_values l) l.next n) l.body) ≡ Some outs →
        option_map (next_after l.next) (region_found (loop_at (lambda_values l) l.next n) l.body) ≡ Some next →
        record k { next = next } ≡ lambda_unrolled n l
    by None d a b c =
        let no : None ≡ Some last = sym (ap (option_map (second_turn_of l.next)) d) ∙ a in
        absurd cc
    by (Some y) d a b c =
        let last_is : second_turn_of l.next y ≡ last = same_Some (second_turn_of l.next y) last (sym (ap (option_map (second_turn_of l.next)) d) ∙ a) in
        let outs_are : results_after l.next y ≡ outs = same_Some (results_after l.next y) outs (sym (ap (option_map (results_after l.next)) d) ∙ b) in
        let next_is : next_after l.next y ≡ next = same_Some (next_after l.next y) next (sym (ap (option_map (next_after l.next)) d) ∙ c) in
        let here : followed_at v l.next n last outs ≡ made (lambda_values l) l.next n y =
        ap (λ u. followed_at u l.next n last outs) e ∙ followed-same (lambda_values l) l.next n last outs ∙ (λ i. followed_at (lambda_values l) l.next n (sym last_is i) (sym outs_are i)) in
        ap₂ (λ (m : PlainLambda) t. record m { next = t }) (g ∙ ap (λ h. lambda_changed h l) here) (sym next_is) ∙ sym (unroll-made n l y (regions_of_well_formed l w) d)
