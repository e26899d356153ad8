-- Whether a loop may be inverted, by counts of its whole region.
use Rattle.std.specs.Prelude.{◌&&◌, ◌+◌, ◌-◌, ◌^◌, ◌*◌, ◌<◌, ◌≤◌, nat_le, nat_lt, option_and_then, is_some}
use Rattle.std.proofs.Common.{◌≡◌, ℕ, suc, true, false, cond, List, [], ◌∷◌, ◌++◌, length, length-append, Bool, None, Some, slice_get, refl, sym, ap, ◌∙◌, arith}
use Rattle.std.proofs.lemmas.Bool.Decides.{nat_tests}
use Rattle.std.proofs.lemmas.List.{length-map}
use Rattle.g_graph.specs.declared.op.Kind.{Kind}
use Rattle.g_graph.specs.declared.op.Op.TheVariants.{Gamma}
use Rattle.g_graph.specs.declared.op.Origin.{Origin}
use Rattle.g_graph.specs.Plain.{RegionTree, region, NodeTree, node, NodeTrees, no_nodes, node_then, no_regions, region_then, nodes_of, nodes_in, results_of}
use Rattle.g_graph.specs.Count.{region_values, nodes_values}
use Rattle.g_graph.specs.Ids.{nodes_ids}
use Rattle.g_graph.specs.Splice.{joined_nodes, outputs_to_results}
use Rattle.g_graph.proofs.lemmas.Splices.{nodes_ids-joined, nodes_values-joined}
use Rattle.r_edit.specs.Size.{may_change_size}
use Rattle.r_edit.specs.Numbering.{node_count}
use Rattle.r_invert.specs.Edit.{branches_so, up_to, values_counted, growth_so, numbers_so, indexes_so, room_so, loop_parts, ends_so}
use Rattle.r_invert.specs.Rule.{Parts, last_node, but_last, giving, parts_with, new_nodes, growth, loop_values, may_invert}
use Rattle.r_invert.proofs.Forms.{ending, split-last}
use Rattle.r_invert.proofs.Kept.{kinds-length}

-- ---- numbers

numbers-same : (next n t z b w : ℕ) → n ≡ t + 1 + z + b → w ≡ 2 + 2 * t + 2 * z + b →
    (nat_lt (up_to 4294967296 n) 4294967296 && nat_le (next + (2 * up_to 4294967296 n - up_to 4294967296 b)) 4294967295) ≡ nat_le (next + w) 4294967295
numbers-same next n t z b w e d = by (nat_lt (up_to 4294967296 n) 4294967296) refl
  where
    by : (s : Bool) → nat_lt (up_to 4294967296 n) 4294967296 ≡ s →
        (s && nat_le (next + (2 * up_to 4294967296 n - up_to 4294967296 b)) 4294967295) ≡ nat_le (next + w) 4294967295
    by true f =
        let less : up_to 4294967296 n < 4294967296 = grind (arith, nat_tests) in
        let same : 2 * up_to 4294967296 n - up_to 4294967296 b ≡ w = omega (arith, less, e, d) in
        ap (λ m. nat_le (next + m) 4294967295) same
    by false f =
        let least : 4294967296 ≤ up_to 4294967296 n = grind (arith, nat_tests) in
        let more : 4294967296 ≤ next + w = omega (arith, least, e, d) in
        grind (arith, nat_tests)

-- ---- the room

module _ (args : List Kind) (before : NodeTrees) (g : ℕ) (inputs : List Origin) (own : List Kind) (ns : NodeTrees) (rs : List Origin) (others : List Kind) (ms : NodeTrees) (ss : List Origin)
    (predicate : Origin) (variables : List Origin) where
  abbrev z : RegionTree
  z = region own ns rs

  abbrev b : RegionTree
  b = region others ms ss

  abbrev r : RegionTree
  r = region args (joined_nodes before (node_then (ending g inputs z b) no_nodes)) (predicate ∷ variables)

  abbrev p : Parts
  p = record { test = region args before inputs; stop = giving g variables z; go = giving g variables b }

  count : node_count r ≡ node_count p.test + 1 + node_count z + node_count b
  count =
      omega (
        arith,
        ap length (nodes_ids-joined before (node_then (ending g inputs z b) no_nodes)),
        length-append (nodes_ids before) ((g ∷ (nodes_ids ns ++ (nodes_ids ms ++ []))) ++ []),
        length-append (g ∷ (nodes_ids ns ++ (nodes_ids ms ++ []))) [],
        length-append (nodes_ids ns) (nodes_ids ms ++ []),
        length-append (nodes_ids ms) [],
      )

  values-are : region_values r ≡ 1 + length args + (nodes_values before + (1 + length rs + (region_values z + region_values b))) + (1 + length variables)
  values-are = omega (arith, nodes_values-joined before (node_then (ending g inputs z b) no_nodes), kinds-length z)

  growth-same : region_values r < 1152921504606846976 → growth_so r (length inputs) z b ≡ growth p
  growth-same less = omega (arith, less, values-are, length-map variables (outputs_to_results g rs))

  counted-same : region_values r < 1152921504606846976 → values_counted r ≡ region_values r
  counted-same less = omega (arith, less)

  few : nat_lt (values_counted r) (2 ^ 60) ≡ nat_lt (region_values r) (2 ^ 60)
  few = by (region_values r)
    where
      by : (n : ℕ) → nat_lt (1152921504606846976 - (1152921504606846976 - n)) 1152921504606846976 ≡ nat_lt n 1152921504606846976
      by n = grind (arith, nat_tests)

  pub room-same : (values next : ℕ) → room_so values next r (length inputs) z b ≡ may_invert values next r p
  room-same values next =
      ap (λ t. t && indexes_so r z b && numbers_so next r b && may_change_size values (growth_so r (length inputs) z b) (1 + length args + values_counted r)) few
      ∙ by (nat_lt (region_values r) (2 ^ 60)) refl
    where
      by : (t : Bool) → nat_lt (region_values r) (2 ^ 60) ≡ t →
          (t && indexes_so r z b && numbers_so next r b && may_change_size values (growth_so r (length inputs) z b) (1 + length args + values_counted r))
          ≡ (t && nat_lt (length own) (2 ^ 32) && nat_lt (length others) (2 ^ 32) && nat_lt (length (results_of p.stop)) (2 ^ 32) && nat_le (next + new_nodes p) (2 ^ 32 - 1)
          && may_change_size values (growth p) (loop_values r))
      by false e = refl
      by true e =
          let less : region_values r < 1152921504606846976 = grind (arith, nat_tests) in
          let index : length (predicate ∷ variables) - 1 ≡ length (results_of p.stop) = omega (arith, length-map variables (outputs_to_results g rs)) in
          let numbers : numbers_so next r b ≡ nat_le (next + new_nodes p) (2 ^ 32 - 1) =
          numbers-same next (node_count r) (node_count p.test) (node_count z) (node_count b) (new_nodes p) count (omega arith) in
          let size : may_change_size values (growth_so r (length inputs) z b) (1 + length args + values_counted r) ≡ may_change_size values (growth p) (loop_values r) =
          λ i. may_change_size values (growth-same less i) (1 + length args + counted-same less i) in
          λ i. nat_lt (length own) (2 ^ 32) && nat_lt (length others) (2 ^ 32) && nat_lt (index i) (2 ^ 32) && numbers i && size i

-- ---- the form

some-when : (t : Bool) (q : Parts) → t ≡ is_some (cond t (Some q) None)
some-when true q = refl
some-when false q = refl

decided : (may : Parts → Bool) (s : Bool) (q : Parts) (room : Bool) → room ≡ may q →
    (s && room) ≡ is_some (option_and_then (λ m. cond (may m) (Some m) None) (cond s (Some q) None))
decided may false q room e = refl
decided may true q room e = e ∙ some-when (may q) q

with-last : (values next : ℕ) (args : List Kind) (before : NodeTrees) (results : List Origin) (x : NodeTree) →
    let r = region args (joined_nodes before (node_then x no_nodes)) results in
    ends_so values next r x ≡ is_some (option_and_then (λ p. cond (may_invert values next r p) (Some p) None) (parts_with args before results x))
with-last values next args before (o ∷ variables) (node g Gamma inputs (region_then (region own ns rs) (region_then (region others ms ss) no_regions))) =
    decided (may_invert values next (region args (joined_nodes before (node_then (ending g inputs (region own ns rs) (region others ms ss)) no_nodes)) (o ∷ variables)))
    (branches_so g o variables (region own ns rs) (region others ms ss))
    (record { test = region args before inputs; stop = giving g variables (region own ns rs); go = giving g variables (region others ms ss) })
    (room_so values next (region args (joined_nodes before (node_then (ending g inputs (region own ns rs) (region others ms ss)) no_nodes)) (o ∷ variables)) (length inputs) (region own ns rs)
    (region others ms ss))
    (room-same args before g inputs own ns rs others ms ss o variables values next)
with-last values next args before [] (node g Gamma inputs (region_then t (region_then u no_regions))) = refl
with-last values next args before [] (node g Gamma inputs no_regions) = refl
with-last values next args before [] (node g Gamma inputs (region_then t no_regions)) = refl
with-last values next args before [] (node g Gamma inputs (region_then t (region_then u (region_then v rs)))) = refl
with-last values next args before (o ∷ variables) (node g Gamma inputs no_regions) = refl
with-last values next args before (o ∷ variables) (node g Gamma inputs (region_then t no_regions)) = refl
with-last values next args before (o ∷ variables) (node g Gamma inputs (region_then t (region_then u (region_then v rs)))) = refl
with-last values next args before [] (node g _ inputs rs) = refl
with-last values next args before (o ∷ variables) (node g _ inputs rs) = refl

pub last-is : (xs : List NodeTree) (x : NodeTree) → slice_get xs (length xs - 1) ≡ Some x → last_node (nodes_of xs) ≡ Some x
last-is [] x e = absurd cc
last-is (y ∷ []) x e = e
last-is (y ∷ w ∷ xs) x e =
    let one : suc (suc (length xs)) - 1 ≡ suc (suc (length xs) - 1) = omega arith in
    last-is (w ∷ xs) x (sym (ap (slice_get (y ∷ w ∷ xs)) one) ∙ e)

pub ends-decide : (values next : ℕ) (r : RegionTree) (x : NodeTree) → last_node (nodes_in r) ≡ Some x → ends_so values next r x ≡ is_some (loop_parts values next r)
ends-decide values next (region args nodes results) x e =
    let is = split-last nodes x e in
    ap (λ ms. ends_so values next (region args ms results) x) is
    ∙ with-last values next args (but_last nodes) results x
    ∙ ap (λ ms. is_some (option_and_then (λ p. cond (may_invert values next (region args ms results) p) (Some p) None) (parts_with args (but_last nodes) results x))) (sym is)
    ∙ ap (λ o. is_some (option_and_then (λ p. cond (may_invert values next (region args nodes results) p) (Some p) None) (option_and_then (parts_with args (but_last nodes) results) o))) (sym e)
