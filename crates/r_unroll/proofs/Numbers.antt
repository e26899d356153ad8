-- The numbers of a lambda in which a loop is unrolled: those that it had, and others from the next one on.
use Rattle.std.specs.Prelude.{nat_lt}
use Rattle.std.proofs.Common.{◌≡◌, ◌<◌, ◌≤◌, ◌+◌, ℕ, suc, Bool, true, false, List, [], ◌∷◌, ◌++◌, length, length-append, append-nil, refl, sym, ap, ◌∙◌, arith}
use Rattle.std.proofs.lemmas.Bool.{and_parts, and_from}
use Rattle.std.proofs.lemmas.Bool.Decides.{nat_tests}
use Rattle.g_graph.specs.declared.op.Op.TheVariants.{Gamma}
use Rattle.g_graph.specs.Plain.{RegionTree, region, node, no_nodes, node_then, no_regions, region_then}
use Rattle.g_graph.specs.Ids.{region_ids, nodes_ids}
use Rattle.g_graph.specs.WellFormed.{all_of, distinct}
use Rattle.g_graph.proofs.lemmas.Numbers.{Numbered}
use Rattle.g_graph.proofs.lemmas.Splices.{nodes_ids-joined}
use Rattle.g_graph.proofs.lemmas.Unique.{times, times_append, all_of_append, all_of_holds, counts_of_distinct}
use Rattle.r_edit.specs.Numbering.{node_count, region_numbered}
use Rattle.val_core.specs.Numbers.{numbers_from}
use Rattle.r_edit.proofs.lemmas.Numbering.{copies_are_numbered, from-not-below, from-once, from-below, none-above}
use Rattle.r_unroll.specs.Rule.{stopping, unrolled}
use Rattle.val_core.proofs.lemmas.Numbers.{length_numbers}

-- the numbers that come
abbrev pub new_numbers : (next : ℕ) → RegionTree → List ℕ
new_numbers next r = numbers_from next (2 + node_count r)

-- ---- of the region of the loop

pub unrolled-ids : (next : ℕ) (r : RegionTree) → distinct (region_ids r) ≡ true → region_ids (unrolled next r) ≡ region_ids r ++ new_numbers next r
unrolled-ids next (region args nodes results) d =
    let r = region args nodes results in
    let two : next + 2 ≡ suc (suc next) = omega arith in
    let more : 2 + node_count r ≡ suc (suc (node_count r)) = omega arith in
    nodes_ids-joined nodes (node_then (node next Gamma results (region_then (stopping (suc next) args) (region_then (region_numbered (next + 2) r) no_regions))) no_nodes)
    ∙ ap (λ ids. nodes_ids nodes ++ ids)
    (append-nil (next ∷ suc next ∷ (region_ids (region_numbered (next + 2) r) ++ []))
    ∙ ap (λ ids. next ∷ suc next ∷ ids) (append-nil (region_ids (region_numbered (next + 2) r)) ∙ copies_are_numbered (next + 2) r d ∙ ap (λ m. numbers_from m (node_count r)) two)
    ∙ ap (numbers_from next) (sym more))

-- ---- of what holds the loop

-- numbers that change so: those that come are these
pub record Adds (next count : ℕ) (is js : List ℕ) : Type 0 where
  pub times_more : (m : ℕ) → times m js ≡ times m is + times m (numbers_from next count)
  pub number_more : length js ≡ length is + count
  pub below : all_of (λ n. nat_lt n next) is ≡ true → all_of (λ n. nat_lt n (next + count)) js ≡ true

wider : (next count : ℕ) (is : List ℕ) → all_of (λ n. nat_lt n next) is ≡ true → all_of (λ n. nat_lt n (next + count)) is ≡ true
wider next count is e = all_of_holds (λ n. nat_lt n next) (λ n. nat_lt n (next + count)) (λ n d. grind (arith, nat_tests)) is e

pub adds-here : (next count : ℕ) (is : List ℕ) → Adds next count is (is ++ numbers_from next count)
adds-here next count is =
    record {
      times_more = λ m. times_append m is (numbers_from next count);
      number_more = length-append is (numbers_from next count) ∙ ap (λ n. length is + n) (length_numbers next count);
      below = λ e. all_of_append (λ n. nat_lt n (next + count)) is (numbers_from next count)
          ∙ and_from (all_of (λ n. nat_lt n (next + count)) is) (all_of (λ n. nat_lt n (next + count)) (numbers_from next count)) (wider next count is e)
          (from-below next count (next + count) (omega arith));
    }

pub adds-within : (next count : ℕ) (before is js after : List ℕ) → Adds next count is js → Adds next count (before ++ (is ++ after)) (before ++ (js ++ after))
adds-within next count before is js after h =
    record {
      times_more = λ m. omega (arith, times_append m before (is ++ after), times_append m is after, times_append m before (js ++ after), times_append m js after, h.times_more m);
      number_more = omega (arith, length-append before (is ++ after), length-append is after, length-append before (js ++ after), length-append js after, h.number_more);
      below = λ e.
          let test : ℕ → Bool = λ n. nat_lt n (next + count) in
          let old : ℕ → Bool = λ n. nat_lt n next in
          let p = and_parts (all_of old before) (all_of old (is ++ after)) (sym (all_of_append old before (is ++ after)) ∙ e) in
          let q = and_parts (all_of old is) (all_of old after) (sym (all_of_append old is after) ∙ p.1) in
          all_of_append test before (js ++ after)
          ∙ and_from (all_of test before) (all_of test (js ++ after)) (wider next count before p.0)
          (all_of_append test js after ∙ and_from (all_of test js) (all_of test after) (h.below q.0) (wider next count after q.1));
    }

pub adds-once : (next count : ℕ) (is js : List ℕ) → Adds next count is js → Numbered next is → (m : ℕ) → times m js ≤ 1
adds-once next count is js h old m = by (nat_lt m next) refl
  where
    by : (t : Bool) → nat_lt m next ≡ t → times m js ≤ 1
    by true e =
        let less : m < next = grind (arith, nat_tests) in
        omega (arith, h.times_more m, counts_of_distinct is old.unique m, from-not-below m next count less)
    by false e =
        let least : next ≤ m = grind (arith, nat_tests) in
        omega (arith, h.times_more m, none-above m next is least old.below, from-once m next count)
