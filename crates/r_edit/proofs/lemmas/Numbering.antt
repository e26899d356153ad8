-- The numbers that copies have.
use Rattle.std.specs.Prelude.{not, if◌then◌else◌}
use Rattle.std.proofs.Common.{◌≡◌, ℕ, zero, suc, ◌+◌, ◌<◌, ◌≤◌, ◌==◌, nat_lt, Bool, true, false, ◌&&◌, List, [], ◌∷◌, ◌++◌, map, length, refl, sym, ap, ap₂, ◌∙◌, arith}
use Rattle.std.proofs.lemmas.Bool.{and_parts, or_parts}
use Rattle.std.proofs.lemmas.Bool.Decides.{nat_tests}
use Rattle.std.proofs.lemmas.List.{map-append}
use Rattle.g_graph.specs.declared.op.Origin.{Origin}
use Rattle.g_graph.specs.Plain.{RegionTree, region, node, NodeTrees, no_nodes, node_then, RegionTrees, no_regions, region_then}
use Rattle.g_graph.specs.Ids.{region_ids, nodes_ids, regions_ids}
use Rattle.g_graph.specs.WellFormed.{all_of, some_of, distinct}
use Rattle.g_graph.proofs.lemmas.Indexes.{same_number_true}
use Rattle.g_graph.proofs.lemmas.Unique.{same_number, times, times_cons}
use Rattle.g_mean.specs.Copies.{renumbered, region_copied, nodes_moved, regions_copied}
use Rattle.r_edit.specs.CopyLaws.{CopiesAreNumbered}
use Rattle.r_edit.specs.Numbering.{number_from}
use Rattle.val_core.specs.Numbers.{numbers_from}

-- ---- the new number of each number

pub number_from-least : (next : ℕ) (ms : List ℕ) (n : ℕ) → next ≤ number_from next ms n
number_from-least next [] n = omega arith
number_from-least next (m ∷ ms) n = by (m == n) (number_from-least (suc next) ms n)
  where
    by : (t : Bool) → suc next ≤ number_from (suc next) ms n → next ≤ (if t then next else number_from (suc next) ms n)
    by true h = omega arith
    by false h = omega (arith, h)

-- no two numbers become one
pub number_from-one : (next : ℕ) (ms : List ℕ) (m n : ℕ) → number_from next ms m ≡ number_from next ms n → m ≡ n
number_from-one next [] m n e = omega (arith, e)
number_from-one next (k ∷ ms) m n e = by (k == m) refl (k == n) refl e (number_from-one (suc next) ms m n)
  where
    by : (s : Bool) → (k == m) ≡ s → (t : Bool) → (k == n) ≡ t → (if s then next else number_from (suc next) ms m) ≡ (if t then next else number_from (suc next) ms n) →
        (number_from (suc next) ms m ≡ number_from (suc next) ms n → m ≡ n) → m ≡ n
    by true p true q d h = sym (same_number k m p) ∙ same_number k n q
    by true p false q d h = absurd (omega (arith, d, number_from-least (suc next) ms n))
    by false p true q d h = absurd (omega (arith, d, number_from-least (suc next) ms m))
    by false p false q d h = h d

-- ---- the numbers of a copy

mutual
  pub copied-ids : (to : ℕ → ℕ) (r : RegionTree) → region_ids (region_copied to r) ≡ map to (region_ids r)
  copied-ids to (region args nodes results) = moved-ids (renumbered to) to nodes

  pub moved-ids : (move : Origin → Origin) (to : ℕ → ℕ) (ns : NodeTrees) → nodes_ids (nodes_moved move to ns) ≡ map to (nodes_ids ns)
  moved-ids move to no_nodes = refl
  moved-ids move to (node_then (node id op inputs rs) ns) =
      ap₂ (λ xs ys. (to id ∷ xs) ++ ys) (regions-ids to rs) (moved-ids move to ns) ∙ sym (map-append to (id ∷ regions_ids rs) (nodes_ids ns))

  regions-ids : (to : ℕ → ℕ) (rs : RegionTrees) → regions_ids (regions_copied to rs) ≡ map to (regions_ids rs)
  regions-ids to no_regions = refl
  regions-ids to (region_then r rs) =
      ap₂ (λ xs ys. xs ++ ys) (copied-ids to r) (regions-ids to rs) ∙ sym (map-append to (region_ids r) (regions_ids rs))

none_of_not : (t : Bool) → not t ≡ true → t ≡ false
none_of_not true e = absurd cc
none_of_not false e = refl

-- of numbers apart from the first one
others-from : (next k : ℕ) (ms ns : List ℕ) → some_of (λ m. k == m) ns ≡ false → map (number_from next (k ∷ ms)) ns ≡ map (number_from (suc next) ms) ns
others-from next k ms [] e = refl
others-from next k ms (n ∷ ns) e =
    let parts = or_parts (k == n) (some_of (λ m. k == m) ns) e in
    ap₂ (λ x xs. x ∷ xs) (ap (λ t. if t then next else number_from (suc next) ms n) parts.0) (others-from next k ms ns parts.1)

numbers-in-turn : (next : ℕ) (ns : List ℕ) → distinct ns ≡ true → map (number_from next ns) ns ≡ numbers_from next (length ns)
numbers-in-turn next [] d = refl
numbers-in-turn next (n ∷ ns) d =
    let parts = and_parts (not (some_of (λ m. n == m) ns)) (distinct ns) d in
    ap₂ (λ x xs. x ∷ xs) (ap (λ t. if t then next else number_from (suc next) ns n) (same_number_true n))
    (others-from next n ns ns (none_of_not (some_of (λ m. n == m) ns) parts.0) ∙ numbers-in-turn (suc next) ns parts.1)

pub copies_are_numbered : CopiesAreNumbered
copies_are_numbered next r d = copied-ids (number_from next (region_ids r)) r ∙ numbers-in-turn next (region_ids r) d

-- ---- numbers from a first one on

pub from-not-below : (m next count : ℕ) → m < next → times m (numbers_from next count) ≡ 0
from-not-below m next zero h = refl
from-not-below m next (suc count) h =
    let other : (next == m) ≡ false = grind (arith, nat_tests) in
    omega (
      arith,
      times_cons m next (numbers_from (suc next) count) ∙ ap (λ t. (if t then 1 else 0) + times m (numbers_from (suc next) count)) other,
      from-not-below m (suc next) count (omega (arith, h)),
    )

pub from-once : (m next count : ℕ) → times m (numbers_from next count) ≤ 1
from-once m next zero = omega arith
from-once m next (suc count) = by (next == m) refl (times_cons m next (numbers_from (suc next) count)) (from-once m (suc next) count)
  where
    by : (t : Bool) → (next == m) ≡ t → times m (next ∷ numbers_from (suc next) count) ≡ (if next == m then 1 else 0) + times m (numbers_from (suc next) count) →
        times m (numbers_from (suc next) count) ≤ 1 → times m (next ∷ numbers_from (suc next) count) ≤ 1
    by true q e h =
        omega (
          arith,
          e ∙ ap (λ t. (if t then 1 else 0) + times m (numbers_from (suc next) count)) q,
          from-not-below m (suc next) count (omega (arith, same_number next m q)),
        )
    by false q e h = omega (arith, e ∙ ap (λ t. (if t then 1 else 0) + times m (numbers_from (suc next) count)) q, h)

pub from-below : (next count limit : ℕ) → next + count ≤ limit → all_of (λ n. nat_lt n limit) (numbers_from next count) ≡ true
from-below next zero limit h = refl
from-below next (suc count) limit h =
    let own : nat_lt next limit ≡ true = grind (arith, nat_tests) in
    λ i. own i && from-below (suc next) count limit (omega (arith, h)) i

-- a number that is not below stands not among these
pub none-above : (m next : ℕ) (ns : List ℕ) → next ≤ m → all_of (λ n. nat_lt n next) ns ≡ true → times m ns ≡ 0
none-above m next [] h a = refl
none-above m next (n ∷ ns) h a =
    let parts = and_parts (nat_lt n next) (all_of (λ k. nat_lt k next) ns) a in
    let below : nat_lt n next ≡ true = parts.0 in
    let other : (n == m) ≡ false = grind (arith, nat_tests) in
    omega (arith, times_cons m n ns ∙ ap (λ t. (if t then 1 else 0) + times m ns) other, none-above m next ns h parts.1)
