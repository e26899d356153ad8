-- The tests of the rule, on a list of nodes and in the lambda.
use Rattle.std.proofs.Common.{◌≡◌, ◌≤◌, ◌<◌, ◌+◌, ℕ, zero, suc, ◌&&◌, ◌||◌, not, nat_lt, Bool, true, false, Option, Some, List, [], ◌∷◌, map, length, refl, sym, ap, subst, ◌∙◌, arith}
use Rattle.std.specs.Prelude.{slice_get, if◌then◌else◌}
use Rattle.std.proofs.Math.Bool.{or_assoc}
use Rattle.std.proofs.lemmas.Bool.{or_parts, or_from}
use Rattle.std.proofs.lemmas.Bool.Decides.{nat_tests}
use Rattle.g_graph.specs.declared.op.Kind.{Kind}
use Rattle.g_graph.specs.declared.op.Kind.TheVariants.{Value}
use Rattle.g_graph.specs.declared.op.Origin.{Origin}
use Rattle.g_graph.specs.declared.op.Origin.TheVariants.{Arg, Out}
use Rattle.g_graph.specs.Plain.{RegionTree, region, NodeTrees, no_nodes, node_then, node, RegionTrees, no_regions, region_then, count_of}
use Rattle.g_graph.specs.Scope.{is_of, same_kind, same_origin}
use Rattle.g_graph.specs.WellFormed.{some_of, is_origin}
use Rattle.g_graph.specs.Nodes.{nodes_use, is_used}
use Rattle.g_graph.proofs.lemmas.Unique.{equal_back}
use Rattle.g_arena_def.specs.declared.place.Place.{Place}
use Rattle.g_arena_def.specs.Flat.{FlatNode, Flat, place_in}
use Rattle.g_arena_def.specs.Reads.{times, uses_in}
use Rattle.r_edit.specs.Places.{stays_at, kept, drops_values}
use Rattle.r_edit.specs.Uses.{is_read}
use Rattle.r_edit.specs.Entries.{some_reads, is_gone_argument}
use Rattle.r_edit.proofs.lemmas.Kept.{some_fewer}
use Rattle.r_dne.specs.Rule.{used_exits, some_uses, used_entries, others_use, used_variables}
use Rattle.r_sweep.proofs.lemmas.Reading.{nodes_times, region_times, times_in, nth_region, unused, unused_times, unread}
use Rattle.r_dne.specs.Listed.{has_use, some_output_used, used_outputs, some_region_uses, used_arguments, used_loops}

pub same_test : (a b : Bool) → (a ≡ false → b ≡ false) → (b ≡ false → a ≡ false) → a ≡ b
same_test true true f g = refl
same_test false false f g = refl
same_test true false f g = g refl
same_test false true f g = sym (f refl)

pub none_less : (c : ℕ) → c ≡ 0 → nat_lt 0 c ≡ false
none_less c e = grind (arith, nat_tests)

pub less_none : (c : ℕ) → nat_lt 0 c ≡ false → c ≡ 0
less_none c e = grind (arith, nat_tests)

pub used_is : (o : Origin) (r : RegionTree) → is_used o r ≡ nat_lt 0 (region_times o r)
used_is o r =
    same_test (is_used o r) (nat_lt 0 (region_times o r)) (λ e. none_less (region_times o r) (unused_times o r e)) (λ e. unused o r (less_none (region_times o r) e))

-- ---- outputs

module _ (a : Flat) (p : Place) (n : ℕ) (r : RegionTree) (same : (o : Origin) → has_use p o a ≡ is_used o r) where
  -- none of the outputs is used
  pub none_used : ((k : ℕ) → is_used (Out n k) r ≡ false) → (first : ℕ) (ks : List Kind) → some_output_used a p n first ks ≡ false
  none_used h first [] = refl
  none_used h first (k ∷ ks) = or_from (has_use p (Out n first) a) (some_output_used a p n (suc first) ks) (same (Out n first) ∙ h first) (none_used h (suc first) ks)

  pub output_unused : (first k : ℕ) (ks : List Kind) → some_output_used a p n first ks ≡ false → k < length ks → has_use p (Out n (first + k)) a ≡ false
  output_unused first k [] e b = absurd (omega (arith, b))
  output_unused first zero (j ∷ ks) e b =
      let here : first + 0 ≡ first = omega arith in
      ap (λ i. has_use p (Out n i) a) here ∙ (or_parts (has_use p (Out n first) a) (some_output_used a p n (suc first) ks) e).0
  output_unused first (suc k) (j ∷ ks) e b =
      let here : first + suc k ≡ suc first + k = omega arith in
      ap (λ i. has_use p (Out n i) a) here
      ∙ output_unused (suc first) k ks (or_parts (has_use p (Out n first) a) (some_output_used a p n (suc first) ks) e).1 (omega (arith, b))

  pub exits_are_same : (first : ℕ) (ks : List Kind) → used_outputs a p n first ks ≡ used_exits n r first (map Some ks)
  exits_are_same first [] = refl
  exits_are_same first (k ∷ ks) = λ i. (not (same_kind Value k) || same (Out n first) i) ∷ exits_are_same (suc first) ks i

-- those that go are values
pub exits_are_values : (n : ℕ) (r : RegionTree) (first : ℕ) (ks : List (Option Kind)) → drops_values (used_exits n r first ks) ks ≡ true
exits_are_values n r first [] = refl
exits_are_values n r first (k ∷ ks) = by (is_of Value k) (is_used (Out n first) r) refl (exits_are_values n r (suc first) ks)
  where
    by : (t u : Bool) → is_of Value k ≡ t → drops_values (used_exits n r (suc first) ks) ks ≡ true → drops_values ((not t || u) ∷ used_exits n r (suc first) ks) (k ∷ ks) ≡ true
    by false u e h = h
    by true true e h = h
    by true false e h = λ i. e i && h i

-- and are not used
pub exit_unused : (n : ℕ) (r : RegionTree) (first k : ℕ) (ks : List (Option Kind)) → stays_at (used_exits n r first ks) k ≡ false → is_used (Out n (first + k)) r ≡ false
exit_unused n r first k [] e = absurd cc
exit_unused n r first zero (j ∷ ks) e =
    let here : first + 0 ≡ first = omega arith in
    ap (λ i. is_used (Out n i) r) here ∙ (or_parts (not (is_of Value j)) (is_used (Out n first) r) e).1
exit_unused n r first (suc k) (j ∷ ks) e =
    let here : first + suc k ≡ suc first + k = omega arith in
    ap (λ i. is_used (Out n i) r) here ∙ exit_unused n r (suc first) k ks e

-- ---- arguments of a Gamma's regions

-- some of the first so many
abbrev some_below : (ℕ → Bool) → ℕ → Bool
some_below g zero = false
some_below g (suc c) = some_below g c || g c

below_first : (g : ℕ → Bool) (c : ℕ) → some_below g (suc c) ≡ (g 0 || some_below (λ j. g (suc j)) c)
below_first g zero = by (g 0)
  where
    by : (t : Bool) → (false || t) ≡ (t || false)
    by true = refl
    by false = refl
below_first g (suc c) = ap (λ t. t || g (suc c)) (below_first g c) ∙ or_assoc (g 0) (some_below (λ j. g (suc j)) c) (g (suc c))

below_same : (a : Flat) (n c : ℕ) (o : Origin) (g : ℕ → Bool) → ((j : ℕ) → has_use (place_in n j) o a ≡ g j) → some_region_uses a n c o ≡ some_below g c
below_same a n zero o g h = refl
below_same a n (suc c) o g h = λ i. below_same a n c o g h i || h c i

below_uses : (o : Origin) (rs : RegionTrees) → some_below (λ j. nat_lt 0 (times_in o (nth_region j rs))) (count_of rs) ≡ some_uses o rs
below_uses o no_regions = refl
below_uses o (region_then r rs) =
    below_first (λ j. nat_lt 0 (times_in o (nth_region j (region_then r rs)))) (count_of rs) ∙ (λ i. sym (used_is o r) i || below_uses o rs i)

pub arguments_are_same : (a : Flat) (n c : ℕ) (rs : RegionTrees) → c ≡ count_of rs → ((j : ℕ) (o : Origin) → uses_in (place_in n j) o a ≡ times_in o (nth_region j rs)) → (first : ℕ) (ks : List Kind) →
    used_arguments a n c first ks ≡ used_entries rs first ks
arguments_are_same a n c rs count same first [] = refl
arguments_are_same a n c rs count same first (k ∷ ks) =
    λ i. (ap (λ d. some_region_uses a n d (Arg first)) count
    ∙ below_same a n (count_of rs) (Arg first) (λ j. nat_lt 0 (times_in (Arg first) (nth_region j rs))) (λ j. ap (nat_lt 0) (same j (Arg first))) ∙ below_uses (Arg first) rs) i
    ∷ arguments_are_same a n c rs count same (suc first) ks i

entry_unused : (rs : RegionTrees) (first k : ℕ) (ks : List Kind) → stays_at (used_entries rs first ks) k ≡ false → some_uses (Arg (first + k)) rs ≡ false
entry_unused rs first k [] e = absurd cc
entry_unused rs first zero (j ∷ ks) e = let here : first + 0 ≡ first = omega arith in ap (λ i. some_uses (Arg i) rs) here ∙ e
entry_unused rs first (suc k) (j ∷ ks) e = let here : first + suc k ≡ suc first + k = omega arith in ap (λ i. some_uses (Arg i) rs) here ∙ entry_unused rs (suc first) k ks e

not_true : (b : Bool) → not b ≡ true → b ≡ false
not_true false e = refl
not_true true e = absurd cc

-- no region reads an argument that goes
entries_in_regions : (ts : List Bool) (rs : RegionTrees) → ((k : ℕ) → stays_at ts k ≡ false → some_uses (Arg k) rs ≡ false) → some_reads ts rs ≡ false
entries_in_regions ts no_regions h = refl
entries_in_regions ts (region_then r rs) h =
    or_from (is_read (is_gone_argument ts) r) (some_reads ts rs) (unread (is_gone_argument ts) r by)
    (entries_in_regions ts rs (λ k s. (or_parts (is_used (Arg k) r) (some_uses (Arg k) rs) (h k s)).1))
  where
    by : (o : Origin) → is_gone_argument ts o ≡ true → is_used o r ≡ false
    by (Arg k) g = (or_parts (is_used (Arg k) r) (some_uses (Arg k) rs) (h k (not_true (stays_at ts k) g))).0
    by (Out m k) g = absurd cc

pub entries_unread : (rs : RegionTrees) (ks : List Kind) → some_reads (used_entries rs 0 ks) rs ≡ false
entries_unread rs ks = entries_in_regions (used_entries rs 0 ks) rs (λ k s. let here : k ≡ 0 + k = omega arith in ap (λ i. some_uses (Arg i) rs) here ∙ entry_unused rs 0 k ks s)

-- ---- loop variables

origin_back : (o p : Origin) → same_origin o p ≡ same_origin p o
origin_back (Arg j) (Arg k) = equal_back j k
origin_back (Arg j) (Out m q) = refl
origin_back (Out n i) (Arg k) = refl
origin_back (Out n i) (Out m q) = λ j. equal_back n m j && equal_back i q j

some_are : (o : Origin) (os : List Origin) → some_of (same_origin o) os ≡ nat_lt 0 (times o os)
some_are o [] = grind (arith, nat_tests)
some_are o (a ∷ os) = by (same_origin o a) (some_are o os)
  where
    by : (t : Bool) → some_of (same_origin o) os ≡ nat_lt 0 (times o os) → (t || some_of (same_origin o) os) ≡ nat_lt 0 ((if t then 1 else 0) + times o os)
    by true e = grind (arith, nat_tests)
    by false e = e ∙ grind (arith, nat_tests)

-- how often an element is the origin
abbrev own_times : ℕ → Origin → List Origin → ℕ
own_times j o os = if is_origin (slice_get os j) o then 1 else 0

own_few : (j : ℕ) (o : Origin) (os : List Origin) → own_times j o os ≤ times o os
own_few j o [] = omega arith
own_few zero o (a ∷ os) = ap_le (same_origin a o) (same_origin o a) (origin_back a o)
  where
    ap_le : (t u : Bool) → t ≡ u → (if t then 1 else 0) ≤ (if u then 1 else 0) + times o os
    ap_le true true e = omega arith
    ap_le false u e = omega arith
    ap_le true false e = absurd cc
own_few (suc j) o (a ∷ os) = omega (arith, own_few j o os)

others_are : (j : ℕ) (o : Origin) (os : List Origin) → others_use j o os ≡ nat_lt (own_times j o os) (times o os)
others_are j o [] = grind (arith, nat_tests)
others_are zero o (a ∷ os) = by (same_origin a o) (same_origin o a) (origin_back a o)
  where
    by : (t u : Bool) → t ≡ u → some_of (same_origin o) os ≡ nat_lt (if t then 1 else 0) ((if u then 1 else 0) + times o os)
    by true true e = some_are o os ∙ grind (arith, nat_tests)
    by false false e = some_are o os ∙ grind (arith, nat_tests)
    by true false e = absurd cc
    by false true e = absurd cc
others_are (suc j) o (a ∷ os) = by (same_origin o a) (others_are j o os) (own_few j o os)
  where
    by : (t : Bool) → others_use j o os ≡ nat_lt (own_times j o os) (times o os) → own_times j o os ≤ times o os →
        (t || others_use j o os) ≡ nat_lt (own_times j o os) ((if t then 1 else 0) + times o os)
    by true e b = sym (less_than (own_times j o os) (times o os) b)
      where
        less_than : (c d : ℕ) → c ≤ d → nat_lt c (1 + d) ≡ true
        less_than c d h = grind (arith, nat_tests)
    by false e b = e ∙ grind (arith, nat_tests)

either : (a b : ℕ) → (nat_lt 0 a || nat_lt 0 b) ≡ nat_lt 0 (a + b)
either zero b = grind (arith, nat_tests)
either (suc a) b = grind (arith, nat_tests)

nodes_are : (o : Origin) (ns : NodeTrees) → nodes_use o ns ≡ nat_lt 0 (nodes_times o ns)
nodes_are o no_nodes = grind (arith, nat_tests)
nodes_are o (node_then (node id op inputs rs) ns) =
    (λ i. some_are o inputs i || nodes_are o ns i) ∙ either (times o inputs) (nodes_times o ns)

-- a variable's argument has another use than in its own result
pub argument_is : (o : Origin) (own : List Kind) (ns : NodeTrees) (outs : List Origin) (j : ℕ) →
    nat_lt (own_times j o outs) (region_times o (region own ns outs)) ≡ (nodes_use o ns || others_use j o outs)
argument_is o own ns outs j =
    sum (nodes_times o ns) (own_times j o outs) (times o outs) (own_few j o outs) ∙ (λ i. sym (nodes_are o ns) i || sym (others_are j o outs) i)
  where
    sum : (a b c : ℕ) → b ≤ c → nat_lt b (a + c) ≡ (nat_lt 0 a || nat_lt b c)
    sum zero b c h = grind (arith, nat_tests)
    sum (suc a) b c h = grind (arith, nat_tests)

pub loops_are_same : (a : Flat) (x : FlatNode) (r : RegionTree) (own all : List Kind) (ns : NodeTrees) (outs : List Origin) → ((o : Origin) → has_use x.home o a ≡ is_used o r) →
    ((o : Origin) → uses_in (place_in x.id 0) o a ≡ region_times o (region own ns outs)) → (first : ℕ) (ks : List Kind) →
    used_loops a x (record { args = all; results = outs }) first ks ≡ used_variables x.id r ns outs first ks
loops_are_same a x r own all ns outs same inner first [] = refl
loops_are_same a x r own all ns outs same inner first (k ∷ ks) =
    let o = Arg first in
    let used = (ap (nat_lt (own_times (suc first) o outs)) (inner o) ∙ argument_is o own ns outs (suc first)) in
    λ i. ((λ j. (not (same_kind Value k) || same (Out x.id first) j) || used j)
    ∙ sym (or_assoc (not (same_kind Value k) || is_used (Out x.id first) r) (nodes_use o ns) (others_use (suc first) o outs))) i
    ∷ loops_are_same a x r own all ns outs same inner (suc first) ks i

pub loops_are_values : (n : ℕ) (r : RegionTree) (ns : NodeTrees) (outs : List Origin) (first : ℕ) (ks : List Kind) → drops_values (used_variables n r ns outs first ks) (map Some ks) ≡ true
loops_are_values n r ns outs first [] = refl
loops_are_values n r ns outs first (k ∷ ks) =
    by (same_kind Value k) (is_used (Out n first) r) (nodes_use (Arg first) ns) (others_use (suc first) (Arg first) outs) refl (loops_are_values n r ns outs (suc first) ks)
  where
    by : (t u v w : Bool) → same_kind Value k ≡ t → drops_values (used_variables n r ns outs (suc first) ks) (map Some ks) ≡ true →
        drops_values ((not t || u || v || w) ∷ used_variables n r ns outs (suc first) ks) (Some k ∷ map Some ks) ≡ true
    by false u v w e h = h
    by true true v w e h = h
    by true false true w e h = h
    by true false false true e h = h
    by true false false false e h = λ i. e i && h i

-- of a variable that goes neither the output is used, nor the argument elsewhere than in its own result
pub record LoopUnused (n k : ℕ) (r : RegionTree) (ns : NodeTrees) (outs : List Origin) : Type 0 where
  pub output : is_used (Out n k) r ≡ false
  pub nodes : nodes_use (Arg k) ns ≡ false
  pub others : others_use (suc k) (Arg k) outs ≡ false

pub loop_unused : (n : ℕ) (r : RegionTree) (ns : NodeTrees) (outs : List Origin) (first k : ℕ) (ks : List Kind) → stays_at (used_variables n r ns outs first ks) k ≡ false → LoopUnused n (first + k) r ns outs
loop_unused n r ns outs first k [] e = absurd cc
loop_unused n r ns outs first zero (j ∷ ks) e =
    let here : first ≡ first + 0 = omega arith in
    let last = or_parts (not (same_kind Value j) || is_used (Out n first) r || nodes_use (Arg first) ns) (others_use (suc first) (Arg first) outs) e in
    let third = or_parts (not (same_kind Value j) || is_used (Out n first) r) (nodes_use (Arg first) ns) last.0 in
    let second = or_parts (not (same_kind Value j)) (is_used (Out n first) r) third.0 in
    subst (λ i. LoopUnused n i r ns outs) here (record { output = second.1; nodes = third.1; others = last.1 })
loop_unused n r ns outs first (suc k) (j ∷ ks) e =
    let here : suc first + k ≡ first + suc k = omega arith in
    subst (λ i. LoopUnused n i r ns outs) here (loop_unused n r ns outs (suc first) k ks e)

pub kept_others : (j : ℕ) (o : Origin) (ss : List Bool) (os : List Origin) → others_use j o os ≡ false → stays_at ss j ≡ false → some_of (same_origin o) (kept ss os) ≡ false
kept_others j o [] os e s = absurd cc
kept_others j o (t ∷ ss) [] e s = refl
kept_others zero o (false ∷ ss) (a ∷ os) e s = fewer ss os e
  where
    fewer : (us : List Bool) (qs : List Origin) → some_of (same_origin o) qs ≡ false → some_of (same_origin o) (kept us qs) ≡ false
    fewer us qs h = some_fewer (same_origin o) us qs h
kept_others zero o (true ∷ ss) (a ∷ os) e s = absurd cc
kept_others (suc j) o (true ∷ ss) (a ∷ os) e s =
    let both = or_parts (same_origin o a) (others_use j o os) e in
    or_from (same_origin o a) (some_of (same_origin o) (kept ss os)) both.0 (kept_others j o ss os both.1 s)
kept_others (suc j) o (false ∷ ss) (a ∷ os) e s = kept_others j o ss os (or_parts (same_origin o a) (others_use j o os) e).1 s
