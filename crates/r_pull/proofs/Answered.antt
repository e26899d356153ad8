-- The numbers of the lambda: the copies of the region that changes have those that follow.
use Rattle.std.specs.Option.{option_or}
use Rattle.std.proofs.Common.{◌≡◌, ◌≤◌, ◌<◌, ◌+◌, ℕ, zero, suc, ◌==◌, Bool, true, false, ◌&&◌, cond, List, [], ◌∷◌, ◌++◌, Option, None, Some, option_map, refl, ap, subst, ◌∙◌, arith}
use Rattle.std.specs.Prelude.{nat_lt}
use Rattle.std.proofs.lemmas.Bool.{and_parts}
use Rattle.std.proofs.lemmas.Bool.Decides.{nat_tests}
use Rattle.std.proofs.lemmas.Option.{same_Some}
use Rattle.g_graph.specs.Plain.{RegionTree, region, NodeTree, node, NodeTrees, no_nodes, node_then, RegionTrees, no_regions, region_then}
use Rattle.g_graph.specs.Ids.{region_ids, node_ids, nodes_ids, regions_ids}
use Rattle.g_graph.specs.Change.{region_changed, node_changed, nodes_changed, regions_changed}
use Rattle.g_graph.specs.WellFormed.{all_of}
use Rattle.g_graph.proofs.lemmas.Numbers.{Numbered}
use Rattle.g_graph.proofs.lemmas.Unique.{times, times_append, times_cons, counts_of_distinct, distinct_of_counts, same_number}
use Rattle.r_pull.specs.Rule.{region_answer, node_answer, nodes_answer, regions_answer}
use Rattle.r_pull.proofs.Counted.{counted}

-- ---- numbers that follow others

counted-before : (m first count : ℕ) → m < first → times m (counted first count) ≡ 0
counted-before m first zero b = omega arith
counted-before m first (suc count) b = by (first == m) refl (times_cons m first (counted (suc first) count)) (counted-before m (suc first) count (omega (arith, b)))
  where
    by : (t : Bool) → (first == m) ≡ t → times m (first ∷ counted (suc first) count) ≡ cond t 1 0 + times m (counted (suc first) count) → times m (counted (suc first) count) ≡ 0 →
        times m (first ∷ counted (suc first) count) ≡ 0
    by true e c rest =
        let same : first ≡ m = same_number first m e in
        absurd (omega (arith, b, same))
    by false e c rest = omega (arith, c, rest)

counted-once : (m first count : ℕ) → times m (counted first count) ≤ 1
counted-once m first zero = omega arith
counted-once m first (suc count) = by (first == m) refl (times_cons m first (counted (suc first) count)) (counted-once m (suc first) count)
  where
    by : (t : Bool) → (first == m) ≡ t → times m (first ∷ counted (suc first) count) ≡ cond t 1 0 + times m (counted (suc first) count) → times m (counted (suc first) count) ≤ 1 →
        times m (first ∷ counted (suc first) count) ≤ 1
    by true e c rest =
        let same : first ≡ m = same_number first m e in
        omega (arith, c, counted-before m (suc first) count (omega (arith, same)))
    by false e c rest = omega (arith, c, rest)

counted-after : (m first count : ℕ) → first + count ≤ m → times m (counted first count) ≡ 0
counted-after m first zero b = omega arith
counted-after m first (suc count) b = by (first == m) refl (times_cons m first (counted (suc first) count)) (counted-after m (suc first) count (omega (arith, b)))
  where
    by : (t : Bool) → (first == m) ≡ t → times m (first ∷ counted (suc first) count) ≡ cond t 1 0 + times m (counted (suc first) count) → times m (counted (suc first) count) ≡ 0 →
        times m (first ∷ counted (suc first) count) ≡ 0
    by true e c rest =
        let same : first ≡ m = same_number first m e in
        absurd (omega (arith, same, b))
    by false e c rest = omega (arith, c, rest)

pub none-from : (next : ℕ) (is : List ℕ) → all_of (λ n. nat_lt n next) is ≡ true → (m : ℕ) → next ≤ m → times m is ≡ 0
none-from next [] e m b = omega arith
none-from next (i ∷ is) e m b =
    let both = and_parts (nat_lt i next) (all_of (λ n. nat_lt n next) is) e in
    let small : i < next = grind (arith, nat_tests, both.0) in
    by (i == m) refl small (times_cons m i is) (none-from next is both.1 m b)
  where
    by : (t : Bool) → (i == m) ≡ t → i < next → times m (i ∷ is) ≡ cond t 1 0 + times m is → times m is ≡ 0 → times m (i ∷ is) ≡ 0
    by true d small c rest =
        let same : i ≡ m = same_number i m d in
        absurd (omega (arith, same, small, b))
    by false d small c rest = omega (arith, c, rest)

all-below : (bound : ℕ) (js : List ℕ) → ((m : ℕ) → bound ≤ m → times m js ≡ 0) → all_of (λ n. nat_lt n bound) js ≡ true
all-below bound [] h = refl
all-below bound (j ∷ js) h =
    let rest = all-below bound js (λ m b. omega (arith, h m b, times_cons m j js)) in
    λ i. first i && rest i
  where
    own : times j (j ∷ js) ≡ 1 + times j js
    own = times_cons j j js ∙ ap (λ t. cond t 1 0 + times j js) (itself j)
      where
        itself : (n : ℕ) → (n == n) ≡ true
        itself n = grind (arith, nat_tests)

    first : nat_lt j bound ≡ true
    first = by (nat_lt j bound) refl
      where
        by : (t : Bool) → nat_lt j bound ≡ t → t ≡ true
        by true e = refl
        by false e =
            let late : bound ≤ j = grind (arith, nat_tests) in
            absurd (omega (arith, own, h j late))

-- unique numbers below the next, and so many after them
pub numbered-more : (next count : ℕ) (is js : List ℕ) → ((m : ℕ) → times m js ≤ times m is + times m (counted next count)) → Numbered next is → Numbered (next + count) js
numbered-more next count is js more numbers =
    record {
      unique = distinct_of_counts js (λ m. by m (nat_lt m next) refl);
      below = all-below (next + count) js (λ m b. omega (arith, more m, none-from next is numbers.below m (omega (arith, b)), counted-after m next count b));
    }
  where
    by : (m : ℕ) (t : Bool) → nat_lt m next ≡ t → times m js ≤ 1
    by m true e =
        let small : m < next = grind (arith, nat_tests) in
        omega (arith, more m, counts_of_distinct is numbers.unique m, counted-before m next count small)
    by m false e =
        let late : next ≤ m = grind (arith, nat_tests) in
        omega (arith, more m, none-from next is numbers.below m late, counted-once m next count)

-- ---- the region that changes

pub record Answers (next : ℕ) (answer : Option ℕ) (is js : List ℕ) : Type 0 where
  pub count : ℕ
  pub gives : answer ≡ Some count
  pub ids : (m : ℕ) → times m js ≤ times m is + times m (counted next count)

module _ (next : ℕ) (f : RegionTree → Option RegionTree) (g : RegionTree → Option ℕ) (local : (r s : RegionTree) → f r ≡ Some s → Answers next (g r) (region_ids r) (region_ids s))
    (none : (r : RegionTree) → f r ≡ None → g r ≡ None) where
  mutual
    pub region_silent : (r : RegionTree) → region_changed f r ≡ None → region_answer g r ≡ None
    region_silent (region args nodes results) e = by (f (region args nodes results)) refl (nodes_changed f nodes) refl e (nodes_silent nodes)
      where
        by : (here : Option RegionTree) → f (region args nodes results) ≡ here → (rest : Option NodeTrees) → nodes_changed f nodes ≡ rest →
            option_or here (option_map (λ ns. region args ns results) rest) ≡ None → (nodes_changed f nodes ≡ None → nodes_answer g nodes ≡ None) →
            option_or (g (region args nodes results)) (nodes_answer g nodes) ≡ None
        by (Some s) a rest b d more = absurd cc
        by None a (Some ms) b d more = absurd cc
        by None a None b d more = ap (λ o. option_or o (nodes_answer g nodes)) (none (region args nodes results) a) ∙ more b

    node_silent : (x : NodeTree) → node_changed f x ≡ None → node_answer g x ≡ None
    node_silent (node id op inputs rs) e = by (regions_changed f rs) refl e (regions_silent rs)
      where
        by : (rest : Option RegionTrees) → regions_changed f rs ≡ rest → option_map (λ ss. node id op inputs ss) rest ≡ None → (regions_changed f rs ≡ None → regions_answer g rs ≡ None) →
            regions_answer g rs ≡ None
        by (Some ss) b d more = absurd cc
        by None b d more = more b

    nodes_silent : (ns : NodeTrees) → nodes_changed f ns ≡ None → nodes_answer g ns ≡ None
    nodes_silent no_nodes e = refl
    nodes_silent (node_then x xs) e = by (node_changed f x) refl (nodes_changed f xs) refl e (node_silent x) (nodes_silent xs)
      where
        by : (first : Option NodeTree) → node_changed f x ≡ first → (rest : Option NodeTrees) → nodes_changed f xs ≡ rest →
            option_or (option_map (λ y. node_then y xs) first) (option_map (λ ys. node_then x ys) rest) ≡ None → (node_changed f x ≡ None → node_answer g x ≡ None) →
            (nodes_changed f xs ≡ None → nodes_answer g xs ≡ None) → option_or (node_answer g x) (nodes_answer g xs) ≡ None
        by (Some y) a rest b d one more = absurd cc
        by None a (Some ys) b d one more = absurd cc
        by None a None b d one more = ap (λ o. option_or o (nodes_answer g xs)) (one a) ∙ more b

    regions_silent : (rs : RegionTrees) → regions_changed f rs ≡ None → regions_answer g rs ≡ None
    regions_silent no_regions e = refl
    regions_silent (region_then r rs) e = by (region_changed f r) refl (regions_changed f rs) refl e (region_silent r) (regions_silent rs)
      where
        by : (first : Option RegionTree) → region_changed f r ≡ first → (rest : Option RegionTrees) → regions_changed f rs ≡ rest →
            option_or (option_map (λ s. region_then s rs) first) (option_map (λ ss. region_then r ss) rest) ≡ None → (region_changed f r ≡ None → region_answer g r ≡ None) →
            (regions_changed f rs ≡ None → regions_answer g rs ≡ None) → option_or (region_answer g r) (regions_answer g rs) ≡ None
        by (Some s) a rest b d one more = absurd cc
        by None a (Some ss) b d one more = absurd cc
        by None a None b d one more = ap (λ o. option_or o (regions_answer g rs)) (one a) ∙ more b

  -- numbers before and after those that change
  around : (answer later : Option ℕ) (before is js after : List ℕ) → Answers next answer is js → Answers next (option_or answer later) (before ++ (is ++ after)) (before ++ (js ++ after))
  around answer later before is js after h =
      record {
        count = h.count;
        gives = ap (λ o. option_or o later) h.gives;
        ids = λ m.
            omega (
              arith,
              h.ids m,
              times_append m before (is ++ after),
              times_append m is after,
              times_append m before (js ++ after),
              times_append m js after,
            );
      }

  later : (answer rest : Option ℕ) (before is js : List ℕ) → answer ≡ None → Answers next rest is js → Answers next (option_or answer rest) (before ++ is) (before ++ js)
  later answer rest before is js e h =
      record {
        count = h.count;
        gives = ap (λ o. option_or o rest) e ∙ h.gives;
        ids = λ m. omega (arith, h.ids m, times_append m before is, times_append m before js);
      }

  mutual
    pub region_answers : (r s : RegionTree) → region_changed f r ≡ Some s → Answers next (region_answer g r) (region_ids r) (region_ids s)
    region_answers (region args nodes results) s e = by (f (region args nodes results)) refl (nodes_changed f nodes) refl e (nodes_answers nodes)
      where
        by : (here : Option RegionTree) → f (region args nodes results) ≡ here → (rest : Option NodeTrees) → nodes_changed f nodes ≡ rest →
            option_or here (option_map (λ ns. region args ns results) rest) ≡ Some s →
            ((ms : NodeTrees) → nodes_changed f nodes ≡ Some ms → Answers next (nodes_answer g nodes) (nodes_ids nodes) (nodes_ids ms)) →
            Answers next (option_or (g (region args nodes results)) (nodes_answer g nodes)) (nodes_ids nodes) (region_ids s)
        by (Some t) a rest b d more =
            let h = local (region args nodes results) s (a ∙ d) in
            record { count = h.count; gives = ap (λ o. option_or o (nodes_answer g nodes)) h.gives; ids = h.ids }
        by None a (Some ms) b d more =
            let h = more ms b in
            subst (λ t. Answers next (option_or (g (region args nodes results)) (nodes_answer g nodes)) (nodes_ids nodes) (region_ids t)) (same_Some (region args ms results) s d)
            (record { count = h.count; gives = ap (λ o. option_or o (nodes_answer g nodes)) (none (region args nodes results) a) ∙ h.gives; ids = h.ids })
        by None a None b d more = absurd cc

    node_answers : (x y : NodeTree) → node_changed f x ≡ Some y → Answers next (node_answer g x) (node_ids x) (node_ids y)
    node_answers (node id op inputs rs) y e = by (regions_changed f rs) refl e (regions_answers rs)
      where
        by : (rest : Option RegionTrees) → regions_changed f rs ≡ rest → option_map (λ ss. node id op inputs ss) rest ≡ Some y →
            ((ss : RegionTrees) → regions_changed f rs ≡ Some ss → Answers next (regions_answer g rs) (regions_ids rs) (regions_ids ss)) →
            Answers next (regions_answer g rs) (id ∷ regions_ids rs) (node_ids y)
        by None b d more = absurd cc
        by (Some ss) b d more =
            let h = more ss b in
            subst (λ z. Answers next (regions_answer g rs) (id ∷ regions_ids rs) (node_ids z)) (same_Some (node id op inputs ss) y d)
            (record { count = h.count; gives = h.gives; ids = λ m. omega (arith, h.ids m, times_cons m id (regions_ids rs), times_cons m id (regions_ids ss)) })

    nodes_answers : (ns ms : NodeTrees) → nodes_changed f ns ≡ Some ms → Answers next (nodes_answer g ns) (nodes_ids ns) (nodes_ids ms)
    nodes_answers no_nodes ms e = absurd cc
    nodes_answers (node_then x xs) ms e = by (node_changed f x) refl (nodes_changed f xs) refl e (node_answers x) (nodes_answers xs)
      where
        by : (first : Option NodeTree) → node_changed f x ≡ first → (rest : Option NodeTrees) → nodes_changed f xs ≡ rest →
            option_or (option_map (λ y. node_then y xs) first) (option_map (λ ys. node_then x ys) rest) ≡ Some ms →
            ((y : NodeTree) → node_changed f x ≡ Some y → Answers next (node_answer g x) (node_ids x) (node_ids y)) →
            ((ys : NodeTrees) → nodes_changed f xs ≡ Some ys → Answers next (nodes_answer g xs) (nodes_ids xs) (nodes_ids ys)) →
            Answers next (option_or (node_answer g x) (nodes_answer g xs)) (node_ids x ++ nodes_ids xs) (nodes_ids ms)
        by (Some y) a rest b d one more =
            subst (λ zs. Answers next (option_or (node_answer g x) (nodes_answer g xs)) (node_ids x ++ nodes_ids xs) (nodes_ids zs)) (same_Some (node_then y xs) ms d)
            (around (node_answer g x) (nodes_answer g xs) [] (node_ids x) (node_ids y) (nodes_ids xs) (one y a))
        by None a (Some ys) b d one more =
            subst (λ zs. Answers next (option_or (node_answer g x) (nodes_answer g xs)) (node_ids x ++ nodes_ids xs) (nodes_ids zs)) (same_Some (node_then x ys) ms d)
            (later (node_answer g x) (nodes_answer g xs) (node_ids x) (nodes_ids xs) (nodes_ids ys) (node_silent x a) (more ys b))
        by None a None b d one more = absurd cc

    regions_answers : (rs ss : RegionTrees) → regions_changed f rs ≡ Some ss → Answers next (regions_answer g rs) (regions_ids rs) (regions_ids ss)
    regions_answers no_regions ss e = absurd cc
    regions_answers (region_then r rs) ss e = by (region_changed f r) refl (regions_changed f rs) refl e (region_answers r) (regions_answers rs)
      where
        by : (first : Option RegionTree) → region_changed f r ≡ first → (rest : Option RegionTrees) → regions_changed f rs ≡ rest →
            option_or (option_map (λ s. region_then s rs) first) (option_map (λ qs. region_then r qs) rest) ≡ Some ss →
            ((s : RegionTree) → region_changed f r ≡ Some s → Answers next (region_answer g r) (region_ids r) (region_ids s)) →
            ((qs : RegionTrees) → regions_changed f rs ≡ Some qs → Answers next (regions_answer g rs) (regions_ids rs) (regions_ids qs)) →
            Answers next (option_or (region_answer g r) (regions_answer g rs)) (region_ids r ++ regions_ids rs) (regions_ids ss)
        by (Some s) a rest b d one more =
            subst (λ zs. Answers next (option_or (region_answer g r) (regions_answer g rs)) (region_ids r ++ regions_ids rs) (regions_ids zs)) (same_Some (region_then s rs) ss d)
            (around (region_answer g r) (regions_answer g rs) [] (region_ids r) (region_ids s) (regions_ids rs) (one s a))
        by None a (Some qs) b d one more =
            subst (λ zs. Answers next (option_or (region_answer g r) (regions_answer g rs)) (region_ids r ++ regions_ids rs) (regions_ids zs)) (same_Some (region_then r qs) ss d)
            (later (region_answer g r) (regions_answer g rs) (region_ids r) (regions_ids rs) (regions_ids qs) (region_silent r a) (more qs b))
        by None a None b d one more = absurd cc
