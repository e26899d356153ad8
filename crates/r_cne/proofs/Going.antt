-- The sweep at a cursor.
use Rattle.std.proofs.Common.{◌≡◌, ◌≤◌, ◌<◌, ◌+◌, ◌*◌, ℕ, suc, ◌==◌, Bool, true, false, Option, None, Some, List, [], ◌∷◌, map, length, take, Result, Ok, Err, OnErr, refl, sym, ap, subst, ◌∙◌, arith}
use Rattle.std.specs.Prelude.{if◌then◌else◌}
use Rattle.std.proofs.lemmas.Option.{same_Some}
use Rattle.r_rule.specs.declared.steps.Step.{Step}
use Rattle.g_graph.specs.Plain.{PlainLambda}
use Rattle.g_graph.specs.Ids.{region_ids}
use Rattle.g_graph.specs.WellFormed.{IsWellFormed}
use Rattle.cell_lists.specs.Lists.{first_or, last_or}
use Rattle.g_arena_def.specs.Flat.{FlatNode, Flat, StandsFor}
use Rattle.g_arena_def.specs.Reads.{ids, found, first_node, last_node, node_after, pair_of, ends_of}
use Rattle.g_arena_def.specs.Size.{lambda_size}
use Rattle.g_arena_use.specs.Kept.{Kept}
use Rattle.r_sweep_def.specs.Listed.{Listed, stepped_in, swept_in}
use Rattle.r_sweep.specs.Fast.{IsWhole, HasSwept}
use Rattle.r_sweep.specs.Measure.{flat_size, flat_named}
use Rattle.r_sweep.specs.Walk.{passed, left}
use Rattle.r_sweep.proofs.lemmas.Sizes.{numbers_are, size_within, uses_within}
use Rattle.r_sweep.proofs.lemmas.Steps.{SweptTo, begins, goes_on, ends}
use Rattle.r_sweep.proofs.lemmas.Walks.{at_found, left_numbers, first_left, first_passed, first_there, after_there}
use Rattle.r_sweep.proofs.lemmas.Whole.{once_whole, whole_after, has_swept}
use Rattle.r_cne.specs.Rule.{cne}
use Rattle.r_cne.specs.SweepLaws.{CneIsListed, CneSweepsAreListed, cne_change}
use Rattle.r_cne.specs.Listed.{cne_in}
use Rattle.r_cne.specs.First.{AreFirst, IsThere, number, numbers_left, cost_left}
use Rattle.r_cne.proofs.Visits.{numbers_here}

-- the node at the cursor is there
abbrev pub IsCursor : Option ℕ → Flat → Type 0
IsCursor None a = Unit {0}
IsCursor (Some n) a = IsThere n a

-- the list and the log at the start, and how many looks there were
pub record Start : Type 0 where
  pub nodes : Flat
  pub steps : List Step
  pub looks : ℕ

abbrev pub at_start : Start → Listed
at_start s = record { nodes = s.nodes; steps = s.steps }

pub record IsGoing (s : Start) (a : Flat) (log : List Step) (ks : List Kept) (next : Option ℕ) (looks : ℕ) : Type 0 where
  pub swept : SweptTo cne_change cne_in (ids s.nodes) (at_start s) (record { nodes = a; steps = log }) (numbers_left next a)
  pub whole : IsWhole a
  pub there : IsCursor next a
  pub first : AreFirst ks (passed number next a.nodes)
  pub cost : looks + cost_left next a ≤ s.looks + 1 + cost_left (first_node s.nodes) s.nodes

-- ---- the start

last_some : (b : Option ℕ) (n : ℕ) (ns : List ℕ) → last_or b (n ∷ ns) ≡ None → ⊥
last_some b n [] e = cc
last_some b n (m ∷ ns) e = last_some (Some n) m ns e

pub no_ends : (a : Flat) → ends_of a ≡ None → first_node a ≡ None
no_ends a e = by (ids a) e
  where
    by : (ns : List ℕ) → pair_of (first_or None ns) (last_or None ns) ≡ None → first_or None ns ≡ None
    by [] d = refl
    by (n ∷ ns) d = by_last (last_or None (n ∷ ns)) refl d
      where
        by_last : (o : Option ℕ) → last_or None (n ∷ ns) ≡ o → pair_of (Some n) o ≡ None → Some n ≡ None
        by_last None q r = absurd (last_some None n ns q)
        by_last (Some m) q r = absurd cc

pub some_ends : (a : Flat) (first last : ℕ) → ends_of a ≡ Some (first, last) → first_node a ≡ Some first
some_ends a first last e = by (first_node a) (last_node a) e
  where
    by : (o p : Option ℕ) → pair_of o p ≡ Some (first, last) → o ≡ Some first
    by None p d = absurd cc
    by (Some n) None d = absurd cc
    by (Some n) (Some m) d = let same : (n, m) ≡ (first, last) = same_Some (n, m) (first, last) d in ap (λ (q : ℕ × ℕ). Some q.0) same

all_left : (a : Flat) → numbers_left (first_node a) a ≡ ids a
all_left a = left_numbers number (first_node a) a.nodes ∙ ap (map number) (first_left number a.nodes)

pub start_goes : (s : Start) → IsWhole s.nodes → IsGoing s s.nodes s.steps [] (first_node s.nodes) (s.looks + 1)
start_goes s whole = record {
  swept = subst (SweptTo cne_change cne_in (ids s.nodes) (at_start s) (at_start s)) (sym (all_left s.nodes)) (begins cne_change cne_in (ids s.nodes) (at_start s));
  whole = whole;
  there = by (first_node s.nodes) refl;
  first = subst (AreFirst []) (sym (first_passed number s.nodes.nodes)) (λ p op is c. refl);
  cost = omega arith;
}
  where
    by : (o : Option ℕ) → first_node s.nodes ≡ o → IsCursor o s.nodes
    by None e = tt
    by (Some k) e = let t = first_there number k s.nodes.nodes e in (t.0, at_found k t.0 s.nodes.nodes t.1)

-- ---- a step

found_too : (k : ℕ) (x : FlatNode) (xs ys : List FlatNode) → map number ys ≡ map number xs → found k xs ≡ Some x → (y : FlatNode) × (found k ys ≡ Some y)
found_too k x [] ys e h = absurd cc
found_too k x (z ∷ zs) [] e h = absurd cc
found_too k x (z ∷ zs) (y ∷ ys) e h =
    let first : y.id ≡ z.id = cc in
    let rest : map number ys ≡ map number zs = cc in
    by (y.id == k) refl (ap (λ i. i == k) first) h (λ d. found_too k x zs ys rest d)
  where
    by : (t : Bool) → (y.id == k) ≡ t → (y.id == k) ≡ (z.id == k) → (if z.id == k then Some z else found k zs) ≡ Some x → (found k zs ≡ Some x → (w : FlatNode) × (found k ys ≡ Some w)) →
        (w : FlatNode) × (found k (y ∷ ys) ≡ Some w)
    by true q s d f = (y, ap (λ t. if t then Some y else found k ys) q)
    by false q s d f =
        let w = f (ap (λ t. if t then Some z else found k zs) (sym (sym s ∙ q)) ∙ d) in
        (w.0, ap (λ t. if t then Some y else found k ys) q ∙ w.1)

module _ (listed : CneIsListed) (keeps : (n : ℕ) (l : PlainLambda) → IsWellFormed l → IsWellFormed (cne n l)) where
  pub next_goes : (s : Start) (a b : Flat) (log now : List Step) (ks js : List Kept) (n : ℕ) (looks spent : ℕ) → IsGoing s a log ks (Some n) looks →
      record { nodes = b; steps = now } ≡ stepped_in cne_change n (record { nodes = a; steps = log }) (cne_in n a) → ids b ≡ ids a →
      AreFirst js (passed number (node_after n a) b.nodes) → spent + cost_left (node_after n a) b ≤ looks + cost_left (Some n) a → IsGoing s b now js (node_after n a) spent
  next_goes s a b log now ks js n looks spent g step same first cost = record {
    swept = goes_on cne_change cne_in (ids s.nodes) (at_start s) (record { nodes = a; steps = log }) (record { nodes = b; steps = now }) n (numbers_left (node_after n a) b)
        (subst (SweptTo cne_change cne_in (ids s.nodes) (at_start s) (record { nodes = a; steps = log })) (numbers_here n a g.there.0 g.whole g.there.1 ∙ (λ i. n ∷ left (λ k. k) (node_after n a) (sym same i))) g.swept) step;
    whole = by_step (cne_in n a) refl (ap (λ (t : Listed). t.nodes) step);
    there = by_next (node_after n a) refl;
    first = first;
    cost = omega (arith, cost, g.cost);
  }
    where
      by_step : (o : Option Flat) → cne_in n a ≡ o → b ≡ (stepped_in cne_change n (record { nodes = a; steps = log }) o).nodes → IsWhole b
      by_step None e d = subst IsWhole (sym d) g.whole
      by_step (Some c) e d = subst IsWhole (sym d) (whole_after cne_change cne_in listed keeps n a c g.whole e)

      by_next : (o : Option ℕ) → node_after n a ≡ o → IsCursor o b
      by_next None e = tt
      by_next (Some k) e =
          let t = after_there number n k a.nodes (once_whole a g.whole) e in
          found_too k t.0 a.nodes b.nodes same (at_found k t.0 a.nodes t.1)

  pub fewer_left : (a b : Flat) (n : ℕ) (x : FlatNode) → IsWhole a → found n a.nodes ≡ Some x → ids b ≡ ids a → length (numbers_left (node_after n a) b) < length (numbers_left (Some n) a)
  fewer_left a b n x whole e same =
      omega (arith, ap length (numbers_here n a x whole e), ap length (ap (left (λ k. k) (node_after n a)) same))

-- ---- the end

pub ended : (sweeps : CneSweepsAreListed) (s : Start) (a : Flat) (log : List Step) (ks : List Kept) (looks : ℕ) → IsGoing s a log ks None looks →
    (l : PlainLambda) → StandsFor s.nodes l → IsWellFormed l → HasSwept cne_change (region_ids l.body) l s.steps a log
ended sweeps s a log ks looks g l stands well =
    has_swept cne_change cne_in sweeps (region_ids l.body) s.nodes a s.steps log l stands well
    (ends cne_change cne_in (ids s.nodes) (at_start s) (record { nodes = a; steps = log }) g.swept
    ∙ ap (λ ns. swept_in cne_change cne_in ns (at_start s)) (ap ids stands ∙ numbers_are l))

pub stopped : (sweeps : CneSweepsAreListed) (s : Start) (a : Flat) (log : List Step) (ks : List Kept) (next : Option ℕ) (looks : ℕ) → IsGoing s a log ks next looks →
    (l : PlainLambda) → StandsFor s.nodes l → IsWellFormed l → (count : ℕ) × HasSwept cne_change (take count (region_ids l.body)) l s.steps a log
stopped sweeps s a log ks next looks g l stands well = (
  g.swept.count,
  has_swept cne_change cne_in sweeps (take g.swept.count (region_ids l.body)) s.nodes a s.steps log l stands well
      (g.swept.swept ∙ ap (λ ns. swept_in cne_change cne_in (take g.swept.count ns) (at_start s)) (ap ids stands ∙ numbers_are l)),
)

counted : (xs : List FlatNode) → length (map number xs) ≡ length xs
counted [] = refl
counted (x ∷ xs) = ap suc (counted xs)

-- what was spent
pub spent_within : (s : Start) (a : Flat) (log : List Step) (ks : List Kept) (next : Option ℕ) (looks : ℕ) → IsGoing s a log ks next looks →
    (l : PlainLambda) → StandsFor s.nodes l → looks + cost_left next a ≤ s.looks + 3 * lambda_size l
spent_within s a log ks next looks g l stands =
    omega (
      arith,
      g.cost,
      ap length (all_left s.nodes),
      ap (λ ns. flat_named ns s.nodes) (all_left s.nodes),
      counted s.nodes.nodes,
      uses_within (ids s.nodes) s.nodes,
      ap flat_size stands,
      size_within l,
    )

-- ---- as the code has it

pub start_at : (s : Start) → IsWhole s.nodes → (ks : List Kept) (next : Option ℕ) (looks : ℕ) → ks ≡ [] → next ≡ first_node s.nodes → looks ≡ s.looks + 1 → IsGoing s s.nodes s.steps ks next looks
start_at s whole ks next looks e f h =
    subst (λ ls. IsGoing s s.nodes s.steps ls next looks) (sym e)
    (subst (λ o. IsGoing s s.nodes s.steps [] o looks) (sym f) (subst (λ k. IsGoing s s.nodes s.steps [] (first_node s.nodes) k) (sym h) (start_goes s whole)))

pub stopped_at : (sweeps : CneSweepsAreListed) (s : Start) (a b : Flat) (log now : List Step) (ks : List Kept) (next : Option ℕ) (looks : ℕ) → IsGoing s a log ks next looks → b ≡ a → now ≡ log →
    (l : PlainLambda) → StandsFor s.nodes l → IsWellFormed l → (count : ℕ) × HasSwept cne_change (take count (region_ids l.body)) l s.steps b now
stopped_at sweeps s a b log now ks next looks g e f l stands well =
    let h = stopped sweeps s a log ks next looks g l stands well in
    subst (λ z. (count : ℕ) × HasSwept cne_change (take count (region_ids l.body)) l s.steps z now) (sym e)
    (subst (λ ls. (count : ℕ) × HasSwept cne_change (take count (region_ids l.body)) l s.steps a ls) (sym f) h)

pub on_err : {A B : Type 0} (P : Type 0) (r : Result A B) → P → OnErr r P
on_err P (Ok x) p = tt
on_err P (Err e) p = p
