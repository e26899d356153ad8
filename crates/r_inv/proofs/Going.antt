-- The sweep at a cursor.
use Rattle.std.proofs.Common.{◌≡◌, ◌≤◌, ◌<◌, ◌+◌, ◌*◌, ℕ, suc, ◌==◌, Bool, true, false, Option, None, Some, List, [], ◌∷◌, map, length, take, Result, Ok, Err, OnErr, refl, sym, ap, subst, ◌∙◌, arith}
use Rattle.std.specs.Prelude.{if◌then◌else◌}
use Rattle.std.proofs.lemmas.Option.{same_Some}
use Rattle.g_graph.specs.declared.op.Origin.{Origin}
use Rattle.g_graph.specs.declared.op.Origin.TheVariants.{Arg, Out}
use Rattle.r_rule.specs.declared.steps.Step.{Step}
use Rattle.g_graph.specs.Plain.{PlainLambda}
use Rattle.g_graph.specs.Ids.{region_ids}
use Rattle.g_graph.specs.WellFormed.{IsWellFormed}
use Rattle.cell_lists.specs.Lists.{first_or, last_or}
use Rattle.g_arena_def.specs.Flat.{FlatRegion, FlatNode, Flat, StandsFor, is_in}
use Rattle.g_arena_def.specs.Reads.{ids, found, first_node, last_node, node_after, pair_of, ends_of}
use Rattle.g_arena_def.specs.Size.{lambda_size}
use Rattle.r_sweep_def.specs.Listed.{Listed, stepped_in, swept_in}
use Rattle.r_sweep.specs.Fast.{IsWhole, HasSwept}
use Rattle.r_sweep.specs.Measure.{regions_size, nodes_size, flat_size, named, inputs_named, regions_named, results_named, flat_named}
use Rattle.r_sweep.specs.Walk.{left}
use Rattle.r_sweep.proofs.lemmas.Sizes.{numbers_are, size_within}
use Rattle.r_sweep.proofs.lemmas.Steps.{SweptTo, begins, goes_on, ends}
use Rattle.r_sweep.proofs.lemmas.Walks.{at_found, left_numbers, first_left, first_there, after_there}
use Rattle.r_sweep.proofs.lemmas.Whole.{once_whole, whole_after, has_swept}
use Rattle.r_inv.specs.Rule.{inv}
use Rattle.r_inv.specs.SweepLaws.{InvIsListed, InvSweepsAreListed, inv_change}
use Rattle.r_inv.specs.Listed.{inv_in}
use Rattle.r_inv.specs.Cost.{IsThere, number, results_in, node_cost, nodes_cost, numbers_left, cost_left}
use Rattle.r_inv.proofs.Visits.{numbers_here}

-- the node at the cursor is there
abbrev pub IsCursor : Option ℕ → Flat → Type 0
IsCursor None a = Unit {0}
IsCursor (Some n) a = IsThere n a

-- the list and the log at the start, and how many looks there were
pub record Start : Type 0 where
  pub nodes : Flat
  pub steps : List Step
  pub looks : ℕ

abbrev pub at_start : Start → Listed
at_start s = record { nodes = s.nodes; steps = s.steps }

pub record IsGoing (s : Start) (a : Flat) (log : List Step) (next : Option ℕ) (looks : ℕ) : Type 0 where
  pub swept : SweptTo inv_change inv_in (ids s.nodes) (at_start s) (record { nodes = a; steps = log }) (numbers_left next a)
  pub whole : IsWhole a
  pub there : IsCursor next a
  pub cost : looks + cost_left next a ≤ s.looks + 1 + cost_left (first_node s.nodes) s.nodes

-- ---- the start

last_some : (b : Option ℕ) (n : ℕ) (ns : List ℕ) → last_or b (n ∷ ns) ≡ None → ⊥
last_some b n [] e = cc
last_some b n (m ∷ ns) e = last_some (Some n) m ns e

pub no_ends : (a : Flat) → ends_of a ≡ None → first_node a ≡ None
no_ends a e = by (ids a) e
  where
    by : (ns : List ℕ) → pair_of (first_or None ns) (last_or None ns) ≡ None → first_or None ns ≡ None
    by [] d = refl
    by (n ∷ ns) d = by_last (last_or None (n ∷ ns)) refl d
      where
        by_last : (o : Option ℕ) → last_or None (n ∷ ns) ≡ o → pair_of (Some n) o ≡ None → Some n ≡ None
        by_last None q r = absurd (last_some None n ns q)
        by_last (Some m) q r = absurd cc

pub some_ends : (a : Flat) (first last : ℕ) → ends_of a ≡ Some (first, last) → first_node a ≡ Some first
some_ends a first last e = by (first_node a) (last_node a) e
  where
    by : (o p : Option ℕ) → pair_of o p ≡ Some (first, last) → o ≡ Some first
    by None p d = absurd cc
    by (Some n) None d = absurd cc
    by (Some n) (Some m) d = let same : (n, m) ≡ (first, last) = same_Some (n, m) (first, last) d in ap (λ (q : ℕ × ℕ). Some q.0) same

all_left : (a : Flat) → numbers_left (first_node a) a ≡ ids a
all_left a = left_numbers number (first_node a) a.nodes ∙ ap (map number) (first_left number a.nodes)

pub start_goes : (s : Start) → IsWhole s.nodes → IsGoing s s.nodes s.steps (first_node s.nodes) (s.looks + 1)
start_goes s whole = record {
  swept = subst (SweptTo inv_change inv_in (ids s.nodes) (at_start s) (at_start s)) (sym (all_left s.nodes)) (begins inv_change inv_in (ids s.nodes) (at_start s));
  whole = whole;
  there = by (first_node s.nodes) refl;
  cost = omega arith;
}
  where
    by : (o : Option ℕ) → first_node s.nodes ≡ o → IsCursor o s.nodes
    by None e = tt
    by (Some k) e = let t = first_there number k s.nodes.nodes e in (t.0, at_found k t.0 s.nodes.nodes t.1)

-- ---- a step

found_too : (k : ℕ) (x : FlatNode) (xs ys : List FlatNode) → map number ys ≡ map number xs → found k xs ≡ Some x → (y : FlatNode) × (found k ys ≡ Some y)
found_too k x [] ys e h = absurd cc
found_too k x (z ∷ zs) [] e h = absurd cc
found_too k x (z ∷ zs) (y ∷ ys) e h =
    let first : y.id ≡ z.id = cc in
    let rest : map number ys ≡ map number zs = cc in
    by (y.id == k) refl (ap (λ i. i == k) first) h (λ d. found_too k x zs ys rest d)
  where
    by : (t : Bool) → (y.id == k) ≡ t → (y.id == k) ≡ (z.id == k) → (if z.id == k then Some z else found k zs) ≡ Some x → (found k zs ≡ Some x → (w : FlatNode) × (found k ys ≡ Some w)) →
        (w : FlatNode) × (found k (y ∷ ys) ≡ Some w)
    by true q s d f = (y, ap (λ t. if t then Some y else found k ys) q)
    by false q s d f =
        let w = f (ap (λ t. if t then Some z else found k zs) (sym (sym s ∙ q)) ∙ d) in
        (w.0, ap (λ t. if t then Some y else found k ys) q ∙ w.1)

module _ (listed : InvIsListed) (keeps : (n : ℕ) (l : PlainLambda) → IsWellFormed l → IsWellFormed (inv n l)) where
  pub next_goes : (s : Start) (a b : Flat) (log now : List Step) (n : ℕ) (looks spent : ℕ) → IsGoing s a log (Some n) looks →
      record { nodes = b; steps = now } ≡ stepped_in inv_change n (record { nodes = a; steps = log }) (inv_in n a) → ids b ≡ ids a →
      spent + cost_left (node_after n a) b ≤ looks + cost_left (Some n) a → IsGoing s b now (node_after n a) spent
  next_goes s a b log now n looks spent g step same cost = record {
    swept = goes_on inv_change inv_in (ids s.nodes) (at_start s) (record { nodes = a; steps = log }) (record { nodes = b; steps = now }) n (numbers_left (node_after n a) b)
        (subst (SweptTo inv_change inv_in (ids s.nodes) (at_start s) (record { nodes = a; steps = log })) (numbers_here n a g.there.0 g.whole g.there.1 ∙ (λ i. n ∷ left (λ k. k) (node_after n a) (sym same i))) g.swept) step;
    whole = by_step (inv_in n a) refl (ap (λ (t : Listed). t.nodes) step);
    there = by_next (node_after n a) refl;
    cost = omega (arith, cost, g.cost);
  }
    where
      by_step : (o : Option Flat) → inv_in n a ≡ o → b ≡ (stepped_in inv_change n (record { nodes = a; steps = log }) o).nodes → IsWhole b
      by_step None e d = subst IsWhole (sym d) g.whole
      by_step (Some c) e d = subst IsWhole (sym d) (whole_after inv_change inv_in listed keeps n a c g.whole e)

      by_next : (o : Option ℕ) → node_after n a ≡ o → IsCursor o b
      by_next None e = tt
      by_next (Some k) e =
          let t = after_there number n k a.nodes (once_whole a g.whole) e in
          found_too k t.0 a.nodes b.nodes same (at_found k t.0 a.nodes t.1)

  pub fewer_left : (a b : Flat) (n : ℕ) (x : FlatNode) → IsWhole a → found n a.nodes ≡ Some x → ids b ≡ ids a → length (numbers_left (node_after n a) b) < length (numbers_left (Some n) a)
  fewer_left a b n x whole e same =
      omega (arith, ap length (numbers_here n a x whole e), ap length (ap (left (λ k. k) (node_after n a)) same))

-- ---- the end

pub ended : (sweeps : InvSweepsAreListed) (s : Start) (a : Flat) (log : List Step) (looks : ℕ) → IsGoing s a log None looks →
    (l : PlainLambda) → StandsFor s.nodes l → IsWellFormed l → HasSwept inv_change (region_ids l.body) l s.steps a log
ended sweeps s a log looks g l stands well =
    has_swept inv_change inv_in sweeps (region_ids l.body) s.nodes a s.steps log l stands well
    (ends inv_change inv_in (ids s.nodes) (at_start s) (record { nodes = a; steps = log }) g.swept
    ∙ ap (λ ns. swept_in inv_change inv_in ns (at_start s)) (ap ids stands ∙ numbers_are l))

pub stopped : (sweeps : InvSweepsAreListed) (s : Start) (a : Flat) (log : List Step) (next : Option ℕ) (looks : ℕ) → IsGoing s a log next looks →
    (l : PlainLambda) → StandsFor s.nodes l → IsWellFormed l → (count : ℕ) × HasSwept inv_change (take count (region_ids l.body)) l s.steps a log
stopped sweeps s a log next looks g l stands well = (
  g.swept.count,
  has_swept inv_change inv_in sweeps (take g.swept.count (region_ids l.body)) s.nodes a s.steps log l stands well
      (g.swept.swept ∙ ap (λ ns. swept_in inv_change inv_in (take g.swept.count ns) (at_start s)) (ap ids stands ∙ numbers_are l)),
)

named_less : (ns : List ℕ) (os : List Origin) → named ns os ≤ length os
named_less ns [] = omega arith
named_less ns (Arg k ∷ os) = omega (arith, named_less ns os)
named_less ns (Out n k ∷ os) = by (is_in ns (Some n)) (named_less ns os)
  where
    by : (t : Bool) → named ns os ≤ length os → (if t then 1 else 0) + named ns os ≤ suc (length os)
    by true h = omega (arith, h)
    by false h = omega (arith, h)

regions_less : (ns : List ℕ) (rs : List FlatRegion) → 2 * results_in rs + regions_named ns rs ≤ 3 * regions_size rs
regions_less ns [] = omega arith
regions_less ns (r ∷ rs) = omega (arith, named_less ns r.results, regions_less ns rs)

nodes_less : (ns ms : List ℕ) (xs : List FlatNode) → nodes_cost ns xs + inputs_named ms xs + results_named ms xs ≤ 3 * nodes_size xs
nodes_less ns ms [] = omega arith
nodes_less ns ms (x ∷ xs) = omega (arith, by (is_in ns (Some x.id)), named_less ms x.inputs, regions_less ms x.regions, nodes_less ns ms xs)
  where
    by : (t : Bool) → (if t then node_cost x else 0) ≤ 1 + 3 * length x.outputs + 2 * results_in x.regions
    by true = omega arith
    by false = omega arith

all_less : (ns : List ℕ) (a : Flat) → 3 + nodes_cost ns a.nodes + flat_named ns a ≤ 3 * flat_size a
all_less ns a = omega (arith, named_less ns a.body.results, nodes_less ns ns a.nodes)

-- what was spent
pub spent_within : (s : Start) (a : Flat) (log : List Step) (next : Option ℕ) (looks : ℕ) → IsGoing s a log next looks →
    (l : PlainLambda) → StandsFor s.nodes l → looks + cost_left next a ≤ s.looks + 3 * lambda_size l
spent_within s a log next looks g l stands =
    omega (
      arith,
      g.cost,
      ap (λ ns. nodes_cost ns s.nodes.nodes) (all_left s.nodes),
      ap (λ ns. flat_named ns s.nodes) (all_left s.nodes),
      all_less (ids s.nodes) s.nodes,
      ap flat_size stands,
      size_within l,
    )

-- ---- as the code has it

pub start_at : (s : Start) → IsWhole s.nodes → (next : Option ℕ) (looks : ℕ) → next ≡ first_node s.nodes → looks ≡ s.looks + 1 → IsGoing s s.nodes s.steps next looks
start_at s whole next looks f h =
    subst (λ o. IsGoing s s.nodes s.steps o looks) (sym f) (subst (λ k. IsGoing s s.nodes s.steps (first_node s.nodes) k) (sym h) (start_goes s whole))

pub stopped_at : (sweeps : InvSweepsAreListed) (s : Start) (a b : Flat) (log now : List Step) (next : Option ℕ) (looks : ℕ) → IsGoing s a log next looks → b ≡ a → now ≡ log →
    (l : PlainLambda) → StandsFor s.nodes l → IsWellFormed l → (count : ℕ) × HasSwept inv_change (take count (region_ids l.body)) l s.steps b now
stopped_at sweeps s a b log now next looks g e f l stands well =
    let h = stopped sweeps s a log next looks g l stands well in
    subst (λ z. (count : ℕ) × HasSwept inv_change (take count (region_ids l.body)) l s.steps z now) (sym e)
    (subst (λ ls. (count : ℕ) × HasSwept inv_change (take count (region_ids l.body)) l s.steps a ls) (sym f) h)

pub on_err : {A B : Type 0} (P : Type 0) (r : Result A B) → P → OnErr r P
on_err P (Ok x) p = tt
on_err P (Err e) p = p
