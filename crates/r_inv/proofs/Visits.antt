-- The rule at a node: what it makes of the list, and what it paid.
use Rattle.std.proofs.Common.{◌≡◌, ◌≤◌, ◌<◌, ◌+◌, ◌*◌, ◌==◌, ◌||◌, ℕ, suc, Bool, true, false, Option, None, Some, option_map, option_and_then, List, [], ◌∷◌, ◌++◌, map, length, refl, sym, ap, subst, ◌∙◌, arith}
use Rattle.std.specs.Prelude.{if◌then◌else◌, is_some, slice_get}
use Rattle.std.proofs.lemmas.Option.{same_Some}
use Rattle.g_graph.specs.declared.op.Op.{Op}
use Rattle.g_graph.specs.declared.op.Op.TheVariants.{Gamma, Theta}
use Rattle.g_graph.specs.declared.op.Origin.{Origin}
use Rattle.g_graph.specs.declared.op.Origin.TheVariants.{Arg}
use Rattle.r_rule.specs.declared.steps.Step.{Step}
use Rattle.g_graph.proofs.lemmas.Unique.{same_number}
use Rattle.g_arena_def.specs.Flat.{FlatRegion, FlatNode, Flat, is_in}
use Rattle.g_arena_def.specs.Reads.{ids, found, View, view_of, node_before, node_after}
use Rattle.r_sweep.specs.Removals.{uses_carried, exits_carried}
use Rattle.r_sweep_def.specs.Listed.{Listed, stepped_in}
use Rattle.r_sweep.specs.Fast.{IsWhole}
use Rattle.r_sweep.specs.Measure.{flat_named}
use Rattle.r_sweep.specs.Walk.{until, left}
use Rattle.r_sweep.proofs.lemmas.ExitSteps.{some_within}
use Rattle.r_sweep.proofs.lemmas.Fits.{gamma_fits, theta_fits}
use Rattle.r_sweep.proofs.lemmas.Names.{flat_more}
use Rattle.r_sweep.proofs.lemmas.Walks.{Absent, Once, Forward, forward, found_at, left_numbers, absent_numbers, parts_are}
use Rattle.r_sweep.proofs.lemmas.Whole.{Stands, stands, once_whole}
use Rattle.r_inv.specs.SweepLaws.{inv_change}
use Rattle.r_inv.specs.Listed.{some_use, moved_by, moved_in, inv_in}
use Rattle.r_inv.specs.declared.carried_sweep.Shape.{Shape}
use Rattle.r_inv.specs.Shape.{IsShape}
use Rattle.r_inv.specs.Carried.{can_carry, carried_by, carried_of, out_by, carried_out}
use Rattle.r_inv.specs.Cost.{number, asked, exits_cost, uses_cost, cost_by, cost_out, cost_moved, results_in, node_cost, nodes_cost, numbers_left, cost_left}
use Rattle.r_inv.proofs.ListParts.{AllSome, all_some}
use Rattle.r_inv.proofs.Alike.{AreAlike, alike_start, numbers_alike, costs_alike}
use Rattle.r_inv.proofs.Carrying.{carries, count_is, before_node}
use Rattle.r_inv.proofs.Moves.{Now, Free, others, uses_alike, exits_now, uses_spent, exits_spent}

-- ---- what is told of a node

pub view_is : (n : ℕ) (a : Flat) (x : FlatNode) (v : View) → found n a.nodes ≡ Some x → view_of n a ≡ Some v →
    v ≡ record { op = x.op; inputs = x.inputs; outputs = length x.outputs; regions = length x.regions; home = x.home; before = node_before n a; after = node_after n a }
view_is n a x v e f =
    same_Some v (record { op = x.op; inputs = x.inputs; outputs = length x.outputs; regions = length x.regions; home = x.home; before = node_before n a; after = node_after n a })
    (sym f ∙ ap (option_map (λ (y : FlatNode). record {
      op = y.op;
      inputs = y.inputs;
      outputs = length y.outputs;
      regions = length y.regions;
      home = y.home;
      before = node_before n a;
      after = node_after n a;
    })) e)

-- ---- costs

costs_more : (n : ℕ) (ns : List ℕ) (xs : List FlatNode) → nodes_cost ns xs ≤ nodes_cost (n ∷ ns) xs
costs_more n ns [] = omega arith
costs_more n ns (x ∷ xs) = omega (arith, by (x.id == n) (is_in ns (Some x.id)), costs_more n ns xs)
  where
    by : (t u : Bool) → (if u then node_cost x else 0) ≤ (if t || u then node_cost x else 0)
    by true true = omega arith
    by true false = omega arith
    by false true = omega arith
    by false false = omega arith

cost_here : (n : ℕ) (ns : List ℕ) (x : FlatNode) (xs : List FlatNode) → is_in ns (Some n) ≡ false → found n xs ≡ Some x → node_cost x + nodes_cost ns xs ≤ nodes_cost (n ∷ ns) xs
cost_here n ns x [] none e = absurd cc
cost_here n ns x (y ∷ ys) none e = by (y.id == n) refl e (λ d. cost_here n ns x ys none d)
  where
    other : (u : Bool) → (if u then node_cost y else 0) ≤ (if u then node_cost y else 0)
    other u = omega arith

    by : (t : Bool) → (y.id == n) ≡ t → (if t then Some y else found n ys) ≡ Some x → (found n ys ≡ Some x → node_cost x + nodes_cost ns ys ≤ nodes_cost (n ∷ ns) ys) →
        node_cost x + ((if is_in ns (Some y.id) then node_cost y else 0) + nodes_cost ns ys) ≤ (if (y.id == n) || is_in ns (Some y.id) then node_cost y else 0) + nodes_cost (n ∷ ns) ys
    by true q d f =
        let same : y ≡ x = same_Some y x d in
        let out : is_in ns (Some y.id) ≡ false = ap (λ i. is_in ns (Some i)) (same_number y.id n q) ∙ none in
        omega (
          arith,
          ap (λ t. if t then node_cost y else 0) out,
          ap (λ t. if t || is_in ns (Some y.id) then node_cost y else 0) q,
          ap node_cost same,
          costs_more n ns ys,
        )
    by false q d f = omega (arith, f d, ap (λ t. if t || is_in ns (Some y.id) then node_cost y else 0) q, other (is_in ns (Some y.id)))

-- each region has so many results
results_each : (o : ℕ) (rs : List FlatRegion) → ((j : ℕ) → j < length rs → (r : FlatRegion) × (slice_get rs j ≡ Some r) × (length r.results ≡ o)) → results_in rs ≡ length rs * o
results_each o [] h = omega arith
results_each o (r ∷ rs) h =
    let first = h 0 (omega arith) in
    let rest = results_each o rs (λ j lt. h (suc j) (omega (arith, lt))) in
    omega (arith, rest, first.2, ap (λ (s : FlatRegion). length s.results) (same_Some r first.0 first.1))

-- ---- the node

module _ (n : ℕ) (a : Flat) (x : FlatNode) (whole : IsWhole a) (e : found n a.nodes ≡ Some x) where
  abbrev next : Option ℕ
  next = node_after n a

  abbrev ms : List ℕ
  ms = numbers_left next a

  abbrev cs : List (Option Origin)
  cs = carried_of x

  abbrev o : ℕ
  o = length x.outputs

  abbrev c : ℕ
  c = length x.regions

  abbrev pub here : Stands n x a
  here = stands n x a whole e

  once : Once number a.nodes
  once = once_whole a whole

  walk : Forward number n x a.nodes next
  walk = forward number n x a.nodes once (found_at n x a.nodes e)

  pub numbers_here : numbers_left (Some n) a ≡ n ∷ ms
  numbers_here =
      left_numbers number (Some n) a.nodes ∙ ap (map number) walk.leaves ∙ (λ i. here.number i ∷ sym (left_numbers number next a.nodes) i)

  -- no node behind it has its number
  last_absent : (xs ys : List FlatNode) → Once number (xs ++ (x ∷ ys)) → Absent number x.id ys
  last_absent [] ys h = h.0
  last_absent (y ∷ xs) ys h = last_absent xs ys h.1

  own_out : is_in ms (Some n) ≡ false
  own_out =
      ap (λ ns. is_in ns (Some n)) (left_numbers number next a.nodes)
      ∙ absent_numbers number n (left number next a.nodes)
      (subst (λ k. Absent number k (left number next a.nodes)) here.number
      (last_absent (until number n a.nodes) (left number next a.nodes) (subst (Once number) (sym (ap (λ ys. until number n a.nodes ++ ys) (sym walk.leaves) ∙ parts_are number n a.nodes)) once)))

  pub left_cost : node_cost x + nodes_cost ms a.nodes + flat_named (n ∷ ms) a ≤ cost_left (Some n) a
  left_cost =
      omega (
        arith,
        cost_here n ms x a.nodes own_out e,
        ap (λ ns. nodes_cost ns a.nodes) numbers_here,
        ap (λ ns. flat_named ns a) numbers_here,
      )

  -- ---- a node that carries nothing

  pub no_step : can_carry x.op ≡ false → inv_in n a ≡ None
  no_step q = ap (option_and_then (moved_in a)) e ∙ by x.op refl q
    where
      by : (op : Op) → x.op ≡ op → can_carry op ≡ false → moved_in a x ≡ None
      by Gamma g d = absurd cc
      by Theta t d = absurd cc
      by op f d = ap (λ p. moved_by p x.regions a x) f

  pub cost_none : 1 + cost_left next a ≤ cost_left (Some n) a
  cost_none = omega (arith, left_cost, flat_more n 0 ms (Arg 0) tt a)

  -- ---- a node that can

  pub step_is : inv_in n a ≡ moved_in a x
  step_is = ap (option_and_then (moved_in a)) e

  module _ (can : can_carry x.op ≡ true) where
    abbrev used : Bool
    used = some_use a x.home x.id 0 cs

    pub moved_is : moved_in a x ≡ (if used then Some (carried_out a x) else None)
    moved_is = by x.op refl can
      where
        by : (op : Op) → x.op ≡ op → can_carry op ≡ true → moved_in a x ≡ (if used then Some (carried_out a x) else None)
        by Gamma g d =
            ap (λ p. moved_by p x.regions a x) g
            ∙ (λ i. if some_use a x.home x.id 0 (carried_by (sym g i) x.regions x) then Some (exits_carried x.id c x.home 0 (carried_by (sym g i) x.regions x) a) else None)
            ∙ ap (λ p. if used then Some (out_by p a x) else None) (sym g)
        by Theta t d =
            let f = theta_fits n a x whole e t in
            (λ i. moved_by (t i) (f.regions i) a x)
            ∙ (λ i. if some_use a x.home x.id 0 (carried_by (sym t i) (sym f.regions i) x) then Some (uses_carried x.id x.home 0 (carried_by (sym t i) (sym f.regions i) x) a) else None)
            ∙ ap (λ p. if used then Some (out_by p a x) else None) (sym t)
        by op f d = absurd cc

    free : AllSome (Free n x a here.apart here.region here.there ms) cs
    free = all_some (Free n x a here.apart here.region here.there ms) cs (λ p q d. let k = carries n a x whole e can p q d in (k.other, before_node n a x whole e p q k))

    pub now_start : x.op ≡ Gamma → Now n x a here.apart here.region here.there c o a
    now_start g =
        let fits = gamma_fits n a x whole e g in
        record {
          exits = record {
            node = x;
            at = record { there = e; number = here.number; apart = here.apart };
            home = refl;
            outputs = λ k lt. refl;
            uses = λ k lt. refl;
            results = λ j k lt lk. let f = fits.each j lt in
                ap (λ z. is_some (option_and_then (λ (r : FlatRegion). slice_get r.results k) z)) f.there ∙ some_within k f.region.results (omega (arith, f.results, lk));
          };
          alike = alike_start n a;
        }

    -- all that is asked and paid
    record Spent : Type 0 where
      alike : AreAlike n a (carried_out a x)
      cost : 1 + asked x.op c * o + o + cost_out a x + flat_named (n ∷ ms) (carried_out a x) ≤ node_cost x + flat_named (n ∷ ms) a
      asked_cost : 1 + asked x.op c * o + o ≤ node_cost x

    spent_gamma : x.op ≡ Gamma → Spent
    spent_gamma g =
        let fits = gamma_fits n a x whole e g in
        let start = now_start g in
        let count : 0 + length cs ≡ o = omega (arith, count_is n a x whole e can) in
        let spent = exits_spent n x a here.apart here.region here.there ms c cs 0 o count free start in
        let out : carried_out a x ≡ exits_carried n c x.home 0 cs a = ap (λ p. out_by p a x) g ∙ ap (λ k. exits_carried k c x.home 0 cs a) here.number in
        let cost : cost_out a x ≡ exits_cost n c x.home 0 cs a = ap (λ p. cost_by p a x) g ∙ ap (λ k. exits_cost k c x.home 0 cs a) here.number in
        let results : results_in x.regions ≡ c * o = results_each o x.regions (λ j lt. let f = fits.each j lt in (f.region, f.there, f.results)) in
        let looks : asked x.op c * o ≡ c * o = ap (λ p. asked p c * o) g in
        let all : (2 + c) * length cs ≡ (2 + c) * o = ap (λ k. (2 + c) * k) (count_is n a x whole e can) in
        record {
          alike = subst (AreAlike n a) (sym out) (exits_now n x a here.apart here.region here.there c cs 0 o count (others n x a here.apart here.region here.there ms cs free) start).alike;
          cost = omega (arith, spent, ap (flat_named (n ∷ ms)) out, cost, results, looks, all);
          asked_cost = omega (arith, results, looks);
        }

    spent_theta : x.op ≡ Theta → Spent
    spent_theta t =
        let fits = theta_fits n a x whole e t in
        let spent = uses_spent n x a here.apart here.region here.there ms cs 0 free in
        let out : carried_out a x ≡ uses_carried n x.home 0 cs a = ap (λ p. out_by p a x) t ∙ ap (λ k. uses_carried k x.home 0 cs a) here.number in
        let cost : cost_out a x ≡ uses_cost n x.home 0 cs a = ap (λ p. cost_by p a x) t ∙ ap (λ k. uses_cost k x.home 0 cs a) here.number in
        let results : results_in x.regions ≡ results_in (fits.region ∷ []) = ap results_in fits.regions in
        let looks : asked x.op c * o ≡ 2 * o = ap (λ p. asked p c * o) t in
        record {
          alike = subst (AreAlike n a) (sym out) (uses_alike n x a here.apart here.region here.there cs 0 (others n x a here.apart here.region here.there ms cs free));
          cost = omega (arith, spent, ap (flat_named (n ∷ ms)) out, cost, results, fits.results, looks, count_is n a x whole e can);
          asked_cost = omega (arith, results, fits.results, looks);
        }

    spent : Spent
    spent = by x.op refl can
      where
        by : (op : Op) → x.op ≡ op → can_carry op ≡ true → Spent
        by Gamma g d = spent_gamma g
        by Theta t d = spent_theta t
        by op f d = absurd cc

    -- the list and the steps after it
    module _ (b : Flat) (steps now : List Step) (step : record { nodes = b; steps = now } ≡ stepped_in inv_change n (record { nodes = a; steps = steps }) (moved_in a x)) where
      after_is : b ≡ (if used then carried_out a x else a)
      after_is =
          ap (λ (s : Listed). s.nodes) (step ∙ ap (stepped_in inv_change n (record { nodes = a; steps = steps })) moved_is) ∙ by used
        where
          by : (t : Bool) → (stepped_in inv_change n (record { nodes = a; steps = steps }) (if t then Some (carried_out a x) else None)).nodes ≡ (if t then carried_out a x else a)
          by true = refl
          by false = refl

      pub told_numbers : ids b ≡ ids a
      told_numbers = ap ids after_is ∙ by used
        where
          by : (t : Bool) → ids (if t then carried_out a x else a) ≡ ids a
          by true = numbers_alike n a (carried_out a x) spent.alike
          by false = refl

      cost_alike : nodes_cost ms b.nodes ≡ nodes_cost ms a.nodes
      cost_alike = ap (λ (d : Flat). nodes_cost ms d.nodes) after_is ∙ by used
        where
          by : (t : Bool) → nodes_cost ms (if t then carried_out a x else a).nodes ≡ nodes_cost ms a.nodes
          by true = costs_alike n ms a (carried_out a x) own_out spent.alike
          by false = refl

      pub told_cost : 1 + asked x.op c * o + o + cost_moved a x + cost_left next b ≤ cost_left (Some n) a
      told_cost =
          let same : numbers_left next b ≡ ms = ap (left (λ k. k) next) told_numbers in
          omega (
            arith,
            by used,
            left_cost,
            cost_alike,
            ap (λ ns. nodes_cost ns b.nodes) same,
            ap (λ ns. flat_named ns b) same,
            ap (flat_named ms) after_is,
          )
        where
          by : (t : Bool) → 1 + asked x.op c * o + o + (if t then cost_out a x else 0) + flat_named ms (if t then carried_out a x else a) ≤ node_cost x + flat_named (n ∷ ms) a
          by true = omega (arith, spent.cost, flat_more n 0 ms (Arg 0) tt (carried_out a x))
          by false = omega (arith, spent.asked_cost, flat_more n 0 ms (Arg 0) tt a)

  -- ---- as it is told

  module _ (v : View) (told : view_of n a ≡ Some v) where
    abbrev own_view : View
    own_view = record { op = x.op; inputs = x.inputs; outputs = o; regions = c; home = x.home; before = node_before n a; after = next }

    same : v ≡ own_view
    same = view_is n a x v e told

    op_is : v.op ≡ x.op
    op_is = ap (λ (w : View). w.op) same

    abbrev shape : Shape
    shape = record { node = n; op = v.op; home = v.home; outputs = v.outputs; regions = v.regions }

    pub told_shape : IsShape shape a
    told_shape = record {
      node = x;
      there = e;
      op = op_is;
      home = ap (λ (w : View). w.home) same;
      outputs = ap (λ (w : View). w.outputs) same;
      regions = ap (λ (w : View). w.regions) same;
    }

    pub told_inputs : (y : FlatNode) → found n a.nodes ≡ Some y → v.inputs ≡ y.inputs
    told_inputs y d = ap (λ (w : View). w.inputs) same ∙ ap (λ (z : FlatNode). z.inputs) (same_Some x y (sym e ∙ d))

    pub told_after : v.after ≡ next
    told_after = ap (λ (w : View). w.after) same

    pub told_none : can_carry v.op ≡ false → inv_in n a ≡ None
    told_none q = no_step (ap can_carry (sym op_is) ∙ q)

    module _ (can : can_carry v.op ≡ true) where
      can_here : can_carry x.op ≡ true
      can_here = ap can_carry (sym op_is) ∙ can

      looks_are : asked v.op v.regions * v.outputs + v.outputs ≡ asked x.op c * o + o
      looks_are = ap (λ (w : View). asked w.op w.regions * w.outputs + w.outputs) same

      pub err_cost : 1 + (asked v.op v.regions * v.outputs + v.outputs) + cost_left next a ≤ cost_left (Some n) a
      err_cost = omega (arith, looks_are, (spent can_here).asked_cost, left_cost, flat_more n 0 ms (Arg 0) tt a)

      module _ (b : Flat) (steps now : List Step) (step : record { nodes = b; steps = now } ≡ stepped_in inv_change n (record { nodes = a; steps = steps }) (moved_in a x)) where
        pub ok_numbers : ids b ≡ ids a
        ok_numbers = told_numbers can_here b steps now step

        pub ok_cost : 1 + (asked v.op v.regions * v.outputs + v.outputs) + cost_moved a x + cost_left next b ≤ cost_left (Some n) a
        ok_cost = omega (arith, looks_are, told_cost can_here b steps now step)
