-- Loop variables while they are judged, and while they go, from the last to the first.
use Rattle.std.proofs.Common.{◌≡◌, ◌<◌, ◌≤◌, ◌+◌, ◌-◌, ◌*◌, ◌||◌, not, nat_lt, ℕ, zero, suc, Bool, true, false, Option, Some, None, List, [], ◌∷◌, ◌++◌, take, drop, length, length-drop, refl, sym, ap, subst, ◌∙◌, arith}
use Rattle.std.specs.Prelude.{if◌then◌else◌, slice_get, is_some, option_and_then, IsSome}
use Rattle.std.proofs.lemmas.Bool.Decides.{nat_tests}
use Rattle.std.proofs.lemmas.Option.{same_Some}
use Rattle.g_graph.specs.declared.op.Kind.{Kind}
use Rattle.g_graph.specs.declared.op.Kind.TheVariants.{Value}
use Rattle.g_graph.specs.declared.op.Op.TheVariants.{Theta}
use Rattle.g_graph.specs.declared.op.Origin.TheVariants.{Arg, Out}
use Rattle.r_rule.specs.declared.steps.Step.{Step}
use Rattle.g_graph.specs.Scope.{same_kind}
use Rattle.g_graph.specs.WellFormed.{is_origin}
use Rattle.r_edit.specs.InPlace.{all_stay}
use Rattle.g_arena_def.specs.Flat.{FlatRegion, FlatNode, Flat, place_in, same_place}
use Rattle.g_arena_def.specs.Reads.{found, result_at, kind_in, output_kind, uses_in}
use Rattle.g_arena_def.specs.Conditions.{IsResult}
use Rattle.r_sweep.specs.Removals.{from_last, variable_removed, variables_removed}
use Rattle.r_sweep.proofs.lemmas.Inputs.{same_place_self}
use Rattle.r_sweep_def.specs.Listed.{stepped_in}
use Rattle.r_sweep.specs.Fast.{IsWhole}
use Rattle.r_sweep.specs.Measure.{node_size}
use Rattle.r_sweep.proofs.lemmas.ExitSteps.{some_within}
use Rattle.r_sweep.proofs.lemmas.Fits.{ThetaFits, theta_fits}
use Rattle.r_sweep.proofs.lemmas.Whole.{Stands, stands}
use Rattle.r_dne.specs.SweepLaws.{dne_change}
use Rattle.r_dne.specs.Listed.{has_use, own_use, used_loops, theta_in}
use Rattle.r_dne.specs.declared.judging.Shape.{Shape}
use Rattle.r_dne.specs.Gone.{with_note}
use Rattle.r_dne.specs.Shape.{IsShape, IsVariable}
use Rattle.r_dne.proofs.Judged.{no_use, At, at_index, none_after}
use Rattle.r_dne.proofs.VariableGoes.{less_on, less_too, none_on, VariablesAt, before, variable_goes}

-- ---- the tests

abbrev pub loop_stays : Flat → FlatNode → FlatRegion → (k : ℕ) → Kind → Bool
loop_stays a x r k j = not (same_kind Value j) || has_use x.home (Out x.id k) a || nat_lt (own_use k r) (uses_in (place_in x.id 0) (Arg k) a)

module _ (a : Flat) (x : FlatNode) (r : FlatRegion) where
  loops_at : (f k : ℕ) (js : List Kind) (j : Kind) → slice_get js k ≡ Some j → slice_get (used_loops a x r f js) k ≡ Some (loop_stays a x r (f + k) j)
  loops_at f k [] j e = absurd cc
  loops_at f zero (i ∷ js) j e =
      let here : f ≡ f + 0 = omega arith in
      let same : i ≡ j = same_Some i j e in
      λ q. Some (loop_stays a x r (here q) (same q))
  loops_at f (suc k) (i ∷ js) j e =
      let here : suc f + k ≡ f + suc k = omega arith in
      loops_at (suc f) k js j e ∙ ap (λ m. Some (loop_stays a x r m j)) here

  pub loop_at : (k : ℕ) (js : List Kind) (j : Kind) → slice_get js k ≡ Some j → slice_get (used_loops a x r 0 js) k ≡ Some (loop_stays a x r k j)
  loop_at k js j e = let here : 0 + k ≡ k = omega arith in loops_at 0 k js j e ∙ ap (λ m. Some (loop_stays a x r m j)) here

  pub loops_count : (f : ℕ) (js : List Kind) → length (used_loops a x r f js) ≡ length js
  loops_count f [] = refl
  loops_count f (j ∷ js) = ap suc (loops_count (suc f) js)

some_first : (t u v : Bool) → (t || u) ≡ true → (t || u || v) ≡ true
some_first true u v e = refl
some_first false true v e = refl
some_first false false v e = absurd cc

none_first : (t u v : Bool) → (t || u) ≡ false → (t || u || v) ≡ v
none_first true u v e = absurd cc
none_first false true v e = absurd cc
none_first false false v e = refl

none_of_three : (t u v : Bool) → (t || u || v) ≡ false → (u ≡ false) × (v ≡ false)
none_of_three true u v e = absurd cc
none_of_three false true v e = absurd cc
none_of_three false false v e = (refl, e)

not_less : (own c : ℕ) → nat_lt own c ≡ false → c ≤ own
not_less own c e = grind (arith, nat_tests)

-- ---- lists

pub one_more : (k : ℕ) (ts : List Bool) (t : Bool) → slice_get ts k ≡ Some t → take k ts ++ t ∷ [] ≡ take (suc k) ts
one_more k [] t e = absurd cc
one_more zero (u ∷ ts) t e = ap (λ z. z ∷ []) (sym (same_Some u t e))
one_more (suc k) (u ∷ ts) t e = ap (λ us. u ∷ us) (one_more k ts t e)

pub all_taken : (k : ℕ) (ts : List Bool) → length ts ≡ k → take k ts ≡ ts
all_taken zero [] e = refl
all_taken (suc k) [] e = refl
all_taken zero (t ∷ ts) e = absurd (omega (arith, e))
all_taken (suc k) (t ∷ ts) e = ap (λ us. t ∷ us) (all_taken k ts (omega (arith, e)))

variables_go : (n : ℕ) (x : FlatNode) (r : FlatRegion) (a : Flat) (ts : List Bool) (k count : ℕ) → k + length ts ≡ count → VariablesAt n x r a count a → VariablesAt n x r a k (from_last (variable_removed n) k ts a)
variables_go n x r a [] k count e start = before n x r a k count a (omega (arith, e)) start
variables_go n x r a (t ∷ ts) k count e start = by t (variables_go n x r a ts (suc k) count (omega (arith, e)) start)
  where
    by : (u : Bool) → VariablesAt n x r a (suc k) (from_last (variable_removed n) (suc k) ts a) →
        VariablesAt n x r a k (if u then from_last (variable_removed n) (suc k) ts a else variable_removed n k (from_last (variable_removed n) (suc k) ts a))
    by true h = before n x r a k (suc k) (from_last (variable_removed n) (suc k) ts a) (omega arith) h
    by false h = variable_goes n x r a k (from_last (variable_removed n) (suc k) ts a) h

-- ---- a loop that is told

module _ (s : Shape) (a : Flat) (whole : IsWhole a) (h : IsShape s a) (g : s.op ≡ Theta) where
  abbrev x : FlatNode
  x = h.node

  pub fits : ThetaFits x
  fits = theta_fits s.node a x whole h.there (sym h.op ∙ g)

  here : Stands s.node x a
  here = stands s.node x a whole h.there

  abbrev r : FlatRegion
  r = fits.region

  own_node : (y : FlatNode) → found s.node a.nodes ≡ Some y → x ≡ y
  own_node y e = same_Some x y (sym h.there ∙ e)

  own_region : (y : FlatNode) (q : FlatRegion) → found s.node a.nodes ≡ Some y → y.regions ≡ q ∷ [] → r ≡ q
  own_region y q e f = let same : r ∷ [] ≡ q ∷ [] = sym fits.regions ∙ ap (λ (z : FlatNode). z.regions) (own_node y e) ∙ f in cc

  abbrev loops : List Bool
  loops = used_loops a x r 0 r.args

  loops_are : length loops ≡ s.outputs
  loops_are = loops_count a x r 0 r.args ∙ ap length fits.args ∙ sym h.outputs

  -- the node and region that are told are these
  abbrev AreTold : (List Bool → Type 0) → Type 0
  AreTold P = (y : FlatNode) (q : FlatRegion) → found s.node a.nodes ≡ Some y → y.regions ≡ q ∷ [] → P (used_loops a y q 0 q.args)

  pub told_too : (P : List Bool → Type 0) → P loops → AreTold P
  told_too P p y q e f = subst P (λ i. used_loops a (own_node y e i) (own_region y q e f i) 0 (own_region y q e f i).args) p

  pub told_here : (P : List Bool → Type 0) → AreTold P → P loops
  told_here P f = f x r h.there fits.regions

  pub loops_told : (y : FlatNode) (q : FlatRegion) → found s.node a.nodes ≡ Some y → y.regions ≡ q ∷ [] → length (used_loops a y q 0 q.args) ≡ s.outputs
  loops_told = told_too (λ ts. length ts ≡ s.outputs) loops_are

  -- what a Theta is measured
  theta_size : (y : FlatNode) → found s.node a.nodes ≡ Some y → node_size y ≡ 3 + 4 * s.outputs
  theta_size y e =
      let own : node_size x ≡ node_size y = ap node_size (own_node y e) in
      let one : node_size x ≡ 1 + length x.inputs + length x.outputs + (1 + length r.args + length r.results + 0) = ap (λ rs. node_size (record x { regions = rs })) fits.regions in
      omega (arith, own, one, fits.inputs, fits.results, ap length fits.args, h.outputs)

  pub theta_cost : (old mid now : ℕ) → mid ≤ old + 3 * s.outputs → now ≤ mid + 4 * s.outputs → (y : FlatNode) → found s.node a.nodes ≡ Some y → now + s.outputs + 1 ≤ old + 3 * node_size y
  theta_cost old mid now f t y e = omega (arith, f, t, theta_size y e)

  -- ---- the variable of an index

  module _ (k : ℕ) (lt : k < s.outputs) where
    kind_at : At k x.outputs
    kind_at = at_index k x.outputs (omega (arith, lt, h.outputs))

    test_at : slice_get loops k ≡ Some (loop_stays a x r k kind_at.element)
    test_at = loop_at a x r k r.args kind_at.element (ap (λ ks. slice_get ks k) fits.args ∙ kind_at.there)

    abbrev inner_region : Option FlatRegion
    inner_region = option_and_then (λ (z : FlatNode). slice_get z.regions 0) (found s.node a.nodes)

    inner_is : inner_region ≡ Some r
    inner_is = ap (option_and_then (λ (z : FlatNode). slice_get z.regions 0)) h.there ∙ ap (λ rs. slice_get rs 0) fits.regions

    pub argument_there : IsSome (kind_in (place_in s.node 0) (Arg k) a)
    argument_there = ap (λ o. is_some (option_and_then (λ (z : FlatRegion). slice_get z.args k) o)) inner_is ∙ some_within k r.args (omega (arith, lt, ap length fits.args, h.outputs))

    pub result_there : IsResult (place_in s.node 0) (suc k) a
    result_there = ap (λ o. is_some (option_and_then (λ (z : FlatRegion). slice_get z.results (suc k)) o)) inner_is ∙ some_within (suc k) r.results (omega (arith, lt, fits.results, h.outputs))

    kind_is : kind_in s.home (Out s.node k) a ≡ Some kind_at.element
    kind_is =
        ap (option_and_then (output_kind s.home k)) h.there ∙ (λ i. if same_place x.home (h.home i) then kind_at.there i else None)
        ∙ ap (λ t. if t then Some kind_at.element else None) (same_place_self x.home)

    pub output_there : IsSome (kind_in s.home (Out s.node k) a)
    output_there = ap is_some kind_is

    abbrev unasked : Bool
    unasked = nat_lt (own_use k r) (uses_in (place_in x.id 0) (Arg k) a)

    -- by what was told of its output
    module _ (j : Kind) (uses : ℕ) (kind_told : kind_in s.home (Out s.node k) a ≡ Some j) (uses_told : uses ≡ uses_in s.home (Out s.node k) a) where
      abbrev asked : Bool
      asked = not (same_kind Value j) || nat_lt 0 uses

      kind_same : j ≡ kind_at.element
      kind_same = same_Some j kind_at.element (sym kind_told ∙ kind_is)

      asked_is : asked ≡ (not (same_kind Value kind_at.element) || has_use x.home (Out x.id k) a)
      asked_is = λ i. not (same_kind Value (kind_same i)) || nat_lt 0 ((uses_told ∙ (λ q. uses_in (h.home q) (Out (sym here.number q) k) a)) i)

      pub stays_by_output : asked ≡ true → (y : FlatNode) (q : FlatRegion) → found s.node a.nodes ≡ Some y → y.regions ≡ q ∷ [] → slice_get (used_loops a y q 0 q.args) k ≡ Some true
      stays_by_output t = told_too (λ ts. slice_get ts k ≡ Some true) (test_at ∙ ap Some (some_first (not (same_kind Value kind_at.element)) (has_use x.home (Out x.id k) a) unasked (sym asked_is ∙ t)))

      -- and of its argument
      module _ (own count : ℕ) (own_told : own ≡ (if is_origin (result_at (place_in s.node 0) (suc k) a) (Arg k) then 1 else 0)) (count_told : count ≡ uses_in (place_in s.node 0) (Arg k) a) where
        own_is : own ≡ own_use k r
        own_is = own_told ∙ ap (λ o. if is_origin (option_and_then (λ (z : FlatRegion). slice_get z.results (suc k)) o) (Arg k) then 1 else 0) inner_is

        unasked_is : unasked ≡ nat_lt own count
        unasked_is = λ i. nat_lt (sym own_is i) (((λ q. uses_in (place_in (here.number q) 0) (Arg k) a) ∙ sym count_told) i)

        pub stays_by_argument : asked ≡ false → (y : FlatNode) (q : FlatRegion) → found s.node a.nodes ≡ Some y → y.regions ≡ q ∷ [] → slice_get (used_loops a y q 0 q.args) k ≡ Some (nat_lt own count)
        stays_by_argument t =
            told_too (λ ts. slice_get ts k ≡ Some (nat_lt own count))
            (test_at ∙ ap Some (none_first (not (same_kind Value kind_at.element)) (has_use x.home (Out x.id k) a) unasked (sym asked_is ∙ t) ∙ unasked_is))

  -- ---- variables that go

  start : VariablesAt s.node x r a s.outputs a
  start = record {
    node = x;
    at = record { there = h.there; number = here.number; apart = here.apart };
    home = refl;
    outputs = omega (arith, h.outputs);
    inputs = omega (arith, fits.inputs, h.outputs);
    region = r;
    there = ap (λ rs. slice_get rs 0) fits.regions;
    args = omega (arith, ap length fits.args, h.outputs);
    results = omega (arith, fits.results, h.outputs);
    unused = λ k lt. omega arith;
    own = λ k lt. omega arith;
    same = λ k lt. refl;
  }

  module _ (ts : List Bool) (told : ts ≡ loops) where
    pub tests : length ts ≡ s.outputs
    tests = ap length told ∙ loops_are

    abbrev pub state : ℕ → Flat
    state p = from_last (variable_removed s.node) p (drop p ts) a

    variables_here : (p : ℕ) → p ≤ s.outputs → VariablesAt s.node x r a p (state p)
    variables_here p le = variables_go s.node x r a (drop p ts) p s.outputs (omega (arith, length-drop p ts, tests, le)) start

    module _ (index : ℕ) (some : 0 < index) (within : index ≤ s.outputs) (b : Flat) (is : b ≡ state index) (t : Bool) (test : slice_get ts (index - 1) ≡ Some t) where
      abbrev p : ℕ
      p = index - 1

      next : index ≡ suc p
      next = omega (arith, some)

      lt : p < s.outputs
      lt = omega (arith, some, within)

      there : VariablesAt s.node x r a (suc p) b
      there = subst (VariablesAt s.node x r a (suc p)) (sym (is ∙ ap state next)) (variables_here (suc p) (omega (arith, lt)))

      here_at : At p ts
      here_at = at_index p ts (omega (arith, lt, tests))

      rest_is : drop p ts ≡ t ∷ drop (suc p) ts
      rest_is = here_at.rest ∙ ap (λ u. u ∷ drop (suc p) ts) (same_Some here_at.element t (sym here_at.there ∙ test))

      before_is : from_last (variable_removed s.node) (suc p) (drop (suc p) ts) a ≡ b
      before_is = sym (is ∙ ap state next)

      pub now_stays : t ≡ true → b ≡ state p
      now_stays e = sym (ap (λ us. from_last (variable_removed s.node) p us a) (rest_is ∙ ap (λ u. u ∷ drop (suc p) ts) e) ∙ before_is)

      pub now_gone : t ≡ false → variable_removed s.node p b ≡ state p
      now_gone e = sym (ap (λ us. from_last (variable_removed s.node) p us a) (rest_is ∙ ap (λ u. u ∷ drop (suc p) ts) e) ∙ ap (variable_removed s.node p) before_is)

      test_is : loop_stays a x r p (kind_at p lt).element ≡ t
      test_is = same_Some (loop_stays a x r p (kind_at p lt).element) t (sym (test_at p lt) ∙ ap (λ us. slice_get us p) (sym told) ∙ test)

      pub now_variable : t ≡ false → IsVariable s.node p b
      now_variable e =
          let first = not (same_kind Value (kind_at p lt).element) in
          let none = none_of_three first (has_use x.home (Out x.id p) a) (unasked p lt) (test_is ∙ e) in
          let unused : uses_in x.home (Out x.id p) a ≡ 0 = no_use (uses_in x.home (Out x.id p) a) none.0 in
          let own : uses_in (place_in x.id 0) (Arg p) a ≤ own_use p r = not_less (own_use p r) (uses_in (place_in x.id 0) (Arg p) a) none.1 in
          record {
            node = there.node;
            there = there.at.there;
            number = there.at.number;
            apart = there.at.apart;
            output = omega (arith, there.outputs);
            input = omega (arith, there.inputs);
            region = there.region;
            regions = there.there;
            argument = omega (arith, there.args);
            result = omega (arith, there.results);
            unused = none_on _ _ _ (ap (λ q. uses_in q (Out s.node p) b) there.home) (there.unused p (omega arith)) (ap (λ m. uses_in x.home (Out m p) a) (sym here.number) ∙ unused);
            own = less_on _ _ _ (less_too _ _ _ (less_on _ _ _ (there.own p (omega arith)) (ap (λ m. uses_in (place_in m 0) (Arg p) a) (sym here.number))) own)
                (ap (λ u. if u then 1 else 0) (sym (there.same p (omega arith))));
          }

  -- at the start, and at the end
  pub none_judged : (ts : List Bool) → length ts ≡ s.outputs → drop s.outputs ts ≡ []
  none_judged ts e = none_after s.outputs ts e

  -- ---- a step as a whole

  pub theta_step : (ts : List Bool) (b : Flat) (steps log : List Step) → ts ≡ loops → all_stay ts ≡ false → b ≡ variables_removed s.node ts a → log ≡ with_note true s.node steps →
      (y : FlatNode) (q : FlatRegion) → found s.node a.nodes ≡ Some y → y.regions ≡ q ∷ [] →
      record { nodes = b; steps = log } ≡ stepped_in dne_change s.node (record { nodes = a; steps = steps }) (theta_in a y q)
  theta_step ts b steps log told some gone noted y q e f =
      let own = own_node y e in
      let numbers : s.node ≡ y.id = sym here.number ∙ ap (λ (z : FlatNode). z.id) own in
      let same : ts ≡ used_loops a y q 0 q.args = told_too (λ us. ts ≡ us) told y q e f in
      let now : b ≡ variables_removed y.id (used_loops a y q 0 q.args) a = gone ∙ (λ i. variables_removed (numbers i) (same i) a) in
      (λ i. record { nodes = now i; steps = noted i })
      ∙ ap (λ t. stepped_in dne_change s.node (record { nodes = a; steps = steps }) (if t then None else Some (variables_removed y.id (used_loops a y q 0 q.args) a))) (sym some ∙ ap all_stay same)
