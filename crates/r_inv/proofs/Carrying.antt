-- What variables carry: origins of the region around the node, of the same kind, that stand before it.
use Rattle.std.proofs.Common.{◌≡◌, ◌≤◌, ◌<◌, ◌+◌, ◌⊎◌, inl, inr, ◌==◌, ◌&&◌, ℕ, zero, suc, Bool, true, false, Option, None, Some, List, [], ◌∷◌, ◌++◌, length, refl, sym, ap, subst, ◌∙◌, arith}
use Rattle.std.specs.Prelude.{if◌then◌else◌, slice_get, option_and_then}
use Rattle.std.proofs.lemmas.Bool.{and_parts}
use Rattle.std.proofs.lemmas.Option.{same_Some}
use Rattle.g_graph.specs.declared.op.Kind.{Kind}
use Rattle.g_graph.specs.declared.op.Kind.TheVariants.{Value}
use Rattle.g_graph.specs.declared.op.Op.{Op}
use Rattle.g_graph.specs.declared.op.Op.TheVariants.{Gamma, Theta}
use Rattle.g_graph.specs.declared.op.Origin.{Origin}
use Rattle.g_graph.specs.declared.op.Origin.TheVariants.{Arg, Out}
use Rattle.g_graph.specs.Scope.{same_origin, same_kind}
use Rattle.g_graph.specs.WellFormed.{is_origin}
use Rattle.g_graph.proofs.lemmas.Indexes.{same_origin_self}
use Rattle.g_graph.proofs.lemmas.Unique.{same_number, equal_back}
use Rattle.r_edit.specs.Carried.{outer}
use Rattle.r_edit.proofs.lemmas.Carried.{Outer, outer_is}
use Rattle.r_inv.specs.Rule.{variables_from}
use Rattle.g_arena_def.specs.declared.place.Place.{Place}
use Rattle.g_arena_def.specs.Flat.{FlatRegion, FlatNode, Flat, is_in, same_node, same_place}
use Rattle.g_arena_def.specs.Reads.{found, kind_in, output_kind, times, input_uses, node_after}
use Rattle.r_sweep.proofs.lemmas.Inputs.{same_place_self}
use Rattle.r_sweep.proofs.lemmas.Kept.{IsOther}
use Rattle.r_sweep.specs.Fast.{IsWhole}
use Rattle.r_sweep.specs.Walk.{until, onward, left}
use Rattle.r_sweep.proofs.lemmas.Fits.{theta_fits}
use Rattle.r_sweep.proofs.lemmas.Names.{NamesNone}
use Rattle.r_sweep.proofs.lemmas.Walks.{Absent, Once, At, Forward, forward, found_at, parts_are, left_numbers, absent_behind, absent_numbers}
use Rattle.r_sweep.proofs.lemmas.Whole.{Stands, stands, once_whole}
use Rattle.r_inv.specs.Listed.{all_pass_in, passed_in, exits_in}
use Rattle.r_inv.specs.Carried.{can_carry, kept_in, carried_by, carried_of}
use Rattle.r_inv.specs.Cost.{number, numbers_left}
use Rattle.r_inv.proofs.ListParts.{at_index, within_get}
use Rattle.r_inv.proofs.Alike.{other_number}
use Rattle.r_inv.proofs.InputKinds.{input_other, gamma_reads, theta_reads}

-- ---- lists

pub exits_count : (inputs : List Origin) (rs : List FlatRegion) (p : ℕ) (js : List Kind) → length (exits_in inputs rs p js) ≡ length js
exits_count inputs rs p [] = refl
exits_count inputs rs p (j ∷ js) = ap suc (exits_count inputs rs (suc p) js)

pub variables_count : (inputs outs : List Origin) (p : ℕ) (js : List Kind) → length (variables_from inputs outs p js) ≡ length js
variables_count inputs outs p [] = refl
variables_count inputs outs p (j ∷ js) = ap suc (variables_count inputs outs (suc p) js)

exits_at : (inputs : List Origin) (rs : List FlatRegion) (p : ℕ) (js : List Kind) (k : ℕ) (o : Origin) → slice_get (exits_in inputs rs p js) k ≡ Some (Some o) → passed_in inputs (p + k) rs ≡ Some o
exits_at inputs rs p [] k o e = absurd cc
exits_at inputs rs p (j ∷ js) zero o e =
    let here : p + 0 ≡ p = omega arith in ap (λ q. passed_in inputs q rs) here ∙ same_Some (passed_in inputs p rs) (Some o) e
exits_at inputs rs p (j ∷ js) (suc k) o e =
    let here : p + suc k ≡ suc p + k = omega arith in ap (λ q. passed_in inputs q rs) here ∙ exits_at inputs rs (suc p) js k o e

kept_input : (inputs outs : List Origin) (p : ℕ) (j : Kind) (o : Origin) → kept_in inputs outs p j ≡ Some o → slice_get inputs p ≡ Some o
kept_input inputs outs p j o e = by (same_kind Value j && is_origin (slice_get outs (suc p)) (Arg p)) e
  where
    by : (t : Bool) → (if t then slice_get inputs p else None) ≡ Some o → slice_get inputs p ≡ Some o
    by true d = d
    by false d = absurd cc

variables_at : (inputs outs : List Origin) (p : ℕ) (js : List Kind) (k : ℕ) (o : Origin) → slice_get (variables_from inputs outs p js) k ≡ Some (Some o) → slice_get inputs (p + k) ≡ Some o
variables_at inputs outs p [] k o e = absurd cc
variables_at inputs outs p (j ∷ js) zero o e =
    let here : p + 0 ≡ p = omega arith in ap (λ q. slice_get inputs q) here ∙ kept_input inputs outs p j o (same_Some (kept_in inputs outs p j) (Some o) e)
variables_at inputs outs p (j ∷ js) (suc k) o e =
    let here : p + suc k ≡ suc p + k = omega arith in ap (λ q. slice_get inputs q) here ∙ variables_at inputs outs (suc p) js k o e

passed_first : (inputs : List Origin) (p : ℕ) (r : FlatRegion) (rs : List FlatRegion) (o : Origin) → passed_in inputs p (r ∷ rs) ≡ Some o → Outer inputs (slice_get r.results p) o
passed_first inputs p r rs o e = by (outer inputs (slice_get r.results p)) refl e
  where
    by_all : (q : Origin) (t : Bool) → outer inputs (slice_get r.results p) ≡ Some q → (if t then Some q else None) ≡ Some o → Outer inputs (slice_get r.results p) o
    by_all q true f d = outer_is inputs (slice_get r.results p) o (f ∙ d)
    by_all q false f d = absurd cc

    by : (c : Option Origin) → outer inputs (slice_get r.results p) ≡ c → option_and_then (λ q. if all_pass_in inputs q p rs then Some q else None) c ≡ Some o → Outer inputs (slice_get r.results p) o
    by None f d = absurd cc
    by (Some q) f d = by_all q (all_pass_in inputs q p rs) f d

node_true : (o p : Option ℕ) → same_node o p ≡ true → o ≡ p
node_true None None e = refl
node_true None (Some m) e = absurd cc
node_true (Some n) None e = absurd cc
node_true (Some n) (Some m) e = ap Some (same_number n m e)

same_place_is : (p q : Place) → same_place p q ≡ true → p ≡ q
same_place_is p q e =
    let both = and_parts (same_node p.node q.node) (p.region == q.region) e in
    λ i. record { node = node_true p.node q.node both.0 i; region = same_number p.region q.region both.1 i }

-- ---- what a variable carries

pub record Carries (n : ℕ) (a : Flat) (x : FlatNode) (p : ℕ) (o : Origin) : Type 0 where
  pub kind : Kind
  pub own : slice_get x.outputs p ≡ Some kind
  pub there : kind_in x.home o a ≡ Some kind
  pub other : IsOther n o
  pub index : ℕ
  pub input : slice_get x.inputs index ≡ Some o

module _ (n : ℕ) (a : Flat) (x : FlatNode) (whole : IsWhole a) (e : found n a.nodes ≡ Some x) where
  gamma_carries : x.op ≡ Gamma → (p : ℕ) (o : Origin) → slice_get (exits_in x.inputs x.regions 0 x.outputs) p ≡ Some (Some o) → Carries n a x p o
  gamma_carries g p o d =
      let r = gamma_reads n a x whole e g in
      let lt : p < length x.outputs = omega (arith, within_get p (exits_in x.inputs x.regions 0 x.outputs) (Some o) d, exits_count x.inputs x.regions 0 x.outputs) in
      let j = at_index p x.outputs lt in
      let here : 0 + p ≡ p = omega arith in
      let passed : passed_in x.inputs p (r.region ∷ r.rest) ≡ Some o =
      ap (passed_in x.inputs p) (sym r.regions) ∙ ap (λ q. passed_in x.inputs q x.regions) (sym here) ∙ exits_at x.inputs x.regions 0 x.outputs p o d in
      let first = passed_first x.inputs p r.region r.rest o passed in
      record {
        kind = j.element;
        own = j.there;
        there = r.inputs first.argument o j.element first.input (r.outputs p first.argument j.element first.result j.there);
        other = input_other n a x whole e (suc first.argument) o first.input;
        index = suc first.argument;
        input = first.input;
      }

  theta_carries : x.op ≡ Theta → (r : FlatRegion) → r.args ≡ x.outputs → (p : ℕ) (o : Origin) → slice_get (variables_from x.inputs r.results 0 r.args) p ≡ Some (Some o) → Carries n a x p o
  theta_carries t r args p o d =
      let reads = theta_reads n a x whole e t in
      let lt : p < length x.outputs = omega (arith, within_get p (variables_from x.inputs r.results 0 r.args) (Some o) d, variables_count x.inputs r.results 0 r.args, ap length args) in
      let j = at_index p x.outputs lt in
      let here : 0 + p ≡ p = omega arith in
      let input : slice_get x.inputs p ≡ Some o = ap (λ q. slice_get x.inputs q) (sym here) ∙ variables_at x.inputs r.results 0 r.args p o d in
      record {
        kind = j.element;
        own = j.there;
        there = reads.inputs p o j.element input j.there;
        other = input_other n a x whole e p o input;
        index = p;
        input = input;
      }

  abbrev list : List (Option Origin)
  list = carried_of x

  pub gamma_list : x.op ≡ Gamma → list ≡ exits_in x.inputs x.regions 0 x.outputs
  gamma_list g = ap (λ op. carried_by op x.regions x) g

  pub theta_list : x.op ≡ Theta → (r : FlatRegion) → x.regions ≡ r ∷ [] → list ≡ variables_from x.inputs r.results 0 r.args
  theta_list t r is = λ i. carried_by (t i) (is i) x

  pub carries : can_carry x.op ≡ true → (p : ℕ) (o : Origin) → slice_get list p ≡ Some (Some o) → Carries n a x p o
  carries c p o d = by x.op refl c
    where
      by : (op : Op) → x.op ≡ op → can_carry op ≡ true → Carries n a x p o
      by Gamma g q = gamma_carries g p o (ap (λ cs. slice_get cs p) (sym (gamma_list g)) ∙ d)
      by Theta t q = let f = theta_fits n a x whole e t in theta_carries t f.region f.args p o (ap (λ cs. slice_get cs p) (sym (theta_list t f.region f.regions)) ∙ d)
      by op g q = absurd cc

  pub count_is : can_carry x.op ≡ true → length list ≡ length x.outputs
  count_is c = by x.op refl c
    where
      by : (op : Op) → x.op ≡ op → can_carry op ≡ true → length list ≡ length x.outputs
      by Gamma g q = ap length (gamma_list g) ∙ exits_count x.inputs x.regions 0 x.outputs
      by Theta t q = let f = theta_fits n a x whole e t in ap length (theta_list t f.region f.regions) ∙ variables_count x.inputs f.region.results 0 f.region.args ∙ ap length f.args
      by op g q = absurd cc

  -- ---- it stands before the node

  abbrev front : List FlatNode
  front = until number n a.nodes

  abbrev next : Option ℕ
  next = node_after n a

  abbrev rest : List FlatNode
  rest = left number next a.nodes

  abbrev ms : List ℕ
  ms = numbers_left next a

  once : Once number a.nodes
  once = once_whole a whole

  walk : Forward number n x a.nodes next
  walk = forward number n x a.nodes once (found_at n x a.nodes e)

  split : front ++ (x ∷ rest) ≡ a.nodes
  split = ap (λ ys. front ++ ys) (sym walk.leaves) ∙ parts_are number n a.nodes

  -- where a number stands
  either : (m : ℕ) (xs : List FlatNode) → ((y : FlatNode) × At number m y xs) ⊎ Absent number m xs
  either m [] = inr tt
  either m (y ∷ ys) = by (y.id == m) refl (either m ys)
    where
      by : (t : Bool) → (y.id == m) ≡ t → ((z : FlatNode) × At number m z ys) ⊎ Absent number m ys → ((z : FlatNode) × At number m z (y ∷ ys)) ⊎ Absent number m (y ∷ ys)
      by true q s = inl (y, record { rest = ys; is = ap (λ t. if t then y ∷ ys else onward number m ys) q })
      by false q (inl s) = inl (s.0, record { rest = s.1.rest; is = ap (λ t. if t then y ∷ ys else onward number m ys) q ∙ s.1.is })
      by false q (inr s) = inr (q, s)

  until_past : (m : ℕ) (xs : List FlatNode) → Absent number m xs → (x.id == m) ≡ false → (q : ℕ) → times (Out m q) x.inputs ≤ input_uses x.home (Out m q) (until number m (xs ++ (x ∷ rest)))
  until_past m [] h d q =
      let own : (if same_place x.home x.home then times (Out m q) x.inputs else 0) ≡ times (Out m q) x.inputs = ap (λ t. if t then times (Out m q) x.inputs else 0) (same_place_self x.home) in
      omega (arith, own, ap (λ t. input_uses x.home (Out m q) (if t then [] else x ∷ until number m rest)) d)
  until_past m (y ∷ ys) h d q =
      omega (arith, until_past m ys h.1 d q, ap (λ t. input_uses x.home (Out m q) (if t then [] else y ∷ until number m (ys ++ (x ∷ rest)))) h.0)

  uses_more : (p : Place) (o : Origin) (xs ys : List FlatNode) → input_uses p o xs ≤ input_uses p o (xs ++ ys)
  uses_more p o [] ys = omega arith
  uses_more p o (z ∷ zs) ys = omega (arith, uses_more p o zs ys)

  times_of : (o : Origin) (xs : List Origin) (k : ℕ) → slice_get xs k ≡ Some o → 1 ≤ times o xs
  times_of o [] k d = absurd cc
  times_of o (z ∷ zs) zero d =
      omega (arith, ap (λ t. (if t then 1 else 0) + times o zs) (ap (λ c. same_origin o c) (same_Some z o d) ∙ same_origin_self o))
  times_of o (z ∷ zs) (suc k) d = omega (arith, times_of o zs k d)

  home_of : (p : Place) (m q : ℕ) (o : Option FlatNode) (j : Kind) → option_and_then (output_kind p q) o ≡ Some j → (y : FlatNode) × (o ≡ Some y) × (same_place y.home p ≡ true)
  home_of p m q None j d = absurd cc
  home_of p m q (Some y) j d = (y, refl, by (same_place y.home p) d)
    where
      by : (t : Bool) → (if t then slice_get y.outputs q else None) ≡ Some j → t ≡ true
      by true c = refl
      by false c = absurd cc

  pub before_node : (p : ℕ) (o : Origin) → Carries n a x p o → NamesNone ms o
  before_node p (Arg k) c = tt
  before_node p (Out m q) c = by (either m front)
    where
      other : (x.id == m) ≡ false
      other = ap (λ i. i == m) (stands n x a whole e).number ∙ equal_back n m ∙ other_number n m q c.other

      by : ((y : FlatNode) × At number m y front) ⊎ Absent number m front → is_in ms (Some m) ≡ false
      by (inl s) =
          ap (λ ns. is_in ns (Some m)) (left_numbers number next a.nodes)
          ∙ absent_numbers number m rest (absent_behind number m s.0 front (x ∷ rest) (subst (Once number) (sym split) once) s.1).1
      by (inr h) = absurd wrong
        where
          y : (y : FlatNode) × (found m a.nodes ≡ Some y) × (same_place y.home x.home ≡ true)
          y = home_of x.home m q (found m a.nodes) c.kind c.there

          there : Stands m y.0 a
          there = stands m y.0 a whole y.1

          wrong : ⊥
          wrong =
              let none : input_uses x.home (Out m q) (until number m a.nodes ++ y.0 ∷ []) ≡ 0 =
              ap (λ r. input_uses r (Out m q) (until number m a.nodes ++ y.0 ∷ [])) (sym (same_place_is y.0.home x.home y.2)) ∙ there.unread q in
              let some : times (Out m q) x.inputs ≤ input_uses x.home (Out m q) (until number m a.nodes) =
              subst (λ xs. times (Out m q) x.inputs ≤ input_uses x.home (Out m q) (until number m xs)) split (until_past m front h other q) in
              omega (arith, none, some, times_of (Out m q) x.inputs c.index c.input, uses_more x.home (Out m q) (until number m a.nodes) (y.0 ∷ []))
