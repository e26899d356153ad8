-- What is asked to find what a variable carries, as the code has it.
use Rattle.std.proofs.Common.{◌≡◌, ◌≤◌, ◌<◌, ◌+◌, ◌*◌, ◌&&◌, ℕ, zero, suc, Bool, true, false, Option, None, Some, option_and_then, List, [], ◌∷◌, drop, length, refl, sym, ap, ◌∙◌, arith}
use Rattle.std.specs.Prelude.{if◌then◌else◌, IsSome, is_some, slice_get}
use Rattle.std.proofs.Math.Nat.{mul-le-mul_left}
use Rattle.std.proofs.lemmas.Option.{same_Some}
use Rattle.g_graph.specs.declared.op.Kind.{Kind}
use Rattle.g_graph.specs.declared.op.Kind.TheVariants.{Value}
use Rattle.g_graph.specs.declared.op.Op.{Op}
use Rattle.g_graph.specs.declared.op.Op.TheVariants.{Gamma, Theta}
use Rattle.g_graph.specs.declared.op.Origin.{Origin}
use Rattle.g_graph.specs.declared.op.Origin.TheVariants.{Arg, Out}
use Rattle.g_graph.specs.Scope.{same_kind, same_origin}
use Rattle.g_graph.specs.WellFormed.{is_origin}
use Rattle.r_edit.specs.Carried.{outer}
use Rattle.r_inv.specs.Rule.{variables_from}
use Rattle.g_arena_def.specs.Flat.{FlatRegion, FlatNode, Flat, place_in}
use Rattle.g_arena_def.specs.Reads.{found, result_at, kind_in}
use Rattle.r_sweep.specs.Fast.{IsWhole}
use Rattle.r_sweep.proofs.lemmas.Fits.{GammaFits, gamma_fits, ThetaFits, theta_fits}
use Rattle.r_inv.specs.Listed.{all_pass_in, passed_in, exits_in}
use Rattle.r_inv.specs.declared.carried_sweep.Shape.{Shape}
use Rattle.r_inv.specs.Shape.{IsShape}
use Rattle.r_inv.specs.Carried.{can_carry, kept_in, carried_of}
use Rattle.r_inv.proofs.ListParts.{At, at_index, none_after}
use Rattle.r_inv.proofs.Carrying.{count_is, gamma_list, theta_list}
use Rattle.r_inv.proofs.Moves.{own_kind}

-- one more, within a product
pub product_more : (a k o : ℕ) → k < o → a * k + a ≤ a * o
product_more a k o h =
    let le : k + 1 ≤ o = omega (arith, h) in
    omega (arith, mul-le-mul_left a le)

pub other_theta : (op : Op) → can_carry op ≡ true → (op ≡ Gamma → ⊥) → op ≡ Theta
other_theta Gamma c h = absurd (h refl)
other_theta Theta c h = refl
other_theta op c h = absurd cc

-- ---- lists

exits_slice : (inputs : List Origin) (rs : List FlatRegion) (p : ℕ) (js : List Kind) (k : ℕ) → k < length js → slice_get (exits_in inputs rs p js) k ≡ Some (passed_in inputs (p + k) rs)
exits_slice inputs rs p [] k h = absurd (omega (arith, h))
exits_slice inputs rs p (j ∷ js) zero h = let here : p ≡ p + 0 = omega arith in ap (λ q. Some (passed_in inputs q rs)) here
exits_slice inputs rs p (j ∷ js) (suc k) h =
    let here : suc p + k ≡ p + suc k = omega arith in exits_slice inputs rs (suc p) js k (omega (arith, h)) ∙ ap (λ q. Some (passed_in inputs q rs)) here

variables_slice : (inputs outs : List Origin) (p : ℕ) (js : List Kind) (k : ℕ) (j : Kind) → slice_get js k ≡ Some j → slice_get (variables_from inputs outs p js) k ≡ Some (kept_in inputs outs (p + k) j)
variables_slice inputs outs p [] k j e = absurd cc
variables_slice inputs outs p (i ∷ js) zero j e =
    let here : p ≡ p + 0 = omega arith in λ q. Some (kept_in inputs outs (here q) (same_Some i j e q))
variables_slice inputs outs p (i ∷ js) (suc k) j e =
    let here : suc p + k ≡ p + suc k = omega arith in variables_slice inputs outs (suc p) js k j e ∙ ap (λ q. Some (kept_in inputs outs q j)) here

-- ---- a node that is told

module _ (s : Shape) (a : Flat) (whole : IsWhole a) (h : IsShape s a) where
  abbrev x : FlatNode
  x = h.node

  node_is : (y : FlatNode) → found s.node a.nodes ≡ Some y → x ≡ y
  node_is y e = same_Some x y (sym h.there ∙ e)

  can_here : can_carry s.op ≡ true → can_carry x.op ≡ true
  can_here c = ap can_carry (sym h.op) ∙ c

  -- as many as there are outputs
  pub list_count : can_carry s.op ≡ true → (y : FlatNode) → found s.node a.nodes ≡ Some y → length (carried_of y) ≡ s.outputs
  list_count c y e = ap (λ (z : FlatNode). length (carried_of z)) (sym (node_is y e)) ∙ count_is s.node a x whole h.there (can_here c) ∙ sym h.outputs

  pub origin_there : (p : ℕ) → p < s.outputs → IsSome (kind_in s.home (Out s.node p) a)
  origin_there p lt =
      let out = at_index p x.outputs (omega (arith, lt, h.outputs)) in
      ap (λ q. is_some (kind_in q (Out s.node p) a)) h.home ∙ ap is_some (own_kind s.node x p out.element a x h.there refl out.there)

  -- ---- a Gamma

  module _ (g : s.op ≡ Gamma) (p : ℕ) (lt : p < s.outputs) where
    gamma : x.op ≡ Gamma
    gamma = sym h.op ∙ g

    fits : GammaFits x
    fits = gamma_fits s.node a x whole h.there gamma

    within : p < length x.outputs
    within = omega (arith, lt, h.outputs)

    some_within : (k : ℕ) (xs : List Origin) → k < length xs → IsSome (slice_get xs k)
    some_within k xs l = ap is_some (at_index k xs l).there

    result_is : (j : ℕ) → result_at (place_in s.node j) p a ≡ option_and_then (λ (r : FlatRegion). slice_get r.results p) (slice_get x.regions j)
    result_is j = ap (λ o. option_and_then (λ (r : FlatRegion). slice_get r.results p) (option_and_then (λ (z : FlatNode). slice_get z.regions j) o)) h.there

    pub results_there : (j : ℕ) → j < s.regions → IsSome (result_at (place_in s.node j) p a)
    results_there j l =
        let f = fits.each j (omega (arith, l, h.regions)) in
        ap is_some (result_is j ∙ ap (option_and_then (λ (r : FlatRegion). slice_get r.results p)) f.there) ∙ some_within p f.region.results (omega (arith, f.results, within))

    pub some_region : 0 < s.regions
    some_region = omega (arith, fits.some, h.regions)

    -- what result p of region j carries
    abbrev given : List Origin → ℕ → Option Origin
    given is j = outer is (result_at (place_in s.node j) p a)

    rest_is : (is : List Origin) (j : ℕ) (o : Origin) → j < s.regions → all_pass_in is o p (drop j x.regions) ≡ is_origin (given is j) o && all_pass_in is o p (drop (suc j) x.regions)
    rest_is is j o l =
        let at = at_index j x.regions (omega (arith, l, h.regions)) in
        ap (all_pass_in is o p) at.rest
        ∙ ap (λ c. is_origin (outer is c) o && all_pass_in is o p (drop (suc j) x.regions)) (sym (result_is j ∙ ap (option_and_then (λ (r : FlatRegion). slice_get r.results p)) at.there))

    passed_is : (is : List Origin) → passed_in is p x.regions ≡ option_and_then (λ o. if all_pass_in is o p (drop 1 x.regions) then Some o else None) (given is 0)
    passed_is is =
        let at = at_index 0 x.regions (omega (arith, fits.some)) in
        ap (passed_in is p) at.rest
        ∙ ap (λ c. option_and_then (λ o. if all_pass_in is o p (drop 1 x.regions) then Some o else None) (outer is c)) (sym (result_is 0 ∙ ap (option_and_then (λ (r : FlatRegion). slice_get r.results p)) at.there))

    listed : slice_get (carried_of x) p ≡ Some (passed_in x.inputs p x.regions)
    listed =
        let here : 0 + p ≡ p = omega arith in
        ap (λ cs. slice_get cs p) (gamma_list s.node a x whole h.there gamma) ∙ exits_slice x.inputs x.regions 0 x.outputs p within ∙ ap (λ q. Some (passed_in x.inputs q x.regions)) here

    module _ (y : FlatNode) (e : found s.node a.nodes ≡ Some y) (is : List Origin) where
      -- the regions from one on
      abbrev pub left : Origin → ℕ → Bool
      left o j = all_pass_in is o p (drop j y.regions)

      left_here : (o : Origin) (j : ℕ) → left o j ≡ all_pass_in is o p (drop j x.regions)
      left_here o j = λ i. all_pass_in is o p (drop j (sym (node_is y e) i).regions)

      pub next_region : (o : Origin) (j : ℕ) → j < s.regions → left o j ≡ is_origin (outer is (result_at (place_in s.node j) p a)) o && left o (j + 1)
      next_region o j l =
          let one : suc j ≡ j + 1 = omega arith in
          left_here o j ∙ rest_is is j o l ∙ ap (λ k. is_origin (outer is (result_at (place_in s.node j) p a)) o && all_pass_in is o p (drop k x.regions)) one
          ∙ ap (λ t. is_origin (outer is (result_at (place_in s.node j) p a)) o && t) (sym (left_here o (j + 1)))

      pub none_left : (o : Origin) (j : ℕ) → j ≡ s.regions → left o j ≡ true
      none_left o j last = left_here o j ∙ ap (all_pass_in is o p) (none_after j x.regions (omega (arith, last, h.regions)))

      module _ (is_inputs : is ≡ y.inputs) where
        own : (o : Option Origin) → passed_in is p x.regions ≡ o → slice_get (carried_of y) p ≡ Some o
        own o d =
            let inputs_are : is ≡ x.inputs = is_inputs ∙ ap (λ (z : FlatNode). z.inputs) (sym (node_is y e)) in
            ap (λ (z : FlatNode). slice_get (carried_of z) p) (sym (node_is y e)) ∙ listed ∙ ap (λ os. Some (passed_in os p x.regions)) (sym inputs_are) ∙ ap Some d

        -- the first region carries nothing there
        pub none_first : outer is (result_at (place_in s.node 0) p a) ≡ None → slice_get (carried_of y) p ≡ Some None
        none_first d = own None (passed_is is ∙ ap (option_and_then (λ o. if all_pass_in is o p (drop 1 x.regions) then Some o else None)) d)

        pub some_first : (first : Origin) (t : Bool) → outer is (result_at (place_in s.node 0) p a) ≡ Some first → left first 1 ≡ t → slice_get (carried_of y) p ≡ Some (if t then Some first else None)
        some_first first t d f =
            own (if t then Some first else None)
            (passed_is is ∙ ap (option_and_then (λ o. if all_pass_in is o p (drop 1 x.regions) then Some o else None)) d ∙ ap (λ u. if u then Some first else None) (sym (left_here first 1) ∙ f))

  -- ---- a Theta

  module _ (t : s.op ≡ Theta) (p : ℕ) (lt : p < s.outputs) where
    theta : x.op ≡ Theta
    theta = sym h.op ∙ t

    loop : ThetaFits x
    loop = theta_fits s.node a x whole h.there theta

    out : At p x.outputs
    out = at_index p x.outputs (omega (arith, lt, h.outputs))

    kind_told : kind_in s.home (Out s.node p) a ≡ Some out.element
    kind_told = ap (λ q. kind_in q (Out s.node p) a) h.home ∙ own_kind s.node x p out.element a x h.there refl out.there

    result_of : At (suc p) loop.region.results
    result_of = at_index (suc p) loop.region.results (omega (arith, lt, h.outputs, loop.results))

    own_result : result_at (place_in s.node 0) (p + 1) a ≡ Some result_of.element
    own_result =
        let one : p + 1 ≡ suc p = omega arith in
        ap (λ k. result_at (place_in s.node 0) k a) one
        ∙ ap (λ o. option_and_then (λ (r : FlatRegion). slice_get r.results (suc p)) (option_and_then (λ (z : FlatNode). slice_get z.regions 0) o)) h.there
        ∙ ap (λ rs. option_and_then (λ (r : FlatRegion). slice_get r.results (suc p)) (slice_get rs 0)) loop.regions ∙ result_of.there

    pub own_result_there : IsSome (result_at (place_in s.node 0) (p + 1) a)
    own_result_there = ap is_some own_result

    kept_listed : slice_get (carried_of x) p ≡ Some (kept_in x.inputs loop.region.results p out.element)
    kept_listed = let here : 0 + p ≡ p = omega arith in
        ap (λ cs. slice_get cs p) (theta_list s.node a x whole h.there theta loop.region loop.regions)
        ∙ variables_slice x.inputs loop.region.results 0 loop.region.args p out.element (ap (λ ks. slice_get ks p) loop.args ∙ out.there)
        ∙ ap (λ q. Some (kept_in x.inputs loop.region.results q out.element)) here

    module _ (y : FlatNode) (e : found s.node a.nodes ≡ Some y) (k : Kind) (kind : kind_in s.home (Out s.node p) a ≡ Some k) where
      kind_is : k ≡ out.element
      kind_is = same_Some k out.element (sym kind ∙ kind_told)

      own_kept : slice_get (carried_of y) p ≡ Some (if same_kind Value k && same_origin result_of.element (Arg p) then slice_get x.inputs p else None)
      own_kept =
          ap (λ (z : FlatNode). slice_get (carried_of z) p) (sym (node_is y e)) ∙ kept_listed
          ∙ (λ i. Some (if same_kind Value (sym kind_is i) && is_origin (result_of.there i) (Arg p) then slice_get x.inputs p else None))

      pub no_value : same_kind Value k ≡ false → slice_get (carried_of y) p ≡ Some None
      no_value d = own_kept ∙ ap (λ u. Some (if u && same_origin result_of.element (Arg p) then slice_get x.inputs p else None)) d

      pub value_kept : same_kind Value k ≡ true → (is : List Origin) → is ≡ y.inputs → (own : Origin) → result_at (place_in s.node 0) (p + 1) a ≡ Some own →
          slice_get (carried_of y) p ≡ Some (if same_origin own (Arg p) then slice_get is p else None)
      value_kept d is is_inputs own r =
          let same : own ≡ result_of.element = same_Some own result_of.element (sym r ∙ own_result) in
          let inputs_are : x.inputs ≡ is = ap (λ (z : FlatNode). z.inputs) (node_is y e) ∙ sym is_inputs in
          own_kept ∙ ap (λ u. Some (if u && same_origin result_of.element (Arg p) then slice_get x.inputs p else None)) d
          ∙ (λ i. Some (if same_origin (sym same i) (Arg p) then slice_get (inputs_are i) p else None))
