-- The moves of uses, as the code has them: from the last variable to the first.
use Rattle.std.proofs.Common.{◌≡◌, ◌≤◌, ◌<◌, ◌+◌, ◌-◌, ℕ, zero, suc, true, false, Option, None, Some, List, [], ◌∷◌, drop, length, refl, sym, ap, subst, ◌∙◌, arith}
use Rattle.std.specs.Prelude.{if◌then◌else◌, IsSome, is_some, slice_get}
use Rattle.std.proofs.lemmas.Option.{same_Some}
use Rattle.g_graph.specs.declared.op.Op.TheVariants.{Gamma, Theta}
use Rattle.g_graph.specs.declared.op.Origin.{Origin}
use Rattle.g_graph.specs.declared.op.Origin.TheVariants.{Out}
use Rattle.g_graph.specs.Scope.{same_origin}
use Rattle.g_arena_def.specs.declared.place.Place.{Place}
use Rattle.g_arena_def.specs.Flat.{FlatNode, Flat}
use Rattle.g_arena_def.specs.Reads.{found, kind_in, uses_in}
use Rattle.r_sweep.specs.Removals.{exit_removed, uses_moved, uses_carried, exits_carried}
use Rattle.r_sweep.proofs.lemmas.Kept.{IsOther}
use Rattle.r_sweep.specs.Exit.{IsExit}
use Rattle.r_sweep.specs.Fast.{IsWhole}
use Rattle.r_sweep.proofs.lemmas.ExitSteps.{kind_before}
use Rattle.r_sweep.proofs.lemmas.Moves.{kinds_still}
use Rattle.r_sweep.proofs.lemmas.Whole.{Stands, stands}
use Rattle.r_inv.specs.Listed.{some_use, moved_in}
use Rattle.r_inv.specs.declared.carried_sweep.Shape.{Shape}
use Rattle.r_inv.specs.Shape.{IsShape}
use Rattle.r_inv.specs.Carried.{can_carry, carried_of, out_by, carried_out}
use Rattle.r_inv.specs.Cost.{uses_cost, exits_cost, cost_by, cost_out, cost_moved}
use Rattle.r_inv.proofs.ListParts.{at_index, none_after, within_get, AllSome, all_some}
use Rattle.r_inv.proofs.Alike.{kind_alike}
use Rattle.r_inv.proofs.Carrying.{Carries, carries, count_is}
use Rattle.r_inv.proofs.Moves.{Now, own_kind, other_origin, exits_now, may_go}
use Rattle.r_inv.proofs.Visits.{now_start, moved_is}

length_drop : {X : Type 0} (k : ℕ) (xs : List X) → k ≤ length xs → length (drop k xs) + k ≡ length xs
length_drop zero xs h = omega arith
length_drop (suc k) [] h = absurd (omega (arith, h))
length_drop (suc k) (x ∷ xs) h = omega (arith, length_drop k xs (omega (arith, h)))

drop_some : {X : Type 0} (P : X → Type 0) (k : ℕ) (xs : List (Option X)) → AllSome P xs → AllSome P (drop k xs)
drop_some P zero xs h = h
drop_some P (suc k) [] h = h
drop_some P (suc k) (None ∷ xs) h = drop_some P k xs h
drop_some P (suc k) (Some x ∷ xs) h = drop_some P k xs h.1

-- kinds are as they were while uses move
kinds_carried : (n : ℕ) (p : Place) (cs : List (Option Origin)) (k : ℕ) (a : Flat) (q : Place) (o : Origin) → kind_in q o (uses_carried n p k cs a) ≡ kind_in q o a
kinds_carried n p [] k a q o = refl
kinds_carried n p (None ∷ cs) k a q o = kinds_carried n p cs (suc k) a q o
kinds_carried n p (Some t ∷ cs) k a q o =
    let b = uses_carried n p (suc k) cs a in
    kinds_still p (Out n k) t q o (uses_in p (Out n k) b) b ∙ kinds_carried n p cs (suc k) a q o

module _ (s : Shape) (a : Flat) (whole : IsWhole a) (h : IsShape s a) (cs : List (Option Origin)) (is : cs ≡ carried_of h.node) (can : can_carry s.op ≡ true) where
  abbrev x : FlatNode
  x = h.node

  can_here : can_carry x.op ≡ true
  can_here = ap can_carry (sym h.op) ∙ can

  pub count : length cs ≡ s.outputs
  count = ap length is ∙ count_is s.node a x whole h.there can_here ∙ sym h.outputs

  pub none_moved : drop s.outputs cs ≡ []
  none_moved = none_after s.outputs cs count

  abbrev here : Stands s.node x a
  here = stands s.node x a whole h.there

  carried_at : (p : ℕ) (o : Origin) → slice_get cs p ≡ Some (Some o) → Carries s.node a x p o
  carried_at p o e = carries s.node a x whole h.there can_here p o (ap (λ ks. slice_get ks p) (sym is) ∙ e)

  others : AllSome (IsOther s.node) cs
  others = all_some (IsOther s.node) cs (λ p o e. (carried_at p o e).other)

  -- the element of an index, with those after it
  rest_is : (p : ℕ) (c : Option Origin) → slice_get cs p ≡ Some c → drop p cs ≡ c ∷ drop (suc p) cs
  rest_is p c e =
      let at = at_index p cs (within_get p cs c e) in
      at.rest ∙ ap (λ d. d ∷ drop (suc p) cs) (same_Some at.element c (sym at.there ∙ e))

  module _ (port : ℕ) (some : 0 < port) (within : port ≤ s.outputs) where
    abbrev p : ℕ
    p = port - 1

    next : port ≡ suc p
    next = omega (arith, some)

    pub lt : p < s.outputs
    lt = omega (arith, some, within)

    pub other_there : (o : Origin) → slice_get cs p ≡ Some (Some o) → same_origin (Out s.node p) o ≡ false
    other_there o e = other_origin s.node p o (carried_at p o e).other

    -- ---- loop variables

    pub uses_stay : slice_get cs p ≡ Some None →
        (uses_carried s.node s.home p (drop p cs) a ≡ uses_carried s.node s.home port (drop port cs) a) × (uses_cost s.node s.home p (drop p cs) a ≡ uses_cost s.node s.home port (drop port cs) a)
    uses_stay e =
        let r = rest_is p None e in (
          ap (λ ds. uses_carried s.node s.home p ds a) r ∙ ap (λ q. uses_carried s.node s.home q (drop q cs) a) (sym next),
          ap (λ ds. uses_cost s.node s.home p ds a) r ∙ ap (λ q. uses_cost s.node s.home q (drop q cs) a) (sym next),
        )

    module _ (o : Origin) (e : slice_get cs p ≡ Some (Some o)) (b : Flat) (b_is : b ≡ uses_carried s.node s.home port (drop port cs) a) where
      pub uses_go : (uses_moved s.home (Out s.node p) o b ≡ uses_carried s.node s.home p (drop p cs) a)
          × (uses_cost s.node s.home p (drop p cs) a ≡ uses_cost s.node s.home port (drop port cs) a + (1 + uses_in s.home (Out s.node p) b))
      uses_go =
          let r = rest_is p (Some o) e in
          let now = b_is ∙ ap (λ q. uses_carried s.node s.home q (drop q cs) a) next in (
            ap (uses_moved s.home (Out s.node p) o) now ∙ sym (ap (λ ds. uses_carried s.node s.home p ds a) r),
            ap (λ ds. uses_cost s.node s.home p ds a) r
                ∙ (λ i. uses_cost s.node s.home (sym next i) (drop (sym next i) cs) a + (1 + uses_in s.home (Out s.node p) (sym now i))),
          )

      uses_kind : (q : Origin) → kind_in s.home q b ≡ kind_in x.home q a
      uses_kind q = ap (kind_in s.home q) b_is ∙ kinds_carried s.node s.home (drop port cs) port a s.home q ∙ ap (λ r. kind_in r q a) h.home

      pub uses_own : IsSome (kind_in s.home (Out s.node p) b)
      uses_own = let c = carried_at p o e in ap is_some (uses_kind (Out s.node p) ∙ own_kind s.node x p c.kind a x h.there refl c.own)

      pub uses_there : IsSome (kind_in s.home o b)
      uses_there = ap is_some (uses_kind o ∙ (carried_at p o e).there)

      pub uses_kinds : kind_in s.home (Out s.node p) b ≡ kind_in s.home o b
      uses_kinds =
          let c = carried_at p o e in
          uses_kind (Out s.node p) ∙ own_kind s.node x p c.kind a x h.there refl c.own ∙ sym (uses_kind o ∙ c.there)

    -- ---- exit variables

    pub exits_stay : slice_get cs p ≡ Some None →
        (exits_carried s.node s.regions s.home p (drop p cs) a ≡ exits_carried s.node s.regions s.home port (drop port cs) a)
        × (exits_cost s.node s.regions s.home p (drop p cs) a ≡ exits_cost s.node s.regions s.home port (drop port cs) a)
    exits_stay e =
        let r = rest_is p None e in (
          ap (λ ds. exits_carried s.node s.regions s.home p ds a) r ∙ ap (λ q. exits_carried s.node s.regions s.home q (drop q cs) a) (sym next),
          ap (λ ds. exits_cost s.node s.regions s.home p ds a) r ∙ ap (λ q. exits_cost s.node s.regions s.home q (drop q cs) a) (sym next),
        )

    module _ (g : s.op ≡ Gamma) (o : Origin) (e : slice_get cs p ≡ Some (Some o)) (b : Flat) (b_is : b ≡ exits_carried s.node s.regions s.home port (drop port cs) a) where
      pub exits_go : (exit_removed s.node s.regions p (uses_moved s.home (Out s.node p) o b) ≡ exits_carried s.node s.regions s.home p (drop p cs) a)
          × (exits_cost s.node s.regions s.home p (drop p cs) a ≡ exits_cost s.node s.regions s.home port (drop port cs) a + (2 + s.regions + uses_in s.home (Out s.node p) b))
      exits_go =
          let r = rest_is p (Some o) e in
          let now = b_is ∙ ap (λ q. exits_carried s.node s.regions s.home q (drop q cs) a) next in (
            ap (λ d. exit_removed s.node s.regions p (uses_moved s.home (Out s.node p) o d)) now ∙ sym (ap (λ ds. exits_carried s.node s.regions s.home p ds a) r),
            ap (λ ds. exits_cost s.node s.regions s.home p ds a) r
                ∙ (λ i. exits_cost s.node s.regions s.home (sym next i) (drop (sym next i) cs) a + (2 + s.regions + uses_in s.home (Out s.node p) (sym now i))),
          )

      abbrev c : ℕ
      c = length x.regions

      gamma_here : x.op ≡ Gamma
      gamma_here = sym h.op ∙ g

      -- what is there, with as many regions as the code counts
      now : Now s.node x a here.apart here.region here.there c (suc p) b
      now =
          let start = now_start s.node a x whole h.there can_here gamma_here in
          let all : suc p + length (drop (suc p) cs) ≡ length x.outputs = omega (arith, length_drop (suc p) cs (omega (arith, count, lt)), count, h.outputs, lt) in
          let done = exits_now s.node x a here.apart here.region here.there c (drop (suc p) cs) (suc p) (length x.outputs) all (drop_some (IsOther s.node) (suc p) cs others) start in
          subst (Now s.node x a here.apart here.region here.there c (suc p)) (sym (b_is ∙ (λ i. exits_carried s.node (h.regions i) (h.home i) (next i) (drop (next i) cs) a))) done

      exits_own_kind : kind_in s.home (Out s.node p) b ≡ Some (carried_at p o e).kind
      exits_own_kind =
          let k = carried_at p o e in
          ap (λ q. kind_in q (Out s.node p) b) h.home ∙ kind_before s.node x b c (suc p) p b k.kind now.exits (omega arith) k.own

      exits_kind : kind_in s.home o b ≡ Some (carried_at p o e).kind
      exits_kind =
          let k = carried_at p o e in
          ap (λ q. kind_in q o b) h.home ∙ kind_alike s.node x.home o a b k.other now.alike ∙ k.there

      pub exits_own : IsSome (kind_in s.home (Out s.node p) b)
      exits_own = ap is_some exits_own_kind

      pub exits_there : IsSome (kind_in s.home o b)
      exits_there = ap is_some exits_kind

      pub exits_kinds : kind_in s.home (Out s.node p) b ≡ kind_in s.home o b
      exits_kinds = exits_own_kind ∙ sym exits_kind

      pub exits_may_go : IsExit s.node s.regions p (uses_moved s.home (Out s.node p) o b)
      exits_may_go =
          subst (λ q. IsExit s.node q p (uses_moved s.home (Out s.node p) o b)) (sym h.regions)
          (subst (λ q. IsExit s.node c p (uses_moved q (Out s.node p) o b)) (sym h.home)
          (may_go s.node x a here.apart here.region here.there c p o b (carried_at p o e).other now (omega (arith, lt, h.outputs))))

-- ---- as it is noted

module _ (s : Shape) (a : Flat) (whole : IsWhole a) (h : IsShape s a) (cs : List (Option Origin)) (is : cs ≡ carried_of h.node) (can : can_carry s.op ≡ true) (y : FlatNode) (e : found s.node a.nodes ≡ Some y) where
  node_is : h.node ≡ y
  node_is = same_Some h.node y (sym h.there ∙ e)

  cs_are : cs ≡ carried_of y
  cs_are = is ∙ ap carried_of node_is

  can_own : can_carry y.op ≡ true
  can_own = ap (λ (z : FlatNode). can_carry z.op) (sym node_is) ∙ ap can_carry (sym h.op) ∙ can

  number_is : s.node ≡ y.id
  number_is = sym (stands s.node y a whole e).number

  home_is : s.home ≡ y.home
  home_is = h.home ∙ ap (λ (z : FlatNode). z.home) node_is

  op_is : s.op ≡ y.op
  op_is = h.op ∙ ap (λ (z : FlatNode). z.op) node_is

  regions_are : s.regions ≡ length y.regions
  regions_are = h.regions ∙ ap (λ (z : FlatNode). length z.regions) node_is

  used_is : some_use a s.home s.node 0 cs ≡ some_use a y.home y.id 0 (carried_of y)
  used_is = λ i. some_use a (home_is i) (number_is i) 0 (cs_are i)

  pub none_used : some_use a s.home s.node 0 cs ≡ false → (moved_in a y ≡ None) × (cost_moved a y ≡ 0)
  none_used d =
      let u = sym used_is ∙ d in
      (moved_is s.node a y whole e can_own ∙ ap (λ t. if t then Some (carried_out a y) else None) u, ap (λ t. if t then cost_out a y else 0) u)

  pub some_used : some_use a s.home s.node 0 cs ≡ true → (moved_in a y ≡ Some (carried_out a y)) × (cost_moved a y ≡ cost_out a y)
  some_used d =
      let u = sym used_is ∙ d in
      (moved_is s.node a y whole e can_own ∙ ap (λ t. if t then Some (carried_out a y) else None) u, ap (λ t. if t then cost_out a y else 0) u)

  pub gamma_out : s.op ≡ Gamma → (exits_carried s.node s.regions s.home 0 cs a ≡ carried_out a y) × (exits_cost s.node s.regions s.home 0 cs a ≡ cost_out a y)
  gamma_out g = (
    (λ i. exits_carried (number_is i) (regions_are i) (home_is i) 0 (cs_are i) a) ∙ ap (λ op. out_by op a y) (sym g ∙ op_is),
    (λ i. exits_cost (number_is i) (regions_are i) (home_is i) 0 (cs_are i) a) ∙ ap (λ op. cost_by op a y) (sym g ∙ op_is),
  )

  pub theta_out : s.op ≡ Theta → (uses_carried s.node s.home 0 cs a ≡ carried_out a y) × (uses_cost s.node s.home 0 cs a ≡ cost_out a y)
  theta_out t = (
    (λ i. uses_carried (number_is i) (home_is i) 0 (cs_are i) a) ∙ ap (λ op. out_by op a y) (sym t ∙ op_is),
    (λ i. uses_cost (number_is i) (home_is i) 0 (cs_are i) a) ∙ ap (λ op. cost_by op a y) (sym t ∙ op_is),
  )
