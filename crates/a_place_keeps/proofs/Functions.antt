-- Functions do over their places what they do over names.
use Rattle.std.proofs.Common.{◌≡◌, ◌≢◌, ◌<◌, ◌≤◌, ℕ, zero, suc, ◌+◌, true, false, List, [], ◌∷◌, ◌++◌, map, length, slice_get, slice_index, Some, refl, sym, ap, ◌∙◌, subst, inl, inr, arith, eq-eqb, eqb-true}
use Rattle.std.specs.Prelude.{◌==◌, ◌&&◌, nat_le, nat_lt}
use Rattle.std.proofs.lemmas.Bool.{cases_Bool, cases_lt, eqb-false, le-ltb, lt-leb}
use Rattle.std.proofs.lemmas.Bool.Decides.{nat_tests}
use Rattle.val_core.specs.declared.values.Value.{Value}
use Rattle.val_core.specs.Memory.{Memory, closed}
use Rattle.val_core.specs.Objects.{Addresses, address_in, opened}
use Rattle.val_core.specs.Answers.{Answer, Returned, Cut, Exited, Undefined, before, then_on, active}
use Rattle.g_mean.specs.Copies.{Same}
use Rattle.s_linear.specs.Frame.{PlainPlaces, is_lost}
use Rattle.s_linear.specs.Linear.{LinearFunction}
use Rattle.s_linear.specs.Lines.{enter, leave, code_lines, lines}
use Rattle.val_core.specs.Numbers.{numbers_from}
use Rattle.s_linear.specs.Meaning.{State, Context, Call, none_lost, no_names, written, code_run, first_names, entered, calls}
use Rattle.a_place.proofs.lemmas.Apart.{overlapping_names_differ}
use Rattle.a_place.specs.Places.{places}
use Rattle.a_place.specs.Placed.{PlacedFunction, placed_code, place_of, placed_at, put_params, placed_entered, placed_calls}
use Rattle.s_sequence_keeps.specs.Closed.{NameSet, after_code, FunctionIsClosed}
use Rattle.a_place_keeps.specs.Need.{IsIn, these, needed_by_code, SafeCode}
use Rattle.a_place_keeps.specs.Spans.{StandAt, ArePlacesApart}
use Rattle.a_place_keeps.specs.Laws.{Holds, losing, FunctionsAreClosed, FunctionsAgree}
use Rattle.a_place_keeps.proofs.Runs.{code_same}
use Rattle.a_place_keeps.proofs.Defined.{code_defined}
use Rattle.a_place_keeps.proofs.Positions.{begun, later}
use Rattle.a_place_keeps.proofs.Safe.{safe_code}
use Rattle.a_place_keeps.proofs.Standing.{alive_at, stand_split, stand_whole, spans_code}
use Rattle.g_graph.specs.Plain.{shapes_of}

-- ---- the parameters

put_holds : (f : ℕ → ℕ) (vs : List Value) (k n : ℕ) (held : ℕ → Value) → ((x y : ℕ) → x ≢ y → x < k + n → y < k + n → f x ≢ f y)
    → ((x : ℕ) → x < k → held (f x) ≡ first_names vs x) → (x : ℕ) → x < k + n → put_params (map f (numbers_from k n)) k vs held (f x) ≡ first_names vs x
put_holds f vs k zero held apart h x l = h x (omega arith)
put_holds f vs k (suc n) held apart h x l =
    put_holds f vs (suc k) n (written held (f k) (first_names vs k)) (λ y z ne a b. apart y z ne (omega arith) (omega arith)) next x (omega arith)
  where
    next : (y : ℕ) → y < suc k → written held (f k) (first_names vs k) (f y) ≡ first_names vs y
    next y b =
        elim (cases_Bool (y == k)) [
          | inl same ↦
              let e : y ≡ k = eqb-true y k same in
              let there : (f y == f k) ≡ true = eq-eqb (f y) (f k) (ap f e) in
              rw there (ap (first_names vs) (sym e))
          | inr other ↦
              let ne : y ≢ k = eqb-false y k other in
              let differ : f y ≢ f k = apart y k ne (omega arith) (omega arith) in
              let there : (f y == f k) ≡ false = grind (arith, nat_tests) in
              rw there (h y (omega arith))
        ]

in_numbers : (x from n : ℕ) → from ≤ x → x < from + n → IsIn x (numbers_from from n)
in_numbers x from zero a b = absurd (omega arith)
in_numbers x from (suc n) a b =
    elim (cases_Bool (from == x)) [
      | inl same ↦ inl (eqb-true from x same)
      | inr other ↦ let ne : from ≢ x = eqb-false from x other in inr (in_numbers x (suc from) n (omega arith) (omega arith))
    ]

-- ---- one function

same_results : {A B C : Type 0} (R : A → B → Type 0) (a : Answer A) (b : Answer B) (g : A → C) (h : B → C) → Same R a b
    → ((x : A) (y : B) → R x y → g x ≡ h y) → then_on a (λ x. Returned (g x) []) ≡ then_on b (λ y. Returned (h y) [])
same_results R (Returned x o) (Returned y p) g h k e = λ j. before (k.1 j) (Returned (e x y k.0 j) [])
same_results R (Cut o) (Cut p) g h k e = λ j. Cut (k j)
same_results R (Exited o s) (Exited p t) g h k e = λ j. Exited (k.0 j) (k.1 j)
same_results R (Undefined o) (Undefined p) g h k e = λ j. Undefined (k j)
same_results R _ _ g h k e = absurd k

-- places are safe for a function: for its code, and its parameters have different places
pub record AreSafeFor (p : PlainPlaces) (f : LinearFunction) : Type 0 where
  pub code : SafeCode (slice_index p.of) (is_lost p.temporaries) f.code (these (f.value ∷ []))
  pub params : (x y : ℕ) → x ≢ y → x < 0 + f.params → y < 0 + f.params → slice_index p.of x ≢ slice_index p.of y

abbrev value_only : LinearFunction → NameSet
value_only f = these (f.value ∷ [])

abbrev params : LinearFunction → NameSet
params f x = x < f.params

module _ (f : LinearFunction) (is_closed : FunctionIsClosed f) where
  value_written : (x : ℕ) → value_only f x → after_code (params f) f.code x
  value_written x (inl e) = subst (after_code (params f) f.code) e (is_closed.value)
  value_written x (inr z) = absurd z

  module _ (p : PlainPlaces) (safe : AreSafeFor p f) where
    abbrev at : ℕ → ℕ
    at = slice_index p.of

    params_hold : (vs : List Value) (x : ℕ) → needed_by_code f.code (value_only f) x
        → first_names vs x ≡ put_params (map at (numbers_from 0 f.params)) 0 vs no_names (at x)
    params_hold vs x n =
        let l : x < f.params = code_defined f.code (params f) (value_only f) (is_closed.code) value_written x n in
        sym (put_holds at vs 0 f.params no_names safe.params (λ y z. absurd (omega arith)) x (omega arith))

    entered_same : (n : ℕ) (callees : ℕ → Call) (global : ℕ → Value) (vs : List Value) (m : Memory) (i : List ℕ)
        → entered n callees global (Some f) vs m i ≡ placed_entered n callees global (Some (placed_at p f)) vs m i
    entered_same n callees global vs m i =
        let addresses : Addresses = record { local = address_in (length m) (map (λ o. o.size) f.objects); global = global } in
        let c : Context = record { bound = n; call = callees; lost = none_lost; addresses = addresses } in
        let s : State = record { names = first_names vs; memory = m ++ opened (shapes_of f.objects); input = i } in
        let q : State = record { names = put_params (map at (numbers_from 0 f.params)) 0 vs no_names; memory = m ++ opened (shapes_of f.objects); input = i } in
        same_results (Holds at (value_only f)) (code_run c f.code s) (code_run (losing (is_lost p.temporaries) c) (placed_code at f.code) q)
        (λ t. record { value = t.names f.value; memory = closed (length m) (length f.objects) t.memory; input = t.input })
        (λ u. record { value = u.names (at f.value); memory = closed (length m) (length f.objects) u.memory; input = u.input })
        (code_same c at (is_lost p.temporaries) f.code (value_only f) s q safe.code (record { values = params_hold vs; memory = refl; input = refl }))
        (λ t u h j. record { value = h.values f.value (inl refl) j; memory = closed (length m) (length f.objects) (h.memory j); input = h.input j })

-- ---- the places of intervals

none_lost_of_none : (p : ℕ) → is_lost 0 p ≡ false
none_lost_of_none p = elim (cases_lt p 11) [
  | inl low ↦ rw (lt-leb 11 p low) refl
  | inr high ↦ elim (nat_le 11 p) as (λ b. (b && nat_lt p 11) ≡ false) [
    | true ↦ le-ltb p 11 high
    | false ↦ refl
  ]
]

places_are_safe : (f : LinearFunction) → FunctionIsClosed f → AreSafeFor (places (lines f)) f
places_are_safe f is_closed = record {
  code =
      safe_code (lines f) (place_of f) (is_lost 0) apart none_lost_of_none f.code (params f) (value_only f) 1 stands.0 (is_closed.code)
      (spans_code (lines f) 0 1 stands.0 f.code stands.1.1)
      (later (lines f) (params f) 0 1 (omega arith)
      (λ x l. begun (lines f) x 0 (alive_at (lines f) 0 (enter (numbers_from 0 f.params)) x stands.1.0 (in_numbers x 0 f.params (omega arith) (omega arith)))))
      (λ x n. (alive_at (lines f) stands.0 (leave f.value) x stands.2.0 n).not_ended) (value_written f is_closed);
  params = λ x y ne a b.
      apart x y 0 ne (alive_at (lines f) 0 (enter (numbers_from 0 f.params)) x stands.1.0 (in_numbers x 0 f.params (omega arith) a))
      (alive_at (lines f) 0 (enter (numbers_from 0 f.params)) y stands.1.0 (in_numbers y 0 f.params (omega arith) b));
}
  where
    stands : (m : ℕ) × StandAt (lines f) 0 (enter (numbers_from 0 f.params) ∷ code_lines 0 f.code) m
        × StandAt (lines f) m (leave f.value ∷ []) (length (lines f))
    stands = stand_split (lines f) 0 (length (lines f)) (enter (numbers_from 0 f.params) ∷ code_lines 0 f.code) (leave f.value ∷ []) (stand_whole (lines f))

    apart : ArePlacesApart (lines f) (place_of f)
    apart = overlapping_names_differ (lines f)

-- ---- calls

module _ (places : LinearFunction → PlainPlaces) (safe : (f : LinearFunction) → FunctionIsClosed f → AreSafeFor (places f) f) where
  abbrev over : LinearFunction → PlacedFunction
  over f = placed_at (places f) f

  entered_each : (fs : List LinearFunction) → FunctionsAreClosed fs → (k n : ℕ) (callees : ℕ → Call) (global : ℕ → Value) (vs : List Value) (m : Memory) (i : List ℕ)
      → entered n callees global (slice_get fs k) vs m i ≡ placed_entered n callees global (slice_get (map over fs) k) vs m i
  entered_each [] h k n callees global vs m i = refl
  entered_each (f ∷ fs) h zero n callees global vs m i = entered_same f h.0 (places f) (safe f h.0) n callees global vs m i
  entered_each (f ∷ fs) h (suc k) n callees global vs m i = entered_each fs h.1 k n callees global vs m i

  -- closed functions agree where their places are safe for them
  pub safe_functions_agree : (fs : List LinearFunction) → FunctionsAreClosed fs → (global : ℕ → Value) (bound f : ℕ) (vs : List Value) (m : Memory) (i : List ℕ)
      → calls fs global bound f vs m i ≡ placed_calls (map over fs) global bound f vs m i
  safe_functions_agree fs h global zero f vs m i = refl
  safe_functions_agree fs h global (suc n) f vs m i =
      ap (active f) (entered_each fs h f n (calls fs global n) global vs m i)
      ∙ (λ j. active f (placed_entered n (λ g us l k. safe_functions_agree fs h global n g us l k j) global (slice_get (map over fs) f) vs m i))

pub functions_agree : FunctionsAgree
functions_agree fs h = safe_functions_agree (λ f. places (lines f)) places_are_safe fs h
