-- Arguments of a call, loaded one after the other, and put into the places of parameters.
use Rattle.std.proofs.Common.{◌≡◌, ℕ, zero, suc, ◌+◌, ◌^◌, ◌<◌, ◌≤◌, true, List, map, [], ◌∷◌, length, slice_index, refl, sym, ap, subst, ◌∙◌, arith, inl, inr}
use Rattle.std.proofs.lemmas.Bool.{and_parts}
use Rattle.val_core.specs.declared.values.Value.{Value}
use Rattle.g_graph.specs.WellFormed.{all_of}
use Rattle.rv_machine.specs.Machine as machine
use Rattle.rv_machine.specs.Standing.{Text, CodeStands}
use Rattle.rv_machine.proofs.lemmas.Standing.{code_is_cut}
use Rattle.s_linear.specs.Frame.{PlainPlaces}
use Rattle.s_linear.specs.Meaning as linear
use Rattle.s_linear.specs.Meaning.{first_names}
use Rattle.a_place.specs.Placed.{put_params}
use Rattle.s_select.specs.Conditions.{has_place}
use Rattle.s_select.specs.declared.location.Location.{Location}
use Rattle.s_select.specs.declared.location.Location.TheVariants.{Register, Near, Far}
use Rattle.s_select.specs.Operands.{location_of, get, put}
use Rattle.s_select.specs.Templates as select
use Rattle.s_select.specs.Templates.{place_of, get_arguments}
use Rattle.s_select_keeps.specs.Arguments.{ArgumentsAreLoaded, ParamsArePut}
use Rattle.s_select_keeps.specs.Relation.{IsPlaceRegister, Shows, Frame, IsPlaceOf, HasWords, Represents}
use Rattle.s_select_keeps.specs.Steps.{Steps, Arrives}
use Rattle.s_select_keeps.specs.Table.{place_at, HasPlaces}
use Rattle.s_select_keeps.proofs.Locations.{kept-apart, kept-argument, place-below, locations-same, location-fits, LocationFits, IsOtherRegister}
use Rattle.s_select_keeps.proofs.Operands.{get-done, put-done, Writes}
use Rattle.s_select_keeps.proofs.Registers.{Computes, steps-none, steps-then, code-le}
use Rattle.s_select_keeps.proofs.Represented.{kept-represents, place-represents}

module _ (text : Text) (f : Frame) (words : HasWords text f) (p : PlainPlaces) (same : HasPlaces f p) (q : linear.State) where
  -- from a register on; the argument registers before it keep what they hold
  record Loads (s : machine.State) (b r : ℕ) (names : List ℕ) : Type 0 where
    state : machine.State
    steps : Steps text.flags s state
    pc : state.pc ≡ b
    shows : Represents text f q state
    values : (k : ℕ) → k < length names → Shows f.bases (q.names (place_at p (slice_index names k))) (state.regs (r + k))
    before : (n : ℕ) → 9 < n → n < r → state.regs n ≡ s.regs n

  loads : (names : List ℕ) (s : machine.State) (b r : ℕ) → Represents text f q s → all_of (has_place p) names ≡ true → 9 < r → r + length names ≤ 18
      → CodeStands text s.pc (get_arguments p r names) b → b < 2 ^ 32 → Loads s b r names
  loads [] s b r rep places high few there low = record {
    state = s;
    steps = steps-none text.flags s;
    pc = there;
    shows = rep;
    values = λ k inside. absurd (omega (arith, inside));
    before = λ n above under. refl;
  }
  loads (x ∷ xs) s b r rep places high few there low =
      let l = location_of f.temporaries (place_at p x) in
      let parts = and_parts (has_place p x) (all_of (has_place p) xs) places in
      let inside = place-below p f same x parts.0 in
      let cut = code_is_cut text s.pc b (get r (place_of p x)) (get_arguments p (suc r) xs) there in
      let le = code-le text cut.0 (get_arguments p (suc r) xs) b cut.2 in
      let got = get-done text f words s cut.0 r l (q.names (place_at p x)) rep.has_text rep.stack (location-fits f (place_at p x) inside)
      (subst (λ at. CodeStands text s.pc (get r (at (place_at p x))) cut.0) (locations-same p f same) cut.1) (omega (arith, le, low))
      (λ e. omega (arith, e, high)) (rep.places (place_at p x) inside) in
      let one = got.2 in
      let rep' = kept-represents text f words q s one.state rep
      (λ n side. one.others n (kept-argument n r side high (omega (arith, few))) (kept-apart n 7 side (omega arith) (omega arith))) one.mem in
      next x xs s b r cut.0 got.0 high few got.1 one (loads xs one.state b (suc r) rep' parts.1 (omega (arith, high)) (omega (arith, few))
      (subst (λ a. CodeStands text a (get_arguments p (suc r) xs) b) (sym one.pc) cut.2) low)
    where
      next : (x : ℕ) (xs : List ℕ) (s : machine.State) (b r m v : ℕ) → 9 < r → r + length (x ∷ xs) ≤ 18 → Shows f.bases (q.names (place_at p x)) v
          → (one : Computes text s m r v)
          → Loads one.state b (suc r) xs → Loads s b r (x ∷ xs)
      next x xs s b r m v high few shows one rest = record {
        state = rest.state;
        steps = steps-then text.flags s one.state rest.state one.steps rest.steps;
        pc = rest.pc;
        shows = rest.shows;
        values = values;
        before = λ n above under. rest.before n above (omega (arith, under)) ∙ one.others n (λ e. omega (arith, e, under)) (λ e. omega (arith, e, above));
      }
        where
          values : (k : ℕ) → k < length (x ∷ xs) → Shows f.bases (q.names (place_at p (slice_index (x ∷ xs) k))) (rest.state.regs (r + k))
          values zero inside =
              let here : rest.state.regs (r + 0) ≡ v = ap (rest.state.regs) (let e : r + 0 ≡ r = omega arith in e) ∙ rest.before r high (omega arith) ∙ one.holds in
              subst (Shows f.bases (q.names (place_at p x))) (sym here) shows
          values (suc k) inside =
              let place : suc r + k ≡ r + suc k = omega arith in
              subst (λ n. Shows f.bases (q.names (place_at p (slice_index xs k))) (rest.state.regs n)) place (rest.values k (omega (arith, inside)))

pub arguments_are_loaded : ArgumentsAreLoaded
arguments_are_loaded text f q s words rep p names b same places few there low =
    let h = loads text f words p same q names s b 10 rep places (omega arith) (omega (arith, few)) there low in
    record { state = h.state; steps = h.steps; pc = h.pc; shows = h.shows; values = h.values }

-- ---- parameters

module _ (text : Text) (f : Frame) (words : HasWords text f) (p : PlainPlaces) (same : HasPlaces f p) (vs : List Value) where
  -- the state once the parameters from a number on are put
  abbrev put-from : linear.State → ℕ → List ℕ → linear.State
  put-from q k names = record { names = put_params (map (place_at p) names) k vs q.names; memory = q.memory; input = q.input }

  -- an argument register is left by what writes to a place
  argument-left : (s : machine.State) (b t : ℕ) (v : Value) → IsPlaceOf f t → (w : Writes text f s b (location_of f.temporaries t) v) → (n : ℕ) → 9 < n → n < 18
      → w.state.regs n ≡ s.regs n
  argument-left s b t v below w n high few = w.registers n (inr (omega (arith, high))) (other (location_of f.temporaries t) (location-fits f t below))
    where
      apart : (r : ℕ) → IsPlaceRegister r → n ≡ r → ⊥
      apart r (inl nine) e = omega (arith, nine, e, high)
      apart r (inr above) e = omega (arith, above, e, few)

      other : (l : Location) → LocationFits f l → IsOtherRegister l n
      other (Register r) place = λ e. apart r place e
      other (Near o) place = tt
      other (Far o) place = tt

  puts : (names : List ℕ) (q : linear.State) (s : machine.State) (b k : ℕ) → Represents text f q s → all_of (has_place p) names ≡ true → k + length names ≤ 8
      → ((j : ℕ) → j < length names → Shows f.bases (first_names vs (k + j)) (s.regs (10 + (k + j))))
      → CodeStands text s.pc (select.put_params p (10 + k) names) b → b < 2 ^ 32
      → Arrives text f b (put-from q k names) s
  puts [] q s b k rep places few shows there low = record { state = s; steps = steps-none text.flags s; pc = there; shows = rep }
  puts (x ∷ xs) q s b k rep places few shows there low =
      let t = place_at p x in
      let l = location_of f.temporaries t in
      let v = first_names vs k in
      let parts = and_parts (has_place p x) (all_of (has_place p) xs) places in
      let inside = place-below p f same x parts.0 in
      let rest = select.put_params p (suc (10 + k)) xs in
      let cut = code_is_cut text s.pc b (put (place_of p x) (10 + k)) rest there in
      let le = code-le text cut.0 rest b cut.2 in
      let zero-th : k + 0 ≡ k = omega arith in
      let shown = subst (λ n. Shows f.bases (first_names vs n) (s.regs (10 + n))) zero-th (shows 0 (omega arith)) in
      let w = put-done text f words s cut.0 (10 + k) (s.regs (10 + k)) l v rep.has_text rep.stack (location-fits f t inside)
      (subst (λ at. CodeStands text s.pc (put (at t) (10 + k)) cut.0) (locations-same p f same) cut.1) (omega (arith, le, low))
      (λ e. omega (arith, e))
      (λ e. omega (arith, e)) refl shown in
      let more : (j : ℕ) → j < length xs → Shows f.bases (first_names vs (suc k + j)) (w.state.regs (10 + (suc k + j))) = λ j below.
      let at : k + suc j ≡ suc k + j = omega arith in
      subst (Shows f.bases (first_names vs (suc k + j))) (sym (argument-left s cut.0 t v inside w (10 + (suc k + j)) (omega arith) (omega (arith, few, below))))
      (subst (λ n. Shows f.bases (first_names vs n) (s.regs (10 + n))) at (shows (suc j) (omega (arith, below)))) in
      let next : suc (10 + k) ≡ 10 + suc k = omega arith in
      let tail = puts xs (linear.set q t v) w.state b (suc k) (place-represents text f words q s cut.0 t v rep inside w) parts.1 (omega (arith, few)) more
      (subst (λ r. CodeStands text w.state.pc (select.put_params p r xs) b) next (subst (λ a. CodeStands text a rest b) (sym w.pc) cut.2)) low in
      record { state = tail.state; steps = steps-then text.flags s w.state tail.state w.steps tail.steps; pc = tail.pc; shows = tail.shows }

pub params_are_put : ParamsArePut
params_are_put text f q s words rep p names vs b same places few shows there low =
    puts text f words p same vs names q s b 0 rep places (omega (arith, few))
    (λ j below.
    let at : j ≡ 0 + j = omega arith in
    subst (λ n. Shows f.bases (first_names vs n) (s.regs (10 + n))) at (shows j below))
    there low
