-- Which outputs and arguments stay, one by one.
use Rattle.std.proofs.Common.{◌≡◌, ◌<◌, ◌+◌, ◌||◌, ◌==◌, not, nat_lt, ℕ, zero, suc, Bool, true, false, None, Some, List, [], ◌∷◌, drop, length, refl, sym, ap, ◌∙◌, arith}
use Rattle.std.specs.Prelude.{if◌then◌else◌, slice_get, option_and_then}
use Rattle.std.proofs.lemmas.Bool.Decides.{nat_tests}
use Rattle.std.proofs.lemmas.Option.{same_Some}
use Rattle.g_graph.specs.declared.op.Kind.{Kind}
use Rattle.g_graph.specs.declared.op.Kind.TheVariants.{Value, Memory, Io}
use Rattle.g_graph.specs.declared.op.Origin.TheVariants.{Out}
use Rattle.g_graph.specs.Scope.{same_kind}
use Rattle.g_graph.specs.WellFormed.{some_of}
use Rattle.g_graph.proofs.lemmas.Unique.{same_number}
use Rattle.r_edit.specs.InPlace.{all_stay}
use Rattle.g_arena_def.specs.declared.place.Place.{Place}
use Rattle.g_arena_def.specs.Flat.{FlatNode, Flat, same_place}
use Rattle.g_arena_def.specs.Reads.{found, kind_in, output_kind, uses_in}
use Rattle.r_sweep.specs.Removals.{from_last}
use Rattle.r_sweep.proofs.lemmas.Inputs.{same_place_self}
use Rattle.r_dne.specs.declared.judging.Shape.{Shape}
use Rattle.r_dne.specs.Shape.{IsShape}
use Rattle.r_dne.specs.Listed.{has_use, some_output_used, is_dead_in, used_outputs, exits_in}

-- ---- tests

pub no_use : (c : ℕ) → nat_lt 0 c ≡ false → c ≡ 0
no_use c e = grind (arith, nat_tests)

abbrev pub some_true : List Bool → Bool
some_true [] = false
some_true (t ∷ ts) = t || some_true ts

-- the element of an index, and those after it
pub record At {X : Type 0} (k : ℕ) (xs : List X) : Type 0 where
  pub element : X
  pub there : slice_get xs k ≡ Some element
  pub rest : drop k xs ≡ element ∷ drop (suc k) xs

pub at_index : {X : Type 0} (k : ℕ) (xs : List X) → k < length xs → At k xs
at_index k [] h = absurd (omega (arith, h))
at_index zero (x ∷ xs) h = record { element = x; there = refl; rest = refl }
at_index (suc k) (x ∷ xs) h = let a = at_index k xs (omega (arith, h)) in record { element = a.element; there = a.there; rest = a.rest }

pub none_after : {X : Type 0} (k : ℕ) (xs : List X) → length xs ≡ k → drop k xs ≡ []
none_after zero [] h = refl
none_after (suc k) [] h = refl
none_after zero (x ∷ xs) h = absurd (omega (arith, h))
none_after (suc k) (x ∷ xs) h = none_after k xs (omega (arith, h))

-- where all stay, nothing goes
pub none_go : {A : Type 0} (step : ℕ → A → A) (k : ℕ) (ts : List Bool) (a : A) → all_stay ts ≡ true → from_last step k ts a ≡ a
none_go step k [] a h = refl
none_go step k (true ∷ ts) a h = none_go step (suc k) ts a h
none_go step k (false ∷ ts) a h = absurd cc

-- ---- outputs

-- one output
abbrev pub output_stays : Flat → Place → (n port : ℕ) → Kind → Bool
output_stays a p n k j = not (same_kind Value j) || has_use p (Out n k) a

module _ (a : Flat) (p : Place) (n : ℕ) where
  outputs_at : (f k : ℕ) (js : List Kind) (j : Kind) → slice_get js k ≡ Some j → slice_get (used_outputs a p n f js) k ≡ Some (output_stays a p n (f + k) j)
  outputs_at f k [] j e = absurd cc
  outputs_at f zero (i ∷ js) j e =
      let here : f ≡ f + 0 = omega arith in
      let same : i ≡ j = same_Some i j e in
      λ q. Some (output_stays a p n (here q) (same q))
  outputs_at f (suc k) (i ∷ js) j e =
      let here : suc f + k ≡ f + suc k = omega arith in
      outputs_at (suc f) k js j e ∙ ap (λ m. Some (output_stays a p n m j)) here

  pub output_at : (k : ℕ) (js : List Kind) (j : Kind) → slice_get js k ≡ Some j → slice_get (used_outputs a p n 0 js) k ≡ Some (output_stays a p n k j)
  output_at k js j e = let here : 0 + k ≡ k = omega arith in outputs_at 0 k js j e ∙ ap (λ m. Some (output_stays a p n m j)) here

  pub outputs_count : (f : ℕ) (js : List Kind) → length (used_outputs a p n f js) ≡ length js
  outputs_count f [] = refl
  outputs_count f (j ∷ js) = ap suc (outputs_count (suc f) js)

  -- a node is dead where none of them stays
  shuffle : (s u v : Bool) → (s || (u || v)) ≡ ((false || u) || (s || v))
  shuffle true true v = refl
  shuffle true false v = refl
  shuffle false u v = refl

  last_true : (s : Bool) → (s || true) ≡ true
  last_true true = refl
  last_true false = refl

  some_stay : (f : ℕ) (js : List Kind) → ((some_of (same_kind Memory) js || some_of (same_kind Io) js) || some_output_used a p n f js) ≡ some_true (used_outputs a p n f js)
  some_stay f [] = refl
  some_stay f (Value ∷ js) =
      shuffle (some_of (same_kind Memory) js || some_of (same_kind Io) js) (has_use p (Out n f) a) (some_output_used a p n (suc f) js)
      ∙ ap (λ t. (false || has_use p (Out n f) a) || t) (some_stay (suc f) js)
  some_stay f (Memory ∷ js) = refl
  some_stay f (Io ∷ js) = ap (λ t. t || (has_use p (Out n f) a || some_output_used a p n (suc f) js)) (last_true (some_of (same_kind Memory) js))

pub dead_is : (a : Flat) (x : FlatNode) → is_dead_in a x ≡ not (some_true (exits_in a x))
dead_is a x = ap not (some_stay a x.home x.id 0 x.outputs)

-- ---- a node that is told

pub found_number : (n : ℕ) (x : FlatNode) (xs : List FlatNode) → found n xs ≡ Some x → x.id ≡ n
found_number n x [] e = absurd cc
found_number n x (y ∷ ys) e = by (y.id == n) refl e (λ d. found_number n x ys d)
  where
    by : (t : Bool) → (y.id == n) ≡ t → (if t then Some y else found n ys) ≡ Some x → (found n ys ≡ Some x → x.id ≡ n) → x.id ≡ n
    by true q d f = ap (λ (z : FlatNode). z.id) (sym (same_Some y x d)) ∙ same_number y.id n q
    by false q d f = f d

module _ (s : Shape) (a : Flat) (h : IsShape s a) (x : FlatNode) (e : found s.node a.nodes ≡ Some x) where
  node_is : h.node ≡ x
  node_is = same_Some h.node x (sym h.there ∙ e)

  pub number_is : x.id ≡ s.node
  number_is = found_number s.node x a.nodes e

  pub home_is : s.home ≡ x.home
  home_is = h.home ∙ ap (λ (z : FlatNode). z.home) node_is

  pub outputs_are : s.outputs ≡ length x.outputs
  outputs_are = h.outputs ∙ ap (λ (z : FlatNode). length z.outputs) node_is

  -- the test of an output, and those after it
  pub head_is : (port uses : ℕ) (k : Kind) → port < s.outputs → kind_in s.home (Out s.node port) a ≡ Some k → uses ≡ uses_in s.home (Out s.node port) a →
      drop port (exits_in a x) ≡ (not (same_kind Value k) || nat_lt 0 uses) ∷ drop (port + 1) (exits_in a x)
  head_is port uses k lt kind count =
      let at = at_index port x.outputs (omega (arith, lt, outputs_are)) in
      let stay = at_index port (exits_in a x) (omega (arith, lt, outputs_are, outputs_count a x.home x.id 0 x.outputs)) in
      let told : kind_in s.home (Out s.node port) a ≡ Some at.element =
      ap (option_and_then (output_kind s.home port)) e ∙ (λ i. if same_place x.home (home_is i) then at.there i else None) ∙ ap (λ t. if t then Some at.element else None) (same_place_self x.home) in
      let same : k ≡ at.element = same_Some k at.element (sym kind ∙ told) in
      let here : stay.element ≡ (not (same_kind Value k) || nat_lt 0 uses) =
      same_Some stay.element (output_stays a x.home x.id port at.element) (sym stay.there ∙ output_at a x.home x.id port x.outputs at.element at.there)
      ∙ sym (λ i. not (same_kind Value (same i)) || nat_lt 0 ((count ∙ (λ j. uses_in (home_is j) (Out (sym number_is j) port) a)) i)) in
      let one : suc port ≡ port + 1 = omega arith in
      stay.rest ∙ (λ i. here i ∷ drop (one i) (exits_in a x))

  -- once all were asked
  pub all_asked : (port : ℕ) → port ≡ s.outputs → some_true (drop port (exits_in a x)) ≡ false
  all_asked port last = ap some_true (none_after port (exits_in a x) (omega (arith, last, outputs_are, outputs_count a x.home x.id 0 x.outputs)))
