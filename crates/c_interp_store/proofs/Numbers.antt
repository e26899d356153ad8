-- One more variable among those of a function.
use Rattle.std.proofs.Common.{◌≡◌, ℕ, zero, suc, ◌+◌, ◌<◌, ◌≤◌, ◌⊎◌, inl, inr, List, [], ◌∷◌, ◌++◌, map, length, take, get_or, refl, sym, ap, ap₂, ◌∙◌, subst, arith}
use Rattle.std.specs.Prelude.{Bool, slice_get, Option, Some, unwrap_or}
use Rattle.std.specs.List.{filter}
use Rattle.std.proofs.lemmas.Bool.{cases_lt}
use Rattle.std.proofs.lemmas.List.{take_more, map-append, length-map, length-take, length-append}
use Rattle.std.proofs.lemmas.List.Elements.{filter-append}
use Rattle.std.proofs.lemmas.List.Sums.{length-filter, count_by-le-length}
use Rattle.c_type.specs.Layout.{Definitions, IsLaidOut}
use Rattle.c_typed.specs.WellTyped.{VariablesFit}
use Rattle.c_interp_store.specs.declared.shape.Shape.{Shape}
use Rattle.c_interp_store.specs.Blocks.{shapes_of, shape_of as store_shape_of}
use Rattle.c_typed.specs.Typed.{VariableTree, FunctionTree}
use Rattle.c_typed.specs.Objects.{object_number}
use Rattle.c_mean.specs.Run.{objects_of, shape_of}
use Rattle.std.proofs.lemmas.Option.{slice_get_read}
use Rattle.c_interp_store.specs.declared.layout.Layout.{Layout}
use Rattle.c_interp_store.specs.Laid.{AreNumbers, IsLayout, AreLayoutsTo}

-- the element that was put at the end, and those before it
get-last : {X : Type 0} (xs : List X) (x : X) → slice_get (xs ++ x ∷ []) (length xs) ≡ Some x
get-last [] x = refl
get-last (y ∷ xs) x = get-last xs x

get-before : {X : Type 0} (xs ys : List X) (k : ℕ) → k < length xs → slice_get (xs ++ ys) k ≡ slice_get xs k
get-before [] ys k lt = absurd (omega arith)
get-before (x ∷ xs) ys zero lt = refl
get-before (x ∷ xs) ys (suc k) lt = get-before xs ys k (omega arith)

pub more_numbers : (vs : List VariableTree) (i : ℕ) (numbers more : List ℕ) (n : ℕ) → AreNumbers vs i numbers → length numbers ≡ i → n ≡ object_number vs i → more ≡ numbers ++ n ∷ []
    → AreNumbers vs (i + 1) more
more_numbers vs i numbers more n h count is e k lt = at (cases_lt k i)
  where
    at : (k < i) ⊎ (i ≤ k) → slice_get more k ≡ Some (object_number vs k)
    at (inl below) = ap (λ l. slice_get l k) e ∙ get-before numbers (n ∷ []) k (omega (arith, count, below)) ∙ h k below
    at (inr above) =
        let here : k ≡ length numbers = omega (arith, count, lt, above) in
        let index : i ≡ k = omega (arith, lt, above) in
        ap₂ (λ (l : List ℕ) (j : ℕ). slice_get l j) e here ∙ get-last numbers n ∙ ap Some (is ∙ ap (object_number vs) index)

-- how many objects there are
objects_count : (types : Definitions) (vs : List VariableTree) (i : ℕ) → length (objects_of types (take i vs)) ≡ object_number vs i
objects_count types vs i =
    let is_object : VariableTree → Bool = λ (v : VariableTree). v.is_object in
    length-map (filter is_object (take i vs)) (shape_of types) ∙ length-filter is_object (take i vs)

pub few_objects : (vs : List VariableTree) (i : ℕ) → object_number vs i ≤ length vs
few_objects vs i =
    let is_object : VariableTree → Bool = λ (v : VariableTree). v.is_object in
    let few = count_by-le-length is_object (take i vs) in
    let short : length (take i vs) ≤ length vs = grind (arith, length-take) in
    omega (arith, few, short)

pub shapes_count : (types : Definitions) (vs : List VariableTree) (i : ℕ) (shapes : List Shape) → shapes_of shapes ≡ objects_of types (take i vs) → length shapes ≡ object_number vs i
shapes_count types vs i shapes e = sym (length-map shapes store_shape_of) ∙ ap length e ∙ objects_count types vs i

-- each of the variables is laid out
pub laid_out_at : (types : Definitions) (vs : List VariableTree) (i : ℕ) (v : VariableTree) → VariablesFit types vs → i < length vs → v ≡ get_or vs i v → IsLaidOut types v.type
laid_out_at types [] i v h lt e = absurd (omega arith)
laid_out_at types (u ∷ vs) zero v h lt e = subst (λ (w : VariableTree). IsLaidOut types w.type) (sym e) h.0.0
laid_out_at types (u ∷ vs) (suc i) v h lt e = laid_out_at types vs i v h.1 (omega arith) e

pub more_objects : (types : Definitions) (vs : List VariableTree) (i : ℕ) (d : VariableTree) → i < length vs → objects_of types (take (i + 1) vs) ≡ objects_of types (take i vs) ++ objects_of types (get_or vs i d ∷ [])
more_objects types vs i d lt =
    let is_object : VariableTree → Bool = λ (v : VariableTree). v.is_object in
    ap (objects_of types) (take_more vs i d lt) ∙ ap (map (shape_of types)) (filter-append is_object (take i vs) (get_or vs i d ∷ []))
    ∙ map-append (shape_of types) (filter is_object (take i vs)) (filter is_object (get_or vs i d ∷ []))

-- one more layout
pub more_layouts : (types : Definitions) (fs : List FunctionTree) (i : ℕ) (ls more : List Layout) (l : Layout) (f : FunctionTree) → AreLayoutsTo types fs i ls → more ≡ ls ++ l ∷ []
    → IsLayout types f.variables l → i < length fs → f ≡ get_or fs i f → AreLayoutsTo types fs (i + 1) more
more_layouts types fs i ls more l f h e is lt read = record {
  count = ap length e ∙ length-append ls (l ∷ []) ∙ ap (λ k. k + 1) h.count;
  layouts = λ k g below get. at k g get (cases_lt k i) below;
}
  where
    at : (k : ℕ) (g : FunctionTree) → slice_get fs k ≡ Some g → (k < i) ⊎ (i ≤ k) → k < i + 1 → (x : Layout) × (slice_get more k ≡ Some x) × IsLayout types g.variables x
    at k g get (inl below) lower =
        let r = h.layouts k g below get in
        let count = h.count in
        (r.0, ap (λ xs. slice_get xs k) e ∙ get-before ls (l ∷ []) k (omega (arith, count, below)) ∙ r.1, r.2)
    at k g get (inr above) lower =
        let count = h.count in
        let here : k ≡ length ls = omega (arith, count, above, lower) in
        let index : k ≡ i = omega (arith, above, lower) in
        let same : Some g ≡ Some f = sym get ∙ ap (λ j. slice_get fs j) index ∙ slice_get_read fs (length fs) i f refl lt read in
        let function : g ≡ f = ap (λ (o : Option FunctionTree). unwrap_or o g) same in
        (l, ap₂ (λ (xs : List Layout) (j : ℕ). slice_get xs j) e here ∙ get-last ls l, subst (λ (y : FunctionTree). IsLayout types y.variables l) (sym function) is)
