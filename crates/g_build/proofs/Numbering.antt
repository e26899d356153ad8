-- The numbers of a function's objects.
use Rattle.std.proofs.Common.{◌≡◌, ℕ, zero, suc, ◌+◌, Bool, true, false, List, [], ◌∷◌, take, cond, refl, sym, ap, ◌∙◌, arith}
use Rattle.std.specs.Prelude.{Option, None, Some, option_map, slice_get, if◌then◌else◌}
use Rattle.std.proofs.lemmas.List.Sums.{sum_by-cons}
use Rattle.c_typed.specs.Typed.{VariableTree}
use Rattle.c_typed.specs.Objects.{object_number}
use Rattle.g_build.specs.Variables.{object_numbers}
use Rattle.g_build.specs.declared.objects.Declared.{Declared}

number_more : (v : VariableTree) (vs : List VariableTree) (k n : ℕ) → (if v.is_object then suc n else n) + object_number vs k ≡ n + object_number (v ∷ vs) (suc k)
number_more v vs k n =
    let m : ℕ = object_number vs k in
    let more : object_number (v ∷ vs) (suc k) ≡ cond v.is_object 1 0 + m = sum_by-cons (λ (x : VariableTree). cond x.is_object 1 0) v (take k vs) in
    let one : (if v.is_object then suc n else n) + m ≡ n + (cond v.is_object 1 0 + m) =
    elim v.is_object as (λ b. (if b then suc n else n) + m ≡ n + (cond b 1 0 + m)) [ true ↦ omega arith | false ↦ omega arith ] in
    one ∙ ap (λ x. n + x) (sym more)

numbers_get : (n : ℕ) (vs : List VariableTree) (k : ℕ) → slice_get (object_numbers n vs) k ≡ option_map (λ (v : VariableTree). n + object_number vs k) (slice_get vs k)
numbers_get n [] k = refl
numbers_get n (v ∷ vs) zero = let e : n ≡ n + object_number (v ∷ vs) 0 = omega arith in ap Some e
numbers_get n (v ∷ vs) (suc k) =
    numbers_get (if v.is_object then suc n else n) vs k ∙ ap (λ m. option_map (λ (x : VariableTree). m) (slice_get vs k)) (number_more v vs k n)

abbrev pub declared_of : (number : ℕ) → VariableTree → Declared
declared_of n v = record { is_object = v.is_object; number = n }

pub get_found : (vs : List VariableTree) (ns : List ℕ) (k : ℕ) (v : VariableTree) (n : ℕ) → ns ≡ object_numbers 0 vs → slice_get vs k ≡ Some v → slice_get ns k ≡ Some n →
    Some (declared_of n v) ≡ option_map (declared_of (object_number vs k)) (slice_get vs k)
get_found vs ns k v n e h g =
    let both : Some n ≡ Some (0 + object_number vs k) =
    sym g ∙ ap (λ xs. slice_get xs k) e ∙ numbers_get 0 vs k ∙ ap (option_map (λ (x : VariableTree). 0 + object_number vs k)) h in
    let same : n ≡ object_number vs k = let q : n ≡ 0 + object_number vs k = cc in omega (arith, q) in
    ap (λ m. Some (declared_of m v)) same ∙ ap (option_map (declared_of (object_number vs k))) (sym h)

pub get_lost : (vs : List VariableTree) (ns : List ℕ) (k : ℕ) (v : VariableTree) (x : Option Declared) → ns ≡ object_numbers 0 vs → slice_get vs k ≡ Some v → slice_get ns k ≡ None → None ≡ x
get_lost vs ns k v x e h g =
    let both : None ≡ Some (0 + object_number vs k) =
    sym g ∙ ap (λ xs. slice_get xs k) e ∙ numbers_get 0 vs k ∙ ap (option_map (λ (y : VariableTree). 0 + object_number vs k)) h in
    absurd cc

pub get_none : (vs : List VariableTree) (k : ℕ) → slice_get vs k ≡ None → None ≡ option_map (declared_of (object_number vs k)) (slice_get vs k)
get_none vs k h = sym (ap (option_map (declared_of (object_number vs k))) h)

pub found_in : (vs ws : List VariableTree) (ns : List ℕ) (k : ℕ) (v : VariableTree) (n : ℕ) (b : Bool) → vs ≡ ws → ns ≡ object_numbers 0 vs → slice_get vs k ≡ Some v → slice_get ns k ≡ Some n →
    b ≡ v.is_object → Some (record { is_object = b; number = n }) ≡ option_map (declared_of (object_number ws k)) (slice_get ws k)
found_in vs ws ns k v n b e h g q f =
    ap (λ x. Some (record { is_object = x; number = n })) f ∙ get_found vs ns k v n h g q ∙ ap (λ us. option_map (declared_of (object_number us k)) (slice_get us k)) e
