-- The table that finds the latest declaration of a name.
use Rattle.std.proofs.Common.{◌≡◌, ℕ, zero, suc, ◌-◌, ◌<◌, ◌≤◌, Bool, true, false, cond, List, [], ◌∷◌, ◌++◌, length, reverse, take, slice_get, Option, None, Some, nat_le, is_some, IsSome, refl, sym, ap, subst, ◌∙◌, arith}
use native.Mathlib.Numerals.{unary_clauses}
use Rattle.std.specs.Map.{lookup}
use Rattle.std.specs.Option.{option_map, option_and_then}
use Rattle.std.proofs.lemmas.List.{length-append, get_or_push, reverse-append, reverse-reverse, length-reverse}
use Rattle.std.proofs.lemmas.Option.{slice_get-get_or}
use Rattle.std.proofs.lemmas.Slice.Eq.{bytes_eq-Decides}
use Rattle.c_check_scope.specs.Scopes.{Name, Scope, same_name}
use Rattle.c_check_scope.specs.Latest.{latest_index, declared_of, IsLatest}
use Rattle.c_check_scope.specs.declared.declarations.Declaration.{Declaration}

-- ---- equality of names

pub same-equal : (x y : Name) → same_name x y ≡ true → x ≡ y
same-equal x y is = (bytes_eq-Decides x y).0 is

pub same-self : (x : Name) → same_name x x ≡ true
same-self x = (bytes_eq-Decides x x).1 refl

same-sym : (x y : Name) → same_name x y ≡ same_name y x
same-sym x y = by (same_name x y) (same_name y x) refl refl where
  by : (a b : Bool) → same_name x y ≡ a → same_name y x ≡ b → same_name x y ≡ same_name y x
  by true b p q = ap (λ z. same_name z y) (same-equal x y p) ∙ same-self y ∙ sym (ap (λ z. same_name y z) (same-equal x y p) ∙ same-self y)
  by false true p q = ap (λ z. same_name x z) (same-equal y x q) ∙ same-self x ∙ sym (ap (λ z. same_name z x) (same-equal y x q) ∙ same-self x)
  by false false p q = p ∙ sym q

-- ---- the elements of a list that one is added to

get-front : {X : Type 0} (xs : List X) (y : X) (p : ℕ) → p < length xs → slice_get (xs ++ y ∷ []) p ≡ slice_get xs p
get-front [] y p is = absurd (omega arith)
get-front (z ∷ xs) y zero is = refl
get-front (z ∷ xs) y (suc p) is = get-front xs y p (omega arith)

reverse-push : {X : Type 0} (xs : List X) (y : X) → reverse (xs ++ y ∷ []) ≡ y ∷ reverse xs
reverse-push xs y = reverse-append xs (y ∷ [])

reverse-cons : {X : Type 0} (xs : List X) (y : X) → reverse (y ∷ xs) ≡ reverse xs ++ y ∷ []
reverse-cons xs y = reverse-append (y ∷ []) xs

-- ---- cases on whether a name is that of the latest declaration

cond-below : (b : Bool) (n : ℕ) (rest : Option ℕ) (i : ℕ) → cond b (Some n) rest ≡ Some i → ((j : ℕ) → rest ≡ Some j → j < n) → i < suc n
cond-below true n rest i is below = grind (arith, is)
cond-below false n rest i is below = let h = below i is in omega (arith, h)

less-next : (b : Bool) (less hidden rest : Option ℕ) (n : ℕ) → less ≡ cond b hidden (cond b (Some n) rest) → (b ≡ true → hidden ≡ rest) → less ≡ rest
less-next true less hidden rest n is same = is ∙ same refl
less-next false less hidden rest n is same = is

module _ {T : Type 0} where
  -- ---- what is found

  index-below : (ds : Scope T) (name : Name) (i : ℕ) → latest_index ds name ≡ Some i → i < length ds
  index-below [] name i is = cc
  index-below (d ∷ ds) name i is = cond-below (same_name name d.0) (length ds) (latest_index ds name) i is (index-below ds name)

  -- what a list has at an index that may be none
  abbrev at : List (Declaration T) → Option ℕ → Option T
  at xs i = option_map (λ d. d.meaning) (option_and_then (slice_get xs) i)

  at-front : (xs : List (Declaration T)) (d : Declaration T) (i : Option ℕ) → ((p : ℕ) → i ≡ Some p → p < length xs) → at (xs ++ d ∷ []) i ≡ at xs i
  at-front xs d None below = refl
  at-front xs d (Some p) below = ap (option_map (λ d. d.meaning)) (get-front xs d p (below p refl))

  length-declared : (ds : List (Declaration T)) → length (declared_of ds) ≡ length ds
  length-declared [] = refl
  length-declared (d ∷ ds) = ap suc (length-declared ds)

  found-next : (b : Bool) (d : Declaration T) (ds : List (Declaration T)) (rest : Option ℕ) (value : Option T) → ((p : ℕ) → rest ≡ Some p → p < length ds)
      → at (reverse ds) rest ≡ value → at (reverse ds ++ d ∷ []) (cond b (Some (length ds)) rest) ≡ cond b (Some d.meaning) value
  found-next true d ds rest value below is =
      ap (λ n. at (reverse ds ++ d ∷ []) (Some n)) (sym (length-reverse ds)) ∙ ap (option_map (λ d. d.meaning))
      (slice_get-get_or (reverse ds ++ d ∷ []) (length (reverse ds)) d (omega (arith, length-append (reverse ds) (d ∷ [])))
      ∙ ap Some (get_or_push (reverse ds) d d (length (reverse ds)) refl))
  found-next false d ds rest value below is = at-front (reverse ds) d rest (λ p e. subst (λ n. p < n) (sym (length-reverse ds)) (below p e)) ∙ is

  found-in : (ds : List (Declaration T)) (name : Name) → at (reverse ds) (latest_index (declared_of ds) name) ≡ lookup (same_name name) (declared_of ds)
  found-in [] name = refl
  found-in (d ∷ ds) name =
      let rest = latest_index (declared_of ds) name in
      let test = same_name name d.name in
      ap (λ xs. at xs (cond test (Some (length (declared_of ds))) rest)) (reverse-cons ds d)
      ∙ ap (λ n. at (reverse ds ++ d ∷ []) (cond test (Some n) rest)) (length-declared ds)
      ∙ found-next test d ds rest (lookup (same_name name) (declared_of ds)) (λ p e. subst (λ n. p < n) (length-declared ds) (index-below (declared_of ds) name p e)) (found-in ds name)

  module _ (table : Name → Option ℕ) (xs : List (Declaration T)) (now : Scope T) (name : Name) (is : IsLatest table (reverse xs)) (view : declared_of (reverse xs) ≡ now) where
    -- the table finds what the latest declaration of a name says
    pub found : (i : Option ℕ) → i ≡ table name → at xs i ≡ lookup (same_name name) now
    found i e =
        ap (at xs) (e ∙ is.0 name) ∙ ap (λ ys. at ys (latest_index (declared_of (reverse xs)) name)) (sym (reverse-reverse xs))
        ∙ found-in (reverse xs) name ∙ ap (lookup (same_name name)) view

  -- ---- which declaration is among the latest

  within-next : (b : Bool) (n count : ℕ) (rest : Option ℕ) (t : T) (value : Option T) (i : ℕ) → count ≤ n → cond b (Some n) rest ≡ Some i
      → (rest ≡ Some i → nat_le (n - count) i ≡ is_some value) → nat_le (suc n - suc count) i ≡ is_some (cond b (Some t) value)
  within-next true n count rest t value i h is next = grind (arith, is)
  within-next false n count rest t value i h is next = simp unary_clauses (next is)

  within : (ds : Scope T) (name : Name) (count i : ℕ) → count ≤ length ds → latest_index ds name ≡ Some i → nat_le (length ds - count) i ≡ is_some (lookup (same_name name) (take count ds))
  within ds name zero i h is = let below = index-below ds name i is in grind (arith, below)
  within [] name (suc count) i h is = absurd (omega arith)
  within (d ∷ ds) name (suc count) i h is =
      within-next (same_name name d.0) (length ds) count (latest_index ds name) d.1 (lookup (same_name name) (take count ds)) i (omega arith) is (within ds name count i (omega arith))

  none-next : (b : Bool) (n : ℕ) (rest : Option ℕ) (t : T) (value : Option T) → cond b (Some n) rest ≡ None → (rest ≡ None → false ≡ is_some value) → false ≡ is_some (cond b (Some t) value)
  none-next true n rest t value is next = cc
  none-next false n rest t value is next = next is

  within-none : (ds : Scope T) (name : Name) (count : ℕ) → latest_index ds name ≡ None → false ≡ is_some (lookup (same_name name) (take count ds))
  within-none ds name zero is = refl
  within-none [] name (suc count) is = refl
  within-none (d ∷ ds) name (suc count) is =
      none-next (same_name name d.0) (length ds) (latest_index ds name) d.1 (lookup (same_name name) (take count ds)) is (within-none ds name count)

  module _ (table : Name → Option ℕ) (xs : List (Declaration T)) (now : Scope T) (name : Name) (is : IsLatest table (reverse xs)) (view : declared_of (reverse xs) ≡ now)
      (count : ℕ) (few : count ≤ length now) where
    pub among : (i : ℕ) → Some i ≡ table name → nat_le (length xs - count) i ≡ is_some (lookup (same_name name) (take count now))
    among i e =
        ap (λ n. nat_le (n - count) i) (sym (length-reverse xs) ∙ sym (length-declared (reverse xs)) ∙ ap length view)
        ∙ within now name count i few (ap (λ ds. latest_index ds name) (sym view) ∙ sym (e ∙ is.0 name))

    pub among-none : None ≡ table name → false ≡ is_some (lookup (same_name name) (take count now))
    among-none e = within-none now name count (ap (λ ds. latest_index ds name) (sym view) ∙ sym (e ∙ is.0 name))

  -- ---- one declaration more, and less

  pub pushed : (table more : Name → Option ℕ) (old new : List (Declaration T)) (d : Declaration T) (key : Name) (index : ℕ) → IsLatest table (reverse old) → new ≡ old ++ d ∷ []
      → d.hidden ≡ table d.name → key ≡ d.name → index ≡ length old → ((q : Name) → more q ≡ cond (same_name key q) (Some index) (table q)) → IsLatest more (reverse new)
  pushed table more old new d key index is more-is hidden named numbered updates =
      subst (λ ds. IsLatest more ds) (sym (ap reverse more-is ∙ reverse-push old d)) (finds, (hidden ∙ is.0 d.name, is.1)) where
        finds : (q : Name) → more q ≡ latest_index (declared_of (d ∷ reverse old)) q
        finds q =
            updates q
            ∙ ap (λ b. cond b (Some index) (table q)) (same-sym key q ∙ ap (same_name q) named)
            ∙ ap (λ n. cond (same_name q d.name) (Some n) (table q)) (numbered ∙ sym (length-declared (reverse old) ∙ length-reverse old))
            ∙ ap (cond (same_name q d.name) (Some (length (declared_of (reverse old))))) (is.0 q)

  module _ (table : Name → Option ℕ) (old new : List (Declaration T)) (d : Declaration T) (is : IsLatest table (reverse old)) (less-is : old ≡ new ++ d ∷ []) where
    before : IsLatest table (d ∷ reverse new)
    before = subst (λ ds. IsLatest table ds) (ap reverse less-is ∙ reverse-push new d) is

    pub popped : (less : Name → Option ℕ) → ((q : Name) → less q ≡ cond (same_name d.name q) d.hidden (table q)) → IsLatest less (reverse new)
    popped less updates = (finds, before.1.1) where
      finds : (q : Name) → less q ≡ latest_index (declared_of (reverse new)) q
      finds q =
          let rest = latest_index (declared_of (reverse new)) in
          let n = length (declared_of (reverse new)) in
          less-next (same_name q d.name) (less q) d.hidden (rest q) n
          (updates q ∙ ap (λ b. cond b d.hidden (table q)) (same-sym d.name q) ∙ ap (cond (same_name q d.name) d.hidden) (before.0 q))
          (λ e. before.1.0 ∙ ap rest (sym (same-equal q d.name e)))

    -- the latest declaration has its name in the table
    pub last-found : IsSome (table d.name)
    last-found =
        let n = length (declared_of (reverse new)) in
        let rest = latest_index (declared_of (reverse new)) d.name in
        subst IsSome (sym (before.0 d.name ∙ ap (λ b. cond b (Some n) rest) (same-self d.name))) refl
