-- A walk from one element to the next passes each of them once.
use Rattle.std.proofs.Common.{◌≡◌, ℕ, ◌==◌, ◌||◌, not, Bool, true, false, Option, None, Some, List, [], ◌∷◌, ◌++◌, map, refl, sym, ap, subst, ◌∙◌}
use Rattle.std.specs.Prelude.{if◌then◌else◌}
use Rattle.std.proofs.lemmas.Bool.{and_parts, or_parts}
use Rattle.std.proofs.lemmas.Option.{same_Some}
use Rattle.cell_lists.specs.Lists.{first_or, after_in}
use Rattle.g_graph.specs.WellFormed.{distinct, some_of}
use Rattle.g_graph.proofs.lemmas.Indexes.{same_number_true}
use Rattle.g_graph.proofs.lemmas.Unique.{equal_back, same_number}
use Rattle.g_arena_def.specs.Flat.{FlatNode, is_in}
use Rattle.g_arena_def.specs.Reads.{found}
use Rattle.r_sweep.specs.Walk.{until, onward, passed, left}

not_false : (t : Bool) → not t ≡ true → t ≡ false
not_false false e = refl
not_false true e = absurd cc

module _ {X : Type 0} (number : X → ℕ) where
  -- none of the elements has this number; and no number stands twice
  abbrev pub Absent : ℕ → List X → Type 0
  Absent n [] = Unit {0}
  Absent n (x ∷ xs) = ((number x == n) ≡ false) × Absent n xs

  abbrev pub Once : List X → Type 0
  Once [] = Unit {0}
  Once (x ∷ xs) = Absent (number x) xs × Once xs

  absent_of : (n : ℕ) (xs : List X) → some_of (λ m. n == m) (map number xs) ≡ false → Absent n xs
  absent_of n [] e = tt
  absent_of n (x ∷ xs) e =
      let both = or_parts (n == number x) (some_of (λ m. n == m) (map number xs)) e in
      (equal_back (number x) n ∙ both.0, absent_of n xs both.1)

  pub once_of : (xs : List X) → distinct (map number xs) ≡ true → Once xs
  once_of [] e = tt
  once_of (x ∷ xs) e =
      let both = and_parts (not (some_of (λ m. number x == m) (map number xs))) (distinct (map number xs)) e in
      (absent_of (number x) xs (not_false (some_of (λ m. number x == m) (map number xs)) both.0), once_of xs both.1)

  -- what stands after or before another element is none that is absent
  after_other : (m n k : ℕ) (xs : List X) → Absent m xs → after_in n (map number xs) ≡ Some k → (m == k) ≡ false
  after_other m n k [] h e = absurd cc
  after_other m n k (x ∷ xs) h e = by (n == number x) e (λ d. after_other m n k xs h.1 d)
    where
      first : (ys : List X) → Absent m ys → first_or None (map number ys) ≡ Some k → (m == k) ≡ false
      first [] g d = absurd cc
      first (y ∷ ys) g d = ap (λ j. m == j) (sym (same_Some (number y) k d)) ∙ equal_back m (number y) ∙ g.0

      by : (t : Bool) → (if t then first_or None (map number xs) else after_in n (map number xs)) ≡ Some k → (after_in n (map number xs) ≡ Some k → (m == k) ≡ false) → (m == k) ≡ false
      by true d f = first xs h.1 d
      by false d f = f d

  -- ---- forward

  -- One step from an element leads to the next.
  pub record Forward (n : ℕ) (x : X) (xs : List X) (next : Option ℕ) : Type 0 where
    pub passes : passed number next xs ≡ until number n xs ++ x ∷ []
    pub leaves : onward number n xs ≡ x ∷ left number next xs

  -- the element where the cursor is
  pub record At (n : ℕ) (x : X) (xs : List X) : Type 0 where
    pub rest : List X
    pub is : onward number n xs ≡ x ∷ rest

  -- where the cursor is at the first
  first_is : (n : ℕ) (y : X) (ys : List X) → Absent (number y) ys → (number y == n) ≡ true → Forward n y (y ∷ ys) (first_or None (map number ys))
  first_is n y [] h e = record {
    passes = ap (λ t. (if t then [] else y ∷ []) ++ y ∷ []) (sym e);
    leaves = ap (λ t. if t then y ∷ [] else []) e;
  }
  first_is n y (z ∷ zs) h e =
      let a : (number y == number z) ≡ false = equal_back (number y) (number z) ∙ h.0 in
      let b : (number z == number z) ≡ true = same_number_true (number z) in
      record {
        passes = (λ i. if a i then [] else y ∷ (if b i then [] else z ∷ until number (number z) zs)) ∙ ap (λ t. (if t then [] else y ∷ until number n (z ∷ zs)) ++ y ∷ []) (sym e);
        leaves = ap (λ t. if t then y ∷ z ∷ zs else onward number n (z ∷ zs)) e
            ∙ (λ i. y ∷ (if sym a i then y ∷ z ∷ zs else (if sym b i then z ∷ zs else onward number (number z) zs)));
      }

  -- where it is at a later one
  later_is : (n : ℕ) (x y : X) (ys : List X) (next : Option ℕ) → after_in n (map number ys) ≡ next → Absent (number y) ys → (number y == n) ≡ false → Forward n x ys next → Forward n x (y ∷ ys) next
  later_is n x y ys None q h e f = record {
    passes = ap (λ zs. y ∷ zs) f.passes ∙ ap (λ t. (if t then [] else y ∷ until number n ys) ++ x ∷ []) (sym e);
    leaves = ap (λ t. if t then y ∷ ys else onward number n ys) e ∙ f.leaves;
  }
  later_is n x y ys (Some k) q h e f =
      let c = after_other (number y) n k ys h q in
      record {
        passes = ap (λ t. if t then [] else y ∷ until number k ys) c ∙ ap (λ zs. y ∷ zs) f.passes ∙ ap (λ t. (if t then [] else y ∷ until number n ys) ++ x ∷ []) (sym e);
        leaves = ap (λ t. if t then y ∷ ys else onward number n ys) e ∙ f.leaves ∙ ap (λ t. x ∷ (if t then y ∷ ys else onward number k ys)) (sym c);
      }

  pub forward : (n : ℕ) (x : X) (xs : List X) → Once xs → At n x xs → Forward n x xs (after_in n (map number xs))
  forward n x [] once at = absurd (let e = at.is in cc)
  forward n x (y ∷ ys) once at =
      by (number y == n) refl (equal_back n (number y)) at.is (λ e. forward n x ys once.1 (record { rest = at.rest; is = e }))
    where
      by : (t : Bool) → (number y == n) ≡ t → (n == number y) ≡ (number y == n) → (if t then y ∷ ys else onward number n ys) ≡ x ∷ at.rest →
          (onward number n ys ≡ x ∷ at.rest → Forward n x ys (after_in n (map number ys))) → Forward n x (y ∷ ys) (after_in n (number y ∷ map number ys))
      by true e q d f =
          let same : y ≡ x = cc in
          subst (λ o. Forward n x (y ∷ ys) o) (ap (λ t. if t then first_or None (map number ys) else after_in n (map number ys)) (sym (q ∙ e)))
          (subst (λ z. Forward n z (y ∷ ys) (first_or None (map number ys))) same (first_is n y ys once.0 e))
      by false e q d f =
          subst (λ o. Forward n x (y ∷ ys) o) (ap (λ t. if t then first_or None (map number ys) else after_in n (map number ys)) (sym (q ∙ e)))
          (later_is n x y ys (after_in n (map number ys)) refl once.0 e (f d))

  -- ---- parts

  pub parts_are : (n : ℕ) (xs : List X) → until number n xs ++ onward number n xs ≡ xs
  parts_are n [] = refl
  parts_are n (x ∷ xs) = by (number x == n) (parts_are n xs)
    where
      by : (t : Bool) → until number n xs ++ onward number n xs ≡ xs → (if t then [] else x ∷ until number n xs) ++ (if t then x ∷ xs else onward number n xs) ≡ x ∷ xs
      by true h = refl
      by false h = ap (λ ys. x ∷ ys) h

  -- the numbers of what is left
  pub left_numbers : (cursor : Option ℕ) (xs : List X) → left (λ n. n) cursor (map number xs) ≡ map number (left number cursor xs)
  left_numbers None xs = refl
  left_numbers (Some n) xs = by xs
    where
      by : (ys : List X) → onward (λ m. m) n (map number ys) ≡ map number (onward number n ys)
      by [] = refl
      by (y ∷ ys) = by_test (number y == n) (by ys)
        where
          by_test : (t : Bool) → onward (λ m. m) n (map number ys) ≡ map number (onward number n ys) →
              (if t then number y ∷ map number ys else onward (λ m. m) n (map number ys)) ≡ map number (if t then y ∷ ys else onward number n ys)
          by_test true h = refl
          by_test false h = h

  -- elements that are in front of others are not among these
  pub absent_behind : (m : ℕ) (x : X) (xs ys : List X) → Once (xs ++ ys) → At m x xs → Absent m ys
  absent_behind m x [] ys once at = absurd (let e = at.is in cc)
  absent_behind m x (z ∷ zs) ys once at = by (number z == m) refl at.is (λ e. absent_behind m x zs ys once.1 (record { rest = at.rest; is = e }))
    where
      last : (us vs : List X) → Absent m (us ++ vs) → Absent m vs
      last [] vs h = h
      last (u ∷ us) vs h = last us vs h.1

      by : (t : Bool) → (number z == m) ≡ t → (if t then z ∷ zs else onward number m zs) ≡ x ∷ at.rest → (onward number m zs ≡ x ∷ at.rest → Absent m ys) → Absent m ys
      by true q d f = last zs ys (subst (λ k. Absent k (zs ++ ys)) (same_number (number z) m q) once.0)
      by false q d f = f d

  -- ---- the ends

  -- the cursor is at the first at first
  pub first_left : (xs : List X) → left number (first_or None (map number xs)) xs ≡ xs
  first_left [] = refl
  first_left (x ∷ xs) = ap (λ t. if t then x ∷ xs else onward number (number x) xs) (same_number_true (number x))

  pub first_passed : (xs : List X) → passed number (first_or None (map number xs)) xs ≡ []
  first_passed [] = refl
  first_passed (x ∷ xs) = ap (λ t. if t then [] else x ∷ until number (number x) xs) (same_number_true (number x))

  -- an element that is after another one is there
  first_at : (k : ℕ) (xs : List X) → first_or None (map number xs) ≡ Some k → (x : X) × At k x xs
  first_at k [] e = absurd cc
  first_at k (x ∷ xs) e =
      (x, record { rest = xs; is = ap (λ t. if t then x ∷ xs else onward number k xs) (ap (λ j. j == k) (same_Some (number x) k e) ∙ same_number_true k) })

  pub first_there : (k : ℕ) (xs : List X) → first_or None (map number xs) ≡ Some k → (x : X) × At k x xs
  first_there k xs e = first_at k xs e

  at_later : (k : ℕ) (y : X) (xs : List X) → (number y == k) ≡ false → (x : X) × At k x xs → (x : X) × At k x (y ∷ xs)
  at_later k y xs e at = (at.0, record { rest = at.1.rest; is = ap (λ t. if t then y ∷ xs else onward number k xs) e ∙ at.1.is })

  pub after_there : (n k : ℕ) (xs : List X) → Once xs → after_in n (map number xs) ≡ Some k → (x : X) × At k x xs
  after_there n k [] once e = absurd cc
  after_there n k (y ∷ ys) once e = by (n == number y) e (λ d. after_there n k ys once.1 d)
    where
      first_other : (zs : List X) → Absent (number y) zs → first_or None (map number zs) ≡ Some k → (number y == k) ≡ false
      first_other [] h d = absurd cc
      first_other (z ∷ zs) h d = ap (λ j. number y == j) (sym (same_Some (number z) k d)) ∙ equal_back (number y) (number z) ∙ h.0

      by : (t : Bool) → (if t then first_or None (map number ys) else after_in n (map number ys)) ≡ Some k → (after_in n (map number ys) ≡ Some k → (x : X) × At k x ys) → (x : X) × At k x (y ∷ ys)
      by true d f = at_later k y ys (first_other ys once.0 d) (first_at k ys d)
      by false d f = at_later k y ys (after_other (number y) n k ys once.0 d) (f d)

-- a number that is absent is not among the numbers
pub absent_numbers : {X : Type 0} (number : X → ℕ) (n : ℕ) (xs : List X) → Absent number n xs → is_in (map number xs) (Some n) ≡ false
absent_numbers number n [] h = refl
absent_numbers number n (x ∷ xs) h = λ i. (equal_back n (number x) ∙ h.0) i || absent_numbers number n xs h.1 i

-- a node that is found
pub found_at : (n : ℕ) (x : FlatNode) (xs : List FlatNode) → found n xs ≡ Some x → At (λ (y : FlatNode). y.id) n x xs
found_at n x [] e = absurd cc
found_at n x (y ∷ ys) e = by (y.id == n) refl e (λ d. found_at n x ys d)
  where
    by : (t : Bool) → (y.id == n) ≡ t → (if t then Some y else found n ys) ≡ Some x → (found n ys ≡ Some x → At (λ (z : FlatNode). z.id) n x ys) → At (λ (z : FlatNode). z.id) n x (y ∷ ys)
    by true q d f = record { rest = ys; is = ap (λ t. if t then y ∷ ys else onward (λ (z : FlatNode). z.id) n ys) q ∙ ap (λ z. z ∷ ys) (same_Some y x d) }
    by false q d f = let a = f d in record { rest = a.rest; is = ap (λ t. if t then y ∷ ys else onward (λ (z : FlatNode). z.id) n ys) q ∙ a.is }

pub at_found : (n : ℕ) (x : FlatNode) (xs : List FlatNode) → At (λ (y : FlatNode). y.id) n x xs → found n xs ≡ Some x
at_found n x [] at = absurd (let e = at.is in cc)
at_found n x (y ∷ ys) at = by (y.id == n) refl at.is (λ e. at_found n x ys (record { rest = at.rest; is = e }))
  where
    by : (t : Bool) → (y.id == n) ≡ t → (if t then y ∷ ys else onward (λ (z : FlatNode). z.id) n ys) ≡ x ∷ at.rest → (onward (λ (z : FlatNode). z.id) n ys ≡ x ∷ at.rest → found n ys ≡ Some x) →
        (if y.id == n then Some y else found n ys) ≡ Some x
    by true q d f = let same : y ≡ x = cc in ap (λ t. if t then Some y else found n ys) q ∙ ap Some same
    by false q d f = ap (λ t. if t then Some y else found n ys) q ∙ f d
