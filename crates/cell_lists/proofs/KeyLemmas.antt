-- Cells that hold keys, and their lists: what becomes of both where a cell comes to hold a key, loses it, or gives it on.
use Rattle.std.proofs.Common.{◌≡◌, ◌≢◌, ℕ, zero, suc, ◌+◌, ◌<◌, ◌≤◌, Bool, true, false, ◌||◌, eqb, ltb, cond, Option, Some, None, option_map, List, [], ◌∷◌, ◌++◌, length, map, replicate, get_or, set, refl, ap, sym, ◌∙◌, zero-add, ◌⊎◌, subst, inl, inr, arith, true≢false}
use Rattle.std.proofs.lemmas.Bool.{eqb-true, eqb-false, eq-eqb, ne_eqb, or_parts, or_cases, or_left, or_right, or_from, false_from_ne_true, ltb-false}
use Rattle.std.proofs.lemmas.List.{get_or-set_same, get_or-set_other, set-set, length-map, length-set, length-append}
use Rattle.std.proofs.lemmas.List.Folds.{list_any-append}
use Rattle.std.proofs.Math.ListN.{get_or-map}
use Rattle.std.specs.List.{position, position_from}
use Rattle.std.proofs.lemmas.Iterator.Adapters.{position_from-zero}
use Rattle.cell_lists.specs.Lists.{Lists, no_cells, list_at, is_in, IsFree, IsListed, AreDistinct, pushed, removed, replaced, without, other_for, first_or, falls}
use Rattle.cell_lists.specs.Keys.{Keys, no_keys, is_key, key_at, count_of, first_of, with_key, with_moved, IsIndexed}
use Rattle.cell_lists.proofs.ListLemmas.{parts_at, distinct_parts, distinct_pushed, distinct_replaced, others-at, others-outside}

abbrev one : Bool → ℕ
one b = cond b 1 0

or_no : (b c : Bool) → c ≡ false → (b || c) ≡ b
or_no true c h = refl
or_no false c h = h

-- an element after a write
pub at_set : {A : Type 0} (xs : List A) (i j : ℕ) (y d : A) → i < length xs → get_or (set xs i y) j d ≡ cond (eqb j i) y (get_or xs j d)
at_set xs i j y d h = by_test (eqb j i) refl
  where
    by_test : (t : Bool) → eqb j i ≡ t → get_or (set xs i y) j d ≡ cond t y (get_or xs j d)
    by_test true e = ap (λ n. get_or (set xs i y) n d) (eqb-true j i e) ∙ get_or-set_same xs i y d h
    by_test false e = get_or-set_other xs i j y d (eqb-false j i e)

-- how many cells hold a key after a write
pub count-set : (k : ℕ) (xs : List (Option ℕ)) (i : ℕ) (y : Option ℕ) → i < length xs
    → count_of k (set xs i y) + cond (is_key k (get_or xs i None)) 1 0 ≡ count_of k xs + cond (is_key k y) 1 0
count-set k [] i y h = absurd (omega arith)
count-set k (x ∷ xs) zero y h =
    let sums : (a b r : ℕ) → (a + r) + b ≡ (b + r) + a = λ a b r. omega arith in
    sums (cond (is_key k y) 1 0) (cond (is_key k x) 1 0) (count_of k xs)
count-set k (x ∷ xs) (suc i) y h =
    let sums : (a b c d e : ℕ) → b + c ≡ d + e → (a + b) + c ≡ (a + d) + e = λ a b c d e p. omega arith in
    sums (cond (is_key k x) 1 0) _ _ _ _ (count-set k xs i y (omega arith))

none-at : (n c : ℕ) → get_or {A = Option ℕ} (replicate n None) c None ≡ None
none-at zero c = refl
none-at (suc n) zero = refl
none-at (suc n) (suc c) = none-at n c

no_list-at : (n k : ℕ) → get_or {A = List ℕ} (replicate n []) k [] ≡ []
no_list-at zero k = refl
no_list-at (suc n) zero = refl
no_list-at (suc n) (suc k) = no_list-at n k

no_count : (n k : ℕ) → count_of k (replicate n None) ≡ 0
no_count zero k = refl
no_count (suc n) k = zero-add _ ∙ no_count n k

length-none : (n : ℕ) → length {A = Option ℕ} (replicate n None) ≡ n
length-none zero = refl
length-none (suc n) = ap suc (length-none n)

-- no cell holds a key
pub new_indexed : (n m : ℕ) → IsIndexed (replicate m None) (no_cells n m)
new_indexed n m = record {
  size = sym (length-none m);
  members = λ k c. ap (λ xs. is_in c xs) (no_list-at n k) ∙ sym (ap (λ o. is_key k o) (none-at m c));
  distinct = λ k. let P : List ℕ → Type 0 = λ xs. AreDistinct xs in subst P (sym (no_list-at n k)) tt;
  counts = λ k. ap length (no_list-at n k) ∙ sym (no_count m k);
}

module _ (cells : List (Option ℕ)) (s : Lists) (is : IsIndexed cells s) where
  -- a cell that holds no key is in no list, and one that holds a key is in one
  pub free : (c : ℕ) → get_or cells c None ≡ None → IsFree c s
  free c e = λ k. is.members k c ∙ ap (λ o. is_key k o) e

  pub listed : (c k : ℕ) → get_or cells c None ≡ Some k → IsListed c s
  listed c k e = (k, is.members k c ∙ ap (λ o. is_key k o) e ∙ eq-eqb k k refl)

  -- a cell comes to hold a key
  pub push_indexed : (c k : ℕ) → c < length cells → k < length s.lists → get_or cells c None ≡ None → IsIndexed (set cells c (Some k)) (pushed s k c)
  push_indexed c k lt ltk none = record {
    size = is.size ∙ sym (length-set cells c (Some k));
    members = λ j x. ap (λ ys. is_in x ys) (seen j) ∙ members (eqb j k) (eqb x c) j x refl refl ∙ sym (ap (λ o. is_key j o) (at_set cells c x (Some k) None lt));
    distinct = λ j. let P : List ℕ → Type 0 = λ ys. AreDistinct ys in subst P (sym (seen j)) (distinct (eqb j k) j refl);
    counts = λ j. ap length (seen j) ∙ counts (eqb j k) j refl;
  }
    where
      seen : (j : ℕ) → list_at (pushed s k c) j ≡ cond (eqb j k) (list_at s k ++ c ∷ []) (list_at s j)
      seen j = at_set s.lists k j (list_at s k ++ c ∷ []) [] ltk

      outside : (j : ℕ) → is_in c (list_at s j) ≡ false
      outside j = free c none j

      members : (t u : Bool) (j x : ℕ) → eqb j k ≡ t → eqb x c ≡ u → is_in x (cond t (list_at s k ++ c ∷ []) (list_at s j)) ≡ is_key j (cond u (Some k) (get_or cells x None))
      members true true j x e f = list_any-append (λ y. eqb x y) (list_at s k) (c ∷ []) ∙ or_right _ _ (or_left _ _ f) ∙ sym (eq-eqb k j (sym (eqb-true j k e)))
      members true false j x e f =
          list_any-append (λ y. eqb x y) (list_at s k) (c ∷ []) ∙ or_no _ _ (or_from _ _ f refl) ∙ is.members k x ∙ ap (λ n. is_key n (get_or cells x None)) (sym (eqb-true j k e))
      members false true j x e f =
          ap (λ n. is_in n (list_at s j)) (eqb-true x c f) ∙ outside j ∙ sym (ne_eqb k j (λ q. eqb-false j k e (sym q)))
      members false false j x e f = is.members j x

      distinct : (t : Bool) (j : ℕ) → eqb j k ≡ t → AreDistinct (cond t (list_at s k ++ c ∷ []) (list_at s j))
      distinct true j e = distinct_pushed (list_at s k) c (is.distinct k) (outside k)
      distinct false j e = is.distinct j

      counts : (t : Bool) (j : ℕ) → eqb j k ≡ t → length (cond t (list_at s k ++ c ∷ []) (list_at s j)) ≡ count_of j (set cells c (Some k))
      counts true j e =
          let P : ℕ → Type 0 = λ n. length (list_at s k ++ c ∷ []) ≡ count_of n (set cells c (Some k)) in
          let w = count-set k cells c (Some k) lt in
          let z : one (is_key k (get_or cells c None)) ≡ 0 = ap (λ o. one (is_key k o)) none in
          let o : one (eqb k k) ≡ 1 = ap one (eq-eqb k k refl) in
          subst P (sym (eqb-true j k e)) (length-append (list_at s k) (c ∷ []) ∙ omega (arith, is.counts k, w, z, o))
      counts false j e =
          let w = count-set j cells c (Some k) lt in
          let z : one (is_key j (get_or cells c None)) ≡ 0 = ap (λ o. one (is_key j o)) none in
          let o : one (eqb k j) ≡ 0 = ap one (ne_eqb k j (λ q. eqb-false j k e (sym q))) in
          omega (arith, is.counts j, w, z, o)

-- a list without a cell
in_without : (c x : ℕ) (xs : List ℕ) → AreDistinct xs → is_in x (without c xs) ≡ cond (eqb x c) false (is_in x xs)
in_without c x [] d = elim (eqb x c) as (λ t. false ≡ cond t false false) [ true ↦ refl | false ↦ refl ]
in_without c x (y ∷ ys) d = by_tests (eqb c y) (eqb x c) refl refl (in_without c x ys d.1)
  where
    by_tests : (t u : Bool) → eqb c y ≡ t → eqb x c ≡ u → is_in x (without c ys) ≡ cond (eqb x c) false (is_in x ys)
        → is_in x (cond t ys (y ∷ without c ys)) ≡ cond u false (eqb x y || is_in x ys)
    by_tests true true e f ih = ap (λ n. is_in n ys) (eqb-true x c f ∙ eqb-true c y e) ∙ d.0
    by_tests true false e f ih = sym (ap (λ b. b || is_in x ys) (ne_eqb x y (λ q. eqb-false x c f (q ∙ sym (eqb-true c y e)))))
    by_tests false true e f ih = or_from _ _ (ap (λ n. eqb n y) (eqb-true x c f) ∙ e) (ih ∙ ap (λ b. cond b false (is_in x ys)) f)
    by_tests false false e f ih = ap (λ b. eqb x y || b) (ih ∙ ap (λ b. cond b false (is_in x ys)) f)

length_without : (c : ℕ) (xs : List ℕ) → length (without c xs) + cond (is_in c xs) 1 0 ≡ length xs
length_without c [] = refl
length_without c (y ∷ ys) = by_test (eqb c y) (length_without c ys)
  where
    by_test : (t : Bool) → length (without c ys) + cond (is_in c ys) 1 0 ≡ length ys → length (cond t ys (y ∷ without c ys)) + cond (t || is_in c ys) 1 0 ≡ suc (length ys)
    by_test true ih = omega arith
    by_test false ih = let sums : (a b c : ℕ) → a + b ≡ c → suc a + b ≡ suc c = λ a b c h. omega arith in sums _ _ _ ih

distinct_less : (c : ℕ) (xs : List ℕ) → AreDistinct xs → AreDistinct (without c xs)
distinct_less c [] d = tt
distinct_less c (y ∷ ys) d = by_test (eqb c y) (distinct_less c ys d.1)
  where
    no : (t : Bool) → cond t false (is_in y ys) ≡ false
    no true = refl
    no false = d.0

    by_test : (t : Bool) → AreDistinct (without c ys) → AreDistinct (cond t ys (y ∷ without c ys))
    by_test true ih = d.1
    by_test false ih = (in_without c y ys d.1 ∙ no (eqb y c), ih)

-- a list in which another cell stands for one
in_replaced : (c d x : ℕ) (xs : List ℕ) → is_in d xs ≡ false → is_in x (map (other_for c d) xs) ≡ cond (eqb x d) (is_in c xs) (cond (eqb x c) false (is_in x xs))
in_replaced c d x [] h = by_tests (eqb x d) (eqb x c)
  where
    by_tests : (t u : Bool) → false ≡ cond t false (cond u false false)
    by_tests true u = refl
    by_tests false true = refl
    by_tests false false = refl
in_replaced c d x (y ∷ ys) h =
    by_tests (eqb c y) (eqb x d) (eqb x c) refl refl refl (in_replaced c d x ys (or_parts (eqb d y) (is_in d ys) h).1)
  where
    by_tests : (t u v : Bool) → eqb c y ≡ t → eqb x d ≡ u → eqb x c ≡ v → is_in x (map (other_for c d) ys) ≡ cond (eqb x d) (is_in c ys) (cond (eqb x c) false (is_in x ys))
        → (eqb x (cond t d y) || is_in x (map (other_for c d) ys)) ≡ cond u (t || is_in c ys) (cond v false (eqb x y || is_in x ys))
    by_tests true true v e f g ih = or_left _ _ f
    by_tests true false true e f g ih =
        or_from _ _ f (ih ∙ ap (λ b. cond b (is_in c ys) (cond (eqb x c) false (is_in x ys))) f ∙ ap (λ b. cond b false (is_in x ys)) g)
    by_tests true false false e f g ih =
        ap (λ b. b || is_in x (map (other_for c d) ys)) f ∙ ih ∙ ap (λ b. cond b (is_in c ys) (cond (eqb x c) false (is_in x ys))) f ∙ ap (λ b. cond b false (is_in x ys)) g
        ∙ sym (ap (λ b. b || is_in x ys) (ne_eqb x y (λ q. eqb-false x c g (q ∙ sym (eqb-true c y e)))))
    by_tests false true v e f g ih =
        ap (λ b. b || is_in x (map (other_for c d) ys)) (ap (λ n. eqb n y) (eqb-true x d f) ∙ (or_parts (eqb d y) (is_in d ys) h).0)
        ∙ ih ∙ ap (λ b. cond b (is_in c ys) (cond (eqb x c) false (is_in x ys))) f
    by_tests false false true e f g ih =
        or_from _ _ (ap (λ n. eqb n y) (eqb-true x c g) ∙ e) (ih ∙ ap (λ b. cond b (is_in c ys) (cond (eqb x c) false (is_in x ys))) f ∙ ap (λ b. cond b false (is_in x ys)) g)
    by_tests false false false e f g ih =
        ap (λ b. eqb x y || b) (ih ∙ ap (λ b. cond b (is_in c ys) (cond (eqb x c) false (is_in x ys))) f ∙ ap (λ b. cond b false (is_in x ys)) g)

distinct_other : (c d : ℕ) (xs : List ℕ) → AreDistinct xs → is_in d xs ≡ false → AreDistinct (map (other_for c d) xs)
distinct_other c d xs e h = by_test (is_in c xs) refl
  where
    by_test : (t : Bool) → is_in c xs ≡ t → AreDistinct (map (other_for c d) xs)
    by_test true i =
        let p = parts_at c xs i in
        let P : List ℕ → Type 0 = λ ys. AreDistinct ys in
        let Q : List ℕ → Type 0 = λ ys. is_in d ys ≡ false in
        let e' = subst P p.is e in
        let q = distinct_parts p.front (c ∷ p.back) e' in
        subst P (sym (ap (map (other_for c d)) p.is ∙ others-at c d p.front p.back p.apart q.1.0)) (distinct_replaced p.front p.back c d e' (subst Q p.is h))
    by_test false i = let P : List ℕ → Type 0 = λ ys. AreDistinct ys in subst P (sym (others-outside c d xs i)) e

module _ (cells : List (Option ℕ)) (s : Lists) (is : IsIndexed cells s) where
  -- a cell loses its key
  pub remove_indexed : (c : ℕ) → c < length cells → IsIndexed (set cells c None) (removed s c)
  remove_indexed c lt = record {
    size = is.size ∙ sym (length-set cells c None);
    members = λ j x. ap (λ ys. is_in x ys) (seen j) ∙ in_without c x (list_at s j) (is.distinct j) ∙ members (eqb x c) j x ∙ sym (ap (λ o. is_key j o) (at_set cells c x None None lt));
    distinct = λ j. let P : List ℕ → Type 0 = λ ys. AreDistinct ys in subst P (sym (seen j)) (distinct_less c (list_at s j) (is.distinct j));
    counts = λ j.
        let w = count-set j cells c None lt in
        let l = length_without c (list_at s j) in
        let m : one (is_in c (list_at s j)) ≡ one (is_key j (get_or cells c None)) = ap one (is.members j c) in
        ap length (seen j) ∙ sums _ _ _ _ _ _ l m (is.counts j) w;
  }
    where
      seen : (j : ℕ) → list_at (removed s c) j ≡ without c (list_at s j)
      seen j = get_or-map (without c) s.lists j []

      members : (t : Bool) (j x : ℕ) → cond t false (is_in x (list_at s j)) ≡ is_key j (cond t None (get_or cells x None))
      members true j x = refl
      members false j x = is.members j x

      sums : (a b l n m w : ℕ) → a + b ≡ l → b ≡ m → l ≡ n → w + m ≡ n + 0 → a ≡ w
      sums a b l n m w p q r t = omega arith

  -- a cell gives its key to one that holds none
  pub replace_indexed : (c d k : ℕ) → c < length cells → d < length cells → get_or cells c None ≡ Some k → get_or cells d None ≡ None → IsIndexed (set (set cells d (Some k)) c None) (replaced s c d)
  replace_indexed c d k ltc ltd held none = record {
    size = is.size ∙ sym (length-set (set cells d (Some k)) c None ∙ length-set cells d (Some k));
    members = λ j x.
        ap (λ ys. is_in x ys) (seen j) ∙ in_replaced c d x (list_at s j) (free cells s is d none j) ∙ members (eqb x d) (eqb x c) j x refl refl
        ∙ sym (ap (λ o. is_key j o) (at_set (set cells d (Some k)) c x None None ltc' ∙ ap (λ o. cond (eqb x c) None o) (at_set cells d x (Some k) None ltd)));
    distinct = λ j. let P : List ℕ → Type 0 = λ ys. AreDistinct ys in subst P (sym (seen j)) (distinct_other c d (list_at s j) (is.distinct j) (free cells s is d none j));
    counts = λ j.
        let w = count-set j cells d (Some k) ltd in
        let v = count-set j (set cells d (Some k)) c None ltc' in
        let z : one (is_key j (get_or cells d None)) ≡ 0 = ap (λ o. one (is_key j o)) none in
        let y : one (is_key j (get_or (set cells d (Some k)) c None)) ≡ one (is_key j (Some k)) =
        ap (λ o. one (is_key j o)) (get_or-set_other cells d c (Some k) None ne ∙ held) in
        ap length (seen j) ∙ length-map (list_at s j) (other_for c d) ∙ sums _ _ _ _ _ _ _ (is.counts j) w v z y;
  }
    where
      seen : (j : ℕ) → list_at (replaced s c d) j ≡ map (other_for c d) (list_at s j)
      seen j = get_or-map (map (other_for c d)) s.lists j []

      ltc' : c < length (set cells d (Some k))
      ltc' = omega (arith, length-set cells d (Some k))

      apart : Some k ≡ None → ⊥
      apart p = cc

      ne : c ≢ d
      ne q = apart (sym held ∙ ap (λ n. get_or cells n None) q ∙ none)

      members : (t u : Bool) (j x : ℕ) → eqb x d ≡ t → eqb x c ≡ u
          → cond t (is_in c (list_at s j)) (cond u false (is_in x (list_at s j))) ≡ is_key j (cond u None (cond t (Some k) (get_or cells x None)))
      members true true j x e f = absurd (ne (sym (eqb-true x c f) ∙ eqb-true x d e))
      members true false j x e f = is.members j c ∙ ap (λ o. is_key j o) held
      members false true j x e f = refl
      members false false j x e f = is.members j x

      sums : (l n w v a b e : ℕ) → l ≡ n → w + a ≡ n + b → v + e ≡ w + 0 → a ≡ 0 → e ≡ b → l ≡ v
      sums l n w v a b e p q r t u = omega arith

-- the first cell that holds a key
pub first-at : (k : ℕ) (xs : List (Option ℕ)) (p : ℕ) → is_key k (get_or xs p None) ≡ true → ((c : ℕ) → c < p → is_key k (get_or xs c None) ≡ false) → first_of k xs ≡ Some p
first-at k [] p h before = absurd (true≢false (sym h))
first-at k (x ∷ xs) zero h before = ap (λ b. cond b (Some 0) (option_map suc (first_of k xs))) h
first-at k (x ∷ xs) (suc p) h before =
    ap (λ b. cond b (Some 0) (option_map suc (first_of k xs))) (before 0 (omega arith)) ∙ ap (option_map suc) (first-at k xs p h (λ c lt. before (suc c) (omega arith)))

pub first-none : (k : ℕ) (xs : List (Option ℕ)) → ((c : ℕ) → c < length xs → is_key k (get_or xs c None) ≡ false) → first_of k xs ≡ None
first-none k [] none = refl
first-none k (x ∷ xs) none =
    ap (λ b. cond b (Some 0) (option_map suc (first_of k xs))) (none 0 (omega arith)) ∙ ap (option_map suc) (first-none k xs (λ c lt. none (suc c) (omega arith)))

-- where cells rise, each is at least the first
least : (x : ℕ) (ys : List ℕ) (y : ℕ) → falls (Some x) ys ≡ 0 → is_in y ys ≡ true → x ≤ y
least x [] y h i = absurd (true≢false (sym i))
least x (z ∷ zs) y h i =
    elim (or_cases _ _ i) [
      | inl e ↦ let q = eqb-true y z e in omega (arith, up, q)
      | inr e ↦ omega (arith, up, least z zs y (omega (arith, h)) e)
    ]
  where
    no_fall : (t : Bool) → ltb z x ≡ t → cond t 1 0 + falls (Some z) zs ≡ 0 → x ≤ z
    no_fall true e p = absurd (omega (arith, p))
    no_fall false e p = ltb-false z x e

    up : x ≤ z
    up = no_fall (ltb z x) refl h

-- the first of a key's cells, where they rise
pub first_rising : (cells : List (Option ℕ)) (s : Lists) → IsIndexed cells s → (k : ℕ) → falls None (list_at s k) ≡ 0 → first_or None (list_at s k) ≡ first_of k cells
first_rising cells s is k h = by_list (list_at s k) h (λ c. is.members k c)
  where
    by_list : (xs : List ℕ) → falls None xs ≡ 0 → ((c : ℕ) → is_in c xs ≡ is_key k (get_or cells c None)) → first_or None xs ≡ first_of k cells
    by_list [] e m = sym (first-none k cells (λ c lt. sym (m c)))
    by_list (x ∷ xs) e m =
        sym (first-at k cells x (sym (m x) ∙ or_left _ _ (eq-eqb x x refl)) (λ c lt. false_from_ne_true _ (λ t. pick c lt (or_cases _ _ (m c ∙ t)))))
      where
        pick : (c : ℕ) → c < x → (eqb c x ≡ true) ⊎ (is_in c xs ≡ true) → ⊥
        pick c lt (inl q) = omega (arith, eqb-true c x q, lt)
        pick c lt (inr q) = omega (arith, least x xs c (sym (zero-add (falls (Some x) xs)) ∙ e) q, lt)

-- what is stored, and what contracts see of it
abbrev pub keys_seen : List (Option ℕ) → Lists → Keys
keys_seen cells s = record { count = length s.lists; cells = cells }

pub record AreKept (cells : List (Option ℕ)) (s : Lists) (v : Keys) : Type 0 where
  pub is : IsIndexed cells s
  pub seen : keys_seen cells s ≡ v

length-no_lists : (n : ℕ) → length {A = List ℕ} (replicate n []) ≡ n
length-no_lists zero = refl
length-no_lists (suc n) = ap suc (length-no_lists n)

pub new_kept : (cells : List (Option ℕ)) (s : Lists) (n m : ℕ) → cells ≡ replicate m None → s ≡ no_cells n m → AreKept cells s (no_keys n m)
new_kept cells s n m e f = record {
  is = let P : List (Option ℕ) → Lists → Type 0 = λ xs t. IsIndexed xs t in subst (λ xs. P xs s) (sym e) (subst (λ t. P (replicate m None) t) (sym f) (new_indexed n m));
  seen = λ i. record { count = (ap (λ (t : Lists). length t.lists) f ∙ length-no_lists n) i; cells = e i };
}

module _ (cells : List (Option ℕ)) (s : Lists) (v : Keys) (kept : AreKept cells s v) where
  same_count : length s.lists ≡ v.count
  same_count = ap (λ (r : Keys). r.count) kept.seen

  same_cells : cells ≡ v.cells
  same_cells = ap (λ (r : Keys). r.cells) kept.seen

  pub list_in : (k : ℕ) → k < v.count → k < length s.lists
  list_in k h = omega (arith, same_count, h)

  pub cell_in : (c : ℕ) → c < length v.cells → c < length cells
  cell_in c h = omega (arith, ap length same_cells, h)

  pub cell_in_lists : (c : ℕ) → c < length v.cells → c < s.cells
  cell_in_lists c h = omega (arith, cell_in c h, kept.is.size)

  held : (c : ℕ) (o : Option ℕ) → key_at v c ≡ o → get_or cells c None ≡ o
  held c o e = ap (λ xs. get_or xs c None) same_cells ∙ e

  pub is_free : (c : ℕ) → key_at v c ≡ None → IsFree c s
  is_free c e = free cells s kept.is c (held c None e)

  pub put_kept : (c k : ℕ) (s' : Lists) → c < length v.cells → k < v.count → key_at v c ≡ None → s' ≡ pushed s k c
      → AreKept (set cells c (Some k)) s' (with_key v c (Some k))
  put_kept c k s' lt ltk e f = record {
    is = let P : Lists → Type 0 = λ t. IsIndexed (set cells c (Some k)) t in subst P (sym f) (push_indexed cells s kept.is c k (cell_in c lt) (list_in k ltk) (held c None e));
    seen = λ i. record {
      count = (ap (λ (t : Lists). length t.lists) f ∙ length-set s.lists k _ ∙ same_count) i;
      cells = set (same_cells i) c (Some k);
    };
  }

  pub clear_kept : (c : ℕ) (s' : Lists) → c < length v.cells → s' ≡ removed s c → AreKept (set cells c None) s' (with_key v c None)
  clear_kept c s' lt f = record {
    is = let P : Lists → Type 0 = λ t. IsIndexed (set cells c None) t in subst P (sym f) (remove_indexed cells s kept.is c (cell_in c lt));
    seen = λ i. record {
      count = (ap (λ (t : Lists). length t.lists) f ∙ length-map s.lists (without c) ∙ same_count) i;
      cells = set (same_cells i) c None;
    };
  }

  pub move_kept : (c d k : ℕ) (s' : Lists) → c < length v.cells → d < length v.cells → get_or cells c None ≡ Some k → key_at v d ≡ None → s' ≡ replaced s c d
      → AreKept (set (set cells d (Some k)) c None) s' (with_moved v c d)
  move_kept c d k s' ltc ltd e none f = record {
    is = let P : Lists → Type 0 = λ t. IsIndexed (set (set cells d (Some k)) c None) t in
        subst P (sym f) (replace_indexed cells s kept.is c d k (cell_in c ltc) (cell_in d ltd) e (held d None none));
    seen = λ i. record {
      count = (ap (λ (t : Lists). length t.lists) f ∙ length-map s.lists (map (other_for c d)) ∙ same_count) i;
      cells = set (set (same_cells i) d ((sym e ∙ ap (λ xs. get_or xs c None) same_cells) i)) c None;
    };
  }

  pub count_kept : (k n : ℕ) → n ≡ length (list_at s k) → n ≡ count_of k v.cells
  count_kept k n e = e ∙ kept.is.counts k ∙ ap (count_of k) same_cells

  pub first_kept : (k : ℕ) (o : Option ℕ) → falls None (list_at s k) ≡ 0 → o ≡ first_or None (list_at s k) → o ≡ first_of k v.cells
  first_kept k o h e = e ∙ first_rising cells s kept.is k h ∙ ap (first_of k) same_cells

-- a cell that loses its key and comes to hold another
pub set_twice : (u v w : Keys) (c k : ℕ) → v ≡ with_key u c None → w ≡ with_key v c (Some k) → w ≡ with_key u c (Some k)
set_twice u v w c k e f = f ∙ ap (λ x. with_key x c (Some k)) e ∙ (λ i. record { count = u.count; cells = set-set u.cells c None (Some k) i })

-- what a cell holds, as it was read
pub at_read : (cells : List (Option ℕ)) (c : ℕ) (r o : Option ℕ) → c < length cells → r ≡ get_or cells c r → r ≡ o → get_or cells c None ≡ o
at_read [] c r o lt e f = absurd (omega arith)
at_read (x ∷ xs) zero r o lt e f = sym e ∙ f
at_read (x ∷ xs) (suc c) r o lt e f = at_read xs c r o (omega arith) e f

-- a cell that lost its key can come to hold one
pub after_clear : (u v : Keys) (c k : ℕ) → v ≡ with_key u c None → c < length u.cells → k < u.count → (c < length v.cells) × (k < v.count) × (key_at v c ≡ None)
after_clear u v c k e lt ltk = (
  omega (arith, ap (λ (x : Keys). length x.cells) e, length-set u.cells c None, lt),
  omega (arith, ap (λ (x : Keys). x.count) e, ltk),
  ap (λ (x : Keys). key_at x c) e ∙ get_or-set_same u.cells c None None lt,
)

-- the first cell that holds a key, by its index
add_zero : (o : Option ℕ) → option_map (λ n. n + 0) o ≡ o
add_zero None = refl
add_zero (Some n) = ap Some (omega arith)

add_more : (i : ℕ) (o : Option ℕ) → option_map (λ n. n + (i + 1)) o ≡ option_map (λ n. n + i) (option_map suc o)
add_more i None = refl
add_more i (Some n) = ap Some (omega arith)

from-first : (k i : ℕ) (xs : List (Option ℕ)) → position_from (is_key k) i xs ≡ option_map (λ n. n + i) (first_of k xs)
from-first k i [] = refl
from-first k i (x ∷ xs) = by_test (is_key k x) (from-first k (i + 1) xs)
  where
    by_test : (t : Bool) → position_from (is_key k) (i + 1) xs ≡ option_map (λ n. n + (i + 1)) (first_of k xs)
        → cond t (Some i) (position_from (is_key k) (i + 1) xs) ≡ option_map (λ n. n + i) (cond t (Some 0) (option_map suc (first_of k xs)))
    by_test true ih = ap Some (sym (zero-add i))
    by_test false ih = ih ∙ add_more i (first_of k xs)

pub first-position : (k : ℕ) (xs : List (Option ℕ)) → position (is_key k) xs ≡ first_of k xs
first-position k xs = position_from-zero (is_key k) xs ∙ from-first k 0 xs ∙ add_zero (first_of k xs)

pub first_seen : (cells : List (Option ℕ)) (s : Lists) (v : Keys) → AreKept cells s v → (k : ℕ) (o : Option ℕ) → o ≡ position (is_key k) cells → o ≡ first_of k v.cells
first_seen cells s v kept k o e = e ∙ first-position k cells ∙ ap (first_of k) (same_cells cells s v kept)
