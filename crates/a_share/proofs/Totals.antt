-- Totals and counts over lists, and over lines with their marks.
use Rattle.std.proofs.Common.{◌≡◌, ◌+◌, ℕ, zero, suc, Bool, true, false, if◌then◌else◌, List, [], ◌∷◌, ◌++◌, length, refl, sym, ap, ◌∙◌, Some, inl, inr, arith}
use Rattle.std.specs.Prelude.{◌==◌, slice_get}
use Rattle.std.proofs.lemmas.Bool.{cases_Bool}
use Rattle.std.proofs.lemmas.Bool.Decides.{nat_tests}
use Rattle.s_linear.specs.Lines.{Line}
use Rattle.a_place.specs.Marks.{Mark}
use Rattle.a_share.specs.Walk.{count_if}
use Rattle.a_share.specs.Held.{total}
use Rattle.a_share.specs.Tables.{positions}

abbrev pub bit : Bool → ℕ
bit b = if b then 1 else 0

pub total_add : {X : Type 0} (f g : X → ℕ) (xs : List X) → total (λ x. f x + g x) xs ≡ total f xs + total g xs
total_add f g [] = refl
total_add f g (x ∷ xs) =
    let rest : total (λ x. f x + g x) xs ≡ total f xs + total g xs = total_add f g xs in omega arith

pub total_same : {X : Type 0} (f g : X → ℕ) (xs : List X) → ((x : X) → f x ≡ g x) → total f xs ≡ total g xs
total_same f g [] h = refl
total_same f g (x ∷ xs) h =
    let here : f x ≡ g x = h x in
    let rest : total f xs ≡ total g xs = total_same f g xs h in omega arith

pub total_none : {X : Type 0} (xs : List X) → total (λ x. 0) xs ≡ 0
total_none [] = refl
total_none {X = X} (x ∷ xs) = let rest : total {X = X} (λ x. 0) xs ≡ 0 = total_none xs in omega arith

pub total_swap : {X Y : Type 0} (f : X → Y → ℕ) (xs : List X) (ys : List Y) → total (λ x. total (f x) ys) xs ≡ total (λ y. total (λ x. f x y) xs) ys
total_swap f [] ys = sym (total_none ys)
total_swap f (x ∷ xs) ys =
    let rest : total (λ x. total (f x) ys) xs ≡ total (λ y. total (λ x. f x y) xs) ys = total_swap f xs ys in
    let all : total (λ y. f x y + total (λ x. f x y) xs) ys ≡ total (f x) ys + total (λ y. total (λ x. f x y) xs) ys =
    total_add (f x) (λ y. total (λ x. f x y) xs) ys in omega arith

pub count_total : {X : Type 0} (test : X → Bool) (xs : List X) → count_if test xs ≡ total (λ x. bit (test x)) xs
count_total test [] = refl
count_total test (x ∷ xs) = ap (λ z. bit (test x) + z) (count_total test xs)

pub count_append : {X : Type 0} (test : X → Bool) (xs ys : List X) → count_if test (xs ++ ys) ≡ count_if test xs + count_if test ys
count_append test [] ys = omega arith
count_append test (x ∷ xs) ys =
    let rest : count_if test (xs ++ ys) ≡ count_if test xs + count_if test ys = count_append test xs ys in
    omega arith

pub count_same : {X : Type 0} (s t : X → Bool) (xs : List X) → ((x : X) → s x ≡ t x) → count_if s xs ≡ count_if t xs
count_same s t [] h = refl
count_same s t (x ∷ xs) h = rw (h x) (ap (λ z. bit (t x) + z) (count_same s t xs h))

-- pairs that pass are counted from either side
pub count_swap : {X Y : Type 0} (test : X → Y → Bool) (xs : List X) (ys : List Y)
    → total (λ x. count_if (test x) ys) xs ≡ total (λ y. count_if (λ x. test x y) xs) ys
count_swap test xs ys =
    total_same (λ x. count_if (test x) ys) (λ x. total (λ y. bit (test x y)) ys) xs (λ x. count_total (test x) ys)
    ∙ (total_swap (λ x y. bit (test x y)) xs ys
    ∙ sym (total_same (λ y. count_if (λ x. test x y) xs) (λ y. total (λ x. bit (test x y)) xs) ys (λ y. count_total (λ x. test x y) xs)))

-- ---- over lines with their marks

abbrev pub over : (Line → Mark → ℕ) → List Line → List Mark → ℕ
over f [] ms = 0
over f (l ∷ ls) [] = 0
over f (l ∷ ls) (m ∷ ms) = f l m + over f ls ms

pub over_add : (f g : Line → Mark → ℕ) (ls : List Line) (ms : List Mark) → over (λ l m. f l m + g l m) ls ms ≡ over f ls ms + over g ls ms
over_add f g [] ms = refl
over_add f g (l ∷ ls) [] = refl
over_add f g (l ∷ ls) (m ∷ ms) =
    let rest : over (λ l m. f l m + g l m) ls ms ≡ over f ls ms + over g ls ms = over_add f g ls ms in omega arith

pub over_same : (f g : Line → Mark → ℕ) (ls : List Line) (ms : List Mark) → ((l : Line) (m : Mark) → f l m ≡ g l m) → over f ls ms ≡ over g ls ms
over_same f g [] ms h = refl
over_same f g (l ∷ ls) [] h = refl
over_same f g (l ∷ ls) (m ∷ ms) h =
    let here : f l m ≡ g l m = h l m in
    let rest : over f ls ms ≡ over g ls ms = over_same f g ls ms h in omega arith

-- a total over the positions of the lines that pass
pub over_positions : (test : Line → Bool) (g : ℕ → ℕ) (h : Line → Mark → ℕ) (i : ℕ) (ls : List Line) (ms : List Mark) → length ls ≡ length ms
    → ((k : ℕ) (l : Line) (m : Mark) → slice_get ls k ≡ Some l → slice_get ms k ≡ Some m → test l ≡ true → g (i + k) ≡ h l m)
    → total g (positions test i ls) ≡ over (λ l m. if test l then h l m else 0) ls ms
over_positions test g h i [] ms e a = refl
over_positions test g h i (l ∷ ls) [] e a = cc
over_positions test g h i (l ∷ ls) (m ∷ ms) e a =
    let less : length ls ≡ length ms = omega arith in
    let rest : total g (positions test (suc i) ls) ≡ over (λ l m. if test l then h l m else 0) ls ms =
    over_positions test g h (suc i) ls ms less (λ k n o p q t. ap g (omega arith) ∙ a (suc k) n o p q t) in
    elim (cases_Bool (test l)) [
      | inl passes ↦
          let here : g i ≡ h l m = ap g (omega arith) ∙ a 0 l m refl refl passes in
          rw passes (ap (λ z. g i + z) rest ∙ ap (λ z. z + over (λ l m. if test l then h l m else 0) ls ms) here)
      | inr fails ↦ rw fails (omega arith)
    ]

-- a number with another added is the same only where that is 0
pub more_is_other : (a b : ℕ) → (a + b == a) ≡ (b == 0)
more_is_other a zero = let x : (a + 0 == a) ≡ true = grind (arith, nat_tests) in x
more_is_other a (suc b) = let x : (a + suc b == a) ≡ false = grind (arith, nat_tests) in let y : (suc b == 0) ≡ false = grind (arith, nat_tests) in x ∙ sym y

-- what is added to nothing
pub none_more : (n : ℕ) (b : Bool) → (n == 0) ≡ b → (0 + n == 0) ≡ b
none_more n b e = let z : 0 + n ≡ n = omega arith in ap (λ k. k == 0) z ∙ e
