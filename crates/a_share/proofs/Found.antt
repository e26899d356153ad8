-- Elements that pass a test, by their places.
use Rattle.std.proofs.Common.{◌≡◌, ◌+◌, ◌<◌, ◌≤◌, ℕ, zero, suc, Bool, true, false, List, [], ◌∷◌, ◌++◌, take, refl, sym, ap, ◌∙◌, Some, inl, inr, arith}
use Rattle.std.specs.Prelude.{◌||◌, slice_get, Contains}
use Rattle.std.proofs.lemmas.Bool.{cases_Bool, or_cases, or_left, or_right}
use Rattle.std.proofs.lemmas.Option.{slice_get_within, get_or_from_slice_get}
use Rattle.g_graph.specs.WellFormed.{some_of}
use Rattle.s_linear.specs.Lines.{Line}
use Rattle.a_place.specs.Share.{Site}
use Rattle.a_place.specs.Marks.{Mark, site_of, sites_at}
use Rattle.a_share.specs.Walk.{count_if}

pub same_truth : (a b : Bool) → (a ≡ true → b ≡ true) → (b ≡ true → a ≡ true) → a ≡ b
same_truth true b f g = sym (f refl)
same_truth false true f g = g refl
same_truth false false f g = refl

pub record IsFound {X : Type 0} (test : X → Bool) (xs : List X) : Type 0 where
  pub at : ℕ
  pub what : X
  pub there : slice_get xs at ≡ Some what
  pub passes : test what ≡ true

pub found_later : {X : Type 0} (test : X → Bool) (x : X) (xs : List X) → IsFound test xs → IsFound test (x ∷ xs)
found_later test x xs f = record { at = suc f.at; what = f.what; there = f.there; passes = f.passes }

pub some_found : {X : Type 0} (test : X → Bool) (xs : List X) → some_of test xs ≡ true → IsFound test xs
some_found test [] e = cc
some_found test (x ∷ xs) e =
    elim (or_cases (test x) (some_of test xs) e) [
      | inl here ↦ record { at = 0; what = x; there = refl; passes = here }
      | inr there ↦ found_later test x xs (some_found test xs there)
    ]

pub some_at : {X : Type 0} (test : X → Bool) (xs : List X) (i : ℕ) (x : X) → slice_get xs i ≡ Some x → test x ≡ true → some_of test xs ≡ true
some_at test [] i x e t = cc
some_at test (y ∷ ys) zero x e t = let same : y ≡ x = cc in or_left (test y) (some_of test ys) (ap test same ∙ t)
some_at test (y ∷ ys) (suc i) x e t = or_right (test y) (some_of test ys) (some_at test ys i x e t)

pub contains_at : {X : Type 0} (xs : List X) (i : ℕ) (x : X) → slice_get xs i ≡ Some x → Contains xs x
contains_at xs i x e = (i, slice_get_within xs i x e, get_or_from_slice_get xs i x x e)

pub counted_found : {X : Type 0} (test : X → Bool) (xs : List X) → 1 ≤ count_if test xs → IsFound test xs
counted_found test [] h = absurd (omega arith)
counted_found test (x ∷ xs) h =
    elim (cases_Bool (test x)) [
      | inl here ↦ record { at = 0; what = x; there = refl; passes = here }
      | inr other ↦
          let more : 1 ≤ 0 + count_if test xs = rw other at h in
          let less : 1 ≤ count_if test xs = omega arith in found_later test x xs (counted_found test xs less)
    ]

pub counted_at : {X : Type 0} (test : X → Bool) (xs : List X) (i : ℕ) (x : X) → slice_get xs i ≡ Some x → test x ≡ true → 1 ≤ count_if test xs
counted_at test [] i x e t = cc
counted_at test (y ∷ ys) zero x e t =
    let same : y ≡ x = cc in
    let passes : test y ≡ true = ap test same ∙ t in rw passes (omega arith)
counted_at test (y ∷ ys) (suc i) x e t =
    let rest : 1 ≤ count_if test ys = counted_at test ys i x e t in
    elim (cases_Bool (test y)) [
      | inl passes ↦ rw passes (omega arith)
      | inr fails ↦ rw fails (omega arith)
    ]

-- ---- fewer before one place than before another

pub record StandsIn {X : Type 0} (test : X → Bool) (xs : List X) (from to : ℕ) : Type 0 where
  pub at : ℕ
  pub what : X
  pub there : slice_get xs at ≡ Some what
  pub passes : test what ≡ true
  pub after : from ≤ at
  pub before : at < to

pub fewer_found : {X : Type 0} (test : X → Bool) (xs : List X) (a b : ℕ) → count_if test (take a xs) < count_if test (take b xs) → StandsIn test xs a b
fewer_found test [] zero zero h = absurd (omega arith)
fewer_found test [] zero (suc b) h = absurd (omega arith)
fewer_found test [] (suc a) zero h = absurd (omega arith)
fewer_found test [] (suc a) (suc b) h = absurd (omega arith)
fewer_found test (x ∷ xs) zero zero h = absurd (omega arith)
fewer_found test (x ∷ xs) (suc a) zero h = absurd (omega arith)
fewer_found test (x ∷ xs) zero (suc b) h =
    elim (cases_Bool (test x)) [
      | inl here ↦ record { at = 0; what = x; there = refl; passes = here; after = omega arith; before = omega arith }
      | inr other ↦
          let more : 0 < 0 + count_if test (take b xs) = rw other at h in
          let less : 0 < count_if test (take b xs) = omega arith in
          let f = fewer_found test xs zero b less in
          record { at = suc f.at; what = f.what; there = f.there; passes = f.passes; after = omega arith; before = (let p : f.at < b = f.before in omega arith) }
    ]
fewer_found test (x ∷ xs) (suc a) (suc b) h =
    let less : count_if test (take a xs) < count_if test (take b xs) = omega arith in
    let f = fewer_found test xs a b less in
    record {
      at = suc f.at;
      what = f.what;
      there = f.there;
      passes = f.passes;
      after = (let p : a ≤ f.at = f.after in omega arith);
      before = (let p : f.at < b = f.before in omega arith);
    }

pub fewer_at : {X : Type 0} (test : X → Bool) (xs : List X) (a b i : ℕ) (x : X) → slice_get xs i ≡ Some x → test x ≡ true → a ≤ i → i < b
    → count_if test (take a xs) < count_if test (take b xs)
fewer_at test [] a b i x e t p q = cc
fewer_at test (y ∷ ys) a zero i x e t p q = absurd (omega arith)
fewer_at test (y ∷ ys) zero (suc b) zero x e t p q =
    let same : y ≡ x = cc in
    let passes : test y ≡ true = ap test same ∙ t in rw passes (omega arith)
fewer_at test (y ∷ ys) (suc a) (suc b) zero x e t p q = absurd (omega arith)
fewer_at test (y ∷ ys) zero (suc b) (suc i) x e t p q =
    let rest : 0 < count_if test (take b ys) = fewer_at test ys zero b i x e t (omega arith) (omega arith) in
    elim (cases_Bool (test y)) [
      | inl passes ↦ rw passes (omega arith)
      | inr fails ↦ rw fails (omega arith)
    ]
fewer_at test (y ∷ ys) (suc a) (suc b) (suc i) x e t p q =
    let rest : count_if test (take a ys) < count_if test (take b ys) = fewer_at test ys a b i x e t (omega arith) (omega arith) in omega arith

-- ---- sites by lines

pub record IsFoundAt (test : Site → Bool) (ls : List Line) (ms : List Mark) : Type 0 where
  pub at : ℕ
  pub line : Line
  pub mark : Mark
  pub there : slice_get ls at ≡ Some line
  pub beside : slice_get ms at ≡ Some mark
  pub passes : some_of test (site_of line mark) ≡ true

some_of_append : {X : Type 0} (test : X → Bool) (xs ys : List X) → some_of test (xs ++ ys) ≡ true → (some_of test xs || some_of test ys) ≡ true
some_of_append test [] ys e = e
some_of_append test (x ∷ xs) ys e =
    elim (or_cases (test x) (some_of test (xs ++ ys)) e) [
      | inl here ↦ or_left (test x || some_of test xs) (some_of test ys) (or_left (test x) (some_of test xs) here)
      | inr there ↦
          elim (or_cases (some_of test xs) (some_of test ys) (some_of_append test xs ys there)) [
            | inl first ↦ or_left (test x || some_of test xs) (some_of test ys) (or_right (test x) (some_of test xs) first)
            | inr last ↦ or_right (test x || some_of test xs) (some_of test ys) last
          ]
    ]

pub some_left : {X : Type 0} (test : X → Bool) (xs ys : List X) → some_of test xs ≡ true → some_of test (xs ++ ys) ≡ true
some_left test [] ys e = cc
some_left test (x ∷ xs) ys e =
    elim (or_cases (test x) (some_of test xs) e) [
      | inl here ↦ or_left (test x) (some_of test (xs ++ ys)) here
      | inr there ↦ or_right (test x) (some_of test (xs ++ ys)) (some_left test xs ys there)
    ]

pub some_right : {X : Type 0} (test : X → Bool) (xs ys : List X) → some_of test ys ≡ true → some_of test (xs ++ ys) ≡ true
some_right test [] ys e = e
some_right test (x ∷ xs) ys e = or_right (test x) (some_of test (xs ++ ys)) (some_right test xs ys e)

pub site_found : (test : Site → Bool) (ls : List Line) (ms : List Mark) → some_of test (sites_at ls ms) ≡ true → IsFoundAt test ls ms
site_found test [] ms e = cc
site_found test (l ∷ ls) [] e = cc
site_found test (l ∷ ls) (m ∷ ms) e =
    elim (or_cases (some_of test (site_of l m)) (some_of test (sites_at ls ms)) (some_of_append test (site_of l m) (sites_at ls ms) e)) [
      | inl here ↦ record { at = 0; line = l; mark = m; there = refl; beside = refl; passes = here }
      | inr later ↦
          let f = site_found test ls ms later in
          record { at = suc f.at; line = f.line; mark = f.mark; there = f.there; beside = f.beside; passes = f.passes }
    ]

pub site_there : (test : Site → Bool) (ls : List Line) (ms : List Mark) (i : ℕ) (l : Line) (m : Mark) → slice_get ls i ≡ Some l → slice_get ms i ≡ Some m
    → some_of test (site_of l m) ≡ true → some_of test (sites_at ls ms) ≡ true
site_there test [] ms i l m p q e = cc
site_there test (k ∷ ls) [] i l m p q e = cc
site_there test (k ∷ ls) (n ∷ ms) zero l m p q e =
    let a : k ≡ l = cc in
    let b : n ≡ m = cc in
    some_left test (site_of k n) (sites_at ls ms) (ap (λ z. some_of test (site_of z n)) a ∙ (ap (λ z. some_of test (site_of l z)) b ∙ e))
site_there test (k ∷ ls) (n ∷ ms) (suc i) l m p q e = some_right test (site_of k n) (sites_at ls ms) (site_there test ls ms i l m p q e)
