-- Turns of a loop that test first, and turns that end with the test.
use Rattle.std.specs.Prelude.{◌==◌}
use Rattle.std.proofs.Common.{◌≡◌, ℕ, zero, suc, Bool, true, false, cond, List, [], ◌∷◌, refl, sym, ap, subst, ◌∙◌, arith}
use Rattle.std.proofs.Math.Path.{fun_ext}
use Rattle.val_core.specs.declared.values.Value.TheVariants.{Num}
use Rattle.val_core.specs.Answers.{Answer, Returned, Cut, then_on, on_number}
use Rattle.val_core.specs.Refinement.{Direction, Forward, Backward, Refines, no_deeper}
use Rattle.val_core.proofs.lemmas.Answers.{then_associates, then_nothing}
use Rattle.val_core.proofs.lemmas.Refinement.{refines-then}
use Rattle.g_mean.specs.Data.{Datum, val, value_of}
use Rattle.g_mean.specs.Meaning.{Meaning, again, turns}
use Rattle.g_mean.specs.LessDefined.{Paired, IsLessDefinedDatum}
use Rattle.g_mean.specs.Refining.{InOrder}
use Rattle.g_mean.proofs.lemmas.Equal.{no_deeper-compares}
use Rattle.g_mean.proofs.lemmas.LessDefined.{less-kept}
use Rattle.g_mean.proofs.lemmas.Regions.{pick, less-cut, far-cut, on_number-refines}
use Rattle.r_edit.proofs.lemmas.Loops.{then-number}
use Rattle.r_invert.specs.Laws.{either, AreTurnsInverted}

-- ---- bounds

none-left : (direction : Direction) (m : ℕ) → AreTurnsInverted direction 0 m → InOrder direction 0 (suc m)
none-left Forward m h = omega arith
none-left Backward m h = absurd (omega (arith, h))

none-far : (direction : Direction) (n : ℕ) → AreTurnsInverted direction (suc n) 0 → InOrder direction (suc n) 0
none-far Forward n h = absurd (omega (arith, h))
none-far Backward n h = omega arith

one-less : (direction : Direction) (n m : ℕ) → AreTurnsInverted direction (suc n) (suc m) → AreTurnsInverted direction n m
one-less Forward n m h = omega (arith, h)
one-less Backward n m h = omega (arith, h)

-- ---- what follows the one part or the other

then-choice : {A B : Type 0} (t : Bool) (a b : Answer A) (next : A → Answer B) → then_on (cond t a b) next ≡ cond t (then_on a next) (then_on b next)
then-choice true a b next = refl
then-choice false a b next = refl

pub either-then : (stop go next : Meaning) (es : List Datum) → then_on (either stop go es) next ≡ either (λ us. then_on (stop us) next) (λ us. then_on (go us) next) es
either-then stop go next [] = refl
either-then stop go next (p ∷ es) =
    then-number (value_of p) (λ w. cond (w == 0) (stop es) (go es)) next
    ∙ ap (on_number (value_of p)) (fun_ext (λ w. then-choice (w == 0) (stop es) (go es) next))

pub either-same : (stop go stop' go' : Meaning) → ((es : List Datum) → stop es ≡ stop' es) → ((es : List Datum) → go es ≡ go' es) → (es : List Datum) → either stop go es ≡ either stop' go' es
either-same stop go stop' go' h k es = λ i. either (fun_ext h i) (fun_ext k i) es

-- a part, with this word as the predicate
abbrev pub with_word : (w : ℕ) → Meaning → Meaning
with_word w part es = then_on (part es) (λ us. Returned (val (Num w) ∷ us) [])

stops : (stop next : Meaning) (es : List Datum) → then_on (with_word 0 stop es) (again next) ≡ stop es
stops stop next es = then_associates (stop es) (λ us. Returned (val (Num 0) ∷ us) []) (again next) ∙ then_nothing (stop es)

goes-on : (w : ℕ) → (w == 0) ≡ false → (go next : Meaning) (es : List Datum) → then_on (with_word w go es) (again next) ≡ then_on (go es) next
goes-on w other go next es =
    then_associates (go es) (λ us. Returned (val (Num w) ∷ us) []) (again next)
    ∙ ap (then_on (go es)) (fun_ext (λ us. ap (λ t. cond t (Returned us []) (next us)) other))

-- ---- the two loops

-- one turn of a loop that tests first
module _ (test stop go body : Meaning) (w : ℕ) (other : (w == 0) ≡ false) (is : (xs : List Datum) → body xs ≡ then_on (test xs) (either (with_word 0 stop) (with_word w go))) where
  one-turn : (n : ℕ) (xs : List Datum) → turns (suc n) body xs ≡ then_on (test xs) (either stop (λ es. then_on (go es) (turns n body)))
  one-turn n xs =
      ap (λ a. then_on a (again (turns n body))) (is xs)
      ∙ then_associates (test xs) (either (with_word 0 stop) (with_word w go)) (again (turns n body))
      ∙ ap (then_on (test xs))
      (fun_ext (λ es. either-then (with_word 0 stop) (with_word w go) (again (turns n body)) es
      ∙ either-same (λ us. then_on (with_word 0 stop us) (again (turns n body))) (λ us. then_on (with_word w go us) (again (turns n body))) stop (λ us. then_on (go us) (turns n body))
      (stops stop (turns n body)) (goes-on w other go (turns n body)) es))

-- the test, and then at most m turns that end with it, and the last part
abbrev pub tested_first : (test stop go : Meaning) → (m : ℕ) → Meaning
tested_first test stop go m xs =
    then_on (test xs) (either stop (λ es. then_on (turns m (λ us. then_on (go us) test) es) stop))

module _ (test stop go : Meaning) where
  again-either : (next : Meaning) (es : List Datum) → then_on (again next es) stop ≡ either stop (λ us. then_on (next us) stop) es
  again-either next [] = refl
  again-either next (p ∷ es) =
      then-number (value_of p) (λ w. cond (w == 0) (Returned es []) (next es)) stop
      ∙ ap (on_number (value_of p)) (fun_ext (λ w. then-choice (w == 0) (Returned es []) (next es) stop ∙ returned (w == 0)))
    where
      nothing : (a : Answer (List Datum)) → then_on (Returned es []) stop ≡ stop es
      nothing a = refl

      returned : (t : Bool) → cond t (then_on (Returned es []) stop) (then_on (next es) stop) ≡ cond t (stop es) (then_on (next es) stop)
      returned t = refl

  abbrev body : Meaning
  body us = then_on (go us) test

  next-turn : (m : ℕ) (es : List Datum) → then_on (turns (suc m) body es) stop ≡ then_on (go es) (tested_first test stop go m)
  next-turn m es =
      ap (λ a. then_on a stop) (then_associates (go es) test (again (turns m body)))
      ∙ then_associates (go es) (λ us. then_on (test us) (again (turns m body))) stop
      ∙ ap (then_on (go es)) (fun_ext (λ us. then_associates (test us) (again (turns m body)) stop ∙ ap (then_on (test us)) (fun_ext (λ vs. again-either (turns m body) vs))))

-- ---- turns

module _ (direction : Direction) where
  abbrev Near : List Datum → List Datum → Type 0
  Near = Paired IsLessDefinedDatum

  abbrev Follows : Answer (List Datum) → Answer (List Datum) → Type 0
  Follows a b = Refines no_deeper direction Near a b

  abbrev Refine : Meaning → Meaning → Type 0
  Refine left right = (xs ys : List Datum) → Near xs ys → Follows (left xs) (right ys)

  either-refines : (stop go stop' go' : Meaning) → Refine stop stop' → Refine go go' → Refine (either stop go) (either stop' go')
  either-refines stop go stop' go' h k [] ys near = tt
  either-refines stop go stop' go' h k (p ∷ xs) (q ∷ ys) near =
      on_number-refines no_deeper no_deeper-compares direction IsLessDefinedDatum less-kept Near p q near.0 (λ w. cond (w == 0) (stop xs) (go xs)) (λ w. cond (w == 0) (stop' ys) (go' ys))
      (λ w. pick Follows (w == 0) (stop xs) (stop' ys) (go xs) (go' ys) (h xs ys near.1) (k xs ys near.1))
  either-refines stop go stop' go' h k (p ∷ xs) [] near = absurd near

  then-refines : (first next first' next' : Meaning) → Refine first first' → Refine next next' → Refine (λ xs. then_on (first xs) next) (λ ys. then_on (first' ys) next')
  then-refines first next first' next' h k xs ys near =
      refines-then no_deeper no_deeper-compares.goes Near Near direction (first xs) (first' ys) next next' (h xs ys near) k

  module _ (test stop go body test' stop' go' : Meaning) (w : ℕ) (other : (w == 0) ≡ false) (is : (xs : List Datum) → body xs ≡ then_on (test xs) (either (with_word 0 stop) (with_word w go)))
      (tests : Refine test test') (last : Refine stop stop') (more : Refine go go') where
    one-more : (n : ℕ) (after : Meaning) → Refine (λ es. then_on (go es) (turns n body)) after → (xs ys : List Datum) → Near xs ys →
        Follows (turns (suc n) body xs) (then_on (test' ys) (either stop' after))
    one-more n after h xs ys near =
        subst (λ a. Follows a (then_on (test' ys) (either stop' after))) (sym (one-turn test stop go body w other is n xs))
        (then-refines test (either stop (λ es. then_on (go es) (turns n body))) test' (either stop' after) tests
        (either-refines stop (λ es. then_on (go es) (turns n body)) stop' after last h) xs ys near)

    pub turns-refine : (n m : ℕ) → AreTurnsInverted direction n m → Refine (turns n body) (tested_first test' stop' go' m)
    turns-refine zero m order xs ys near = less-cut no_deeper no_deeper-compares direction Near m (none-left direction m order) (tested_first test' stop' go' m ys)
    turns-refine (suc n) zero order xs ys near =
        one-more n (λ es. then_on (Cut []) stop') (λ us vs near'. far-cut no_deeper no_deeper-compares direction Near n (none-far direction n order) (then_on (go us) (turns n body))) xs ys near
    turns-refine (suc n) (suc m) order xs ys near =
        one-more n (λ es. then_on (turns (suc m) (λ us. then_on (go' us) test') es) stop')
        (λ us vs near'. subst (Follows (then_on (go us) (turns n body))) (sym (next-turn test' stop' go' m vs))
        (then-refines go (turns n body) go' (tested_first test' stop' go' m) more (turns-refine n m (one-less direction n m order)) us vs near'))
        xs ys near
