-- Turns of a loop, each of which is up to two turns of another one.
use Rattle.std.specs.Prelude.{◌==◌}
use Rattle.std.proofs.Common.{◌≡◌, ℕ, zero, suc, Bool, true, false, cond, List, [], ◌∷◌, refl, sym, ap, subst, ◌∙◌, arith}
use Rattle.val_core.specs.declared.values.Value.TheVariants.{Num}
use Rattle.val_core.specs.Answers.{Answer, Returned, then_on, on_number}
use Rattle.val_core.specs.Refinement.{Direction, Forward, Backward, Refines, no_deeper}
use Rattle.val_core.proofs.lemmas.Answers.{then_associates}
use Rattle.val_core.proofs.lemmas.Refinement.{refines-then}
use Rattle.g_mean.specs.Data.{Datum, val, value_of}
use Rattle.g_mean.specs.Meaning.{Meaning, again, turns}
use Rattle.g_mean.specs.LessDefined.{Paired, IsLessDefinedDatum}
use Rattle.g_mean.specs.Refining.{InOrder}
use Rattle.g_mean.proofs.lemmas.Equal.{no_deeper-compares}
use Rattle.g_mean.proofs.lemmas.LessDefined.{less-kept}
use Rattle.g_mean.proofs.lemmas.Regions.{pick, both-cut, less-cut, far-cut, on_number-refines}
use Rattle.r_edit.proofs.lemmas.Loops.{then-number}
use Rattle.r_unroll.specs.Laws.{second_turn, AreTurnsUnrolled}

-- ---- bounds

in-order : (direction : Direction) (n m : ℕ) → AreTurnsUnrolled direction n m → InOrder direction n m
in-order Forward n m h = h
in-order Backward n m h = omega (arith, h)

none-left : (direction : Direction) (m : ℕ) → AreTurnsUnrolled direction 1 (suc m) → InOrder direction 0 (suc m)
none-left Forward m h = omega arith
none-left Backward m h = absurd (omega (arith, h))

two-less : (direction : Direction) (n m : ℕ) → AreTurnsUnrolled direction (suc (suc n)) (suc m) → AreTurnsUnrolled direction n m
two-less Forward n m h = omega (arith, h)
two-less Backward n m h = omega (arith, h)

-- ---- one turn

module _ (direction : Direction) where
  abbrev Near : List Datum → List Datum → Type 0
  Near = Paired IsLessDefinedDatum

  abbrev Follows : Answer (List Datum) → Answer (List Datum) → Type 0
  Follows a b = Refines no_deeper direction Near a b

  -- as a predicate says, the one or the other
  choice-refines : (p q : Datum) → IsLessDefinedDatum p q → (a a' b b' : Answer (List Datum)) → Follows a b → Follows a' b' →
      Follows (on_number (value_of p) (λ w. cond (w == 0) a a')) (on_number (value_of q) (λ w. cond (w == 0) b b'))
  choice-refines p q near a a' b b' h h' =
      on_number-refines no_deeper no_deeper-compares direction IsLessDefinedDatum less-kept Near p q near (λ w. cond (w == 0) a a') (λ w. cond (w == 0) b b')
      (λ w. pick Follows (w == 0) a b a' b' h h')

  again-refines : (left right : Meaning) → ((xs ys : List Datum) → Near xs ys → Follows (left xs) (right ys)) → (xs ys : List Datum) → Near xs ys → Follows (again left xs) (again right ys)
  again-refines left right h [] ys near = tt
  again-refines left right h (p ∷ xs) (q ∷ ys) near =
      choice-refines p q near.0 (Returned xs []) (left xs) (Returned ys []) (right ys) (near.1, no_deeper-compares.goes.nothing) (h xs ys near.1)
  again-refines left right h (p ∷ xs) [] near = absurd near

  module _ (body' right : Meaning) where
    stopped-then : (stop : Bool) (ys : List Datum) → then_on (cond stop (Returned (val (Num 0) ∷ ys) []) (body' ys)) (again right) ≡ cond stop (Returned ys []) (then_on (body' ys) (again right))
    stopped-then true ys = refl
    stopped-then false ys = refl

    second-refines : (left : Meaning) → ((xs ys : List Datum) → Near xs ys → Follows (left xs) (then_on (body' ys) (again right))) → (xs ys : List Datum) → Near xs ys →
        Follows (again left xs) (then_on (second_turn body' ys) (again right))
    second-refines left h [] ys near = tt
    second-refines left h (p ∷ xs) (q ∷ ys) near =
        subst (Follows (again left (p ∷ xs)))
        (sym (then-number (value_of q) (λ w. cond (w == 0) (Returned (val (Num 0) ∷ ys) []) (body' ys)) (again right)
        ∙ ap (on_number (value_of q)) (λ i w. stopped-then (w == 0) ys i)))
        (choice-refines p q near.0 (Returned xs []) (left xs) (Returned ys []) (then_on (body' ys) (again right)) (near.1, no_deeper-compares.goes.nothing) (h xs ys near.1))
    second-refines left h (p ∷ xs) [] near = absurd near

  -- ---- all turns

  module _ (body body' whole : Meaning) (refines : (xs ys : List Datum) → Near xs ys → Follows (body xs) (body' ys))
      (is : (ys : List Datum) → whole ys ≡ then_on (body' ys) (second_turn body')) where
    mutual
      pub turns-refine : (n m : ℕ) → AreTurnsUnrolled direction n m → (xs ys : List Datum) → Near xs ys → Follows (turns n body xs) (turns m whole ys)
      turns-refine zero zero order xs ys near = both-cut no_deeper no_deeper-compares direction Near
      turns-refine zero (suc m) order xs ys near = less-cut no_deeper no_deeper-compares direction Near m (in-order direction 0 (suc m) order) (turns (suc m) whole ys)
      turns-refine (suc n) zero order xs ys near = far-cut no_deeper no_deeper-compares direction Near n (in-order direction (suc n) 0 order) (turns (suc n) body xs)
      turns-refine (suc n) (suc m) order xs ys near =
          subst (Follows (turns (suc n) body xs)) (sym (ap (λ a. then_on a (again (turns m whole))) (is ys) ∙ then_associates (body' ys) (second_turn body') (again (turns m whole))))
          (refines-then no_deeper no_deeper-compares.goes Near Near direction (body xs) (body' ys) (again (turns n body)) (λ us. then_on (second_turn body' us) (again (turns m whole)))
          (refines xs ys near) (λ us vs near'. second-refines body' (turns m whole) (turns n body) (λ ws zs k. second n m order ws zs k) us vs near'))

      second : (n m : ℕ) → AreTurnsUnrolled direction (suc n) (suc m) → (xs ys : List Datum) → Near xs ys → Follows (turns n body xs) (then_on (body' ys) (again (turns m whole)))
      second zero m order xs ys near = less-cut no_deeper no_deeper-compares direction Near m (none-left direction m order) (then_on (body' ys) (again (turns m whole)))
      second (suc n) m order xs ys near =
          refines-then no_deeper no_deeper-compares.goes Near Near direction (body xs) (body' ys) (again (turns n body)) (again (turns m whole)) (refines xs ys near)
          (λ us vs near'. again-refines (turns n body) (turns m whole) (λ ws zs k. turns-refine n m (two-less direction n m order) ws zs k) us vs near')
