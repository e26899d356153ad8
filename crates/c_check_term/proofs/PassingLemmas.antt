-- Arguments and parameters, one more of each, and other numbers of them.
use Rattle.std.proofs.Common.{◌≡◌, suc, ◌<◌, ◌&&◌, Bool, true, false, List, [], ◌∷◌, ◌++◌, length, take, get_or, Option, None, Some, refl, sym, ap, ◌∙◌, arith}
use Rattle.std.specs.Option.{option_map, option_and_then}
use Rattle.c_typed.specs.Typed.{ExprTree}
use Rattle.c_check_def.specs.State.{MaybeType}
use Rattle.c_check_def.specs.Operands.{Term}
use Rattle.c_check_def.specs.Calls.{fits, all_fit, passed_as, all_passed}
use Rattle.c_check_term.specs.Passing.{one_more}

and-assoc : (a b c : Bool) → a && (b && c) ≡ (a && b) && c
and-assoc true b c = refl
and-assoc false b c = refl

and-true : (a : Bool) → a && true ≡ a
and-true true = refl
and-true false = refl

-- where one more argument stands
pub fit_more : (ts : List MaybeType) (xs : List Term) (t : MaybeType) (x : Term) → length xs < length ts → t ≡ get_or ts (length xs) t
    → all_fit (take (length (xs ++ x ∷ [])) ts) (xs ++ x ∷ []) ≡ all_fit (take (length xs) ts) xs && fits t x
fit_more [] xs t x below is = absurd (omega (arith, below))
fit_more (u ∷ ts) [] t x below is = and-true (fits u x) ∙ ap (λ v. fits v x) (sym is)
fit_more (u ∷ ts) (y ∷ ys) t x below is =
    ap (λ b. fits u y && b) (fit_more ts ys t x (omega (arith, below)) is) ∙ and-assoc (fits u y) (all_fit (take (length ys) ts) ys) (fits t x)

-- an expression before others
abbrev before : Option ExprTree → Option (List ExprTree) → Option (List ExprTree)
before e es = option_and_then (λ f. option_map (λ fs. f ∷ fs) es) e

before-alone : (e : Option ExprTree) → before e (Some []) ≡ one_more (Some []) e
before-alone None = refl
before-alone (Some e) = refl

before-more : (e : Option ExprTree) (es : Option (List ExprTree)) (f : Option ExprTree) → before e (one_more es f) ≡ one_more (before e es) f
before-more None es f = refl
before-more (Some e) None f = refl
before-more (Some e) (Some es) None = refl
before-more (Some e) (Some es) (Some f) = refl

pub passed_more : (ts : List MaybeType) (xs : List Term) (t : MaybeType) (x : Term) → length xs < length ts → t ≡ get_or ts (length xs) t
    → all_passed (take (length (xs ++ x ∷ [])) ts) (xs ++ x ∷ []) ≡ one_more (all_passed (take (length xs) ts) xs) (passed_as t x)
passed_more [] xs t x below is = absurd (omega (arith, below))
passed_more (u ∷ ts) [] t x below is = before-alone (passed_as u x) ∙ ap (λ v. one_more (Some []) (passed_as v x)) (sym is)
passed_more (u ∷ ts) (y ∷ ys) t x below is =
    ap (before (passed_as u y)) (passed_more ts ys t x (omega (arith, below)) is) ∙ before-more (passed_as u y) (all_passed (take (length ys) ts) ys) (passed_as t x)

and-false : (a b : Bool) → b ≡ false → a && b ≡ false
and-false true b is = is
and-false false b is = refl

-- As many arguments as parameters fit.
pub unfit : (ts : List MaybeType) (xs : List Term) → (length ts ≡ length xs → ⊥) → all_fit ts xs ≡ false
unfit [] [] apart = absurd (apart refl)
unfit [] (x ∷ xs) apart = refl
unfit (t ∷ ts) [] apart = refl
unfit (t ∷ ts) (x ∷ xs) apart = and-false (fits t x) (all_fit ts xs) (unfit ts xs (λ is. apart (ap suc is)))
