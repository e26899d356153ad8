-- Rows made one after the other.
use Rattle.std.proofs.Common.{◌≡◌, ◌<◌, ◌+◌, ℕ, zero, suc, List, [], ◌∷◌, ◌++◌, Some, length, map, take, zip, min, slice_get, get_or, sym, ap, ◌∙◌, arith}
use Rattle.std.proofs.Math.ListN.{get_or-map}
use Rattle.std.proofs.lemmas.List.{length-map, take_all, take_more}
use Rattle.std.proofs.lemmas.Slice.Zip.{length-zip, get_or-zip}
use Rattle.c_typed.specs.Typed.{FunctionTree, ProgramTree}
use Rattle.r_rule.specs.Optimised.{PlainOptimised}
use Rattle.cc_emit.specs.Image.{lambdas_of}
use Rattle.cc_compile.specs.Compiled.{row_of, rows_of}

lambda_in : (answers : List PlainOptimised) (n : ℕ) (o : PlainOptimised) → n < length answers → o ≡ get_or answers n o → slice_get (lambdas_of answers) n ≡ Some o.lambda
lambda_in [] n o h e = absurd (omega (arith, h))
lambda_in (x ∷ xs) zero o h e = ap (λ (a : PlainOptimised). Some a.lambda) (sym e)
lambda_in (x ∷ xs) (suc n) o h e = lambda_in xs n o (omega (arith, h)) e

long : (p : ProgramTree) (answers : List PlainOptimised) → length (rows_of p answers) ≡ min (length p.functions) (length answers)
long p answers = length-map (zip p.functions answers) _ ∙ length-zip p.functions answers

row_in : (p : ProgramTree) (answers : List PlainOptimised) (n : ℕ) (f : FunctionTree) (o : PlainOptimised) → n < length p.functions → n < length answers →
    f ≡ get_or p.functions n f → o ≡ get_or answers n o → take (n + 1) (rows_of p answers) ≡ take n (rows_of p answers) ++ row_of f o ∷ []
row_in p answers n f o h g first second =
    let row : FunctionTree × PlainOptimised → _ = λ q. row_of q.0 q.1 in
    take_more (rows_of p answers) n (row_of f o) (omega (arith, h, g, long p answers))
    ∙ ap (λ r. take n (rows_of p answers) ++ r ∷ [])
    (get_or-map row (zip p.functions answers) n (f, o)
    ∙ (ap row (get_or-zip p.functions answers n (f, o) h g) ∙ (ap (λ x. row_of x (get_or answers n o)) (sym first) ∙ ap (row_of f) (sym second))))

-- the answers are those that f gives of some list
module _ {A : Type 0} (f : A → PlainOptimised) (all : List A) where
  module _ (n : ℕ) (a : A) (within : n < length all) (is : a ≡ get_or all n a) where
    answer_at : f a ≡ get_or (map f all) n (f a)
    answer_at = ap f is ∙ sym (get_or-map f all n a)

    below : n < length (map f all)
    below = omega (arith, within, length-map all f)

    pub lambda_at : slice_get (lambdas_of (map f all)) n ≡ Some (f a).lambda
    lambda_at = lambda_in (map f all) n (f a) below answer_at

    pub rows_more : (p : ProgramTree) (function : FunctionTree) → n < length p.functions → function ≡ get_or p.functions n function →
        take (n + 1) (rows_of p (map f all)) ≡ take n (rows_of p (map f all)) ++ row_of function (f a) ∷ []
    rows_more p function h first = row_in p (map f all) n function (f a) h below first answer_at

  pub rows_all : (p : ProgramTree) (n : ℕ) → n ≡ min (length p.functions) (length all) → take n (rows_of p (map f all)) ≡ rows_of p (map f all)
  rows_all p n h = take_all n (rows_of p (map f all)) (omega (arith, h, long p (map f all), length-map all f))
