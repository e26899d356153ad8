-- The first callee of each number, found from behind; that all are well formed; and that an index gives its callee.
use Rattle.std.specs.Prelude.{◌+◌, cond, drop, slice_get, option_map}
use Rattle.std.specs.BTreeMap.{is_at}
use Rattle.std.specs.Cmp.{unsigned_tied}
use Rattle.std.specs.List.{AllByRecursion}
use Rattle.std.specs.Ordering.{nat_cmp}
use Rattle.std.proofs.Common.{◌≡◌, ◌<◌, ℕ, zero, suc, ◌==◌, Bool, true, false, List, [], ◌∷◌, map, length, get_or, Option, Some, None, refl, sym, ap, subst, ◌∙◌, arith}
use Rattle.std.proofs.lemmas.Option.{slice_get-map, slice_get_read}
use Rattle.g_graph.specs.Plain.{PlainLambda}
use Rattle.r_rule.specs.Optimised.{PlainOptimised}
use Rattle.g_graph.specs.WellFormed.{IsWellFormed}
use Rattle.r_inline.specs.Callees.{numbered}
use Rattle.r_inline.specs.AskedAt.{lambdas_in, callee_at}

-- a lambda, if there is one, before others
and_more : Option PlainLambda → List PlainLambda → List PlainLambda
and_more None ls = ls
and_more (Some c) ls = c ∷ ls

module _ {A : Type 0} (h : A → PlainOptimised) where
  pub lambda_at : (xs : List A) (i : ℕ) → slice_get (lambdas_in (map h xs)) i ≡ option_map (λ x. (h x).lambda) (slice_get xs i)
  lambda_at xs i =
      slice_get-map (λ (o : PlainOptimised). o.lambda) (map h xs) i
      ∙ ap (option_map (λ (o : PlainOptimised). o.lambda)) (slice_get-map h xs i)
      ∙ by (slice_get xs i)
    where
      by : (o : Option A) → option_map (λ (o : PlainOptimised). o.lambda) (option_map h o) ≡ option_map (λ x. (h x).lambda) o
      by None = refl
      by (Some x) = refl

  pub lambda_is : (xs : List A) (i : ℕ) (x : A) → x ≡ get_or xs i x → i < length xs → Some (h x).lambda ≡ slice_get (lambdas_in (map h xs)) i
  lambda_is xs i x is within = sym (lambda_at xs i ∙ ap (option_map (λ y. (h y).lambda)) (slice_get_read xs (length xs) i x refl within is))

  -- those from an index on
  from : List A → (i : ℕ) → List PlainLambda
  from xs i = lambdas_in (map h (drop i xs))

  one_more : (xs : List A) (i : ℕ) → from xs i ≡ and_more (slice_get (lambdas_in (map h xs)) i) (from xs (suc i))
  unfolding from and_more
  one_more [] zero = refl
  one_more [] (suc i) = refl
  one_more (x ∷ xs) zero = refl
  one_more (x ∷ xs) (suc i) = one_more xs i

  module _ (xs : List A) (i : ℕ) where
    next : suc i ≡ i + 1
    next = omega arith

    rest_is : and_more (slice_get (lambdas_in (map h xs)) i) (from xs (i + 1)) ≡ from xs i
    rest_is = ap (λ j. and_more (slice_get (lambdas_in (map h xs)) i) (from xs j)) (sym next) ∙ sym (one_more xs i)

    more_is : (c : PlainLambda) → Some c ≡ slice_get (lambdas_in (map h xs)) i → c ∷ lambdas_in (map h (drop (i + 1) xs)) ≡ lambdas_in (map h (drop i xs))
    unfolding from and_more
    more_is c e = ap (λ o. and_more o (from xs (i + 1))) e ∙ rest_is

    -- one callee more in front, and none
    pub found_more : (c : PlainLambda) (f : ℕ) (o : Option ℕ) → Some c ≡ slice_get (lambdas_in (map h xs)) i →
        callee_at (lambdas_in (map h xs)) o ≡ numbered f (lambdas_in (map h (drop (i + 1) xs))) →
        callee_at (lambdas_in (map h xs)) (cond (is_at (nat_cmp c.number) f) (Some i) o) ≡ numbered f (lambdas_in (map h (drop i xs)))
    found_more c f o e known =
        ap (λ t. callee_at (lambdas_in (map h xs)) (cond t (Some i) o)) (unsigned_tied c.number f)
        ∙ by (c.number == f)
        ∙ ap (numbered f) (more_is c e)
      where
        by : (t : Bool) → callee_at (lambdas_in (map h xs)) (cond t (Some i) o) ≡ cond t (Some c) (numbered f (lambdas_in (map h (drop (i + 1) xs))))
        by true = sym e
        by false = known

    pub well_more : (c : PlainLambda) → Some c ≡ slice_get (lambdas_in (map h xs)) i → IsWellFormed c →
        AllByRecursion IsWellFormed (lambdas_in (map h (drop (i + 1) xs))) → AllByRecursion IsWellFormed (lambdas_in (map h (drop i xs)))
    well_more c e one rest = subst (AllByRecursion IsWellFormed) (more_is c e) (one, rest)

    pub no_more : None ≡ slice_get (lambdas_in (map h xs)) i → lambdas_in (map h (drop (i + 1) xs)) ≡ lambdas_in (map h (drop i xs))
    unfolding from and_more
    no_more e = ap (λ o. and_more o (from xs (i + 1))) e ∙ rest_is
