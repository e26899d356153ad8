-- The laws of events.
use Rattle.std.proofs.Common.{◌≡◌, ℕ, ◌+◌, ◌≤◌, max, List, [], ◌∷◌, ◌++◌, refl, sym, ap, ◌∙◌, arith, append_assoc}
use Rattle.std.proofs.lemmas.List.Sums.{sum_by-cons}
use Rattle.val_core.specs.Events.{Event, wrote, took, met, output, deepest, beneath, called, IsPrefixOf}
use Rattle.val_core.specs.AnswerLaws.{OutputAppends, DeepestAppends, BeneathAppends, CalledKeepsOutput, CalledDeepens, PrefixesCompose}

pub output_appends : OutputAppends
output_appends [] p = refl
output_appends (wrote b ∷ o) p = ap (λ r. b ∷ r) (output_appends o p)
output_appends (took b ∷ o) p = output_appends o p
output_appends (met s ∷ o) p = output_appends o p

pub deepest_appends : DeepestAppends
deepest_appends sizes [] p = omega arith
deepest_appends sizes (wrote b ∷ o) p = deepest_appends sizes o p
deepest_appends sizes (took b ∷ o) p = deepest_appends sizes o p
deepest_appends sizes (met s ∷ o) p = let h = deepest_appends sizes o p in omega (arith, h)

pub beneath_appends : BeneathAppends
beneath_appends f [] p = refl
beneath_appends f (wrote b ∷ o) p = ap (λ r. wrote b ∷ r) (beneath_appends f o p)
beneath_appends f (took b ∷ o) p = ap (λ r. took b ∷ r) (beneath_appends f o p)
beneath_appends f (met s ∷ o) p = ap (λ r. met (f ∷ s) ∷ r) (beneath_appends f o p)

beneath-output : (f : ℕ) (o : List Event) → output (beneath f o) ≡ output o
beneath-output f [] = refl
beneath-output f (wrote b ∷ o) = ap (λ r. b ∷ r) (beneath-output f o)
beneath-output f (took b ∷ o) = beneath-output f o
beneath-output f (met s ∷ o) = beneath-output f o

pub called_keeps_output : CalledKeepsOutput
called_keeps_output f o = beneath-output f o

beneath-deepest : (sizes : ℕ → ℕ) (f : ℕ) (o : List Event) → max (sizes f) (deepest sizes (beneath f o)) ≡ sizes f + deepest sizes o
beneath-deepest sizes f [] = omega arith
beneath-deepest sizes f (wrote b ∷ o) = beneath-deepest sizes f o
beneath-deepest sizes f (took b ∷ o) = beneath-deepest sizes f o
beneath-deepest sizes f (met s ∷ o) = let h = beneath-deepest sizes f o in let e = sum_by-cons sizes f s in omega (arith, h, e)

pub called_deepens : CalledDeepens
called_deepens sizes f o = let h = beneath-deepest sizes f o in let e = sum_by-cons sizes f [] in omega (arith, h, e)

-- ---- prefixes

pub prefix-self : {A : Type 0} (xs : List A) → IsPrefixOf xs xs
prefix-self xs = ([], append-nothing xs) where
  append-nothing : {A : Type 0} (ys : List A) → ys ++ [] ≡ ys
  append-nothing [] = refl
  append-nothing (y ∷ ys) = ap (λ r. y ∷ r) (append-nothing ys)

pub prefixes_compose : {A : Type 0} → PrefixesCompose A
prefixes_compose xs ys zs (p, e) (q, d) = (p ++ q, sym (append_assoc xs p q) ∙ ap (λ l. l ++ q) e ∙ d)

pub prefix-more : {A : Type 0} (xs ys rest : List A) → IsPrefixOf xs ys → IsPrefixOf xs (ys ++ rest)
prefix-more xs ys rest (p, e) = (p ++ rest, sym (append_assoc xs p rest) ∙ ap (λ l. l ++ rest) e)

pub prefix-after : {A : Type 0} (os xs ys : List A) → IsPrefixOf xs ys → IsPrefixOf (os ++ xs) (os ++ ys)
prefix-after os xs ys (p, e) = (p, append_assoc os xs p ∙ ap (λ l. os ++ l) e)

pub prefix-output : (o p : List Event) → IsPrefixOf o p → IsPrefixOf (output o) (output p)
prefix-output o p (r, e) = (output r, sym (output_appends o r) ∙ ap output e)

pub prefix-deepest : (sizes : ℕ → ℕ) (o p : List Event) → IsPrefixOf o p → deepest sizes o ≤ deepest sizes p
prefix-deepest sizes o p (r, e) = let h = deepest_appends sizes o r in let d : deepest sizes (o ++ r) ≡ deepest sizes p = ap (deepest sizes) e in omega (arith, h, d)

pub prefix-called : (f : ℕ) (o p : List Event) → IsPrefixOf o p → IsPrefixOf (called f o) (called f p)
prefix-called f o p (r, e) = (beneath f r, ap (λ l. met (f ∷ []) ∷ l) (sym (beneath_appends f o r) ∙ ap (beneath f) e))
