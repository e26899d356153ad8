-- Declarations cut into scopes.
use Rattle.std.proofs.Common.{◌≡◌, ℕ, zero, suc, ◌+◌, ◌≤◌, Bool, true, false, cond, List, [], ◌∷◌, ◌++◌, length, reverse, take, drop, Option, None, Some, is_some, refl, sym, ap, subst, ◌∙◌, add-one, arith}
use Rattle.std.specs.Map.{lookup}
use Rattle.std.specs.Option.{MatchOption, option_or, option_to_list, unwrap_or}
use Rattle.std.proofs.lemmas.List.{reverse-append, drop_all}
use Rattle.c_check_scope.specs.Scopes.{Name, Scope, same_name, meaning, is_declared, with_declaration, outer}
use Rattle.c_check_scope.specs.ScopeLaws.{DeclarationDecides, DeclarationIsInner}
use Rattle.c_check_scope.specs.Nested.{scopes_of, AreCounted}

module _ {T : Type 0} where
  pub few : (ds : Scope T) (count : ℕ) (more : List ℕ) → AreCounted ds count more → count ≤ length ds
  few ds count [] h = omega (arith, h)
  few ds count (n ∷ more) h = h.0

  -- ---- look-ups

  or-cond : (b : Bool) (t : T) (x y : Option T) → option_or (cond b (Some t) x) y ≡ cond b (Some t) (option_or x y)
  or-cond true t x y = refl
  or-cond false t x y = refl

  lookup-cut : (test : Name → Bool) (ds : Scope T) (count : ℕ) → option_or (lookup test (take count ds)) (lookup test (drop count ds)) ≡ lookup test ds
  lookup-cut test ds zero = refl
  lookup-cut test [] (suc count) = refl
  lookup-cut test (d ∷ ds) (suc count) =
      or-cond (test d.0) d.1 (lookup test (take count ds)) (lookup test (drop count ds)) ∙ ap (cond (test d.0) (Some d.1)) (lookup-cut test ds count)

  lookup-rest : (test : Name → Bool) (ds : Scope T) (count : ℕ) → length ds ≡ count → option_or (lookup test (take count ds)) None ≡ lookup test ds
  lookup-rest test ds zero h = by ds h where
    by : (ds : Scope T) → length ds ≡ zero → option_or (lookup test (take zero ds)) None ≡ lookup test ds
    by [] h = refl
    by (d ∷ ds) h = absurd (omega (arith, h))
  lookup-rest test [] (suc count) h = refl
  lookup-rest test (d ∷ ds) (suc count) h =
      or-cond (test d.0) d.1 (lookup test (take count ds)) None ∙ ap (cond (test d.0) (Some d.1)) (lookup-rest test ds count (omega (arith, h)))

  -- a name means what the latest declaration of it says
  pub meaning-latest : (ds : Scope T) (count : ℕ) (more : List ℕ) (name : Name) → AreCounted ds count more → lookup (same_name name) ds ≡ meaning (scopes_of ds count more) name
  meaning-latest ds count [] name h = sym (lookup-rest (same_name name) ds count h)
  meaning-latest ds count (n ∷ more) name h =
      let test = same_name name in
      sym (lookup-cut test ds count) ∙ ap (option_or (lookup test (take count ds))) (meaning-latest (drop count ds) n more name h.1)

  pub innermost : (ds : Scope T) (count : ℕ) (more : List ℕ) (name : Name) → is_some (lookup (same_name name) (take count ds)) ≡ is_declared (scopes_of ds count more) name
  innermost ds count [] name = refl
  innermost ds count (n ∷ more) name = refl

  -- ---- laws

  pub declaration-decides : DeclarationDecides T
  declaration-decides [] name other t = or-cond (same_name other name) t None None ∙ ap (cond (same_name other name) (Some t)) refl
  declaration-decides (s ∷ rest) name other t = or-cond (same_name other name) t (lookup (same_name other) s) (meaning rest other)

  pub declaration-is-inner : DeclarationIsInner T
  declaration-is-inner [] name t = refl
  declaration-is-inner (s ∷ []) name t = refl
  declaration-is-inner (s ∷ r ∷ rest) name t = refl

  -- ---- one declaration more

  counted-suc : (ds : Scope T) (count : ℕ) (more : List ℕ) (d : Name × T) → AreCounted ds count more → AreCounted (d ∷ ds) (suc count) more
  counted-suc ds count [] d h = ap suc h
  counted-suc ds count (n ∷ more) d h = (omega (arith, h.0), h.1)

  pub counted-more : (ds : Scope T) (count : ℕ) (more : List ℕ) (d : Name × T) → AreCounted ds count more → AreCounted (d ∷ ds) (count + 1) more
  counted-more ds count more d h = subst (λ n. AreCounted (d ∷ ds) n more) (sym (add-one count)) (counted-suc ds count more d h)

  scopes-suc : (ds : Scope T) (count : ℕ) (more : List ℕ) (name : Name) (t : T) → scopes_of ((name, t) ∷ ds) (suc count) more ≡ with_declaration (scopes_of ds count more) name t
  scopes-suc ds count [] name t = refl
  scopes-suc ds count (n ∷ more) name t = refl

  pub scopes-more : (ds : Scope T) (count : ℕ) (more : List ℕ) (name : Name) (t : T) → scopes_of ((name, t) ∷ ds) (count + 1) more ≡ with_declaration (scopes_of ds count more) name t
  scopes-more ds count more name t = ap (λ n. scopes_of ((name, t) ∷ ds) n more) (add-one count) ∙ scopes-suc ds count more name t

  -- ---- the innermost scope ends

  pub outer-is : (ds : Scope T) (count n : ℕ) (more : List ℕ) → outer (scopes_of ds count (n ∷ more)) ≡ scopes_of (drop count ds) n more
  outer-is ds count n [] = refl
  outer-is ds count n (m ∷ more) = refl

  module _ (ds rest : Scope T) (count n : ℕ) (old new : List ℕ) (r : Option ℕ) (left : rest ≡ drop count ds) (around : old ≡ new ++ option_to_list r) (next : n ≡ unwrap_or r 0)
      (none : r ≡ None → new ≡ []) where
    pub counted-less : AreCounted ds count (reverse old) → AreCounted rest n (reverse new)
    counted-less h =
        subst (λ n. AreCounted rest n (reverse new)) (sym next) (subst (λ ds. AreCounted ds (unwrap_or r 0) (reverse new)) (sym left)
        (by r none (subst (λ ns. AreCounted ds count (reverse ns)) around h))) where
          by : (r : Option ℕ) → (r ≡ None → new ≡ []) → AreCounted ds count (reverse (new ++ option_to_list r)) → AreCounted (drop count ds) (unwrap_or r 0) (reverse new)
          by None none h =
              let empty = none refl in
              let counted : AreCounted ds count [] = subst (λ xs. AreCounted ds count (reverse (xs ++ []))) empty h in
              subst (λ xs. AreCounted (drop count ds) 0 (reverse xs)) (sym empty) (ap length (drop_all count ds (omega (arith, counted))))
          by (Some n) none h = (subst (AreCounted ds count) (reverse-append new (n ∷ [])) h).1

    pub scopes-less : scopes_of rest n (reverse new) ≡ outer (scopes_of ds count (reverse old))
    scopes-less =
        ap (λ ds. scopes_of ds n (reverse new)) left ∙ ap (λ n. scopes_of (drop count ds) n (reverse new)) next
        ∙ by r none ∙ ap (λ ns. outer (scopes_of ds count (reverse ns))) (sym around) where
          by : (r : Option ℕ) → (r ≡ None → new ≡ []) → scopes_of (drop count ds) (unwrap_or r 0) (reverse new) ≡ outer (scopes_of ds count (reverse (new ++ option_to_list r)))
          by None none =
              let empty = none refl in
              ap (λ xs. scopes_of (drop count ds) 0 (reverse xs)) empty ∙ sym (ap (λ xs. outer (scopes_of ds count (reverse (xs ++ [])))) empty)
          by (Some n) none = sym (ap (λ more. outer (scopes_of ds count more)) (reverse-append new (n ∷ [])) ∙ outer-is ds count n (reverse new))

pub no-elements : {X : Type 0} (xs : List X) → length xs ≡ 0 → xs ≡ []
no-elements [] h = refl
no-elements (x ∷ xs) h = absurd (omega (arith, h))

pub if-none : (A B : Type 0) (C : ℕ → Type 0) (r : Option ℕ) → MatchOption r (A × B) C → r ≡ None → B
if-none A B C None h is = h.1
if-none A B C (Some n) h is = cc
