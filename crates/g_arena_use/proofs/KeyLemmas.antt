-- Keys as they are stored and as they are seen.
use Rattle.std.proofs.Common.{◌≡◌, ℕ, Bool, true, false, cond, Some, None, List, [], ◌∷◌, ◌++◌, refl, ap, sym, ◌∙◌}
use Rattle.std.specs.Map.{lookup}
use Rattle.indexmap.specs.IndexMap.{insert_entry}
use Rattle.g_arena_use.specs.declared.keys.Key.{Key}
use Rattle.g_arena_use.specs.Kept.{is_for, kept, or_else, kept_or, with_new, with_kept}
use Rattle.g_arena_use.specs.KeptKeys.{key_seen, keys_seen}

some_first : {A : Type 0} (x : A) → Some x ≡ None → ⊥
some_first x h = cc

module _ (eq : Key → Key → Bool) (same : (j k : Key) (n : ℕ) → eq j k ≡ is_for j.home j.op j.inputs.items (key_seen (k, n))) where
  pub lookup_is : (j : Key) (es : List (Key × ℕ)) → lookup (eq j) es ≡ kept j.home j.op j.inputs.items (keys_seen es)
  lookup_is j [] = refl
  lookup_is j (e ∷ es) = let h = same j e.0 e.1 in let r = lookup_is j es in λ i. cond (h i) (Some e.1) (r i)

  pub insert_is : (j : Key) (n : ℕ) (es : List (Key × ℕ)) → lookup (eq j) es ≡ None → keys_seen (insert_entry eq es j n) ≡ keys_seen es ++ key_seen (j, n) ∷ []
  insert_is j n [] h = refl
  insert_is j n (e ∷ es) h = by_test (eq j e.0) (λ g. insert_is j n es g) h
    where
      by_test : (t : Bool) → (lookup (eq j) es ≡ None → keys_seen (insert_entry eq es j n) ≡ keys_seen es ++ key_seen (j, n) ∷ []) → cond t (Some e.1) (lookup (eq j) es) ≡ None
          → keys_seen (cond t ((e.0, n) ∷ es) (e ∷ insert_entry eq es j n)) ≡ key_seen e ∷ (keys_seen es ++ key_seen (j, n) ∷ [])
      by_test true ih h = absurd (some_first e.1 h)
      by_test false ih h = ap (λ ks. key_seen e ∷ ks) (ih h)

  -- what is kept, and what is kept from then on
  pub kept_is : (j : Key) (n m : ℕ) (es : List (Key × ℕ)) → Some m ≡ lookup (eq j) es → m ≡ kept_or j.home j.op j.inputs.items n (keys_seen es)
  kept_is j n m es h = ap (λ o. or_else o n) (h ∙ lookup_is j es)

  pub same_is : (j : Key) (n m : ℕ) (es : List (Key × ℕ)) → Some m ≡ lookup (eq j) es → keys_seen es ≡ with_kept j.home j.op j.inputs.items n (keys_seen es)
  same_is j n m es h = ap (λ o. with_new o (record { home = j.home; op = j.op; inputs = j.inputs.items; node = n }) (keys_seen es)) (h ∙ lookup_is j es)

  pub new_is : (j : Key) (n : ℕ) (es : List (Key × ℕ)) → None ≡ lookup (eq j) es → n ≡ kept_or j.home j.op j.inputs.items n (keys_seen es)
  new_is j n es h = ap (λ o. or_else o n) (h ∙ lookup_is j es)

  pub more_is : (j : Key) (n : ℕ) (es es' : List (Key × ℕ)) → None ≡ lookup (eq j) es → es' ≡ insert_entry eq es j n → keys_seen es' ≡ with_kept j.home j.op j.inputs.items n (keys_seen es)
  more_is j n es es' h e =
      ap keys_seen e ∙ insert_is j n es (sym h)
      ∙ ap (λ o. with_new o (record { home = j.home; op = j.op; inputs = j.inputs.items; node = n }) (keys_seen es)) (h ∙ lookup_is j es)
