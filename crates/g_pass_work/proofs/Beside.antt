-- Answers put beside each other, one more at a time.
use Rattle.std.proofs.Common.{◌≡◌, ◌<◌, ◌≤◌, ◌+◌, ◌++◌, ℕ, zero, suc, Bool, true, false, cond, List, [], ◌∷◌, length, map, drop, Option, None, Some, slice_get, get_or, refl, sym, ap, ◌∙◌, append_assoc, append-nil}
use Rattle.std.specs.Prelude.{option_map}
use Rattle.std.specs.List.{cons_option}
use Rattle.std.proofs.lemmas.List.{drop-drop, map-append}
use Rattle.std.proofs.lemmas.Option.{slice_get-map, slice_get_past, slice_get_read}
use Rattle.g_pass_work.specs.Renewal.{is_stale, merged}

module _ {A M : Type 0} (value : A → M) (from old : List A) (i : ℕ) where
  pub one-added : (new : List A) (x y : A) → x ≡ get_or from i x → i < length from → value y ≡ value x → new ≡ old ++ y ∷ [] →
      map value new ≡ map value old ++ cons_option (slice_get (map value from) i) []
  one-added new x y is inside same more =
      ap (map value) more
      ∙ (map-append value old (y ∷ [])
      ∙ (ap (λ v. map value old ++ v ∷ []) same
      ∙ ap (λ o. map value old ++ cons_option o []) (sym (slice_get-map value from i ∙ ap (option_map value) (slice_get_read from (length from) i x refl inside is)))))

  pub none-added : length from ≤ i → map value old ≡ map value old ++ cons_option (slice_get (map value from) i) []
  none-added past =
      sym (append-nil (map value old)) ∙ ap (λ o. map value old ++ cons_option o []) (sym (slice_get-map value from i ∙ ap (option_map value) (slice_get_past from i past)))

module _ {M : Type 0} where
  get-drop : (n : ℕ) (xs : List M) → slice_get (drop n xs) 0 ≡ slice_get xs n
  get-drop zero [] = refl
  get-drop zero (x ∷ xs) = refl
  get-drop (suc n) [] = refl
  get-drop (suc n) (x ∷ xs) = get-drop n xs

  joined : (old rest : List M) (o : Option M) → (old ++ cons_option o []) ++ rest ≡ old ++ cons_option o rest
  joined old rest None = append_assoc old [] rest
  joined old rest (Some x) = append_assoc old (x ∷ []) rest

  module _ (stale : List Bool) (kept given old new : List M) (j : ℕ) (js : List ℕ) (taken : ℕ) where
    pub one-taken : is_stale stale j ≡ true → new ≡ old ++ cons_option (slice_get given taken) [] →
        new ++ merged stale kept js (drop (taken + 1) given) ≡ old ++ merged stale kept (j ∷ js) (drop taken given)
    one-taken is more =
        let rest = drop taken given in
        let after = drop-drop 1 taken given in
        ap (λ xs. xs ++ merged stale kept js (drop (taken + 1) given)) more
        ∙ (joined old (merged stale kept js (drop (taken + 1) given)) (slice_get given taken)
        ∙ (ap (λ xs. old ++ cons_option (slice_get given taken) (merged stale kept js xs)) (sym after)
        ∙ (ap (λ o. old ++ cons_option o (merged stale kept js (drop 1 rest))) (sym (get-drop taken given))
        ∙ ap (λ b. old ++ cond b (cons_option (slice_get rest 0) (merged stale kept js (drop 1 rest))) (cons_option (slice_get kept j) (merged stale kept js rest))) (sym is))))

    pub one-kept : is_stale stale j ≡ false → new ≡ old ++ cons_option (slice_get kept j) [] →
        new ++ merged stale kept js (drop taken given) ≡ old ++ merged stale kept (j ∷ js) (drop taken given)
    one-kept is more =
        let rest = drop taken given in
        ap (λ xs. xs ++ merged stale kept js rest) more
        ∙ (joined old (merged stale kept js rest) (slice_get kept j)
        ∙ ap (λ b. old ++ cond b (cons_option (slice_get rest 0) (merged stale kept js (drop 1 rest))) (cons_option (slice_get kept j) (merged stale kept js rest))) (sym is))
