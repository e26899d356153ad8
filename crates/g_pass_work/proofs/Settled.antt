-- How it gets known which functions are stale.
use Rattle.std.proofs.Common.{◌≡◌, ◌<◌, ℕ, Bool, true, false, List, [], length, slice_index_or, slice_set, Contains, refl, sym, ap, subst, ◌∙◌, inl, inr, get_or-set_other, get_or-set_same}
use Rattle.std.specs.Prelude.{◌↔◌, not}
use Rattle.std.proofs.lemmas.Bool.{cases_eq}
use Rattle.call_order.specs.Units.{Reaches}
use Rattle.g_pass_work.specs.Ranks.{IsSettled}
use Rattle.g_pass_work.proofs.Unstale.{at-deps, from-deps}

module _ (deps : List (List ℕ)) (changed : List Bool) where
  -- nothing to which the function leads has changed
  abbrev pub AllSame : ℕ → Type 0
  AllSame j = (k : ℕ) → Reaches deps j k → slice_index_or changed k true ≡ false

  pub settled-here : (stale : List Bool) (f : ℕ) (v : Bool) → f < length stale → (v ≡ false) ↔ AllSame f → IsSettled deps changed (slice_set stale f v) f
  settled-here stale f v inside right = subst (λ b. (b ≡ false) ↔ AllSame f) (sym (get_or-set_same stale f v true inside)) right

  pub settled-still : (stale : List Bool) (f : ℕ) (v : Bool) → f < length stale → (v ≡ false) ↔ AllSame f → (j : ℕ) → IsSettled deps changed stale j →
      IsSettled deps changed (slice_set stale f v) j
  settled-still stale f v inside right j was =
      elim (cases_eq j f) [
        | inl same ↦ subst (λ i. IsSettled deps changed (slice_set stale f v) i) (sym same) (settled-here stale f v inside right)
        | inr apart ↦ subst (λ b. (b ≡ false) ↔ AllSame j) (sym (get_or-set_other stale f j v true apart)) was
      ]

  not-false : (b : Bool) → not b ≡ false → b ≡ true
  not-false true e = refl
  not-false false e = absurd cc

  -- what a function is, by what it was and by its deps
  pub right-value : (stale : List Bool) (f : ℕ) (is_kept : Bool) → ((d : ℕ) → Contains (slice_index_or deps f []) d → IsSettled deps changed stale d) →
      (is_kept ≡ true) ↔ ((slice_index_or changed f true ≡ false) × ((d : ℕ) → Contains (slice_index_or deps f []) d → slice_index_or stale d true ≡ false)) →
      (not is_kept ≡ false) ↔ AllSame f
  right-value stale f is_kept settled test =
      let P : ℕ → Type 0 = λ k. slice_index_or changed k true ≡ false in (
        λ e. let parts = test.0 (not-false is_kept e) in from-deps P deps f parts.0 (λ d called. (settled d called).0 (parts.1 d called)),
        λ all. let parts = at-deps P deps f all in ap not (test.1 (parts.0, λ d called. (settled d called).1 (parts.1 d called))),
      )

  -- past the end nothing is settled otherwise than by the default
  pub settled-past : (stale : List Bool) (j : ℕ) → slice_index_or stale j true ≡ true → slice_index_or changed j true ≡ true → IsSettled deps changed stale j
  settled-past stale j is was =
      (λ e. let clash : true ≡ false = sym is ∙ e in absurd cc, λ all. let clash : true ≡ false = sym was ∙ all j ([], refl) in absurd cc)
