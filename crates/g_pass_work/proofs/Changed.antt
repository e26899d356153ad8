-- Lists of functions that have changed, one more at a time.
use Rattle.std.proofs.Common.{◌≡◌, ◌<◌, ◌+◌, ◌++◌, ℕ, Bool, true, false, Some, List, [], ◌∷◌, Vec, Global, length, slice_get, slice_index_or, refl, sym, ap, subst, ◌∙◌, inl, inr, arith}
use Rattle.std.specs.Prelude.{◌↔◌, not, option_map, IsTrue}
use Rattle.std.proofs.lemmas.Bool.{cases_eq}
use Rattle.std.proofs.lemmas.List.{get_or_append_left}
use Rattle.std.proofs.Math.Seq.{get_or-append_seam}
use Rattle.std.proofs.lemmas.Option.{same_Some, slice_get_read, slice_get-map}
use Rattle.call_order.specs.Units.{call_lists}
use Rattle.g_graph.specs.Plain.{PlainLambda}
use Rattle.g_pass_work.specs.Stale.{IsUnchanged}

turned : (b : Bool) (P : Type 0) → IsTrue b ↔ P → (not b ≡ false) ↔ P
turned true P test = (λ e. test.0 refl, λ h. refl)
turned false P test = (λ e. absurd cc, λ h. let clash : false ≡ true = test.1 h in absurd cc)

pub one-more : (P : ℕ → Type 0) (bs : List Bool) (n : ℕ) (b : Bool) → length bs ≡ n → ((j : ℕ) → j < n → (slice_index_or bs j true ≡ false) ↔ P j) → IsTrue b ↔ P n →
    (j : ℕ) → j < n + 1 → (slice_index_or (bs ++ not b ∷ []) j true ≡ false) ↔ P j
one-more P bs n b long before test j low =
    elim (cases_eq j n) [
      | inl same ↦
          let at : slice_index_or (bs ++ not b ∷ []) j true ≡ not b =
          ap (λ i. slice_index_or (bs ++ not b ∷ []) i true) (same ∙ sym long) ∙ get_or-append_seam bs (not b) [] true in
          subst (λ i. (slice_index_or (bs ++ not b ∷ []) j true ≡ false) ↔ P i) (sym same) (subst (λ v. (v ≡ false) ↔ P n) (sym at) (turned b (P n) test))
      | inr apart ↦
          let at : slice_index_or (bs ++ not b ∷ []) j true ≡ slice_index_or bs j true = get_or_append_left bs (not b ∷ []) true j (omega (arith, low, apart, long)) in
          subst (λ v. (v ≡ false) ↔ P j) (sym at) (before j (omega (arith, low, apart)))
    ]

-- the lists of deps of a function, which are compared
deps-there : (deps : List (Vec ℕ Global)) (j : ℕ) (x : Vec ℕ Global) → j < length deps → x ≡ slice_index_or deps j x → slice_get (call_lists deps) j ≡ Some x.items
deps-there deps j x inside is =
    let items : Vec ℕ Global → List ℕ = λ v. v.items in
    slice_get-map items deps j ∙ ap (option_map items) (slice_get_read deps (length deps) j x refl inside is)

pub test-is : (old new : List PlainLambda) (old_deps deps : List (Vec ℕ Global)) (j : ℕ) (a b : PlainLambda) (x y : Vec ℕ Global) (r : Bool) → j < length old → j < length new →
    j < length old_deps → j < length deps → a ≡ slice_index_or old j a → b ≡ slice_index_or new j b → a ≡ b → x ≡ slice_index_or deps j x → y ≡ slice_index_or old_deps j y →
    (r ≡ true → x.items ≡ y.items) × (x.items ≡ y.items → r ≡ true) → IsTrue r ↔ IsUnchanged old (call_lists old_deps) new (call_lists deps) j
test-is old new old_deps deps j a b x y r in_old in_new in_old_deps in_deps a-is b-is same x-is y-is test =
    let now = deps-there deps j x in_deps x-is in
    let before = deps-there old_deps j y in_old_deps y-is in
    let lambda = slice_get_read old (length old) j a refl in_old a-is ∙ (ap (λ (l : PlainLambda). Some l) same ∙ sym (slice_get_read new (length new) j b refl in_new b-is)) in (
      λ e. record { inside = in_new; lambda = lambda; deps_are = before ∙ (ap (λ (ds : List ℕ). Some ds) (sym (test.0 e)) ∙ sym now) },
      λ h. test.1 (sym (same_Some y.items x.items (sym before ∙ (h.deps_are ∙ now)))),
    )
