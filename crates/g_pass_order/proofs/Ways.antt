-- A test whether calls lead from one function to another: by way of ever more functions.
use Rattle.std.proofs.Common.{◌≡◌, ℕ, zero, suc, ◌<◌, ◌⊎◌, Bool, true, List, [], ◌∷◌, ◌++◌, length, slice_index_or, refl, sym, subst, inl, inr, arith}
use Rattle.std.specs.Prelude.{◌==◌, ◌&&◌, ◌||◌}
use Rattle.std.specs.Bool.{Decides}
use Rattle.std.specs.List.{list_any}
use Rattle.std.proofs.lemmas.Bool.{and_from, and_parts, cases_eq, or_cases, or_left, or_right}
use Rattle.std.proofs.lemmas.Bool.Decides.{Decides-and, Decides-by_or, Decides-eqb}
use Rattle.std.proofs.lemmas.List.Elements.{Decides-contains}
use Rattle.call_order.specs.Units.{Calls, AllKnown, IsPath, Reaches, IsMutual}

-- ---- paths

path-append : (calls : List (List ℕ)) (path : List ℕ) (j k m : ℕ) (rest : List ℕ) → IsPath calls j path k → IsPath calls k rest m → IsPath calls j (path ++ rest) m
path-append calls [] j k m rest same on = subst (λ x. IsPath calls x rest m) (sym same) on
path-append calls (next ∷ path) j k m rest there on = (there.0, path-append calls path next k m rest there.1 on)

pub reaches-trans : (calls : List (List ℕ)) (j k m : ℕ) → Reaches calls j k → Reaches calls k m → Reaches calls j m
reaches-trans calls j k m there on = (there.0 ++ on.0, path-append calls there.0 j k m on.0 there.1 on.1)

-- ---- tests

module _ (calls : List (List ℕ)) where
  abbrev pub calls_at : ℕ → ℕ → Bool
  calls_at j k = list_any (λ x. x == k) (slice_index_or calls j [])

  pub calls-decided : (j k : ℕ) → Decides (calls_at j k) (Calls calls j k)
  calls-decided j k =
      let called = slice_index_or calls j [] in
      Decides-contains called k (calls_at j k) (Decides-by_or (λ x. x == k) (λ x. x ≡ k) (list_any (λ x. x == k)) (λ x. Decides-eqb x k) refl (λ x xs. refl) called)

  -- whether calls lead from j to k by way of functions below m
  abbrev pub leads : (m j k : ℕ) → Bool
  leads zero j k = (j == k) || calls_at j k
  leads (suc m) j k = leads m j k || (leads m j m && leads m m k)

  leads-truly : (m j k : ℕ) → leads m j k ≡ true → Reaches calls j k
  leads-truly zero j k h =
      elim (or_cases (j == k) (calls_at j k) h) [
        | inl same ↦ ([], (Decides-eqb j k).0 same)
        | inr called ↦ (k ∷ [], ((calls-decided j k).0 called, refl))
      ]
  leads-truly (suc m) j k h =
      elim (or_cases (leads m j k) (leads m j m && leads m m k) h) [
        | inl low ↦ leads-truly m j k low
        | inr both ↦
            let parts = and_parts (leads m j m) (leads m m k) both in
            reaches-trans calls j m k (leads-truly m j m parts.0) (leads-truly m m k parts.1)
      ]

  more : (m j k : ℕ) → leads m j k ≡ true → leads (suc m) j k ≡ true
  more m j k h = or_left (leads m j k) (leads m j m && leads m m k) h

  through : (m j k : ℕ) → leads m j m ≡ true → leads m m k ≡ true → leads (suc m) j k ≡ true
  through m j k there on = or_right (leads m j k) (leads m j m && leads m m k) (and_from (leads m j m) (leads m m k) there on)

  pub leads-itself : (m j : ℕ) → leads m j j ≡ true
  leads-itself zero j = or_left (j == j) (calls_at j j) ((Decides-eqb j j).1 refl)
  leads-itself (suc m) j = more m j j (leads-itself m j)

  leads-called : (m j k : ℕ) → Calls calls j k → leads m j k ≡ true
  leads-called zero j k h = or_right (j == k) (calls_at j k) ((calls-decided j k).1 h)
  leads-called (suc m) j k h = more m j k (leads-called m j k h)

  -- what leads to m by way of m does so without
  to-last : (m j : ℕ) → leads (suc m) j m ≡ true → leads m j m ≡ true
  to-last m j h = elim (or_cases (leads m j m) (leads m j m && leads m m m) h) [ inl low ↦ low | inr both ↦ (and_parts (leads m j m) (leads m m m) both).0 ]

  from-last : (m k : ℕ) → leads (suc m) m k ≡ true → leads m m k ≡ true
  from-last m k h = elim (or_cases (leads m m k) (leads m m m && leads m m k) h) [ inl low ↦ low | inr both ↦ (and_parts (leads m m m) (leads m m k) both).1 ]

  -- ways to and from a function below m are one way
  abbrev Joins : (m : ℕ) → Type 0
  Joins m = (j i k : ℕ) → i < m → leads m j i ≡ true → leads m i k ≡ true → leads m j k ≡ true

  joins-below : (m : ℕ) → Joins m → (j i k : ℕ) → i < m → (leads m j i ≡ true) ⊎ ((leads m j m && leads m m i) ≡ true) → (leads m i k ≡ true) ⊎ ((leads m i m && leads m m k) ≡ true) →
      leads (suc m) j k ≡ true
  joins-below m joins j i k low (inl a) (inl b) = more m j k (joins j i k low a b)
  joins-below m joins j i k low (inl a) (inr b) =
      let parts = and_parts (leads m i m) (leads m m k) b in through m j k (joins j i m low a parts.0) parts.1
  joins-below m joins j i k low (inr a) (inl b) =
      let parts = and_parts (leads m j m) (leads m m i) a in through m j k parts.0 (joins m i k low parts.1 b)
  joins-below m joins j i k low (inr a) (inr b) =
      through m j k (and_parts (leads m j m) (leads m m i) a).0 (and_parts (leads m i m) (leads m m k) b).1

  joins : (m : ℕ) → Joins m
  joins zero j i k low there on = absurd (omega (arith, low))
  joins (suc m) j i k low there on = by (cases_eq i m) (joins m)
    where
      by : (i ≡ m) ⊎ (i ≡ m → ⊥) → Joins m → leads (suc m) j k ≡ true
      by (inl last) lower =
          through m j k (to-last m j (subst (λ x. leads (suc m) j x ≡ true) last there)) (from-last m k (subst (λ x. leads (suc m) x k ≡ true) last on))
      by (inr other) lower =
          joins-below m lower j i k (omega (arith, low, other)) (or_cases (leads m j i) (leads m j m && leads m m i) there)
          (or_cases (leads m i k) (leads m i m && leads m m k) on)

  -- ---- by way of all functions

  module _ (known : AllKnown calls) where
    leads-along : (path : List ℕ) (j k : ℕ) → IsPath calls j path k → leads (length calls) j k ≡ true
    leads-along [] j k same = subst (λ x. leads (length calls) j x ≡ true) same (leads-itself (length calls) j)
    leads-along (next ∷ path) j k there =
        joins (length calls) j next k (known j next there.0) (leads-called (length calls) j next there.0) (leads-along path next k there.1)

    pub reaches-decided : (j k : ℕ) → Decides (leads (length calls) j k) (Reaches calls j k)
    reaches-decided j k = (leads-truly (length calls) j k, λ there. leads-along there.0 j k there.1)

    pub mutual-decided : (j k : ℕ) → Decides (leads (length calls) j k && leads (length calls) k j) (IsMutual calls j k)
    mutual-decided j k = Decides-and (leads (length calls) j k) (leads (length calls) k j) (reaches-decided j k) (reaches-decided k j)
