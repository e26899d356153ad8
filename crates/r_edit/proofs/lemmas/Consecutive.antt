-- Consecutive origins: what stands at them, and which are the last of the states.
use Rattle.std.specs.Prelude.{◌+◌, ◌&&◌, ◌||◌, not}
use Rattle.std.proofs.Common.{◌++◌, ◌≡◌, ◌⊎◌, ℕ, zero, suc, Bool, true, false, cond, List, [], ◌∷◌, map, length, Option, None, Some, option_map, slice_get, refl, sym, ap, subst, ◌∙◌, inl, inr, arith}
use Rattle.std.proofs.lemmas.Bool.{and_parts, not-true}
use Rattle.std.proofs.lemmas.List.{length-map}
use Rattle.std.proofs.lemmas.Option.{slice_get-map}
use Rattle.g_graph.specs.declared.op.Kind.{Kind}
use Rattle.g_graph.specs.declared.op.Kind.TheVariants.{Value, Memory, Io}
use Rattle.g_graph.specs.declared.op.Origin.{Origin}
use Rattle.g_graph.specs.Plain.{NodeTrees}
use Rattle.g_graph.specs.Scope.{same_kind, is_of, known, last_index, last_state}
use Rattle.g_graph.specs.Signatures.{joined}
use Rattle.g_graph.specs.WellFormed.{all_of, some_of, at_most_one, one_state_each, is_last}
use Rattle.g_graph.proofs.lemmas.Indexes.{gives_last, index_kind, index_none}
use Rattle.g_mean.proofs.lemmas.Kinds.{joined-some}
use Rattle.r_edit.specs.Origins.{origins_from}
use Rattle.r_edit.proofs.lemmas.Kept.{IsState, memory, io}

-- ---- what stands at them

-- a test of the elements of a list, with their indexes from a first one on
abbrev At : {X : Type 0} → (ℕ → X → Type 0) → (first : ℕ) → List X → Type 0
At P first ys = (k : ℕ) (y : _) → slice_get ys k ≡ Some y → P (first + k) y

at-next : {X : Type 0} (P : ℕ → X → Type 0) (first : ℕ) (y : X) (ys : List X) → At P first (y ∷ ys) → P first y × At P (suc first) ys
at-next P first y ys h =
    let here : first + 0 ≡ first = omega arith in
    (subst (λ k. P k y) here (h 0 y refl), λ k x e. let on : first + suc k ≡ suc first + k = omega arith in subst (λ j. P j x) on (h (suc k) x e))

at-first : {X : Type 0} (P : ℕ → X → Type 0) (ys : List X) → ((k : ℕ) (y : X) → slice_get ys k ≡ Some y → P k y) → At P 0 ys
at-first P ys h k y e = let here : k ≡ 0 + k = omega arith in subst (λ j. P j y) here (h k y e)

from : {X : Type 0} (g : Origin → X) (place : ℕ → Origin) (first : ℕ) (ys : List X) → At (λ k y. g (place k) ≡ y) first ys → map g (origins_from place first (length ys)) ≡ ys
from g place first [] h = refl
from g place first (y ∷ ys) h = let n = at-next (λ k z. g (place k) ≡ z) first y ys h in λ i. n.0 i ∷ from g place (suc first) ys n.1 i

pub all-from : {X : Type 0} (g : Origin → X) (place : ℕ → Origin) (ys : List X) → ((k : ℕ) (y : X) → slice_get ys k ≡ Some y → g (place k) ≡ y) → map g (origins_from place 0 (length ys)) ≡ ys
all-from g place ys h = from g place 0 ys (at-first (λ k y. g (place k) ≡ y) ys h)

holds-from : {X : Type 0} (test : Origin → Bool) (place : ℕ → Origin) (first : ℕ) (ys : List X) → At (λ k y. test (place k) ≡ true) first ys →
    all_of test (origins_from place first (length ys)) ≡ true
holds-from test place first [] h = refl
holds-from test place first (y ∷ ys) h = let n = at-next (λ k z. test (place k) ≡ true) first y ys h in λ i. n.0 i && holds-from test place (suc first) ys n.1 i

pub length-from : (place : ℕ → Origin) (first count : ℕ) → length (origins_from place first count) ≡ count
length-from place first zero = refl
length-from place first (suc count) = ap suc (length-from place (suc first) count)

more : (place : ℕ → Origin) (first count : ℕ) → origins_from place first (suc count) ≡ origins_from place first count ++ place (first + count) ∷ []
more place first zero = let last : first ≡ first + 0 = omega arith in ap (λ k. place k ∷ []) last
more place first (suc count) =
    let next : suc first + count ≡ first + suc count = omega arith in
    ap (λ os. place first ∷ os) (more place (suc first) count ∙ ap (λ k. origins_from place (suc first) count ++ place k ∷ []) next)

-- one more of them
pub more-from : (place : ℕ → Origin) (count : ℕ) → origins_from place 0 (count + 1) ≡ origins_from place 0 count ++ place count ∷ []
more-from place count =
    let next : count + 1 ≡ suc count = omega arith in
    let last : 0 + count ≡ count = omega arith in
    ap (origins_from place 0) next ∙ more place 0 count ∙ ap (λ n. origins_from place 0 count ++ place n ∷ []) last

-- ---- the last of a kind

mapped : (ks : List Kind) (p : ℕ) (k : Kind) → slice_get ks p ≡ Some k → slice_get (map Some ks) p ≡ Some (Some k)
mapped ks p k e = slice_get-map Some ks p ∙ ap (option_map Some) e

same-itself : (k : Kind) → same_kind k k ≡ true
same-itself Value = refl
same-itself Memory = refl
same-itself Io = refl

some-there : (k : Kind) (xs : List (Option Kind)) (p : ℕ) → slice_get xs p ≡ Some (Some k) → some_of (is_of k) xs ≡ true
some-there k [] p e = absurd cc
some-there k (x ∷ xs) zero e =
    let here : x ≡ Some k = cc in
    ap (λ z. is_of k z || some_of (is_of k) xs) here ∙ ap (λ t. t || some_of (is_of k) xs) (same-itself k)
some-there k (x ∷ xs) (suc p) e = by (is_of k x) (some-there k xs p e)
  where
    by : (t : Bool) → some_of (is_of k) xs ≡ true → (t || some_of (is_of k) xs) ≡ true
    by true h = refl
    by false h = h

-- of a kind that stands there at most once no other element is
no-other : (k : Kind) (x : Option Kind) (xs : List (Option Kind)) → at_most_one k (x ∷ xs) ≡ true → x ≡ Some k → (q : ℕ) → slice_get xs q ≡ Some (Some k) → ⊥
no-other k x xs one here q e =
    let first : is_of k x ≡ true = ap (is_of k) here ∙ same-itself k in
    let rest : not (some_of (is_of k) xs) ≡ true = ap (λ t. cond t (not (some_of (is_of k) xs)) (at_most_one k xs)) (sym first) ∙ one in
    let no : true ≡ false = sym (some-there k xs q e) ∙ not-true (some_of (is_of k) xs) rest in
    absurd cc

one-index : (k : Kind) (xs : List (Option Kind)) → at_most_one k xs ≡ true → (p q : ℕ) → slice_get xs p ≡ Some (Some k) → slice_get xs q ≡ Some (Some k) → p ≡ q
one-index k [] one p q d e = absurd cc
one-index k (x ∷ xs) one zero zero d e = refl
one-index k (x ∷ xs) one zero (suc q) d e = let here : x ≡ Some k = cc in absurd (no-other k x xs one here q e)
one-index k (x ∷ xs) one (suc p) zero d e = let here : x ≡ Some k = cc in absurd (no-other k x xs one here p d)
one-index k (x ∷ xs) one (suc p) (suc q) d e = by (is_of k x) one (λ rest. one-index k xs rest p q d e)
  where
    by : (t : Bool) → cond t (not (some_of (is_of k) xs)) (at_most_one k xs) ≡ true → (at_most_one k xs ≡ true → p ≡ q) → suc p ≡ suc q
    by true f h =
        let no : true ≡ false = sym (some-there k xs p d) ∙ not-true (some_of (is_of k) xs) f in
        absurd cc
    by false f h = ap suc (h f)

last-there : (k : Kind) (xs : List (Option Kind)) → at_most_one k xs ≡ true → (p : ℕ) → slice_get xs p ≡ Some (Some k) → last_index k 0 xs None ≡ Some p
last-there k xs one p e = by (last_index k 0 xs None) refl
  where
    by : (found : Option ℕ) → last_index k 0 xs None ≡ found → last_index k 0 xs None ≡ Some p
    by None f =
        let none : true ≡ false = sym (some-there k xs p e) ∙ index_none k xs f in
        absurd cc
    by (Some q) f = f ∙ ap Some (one-index k xs one q p (index_kind k xs q f).0 e)

-- Consecutive origins of these kinds, each state once, of which the last of each kind is the last of the nodes.
module _ (args : List Kind) (bs : NodeTrees) (place : ℕ → Origin) (ks : List Kind) (once : one_state_each (map Some ks) ≡ true)
    (kinds : (p : ℕ) (k : Kind) → slice_get ks p ≡ Some k → known args bs (place p) ≡ Some k)
    (states : (k : Kind) → IsState k → (p : ℕ) → last_index k 0 (map Some ks) None ≡ Some p → last_state k args bs ≡ Some (place p)) where
  pub all-known : map (known args bs) (origins_from place 0 (length ks)) ≡ map Some ks
  all-known =
      ap (λ n. map (known args bs) (origins_from place 0 n)) (sym (length-map ks Some))
      ∙ all-from (known args bs) place (map Some ks) (λ p k e. by p k e)
    where
      by : (p : ℕ) (k : Option Kind) → slice_get (map Some ks) p ≡ Some k → known args bs (place p) ≡ k
      by p (Some k) e = kinds p k (joined-some ks p k (ap joined e))
      by p None e = absurd (never ks p e)
        where
          never : (ks : List Kind) (p : ℕ) → slice_get (map Some ks) p ≡ Some None → ⊥
          never [] p e = absurd cc
          never (k ∷ ks) zero e = absurd cc
          never (k ∷ ks) (suc p) e = never ks p e

  pub all-last : all_of (is_last args bs) (origins_from place 0 (length ks)) ≡ true
  all-last = holds-from (is_last args bs) place 0 ks (at-first (λ p k. is_last args bs (place p) ≡ true) ks (λ p k e. gives_last k args bs (place p) (kinds p k e) (by k p e)))
    where
      one : at_most_one Memory (map Some ks) ≡ true
      one = (and_parts (at_most_one Memory (map Some ks)) (at_most_one Io (map Some ks)) once).0

      other : at_most_one Io (map Some ks) ≡ true
      other = (and_parts (at_most_one Memory (map Some ks)) (at_most_one Io (map Some ks)) once).1

      by : (k : Kind) (p : ℕ) → slice_get ks p ≡ Some k → (k ≡ Value) ⊎ (last_state k args bs ≡ Some (place p))
      by Value p e = inl refl
      by Memory p e = inr (states Memory memory p (last-there Memory (map Some ks) one p (mapped ks p Memory e)))
      by Io p e = inr (states Io io p (last-there Io (map Some ks) other p (mapped ks p Io e)))
