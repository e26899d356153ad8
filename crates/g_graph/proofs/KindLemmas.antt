-- What stands at a place of a list of kinds that were looked up, and how such lists compare with those that are wanted.
use Rattle.std.proofs.Common.{◌≡◌, ◌≤◌, ◌<◌, ◌+◌, ℕ, zero, suc, List, [], ◌∷◌, ◌++◌, map, refl, sym, ap, ◌∙◌, ◌&&◌, ◌||◌, Bool, true, false, length, take, drop, replicate, add-one, arith}
use Rattle.std.proofs.Math.Dec.{eqb-suc-zero, eqb-zero-suc, eqb-suc-suc}
use Rattle.std.proofs.lemmas.List.Sums.{sum_by-cons}
use Rattle.std.specs.Prelude.{slice_get, count_by, nat_le, nat_lt, ◌==◌, not, if◌then◌else◌}
use Rattle.std.proofs.lemmas.Bool.Decides.{nat_tests}
use Rattle.std.specs.declared.option.Option.{Option}
use Rattle.std.specs.declared.option.Option.TheVariants.{Some, None}
use Rattle.g_graph.specs.declared.op.Kind.{Kind}
use Rattle.g_graph.specs.declared.op.Kind.TheVariants.{Value, Memory, Io}
use Rattle.g_graph.specs.declared.op.Op.{Op}
use Rattle.g_graph.specs.declared.op.Op.TheVariants.{Gamma, Theta}
use Rattle.g_graph.specs.declared.op.Origin.{Origin}
use Rattle.g_graph.specs.Plain.{RegionTree, node, regions_of}
use Rattle.g_graph.specs.Signatures.{joined}
use Rattle.g_graph.specs.Scope.{same_kind, is_of}
use Rattle.g_graph.specs.WellFormed.{are, all_of, some_of, at_most_one, same, has_its_regions}

pub joined_some : {X : Type 0} (xs : List X) (k : ℕ) → joined (slice_get (map Some xs) k) ≡ slice_get xs k
joined_some [] k = refl
joined_some (x ∷ xs) zero = refl
joined_some (x ∷ xs) (suc k) = joined_some xs k

pub joined_map : {X Y : Type 0} (f : X → Option Y) (xs : List X) (k : ℕ) (x : X) → slice_get xs k ≡ Some x → joined (slice_get (map f xs) k) ≡ f x
joined_map f [] k x e = absurd (cc)
joined_map f (y ∷ xs) zero x e = cc
joined_map f (y ∷ xs) (suc k) x e = joined_map f xs k x e

pub joined_none : {X Y : Type 0} (f : X → Option Y) (xs : List X) (k : ℕ) → slice_get xs k ≡ None → joined (slice_get (map f xs) k) ≡ None
joined_none f [] k e = refl
joined_none f (y ∷ xs) zero e = absurd (cc)
joined_none f (y ∷ xs) (suc k) e = joined_none f xs k e

and_false : (b c : Bool) → false ≡ c → false ≡ (b && c)
and_false true c p = p
and_false false c p = refl

-- lists of unequal lengths do not compare
pub are_unequal : {X : Type 0} (f : X → Option Kind) (os : List X) (ks : List Kind) → (length os ≡ length ks → ⊥) → false ≡ are (map f os) ks
are_unequal f [] [] e = absurd (e refl)
are_unequal f [] (k ∷ ks) e = refl
are_unequal f (o ∷ os) [] e = by_kind (f o)
  where
    by_kind : (x : Option Kind) → false ≡ are (x ∷ map f os) []
    by_kind None = refl
    by_kind (Some j) = refl
are_unequal f (o ∷ os) (k ∷ ks) e = by_kind (f o) (are_unequal f os ks (λ p. e (ap suc p)))
  where
    by_kind : (x : Option Kind) → false ≡ are (map f os) ks → false ≡ are (x ∷ map f os) (k ∷ ks)
    by_kind None p = refl
    by_kind (Some j) p = and_false (same_kind j k) (are (map f os) ks) p

-- so many values, and then the rest
pub are_values_then : {X : Type 0} (f : X → Option Kind) (os : List X) (m : ℕ) (ks : List Kind) → m ≤ length os →
    are (map f os) (replicate m Value ++ ks) ≡ (all_of (λ o. is_of Value (f o)) (take m os) && are (map f (drop m os)) ks)
are_values_then f os zero ks h = refl
are_values_then f [] (suc m) ks h = absurd (omega arith)
are_values_then f (o ∷ os) (suc m) ks h = by_kind (f o) (are_values_then f os m ks (omega arith))
  where
    by_kind : (x : Option Kind) → are (map f os) (replicate m Value ++ ks) ≡ (all_of (λ o. is_of Value (f o)) (take m os) && are (map f (drop m os)) ks) →
        are (x ∷ map f os) (Value ∷ (replicate m Value ++ ks)) ≡ ((is_of Value x && all_of (λ o. is_of Value (f o)) (take m os)) && are (map f (drop m os)) ks)
    by_kind None p = refl
    by_kind (Some Value) p = p
    by_kind (Some Memory) p = refl
    by_kind (Some Io) p = refl

pub same_values_then : (ks : List Kind) (m : ℕ) (ws : List Kind) → m ≤ length ks →
    same ks (replicate m Value ++ ws) ≡ (all_of (λ k. is_of Value (Some k)) (take m ks) && same (drop m ks) ws)
same_values_then ks m ws h = are_values_then Some ks m ws h

length-values_then : (m : ℕ) (ws : List Kind) → length (replicate m Value ++ ws) ≡ m + length ws
length-values_then zero ws = omega arith
length-values_then (suc m) ws = omega (arith, length-values_then m ws)

pub same_values_unequal : (ks : List Kind) (m : ℕ) → (length ks ≡ m + 2 → ⊥) → false ≡ same ks (replicate m Value ++ Memory ∷ Io ∷ [])
same_values_unequal ks m e = are_unequal Some ks (replicate m Value ++ Memory ∷ Io ∷ []) (λ p. e (p ∙ length-values_then m (Memory ∷ Io ∷ [])))

-- what is left from a place on
drop_suc : (xs : List (Option Kind)) (p : ℕ) → p < length xs → drop p xs ≡ joined (slice_get xs p) ∷ drop (suc p) xs
drop_suc [] p h = absurd (omega arith)
drop_suc (x ∷ xs) zero h = refl
drop_suc (x ∷ xs) (suc p) h = drop_suc xs p (omega arith)

pub drop_at : (xs : List (Option Kind)) (p : ℕ) → p < length xs → drop p xs ≡ joined (slice_get xs p) ∷ drop (p + 1) xs
drop_at xs p h = rw add-one (drop_suc xs p h)

-- nothing is left where nothing is wanted
pub are_none : {X : Type 0} (f : X → Option Kind) (os : List X) (p : ℕ) → p ≤ length os → are (map f (drop p os)) [] ≡ (p == length os)
are_none f [] p h = by_zero p (omega arith)
  where
    by_zero : (p : ℕ) → p ≡ 0 → are (map f (drop p [])) [] ≡ (p == 0)
    by_zero p e = rw e refl
are_none f (o ∷ os) zero h = by_kind (f o) ∙ sym (eqb-zero-suc (length os))
  where
    by_kind : (x : Option Kind) → are (x ∷ map f os) [] ≡ false
    by_kind None = refl
    by_kind (Some j) = refl
are_none f (o ∷ os) (suc p) h = are_none f os p (omega arith) ∙ sym (eqb-suc-suc p (length os))

pub count_by_port : (k : Kind) (xs : List (Option Kind)) (p : ℕ) → p < length xs →
    count_by (is_of k) (drop p xs) ≡ (if is_of k (joined (slice_get xs p)) then 1 else 0) + count_by (is_of k) (drop (p + 1) xs)
count_by_port k xs p h =
    ap (count_by (is_of k)) (drop_at xs p h) ∙ sum_by-cons (λ x. if is_of k x then 1 else 0) (joined (slice_get xs p)) (drop (p + 1) xs)

pub some_of_count : (k : Kind) (xs : List (Option Kind)) → some_of (is_of k) xs ≡ nat_lt 0 (count_by (is_of k) xs)
some_of_count k [] = refl
some_of_count k (x ∷ xs) = by_test (is_of k x) (some_of_count k xs) ∙ ap (nat_lt 0) (sym (sum_by-cons (λ y. if is_of k y then 1 else 0) x xs))
  where
    by_test : (t : Bool) → some_of (is_of k) xs ≡ nat_lt 0 (count_by (is_of k) xs) → (t || some_of (is_of k) xs) ≡ nat_lt 0 ((if t then 1 else 0) + count_by (is_of k) xs)
    by_test true h = grind (arith, nat_tests)
    by_test false h = grind (arith, nat_tests)

pub some_of_args : (k : Kind) (ks : List Kind) → some_of (same_kind k) ks ≡ nat_lt 0 (count_by (is_of k) (map Some ks))
some_of_args k [] = refl
some_of_args k (j ∷ ks) = by_test (same_kind k j) (some_of_args k ks) ∙ ap (nat_lt 0) (sym (sum_by-cons (λ y. if is_of k y then 1 else 0) (Some j) (map Some ks)))
  where
    by_test : (t : Bool) → some_of (same_kind k) ks ≡ nat_lt 0 (count_by (is_of k) (map Some ks)) → (t || some_of (same_kind k) ks) ≡ nat_lt 0 ((if t then 1 else 0) + count_by (is_of k) (map Some ks))
    by_test true h = grind (arith, nat_tests)
    by_test false h = grind (arith, nat_tests)

pub at_most_one_count : (k : Kind) (xs : List (Option Kind)) → at_most_one k xs ≡ nat_le (count_by (is_of k) xs) 1
at_most_one_count k [] = refl
at_most_one_count k (x ∷ xs) =
    by_test (is_of k x) (at_most_one_count k xs) (some_of_count k xs) ∙ ap (λ n. nat_le n 1) (sym (sum_by-cons (λ y. if is_of k y then 1 else 0) x xs))
  where
    none : (n : ℕ) → not (nat_lt 0 n) ≡ nat_le (1 + n) 1
    none n = grind (arith, nat_tests)

    by_test : (t : Bool) → at_most_one k xs ≡ nat_le (count_by (is_of k) xs) 1 → some_of (is_of k) xs ≡ nat_lt 0 (count_by (is_of k) xs) →
        (if t then not (some_of (is_of k) xs) else at_most_one k xs) ≡ nat_le ((if t then 1 else 0) + count_by (is_of k) xs) 1
    by_test true h s = ap not s ∙ none (count_by (is_of k) xs)
    by_test false h s = h ∙ ap (λ n. nat_le n 1) (omega arith)

pub gamma_has_regions : (id : ℕ) (inputs : List Origin) (rs : List RegionTree) → has_its_regions (node id Gamma inputs (regions_of rs)) ≡ not (length rs == 0)
gamma_has_regions id inputs [] = refl
gamma_has_regions id inputs (r ∷ rs) = ap not (sym (eqb-suc-zero (length rs)))

pub theta_has_region : (id : ℕ) (inputs : List Origin) (rs : List RegionTree) → has_its_regions (node id Theta inputs (regions_of rs)) ≡ (length rs == 1)
theta_has_region id inputs [] = refl
theta_has_region id inputs (r ∷ []) = refl
theta_has_region id inputs (r ∷ (s ∷ rs)) = sym (eqb-suc-suc (suc (length rs)) 0 ∙ eqb-suc-zero (length rs))

pub has_no_regions : (id : ℕ) (op : Op) (inputs : List Origin) (rs : List RegionTree) → (op ≡ Gamma → ⊥) → (op ≡ Theta → ⊥) → has_its_regions (node id op inputs (regions_of rs)) ≡ (length rs == 0)
has_no_regions id Gamma inputs rs g t = absurd (g refl)
has_no_regions id Theta inputs rs g t = absurd (t refl)
has_no_regions id _ inputs [] g t = refl
has_no_regions id _ inputs (r ∷ rs) g t = sym (eqb-suc-zero (length rs))
