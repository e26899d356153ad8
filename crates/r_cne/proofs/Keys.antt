-- The first node of each place, op and inputs, as it is kept and as it stands in the list.
use Rattle.std.proofs.Common.{◌≡◌, ℕ, ◌==◌, ◌&&◌, Bool, true, false, Option, None, Some, List, [], ◌∷◌, ◌++◌, refl, sym, ap, ◌∙◌}
use Rattle.std.specs.Prelude.{if◌then◌else◌}
use Rattle.std.proofs.lemmas.Bool.{and_parts}
use Rattle.std.proofs.lemmas.Option.{same_Some}
use Rattle.val_core.proofs.lemmas.Views.{same_itself, same_equal}
use Rattle.g_graph.specs.declared.op.Op.{Op}
use Rattle.g_graph.specs.declared.op.Origin.{Origin}
use Rattle.g_graph.specs.Scope.{same_origin}
use Rattle.g_graph.specs.Views.{op_view, same_op}
use Rattle.g_graph.proofs.lemmas.Indexes.{same_number_true, same_origin_self}
use Rattle.g_graph.proofs.lemmas.Moved.{same_origin_true}
use Rattle.g_graph.proofs.lemmas.Unique.{same_number, equal_back}
use Rattle.g_arena_def.specs.declared.place.Place.{Place}
use Rattle.g_arena_def.specs.Flat.{FlatNode, same_node, same_place}
use Rattle.g_arena_def.specs.Reads.{found}
use Rattle.g_arena_use.specs.Kept.{Kept, is_for, kept, or_else, kept_or, with_new, with_kept, same_origins as same_kept}
use Rattle.r_edit.specs.Lookup.{same_origins}
use Rattle.r_sweep.proofs.lemmas.Inputs.{same_place_self}
use Rattle.r_sweep.proofs.lemmas.Walks.{Absent, Once}
use Rattle.r_cne.specs.Rule.{is_common}
use Rattle.r_cne.specs.Listed.{first_in}
use Rattle.r_cne.specs.First.{AreFirst, number}

-- ---- tests

same_nodes : (a b : Option ℕ) → same_node a b ≡ same_node b a
same_nodes None None = refl
same_nodes None (Some m) = refl
same_nodes (Some n) None = refl
same_nodes (Some n) (Some m) = equal_back n m

same_places : (p q : Place) → same_place p q ≡ same_place q p
same_places p q = λ i. same_nodes p.node q.node i && equal_back p.region q.region i

node_true : (a b : Option ℕ) → same_node a b ≡ true → a ≡ b
node_true None None e = refl
node_true None (Some m) e = absurd cc
node_true (Some n) None e = absurd cc
node_true (Some n) (Some m) e = ap Some (same_number n m e)

pub place_true : (p q : Place) → same_place p q ≡ true → p ≡ q
place_true p q e =
    let both = and_parts (same_node p.node q.node) (p.region == q.region) e in
    λ i. record { node = node_true p.node q.node both.0 i; region = same_number p.region q.region both.1 i }

kept_is_same : (xs ys : List Origin) → same_kept xs ys ≡ same_origins xs ys
kept_is_same [] [] = refl
kept_is_same [] (y ∷ ys) = refl
kept_is_same (x ∷ xs) [] = refl
kept_is_same (x ∷ xs) (y ∷ ys) = ap (λ t. same_origin x y && t) (kept_is_same xs ys)

origins_true : (xs ys : List Origin) → same_origins xs ys ≡ true → xs ≡ ys
origins_true [] [] e = refl
origins_true [] (y ∷ ys) e = absurd cc
origins_true (x ∷ xs) [] e = absurd cc
origins_true (x ∷ xs) (y ∷ ys) e =
    let both = and_parts (same_origin x y) (same_origins xs ys) e in
    λ i. same_origin_true x y both.0 i ∷ origins_true xs ys both.1 i

origins_self : (xs : List Origin) → same_origins xs xs ≡ true
origins_self [] = refl
origins_self (x ∷ xs) = λ i. same_origin_self x i && origins_self xs i

grouped : (a b c : Bool) → ((a && b) && c) ≡ (a && (b && c))
grouped true b c = refl
grouped false b c = refl

-- ---- keys

abbrev same_key : Place → Op → List Origin → FlatNode → Bool
same_key p op is x = same_place x.home p && (same_op op x.op && same_origins is x.inputs)

record IsKey (p : Place) (op : Op) (is : List Origin) (x : FlatNode) : Type 0 where
  home : p ≡ x.home
  of : op ≡ x.op
  inputs : is ≡ x.inputs

key_true : (p : Place) (op : Op) (is : List Origin) (x : FlatNode) → same_key p op is x ≡ true → IsKey p op is x
key_true p op is x e =
    let first = and_parts (same_place x.home p) (same_op op x.op && same_origins is x.inputs) e in
    let second = and_parts (same_op op x.op) (same_origins is x.inputs) first.1 in
    record { home = sym (place_true x.home p first.0); of = same_equal op_view op x.op second.0; inputs = origins_true is x.inputs second.1 }

key_self : (x : FlatNode) → same_key x.home x.op x.inputs x ≡ true
key_self x = λ i. same_place_self x.home i && (same_itself op_view x.op i && origins_self x.inputs i)

abbrev kept_of : ℕ → FlatNode → Kept
kept_of n x = record { home = x.home; op = x.op; inputs = x.inputs; node = n }

is_for_is : (p : Place) (op : Op) (is : List Origin) (n : ℕ) (x : FlatNode) → is_for p op is (kept_of n x) ≡ same_key p op is x
is_for_is p op is n x =
    (λ i. (same_places p x.home i && same_op op x.op) && kept_is_same is x.inputs i) ∙ grouped (same_place x.home p) (same_op op x.op) (same_origins is x.inputs)

-- ---- the first of two lists

abbrev or_then : Option ℕ → Option ℕ → Option ℕ
or_then None y = y
or_then (Some x) y = Some x

or_none : (o : Option ℕ) → or_then o None ≡ o
or_none None = refl
or_none (Some n) = refl

module _ (p : Place) (op : Op) (is : List Origin) where
  first_both : (xs ys : List FlatNode) → first_in p op is (xs ++ ys) ≡ or_then (first_in p op is xs) (first_in p op is ys)
  first_both [] ys = refl
  first_both (x ∷ xs) ys = by (same_key p op is x) (first_both xs ys)
    where
      by : (t : Bool) → first_in p op is (xs ++ ys) ≡ or_then (first_in p op is xs) (first_in p op is ys) →
          (if t then Some x.id else first_in p op is (xs ++ ys)) ≡ or_then (if t then Some x.id else first_in p op is xs) (first_in p op is ys)
      by true h = refl
      by false h = h

  kept_both : (ks js : List Kept) → kept p op is (ks ++ js) ≡ or_then (kept p op is ks) (kept p op is js)
  kept_both [] js = refl
  kept_both (k ∷ ks) js = by (is_for p op is k) (kept_both ks js)
    where
      by : (t : Bool) → kept p op is (ks ++ js) ≡ or_then (kept p op is ks) (kept p op is js) →
          (if t then Some k.node else kept p op is (ks ++ js)) ≡ or_then (if t then Some k.node else kept p op is ks) (kept p op is js)
      by true h = refl
      by false h = h

-- ---- one node more

-- a node that can be common
pub first_more : (n : ℕ) (x : FlatNode) (xs : List FlatNode) (ks : List Kept) → x.id ≡ n → is_common x.op ≡ true → AreFirst ks xs → AreFirst (with_kept x.home x.op x.inputs n ks) (xs ++ x ∷ [])
first_more n x xs ks number common first p op is c = by (kept x.home x.op x.inputs ks) refl
  where
    more : first_in p op is (xs ++ x ∷ []) ≡ or_then (kept p op is ks) (if same_key p op is x then Some x.id else None)
    more = first_both p op is xs (x ∷ []) ∙ ap (λ o. or_then o (if same_key p op is x then Some x.id else None)) (sym (first p op is c))

    by : (o : Option ℕ) → kept x.home x.op x.inputs ks ≡ o → kept p op is (with_new o (kept_of n x) ks) ≡ first_in p op is (xs ++ x ∷ [])
    by None e =
        kept_both p op is ks (kept_of n x ∷ [])
        ∙ (λ i. or_then (kept p op is ks) (if is_for_is p op is n x i then Some (sym number i) else None)) ∙ sym more
    by (Some m) e = by_key (same_key p op is x) refl ∙ sym more
      where
        by_key : (t : Bool) → same_key p op is x ≡ t → kept p op is ks ≡ or_then (kept p op is ks) (if t then Some x.id else None)
        by_key true q =
            let k = key_true p op is x q in
            let had : kept p op is ks ≡ Some m = (λ i. kept (k.home i) (k.of i) (k.inputs i) ks) ∙ e in
            had ∙ ap (λ o. or_then o (Some x.id)) (sym had)
        by_key false q = sym (or_none (kept p op is ks))

-- another node
pub first_other : (x : FlatNode) (xs : List FlatNode) (ks : List Kept) → is_common x.op ≡ false → AreFirst ks xs → AreFirst ks (xs ++ x ∷ [])
first_other x xs ks other first p op is c =
    sym (first_both p op is xs (x ∷ []) ∙ ap (λ o. or_then o (if same_key p op is x then Some x.id else None)) (sym (first p op is c)) ∙ by (same_key p op is x) refl)
  where
    differ : is_common op ≡ true → op ≡ x.op → ⊥
    differ t e = let u : is_common x.op ≡ true = ap is_common (sym e) ∙ t in cc

    by : (t : Bool) → same_key p op is x ≡ t → or_then (kept p op is ks) (if t then Some x.id else None) ≡ kept p op is ks
    by true q = absurd (differ c (key_true p op is x q).of)
    by false q = or_none (kept p op is ks)

-- the answer for a node, where these stand before it
pub first_is : (n : ℕ) (x : FlatNode) (xs ys : List FlatNode) (ks : List Kept) → x.id ≡ n → is_common x.op ≡ true → AreFirst ks xs →
    first_in x.home x.op x.inputs (xs ++ (x ∷ ys)) ≡ Some (kept_or x.home x.op x.inputs n ks)
first_is n x xs ys ks number common first =
    first_both x.home x.op x.inputs xs (x ∷ ys)
    ∙ (λ i. or_then (sym (first x.home x.op x.inputs common) i) (if key_self x i then Some (number i) else first_in x.home x.op x.inputs ys))
    ∙ by (kept x.home x.op x.inputs ks)
  where
    by : (o : Option ℕ) → or_then o (Some n) ≡ Some (or_else o n)
    by None = refl
    by (Some m) = refl

-- ---- the node that is first

found_other : (n m : ℕ) (y : FlatNode) (xs : List FlatNode) → Absent number n xs → found m xs ≡ Some y → (n == m) ≡ false
found_other n m y [] h e = absurd cc
found_other n m y (x ∷ xs) h e = by (x.id == m) refl e (λ d. found_other n m y xs h.1 d)
  where
    by : (t : Bool) → (x.id == m) ≡ t → (if t then Some x else found m xs) ≡ Some y → (found m xs ≡ Some y → (n == m) ≡ false) → (n == m) ≡ false
    by true q d f = ap (λ k. n == k) (sym (same_number x.id m q)) ∙ equal_back n x.id ∙ h.0
    by false q d f = f d

pub record Earlier (p : Place) (op : Op) (m : ℕ) (xs : List FlatNode) : Type 0 where
  pub node : FlatNode
  pub there : found m xs ≡ Some node
  pub home : p ≡ node.home
  pub of : op ≡ node.op

pub first_found : (p : Place) (op : Op) (is : List Origin) (m : ℕ) (xs : List FlatNode) → Once number xs → first_in p op is xs ≡ Some m → Earlier p op m xs
first_found p op is m [] once e = absurd cc
first_found p op is m (x ∷ xs) once e = by (same_key p op is x) refl e (λ d. first_found p op is m xs once.1 d)
  where
    by : (t : Bool) → same_key p op is x ≡ t → (if t then Some x.id else first_in p op is xs) ≡ Some m → (first_in p op is xs ≡ Some m → Earlier p op m xs) → Earlier p op m (x ∷ xs)
    by true q d f =
        let k = key_true p op is x q in
        record { node = x; there = ap (λ t. if t then Some x else found m xs) (ap (λ j. x.id == j) (sym (same_Some x.id m d)) ∙ same_number_true x.id); home = k.home; of = k.of }
    by false q d f =
        let r = f d in
        record { node = r.node; there = ap (λ t. if t then Some x else found m xs) (found_other x.id m r.node xs once.0 r.there) ∙ r.there; home = r.home; of = r.of }
