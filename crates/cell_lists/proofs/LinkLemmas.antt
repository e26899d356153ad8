-- Links of a list that are written one at a time.
use Rattle.std.proofs.Common.{◌≡◌, ℕ, true, false, Option, Some, None, List, [], ◌∷◌, ◌++◌, length, refl, ap, sym, ◌∙◌, inl, inr}
use Rattle.std.specs.Prelude.{slice_get, slice_set}
use Rattle.std.proofs.lemmas.Bool.{eqb-true, eqb-false, or_parts, or_cases, true≢false}
use Rattle.std.proofs.lemmas.Option.{get_or_from_slice_get}
use Rattle.cell_lists.specs.declared.links.Link.{Link}
use Rattle.cell_lists.specs.Lists.{AreDistinct, is_in, first_or, last_or}
use Rattle.cell_lists.specs.Linked.{no_link, after_set, before_set, Linked, walk}
use Rattle.cell_lists.proofs.ListLemmas.{slice_get-set_same, slice_get-set_other, last_is_in}

-- a cell that is in no list of these
abbrev pub IsOutside : Option ℕ → List ℕ → Type 0
IsOutside o xs = (x : ℕ) → o ≡ Some x → is_in x xs ≡ false

-- a write at a cell outside a list keeps it
pub outside : (links : List Link) (k : ℕ) (b a : Option ℕ) (xs : List ℕ) (c : ℕ) (v : Link) → is_in c xs ≡ false → Linked links k b a xs → Linked (slice_set links c v) k b a xs
outside links k b a [] c v h l = tt
outside links k b a (x ∷ xs) c v h l =
    let q = or_parts _ _ h in
    (slice_get-set_other links c x v (λ e. eqb-false c x q.0 (sym e)) ∙ l.0, outside links k (Some x) a xs c v q.1 l.1)

pub outside-after : (links : List Link) (k : ℕ) (b a : Option ℕ) (xs : List ℕ) (o to : Option ℕ) → IsOutside o xs → Linked links k b a xs → Linked (after_set links o to) k b a xs
outside-after links k b a xs None to h l = l
outside-after links k b a xs (Some c) to h l = outside links k b a xs c _ (h c refl) l

pub outside-before : (links : List Link) (k : ℕ) (b a : Option ℕ) (xs : List ℕ) (o to : Option ℕ) → IsOutside o xs → Linked links k b a xs → Linked (before_set links o to) k b a xs
outside-before links k b a xs None to h l = l
outside-before links k b a xs (Some c) to h l = outside links k b a xs c _ (h c refl) l

after_set-other : (links : List Link) (o to : Option ℕ) (x : ℕ) → (o ≡ Some x → ⊥) → slice_get (after_set links o to) x ≡ slice_get links x
after_set-other links None to x ne = refl
after_set-other links (Some c) to x ne = slice_get-set_other links c x _ (λ e. ne (ap Some (sym e)))

-- what stands behind a list, or before it, is another
pub ended : (links : List Link) (k : ℕ) (b a a' : Option ℕ) (xs : List ℕ) → AreDistinct xs → Linked links k b a xs → Linked (after_set links (last_or None xs) a') k b a' xs
ended links k b a a' [] d l = tt
ended links k b a a' (x ∷ []) d l =
    (slice_get-set_same links x _ _ l.0 ∙ ap (λ (r : Link). Some (record r { after = a' })) (get_or_from_slice_get links x _ no_link l.0), tt)
ended links k b a a' (x ∷ y ∷ ys) d l = (
  after_set-other links (last_or (Some y) ys) a' x (λ e. true≢false (sym (last_is_in x y ys e) ∙ d.0)) ∙ l.0,
  ended links k (Some x) a a' (y ∷ ys) d.1 l.1,
)

pub begun : (links : List Link) (k : ℕ) (b b' a : Option ℕ) (xs : List ℕ) → AreDistinct xs → Linked links k b a xs → Linked (before_set links (first_or None xs) b') k b' a xs
begun links k b b' a [] d l = tt
begun links k b b' a (x ∷ xs) d l = (
  slice_get-set_same links x _ _ l.0 ∙ ap (λ (r : Link). Some (record r { before = b' })) (get_or_from_slice_get links x _ no_link l.0),
  outside links k (Some x) a xs x _ d.0 l.1,
)

-- two lists in a row
pub joined : (links : List Link) (k : ℕ) (b a : Option ℕ) (xs ys : List ℕ) → Linked links k b (first_or a ys) xs → Linked links k (last_or b xs) a ys → Linked links k b a (xs ++ ys)
joined links k b a [] ys l m = m
joined links k b a (x ∷ []) ys l m = (l.0, m)
joined links k b a (x ∷ y ∷ zs) ys l m = (l.0, joined links k (Some x) a (y ∷ zs) ys l.1 m)

pub front : (links : List Link) (k : ℕ) (b a : Option ℕ) (xs ys : List ℕ) → Linked links k b a (xs ++ ys) → Linked links k b (first_or a ys) xs
front links k b a [] ys l = tt
front links k b a (x ∷ []) ys l = (l.0, tt)
front links k b a (x ∷ y ∷ zs) ys l = (l.0, front links k (Some x) a (y ∷ zs) ys l.1)

pub back : (links : List Link) (k : ℕ) (b a : Option ℕ) (xs ys : List ℕ) → Linked links k b a (xs ++ ys) → Linked links k (last_or b xs) a ys
back links k b a [] ys l = l
back links k b a (x ∷ xs) ys l = back links k (Some x) a xs ys l.1

-- the link of a cell of the list names the list
pub owned : (links : List Link) (k : ℕ) (b a : Option ℕ) (xs : List ℕ) (c : ℕ) → Linked links k b a xs → is_in c xs ≡ true → (r : Link) × (slice_get links c ≡ Some r) × (r.list ≡ k)
owned links k b a [] c l h = cc
owned links k b a (x ∷ xs) c l h =
    elim (or_cases _ _ h) [
      | inl e ↦ (record { list = k; before = b; after = first_or a xs }, ap (slice_get links) (eqb-true c x e) ∙ l.0, refl)
      | inr e ↦ owned links k (Some x) a xs c l.1 e
    ]

-- the walk from the first cell goes over the list
pub walked : (links : List Link) (k : ℕ) (b : Option ℕ) (xs : List ℕ) → Linked links k b None xs → walk links (length xs) (first_or None xs) ≡ xs
walked links k b [] l = refl
walked links k b (x ∷ xs) l =
    ap (λ (r : Link). x ∷ walk links (length xs) r.after) (get_or_from_slice_get links x _ no_link l.0) ∙ ap (λ ys. x ∷ ys) (walked links k (Some x) xs l.1)
