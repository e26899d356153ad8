-- Items and groups by index.
use Rattle.std.proofs.Common.{◌≡◌, ℕ, zero, suc, ◌+◌, ◌<◌, ◌≤◌, Bool, true, false, ◌||◌, not, List, [], ◌∷◌, drop, get_or, length, refl, sym, ap, ◌∙◌, arith, drop-cons}
use Rattle.std.proofs.Math.Bool.{or-true}
use Rattle.c_typed.specs.Typed.{StmtTree, group_then}
use Rattle.c_typed.specs.StmtViews.{items_of, groups_of}
use Rattle.c_typed.specs.declared.statement.Group.{Group}
use Rattle.c_typed.specs.declared.statement.Item.{Item}
use Rattle.c_typed.specs.declared.statement.Item.TheVariants as item
use Rattle.g_build_def.specs.Exits.{some_items}
use Rattle.g_build_def.specs.Switch.{some_groups, ends_with_jump}
use Rattle.g_build_count.specs.Values.{first_ends}
use Rattle.g_build_count.specs.Weights.{stmt_weight, items_weight, groups_weight}

-- a list from an index on
pub from_index : {A : Type 0} → (xs : List A) (i : ℕ) (x : A) → x ≡ get_or xs i x → i < length xs → drop i xs ≡ x ∷ drop (i + 1) xs
from_index xs i x e h =
    let n : i + 1 ≡ suc i = omega arith in drop-cons xs i x h ∙ ap (λ y. y ∷ drop (suc i) xs) (sym e) ∙ ap (λ k. x ∷ drop k xs) (sym n)

pub groups_from : (gs : List Group) (i : ℕ) (g : Group) → g ≡ get_or gs i g → i < length gs →
    groups_of (drop i gs) ≡ group_then g.cases.items g.is_default (items_of g.body.items) (groups_of (drop (i + 1) gs))
groups_from gs i g e h = ap groups_of (from_index gs i g e h)

-- others follow where the index is not the last
groups_follow : (gs : List Group) (i : ℕ) → i < length gs → some_groups (groups_of (drop i gs)) ≡ true
groups_follow [] i h = let no : ⊥ = omega (arith, h) in absurd no
groups_follow (g ∷ gs) zero h = refl
groups_follow (g ∷ gs) (suc i) h = let k : i < length gs = omega (arith, h) in groups_follow gs i k

-- ---- parts have less weight

rest_weight : (xs : List Item) (i : ℕ) → items_weight (items_of (drop i xs)) ≤ items_weight (items_of xs)
rest_weight xs zero = omega arith
rest_weight [] (suc i) = omega arith
rest_weight (item.Statement a ∷ xs) (suc i) = let h = rest_weight xs i in omega (arith, h)
rest_weight (item.Variable d ∷ xs) (suc i) = let h = rest_weight xs i in omega (arith, h)

pub statement_weight : (xs : List Item) (i : ℕ) (x : Item) (a : StmtTree) → x ≡ get_or xs i x → i < length xs → x ≡ item.Statement a →
    stmt_weight a < items_weight (items_of xs)
statement_weight xs i x a e h k =
    let all = rest_weight xs i in
    let here : items_weight (items_of (drop i xs)) ≡ suc (stmt_weight a + items_weight (items_of (drop (i + 1) xs))) =
    ap (λ ys. items_weight (items_of ys)) (from_index xs i x e h) ∙ ap (λ y. items_weight (items_of (y ∷ drop (i + 1) xs))) k in
    omega (arith, all, here)

pub items_after_weight : (xs : List Item) (i : ℕ) → i < length xs → items_weight (items_of (drop (i + 1) xs)) < items_weight (items_of xs)
items_after_weight [] i h = let no : ⊥ = omega (arith, h) in absurd no
items_after_weight (item.Statement a ∷ xs) zero h = let e : items_weight (items_of (drop (0 + 1) (item.Statement a ∷ xs))) ≡ items_weight (items_of xs) = refl in omega (arith, e)
items_after_weight (item.Variable d ∷ xs) zero h = let e : items_weight (items_of (drop (0 + 1) (item.Variable d ∷ xs))) ≡ items_weight (items_of xs) = refl in omega (arith, e)
items_after_weight (x ∷ xs) (suc i) h =
    let k : i < length xs = omega (arith, h) in
    let rest = items_after_weight xs i k in
    let n : suc i + 1 ≡ suc (i + 1) = omega arith in
    let same : items_weight (items_of (drop (suc i + 1) (x ∷ xs))) ≡ items_weight (items_of (drop (i + 1) xs)) = ap (λ m. items_weight (items_of (drop m (x ∷ xs)))) n in
    let less = rest_weight (x ∷ xs) 1 in
    let one : items_weight (items_of (drop 1 (x ∷ xs))) ≡ items_weight (items_of xs) = refl in
    omega (arith, rest, same, less, one)

pub groups_rest_weight : (gs : List Group) (i : ℕ) → groups_weight (groups_of (drop i gs)) ≤ groups_weight (groups_of gs)
groups_rest_weight gs zero = omega arith
groups_rest_weight [] (suc i) = omega arith
groups_rest_weight (g ∷ gs) (suc i) = let h = groups_rest_weight gs i in omega (arith, h)

pub group_weight : (gs : List Group) (i : ℕ) (g : Group) → g ≡ get_or gs i g → i < length gs → items_weight (items_of g.body.items) < groups_weight (groups_of gs)
group_weight gs i g e h =
    let all = groups_rest_weight gs i in
    let here = ap groups_weight (groups_from gs i g e h) in
    omega (arith, all, here)

-- ---- the ends of segments

or_false : (b : Bool) → (b || false) ≡ b
or_false true = refl
or_false false = refl

pub ends_at_last : (gs : List Group) (i : ℕ) → i + 1 ≡ length gs → true ≡ first_ends (groups_of (drop i gs))
ends_at_last [] i e = let no : ⊥ = omega (arith, e) in absurd no
ends_at_last (g ∷ []) zero e = sym (or-true (ends_with_jump (items_of g.body.items)))
ends_at_last (g ∷ h ∷ gs) zero e = let no : ⊥ = omega (arith, e) in absurd no
ends_at_last (g ∷ gs) (suc i) e = let k : i + 1 ≡ length gs = omega (arith, e) in ends_at_last gs i k

pub ends_inside : (gs : List Group) (i : ℕ) (g : Group) (r : Bool) → g ≡ get_or gs i g → i + 1 < length gs → r ≡ ends_with_jump (items_of g.body.items) →
    r ≡ first_ends (groups_of (drop i gs))
ends_inside gs i g r e h k =
    let within : i < length gs = omega (arith, h) in
    let more : some_groups (groups_of (drop (i + 1) gs)) ≡ true = groups_follow gs (i + 1) h in
    k ∙ sym (or_false (ends_with_jump (items_of g.body.items))) ∙ ap (λ b. ends_with_jump (items_of g.body.items) || not b) (sym more)
    ∙ sym (ap first_ends (groups_from gs i g e within))

-- ---- what follows an item

pub items_follow : (xs : List Item) (i : ℕ) → i < length xs → true ≡ some_items (items_of (drop i xs))
items_follow [] i h = let no : ⊥ = omega (arith, h) in absurd no
items_follow (item.Statement a ∷ xs) zero h = refl
items_follow (item.Variable d ∷ xs) zero h = refl
items_follow (x ∷ xs) (suc i) h = let k : i < length xs = omega (arith, h) in items_follow xs i k

pub no_items_follow : (xs : List Item) (i : ℕ) → length xs ≤ i → false ≡ some_items (items_of (drop i xs))
no_items_follow [] zero h = refl
no_items_follow [] (suc i) h = refl
no_items_follow (x ∷ xs) zero h = let no : ⊥ = omega (arith, h) in absurd no
no_items_follow (x ∷ xs) (suc i) h = let k : length xs ≤ i = omega (arith, h) in no_items_follow xs i k
