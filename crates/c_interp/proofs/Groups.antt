-- The groups of a `switch` that are done.
use Rattle.std.proofs.Common.{◌≡◌, ℕ, ◌+◌, ◌<◌, ◌≤◌, List, ◌∷◌, drop, length, get_or, drop-cons, add-one, refl, sym, ap, ◌∙◌}
use Rattle.std.specs.Prelude.{Bool, true, false, if◌then◌else◌, Option, None, Some, unwrap_or}
use Rattle.std.proofs.lemmas.Bool.{false≢true}
use Rattle.std.proofs.lemmas.List.{drop_all}
use Rattle.c_typed.specs.declared.statement.Group.{Group}
use Rattle.c_typed.specs.Typed.{GroupTrees, group_then}
use Rattle.c_typed.specs.StmtViews.{items_of, groups_of}
use Rattle.c_mean.specs.Statements.{has_case, from_case, from_default, chosen_groups}

abbrev group_with : Group → Bool → List Group → GroupTrees
group_with g d gs = group_then g.cases.items d (items_of g.body.items) (groups_of gs)

-- a group at an index, and those after it
pub group-at : (gs : List Group) (i : ℕ) (g : Group) → i < length gs → g ≡ get_or gs i g → drop i gs ≡ g ∷ drop (i + 1) gs
group-at gs i g lt e = drop-cons gs i g lt ∙ ap (λ k. get_or gs i g ∷ drop k gs) (sym (add-one i)) ∙ ap (λ h. h ∷ drop (i + 1) gs) (sym e)

-- the group has the label
pub case-here : (w : ℕ) (gs : List Group) (i : ℕ) (g : Group) → i < length gs → g ≡ get_or gs i g → has_case w g.cases.items ≡ true →
    from_case w (groups_of (drop i gs)) ≡ Some (groups_of (drop i gs))
case-here w gs i g lt e has =
    ap (λ l. from_case w (groups_of l)) (group-at gs i g lt e)
    ∙ ap (λ b. if b then Some (groups_of (g ∷ drop (i + 1) gs)) else from_case w (groups_of (drop (i + 1) gs))) has
    ∙ ap (λ l. Some (groups_of l)) (sym (group-at gs i g lt e))

pub case-later : (w : ℕ) (gs : List Group) (i : ℕ) (g : Group) → i < length gs → g ≡ get_or gs i g → has_case w g.cases.items ≡ false →
    from_case w (groups_of (drop i gs)) ≡ from_case w (groups_of (drop (i + 1) gs))
case-later w gs i g lt e has =
    ap (λ l. from_case w (groups_of l)) (group-at gs i g lt e)
    ∙ ap (λ b. if b then Some (groups_of (g ∷ drop (i + 1) gs)) else from_case w (groups_of (drop (i + 1) gs))) has

pub case-none : (w : ℕ) (gs : List Group) (i : ℕ) → length gs ≤ i → from_case w (groups_of (drop i gs)) ≡ None
case-none w gs i past = ap (λ l. from_case w (groups_of l)) (drop_all i gs past)

pub chosen-here : (w : ℕ) (gs : List Group) (o : Option GroupTrees) → from_case w (groups_of gs) ≡ o → chosen_groups w (groups_of gs) ≡ unwrap_or o (from_default (groups_of gs))
chosen-here w gs o e = ap (λ c. unwrap_or c (from_default (groups_of gs))) e

-- the group is that of `default`
pub default-here : (gs : List Group) (i : ℕ) (g : Group) → i < length gs → g ≡ get_or gs i g → g.is_default ≡ true →
    from_default (groups_of (drop i gs)) ≡ groups_of (drop i gs)
default-here gs i g lt e is =
    ap (λ l. from_default (groups_of l)) (group-at gs i g lt e)
    ∙ by g.is_default is
    ∙ ap groups_of (sym (group-at gs i g lt e))
  where
    by : (d : Bool) → d ≡ true → from_default (group_with g d (drop (i + 1) gs)) ≡ group_with g d (drop (i + 1) gs)
    by true h = refl
    by false h = absurd (false≢true h)

pub default-later : (gs : List Group) (i : ℕ) (g : Group) → i < length gs → g ≡ get_or gs i g → g.is_default ≡ false →
    from_default (groups_of (drop i gs)) ≡ from_default (groups_of (drop (i + 1) gs))
default-later gs i g lt e is =
    ap (λ l. from_default (groups_of l)) (group-at gs i g lt e)
    ∙ by g.is_default is
  where
    by : (d : Bool) → d ≡ false → from_default (group_with g d (drop (i + 1) gs)) ≡ from_default (groups_of (drop (i + 1) gs))
    by false h = refl
    by true h = absurd (false≢true (sym h))

pub default-none : (gs : List Group) (i : ℕ) → length gs ≤ i → from_default (groups_of (drop i gs)) ≡ groups_of (drop i gs)
default-none gs i past = ap (λ l. from_default (groups_of l)) (drop_all i gs past) ∙ ap groups_of (sym (drop_all i gs past))
