-- What is still to be listed while leaves are listed.
use Rattle.std.specs.Prelude.{◌≡◌, ℕ, ◌+◌, ◌-◌, ◌*◌, ◌<◌, ◌≤◌, if◌then◌else◌, List, [], ◌∷◌, ◌++◌, length, drop}
use Rattle.val_core.specs.declared.leaf.Leaf.{Leaf}
use Rattle.base.specs.Limits.{most_type_bytes}
use Rattle.c_type.specs.Trees.{TypeTree, tree_height}
use Rattle.c_type.specs.Layout.{Definitions, align, size, members_end, members_leaves, leaves_at, repeated, IsLaidOut}
use Rattle.c_type.specs.WellDefined.{AreLaidOut, AreDefinitions}
use Rattle.c_type.specs.Normal.{is_normal}
use Rattle.c_type.specs.declared.listing.Pending.{Pending}
use Rattle.c_type.specs.declared.listing.Pending.TheVariants.{Whole, Members, Elements}

-- the leaves once this is listed after the ones so far
abbrev pub listed : Definitions → Pending → List Leaf → List Leaf
listed defs (Whole t at) out = out ++ leaves_at defs t.now at
listed defs (Members ts at end) out = out ++ members_leaves (size defs) (align defs) (leaves_at defs) at end ts.now
listed defs (Elements t n at first) out =
    out ++ repeated (n - 1) (size defs t.now) (at + size defs t.now) (leaves_at defs t.now)

-- and once all of these are, the last first
abbrev pub all_listed : Definitions → List Pending → List Leaf → List Leaf
all_listed defs [] out = out
all_listed defs (p ∷ ps) out = listed defs p (all_listed defs ps out)

-- the array's first element is listed, from the index `first` on
pub record IsBegun (defs : Definitions) (t : TypeTree) (n at first : ℕ) (out : List Leaf) : Type 0 where
  pub laid_out : IsLaidOut defs t
  pub room : at + n * size defs t ≤ most_type_bytes
  pub some : 0 < n
  pub inside : first ≤ length out
  pub element : drop first out ≡ leaves_at defs t at

-- all of it lies within the most bytes of a type
abbrev pub CanList : Definitions → Pending → List Leaf → Type 0
CanList defs (Whole t at) out = IsLaidOut defs t.now × (at + size defs t.now ≤ most_type_bytes)
CanList defs (Members ts at end) out =
    AreLaidOut defs ts.now × (at + members_end (size defs) (align defs) end ts.now ≤ most_type_bytes)
CanList defs (Elements t n at first) out = IsBegun defs t.now n at first out

abbrev pub CanListAll : Definitions → List Pending → List Leaf → Type 0
CanListAll defs [] out = Unit {0}
CanListAll defs (p ∷ ps) out = CanList defs p (all_listed defs ps out) × CanListAll defs ps out

-- how many leaves a type has
abbrev pub leaf_count : Definitions → TypeTree → ℕ
leaf_count defs t = length (leaves_at defs t 0)

-- In how many steps at most: one for each type that is taken from the list, and one for each leaf. A normal type has at
-- most one struct or array less than it has leaves.
abbrev pub type_work : Definitions → TypeTree → ℕ
type_work defs t = if is_normal defs t then 6 * leaf_count defs t - 4 else 6 * leaf_count defs t + 3 * tree_height t

abbrev pub members_work : Definitions → List TypeTree → ℕ
members_work defs [] = 1
members_work defs (t ∷ ts) = type_work defs t + 1 + members_work defs ts

abbrev pub work : Definitions → Pending → ℕ
work defs (Whole t at) = type_work defs t.now
work defs (Members ts at end) = members_work defs ts.now
work defs (Elements t n at first) = 1 + (n - 1) * leaf_count defs t.now

abbrev pub all_work : Definitions → List Pending → ℕ
all_work defs [] = 0
all_work defs (p ∷ ps) = work defs p + all_work defs ps

-- this can be listed after the leaves so far, and then the others can
pub record CanGoOn (defs : Definitions) (next : Pending) (others : List Pending) (out : List Leaf) : Type 0 where
  pub ordered : AreDefinitions defs
  pub next_can : CanList defs next out
  pub others_can : CanListAll defs others (listed defs next out)

-- Once this was listed or its members are left to be, all of the leaves will be as before, for the work that it was.
pub record HasGoneOn (defs : Definitions) (next : Pending) (others left : List Pending) (out new : List Leaf) : Type 0 where
  pub same : all_listed defs left new ≡ all_listed defs others (listed defs next out)
  pub can : CanListAll defs left new
  pub grows : length out ≤ length new
  pub cost : all_work defs left + 1 + length new ≤ all_work defs others + work defs next + length out
