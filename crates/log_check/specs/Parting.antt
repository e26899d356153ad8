-- Where two lists part.
use Rattle.std.specs.Prelude.{◌≡◌, ◌≢◌, ℕ, ◌<◌, List, slice_get}

-- They have the same elements before this index, and there they have not, or one of them ends.
pub record PartAt {X : Type 0} (xs ys : List X) (index : ℕ) : Type 0 where
  pub same : (j : ℕ) → j < index → slice_get xs j ≡ slice_get ys j
  pub other : slice_get xs index ≢ slice_get ys index
