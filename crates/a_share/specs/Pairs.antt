-- Segments made of bounds in ascending order: from each of two to the next.
use Rattle.std.specs.Prelude.{◌≡◌, ℕ, ◌-◌, nat_lt, if◌then◌else◌, List, [], ◌∷◌, ◌++◌, min}
use Rattle.std.specs.List.Sorted.{IsPermutation, IsSorted}
use Rattle.std.specs.Ordering.{nat_cmp}
use Rattle.a_share.specs.declared.walk.Segment.{Segment}

-- before a position
abbrev pub segment_of : (end x y : ℕ) → List Segment
segment_of end x y = if nat_lt x (min y end) then record { first = x; last = min y end - 1 } ∷ [] else []

abbrev pub pairs : (end : ℕ) → List ℕ → List Segment
pairs end [] = []
pairs end (x ∷ []) = []
pairs end (x ∷ y ∷ bounds) = segment_of end x y ++ pairs end bounds

-- the segments of these bounds in ascending order
pub record IsMadeOf (end : ℕ) (bounds : List ℕ) (segments : List Segment) : Type 0 where
  pub sorted : List ℕ
  pub same : IsPermutation bounds sorted
  pub ascending : IsSorted nat_cmp sorted
  pub pairs_of : segments ≡ pairs end sorted
