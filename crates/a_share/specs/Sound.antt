-- What holds of a walk over any lines.
use Rattle.std.specs.Prelude.{◌≡◌, ◌<◌, ◌≤◌, ℕ, List, [], map, slice_index_or, vec_len}
use Rattle.std.specs.List.{All}
use Rattle.a_share.specs.declared.walk.Segment.{Segment}
use Rattle.a_share.specs.declared.walk.Walk.{Walk}

pub record IsWithin (lines : ℕ) (s : Segment) : Type 0 where
  pub ordered : s.first ≤ s.last
  pub inside : s.last < lines

-- the segments of a name
abbrev pub segments_in : Walk → (name : ℕ) → List Segment
segments_in w x = slice_index_or (map (λ v. v.items) w.segments.items) x []

pub record IsSound (lines names : ℕ) (w : Walk) : Type 0 where
  pub segments : vec_len w.segments ≡ names
  pub within : (x : ℕ) → x < names → All (IsWithin lines) (segments_in w x)
  pub depths : vec_len w.depths ≡ lines
  pub copies : vec_len w.copies ≡ lines
