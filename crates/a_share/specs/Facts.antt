-- What is known of names.
use Rattle.std.specs.Prelude.{◌≡◌, ◌<◌, ℕ, false, List, [], length, slice_index_or, vec_len}
use Rattle.std.specs.List.{All}
use Rattle.s_linear.specs.Lines.{Line}
use Rattle.a_share.specs.Sound.{IsSound, segments_in}
use Rattle.a_share.specs.Tables.{does_write, positions, partners_in, copied_in, is_long_in, param_count}
use Rattle.a_share.specs.declared.walk.Segment.{Segment}
use Rattle.a_share.specs.declared.facts.Facts.{Facts}

-- the facts of a name
abbrev pub segments_of : Facts → (name : ℕ) → List Segment
segments_of F x = segments_in F.walk x

abbrev pub writes_of : Facts → (name : ℕ) → List ℕ
writes_of F x = slice_index_or F.writes x []

abbrev pub partners_of : Facts → (name : ℕ) → List ℕ
partners_of F x = slice_index_or F.partners x []

abbrev pub copied_of : Facts → (name : ℕ) → List ℕ
copied_of F x = slice_index_or F.copied x []

abbrev pub line_number : Facts → ℕ
line_number F = vec_len F.walk.depths

abbrev pub name_number : Facts → ℕ
name_number F = vec_len F.walk.segments

-- Their positions are of lines, and their names below the count.
pub record AreUsable (F : Facts) : Type 0 where
  pub walk : IsSound (line_number F) (name_number F) F.walk
  pub writes_count : length F.writes ≡ name_number F
  pub writes : (x : ℕ) → x < name_number F → All (λ i. i < line_number F) (writes_of F x)
  pub partners_count : length F.partners ≡ name_number F
  pub partners : (x : ℕ) → x < name_number F → All (λ y. y < name_number F) (partners_of F x)
  pub copied_count : length F.copied ≡ name_number F
  pub copied : (x : ℕ) → x < name_number F → All (λ y. y < name_number F) (copied_of F x)
  pub long_count : vec_len F.long ≡ name_number F

-- They are those of these lines.
pub record AreFacts (ls : List Line) (F : Facts) : Type 0 where
  pub writes : (x : ℕ) → x < name_number F → writes_of F x ≡ positions (does_write x) 0 ls
  pub partners : (x : ℕ) → x < name_number F → partners_of F x ≡ partners_in x ls F.walk.depths.items
  pub copied : (x : ℕ) → x < name_number F → copied_of F x ≡ copied_in x ls F.walk.copies.items
  pub long : (x : ℕ) → x < name_number F → slice_index_or F.long.items x false ≡ is_long_in x ls (segments_of F x)
  pub params : F.params ≡ param_count ls
