-- What is known of a place.
use Rattle.std.specs.Prelude.{◌≡◌, ◌+◌, ◌-◌, ◌≤◌, ◌||◌, ℕ, nat_le, Bool, false, if◌then◌else◌, List, [], ◌∷◌, Option, Some, None}
use Rattle.a_share.specs.Walk.{count_if}
use Rattle.a_share.specs.Sums.{is_in}
use Rattle.a_share.specs.Counts.{AreCounts, between}
use Rattle.a_share.specs.declared.held.Held.{Held}
use Rattle.a_share.specs.declared.walk.Segment.{Segment}

abbrev pub total : {X : Type 0} → (X → ℕ) → List X → ℕ
total f [] = 0
total f (x ∷ xs) = f x + total f xs

-- the counts of a place over so many lines
pub record IsHeld (lines : ℕ) (h : Held) : Type 0 where
  pub firsts : AreCounts h.firsts
  pub lasts : AreCounts h.lasts
  pub writes : AreCounts h.writes
  pub firsts_size : h.firsts.size ≡ lines
  pub lasts_size : h.lasts.size ≡ lines
  pub writes_size : h.writes.size ≡ lines

pub record IsEmpty (h : Held) : Type 0 where
  pub firsts : (l r : ℕ) → between h.firsts l r ≡ 0
  pub lasts : (l r : ℕ) → between h.lasts l r ≡ 0
  pub writes : (l r : ℕ) → between h.writes l r ≡ 0
  pub param : h.has_param ≡ false

-- the segments and the writes of a name are added
pub record AddsTo (lines : ℕ) (ss : List Segment) (ws : List ℕ) (is_param : Bool) (old new : Held) : Type 0 where
  pub firsts : (l r : ℕ) → l ≤ r → r ≤ lines → between new.firsts l r ≡ count_if (λ s. is_in l r s.first) ss + between old.firsts l r
  pub lasts : (l r : ℕ) → l ≤ r → r ≤ lines → between new.lasts l r ≡ count_if (λ s. is_in l r s.last) ss + between old.lasts l r
  pub writes : (l r : ℕ) → l ≤ r → r ≤ lines → between new.writes l r ≡ count_if (is_in l r) ws + between old.writes l r
  pub param : new.has_param ≡ (old.has_param || is_param)

-- how many names of a place are needed after a position
abbrev pub needed_after : Held → (position : ℕ) → ℕ
needed_after h i = between h.firsts 0 (i + 1) - between h.lasts 0 i

-- how often names of a place are written in a segment
abbrev pub written_in : Held → Segment → ℕ
written_in h s = between h.writes s.first (s.last + 1)

abbrev pub meetings : Held → (segments : List Segment) → (writes : List ℕ) → ℕ
meetings h ss ws = total (needed_after h) ws + total (written_in h) ss

-- what is left of a number after another is taken away, where it is as great
abbrev pub remaining : (taken number : ℕ) → Option ℕ
remaining n m = if nat_le n m then Some (m - n) else None
