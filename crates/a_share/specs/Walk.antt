-- What the walk back finds of a function's lines.
use Rattle.std.specs.Prelude.{◌≡◌, ◌≢◌, ◌==◌, ◌<◌, ◌≤◌, ◌+◌, ℕ, nat_le, Bool, false, not, ◌&&◌, if◌then◌else◌, List, [], ◌∷◌, slice_get, Contains, Option, Some, None}
use Rattle.s_linear.specs.Linear.{Instr, move}
use Rattle.s_linear.specs.Lines.{Line, done, branch_not_zero, branch_zero, branch_equal, line_names}
use Rattle.a_place.specs.Share.{writes}
use Rattle.a_place.specs.Marks.{Mark}
use Rattle.a_share.specs.declared.walk.Segment.{Segment}

abbrev pub names_in : Option ℕ → List ℕ
names_in None = []
names_in (Some x) = x ∷ []

-- the predicate of a branch
abbrev pub predicates_of : Line → List ℕ
predicates_of (branch_not_zero p l) = p ∷ []
predicates_of (branch_zero p l) = p ∷ []
predicates_of (branch_equal p r l) = p ∷ []
predicates_of l = []

abbrev pub has : (position : ℕ) → Segment → Bool
has i s = nat_le s.first i && nat_le i s.last

abbrev pub count_if : {X : Type 0} → (X → Bool) → List X → ℕ
count_if test [] = 0
count_if test (x ∷ xs) = (if test x then 1 else 0) + count_if test xs

-- The segments of a name: an instruction stands in one of them where the name is needed after it, and in none else, and only the
-- first instruction of a segment may write the name.
pub record AreNeedOf (ls : List Line) (ms : List Mark) (name : ℕ) (segments : List Segment) : Type 0 where
  pub needed : (i : ℕ) (instr : Instr) (m : Mark) → slice_get ls i ≡ Some (done instr) → slice_get ms i ≡ Some m
      → count_if (has i) segments ≡ (if m.after name then 1 else 0)
  pub begun : (s : Segment) (i : ℕ) (instr : Instr) → Contains segments s → s.first < i → i ≤ s.last → slice_get ls i ≡ Some (done instr)
      → writes instr name ≡ false

-- the depth of each line that has names
abbrev pub AreDepthsOf : List Line → List Mark → List ℕ → Type 0
AreDepthsOf ls ms depths =
    (i : ℕ) (l : Line) (m : Mark) → slice_get ls i ≡ Some l → slice_get ms i ≡ Some m → line_names l ≢ [] → slice_get depths i ≡ Some m.depth

-- which moves are from another name that is needed after them
abbrev pub AreCopiesOf : List Line → List Mark → List Bool → Type 0
AreCopiesOf ls ms copies =
    (i t a : ℕ) (m : Mark) → slice_get ls i ≡ Some (done (move t a)) → slice_get ms i ≡ Some m → slice_get copies i ≡ Some (not (t == a) && m.after a)
