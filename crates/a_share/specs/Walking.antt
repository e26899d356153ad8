-- What the walk has found at the lines that it has passed.
use Rattle.std.specs.Prelude.{◌≡◌, ◌≢◌, ◌<◌, ◌≤◌, ◌⊎◌, ℕ, zero, suc, ◌+◌, ◌-◌, ◌==◌, Bool, true, false, not, ◌&&◌, if◌then◌else◌, List, [], ◌∷◌, ◌++◌, map, replicate, length, slice_get, Option, Some, None, IsTrue}
use Rattle.g_graph.specs.WellFormed.{all_of}
use Rattle.s_linear.specs.Linear.{Instr, move, choice, Code, Codes, LinearFunction}
use Rattle.s_linear.specs.Lines.{Line, leave, done, jump, label, line_names, names_below, counted, last_from, others_from, step_lines, lines}
use Rattle.a_place.specs.Share.{Names, writes, at_label, at_branch}
use Rattle.a_place.specs.Marks.{Mark, instr_marks, marks}
use Rattle.a_place.specs.Turns.{IsWrittenOr, CodeHasOwnTurns, HaveOwnTurns, HasOwnTurns}
use Rattle.a_share.specs.Bounds.{differ, bounds_of, need_at, needed_now, has_bound, is_odd_in, AreBelow}
use Rattle.a_share.specs.Rows.{StandAt, Row, row_lines, RowFits, turn_lines, CodeIsUnjumped, CodesAreUnjumped}
use Rattle.a_share.specs.declared.needs.Needs.{Needs}
use Rattle.a_share.specs.declared.walk.Before.{Before}
use Rattle.a_share.specs.declared.walk.Before.TheVariants.{Nothing, Instr as AnInstr, Label as ALabel, Loop as ALoop, Choice as AChoice}

-- These names are needed at a position and, as far as the walk has come, at each before it.
abbrev pub IsAt : Needs → (position : ℕ) → Names → Type 0
IsAt w b N = (x k : ℕ) → k ≤ b → need_at w.toggles x k ≡ N x

-- what is found at a line with a mark
pub record IsHeldAt (w : Needs) (a : ℕ) (l : Line) (m : Mark) : Type 0 where
  pub depth : line_names l ≢ [] → slice_get w.depths.items a ≡ Some m.depth
  pub after : (i : Instr) → l ≡ done i → (x : ℕ) → need_at w.toggles x (suc a) ≡ m.after x
  pub cut : (i : Instr) → l ≡ done i → (x : ℕ) → IsTrue (writes i x) → IsTrue (m.after x) → IsTrue (has_bound w.toggles x a)
  pub copy : (t b : ℕ) → l ≡ done (move t b) → slice_get w.copies.items a ≡ Some (not (t == b) && m.after b)

-- So it is at each of these lines, which stand from a position on.
abbrev pub AreHeld : Needs → (a : ℕ) → List Line → List Mark → Type 0
AreHeld w a [] [] = Unit {0}
AreHeld w a (l ∷ ls) (m ∷ ms) = IsHeldAt w a l m × AreHeld w (suc a) ls ms
AreHeld w a _ _ = ⊥

-- what the walk changes before a position
pub record Keeps (old new : Needs) (b : ℕ) (names : List ℕ) : Type 0 where
  pub changed : new.changed.items ≡ old.changed.items ++ names
  pub below : AreBelow (length old.toggles) names
  pub now : (x : ℕ) → needed_now new.toggles x ≡ differ (needed_now old.toggles x) (is_odd_in x names)
  pub need : (x k : ℕ) → b < k → need_at new.toggles x k ≡ need_at old.toggles x k
  pub size : length new.toggles ≡ length old.toggles
  pub kept : (x c : ℕ) → IsTrue (has_bound old.toggles x c) → IsTrue (has_bound new.toggles x c)
  pub depths : (i : ℕ) → b ≤ i → slice_get new.depths.items i ≡ slice_get old.depths.items i
  pub copies : (i : ℕ) → b ≤ i → slice_get new.copies.items i ≡ slice_get old.copies.items i
  pub depths_size : length new.depths.items ≡ length old.depths.items
  pub copies_size : length new.copies.items ≡ length old.copies.items

abbrev pub KeepsFrom : (old new : Needs) (b : ℕ) → Type 0
KeepsFrom old new b = (names : List ℕ) × Keeps old new b names

-- Lines with marks are walked from position b back to a, where these names are needed then.
pub record IsWalked (old new : Needs) (a b : ℕ) (ls : List Line) (ms : List Mark) (N : Names) : Type 0 where
  pub here : IsAt new a N
  pub held : AreHeld new a ls ms
  pub keeps : KeepsFrom old new b

-- Moves back that stand from a position up to another are walked, and what was needed before the walk over them is needed again.
pub record AreMovedBack (d : ℕ) (back : List Instr) (L : Names) (old new : Needs) (a b : ℕ) : Type 0 where
  pub held : AreHeld new a (map done back) (instr_marks d back L)
  pub changed : new.changed.items ≡ old.changed.items
  pub low : (x k : ℕ) → k ≤ a → need_at new.toggles x k ≡ need_at old.toggles x k
  pub high : (x k : ℕ) → b < k → need_at new.toggles x k ≡ need_at old.toggles x k
  pub size : length new.toggles ≡ length old.toggles
  pub kept : (x c : ℕ) → IsTrue (has_bound old.toggles x c) → IsTrue (has_bound new.toggles x c)
  pub depths : (i : ℕ) → (i < a) ⊎ (b ≤ i) → slice_get new.depths.items i ≡ slice_get old.depths.items i
  pub copies : (i : ℕ) → (i < a) ⊎ (b ≤ i) → slice_get new.copies.items i ≡ slice_get old.copies.items i
  pub depths_size : length new.depths.items ≡ length old.depths.items
  pub copies_size : length new.copies.items ≡ length old.copies.items

-- the walk over these lines has room for them
pub record HasRoom (lines : List Line) (is_jumped : ℕ → Bool) (w : Needs) : Type 0 where
  pub names : IsTrue (all_of (names_below (length w.toggles)) lines)
  pub jumps : (i l : ℕ) → slice_get lines i ≡ Some (jump l) → is_jumped l ≡ true
  pub depths : length w.depths.items ≡ length lines
  pub copies : length w.copies.items ≡ length lines

-- the line before a position, where there is one
abbrev pub line_before : List Line → (position : ℕ) → Option Line
line_before lines zero = None
line_before lines (suc i) = slice_get lines i

-- The walk stops at a position: a branch or the first line stands before it, or the label at which it stops, or another label
-- after a jump to that.
pub data Stops (lines : List Line) (stop : Option ℕ) (a : ℕ) : Type 0 where
  at_line : (l : Line) → line_before lines a ≡ Some l → ((i : Instr) → l ≢ done i) → ((n : ℕ) → l ≢ label n) → ((n : ℕ) → l ≢ jump n) → Stops lines stop a
  at_its_label : (n : ℕ) → line_before lines a ≡ Some (label n) → stop ≡ Some n → Stops lines stop a
  at_a_label : (n s : ℕ) → line_before lines a ≡ Some (label n) → line_before lines (a - 1) ≡ Some (jump s) → stop ≡ Some s → Stops lines stop a

-- a row stands up to a position and begins where the walk stops
pub record RowStands (lines : List Line) (is_jumped : ℕ → Bool) (stop : Option ℕ) (a : ℕ) (r : Row) (b : ℕ) (N : Names) : Type 0 where
  pub stands : StandAt lines a (row_lines r) b
  pub stops : Stops lines stop a
  pub fits : RowFits is_jumped stop r N

-- a loop stands from a position up to another
pub record LoopStands (lines : List Line) (is_jumped : ℕ → Bool) (a first : ℕ) (body : Code) (p : ℕ) (back : List Instr) (b : ℕ) (N : Names) : Type 0 where
  pub stands : StandAt lines a (turn_lines first body p back) b
  pub own : IsWrittenOr (at_label body p back N) back N
  pub body_own : CodeHasOwnTurns body (at_branch body p back N)
  pub unjumped : CodeIsUnjumped is_jumped (2 + first) body

-- a choice of two codes or more stands from a position up to another
pub record ChoiceStands (lines : List Line) (is_jumped : ℕ → Bool) (a first p : ℕ) (cs : Codes) (b : ℕ) (N : Names) : Type 0 where
  pub stands : StandAt lines a (step_lines first (choice p cs)) b
  pub two : 2 ≤ counted cs
  pub own : HaveOwnTurns cs N
  pub unjumped : CodesAreUnjumped is_jumped (last_from (first + counted cs) cs) (others_from (first + counted cs) cs) cs

-- ---- what stands before a position

abbrev pub is_stop : (stop : Option ℕ) → (label : ℕ) → Bool
is_stop None n = false
is_stop (Some s) n = s == n

-- where a line jumps to
abbrev pub jump_of : Option Line → Option ℕ
jump_of (Some (jump l)) = Some l
jump_of _ = None

abbrev after_label : (is_jumped : ℕ → Bool) → (stop : Option ℕ) → (label : ℕ) → (jump : Option ℕ) → Before
after_label J stop n (Some l) = if is_stop stop l then Nothing else ALoop l
after_label J stop n None = if J n then AChoice n else ALabel

abbrev pub before_of : (is_jumped : ℕ → Bool) → (stop : Option ℕ) → Option Line → (jump : Option ℕ) → Before
before_of J stop (Some (done i)) j = AnInstr
before_of J stop (Some (label n)) j = if is_stop stop n then Nothing else after_label J stop n j
before_of J stop _ j = Nothing

abbrev pub leave_of : Option Line → Option ℕ
leave_of (Some (leave v)) = Some v
leave_of _ = None

abbrev pub is_done : Option Line → Bool
is_done (Some (done i)) = true
is_done _ = false

abbrev pub is_label_line : Option Line → Bool
is_label_line (Some (label n)) = true
is_label_line _ = false

abbrev pub is_jump_to : (label : ℕ) → Line → Bool
is_jump_to l (jump n) = n == l
is_jump_to l _ = false

-- ---- the whole

-- Nothing is found yet at these lines.
pub record AreFresh (w : Needs) (ls : List Line) : Type 0 where
  pub toggles : (x : ℕ) → bounds_of w.toggles x ≡ []
  pub changed : w.changed.items ≡ []
  pub depths : w.depths.items ≡ replicate (length ls) 0
  pub copies : w.copies.items ≡ replicate (length ls) false
  pub names : IsTrue (all_of (names_below (length w.toggles)) ls)

-- All is found at these lines, and each name has an even number of bounds.
pub record AreWalked (w : Needs) (ls : List Line) (ms : List Mark) : Type 0 where
  pub held : AreHeld w 0 ls ms
  pub even : (x : ℕ) → needed_now w.toggles x ≡ false

-- Of a function with these lines, whose value is given, all is found.
abbrev pub FindsAll : List Line → (value : ℕ) → (old new : Needs) → Type 0
FindsAll ls value old new =
    (f : LinearFunction) → lines f ≡ ls → HasOwnTurns f → f.value ≡ value → AreFresh old ls → AreWalked new (lines f) (marks f)
