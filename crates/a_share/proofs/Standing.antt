-- Lines that stand in a list of lines.
use Rattle.std.proofs.Common.{◌≡◌, ◌<◌, ◌≤◌, ℕ, zero, suc, ◌+◌, ◌-◌, List, [], ◌∷◌, ◌++◌, length, slice_get, Option, Some, None, refl, sym, ap, ◌∙◌, arith}
use Rattle.s_linear.specs.Lines.{Line}
use Rattle.a_share.specs.Rows.{StandAt}
use Rattle.a_share.specs.Walking.{line_before}

pub stand_split : (lines : List Line) (a b : ℕ) (xs ys : List Line) → StandAt lines a (xs ++ ys) b → (m : ℕ) × StandAt lines a xs m × StandAt lines m ys b
stand_split lines a b [] ys h = (a, refl, h)
stand_split lines a b (x ∷ xs) ys h = let r = stand_split lines (suc a) b xs ys h.1 in (r.0, (h.0, r.1), r.2)

pub stand_end : (lines : List Line) (a b : ℕ) (ls : List Line) → StandAt lines a ls b → b ≡ a + length ls
stand_end lines a b [] h = let e : a ≡ b = h in omega arith
stand_end lines a b (l ∷ ls) h = let r : b ≡ suc a + length ls = stand_end lines (suc a) b ls h.1 in omega arith

pub stand_le : (lines : List Line) (a b : ℕ) (ls : List Line) → StandAt lines a ls b → a ≤ b
stand_le lines a b ls h = let r : b ≡ a + length ls = stand_end lines a b ls h in omega arith

-- the last of these lines
pub stand_last : (lines : List Line) (a b : ℕ) (xs : List Line) (l : Line) → StandAt lines a (xs ++ l ∷ []) b
    → (m : ℕ) × StandAt lines a xs m × (slice_get lines m ≡ Some l) × (b ≡ suc m)
stand_last lines a b xs l h = let r = stand_split lines a b xs (l ∷ []) h in (r.0, r.1, r.2.0, sym r.2.1)

abbrev pub line_or : Line → Option Line → Line
line_or l None = l
line_or l (Some m) = m

-- one line stands at a position
pub same_line : (o : Option Line) (l m : Line) → o ≡ Some l → o ≡ Some m → l ≡ m
same_line o l m e f = sym (ap (line_or l) e) ∙ ap (line_or l) f

pub line_before_is : (lines : List Line) (p : ℕ) → 0 < p → line_before lines p ≡ slice_get lines (p - 1)
line_before_is lines zero h = absurd (omega arith)
line_before_is lines (suc i) h = ap (λ z. slice_get lines z) (let e : i ≡ suc i - 1 = omega arith in e)

stand_after : (l : Line) (lines : List Line) (a b : ℕ) (ls : List Line) → StandAt lines a ls b → StandAt (l ∷ lines) (suc a) ls (suc b)
stand_after l lines a b [] h = ap suc h
stand_after l lines a b (m ∷ ls) h = (h.0, stand_after l lines (suc a) b ls h.1)

pub stand_whole : (lines : List Line) → StandAt lines 0 lines (length lines)
stand_whole [] = refl
stand_whole (l ∷ lines) = (refl, stand_after l lines 0 (length lines) lines (stand_whole lines))
