-- How far the walk has come back over a code: a row is left.
use Rattle.std.proofs.Common.{◌≡◌, ◌≤◌, ℕ, ◌+◌, Bool, true, false, List, [], ◌++◌, length, Option, refl, sym, arith}
use Rattle.std.proofs.lemmas.List.{append-nil}
use Rattle.s_linear.specs.Lines.{Line}
use Rattle.a_place.specs.Share.{Names}
use Rattle.a_place.specs.Marks.{Mark}
use Rattle.a_share.specs.Rows.{StandAt, Row, row_lines, row_marks, row_needed}
use Rattle.a_share.specs.Bounds.{differ}
use Rattle.a_share.specs.Walking.{IsAt, Keeps, KeepsFrom, IsWalked, RowStands}
use Rattle.a_share.specs.declared.needs.Needs.{Needs}
use Rattle.a_share.proofs.Standing.{stand_end}
use Rattle.a_share.proofs.Holding.{held_append, keeps_more, kept_same, still_held}

pub none_kept : (w : Needs) (b : ℕ) → Keeps w w b []
none_kept w b = record {
  changed = sym (append-nil w.changed.items);
  below = refl;
  now = λ x. sym (no_more _);
  need = λ x k h. refl;
  size = refl;
  kept = λ x c h. h;
  depths = λ i h. refl;
  copies = λ i h. refl;
  depths_size = refl;
  copies_size = refl;
}
  where
    no_more : (n : Bool) → differ n false ≡ n
    no_more true = refl
    no_more false = refl

-- A row is walked where its last lines are and then the rest.
pub walked_more : (lines : List Line) (w v u : Needs) (a m b : ℕ) (ls ks : List Line) (ms ns : List Mark) (N M : Names) → StandAt lines a ls m → m ≤ b
    → IsWalked w v m b ks ns M → IsWalked v u a m ls ms N → b ≡ m + length ks → IsWalked w u a b (ls ++ ks) (ms ++ ns) N
walked_more lines w v u a m b ls ks ms ns N M s l p q e = record {
  here = q.here;
  held = held_append u a m ls ks ms ns (stand_end lines a m ls s) q.held
      (still_held v u m b m ks ns (omega arith) (omega arith) (kept_same v u m m b q.keeps.0 (omega arith) q.keeps.1) p.held);
  keeps = (p.keeps.0 ++ q.keeps.0, keeps_more w v u b m p.keeps.0 q.keeps.0 l p.keeps.1 q.keeps.1);
}

-- ---- what is left

-- This row is left, whose walk ends the walk from `old`.
pub record IsLeft (lines : List Line) (J : ℕ → Bool) (stop : Option ℕ) (d : ℕ) (old : Needs) (a : ℕ) (whole : Row) (b : ℕ) (N : Names) (w : Needs) (at : ℕ) (r : Row)
    (M : Names) : Type 0 where
  pub stands : RowStands lines J stop a r at M
  pub here : IsAt w at M
  pub keeps : KeepsFrom old w b
  pub low : at ≤ b
  pub then : (v : Needs) → IsWalked w v a at (row_lines r) (row_marks d r M) (row_needed r M)
      → IsWalked old v a b (row_lines whole) (row_marks d whole N) (row_needed whole N)
