-- The lines that are written so far, the first name that is free, and the first label that is free.
use Rattle.std.specs.Prelude.{ℕ, List, ◌++◌}
use Rattle.s_linear.specs.Lines.{Line}

pub record PlainWriter : Type 0 where
  pub lines : List Line
  pub next : ℕ
  pub label : ℕ

abbrev pub with_lines : PlainWriter → List Line → PlainWriter
with_lines w ls = record { lines = w.lines ++ ls; next = w.next; label = w.label }
