-- Logs as texts: for each function a line with its name and how many values its graph has before and after, and then a
-- line for each step that was applied to it.
use Rattle.std.specs.Prelude.{◌≡◌, ◌≢◌, ℕ, suc, ◌+◌, ◌<◌, ◌≤◌, ◌^◌, ◌⊎◌, List, [], ◌∷◌, ◌++◌, length, map, refl}
use Rattle.std.specs.List.{AllByRecursion}
use Rattle.std.specs.Coded.{Coded, code_by, coded×, coded_ℕ, coded_list}
use Rattle.base.specs.Limits.{most_name_bytes}
use Rattle.c_lex.specs.Grammar.{IsIdentifier}
use Rattle.r_rule.specs.declared.steps.Step.{Step}
use Rattle.r_rule.specs.Optimised.{coded_steps}
use Rattle.cc_watch.specs.Rows.{PlainRow}
use Rattle.cc_watch.specs.Texts.{head_text, step_text, log_text}

-- how many bytes a log has at most
abbrev pub most_log_bytes : ℕ
most_log_bytes = 2147483648

-- ---- what lines may say

-- a function line: a name of the language, and two numbers of 32 bits
pub record IsHead (r : PlainRow) : Type 0 where
  pub name : IsIdentifier r.name
  pub short : length r.name ≤ most_name_bytes
  pub before : r.before < 2 ^ 32
  pub after : r.after < 2 ^ 32

-- a step line
abbrev pub IsStep : Step → Type 0
IsStep s = s.node < 2 ^ 32

-- a function line and its step lines
pub record IsRow (r : PlainRow) : Type 0 where
  pub head : IsHead r
  pub steps : AllByRecursion IsStep r.steps

-- These bytes are the log of these rows.
pub record IsLogOf (rows : List PlainRow) (bytes : List ℕ) : Type 0 where
  pub rows_are : AllByRecursion IsRow rows
  pub text : bytes ≡ log_text rows

-- ---- lines by number, from 1

abbrev pub line_count : List PlainRow → ℕ
line_count [] = 0
line_count (r ∷ rows) = suc (length r.steps) + line_count rows

-- a row with the number of its function line
pub record PlainPart : Type 0 where
  pub name : List ℕ
  pub line : ℕ
  pub before : ℕ
  pub after : ℕ
  pub steps : List Step

abbrev pub coded_part : Coded PlainPart
coded_part =
    code_by (List ℕ × (ℕ × (ℕ × (ℕ × List Step)))) (coded× (coded_list coded_ℕ) (coded× coded_ℕ (coded× coded_ℕ (coded× coded_ℕ coded_steps))))
    (λ p. (p.name, (p.line, (p.before, (p.after, p.steps)))))
    (λ p. record { name = p.0; line = p.1.0; before = p.1.1.0; after = p.1.1.1.0; steps = p.1.1.1.1 }) (λ _. refl)

-- the rows of a log
abbrev pub row_of_part : PlainPart → PlainRow
row_of_part p = record { name = p.name; before = p.before; after = p.after; steps = p.steps }

abbrev pub rows_of : List PlainPart → List PlainRow
rows_of log = map row_of_part log

abbrev pub part_of : PlainRow → (line : ℕ) → PlainPart
part_of r line = record { name = r.name; line = line; before = r.before; after = r.after; steps = r.steps }

-- rows whose first line has this number
abbrev pub parts_from : (line : ℕ) → List PlainRow → List PlainPart
parts_from line [] = []
parts_from line (r ∷ rows) = part_of r line ∷ parts_from (line + suc (length r.steps)) rows

abbrev pub parts_of : List PlainRow → List PlainPart
parts_of rows = parts_from 1 rows

-- ---- where bytes are no log

-- After the lines of some rows there is more, and it begins with no line that may follow: at this line.
pub record BreaksAt (line : ℕ) (bytes : List ℕ) : Type 0 where
  pub rows : List PlainRow
  pub rest : List ℕ
  pub rows_are : AllByRecursion IsRow rows
  pub text : bytes ≡ log_text rows ++ rest
  pub number : line ≡ suc (line_count rows)
  pub more : rest ≢ []
  pub no_head : (r : PlainRow) (after : List ℕ) → IsHead r → rest ≢ head_text r ++ after
  pub no_step : rows ≢ [] → (s : Step) (after : List ℕ) → IsStep s → rest ≢ step_text s ++ after

-- ---- laws

-- Bytes are the log of one list of rows at most.
abbrev pub OneReading : Type 0
OneReading = (rows others : List PlainRow) (bytes : List ℕ) → IsLogOf rows bytes → IsLogOf others bytes → rows ≡ others

-- They break at one line at most,
abbrev pub OneBreak : Type 0
OneBreak = (bytes : List ℕ) (line other : ℕ) → BreaksAt line bytes → BreaksAt other bytes → line ≡ other

-- and at none where they are a log.
abbrev pub LogsDoNotBreak : Type 0
LogsDoNotBreak = (rows : List PlainRow) (bytes : List ℕ) (line : ℕ) → IsLogOf rows bytes → BreaksAt line bytes → ⊥

-- Bytes are a log, or they break at a line.
abbrev pub LogOrBreak : Type 0
LogOrBreak = (bytes : List ℕ) → ((rows : List PlainRow) × IsLogOf rows bytes) ⊎ ((line : ℕ) × BreaksAt line bytes)

-- A log has no more lines than bytes.
abbrev pub LogsHaveFewLines : Type 0
LogsHaveFewLines = (rows : List PlainRow) (bytes : List ℕ) → IsLogOf rows bytes → line_count rows ≤ length bytes
