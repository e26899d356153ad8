-- The texts of a list of rows, and a text that begins with another one.
use Rattle.std.specs.Prelude.{◌≡◌, ℕ, ◌++◌, ◌==◌, ◌%◌, ◌^◌, List, length, codes, decimal, flat_map, count_by, sum_by}
use Rattle.r_rule.specs.declared.steps.Rule.{Rule}
use Rattle.r_rule.specs.declared.steps.Step.{Step}
use Rattle.r_rule.specs.Names.{rule_name, all_rules, rule_place}
use Rattle.cc_watch.specs.Rows.{PlainRow}

-- a blank and a number in decimal
abbrev pub number_text : ℕ → List ℕ
number_text n = codes " " ++ decimal n

-- ---- the log: a line for each function, and a line for each step

abbrev pub step_text : Step → List ℕ
step_text s = rule_name s.rule ++ number_text s.node ++ codes "\n"

abbrev pub head_text : PlainRow → List ℕ
head_text r = codes "function " ++ r.name ++ number_text r.before ++ number_text r.after ++ codes "\n"

abbrev pub row_text : PlainRow → List ℕ
row_text r = head_text r ++ flat_map step_text r.steps

abbrev pub log_text : List PlainRow → List ℕ
log_text = flat_map row_text

-- ---- the counts: one line, each number modulo 2^32

-- how many of these steps are of a rule
abbrev pub steps_of : Rule → List Step → ℕ
steps_of k = count_by (λ s. rule_place s.rule == rule_place k)

-- how many steps of a rule the rows have
abbrev pub applied : Rule → List PlainRow → ℕ
applied k = sum_by (λ r. steps_of k r.steps)

abbrev pub rule_text : (count : Rule → ℕ) → Rule → List ℕ
rule_text count k = codes " " ++ rule_name k ++ number_text (count k)

unfoldable pub rules_text : (count : Rule → ℕ) → List ℕ
rules_text count = flat_map (rule_text count) all_rules

abbrev pub functions_text : ℕ → List ℕ
functions_text functions = codes "functions" ++ number_text functions

abbrev pub values_text : (before after : ℕ) → List ℕ
values_text before after = codes " before" ++ number_text before ++ codes " after" ++ number_text after ++ codes "\n"

abbrev pub counts_text : (functions : ℕ) (count : Rule → ℕ) (before after : ℕ) → List ℕ
counts_text functions count before after =
    functions_text functions ++ rules_text count ++ values_text before after

abbrev pub count_text : List PlainRow → List ℕ
count_text rows =
    counts_text (length rows % 2 ^ 32) (λ k. applied k rows % 2 ^ 32) (sum_by (λ r. r.before) rows % 2 ^ 32) (sum_by (λ r. r.after) rows % 2 ^ 32)

-- the text goes on from another one
abbrev pub Extends : (before after : List ℕ) → Type 0
Extends before after = (more : List ℕ) × (after ≡ before ++ more)
