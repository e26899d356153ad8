-- Lines of a log without the byte 10 that ends them.
use Rattle.std.specs.Prelude.{ℕ, List, [], ◌++◌, codes}
use Rattle.r_rule.specs.Names.{rule_name}
use Rattle.r_rule.specs.declared.steps.Step.{Step}
use Rattle.cc_watch.specs.Rows.{PlainRow}
use Rattle.cc_watch.specs.Texts.{number_text}

abbrev pub head_line : PlainRow → List ℕ
head_line r = codes "function " ++ r.name ++ number_text r.before ++ number_text r.after

abbrev pub step_line : Step → List ℕ
step_line s = rule_name s.rule ++ number_text s.node

-- a row of which only the function line is known
abbrev pub head_row : (name : List ℕ) → (before after : ℕ) → PlainRow
head_row name before after = record { name = name; before = before; after = after; steps = [] }
