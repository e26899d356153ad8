-- What the sweeps of a recipe do to the functions of a program, as a text.
use Rattle.std.specs.Prelude.{◌≡◌, ℕ, zero, suc, ◌+◌, List, [], ◌∷◌, ◌++◌, codes, decimal}
use Rattle.r_rule.specs.declared.steps.Rule.{Rule}
use Rattle.g_graph.specs.Plain.{PlainLambda, PlainOmega}
use Rattle.r_rule.specs.Optimised.{PlainOptimised}
use Rattle.g_pass_def.specs.Answers.{lambda_of}
use Rattle.g_pass.specs.Counts.{counts_of}
use Rattle.g_pass.specs.declared.replayed_sweeps.SweepCount.{SweepCount}
use Rattle.g_pass.specs.Sweep.{rules}
use Rattle.r_rule.specs.Names.{rule_name}
use Rattle.cc_view_source.specs.Made.{IsMadeWith}
use Rattle.cc_view_source.specs.Names.{function_name}

-- ---- the text

-- the sweep of this number: the rule, the nodes that it visits, the steps, and the values before and after
abbrev pub row_text : (number : ℕ) → SweepCount → List ℕ
row_text n c =
    decimal n ++ codes " " ++ rule_name c.rule ++ codes " " ++ decimal c.visited ++ codes " " ++ decimal c.steps ++ codes " " ++ decimal c.before ++ codes " " ++ decimal c.after ++ codes "\n"

-- the sweeps, the first of which has this number
abbrev pub rows_text : (number : ℕ) → List SweepCount → List ℕ
rows_text n [] = []
rows_text n (c ∷ counts) = row_text n c ++ rows_text (n + 1) counts

abbrev pub head_text : (name : List ℕ) → List ℕ
head_text name = codes "function " ++ name ++ codes "\nsweep rule nodes steps before after\n"

abbrev pub table_text : (name : List ℕ) → List SweepCount → List ℕ
table_text name counts = head_text name ++ rows_text 1 counts

-- ---- what it tells

-- The table of a function tells of the sweeps, one after the other, by which its lambda becomes its answer.
pub record IsTable (recipe : List Rule) (omega : PlainOmega) (answers : List PlainOptimised) (f : ℕ) (text : List ℕ) : Type 0 where
  pub callees : List PlainLambda
  pub made : IsMadeWith recipe omega.lambdas answers f callees
  pub is : text ≡ table_text (function_name omega.names f) (counts_of rules callees (record { lambda = lambda_of omega.lambdas f; steps = [] }) recipe)

-- the tables of so many functions, the first ones
abbrev pub AreTables : (recipe : List Rule) (omega : PlainOmega) (answers : List PlainOptimised) (count : ℕ) (text : List ℕ) → Type 0
AreTables recipe omega answers zero text = text ≡ []
AreTables recipe omega answers (suc f) text =
    (front : List ℕ) × (table : List ℕ) × AreTables recipe omega answers f front × IsTable recipe omega answers f table × (text ≡ front ++ table)
