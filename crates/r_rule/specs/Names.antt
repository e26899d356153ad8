-- The rules, by name and in order.
use Rattle.std.specs.Prelude.{ℕ, List, [], ◌∷◌, codes}
use Rattle.r_rule.specs.declared.steps.Rule.{Rule}
use Rattle.r_rule.specs.declared.steps.Rule.TheVariants.{Fold, Cne, Dne, Inv, Push, Pull, Invert, Unroll, Inline}

-- the name of a rule in recipes and reports
abbrev pub rule_name : Rule → List ℕ
rule_name Fold = codes "fold"
rule_name Cne = codes "cne"
rule_name Dne = codes "dne"
rule_name Inv = codes "inv"
rule_name Push = codes "psh"
rule_name Pull = codes "pll"
rule_name Invert = codes "ivt"
rule_name Unroll = codes "url"
rule_name Inline = codes "iln"

-- the rules in the order in which a report lists them
abbrev pub all_rules : List Rule
all_rules = Fold ∷ Cne ∷ Dne ∷ Inv ∷ Push ∷ Pull ∷ Invert ∷ Unroll ∷ Inline ∷ []

-- the place of a rule in that order
abbrev pub rule_place : Rule → ℕ
rule_place Fold = 0
rule_place Cne = 1
rule_place Dne = 2
rule_place Inv = 3
rule_place Push = 4
rule_place Pull = 5
rule_place Invert = 6
rule_place Unroll = 7
rule_place Inline = 8
