-- How long the lines of a log are.
use Rattle.std.specs.Prelude.{codes, decimal, flat_map}
use Rattle.std.specs.List.{AllByRecursion}
use Rattle.std.proofs.Common.{◌≤◌, ◌<◌, ◌+◌, ◌*◌, ◌^◌, ℕ, List, [], ◌∷◌, ◌++◌, length, length-append, arith}
use Rattle.std.proofs.lemmas.Fmt.{length-decimal-le}
use Rattle.r_rule.specs.Names.{rule_name}
use Rattle.r_rule.specs.declared.steps.Rule.{Rule}
use Rattle.r_rule.specs.declared.steps.Rule.TheVariants.{Fold, Cne, Dne, Inv, Push, Pull, Invert, Unroll, Inline}
use Rattle.r_rule.specs.declared.steps.Step.{Step}
use Rattle.cc_watch.specs.Rows.{PlainRow}
use Rattle.cc_watch.specs.Texts.{number_text, step_text, head_text, row_text}
use Rattle.log_check.specs.Log.{IsHead, IsStep, IsRow}

number_length : (n : ℕ) → n < 2 ^ 32 → length (number_text n) ≤ 11
number_length n small =
    let digits = length-decimal-le 10 n (omega arith) (omega (arith, small)) (omega (arith, small)) in
    omega (arith, digits, length-append (codes " ") (decimal n))

rule_length : (r : Rule) → length (rule_name r) ≤ 4
rule_length Fold = omega arith
rule_length Cne = omega arith
rule_length Dne = omega arith
rule_length Inv = omega arith
rule_length Push = omega arith
rule_length Pull = omega arith
rule_length Invert = omega arith
rule_length Unroll = omega arith
rule_length Inline = omega arith

step_length : (s : Step) → IsStep s → length (step_text s) ≤ 16
step_length s small =
    omega (
      arith,
      rule_length s.rule,
      number_length s.node small,
      length-append (rule_name s.rule ++ number_text s.node) (codes "\n"),
      length-append (rule_name s.rule) (number_text s.node),
    )

steps_length : (steps : List Step) → AllByRecursion IsStep steps → length (flat_map step_text steps) ≤ 16 * length steps
steps_length [] h = omega arith
steps_length (s ∷ steps) h = omega (arith, step_length s h.0, steps_length steps h.1, length-append (step_text s) (flat_map step_text steps))

head_length : (r : PlainRow) → IsHead r → length (head_text r) ≤ 95
head_length r h =
    let before = number_text r.before in
    let after = number_text r.after in
    omega (
      arith,
      h.short,
      number_length r.before h.before,
      number_length r.after h.after,
      length-append (codes "function " ++ r.name ++ before ++ after) (codes "\n"),
      length-append (codes "function " ++ r.name ++ before) after,
      length-append (codes "function " ++ r.name) before,
      length-append (codes "function ") r.name,
    )

pub row_length : (r : PlainRow) → IsRow r → length (row_text r) ≤ 95 + 16 * length r.steps
row_length r h =
    omega (arith, head_length r h.head, steps_length r.steps h.steps, length-append (head_text r) (flat_map step_text r.steps))
