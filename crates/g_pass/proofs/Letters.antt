-- A text begins with the name of one rule at most.
use Rattle.std.proofs.Common.{◌≡◌, ◌<◌, ℕ, ◌==◌, List, ◌∷◌, ◌++◌, get_or, Option, None, Some, IfSome, IfNone, MatchOption, refl, sym, ap, ◌∙◌, arith}
use Rattle.std.specs.Prelude.{if◌then◌else◌}
use Rattle.r_rule.specs.declared.steps.Rule.{Rule}
use Rattle.r_rule.specs.declared.steps.Rule.TheVariants.{Fold, Cne, Dne, Inv, Push, Pull, Invert, Unroll, Inline}
use Rattle.r_rule.specs.Names.{rule_name, rule_place, all_rules}

-- the rule whose name begins with these letters; those of no name give any rule
rule_by : ℕ → ℕ → Rule
rule_by a b =
    if a == 102 then Fold else if a == 99 then Cne else if a == 100 then Dne else if a == 117 then Unroll
    else if a == 112 then (if b == 115 then Push else Pull) else if b == 110 then Inv else if b == 118 then Invert else Inline

rule_at : List ℕ → Rule
rule_at (a ∷ b ∷ rest) = rule_by a b
rule_at rest = Fold

named : (r : Rule) (rest : List ℕ) → rule_at (rule_name r ++ rest) ≡ r
unfolding rule_at rule_by
named Fold rest = refl
named Cne rest = refl
named Dne rest = refl
named Inv rest = refl
named Push rest = refl
named Pull rest = refl
named Invert rest = refl
named Unroll rest = refl
named Inline rest = refl

pub same_rule : (r k : Rule) (rest others : List ℕ) → rule_name r ++ rest ≡ rule_name k ++ others → r ≡ k
same_rule r k rest others e = sym (named r rest) ∙ ap rule_at e ∙ named k others

-- ---- places

pub place_below : (k : Rule) → rule_place k < 9
place_below Fold = omega arith
place_below Cne = omega arith
place_below Dne = omega arith
place_below Inv = omega arith
place_below Push = omega arith
place_below Pull = omega arith
place_below Invert = omega arith
place_below Unroll = omega arith
place_below Inline = omega arith

pub at_place : (k d : Rule) → get_or all_rules (rule_place k) d ≡ k
at_place Fold d = refl
at_place Cne d = refl
at_place Dne d = refl
at_place Inv d = refl
at_place Push d = refl
at_place Pull d = refl
at_place Invert d = refl
at_place Unroll d = refl
at_place Inline d = refl

-- ---- options

pub if_some : {A : Type 0} (P : Type 0) (Q : A → Type 0) (r : Option A) → MatchOption r P Q → IfSome r Q
if_some P Q None m = tt
if_some P Q (Some x) m = m

pub if_none : {A : Type 0} (P : Type 0) (Q : A → Type 0) (r : Option A) → MatchOption r P Q → IfNone r P
if_none P Q None m = m
if_none P Q (Some x) m = tt

pub on_none : {A : Type 0} (P : Type 0) (r : Option A) → P → IfNone r P
on_none P None p = p
on_none P (Some x) p = tt
