-- The broken rule that is reported, and why a program is refused.
use Rattle.std.specs.Prelude.{ℕ, ◌==◌, ◌&&◌, ◌||◌, nat_lt, Bool, if◌then◌else◌, Option, None, Some}
use Rattle.c_check_def.specs.declared.refusal_kind.RefusalKind.{RefusalKind}
use Rattle.c_check_def.specs.declared.refusal_kind.RefusalKind.TheVariants.{Unknown, Redeclared, NotAssignable, BadOperands, BadCall, NotConstant, BadInitialiser, BadType, BadReturn, BadJump, BadLabel}
use Rattle.c_check_def.specs.declared.refusal_kind.Broken.{Broken}
use Rattle.c_check_def.specs.declared.refusal_kind.Quantity.{Quantity}

-- the numbers of the rules
abbrev pub rule_number : RefusalKind → ℕ
rule_number Unknown = 31
rule_number Redeclared = 32
rule_number NotAssignable = 33
rule_number BadOperands = 34
rule_number BadCall = 35
rule_number NotConstant = 36
rule_number BadInitialiser = 37
rule_number BadType = 38
rule_number BadReturn = 39
rule_number BadJump = 40
rule_number BadLabel = 43

-- the lesser offset decides, and at one offset the lesser number
abbrev pub is_before : Broken → Broken → Bool
is_before a b = nat_lt a.offset b.offset || (a.offset == b.offset && nat_lt (rule_number a.rule) (rule_number b.rule))

abbrev pub first_of_both : Option Broken → Broken → Broken
first_of_both None b = b
first_of_both (Some a) b = if is_before b a then b else a

-- Why a program is refused: a broken rule; no `main`; or a quantity above its limit, with the offset of what passes it.
pub data Refusal : Type 0 where
  rule_broken : Broken → Refusal
  no_main : (offset : ℕ) → Refusal
  above_limit : Quantity → (offset count : ℕ) → Refusal
