-- What a fault of the checker says, and a limit that is passed.
use Rattle.std.specs.Prelude.{◌≡◌, ℕ, Option, option_map, Result, Err}
use Rattle.c_typed.specs.Typed.{ProgramTree}
use Rattle.c_check_def.specs.declared.refusal_kind.RefusalKind.{RefusalKind}
use Rattle.c_check_def.specs.declared.refusal_kind.RefusalKind.TheVariants as rule
use Rattle.c_check_def.specs.declared.refusal_kind.Quantity.{Quantity}
use Rattle.c_check_def.specs.declared.refusal_kind.Quantity.TheVariants.{Functions, Parameters, ObjectBytes, GlobalBytes}
use Rattle.c_check_def.specs.Refusals.{Refusal, rule_broken, no_main, above_limit}
use Rattle.c_check.specs.declared.fault.CheckFault.{CheckFault}
use Rattle.c_check.specs.declared.fault.CheckFault.TheVariants as fault
use Rattle.c_check.specs.declared.quantities.Passed.{Passed}

-- the numbers of the quantities
abbrev pub quantity_number : Quantity → ℕ
quantity_number Functions = 1
quantity_number Parameters = 2
quantity_number ObjectBytes = 3
quantity_number GlobalBytes = 4

-- the rule is broken at the offset
abbrev pub Breaks : RefusalKind → (offset : ℕ) → Result ProgramTree Refusal → Type 0
Breaks r offset answer = answer ≡ Err (rule_broken (record { rule = r; offset = offset }))

-- A fault says what the answer is, unless memory ran out.
abbrev pub Refuses : CheckFault → Result ProgramTree Refusal → Type 0
Refuses (fault.Unknown at) answer = Breaks rule.Unknown at answer
Refuses (fault.Redeclared at) answer = Breaks rule.Redeclared at answer
Refuses (fault.NotAssignable at) answer = Breaks rule.NotAssignable at answer
Refuses (fault.BadOperands at) answer = Breaks rule.BadOperands at answer
Refuses (fault.BadCall at) answer = Breaks rule.BadCall at answer
Refuses (fault.NotConstant at) answer = Breaks rule.NotConstant at answer
Refuses (fault.BadInitialiser at) answer = Breaks rule.BadInitialiser at answer
Refuses (fault.BadType at) answer = Breaks rule.BadType at answer
Refuses (fault.BadReturn at) answer = Breaks rule.BadReturn at answer
Refuses (fault.BadJump at) answer = Breaks rule.BadJump at answer
Refuses (fault.BadLabel at) answer = Breaks rule.BadLabel at answer
Refuses (fault.NoMain at) answer = answer ≡ Err (no_main at)
Refuses (fault.Limit at which count) answer = (q : Quantity) × (which ≡ quantity_number q) × (answer ≡ Err (above_limit q at count))
Refuses fault.NoMemory answer = Unit {0}

-- ---- limits that are passed

abbrev pub refusal_of : Passed → Refusal
refusal_of p = above_limit p.quantity p.at p.count

abbrev pub maybe_refusal : Option Passed → Option Refusal
maybe_refusal p = option_map refusal_of p
