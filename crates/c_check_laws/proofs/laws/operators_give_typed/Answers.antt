use Rattle.std.specs.Prelude.{◌≡◌, Option, None, Some}
use Rattle.c_type.specs.Trees.{TypeTree}
use Rattle.c_typed.specs.Typed.{ExprTree}
use Rattle.c_typed.specs.WellTyped.{Scope, ExprIsTyped, type_of}
use Rattle.c_check_def.specs.Conversions.{converts}
use Rattle.c_check_laws.specs.TypedOperands.{IfSome}
use Rattle.c_check_laws.proofs.Values.{ValueOf, value_typed, converts_typed}
use Rattle.c_check_laws.proofs.Binary.{binary_is_typed, conditional_is_typed}
use Rattle.c_check_laws.proofs.Operators.{unary_is_typed, index_is_typed, member_is_typed, cast_is_typed, size_is_typed}
use Rattle.c_check_laws.proofs.Assigning.{assigned_is_typed, step_is_typed}
use Rattle.c_check_laws.proofs.laws.operators_give_typed.Goals as goal

as_pair : (c : Scope) (t : TypeTree) (o : Option ExprTree) → IfSome (ValueOf c t) o → IfSome (λ x. ExprIsTyped c x × (type_of x ≡ t)) o
as_pair c t None h = tt
as_pair c t (Some e) h = (h.typed, h.type)

pub returns-clause-values : goal.returns-clause-values
returns-clause-values c = value_typed

pub returns-clause-conversions : goal.returns-clause-conversions
returns-clause-conversions c = λ k t e ty. as_pair k t (converts t e) (converts_typed k t e ty)

pub returns-clause-unary : goal.returns-clause-unary
returns-clause-unary c = unary_is_typed

pub returns-clause-steps : goal.returns-clause-steps
returns-clause-steps c = step_is_typed

pub returns-clause-members : goal.returns-clause-members
returns-clause-members c = member_is_typed

pub returns-clause-casts : goal.returns-clause-casts
returns-clause-casts c = cast_is_typed

pub returns-clause-sizes : goal.returns-clause-sizes
returns-clause-sizes c = size_is_typed

pub returns-clause-binary : goal.returns-clause-binary
returns-clause-binary c = binary_is_typed

pub returns-clause-indexes : goal.returns-clause-indexes
returns-clause-indexes c = index_is_typed

pub returns-clause-assignments : goal.returns-clause-assignments
returns-clause-assignments c = assigned_is_typed

pub returns-clause-conditionals : goal.returns-clause-conditionals
returns-clause-conditionals c = conditional_is_typed
