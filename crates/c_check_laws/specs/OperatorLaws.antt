-- Laws of the operator rules: of typed operands they make typed expressions, or none.
use Rattle.std.specs.Prelude.{◌≡◌, ℕ, Bool}
use Rattle.c_ast.specs.declared.operator.Selection.{Selection}
use Rattle.c_ast.specs.declared.operator.IncDec.{IncDec}
use Rattle.c_ast.specs.declared.operator.UnaryOp.{UnaryOp}
use Rattle.c_ast.specs.declared.operator.UnaryOp.TheVariants as unary_operator
use Rattle.c_ast.specs.declared.operator.BinaryOp.{BinaryOp}
use Rattle.c_ast.specs.declared.operator.AssignOp.{AssignOp}
use Rattle.c_type.specs.Trees.{TypeTree}
use Rattle.c_typed.specs.Typed.{ExprTree}
use Rattle.c_typed.specs.WellTyped.{Scope, ExprIsTyped, type_of}
use Rattle.c_check_def.specs.declared.operand.Operand.{Operand}
use Rattle.c_check_def.specs.OperandValues.{value_of}
use Rattle.c_check_def.specs.Conversions.{converts}
use Rattle.c_check_def.specs.Operators.{binary_typed, unary_typed, conditional_typed, index_typed, member_typed, cast_typed, size_typed}
use Rattle.c_check_def.specs.Assignments.{assigned_typed, step_typed}
use Rattle.c_check_laws.specs.TypedOperands.{IfSome, OperandIsTyped, ObjectsFit, MayBeTaken}

-- The value of an operand, and a value that is converted to a type.
abbrev pub ValuesAreTyped : Type 0
ValuesAreTyped = (c : Scope) (a : Operand) → ObjectsFit c → OperandIsTyped c a → IfSome (ExprIsTyped c) (value_of a)

abbrev pub ConversionsAreTyped : Type 0
ConversionsAreTyped = (c : Scope) (t : TypeTree) (e : ExprTree) → ExprIsTyped c e → IfSome (λ x. ExprIsTyped c x × (type_of x ≡ t)) (converts t e)

-- Operators with one operand.
abbrev pub UnaryAreTyped : Type 0
UnaryAreTyped =
    (c : Scope) (o : UnaryOp) (a : Operand) → ObjectsFit c → OperandIsTyped c a → (o ≡ unary_operator.AddressOf → MayBeTaken c a) → IfSome (OperandIsTyped c) (unary_typed o a)

abbrev pub StepsAreTyped : Type 0
StepsAreTyped = (c : Scope) (o : IncDec) (gives_old : Bool) (a : Operand) → OperandIsTyped c a → IfSome (ExprIsTyped c) (step_typed c.structs o gives_old a)

abbrev pub MembersAreTyped : Type 0
MembersAreTyped = (c : Scope) (o : Selection) (a : Operand) (k : ℕ) → ObjectsFit c → OperandIsTyped c a → IfSome (OperandIsTyped c) (member_typed c.structs o a k)

abbrev pub CastsAreTyped : Type 0
CastsAreTyped = (c : Scope) (t : TypeTree) (a : Operand) → ObjectsFit c → OperandIsTyped c a → IfSome (ExprIsTyped c) (cast_typed t a)

abbrev pub SizesAreTyped : Type 0
SizesAreTyped = (c : Scope) (t : TypeTree) → IfSome (ExprIsTyped c) (size_typed c.structs t)

-- Operators with more operands.
abbrev pub BinaryAreTyped : Type 0
BinaryAreTyped = (c : Scope) (o : BinaryOp) (a b : Operand) → ObjectsFit c → OperandIsTyped c a → OperandIsTyped c b → IfSome (ExprIsTyped c) (binary_typed c.structs o a b)

abbrev pub IndexesAreTyped : Type 0
IndexesAreTyped = (c : Scope) (a b : Operand) → ObjectsFit c → OperandIsTyped c a → OperandIsTyped c b → IfSome (OperandIsTyped c) (index_typed c.structs a b)

abbrev pub AssignmentsAreTyped : Type 0
AssignmentsAreTyped =
    (c : Scope) (o : AssignOp) (a b : Operand) → ObjectsFit c → OperandIsTyped c a → OperandIsTyped c b → IfSome (ExprIsTyped c) (assigned_typed c.structs o a b)

abbrev pub ConditionalsAreTyped : Type 0
ConditionalsAreTyped =
    (c : Scope) (d a b : Operand) → ObjectsFit c → OperandIsTyped c d → OperandIsTyped c a → OperandIsTyped c b → IfSome (ExprIsTyped c) (conditional_typed d a b)
