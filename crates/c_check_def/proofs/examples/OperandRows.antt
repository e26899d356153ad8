-- Worked rows: operands and their types, lvalues, and what is const.
use Rattle.std.specs.Prelude.{◌≡◌, refl, true, false, Some, None}
use Rattle.c_ast.specs.declared.operator.Selection.TheVariants as selection
use Rattle.c_ast.specs.declared.operator.IncDec.TheVariants as step_operator
use Rattle.c_ast.specs.declared.operator.UnaryOp.TheVariants as unary_operator
use Rattle.c_ast.specs.declared.operator.BinaryOp.TheVariants as binary_operator
use Rattle.c_ast.specs.declared.operator.AssignOp.TheVariants as assign_operator
use Rattle.c_type.specs.Trees.{void_type, pointer_to, array_of}
use Rattle.c_typed.specs.WellTyped.{int, unsigned_int}
use Rattle.c_check_def.proofs.examples.Terms.{Term, char, unsigned_char, short, s, q, number, unsigned_number, variable, const_variable, binary, unary, conditional, index, member, assigned, step, cast, size, type, may_be_assigned}

abbrev pointer : Term
pointer = variable (pointer_to int)

-- ---- no operands: p < 0, ip == 1, char * and unsigned char *, s + 1, ip * 2, ip + ip

null-order : binary binary_operator.Less pointer (number 0) ≡ None
null-order = refl

number-equality : binary binary_operator.Equal pointer (number 1) ≡ None
number-equality = refl

other_pointer-equality : binary binary_operator.Equal (variable (pointer_to char)) (variable (pointer_to unsigned_char)) ≡ None
other_pointer-equality = refl

struct-sum : binary binary_operator.Add (variable s) (number 1) ≡ None
struct-sum = refl

pointer-product : binary binary_operator.Multiply pointer (number 2) ≡ None
pointer-product = refl

pointer-sum : binary binary_operator.Add pointer pointer ≡ None
pointer-sum = refl

-- a pointer to an incomplete struct does not move, and has no size to count by
incomplete-sum : binary binary_operator.Add (variable (pointer_to q)) (number 1) ≡ None
incomplete-sum = refl

incomplete-step : step step_operator.Increment (variable (pointer_to q)) ≡ None
incomplete-step = refl

incomplete-size : size q ≡ None
incomplete-size = refl

-- ---- types

-- 0 ? ip : 0, ip == 0, 1 + ip, ip - ip, c + c, c << u, u >> c, i + u
null-choice : type (conditional (number 0) pointer (number 0)) ≡ Some (pointer_to int)
null-choice = refl

null-equality : type (binary binary_operator.Equal pointer (number 0)) ≡ Some int
null-equality = refl

integer_pointer-sum : type (binary binary_operator.Add (number 1) pointer) ≡ Some (pointer_to int)
integer_pointer-sum = refl

pointers-difference : type (binary binary_operator.Subtract pointer pointer) ≡ Some int
pointers-difference = refl

chars-sum : type (binary binary_operator.Add (variable char) (variable char)) ≡ Some int
chars-sum = refl

char-shift : type (binary binary_operator.ShiftLeft (variable char) (unsigned_number 1)) ≡ Some int
char-shift = refl

unsigned-shift : type (binary binary_operator.ShiftRight (unsigned_number 1) (variable char)) ≡ Some unsigned_int
unsigned-shift = refl

mixed-sum : type (binary binary_operator.Add (number 1) (unsigned_number 1)) ≡ Some unsigned_int
mixed-sum = refl

-- +c, &a and *a of int a[2], 1[a]
char-plus : type (unary unary_operator.Plus (variable char)) ≡ Some int
char-plus = refl

array-address : type (unary unary_operator.AddressOf (variable (array_of int 2))) ≡ Some (pointer_to (array_of int 2))
array-address = refl

array-first : type (unary unary_operator.Deref (variable (array_of int 2))) ≡ Some int
array-first = refl

element-type : type (index (number 1) (variable (array_of int 2))) ≡ Some int
element-type = refl

-- p->b[1] and (*p).c->a of a pointer to struct s
member-element : type (index (member selection.Arrow 1 (variable (pointer_to s))) (number 1)) ≡ Some int
member-element = refl

member-chain : type (member selection.Arrow 0 (member selection.Dot 2 (unary unary_operator.Deref (variable (pointer_to s))))) ≡ Some char
member-chain = refl

-- there is no member of what is no struct, nor of one that is not complete
integer-member : member selection.Dot 0 (variable int) ≡ None
integer-member = refl

incomplete-member : member selection.Arrow 0 (variable (pointer_to q)) ≡ None
incomplete-member = refl

-- c += 1 and h <<= 1u have the type of their target, and p -= 1 too
char-compound : type (assigned assign_operator.Add (variable char) (number 1)) ≡ Some char
char-compound = refl

shift-compound : type (assigned assign_operator.ShiftLeft (variable short) (unsigned_number 1)) ≡ Some short
shift-compound = refl

pointer-compound : type (assigned assign_operator.Subtract pointer (number 1)) ≡ Some (pointer_to int)
pointer-compound = refl

-- p = 0 may stand, and p = 1, p *= 2 and i = p may not
null-assignment : type (assigned assign_operator.Plain pointer (number 0)) ≡ Some (pointer_to int)
null-assignment = refl

number-assignment : assigned assign_operator.Plain pointer (number 1) ≡ None
number-assignment = refl

product-compound : assigned assign_operator.Multiply pointer (number 2) ≡ None
product-compound = refl

pointer-assignment : assigned assign_operator.Plain (variable int) pointer ≡ None
pointer-assignment = refl

-- (void)ip may stand, and (void)s and (int)ip may not
void-cast : type (cast void_type pointer) ≡ Some void_type
void-cast = refl

struct-cast : cast void_type (variable s) ≡ None
struct-cast = refl

pointer-cast : cast int pointer ≡ None
pointer-cast = refl

-- ---- what may be assigned

variable-target : may_be_assigned (variable int) ≡ Some true
variable-target = refl

value-target : may_be_assigned (unary unary_operator.Plus (variable int)) ≡ Some false
value-target = refl

array-target : may_be_assigned (variable (array_of int 2)) ≡ Some false
array-target = refl

-- of a const variable neither it, nor its members, nor its elements, in either order
const-target : may_be_assigned (const_variable int) ≡ Some false
const-target = refl

const_member-target : may_be_assigned (member selection.Dot 0 (const_variable s)) ≡ Some false
const_member-target = refl

const_element-target : may_be_assigned (index (number 1) (const_variable (array_of int 2))) ≡ Some false
const_element-target = refl

const_inner-target : may_be_assigned (index (member selection.Dot 1 (const_variable s)) (number 0)) ≡ Some false
const_inner-target = refl

-- *a, a->m and (&k)->a may be assigned, and a[0] of a parameter that is a pointer
const_first-target : may_be_assigned (unary unary_operator.Deref (const_variable (array_of int 2))) ≡ Some true
const_first-target = refl

const_arrow-target : may_be_assigned (member selection.Arrow 0 (const_variable (array_of s 2))) ≡ Some true
const_arrow-target = refl

const_address-target : may_be_assigned (member selection.Arrow 0 (unary unary_operator.AddressOf (const_variable s))) ≡ Some true
const_address-target = refl

const_pointer-target : may_be_assigned (index (const_variable (pointer_to int)) (number 0)) ≡ Some true
const_pointer-target = refl
