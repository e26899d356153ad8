-- Expressions: where a rule of operators and calls is reported, and what within them switches it off.
use Rattle.std.specs.Prelude.{refl, codes}
use Rattle.c_check_def.specs.declared.refusal_kind.RefusalKind.TheVariants.{Unknown, NotAssignable, BadOperands, BadCall, BadType}
use Rattle.c_check_def_tests.proofs.examples.Source.{refusal_of, Tells, IsAccepted}

-- ---- an operator tells of its operands only where all have a type

struct_and_unknown-row : Tells Unknown (codes "struct s { int a; }; int g(void) { struct s s; s * ") (codes "y; return 1; }")
unfolding refusal_of
struct_and_unknown-row = refl

struct_operand-row : Tells BadOperands (codes "struct s { int a; }; int g(void) { int y; struct s s; s ") (codes "* y; return 1; }")
unfolding refusal_of
struct_operand-row = refl

-- ---- a call tells of its arguments also next to one without type

argument_and_unknown-row : Tells BadCall (codes "int fn(int a, int b) { return 1; } int g(int *ip) { return fn") (codes "(ip, zz); }")
unfolding refusal_of
argument_and_unknown-row = refl

many_arguments-row : Tells BadCall (codes "int fn(int a) { return 1; } int g(void) { return fn") (codes "(1, 2); }")
unfolding refusal_of
many_arguments-row = refl

struct_argument-row : Tells BadCall (codes "int fn(int a) { return 1; } struct s { int a; }; int g(struct s *p) { return fn") (codes "(*p); }")
unfolding refusal_of
struct_argument-row = refl

called_variable-row : Tells BadCall (codes "int g(int x) { return x") (codes "(1); }")
unfolding refusal_of
called_variable-row = refl

called_result-row : Tells BadCall (codes "int f(void) { return 1; } int g(void) { return f()") (codes "(); }")
unfolding refusal_of
called_result-row = refl

parenthesised_function-row : Tells BadCall (codes "int f(int a) { return a; } int g(void) { return (") (codes "f)(1); }")
unfolding refusal_of
parenthesised_function-row = refl

-- ---- an assignment tells of its target also next to a value without type

target_and_unknown-row : Tells NotAssignable (codes "int g(void) { 1 ") (codes "= zz; return 1; }")
unfolding refusal_of
target_and_unknown-row = refl

compound_and_unknown-row : Tells Unknown (codes "int g(int *p) { p += ") (codes "zz; return 1; }")
unfolding refusal_of
compound_and_unknown-row = refl

-- ---- a comma tells where its operands have a type, at the comma next to the struct

comma-row : Tells BadOperands (codes "struct s { int a; }; int g(struct s *p) { return (*p") (codes ", 1, 2); }")
unfolding refusal_of
comma-row = refl

second_comma-row : Tells BadOperands (codes "struct s { int a; }; int g(struct s *p) { return (1, 2") (codes ", *p); }")
unfolding refusal_of
second_comma-row = refl

comma_and_unknown-row : Tells Unknown (codes "struct s { int a; }; int g(struct s *p) { return (*p, ") (codes "y); }")
unfolding refusal_of
comma_and_unknown-row = refl

-- ---- what is not assigned: constants, const variables, and their members and elements

increment-row : Tells NotAssignable (codes "int g(void) { 5") (codes "++; return 1; }")
unfolding refusal_of
increment-row = refl

const_variable-row : Tells NotAssignable (codes "int g(void) { const int k = 1; (k) ") (codes "= 2; return 1; }")
unfolding refusal_of
const_variable-row = refl

const_member-row : Tells NotAssignable (codes "struct s { int a; }; int g(void) { const struct s k; k.a ") (codes "= 2; return 1; }")
unfolding refusal_of
const_member-row = refl

const_element-row : Tells NotAssignable (codes "int g(void) { const int a[2]; 0[a] ") (codes "= 2; return 1; }")
unfolding refusal_of
const_element-row = refl

const_target-row : IsAccepted (codes "int g(void) { const int a[2]; *a = 2; return 1; }")
unfolding refusal_of
const_target-row = refl

const_parameter-row : Tells NotAssignable (codes "int g(const int a[]) { a ") (codes "= 0; return 1; }")
unfolding refusal_of
const_parameter-row = refl

const_parameter_element-row : IsAccepted (codes "int g(const int a[]) { a[0] = 1; return 1; }")
unfolding refusal_of
const_parameter_element-row = refl

no_address-row : Tells NotAssignable (codes "int g(int a) { return ") (codes "&+a; }")
unfolding refusal_of
no_address-row = refl

string_address-row : IsAccepted (codes "int g(void) { &\"ab\"; \"ab\"[0] = 1; return 1; }")
unfolding refusal_of
string_address-row = refl

-- ---- null constants compare only by `==` and `!=`

null_order-row : Tells BadOperands (codes "int g(int *p) { return p ") (codes "< 0; }")
unfolding refusal_of
null_order-row = refl

null_comma-row : Tells BadOperands (codes "int g(int *p) { p ") (codes "= (0, 0); return 1; }")
unfolding refusal_of
null_comma-row = refl

null_constants-row : IsAccepted (codes "int *g(int c) { int *p; p = 0u; p = '\\0'; p = 1 - 1; p = !1; p = (char)256; return c ? p : 0; }")
unfolding refusal_of
null_constants-row = refl

-- ---- an incomplete type has no size, and no elements

own_list-row : Tells BadOperands (codes "int a[] = {") (codes "sizeof a};")
unfolding refusal_of
own_list-row = refl

incomplete_size-row : Tells BadOperands (codes "struct Q; int x = ") (codes "sizeof(struct Q[2]);")
unfolding refusal_of
incomplete_size-row = refl

incomplete_sum-row : Tells BadOperands (codes "struct Q; struct Q *q; int g(void) { q ") (codes "+ 1; return 1; }")
unfolding refusal_of
incomplete_sum-row = refl

incomplete_target-row : IsAccepted (codes "struct Q; struct Q *q; int g(void) { &*q; return 1; }")
unfolding refusal_of
incomplete_target-row = refl

incomplete_statement-row : Tells BadOperands (codes "struct Q; struct Q *q; int g(void) { ") (codes "*q; return 1; }")
unfolding refusal_of
incomplete_statement-row = refl

-- ---- members

dot-row : Tells BadOperands (codes "int g(int x) { return x") (codes ".a; }")
unfolding refusal_of
dot-row = refl

arrow-row : Tells BadOperands (codes "struct s { int a; }; int g(void) { struct s s; return s") (codes "->a; }")
unfolding refusal_of
arrow-row = refl

-- ---- a cast goes from an integer to an integer, or to void

struct_cast-row : Tells BadOperands (codes "struct s { int a; }; int g(struct s *p) { ") (codes "(void)*p; return 1; }")
unfolding refusal_of
struct_cast-row = refl

pointer_cast-row : Tells BadOperands (codes "int g(int *p) { p = ") (codes "(int *)0; return 1; }")
unfolding refusal_of
pointer_cast-row = refl

void_pointer-row : Tells BadType (codes "int g(void) { return (") (codes "void *)0 == 0; }")
unfolding refusal_of
void_pointer-row = refl
