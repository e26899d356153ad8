-- Declarations: dimensions, types, and initialisers.
use Rattle.std.specs.Prelude.{refl, codes}
use Rattle.c_check_def.specs.declared.refusal_kind.RefusalKind.TheVariants.{Unknown, NotConstant, BadInitialiser, BadType}
use Rattle.c_check_def_tests.proofs.examples.Source.{refusal_of, Tells, IsAccepted}

-- ---- a dimension is constant even where a rule is broken within it

dimension_and_unknown-row : Tells NotConstant (codes "int a[") (codes "1 + y];")
unfolding refusal_of
dimension_and_unknown-row = refl

unknown_dimension-row : Tells Unknown (codes "int a[") (codes "y];")
unfolding refusal_of
unknown_dimension-row = refl

void_and_unknown-row : Tells BadType (codes "void ") (codes "a[y];")
unfolding refusal_of
void_and_unknown-row = refl

operands_of_size-row : IsAccepted (codes "int x[sizeof putchar(1)]; int y[1 ? 2 : 1 / 0];")
unfolding refusal_of
operands_of_size-row = refl

division_by_zero-row : Tells NotConstant (codes "int x = ") (codes "1 / 0;")
unfolding refusal_of
division_by_zero-row = refl

far_shift-row : Tells NotConstant (codes "int x = ") (codes "1 << 32;")
unfolding refusal_of
far_shift-row = refl

-- ---- types that are not declared

empty_dimension-row : Tells BadType (codes "int ") (codes "a[];")
unfolding refusal_of
empty_dimension-row = refl

inner_empty_dimension-row : Tells BadType (codes "int f(int ") (codes "a[2][]);")
unfolding refusal_of
inner_empty_dimension-row = refl

struct_result-row : Tells BadType (codes "struct S { int a; }; struct S ") (codes "f(void);")
unfolding refusal_of
struct_result-row = refl

void_result-row : Tells BadType (codes "void *") (codes "f(void);")
unfolding refusal_of
void_result-row = refl

struct_parameter-row : Tells BadType (codes "struct S { int a; }; int f(") (codes "struct S);")
unfolding refusal_of
struct_parameter-row = refl

nameless_parameter-row : Tells BadType (codes "int f(") (codes "const int) { return 1; }")
unfolding refusal_of
nameless_parameter-row = refl

incomplete_elements-row : Tells BadType (codes "struct Q; int f(struct Q ") (codes "a[2][2]);")
unfolding refusal_of
incomplete_elements-row = refl

large_parameter-row : IsAccepted (codes "int f(int a[1048576]);")
unfolding refusal_of
large_parameter-row = refl

large_elements-row : Tells BadType (codes "int f(int ") (codes "a[][1048576]);")
unfolding refusal_of
large_elements-row = refl

unknown_first_dimension-row : Tells Unknown (codes "int f(int a[") (codes "y][1048576]);")
unfolding refusal_of
unknown_first_dimension-row = refl

large_struct-row : Tells BadType (codes "struct ") (codes "S { char a[1048576]; char b; };")
unfolding refusal_of
large_struct-row = refl

large_type_name-row : Tells BadType (codes "int g(void) { return sizeof(") (codes "char[1048576][2]); }")
unfolding refusal_of
large_type_name-row = refl

-- ---- a list within which a rule is broken breaks none itself

unknown_element-row : Tells Unknown (codes "int x[1] = {") (codes "y, 2};")
unfolding refusal_of
unknown_element-row = refl

element_not_constant-row : Tells NotConstant (codes "int y; int x[1] = {") (codes "y, 2};")
unfolding refusal_of
element_not_constant-row = refl

scalar_for_array-row : Tells BadInitialiser (codes "int a[2][3] = {") (codes "1, 2, 3};")
unfolding refusal_of
scalar_for_array-row = refl

many_elements-row : Tells BadInitialiser (codes "char a[2] = ") (codes "{1, 2, 3};")
unfolding refusal_of
many_elements-row = refl

many_members-row : Tells BadInitialiser (codes "struct s { int a; }; struct s t = ") (codes "{1, 2};")
unfolding refusal_of
many_members-row = refl

-- ---- what needs a list, and what has none

array_without_list-row : Tells BadInitialiser (codes "int a[] = ") (codes "1;")
unfolding refusal_of
array_without_list-row = refl

list_for_scalar-row : Tells BadInitialiser (codes "int x = ") (codes "{0};")
unfolding refusal_of
list_for_scalar-row = refl

-- ---- `{0}` is the number 0 alone

zero_lists-row : IsAccepted (codes "int a[2][2] = {0}, b[] = {00}, c[2][2] = {{0x0,}, {0}};")
unfolding refusal_of
zero_lists-row = refl

unsigned_zero-row : Tells BadInitialiser (codes "int a[2][2] = {") (codes "0u};")
unfolding refusal_of
unsigned_zero-row = refl

-- ---- strings initialise arrays of characters

strings-row : IsAccepted (codes "char a[3] = \"abc\", b[] = \"a\" \"b\"; signed char c[4] = \"abc\"; unsigned char d[2][3] = {\"ab\", \"c\"};")
unfolding refusal_of
strings-row = refl

long_string-row : Tells BadInitialiser (codes "char a[3] = ") (codes "\"abcd\";")
unfolding refusal_of
long_string-row = refl

string_in_list-row : Tells BadInitialiser (codes "char a[4] = {") (codes "\"abc\"};")
unfolding refusal_of
string_in_list-row = refl

parenthesised_string-row : Tells BadInitialiser (codes "char a[4] = ") (codes "(\"abc\");")
unfolding refusal_of
parenthesised_string-row = refl

-- ---- constants at file scope

integer_for_pointer-row : Tells BadInitialiser (codes "int *p = ") (codes "5;")
unfolding refusal_of
integer_for_pointer-row = refl

pointer_value-row : Tells NotConstant (codes "int *q; int *p = ") (codes "q;")
unfolding refusal_of
pointer_value-row = refl

address_of_element-row : Tells NotConstant (codes "int a[2]; int *p = ") (codes "&a[0];")
unfolding refusal_of
address_of_element-row = refl

address_of_string-row : Tells NotConstant (codes "char *p = ") (codes "&\"a\";")
unfolding refusal_of
address_of_string-row = refl

addresses-row : IsAccepted (codes "int a[2]; int *p = a; char *s = (\"abc\"); int v; int *w = (&(v)); int *n = 1 - 1; struct S { struct S *p; } ; struct S own = {&own};")
unfolding refusal_of
addresses-row = refl
