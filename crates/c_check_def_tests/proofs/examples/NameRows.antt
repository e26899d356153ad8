-- Names, tags and members: what is unknown, and what is declared again.
use Rattle.std.specs.Prelude.{refl, codes}
use Rattle.c_check_def.specs.declared.refusal_kind.RefusalKind.TheVariants.{Unknown, Redeclared, NotConstant, BadType}
use Rattle.c_check_def_tests.proofs.examples.Source.{refusal_of, Tells, IsAccepted}

-- ---- an unknown tag is reported for the second declarator, before the type of the first

unknown_tag-row : Tells Unknown (codes "struct ") (codes "Z *x[], y;")
unfolding refusal_of
unknown_tag-row = refl

-- ---- a tag that is named in a pointer is not declared by that

pointer_tag-row : Tells Unknown (codes "struct S *p; struct ") (codes "S x;")
unfolding refusal_of
pointer_tag-row = refl

parameter_tag-row : Tells Unknown (codes "int f(struct ") (codes "Q);")
unfolding refusal_of
parameter_tag-row = refl

-- ---- the tag of elements of an array parameter need not be declared

element_tag-row : IsAccepted (codes "int f(struct S a[]);")
unfolding refusal_of
element_tag-row = refl

-- ---- a declared struct without members is no object, and has no members

incomplete_object-row : Tells BadType (codes "struct T; struct T ") (codes "t;")
unfolding refusal_of
incomplete_object-row = refl

incomplete_member-row : Tells Unknown (codes "struct Q; struct Q *q; int g(void) { return q->") (codes "x; }")
unfolding refusal_of
incomplete_member-row = refl

-- ---- a variable is in scope in its own initialiser, and not in its own dimensions

own_initialiser-row : IsAccepted (codes "int x = sizeof x;")
unfolding refusal_of
own_initialiser-row = refl

own_dimension-row : Tells NotConstant (codes "int x[") (codes "sizeof x];")
unfolding refusal_of
own_dimension-row = refl

own_parameters-row : Tells Unknown (codes "void g(char c[") (codes "g]);")
unfolding refusal_of
own_parameters-row = refl

-- ---- a function that is nowhere defined, or not declared yet, is not called

undefined_function-row : Tells Unknown (codes "int f(void); int g(void) { return sizeof ") (codes "f(); }")
unfolding refusal_of
undefined_function-row = refl

later_function-row : Tells Unknown (codes "int g(void) { return ") (codes "f(); } int f(void) { return 1; }")
unfolding refusal_of
later_function-row = refl

-- ---- tags, members and other names are three sorts

three_sorts-row : IsAccepted (codes "int S; struct S { int S; };")
unfolding refusal_of
three_sorts-row = refl

-- ---- an inner declaration hides a function

hidden_function-row : IsAccepted (codes "int f(void) { return 1; } int g(void) { int f; f = 2; return f; }")
unfolding refusal_of
hidden_function-row = refl

-- ---- parameters and the outermost block are one scope; the header of a `for` and its body are two

parameter_again-row : Tells Redeclared (codes "int f(int a) { int ") (codes "a; return 1; }")
unfolding refusal_of
parameter_again-row = refl

header_and_body-row : IsAccepted (codes "int g(void) { for (int i; ; ) { int i; } }")
unfolding refusal_of
header_and_body-row = refl

-- ---- declarations in one scope, members, and structs with members

variable_again-row : Tells Redeclared (codes "int x; int ") (codes "x;")
unfolding refusal_of
variable_again-row = refl

member_again-row : Tells Redeclared (codes "struct S { int a; char ") (codes "a; };")
unfolding refusal_of
member_again-row = refl

struct_again-row : Tells Redeclared (codes "struct S { int a; }; struct ") (codes "S { int b; };")
unfolding refusal_of
struct_again-row = refl

empty_struct_again-row : IsAccepted (codes "struct S; struct S { int b; }; struct S;")
unfolding refusal_of
empty_struct_again-row = refl

-- ---- functions may be declared again with the same types, and are defined once

function_again-row : IsAccepted (codes "int f(const int a); int f(int a); short f2(short int a[]); short int f2(short *);")
unfolding refusal_of
function_again-row = refl

other_parameters-row : Tells Redeclared (codes "int f(int a); int ") (codes "f(int b, struct Q c);")
unfolding refusal_of
other_parameters-row = refl

other_result-row : Tells Redeclared (codes "int f(int a); unsigned ") (codes "f(int a);")
unfolding refusal_of
other_result-row = refl

second_definition-row : Tells Redeclared (codes "int f(void) { return 1; } int ") (codes "f(void) { return 2; }")
unfolding refusal_of
second_definition-row = refl

-- ---- three functions are declared before the program begins

predeclared_variable-row : Tells Redeclared (codes "int ") (codes "putchar;")
unfolding refusal_of
predeclared_variable-row = refl

predeclared_definition-row : Tells Redeclared (codes "int ") (codes "putchar(int c) { return 1; }")
unfolding refusal_of
predeclared_definition-row = refl

predeclared_again-row : IsAccepted (codes "int putchar(int c); int getchar(void); void exit(int);")
unfolding refusal_of
predeclared_again-row = refl
