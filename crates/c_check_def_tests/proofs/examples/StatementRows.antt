-- Statements.
use Rattle.std.specs.Prelude.{refl, codes}
use Rattle.c_check_def.specs.declared.refusal_kind.RefusalKind.TheVariants.{Unknown, BadOperands, NotConstant, BadType, BadReturn, BadJump, BadLabel}
use Rattle.c_check_def_tests.proofs.examples.Source.{refusal_of, Tells, IsAccepted}

-- ---- a condition is reported at its keyword, also where an earlier clause has a broken rule

for_condition-row : Tells BadOperands (codes "struct s { int a; }; int g(void) { struct s s; ") (codes "for (zz; s; ) ; return 1; }")
unfolding refusal_of
for_condition-row = refl

for_declaration-row : Tells BadOperands (codes "struct s { int a; }; int g(void) { struct s s; ") (codes "for (int i = zz; s; ) ; return 1; }")
unfolding refusal_of
for_declaration-row = refl

typeless_condition-row : Tells BadType (codes "int g(void) { for (void ") (codes "x; x; ) ; return 1; }")
unfolding refusal_of
typeless_condition-row = refl

condition_of_no_type-row : Tells BadType (codes "struct s { int a; }; int g(void) { for (struct s ") (codes "a[]; *a; ) ; return 1; }")
unfolding refusal_of
condition_of_no_type-row = refl

do_condition-row : Tells BadOperands (codes "struct s { int a; }; int g(struct s *p) { do ; ") (codes "while (*p); return 1; }")
unfolding refusal_of
do_condition-row = refl

pointer_subject-row : Tells BadOperands (codes "int g(int *p) { ") (codes "switch (p) { } return 1; }")
unfolding refusal_of
pointer_subject-row = refl

-- ---- what a function gives

value_in_void-row : Tells BadReturn (codes "void v(void) { ") (codes "return v(); }")
unfolding refusal_of
value_in_void-row = refl

unknown_in_void-row : Tells Unknown (codes "void v(void) { return ") (codes "zz; }")
unfolding refusal_of
unknown_in_void-row = refl

no_value-row : Tells BadReturn (codes "int f(void) { ") (codes "return; }")
unfolding refusal_of
no_value-row = refl

struct_value-row : Tells BadReturn (codes "struct s { int a; }; int g(struct s *p) { ") (codes "return *p; }")
unfolding refusal_of
struct_value-row = refl

-- ---- jumps

switch_continue-row : Tells BadJump (codes "void v(void) { switch (1) { case 1: break; default: ") (codes "continue; } }")
unfolding refusal_of
switch_continue-row = refl

loop_continue-row : IsAccepted (codes "void v(void) { while (1) switch (1) { case 1: continue; } }")
unfolding refusal_of
loop_continue-row = refl

outer_break-row : Tells BadJump (codes "void v(void) { ") (codes "break; }")
unfolding refusal_of
outer_break-row = refl

-- ---- labels are compared as words

two_cases-row : Tells BadLabel (codes "void v(void) { switch (1) { case -1: ; ") (codes "case 4294967295u: ; } }")
unfolding refusal_of
two_cases-row = refl

two_defaults-row : Tells BadLabel (codes "void v(void) { switch (1) { default: ; ") (codes "default: ; } }")
unfolding refusal_of
two_defaults-row = refl

inner_labels-row : IsAccepted (codes "void v(void) { switch (1) { case 1: switch (1) { case 1: ; default: ; } default: ; } }")
unfolding refusal_of
inner_labels-row = refl

case_not_constant-row : Tells NotConstant (codes "void v(int y) { switch (1) { case ") (codes "y: ; } }")
unfolding refusal_of
case_not_constant-row = refl
