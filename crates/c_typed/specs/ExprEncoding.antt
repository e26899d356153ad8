-- How the logic stores an expression: the number of its form, and then what it is made of.
use Rattle.std.proofs.Common.{◌≡◌, ℕ, refl, ap, sym, ◌∙◌, arith}
use Rattle.std.specs.Prelude.{◌==◌, true, false}
use Rattle.std.proofs.lemmas.Bool.{false≢true}
use Rattle.std.proofs.lemmas.Bool.Decides.{nat_tests}
use Rattle.std.specs.Coded.{Coded, coded_ℕ}
use base.Stored.{Gv, gnil, gnum, gcons}
use Rattle.c_type.specs.TreeEncoding.{coded_tree}
use Rattle.c_typed.specs.contracts.operator.UnaryOp as unary_op
use Rattle.c_typed.specs.contracts.operator.BinaryOp as binary_op
use Rattle.c_typed.specs.contracts.operator.CompoundOp as compound_op
use Rattle.c_typed.specs.contracts.operator.IncDec as inc_dec_op
use Rattle.c_typed.specs.Typed.{ExprTree, expr, FormTree, PlaceTree, place, PlaceFormTree, ExprTrees, no_exprs, expr_then, constant, read, address, unary, binary, logical_and, logical_or, conditional, comma, assign, compound, inc_dec, call, get, local, global, at, member}

abbrev pub head : Gv → Gv
head gnil = gnil
head (gnum n) = gnil
head (gcons a b) = a

abbrev pub tail : Gv → Gv
tail gnil = gnil
tail (gnum n) = gnil
tail (gcons a b) = b

-- the bits of a form's number
abbrev pub bit_0 : Gv → Gv
bit_0 rest = gcons gnil rest

abbrev pub bit_1 : Gv → Gv
bit_1 rest = gcons (gcons gnil gnil) rest

abbrev mutual
  pub expr_code : ExprTree → Gv
  expr_code (expr t f) = gcons (coded_tree.code t) (form_code f)

  pub form_code : FormTree → Gv
  form_code (constant a) = gcons (gnum 0) (gcons (coded_ℕ.code a) gnil)
  form_code (read a) = gcons (gnum 1) (gcons (place_code a) gnil)
  form_code (address a) = gcons (gnum 2) (gcons (place_code a) gnil)
  form_code (unary a b) = gcons (gnum 3) (gcons (unary_op.the_row.coded.code a) (gcons (expr_code b) gnil))
  form_code (binary a b c) = gcons (gnum 4) (gcons (binary_op.the_row.coded.code a) (gcons (expr_code b) (gcons (expr_code c) gnil)))
  form_code (logical_and a b) = gcons (gnum 5) (gcons (expr_code a) (gcons (expr_code b) gnil))
  form_code (logical_or a b) = gcons (gnum 6) (gcons (expr_code a) (gcons (expr_code b) gnil))
  form_code (conditional a b c) = gcons (gnum 7) (gcons (expr_code a) (gcons (expr_code b) (gcons (expr_code c) gnil)))
  form_code (comma a b) = gcons (gnum 8) (gcons (exprs_code a) (gcons (expr_code b) gnil))
  form_code (assign a b) = gcons (gnum 9) (gcons (place_code a) (gcons (expr_code b) gnil))
  form_code (compound a b c) = gcons (gnum 10) (gcons (compound_op.the_row.coded.code a) (gcons (place_code b) (gcons (expr_code c) gnil)))
  form_code (inc_dec a b) = gcons (gnum 11) (gcons (inc_dec_op.the_row.coded.code a) (gcons (place_code b) gnil))
  form_code (call a b) = gcons (gnum 12) (gcons (coded_ℕ.code a) (gcons (exprs_code b) gnil))
  form_code get = gcons (gnum 13) gnil

  pub exprs_code : ExprTrees → Gv
  exprs_code no_exprs = gnil
  exprs_code (expr_then e es) = gcons (expr_code e) (exprs_code es)

  pub place_code : PlaceTree → Gv
  place_code (place t f) = gcons (coded_tree.code t) (place_form_code f)

  pub place_form_code : PlaceFormTree → Gv
  place_form_code (local a) = gcons (gnum 0) (gcons (coded_ℕ.code a) gnil)
  place_form_code (global a) = gcons (gnum 1) (gcons (coded_ℕ.code a) gnil)
  place_form_code (at a) = gcons (gnum 2) (gcons (expr_code a) gnil)
  place_form_code (member a b) = gcons (gnum 3) (gcons (place_code a) (gcons (coded_ℕ.code b) gnil))

-- the number in front of a form
abbrev number_of : Gv → ℕ
number_of (gcons (gnum n) rest) = n
number_of rest = 0

itself : (n : ℕ) → (n == n) ≡ true
itself n = grind (arith, nat_tests)

apart : {A : Type 0} (j k : ℕ) → (j == k) ≡ false → j ≡ k → A
apart j k f e = absurd (false≢true (sym f ∙ ap (λ x. j == x) (sym e) ∙ itself j))

mutual
  pub expr_inj : (x y : ExprTree) → expr_code x ≡ expr_code y → x ≡ y
  expr_inj (expr t f) (expr u g) p = λ i. expr (coded_tree.inj t u (ap (λ g. head g) p) i) (form_inj f g (ap (λ g. tail g) p) i)

  pub form_inj : (x y : FormTree) → form_code x ≡ form_code y → x ≡ y
  form_inj (constant a) (constant u) p = λ i. constant (coded_ℕ.inj a u (ap (λ g. head (tail g)) p) i)
  form_inj (read a) (read u) p = λ i. read (place_inj a u (ap (λ g. head (tail g)) p) i)
  form_inj (address a) (address u) p = λ i. address (place_inj a u (ap (λ g. head (tail g)) p) i)
  form_inj (unary a b) (unary u v) p = λ i. unary (unary_op.the_row.coded.inj a u (ap (λ g. head (tail g)) p) i) (expr_inj b v (ap (λ g. head (tail (tail g))) p) i)
  form_inj (binary a b c) (binary u v w) p =
      λ i. binary (binary_op.the_row.coded.inj a u (ap (λ g. head (tail g)) p) i) (expr_inj b v (ap (λ g. head (tail (tail g))) p) i) (expr_inj c w (ap (λ g. head (tail (tail (tail g)))) p) i)
  form_inj (logical_and a b) (logical_and u v) p = λ i. logical_and (expr_inj a u (ap (λ g. head (tail g)) p) i) (expr_inj b v (ap (λ g. head (tail (tail g))) p) i)
  form_inj (logical_or a b) (logical_or u v) p = λ i. logical_or (expr_inj a u (ap (λ g. head (tail g)) p) i) (expr_inj b v (ap (λ g. head (tail (tail g))) p) i)
  form_inj (conditional a b c) (conditional u v w) p =
      λ i. conditional (expr_inj a u (ap (λ g. head (tail g)) p) i) (expr_inj b v (ap (λ g. head (tail (tail g))) p) i) (expr_inj c w (ap (λ g. head (tail (tail (tail g)))) p) i)
  form_inj (comma a b) (comma u v) p = λ i. comma (exprs_inj a u (ap (λ g. head (tail g)) p) i) (expr_inj b v (ap (λ g. head (tail (tail g))) p) i)
  form_inj (assign a b) (assign u v) p = λ i. assign (place_inj a u (ap (λ g. head (tail g)) p) i) (expr_inj b v (ap (λ g. head (tail (tail g))) p) i)
  form_inj (compound a b c) (compound u v w) p =
      λ i. compound (compound_op.the_row.coded.inj a u (ap (λ g. head (tail g)) p) i) (place_inj b v (ap (λ g. head (tail (tail g))) p) i) (expr_inj c w (ap (λ g. head (tail (tail (tail g)))) p) i)
  form_inj (inc_dec a b) (inc_dec u v) p = λ i. inc_dec (inc_dec_op.the_row.coded.inj a u (ap (λ g. head (tail g)) p) i) (place_inj b v (ap (λ g. head (tail (tail g))) p) i)
  form_inj (call a b) (call u v) p = λ i. call (coded_ℕ.inj a u (ap (λ g. head (tail g)) p) i) (exprs_inj b v (ap (λ g. head (tail (tail g))) p) i)
  form_inj get get p = refl
  form_inj x y p = apart (number_of (form_code x)) (number_of (form_code y)) refl (ap number_of p)

  pub exprs_inj : (x y : ExprTrees) → exprs_code x ≡ exprs_code y → x ≡ y
  exprs_inj no_exprs no_exprs p = refl
  exprs_inj (expr_then e es) (expr_then d ds) p = λ i. expr_then (expr_inj e d (ap (λ g. head g) p) i) (exprs_inj es ds (ap (λ g. tail g) p) i)
  exprs_inj x y p = absurd cc

  pub place_inj : (x y : PlaceTree) → place_code x ≡ place_code y → x ≡ y
  place_inj (place t f) (place u g) p = λ i. place (coded_tree.inj t u (ap (λ g. head g) p) i) (place_form_inj f g (ap (λ g. tail g) p) i)

  pub place_form_inj : (x y : PlaceFormTree) → place_form_code x ≡ place_form_code y → x ≡ y
  place_form_inj (local a) (local u) p = λ i. local (coded_ℕ.inj a u (ap (λ g. head (tail g)) p) i)
  place_form_inj (global a) (global u) p = λ i. global (coded_ℕ.inj a u (ap (λ g. head (tail g)) p) i)
  place_form_inj (at a) (at u) p = λ i. at (expr_inj a u (ap (λ g. head (tail g)) p) i)
  place_form_inj (member a b) (member u v) p = λ i. member (place_inj a u (ap (λ g. head (tail g)) p) i) (coded_ℕ.inj b v (ap (λ g. head (tail (tail g))) p) i)
  place_form_inj x y p = apart (number_of (place_form_code x)) (number_of (place_form_code y)) refl (ap number_of p)

abbrev pub coded_expr : Coded ExprTree
coded_expr = record { code = expr_code; inj = expr_inj }

abbrev pub coded_place : Coded PlaceTree
coded_place = record { code = place_code; inj = place_inj }
