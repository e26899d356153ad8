-- How the logic stores a statement: the number of its form, and then what it is made of.
use Rattle.std.proofs.Common.{◌≡◌, ℕ, refl, ap}
use Rattle.std.specs.Prelude.{Bool}
use Rattle.std.specs.Coded.{Coded, code_by, coded×, coded_ℕ, coded_bool, coded_list}
use base.Stored.{Gv, gnil, gcons}
use Rattle.c_typed.specs.Typed.{OptionalExpr, no_expr, some_expr, ElementTrees, no_elements, value_then, characters_then, InitialTree, no_initial, initial_value, initial_elements, DeclarationTree, StmtTree, ItemTrees, no_items, stmt_then, declare_then, GroupTrees, no_groups, group_then, null, value, block, if_else, loop, do_while, break, continue, return_value, return_none, switch}
use Rattle.c_typed.specs.ExprEncoding.{head, tail, bit_0, bit_1, expr_code, expr_inj}

abbrev pub optional_code : OptionalExpr → Gv
optional_code no_expr = gnil
optional_code (some_expr e) = gcons (expr_code e) gnil

pub optional_inj : (x y : OptionalExpr) → optional_code x ≡ optional_code y → x ≡ y
optional_inj no_expr no_expr p = refl
optional_inj (some_expr e) (some_expr d) p = ap some_expr (expr_inj e d (ap head p))
optional_inj x y p = absurd cc

abbrev pub elements_code : ElementTrees → Gv
elements_code no_elements = gnil
elements_code (value_then o e es) = gcons (bit_0 (gcons (coded_ℕ.code o) (expr_code e))) (elements_code es)
elements_code (characters_then o cs es) = gcons (bit_1 (gcons (coded_ℕ.code o) ((coded_list coded_ℕ).code cs))) (elements_code es)

pub elements_inj : (x y : ElementTrees) → elements_code x ≡ elements_code y → x ≡ y
elements_inj no_elements no_elements p = refl
elements_inj (value_then o e es) (value_then q d ds) p =
    λ i. value_then (coded_ℕ.inj o q (ap (λ g. head (tail (head g))) p) i) (expr_inj e d (ap (λ g. tail (tail (head g))) p) i) (elements_inj es ds (ap tail p) i)
elements_inj (characters_then o c es) (characters_then q d ds) p =
    λ i. characters_then (coded_ℕ.inj o q (ap (λ g. head (tail (head g))) p) i) ((coded_list coded_ℕ).inj c d (ap (λ g. tail (tail (head g))) p) i) (elements_inj es ds (ap tail p) i)
elements_inj x y p = absurd cc

abbrev pub initial_code : InitialTree → Gv
initial_code no_initial = gnil
initial_code (initial_value e) = bit_0 (expr_code e)
initial_code (initial_elements es) = bit_1 (elements_code es)

pub initial_inj : (x y : InitialTree) → initial_code x ≡ initial_code y → x ≡ y
initial_inj no_initial no_initial p = refl
initial_inj (initial_value e) (initial_value d) p = ap initial_value (expr_inj e d (ap tail p))
initial_inj (initial_elements es) (initial_elements ds) p = ap initial_elements (elements_inj es ds (ap tail p))
initial_inj x y p = absurd cc

abbrev pub coded_initial : Coded InitialTree
coded_initial = record { code = initial_code; inj = initial_inj }

abbrev pub coded_declaration : Coded DeclarationTree
coded_declaration =
    code_by (ℕ × (Bool × InitialTree)) (coded× coded_ℕ (coded× coded_bool coded_initial)) (λ d. (d.variable, (d.names_itself, d.initial)))
    (λ p. record { variable = p.0; names_itself = p.1.0; initial = p.1.1 }) (λ _. refl)

abbrev mutual
  pub stmt_code : StmtTree → Gv
  stmt_code null = gcons (bit_0 (bit_0 (bit_0 (bit_0 gnil)))) gnil
  stmt_code (value a) = gcons (bit_0 (bit_0 (bit_0 (bit_1 gnil)))) (gcons (expr_code a) gnil)
  stmt_code (block a) = gcons (bit_0 (bit_0 (bit_1 (bit_0 gnil)))) (gcons (items_code a) gnil)
  stmt_code (if_else a b c) = gcons (bit_0 (bit_0 (bit_1 (bit_1 gnil)))) (gcons (expr_code a) (gcons (stmt_code b) (gcons (stmt_code c) gnil)))
  stmt_code (loop a b c) = gcons (bit_0 (bit_1 (bit_0 (bit_0 gnil)))) (gcons (optional_code a) (gcons (optional_code b) (gcons (stmt_code c) gnil)))
  stmt_code (do_while a b) = gcons (bit_0 (bit_1 (bit_0 (bit_1 gnil)))) (gcons (stmt_code a) (gcons (expr_code b) gnil))
  stmt_code break = gcons (bit_0 (bit_1 (bit_1 (bit_0 gnil)))) gnil
  stmt_code continue = gcons (bit_0 (bit_1 (bit_1 (bit_1 gnil)))) gnil
  stmt_code (return_value a) = gcons (bit_1 (bit_0 (bit_0 (bit_0 gnil)))) (gcons (expr_code a) gnil)
  stmt_code return_none = gcons (bit_1 (bit_0 (bit_0 (bit_1 gnil)))) gnil
  stmt_code (switch a b) = gcons (bit_1 (bit_0 (bit_1 (bit_0 gnil)))) (gcons (expr_code a) (gcons (groups_code b) gnil))

  pub items_code : ItemTrees → Gv
  items_code no_items = gnil
  items_code (stmt_then s is) = gcons (bit_0 (stmt_code s)) (items_code is)
  items_code (declare_then d is) = gcons (bit_1 (coded_declaration.code d)) (items_code is)

  pub groups_code : GroupTrees → Gv
  groups_code no_groups = gnil
  groups_code (group_then cs d is gs) = gcons (gcons ((coded_list coded_ℕ).code cs) (gcons (coded_bool.code d) (items_code is))) (groups_code gs)

mutual
  pub stmt_inj : (x y : StmtTree) → stmt_code x ≡ stmt_code y → x ≡ y
  stmt_inj null null p = refl
  stmt_inj (value a) (value u) p = λ i. value (expr_inj a u (ap (λ g. head (tail g)) p) i)
  stmt_inj (block a) (block u) p = λ i. block (items_inj a u (ap (λ g. head (tail g)) p) i)
  stmt_inj (if_else a b c) (if_else u v w) p =
      λ i. if_else (expr_inj a u (ap (λ g. head (tail g)) p) i) (stmt_inj b v (ap (λ g. head (tail (tail g))) p) i) (stmt_inj c w (ap (λ g. head (tail (tail (tail g)))) p) i)
  stmt_inj (loop a b c) (loop u v w) p =
      λ i. loop (optional_inj a u (ap (λ g. head (tail g)) p) i) (optional_inj b v (ap (λ g. head (tail (tail g))) p) i) (stmt_inj c w (ap (λ g. head (tail (tail (tail g)))) p) i)
  stmt_inj (do_while a b) (do_while u v) p = λ i. do_while (stmt_inj a u (ap (λ g. head (tail g)) p) i) (expr_inj b v (ap (λ g. head (tail (tail g))) p) i)
  stmt_inj break break p = refl
  stmt_inj continue continue p = refl
  stmt_inj (return_value a) (return_value u) p = λ i. return_value (expr_inj a u (ap (λ g. head (tail g)) p) i)
  stmt_inj return_none return_none p = refl
  stmt_inj (switch a b) (switch u v) p = λ i. switch (expr_inj a u (ap (λ g. head (tail g)) p) i) (groups_inj b v (ap (λ g. head (tail (tail g))) p) i)
  stmt_inj x y p = absurd cc

  pub items_inj : (x y : ItemTrees) → items_code x ≡ items_code y → x ≡ y
  items_inj no_items no_items p = refl
  items_inj (stmt_then s is) (stmt_then t js) p = λ i. stmt_then (stmt_inj s t (ap (λ g. tail (head g)) p) i) (items_inj is js (ap (λ g. tail g) p) i)
  items_inj (declare_then d is) (declare_then e js) p =
      λ i. declare_then (coded_declaration.inj d e (ap (λ g. tail (head g)) p) i) (items_inj is js (ap (λ g. tail g) p) i)
  items_inj x y p = absurd cc

  pub groups_inj : (x y : GroupTrees) → groups_code x ≡ groups_code y → x ≡ y
  groups_inj no_groups no_groups p = refl
  groups_inj (group_then cs d is gs) (group_then cs' d' is' gs') p =
      λ i. group_then ((coded_list coded_ℕ).inj cs cs' (ap (λ g. head (head g)) p) i) (coded_bool.inj d d' (ap (λ g. head (tail (head g))) p) i)
      (items_inj is is' (ap (λ g. tail (tail (head g))) p) i) (groups_inj gs gs' (ap (λ g. tail g) p) i)
  groups_inj x y p = absurd cc

abbrev pub coded_stmt : Coded StmtTree
coded_stmt = record { code = stmt_code; inj = stmt_inj }

abbrev pub coded_items : Coded ItemTrees
coded_items = record { code = items_code; inj = items_inj }
