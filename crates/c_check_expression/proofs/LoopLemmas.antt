-- One more element of a list that is walked.
use Rattle.std.proofs.Common.{◌≡◌, ℕ, ◌+◌, ◌<◌, List, [], ◌∷◌, ◌++◌, length, take, get_or, Option, sym, ap, ◌∙◌, append_assoc}
use Rattle.std.proofs.lemmas.List.{append-nil}
use Rattle.c_ast.specs.declared.expression.Dimension.{Dimension}
use Rattle.c_ast.specs.declared.expression.Expr.{Expr}
use Rattle.c_ast.specs.declared.list.Next.{Next}
use Rattle.c_ast.specs.Productions as l
use Rattle.c_ast.specs.Tree.{Tree}
use Rattle.c_ast.specs.Nodes.{many}
use Rattle.c_ast.specs.Expressions.{expr_tree, next, dimension_children}
use Rattle.c_ast.proofs.lemmas.Lists.{many-none}
use Rattle.c_check_def.specs.State.{State, after}
use Rattle.c_check_def.specs.Leaves.{begin_of}
use Rattle.c_check_def.specs.DeclaredTypes.{MaybeSize}
use Rattle.c_check_def.specs.Operands.{Term, Sequence, comma}
use Rattle.c_check_def.specs.Expressions.{expression, more_expressions, more_arguments, dimensions, size}
use Rattle.c_check_state.specs.Frames.{KeepsDeclarations}
use Rattle.c_check_expression.proofs.lemmas.Lists.{many_next}

pub keeps_both : (s t u : State) → KeepsDeclarations s t → KeepsDeclarations t u → KeepsDeclarations s u
keeps_both s t u h k = (k.0 ∙ h.0, k.1 ∙ h.1)

-- the elements after commas, up to one
abbrev up_to : List (Next Expr) → ℕ → Tree
up_to xs i = many l.MoreAssigns (next expr_tree) (take i xs)

-- ---- arguments

pub arguments_none : (before : List Term) (s : State) → before ≡ before ++ (more_arguments (many l.MoreAssigns (next expr_tree) []) s).0
arguments_none before s = sym (append-nil before) ∙ ap (λ t. before ++ (more_arguments t s).0) (sym (many-none l.MoreAssigns (next expr_tree)))

pub arguments_begun : (s : State) → s ≡ (more_arguments (many l.MoreAssigns (next expr_tree) []) s).1
arguments_begun s = ap (λ t. (more_arguments t s).1) (sym (many-none l.MoreAssigns (next expr_tree)))

pub arguments_more : (xs : List (Next Expr)) (i : ℕ) (x : Next Expr) (before all new : List Term) (a : Term) (s t : State) → i < length xs → x ≡ get_or xs i x
    → all ≡ before ++ (more_arguments (up_to xs i) s).0 → t ≡ (more_arguments (up_to xs i) s).1
    → a ≡ (expression (expr_tree x.element) t).0 → new ≡ all ++ a ∷ [] → new ≡ before ++ (more_arguments (up_to xs (i + 1)) s).0
arguments_more xs i x before all new a s t below is had at value push =
    let done = more_arguments (up_to xs i) s in
    push ∙ ap (λ ts. ts ++ a ∷ []) had ∙ append_assoc before done.0 (a ∷ [])
    ∙ ap (λ b. before ++ (done.0 ++ b ∷ [])) (value ∙ ap (λ u. (expression (expr_tree x.element) u).0) at)
    ∙ ap (λ u. before ++ (more_arguments u s).0) (sym (many_next l.MoreAssigns (next expr_tree) xs i x below is))

pub arguments_after : (xs : List (Next Expr)) (i : ℕ) (x : Next Expr) (s t u : State) → i < length xs → x ≡ get_or xs i x
    → t ≡ (more_arguments (up_to xs i) s).1 → u ≡ (expression (expr_tree x.element) t).1 → u ≡ (more_arguments (up_to xs (i + 1)) s).1
arguments_after xs i x s t u below is at new =
    new ∙ ap (λ v. (expression (expr_tree x.element) v).1) at ∙ ap (λ v. (more_arguments v s).1) (sym (many_next l.MoreAssigns (next expr_tree) xs i x below is))

-- ---- commas

abbrev with_next : Next Expr → Option Sequence → State → Option Sequence × State
with_next x all s = after (expression (expr_tree x.element) s) (comma x.comma.at all)

pub commas_more : (xs : List (Next Expr)) (i : ℕ) (x : Next Expr) (first all new : Option Sequence) (b : Term) (s t u : State) → i < length xs → x ≡ get_or xs i x
    → all ≡ (more_expressions first (up_to xs i) s).0 → t ≡ (more_expressions first (up_to xs i) s).1
    → b ≡ (expression (expr_tree x.element) t).0 → u ≡ (expression (expr_tree x.element) t).1
    → new ≡ (comma x.comma.at all b u).0 → new ≡ (more_expressions first (up_to xs (i + 1)) s).0
commas_more xs i x first all new b s t u below is had at value state made =
    let done = more_expressions first (up_to xs i) s in
    made ∙ ap (λ c. (comma x.comma.at all c u).0) value ∙ ap (λ v. (comma x.comma.at all (expression (expr_tree x.element) t).0 v).0) state
    ∙ ap (λ y. (with_next x y t).0) had ∙ ap (λ v. (with_next x done.0 v).0) at
    ∙ ap (λ v. (more_expressions first v s).0) (sym (many_next l.MoreAssigns (next expr_tree) xs i x below is))

pub commas_after : (xs : List (Next Expr)) (i : ℕ) (x : Next Expr) (first all : Option Sequence) (b : Term) (s t u v : State) → i < length xs → x ≡ get_or xs i x
    → all ≡ (more_expressions first (up_to xs i) s).0 → t ≡ (more_expressions first (up_to xs i) s).1
    → b ≡ (expression (expr_tree x.element) t).0 → u ≡ (expression (expr_tree x.element) t).1
    → v ≡ (comma x.comma.at all b u).1 → v ≡ (more_expressions first (up_to xs (i + 1)) s).1
commas_after xs i x first all b s t u v below is had at value state made =
    let done = more_expressions first (up_to xs i) s in
    made ∙ ap (λ c. (comma x.comma.at all c u).1) value ∙ ap (λ w. (comma x.comma.at all (expression (expr_tree x.element) t).0 w).1) state
    ∙ ap (λ y. (with_next x y t).1) had ∙ ap (λ w. (with_next x done.0 w).1) at
    ∙ ap (λ w. (more_expressions first w s).1) (sym (many_next l.MoreAssigns (next expr_tree) xs i x below is))

-- ---- dimensions

abbrev sized : Dimension → State → MaybeSize × State
sized x s = after (expression (expr_tree x.size) s) (size (begin_of (expr_tree x.size)))

pub dimensions_more : (xs : List Dimension) (i : ℕ) (x : Dimension) (all new : List MaybeSize) (n : MaybeSize) (s t : State) → i < length xs → x ≡ get_or xs i x
    → all ≡ (dimensions (many l.Dimensions dimension_children (take i xs)) s).0 → t ≡ (dimensions (many l.Dimensions dimension_children (take i xs)) s).1
    → n ≡ (sized x t).0 → new ≡ all ++ n ∷ [] → new ≡ (dimensions (many l.Dimensions dimension_children (take (i + 1) xs)) s).0
unfolding dimension_children
dimensions_more xs i x all new n s t below is had at value push =
    let done = dimensions (many l.Dimensions dimension_children (take i xs)) s in
    push ∙ ap (λ ns. ns ++ n ∷ []) had ∙ ap (λ m. done.0 ++ m ∷ []) (value ∙ ap (λ u. (sized x u).0) at)
    ∙ ap (λ u. (dimensions u s).0) (sym (many_next l.Dimensions dimension_children xs i x below is))

pub dimensions_after : (xs : List Dimension) (i : ℕ) (x : Dimension) (s t u : State) → i < length xs → x ≡ get_or xs i x
    → t ≡ (dimensions (many l.Dimensions dimension_children (take i xs)) s).1 → u ≡ (sized x t).1
    → u ≡ (dimensions (many l.Dimensions dimension_children (take (i + 1) xs)) s).1
unfolding dimension_children
dimensions_after xs i x s t u below is at new =
    new ∙ ap (λ v. (sized x v).1) at ∙ ap (λ v. (dimensions v s).1) (sym (many_next l.Dimensions dimension_children xs i x below is))
