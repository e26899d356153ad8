-- Repetitions in declarations, one element more.
use Rattle.std.proofs.Common.{◌≡◌, ℕ, Bool, List, [], ◌∷◌, ◌++◌, length, Option, None, Some, is_some, refl, sym, ap, ◌∙◌}
use Rattle.c_lex.specs.declared.punct.Punct.TheVariants as m
use Rattle.c_ast.specs.declared.declaration.Locals.{Locals}
use Rattle.c_ast.specs.declared.token.Span.{Span}
use Rattle.c_ast.specs.Tree.{Tree}
use Rattle.c_ast.specs.Declarations.{declarator as declarator_tree, locals_tree}
use Rattle.c_ast.specs.Specifiers.{constant, spec_tree}
use Rattle.c_check_def.specs.Leaves.{is_present}
use Rattle.c_ast.specs.declared.declaration.OpenDimension.{OpenDimension}
use Rattle.c_ast.specs.declared.declaration.Declarator.{Declarator}
use Rattle.c_ast.specs.declared.list.Next.{Next}
use Rattle.c_ast.specs.Productions as l
use Rattle.c_ast.specs.Declarations as trees
use Rattle.c_ast.specs.Expressions.{expr_tree, next}
use Rattle.c_ast.specs.Nodes.{opt, mark}
use Rattle.c_ast.proofs.lemmas.Lists.{many-none, many-snoc}
use Rattle.c_check_expression.proofs.lemmas.Lists.{count_many}
use Rattle.c_check_scope.specs.Scopes.{Name}
use Rattle.c_check_declaration.specs.Bounds.{variable_typed}
use Rattle.c_typed.specs.Typed.{DeclarationTree, ItemTrees, no_items, stmt_then, declare_then}
use Rattle.c_typed.specs.StmtViews.{items_of, declaration_of}
use Rattle.c_typed.specs.declared.statement.Item.{Item}
use Rattle.c_typed.specs.declared.statement.Item.TheVariants as item
use Rattle.c_check_def.specs.declared.dimension.Dimension.{Dimension}
use Rattle.c_check_def.specs.State.{State}
use Rattle.c_check_def.specs.Specifiers.{Specified, specified_type}
use Rattle.c_check_def.specs.Declarators.{open_dimension, open_dimensions, is_fixed, variable_declarator, declarator, more_declarators, locals, items_joined}

-- ---- dimensions

pub dimensions-none : (s : State) → open_dimensions (trees.open_dimensions []) s ≡ ([], s)
dimensions-none s = ap (λ t. open_dimensions t s) (many-none l.OpenDimensions trees.open_dimension)

pub dimensions-more : (xs : List OpenDimension) (x : OpenDimension) (s : State) →
    open_dimensions (trees.open_dimensions (xs ++ x ∷ [])) s
    ≡ (
      (open_dimensions (trees.open_dimensions xs) s).0 ++ (open_dimension (opt l.Size (λ e. expr_tree e ∷ []) x.size) (open_dimensions (trees.open_dimensions xs) s).1).0 ∷ [],
      (open_dimension (opt l.Size (λ e. expr_tree e ∷ []) x.size) (open_dimensions (trees.open_dimensions xs) s).1).1,
    )
dimensions-more xs x s = ap (λ t. open_dimensions t s) (many-snoc l.OpenDimensions trees.open_dimension xs x)

-- ---- declarators

pub declarators-none : (x : Specified) (b : Bool) (s : State) → more_declarators x b (trees.more_declarators []) s ≡ (no_items, s)
declarators-none x b s = ap (λ t. more_declarators x b t s) (many-none l.MoreDecls (next trees.declarator))

pub declarators-more : (x : Specified) (b : Bool) (xs : List (Next Declarator)) (d : Next Declarator) (s : State) →
    more_declarators x b (trees.more_declarators (xs ++ d ∷ [])) s
    ≡ (
      items_joined (more_declarators x b (trees.more_declarators xs) s).0 (declarator x b (trees.declarator d.element) (more_declarators x b (trees.more_declarators xs) s).1).0,
      (declarator x b (trees.declarator d.element) (more_declarators x b (trees.more_declarators xs) s).1).1,
    )
declarators-more x b xs d s = ap (λ t. more_declarators x b t s) (many-snoc l.MoreDecls (next trees.declarator) xs d)

-- ---- one declarator

pub declarator-of : (x : Specified) (b : Bool) (d : Declarator) (s : State) →
    let v = variable_declarator x b (length d.stars) d.name.name d.name.span.at (trees.open_dimensions d.dimensions) (trees.initializer d.initializer) s in
    declarator x b (declarator_tree d) s ≡ (declare_then v.0 no_items, v.1)
unfolding declarator_tree
declarator-of x b d s =
    ap (λ (n : ℕ). let v = variable_declarator x b n d.name.name d.name.span.at (trees.open_dimensions d.dimensions) (trees.initializer d.initializer) s in
    (declare_then v.0 no_items, v.1)) (count_many l.Stars (λ span. mark m.Star span ∷ []) d.stars)

-- from its dimensions on
pub declared-typed : (x : Specified) (b : Bool) (n : ℕ) (name : Name) (at : ℕ) (bounds begun : Tree) (s s1 : State) (ds : List Dimension) →
    ds ≡ (open_dimensions bounds s).0 → s1 ≡ (open_dimensions bounds s).1 → variable_declarator x b n name at bounds begun s ≡ variable_typed x (is_fixed b n) n name at ds begun s1
unfolding variable_typed
declared-typed x b n name at bounds begun s s1 ds p q =
    let f : List Dimension → State → DeclarationTree × State = λ es t. variable_typed x (is_fixed b n) n name at es begun t in
    ap (λ es. f es (open_dimensions bounds s).1) (sym p) ∙ ap (f ds) (sym q)

-- ---- a declaration

present : (q : Option Span) → is_present (constant q) ≡ is_some q
present None = refl
present (Some a) = refl

abbrev made : Specified → (b : Bool) → Locals → State → ItemTrees × State
made y b x s =
    let d = declarator y b (declarator_tree x.first) s in
    let ds = more_declarators y b (trees.more_declarators x.more) d.1 in
    (items_joined d.0 ds.0, ds.1)

locals-of : (x : Locals) (s : State) → locals (trees.locals_tree x) s ≡ made (specified_type (spec_tree x.spec) s).0 (is_some x.qualifier) x (specified_type (spec_tree x.spec) s).1
unfolding locals_tree
locals-of x s = ap (λ (b : Bool). made (specified_type (spec_tree x.spec) s).0 b x (specified_type (spec_tree x.spec) s).1) (present x.qualifier)

pub locals-steps : (x : Locals) (s s1 : State) (y : Specified) (b : Bool) → y ≡ (specified_type (spec_tree x.spec) s).0 → s1 ≡ (specified_type (spec_tree x.spec) s).1 →
    b ≡ is_some x.qualifier → locals (trees.locals_tree x) s ≡ made y b x s1
locals-steps x s s1 y b p q r =
    locals-of x s ∙ ap (λ z. made z (is_some x.qualifier) x (specified_type (spec_tree x.spec) s).1) (sym p)
    ∙ ap (λ z. made y (is_some x.qualifier) x z) (sym q) ∙ ap (λ z. made y z x s1) (sym r)

-- ---- the items of a block

pub items-none : (xs : ItemTrees) → items_joined xs no_items ≡ xs
items-none no_items = refl
items-none (stmt_then s xs) = ap (stmt_then s) (items-none xs)
items-none (declare_then d xs) = ap (declare_then d) (items-none xs)

pub items-joined : (xs ys zs : ItemTrees) → items_joined (items_joined xs ys) zs ≡ items_joined xs (items_joined ys zs)
items-joined no_items ys zs = refl
items-joined (stmt_then s xs) ys zs = ap (stmt_then s) (items-joined xs ys zs)
items-joined (declare_then d xs) ys zs = ap (declare_then d) (items-joined xs ys zs)

pub items-more : (xs : List Item) (y : Item) → items_of (xs ++ y ∷ []) ≡ items_joined (items_of xs) (items_of (y ∷ []))
items-more [] y = refl
items-more (item.Statement s ∷ xs) y = ap (stmt_then s) (items-more xs y)
items-more (item.Variable d ∷ xs) y = ap (declare_then (declaration_of d)) (items-more xs y)

pub ruleset items = (items-none, items-more)
