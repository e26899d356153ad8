-- Declarators of variables at file scope, step by step.
use Rattle.std.proofs.Common.{◌≡◌, ℕ, Bool, List, [], ◌∷◌, ◌++◌, length, sym, ap, ◌∙◌}
use Rattle.c_lex.specs.declared.punct.Punct.TheVariants as m
use Rattle.c_ast.specs.declared.declaration.Declarator.{Declarator}
use Rattle.c_ast.specs.declared.list.Next.{Next}
use Rattle.c_ast.specs.Productions as l
use Rattle.c_ast.specs.Tree.{Tree}
use Rattle.c_ast.specs.Declarations as trees
use Rattle.c_ast.specs.Declarations.{declarator as declarator_tree}
use Rattle.c_ast.specs.Expressions.{next}
use Rattle.c_ast.specs.Nodes.{mark}
use Rattle.c_ast.proofs.lemmas.Lists.{many-none, many-snoc}
use Rattle.c_check_scope.specs.Scopes.{Name}
use Rattle.c_check_def.specs.declared.dimension.Dimension.{Dimension}
use Rattle.c_check_def.specs.State.{State}
use Rattle.c_check_def.specs.Specifiers.{Specified}
use Rattle.c_check_def.specs.Declarators.{open_dimensions, is_fixed, global_declarator, more_globals}
use Rattle.c_check_declaration.specs.Globals.{new_global, global_begun, global_sized}
use Rattle.c_check_expression.proofs.lemmas.Lists.{count_many}

pub begun-sized : (x : Specified) (fixed : Bool) (n k : ℕ) (name : Name) (at : ℕ) (bounds begun : Tree) (s s1 : State) (ds : List Dimension) →
    ds ≡ (open_dimensions bounds s).0 → s1 ≡ (open_dimensions bounds s).1 → global_begun x fixed n k name at bounds begun s ≡ global_sized x fixed n k name at ds begun s1
unfolding global_begun
begun-sized x fixed n k name at bounds begun s s1 ds p q =
    ap (λ es. global_sized x fixed n k name at es begun (open_dimensions bounds s).1) (sym p) ∙ ap (global_sized x fixed n k name at ds begun) (sym q)

pub declared-begun : (x : Specified) (b : Bool) (n : ℕ) (name : Name) (at : ℕ) (bounds begun : Tree) (s s1 : State) (k : ℕ) →
    k ≡ (new_global at (is_fixed b n) s).0 → s1 ≡ (new_global at (is_fixed b n) s).1 →
    global_declarator x b n name at bounds begun s ≡ global_begun x (is_fixed b n) n k name at bounds begun s1
unfolding global_begun global_sized
declared-begun x b n name at bounds begun s s1 k p q =
    ap (λ i. global_begun x (is_fixed b n) n i name at bounds begun (new_global at (is_fixed b n) s).1) (sym p)
    ∙ ap (global_begun x (is_fixed b n) n k name at bounds begun) (sym q)

pub globals-none : (x : Specified) (b : Bool) (s : State) → (more_globals x b (trees.more_declarators []) s).1 ≡ s
globals-none x b s = ap (λ t. (more_globals x b t s).1) (many-none l.MoreDecls (next trees.declarator))

pub globals-more : (x : Specified) (b : Bool) (xs : List (Next Declarator)) (d : Next Declarator) (s : State) →
    (more_globals x b (trees.more_declarators (xs ++ d ∷ [])) s).1
    ≡ (global_declarator x b (length d.element.stars) d.element.name.name d.element.name.span.at (trees.open_dimensions d.element.dimensions)
    (trees.initializer d.element.initializer) (more_globals x b (trees.more_declarators xs) s).1).1
unfolding declarator_tree
globals-more x b xs d s =
    ap (λ t. (more_globals x b t s).1) (many-snoc l.MoreDecls (next trees.declarator) xs d)
    ∙ ap (λ (n : ℕ). (global_declarator x b n d.element.name.name d.element.name.span.at (trees.open_dimensions d.element.dimensions)
    (trees.initializer d.element.initializer) (more_globals x b (trees.more_declarators xs) s).1).1) (count_many l.Stars (λ span. mark m.Star span ∷ []) d.element.stars)
