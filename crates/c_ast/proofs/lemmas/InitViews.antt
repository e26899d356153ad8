-- One equation for each variant of an initialiser.
use Rattle.std.proofs.Common.{◌≡◌, List, [], ◌∷◌, ◌++◌, Option, refl, sym, ◌∙◌, ap, fold, map}
use Rattle.std.proofs.lemmas.Grind.{fold-append}
use Rattle.c_lex.specs.declared.punct.Punct.TheVariants as m
use Rattle.c_ast.specs.declared.declaration.Init.{Init}
use Rattle.c_ast.specs.declared.declaration.Init.TheVariants as e
use Rattle.c_ast.specs.declared.declaration.Init.TheFolds.{fold-roll-Init}
use Rattle.c_ast.specs.declared.declaration.Init.TheOpen.{Init-F}
use Rattle.c_ast.specs.declared.expression.Expr.{Expr}
use Rattle.c_ast.specs.declared.list.Next.{Next}
use Rattle.c_ast.specs.declared.token.Span.{Span}
use Rattle.c_ast.specs.Productions as l
use Rattle.c_ast.specs.Tree.{Tree}
use Rattle.c_ast.specs.Nodes.{node, mark}
use Rattle.c_ast.specs.Expressions.{expr_tree}
use Rattle.c_ast.specs.Declarations.{init_tree, init_step, inits, init_after, ended_by}

pub tree-Value : (x : Expr) → init_tree (e.Value x) ≡ expr_tree x
unfolding init_tree
tree-Value x = ap init_tree (sym (e.rolls-Value x)) ∙ fold-roll-Init Tree init_step (Init-F.Value x)

inits_from : (xs : List (Next Init)) (before : Tree) →
    fold (init_after (λ (t : Tree). t)) before (map (λ (x : Next Init). record { comma = x.comma; element = init_tree x.element }) xs)
    ≡ fold (init_after init_tree) before xs
inits_from [] before = refl
inits_from (x ∷ xs) before = inits_from xs (init_after init_tree before x)

pub tree-List : (a : Span) (x : Init) (xs : List (Next Init)) (comma : Option Span) (b : Span) →
    init_tree (e.List a x xs comma b)
    ≡ node l.InitList (mark m.LBrace a ∷ ended_by (inits init_tree x xs) comma ∷ mark m.RBrace b ∷ [])
unfolding init_tree inits
tree-List a x xs comma b =
    ap init_tree (sym (e.rolls-List a x xs comma b)) ∙ fold-roll-Init Tree init_step (Init-F.List a x xs comma b)
    ∙ ap (λ (t : Tree). node l.InitList (mark m.LBrace a ∷ ended_by t comma ∷ mark m.RBrace b ∷ []))
    (inits_from xs (node l.InitFirst (init_tree x ∷ [])))

pub inits-none : {X : Type 0} (view : X → Tree) (x : X) → inits view x [] ≡ node l.InitFirst (view x ∷ [])
unfolding inits
inits-none view x = refl

pub inits-snoc : {X : Type 0} (view : X → Tree) (x : X) (xs : List (Next X)) (y : Next X) →
    inits view x (xs ++ y ∷ []) ≡ init_after view (inits view x xs) y
unfolding inits
inits-snoc view x xs y = fold-append _ _ xs (y ∷ [])

-- each variant, and how a list grows
pub ruleset init_views = (tree-Value, tree-List, inits-none, inits-snoc)
