-- The type of an array that is declared without a length.
use Rattle.std.proofs.Common.{◌≡◌, ℕ, suc, false, List, length, Option, None, Some, refl, ap, ◌∙◌}
use Rattle.c_ast.specs.declared.list.Next.{Next}
use Rattle.c_ast.specs.declared.token.Span.{Span}
use Rattle.c_ast.specs.declared.declaration.Init.{Init}
use Rattle.c_ast.specs.declared.declaration.Init.TheVariants as e
use Rattle.c_ast.specs.Productions as l
use Rattle.c_ast.specs.Tree.{Tree, Leaf, Node, Nil, Cons}
use Rattle.c_ast.specs.Declarations.{init_tree}
use Rattle.c_ast.proofs.lemmas.InitViews.{tree-List}
use Rattle.c_type.specs.Trees.{TypeTree, array_of}
use Rattle.c_check_def.specs.Initialisers.{completed_by}
use Rattle.c_check_declaration.specs.Parts.{text_in, is_list, text_length}
use Rattle.c_check_declaration.proofs.InitLemmas.{count-ended}

pub completed-text : (x : Tree) (t : TypeTree) (n : Option ℕ) → is_list x ≡ false → completed_by x t n ≡ Some (array_of t (text_length (text_in x) n))
completed-text (Node l.InitList c) t n h = absurd cc
completed-text (Node l.Text (Cons x (Cons xs none))) t None h = refl
completed-text (Node l.Text (Cons x (Cons xs none))) t (Some n) h = refl
completed-text (Node l.Text (Cons x (Leaf k))) t n h = refl
completed-text (Node l.Text (Cons x (Node k c))) t n h = refl
completed-text (Node l.Text (Cons x Nil)) t n h = refl
completed-text (Node l.Text (Leaf k)) t n h = refl
completed-text (Node l.Text (Node k c)) t n h = refl
completed-text (Node l.Text Nil) t n h = refl
completed-text (Node k c) t n h = refl
completed-text (Leaf k) t n h = refl
completed-text Nil t n h = refl
completed-text (Cons x y) t n h = refl

pub completed-list : (a : Span) (x : Init) (xs : List (Next Init)) (comma : Option Span) (z : Span) (t : TypeTree) (n : Option ℕ) →
    completed_by (init_tree (e.List a x xs comma z)) t n ≡ Some (array_of t (suc (length xs)))
completed-list a x xs comma z t n =
    ap (λ y. completed_by y t n) (tree-List a x xs comma z) ∙ ap (λ (k : ℕ). Some (array_of t k)) (count-ended init_tree x xs comma)

none-length : (n : Option ℕ) → text_length None n ≡ 0
none-length n = refl
