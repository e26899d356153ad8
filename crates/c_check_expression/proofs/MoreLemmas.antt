-- One more label of a group.
use Rattle.std.proofs.Common.{◌≡◌, ◌<◌, ℕ, ◌+◌, List, [], ◌∷◌, length, take, get_or, sym, ap, ◌∙◌}
use Rattle.c_ast.specs.declared.statement.Label.{Label}
use Rattle.c_ast.specs.Productions as l
use Rattle.c_ast.specs.Statements.{label_tree, labels_tree}
use Rattle.c_ast.proofs.lemmas.Lists.{many-none}
use Rattle.c_check_expression.proofs.lemmas.Lists.{many_next}
use Rattle.c_check_def.specs.State.{State, after}
use Rattle.c_check_def.specs.Statements.{Labels, label, more_labels}

pub labels-begun : (x : Labels) (s : State) → more_labels x (labels_tree []) s ≡ (x, s)
labels-begun x s = ap (λ t. more_labels x t s) (many-none l.MoreLabels (λ y. label_tree y ∷ []))

pub labels-after : (x : Labels) (ys : List Label) (i : ℕ) (y : Label) (s : State) → i < length ys → y ≡ get_or ys i y →
    more_labels x (labels_tree (take (i + 1) ys)) s ≡ after (more_labels x (labels_tree (take i ys)) s) (λ z. label z (label_tree y))
labels-after x ys i y s below is = ap (λ t. more_labels x t s) (many_next l.MoreLabels (λ z. label_tree z ∷ []) ys i y below is)

-- one more label
pub labels-grow : (x : Labels) (ys : List Label) (i : ℕ) (y : Label) (s t : State) (all : Labels) → i < length ys → y ≡ get_or ys i y
    → all ≡ (more_labels x (labels_tree (take i ys)) s).0 → t ≡ (more_labels x (labels_tree (take i ys)) s).1
    → label all (label_tree y) t ≡ more_labels x (labels_tree (take (i + 1) ys)) s
labels-grow x ys i y s t all below is had at =
    ap (λ z. label z (label_tree y) t) had ∙ ap (label (more_labels x (labels_tree (take i ys)) s).0 (label_tree y)) at ∙ sym (labels-after x ys i y s below is)
