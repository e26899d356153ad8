-- The spelling of a tree before other tokens.
use Rattle.std.proofs.Common.{◌≡◌, List, [], ◌++◌, refl, sym, ◌∙◌, ap, append_assoc}
use Rattle.c_lex.specs.declared.token.Token.{Token}
use Rattle.c_ast.specs.Spelling.{spelled}
use Rattle.c_ast.specs.Tree.{Tree, Leaf, Node, Nil, Cons}

-- it is the spelling of the tree alone, and then the others
pub spelled_append : (t : Tree) (more : List Token) → spelled t more ≡ spelled t [] ++ more
unfolding spelled
spelled_append (Leaf x) more = refl
spelled_append (Node l children) more = spelled_append children more
spelled_append Nil more = refl
spelled_append (Cons child children) more =
    spelled_append child (spelled children more) ∙ ap (λ ts. spelled child [] ++ ts) (spelled_append children more)
    ∙ sym (append_assoc (spelled child []) (spelled children []) more)
    ∙ ap (λ ts. ts ++ more) (sym (spelled_append child (spelled children [])))
