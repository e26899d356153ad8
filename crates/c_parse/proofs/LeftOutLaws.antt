-- The grammar has no keyword that is left out.
use Rattle.std.specs.Prelude.{◌≡◌, Bool, true, false, not, nat_le, ◌&&◌, List, [], ◌∷◌, None, find, option_map}
use Rattle.std.proofs.Common.{refl, sym, ap, ◌∙◌}
use Rattle.std.proofs.lemmas.Bool.{eqb-true, not-true, and_parts}
use Rattle.c_lex.specs.declared.keyword.Keyword.{Keyword}
use Rattle.c_lex.specs.declared.keyword.Keyword.TheVariants as word
use Rattle.c_lex.specs.declared.token.Token.{Token}
use Rattle.c_lex.specs.declared.token.TokenKind.{TokenKind}
use Rattle.c_lex.specs.declared.token.TokenKind.TheVariants as kind
use Rattle.c_lex.specs.Keywords as keyword
use Rattle.c_ast.specs.Grammar.{Symbol, T, N, Form, One, All, Fits, rule, symbols_of, repeated, optional}
use Rattle.c_ast.specs.Productions.{Production, Repeated, Optional}
use Rattle.c_ast.specs.Productions as production
use Rattle.c_ast.specs.Shape.{FollowsGrammar}
use Rattle.c_ast.specs.Spelling.{spelled, tokens_of}
use Rattle.c_ast.specs.Terminals.{Terminal, ThisKeyword, SignKeyword, is, keyword_number}
use Rattle.c_ast.specs.Tree.{Tree, Leaf, Node, Nil, Cons}
use Rattle.c_parse_tokens.specs.LeftOut.{is_left_out, first_left_out}

-- ---- terminals

-- the keywords that are left out have the last numbers
word_kept : (k : Keyword) → keyword.is_left_out k ≡ nat_le 21 (keyword_number k)
unfolding keyword_number
word_kept word.Break = refl
word_kept k = refl

sign_kept : (k : Keyword) → is SignKeyword (kind.Keyword k) ≡ true → keyword.is_left_out k ≡ false
unfolding is keyword_number
sign_kept word.Signed e = refl
sign_kept word.Unsigned e = refl
sign_kept k e = cc e

keeps : Terminal → Bool
keeps (ThisKeyword w) = not (keyword.is_left_out w)
keeps _ = true

terminal_kept : (s : Terminal) (k : TokenKind) → keeps s ≡ true → is s k ≡ true → is_left_out k ≡ false
unfolding keeps is
terminal_kept (ThisKeyword w) (kind.Keyword k) h e =
    word_kept k ∙ ap (nat_le 21) (sym (eqb-true (keyword_number w) (keyword_number k) e)) ∙ sym (word_kept w) ∙ not-true _ h
terminal_kept SignKeyword (kind.Keyword k) h e = sign_kept k e
terminal_kept s (kind.Keyword k) h e = cc e
terminal_kept s k h e = refl

-- ---- productions

all_kept : List Symbol → Bool
all_kept [] = true
all_kept (T s ∷ symbols) = keeps s && all_kept symbols
all_kept (N c ∷ symbols) = all_kept symbols

repeated_kept : (k : Repeated) → all_kept (repeated k) ≡ true
unfolding repeated all_kept keeps
repeated_kept production.Externals = refl
repeated_kept k = refl

optional_kept : (k : Optional) → all_kept (optional k) ≡ true
unfolding optional all_kept keeps
optional_kept production.Constant = refl
optional_kept k = refl

parts_kept : (l : Production) → all_kept (symbols_of l) ≡ true
unfolding symbols_of rule all_kept keeps
parts_kept (production.More k) = repeated_kept k
parts_kept (production.Present k) = optional_kept k
parts_kept l = refl

-- ---- trees

form_kept : Form → Bool
form_kept (One c) = true
form_kept (All symbols) = all_kept symbols

none_more : (x : Token) (ts : List Token) → is_left_out x.kind ≡ false → find (λ t. is_left_out t.kind) ts ≡ None → find (λ t. is_left_out t.kind) (x ∷ ts) ≡ None
none_more x ts e n = rw e n

none_in : (f : Form) (t : Tree) (more : List Token) → Fits f t → form_kept f ≡ true → find (λ t. is_left_out t.kind) more ≡ None → find (λ t. is_left_out t.kind) (spelled t more) ≡ None
unfolding Fits form_kept all_kept spelled
none_in (One c) (Node l children) more h k n = none_in (All (symbols_of l)) children more h.2 (parts_kept l) n
none_in (All []) Nil more h k n = n
none_in (All (T s ∷ symbols)) (Cons (Leaf x) children) more h k n =
    none_more x (spelled children more)
    (terminal_kept s x.kind (and_parts (keeps s) (all_kept symbols) k).0 h.0)
    (none_in (All symbols) children more h.1 (and_parts (keeps s) (all_kept symbols) k).1 n)
none_in (All (N c ∷ symbols)) (Cons child children) more h k n =
    none_in (One c) child (spelled children more) h.0 refl (none_in (All symbols) children more h.1 k n)
none_in f t more h k n = absurd h

pub none_left_out : (t : Tree) → FollowsGrammar t → first_left_out (tokens_of t) ≡ None
unfolding form_kept
none_left_out t h = ap (option_map (λ x. x.at)) (none_in _ t [] h refl refl)
