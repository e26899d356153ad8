-- The grammar looks at the kinds of tokens alone.
use Rattle.std.specs.Prelude.{◌≡◌, ℕ, not, List, [], ◌∷◌, ◌++◌, map}
use Rattle.std.proofs.Common.{refl, sym, ap, ◌∙◌, subst}
use Rattle.c_lex.specs.declared.token.Token.{Token}
use Rattle.c_lex.specs.declared.token.TokenKind.{TokenKind}
use Rattle.c_ast.specs.Productions.{Production}
use Rattle.c_ast.specs.Productions as production
use Rattle.c_ast.specs.Tree.{Tree, Leaf, Node, Nil, Cons}
use Rattle.c_ast.specs.Spelling.{spelled, kinds}
use Rattle.c_ast.specs.Grammar.{T, N, Form, One, All, Fits, symbols_of, waits, else_fits}
use Rattle.c_ast.specs.Laws.{without_spans}
use Rattle.c_ast.proofs.lemmas.Spelling.{spelled_append}

waits_bare : (t : Tree) → waits (without_spans t) ≡ waits t
unfolding waits without_spans
waits_bare (Leaf x) = refl
waits_bare Nil = refl
waits_bare (Node production.If f) = refl
waits_bare (Node l f) = waits_bare f
waits_bare (Cons t Nil) = waits_bare t
waits_bare (Cons t f) = waits_bare f

else_fits_bare : (l : Production) (f : Tree) → else_fits l (without_spans f) ≡ else_fits l f
unfolding else_fits without_spans
else_fits_bare production.IfElse (Cons (Node k f) g) = ap not (waits_bare f)
else_fits_bare production.IfElse (Cons (Leaf x) g) = refl
else_fits_bare production.IfElse (Cons Nil g) = refl
else_fits_bare production.IfElse (Cons (Cons t f) g) = refl
else_fits_bare production.IfElse (Leaf x) = refl
else_fits_bare production.IfElse (Node k f) = refl
else_fits_bare production.IfElse Nil = refl
else_fits_bare l f = refl

fits_bare : (t : Tree) (form : Form) → Fits form t → Fits form (without_spans t)
unfolding Fits without_spans
fits_bare (Node l f) (One c) h = (h.0, else_fits_bare l f ∙ h.1, fits_bare f (All (symbols_of l)) h.2)
fits_bare Nil (All []) h = tt
fits_bare (Cons (Leaf x) f) (All (T s ∷ symbols)) h = (h.0, fits_bare f (All symbols) h.1)
fits_bare (Cons t f) (All (N c ∷ symbols)) h = (fits_bare t (One c) h.0, fits_bare f (All symbols) h.1)
fits_bare t (One c) h = absurd h
fits_bare t (All []) h = absurd h
fits_bare t (All (T s ∷ symbols)) h = absurd h
fits_bare t (All (N c ∷ symbols)) h = absurd h

bare_fits : (t : Tree) (form : Form) → Fits form (without_spans t) → Fits form t
unfolding Fits without_spans
bare_fits (Node l f) (One c) h = (h.0, sym (else_fits_bare l f) ∙ h.1, bare_fits f (All (symbols_of l)) h.2)
bare_fits Nil (All []) h = tt
bare_fits (Cons (Leaf x) f) (All (T s ∷ symbols)) h = (h.0, bare_fits f (All symbols) h.1)
bare_fits (Cons t f) (All (N c ∷ symbols)) h = (bare_fits t (One c) h.0, bare_fits f (All symbols) h.1)
bare_fits t (One c) h = absurd h
bare_fits t (All []) h = absurd h
bare_fits t (All (T s ∷ symbols)) h = absurd h
bare_fits t (All (N c ∷ symbols)) h = absurd h

-- ---- the same tree of other tokens of the same kinds

pub kinds_append : (a b : List Token) → kinds (a ++ b) ≡ kinds a ++ kinds b
kinds_append [] b = refl
kinds_append (x ∷ a) b = ap (λ z. x.kind ∷ z) (kinds_append a b)

pub record Split (us : List Token) (a b : List TokenKind) : Type 0 where
  pub left : List Token
  pub right : List Token
  pub is_so : us ≡ left ++ right
  pub left_kinds : kinds left ≡ a
  pub right_kinds : kinds right ≡ b

pub split_kinds : (us : List Token) (a b : List TokenKind) → kinds us ≡ a ++ b → Split us a b
split_kinds us [] b e = record { left = []; right = us; is_so = refl; left_kinds = refl; right_kinds = e }
split_kinds [] (k ∷ a) b e = absurd (cc e)
split_kinds (x ∷ us) (k ∷ a) b e =
    let s = split_kinds us a b (cc e) in
    let same : x.kind ≡ k = cc e in
    record { left = x ∷ s.left; right = s.right; is_so = ap (λ z. x ∷ z) s.is_so; left_kinds = cc (same, s.left_kinds); right_kinds = s.right_kinds }

pub record Dressed (t : Tree) (us : List Token) : Type 0 where
  pub tree : Tree
  pub spells : spelled tree [] ≡ us
  pub same : without_spans tree ≡ without_spans t

no_kinds : (us : List Token) → kinds us ≡ [] → [] ≡ us
no_kinds [] e = refl
no_kinds (x ∷ us) e = absurd (cc e)

leaf_dressed : (x : Token) (us : List Token) → kinds us ≡ x.kind ∷ [] → Dressed (Leaf x) us
unfolding spelled without_spans
leaf_dressed x [] e = absurd (cc e)
leaf_dressed x (u ∷ []) e =
    let same : u.kind ≡ x.kind = cc e in
    record { tree = Leaf u; spells = refl; same = ap (λ k. Leaf (record { kind = k; at = 0; end = 0 })) same }
leaf_dressed x (u ∷ v ∷ us) e = absurd (cc e)

pub dress : (t : Tree) (us : List Token) → kinds us ≡ kinds (spelled t []) → Dressed t us
unfolding spelled without_spans
dress (Leaf x) us e = leaf_dressed x us e
dress Nil us e = record { tree = Nil; spells = no_kinds us e; same = refl }
dress (Node l f) us e = let d = dress f us e in record { tree = Node l d.tree; spells = d.spells; same = ap (Node l) d.same }
dress (Cons t f) us e =
    let s = split_kinds us (kinds (spelled t [])) (kinds (spelled f [])) (e ∙ ap kinds (spelled_append t (spelled f [])) ∙ kinds_append (spelled t []) (spelled f [])) in
    let d = dress t s.left s.left_kinds in
    let g = dress f s.right s.right_kinds in
    record {
      tree = Cons d.tree g.tree;
      spells = spelled_append d.tree (spelled g.tree []) ∙ ap (λ z. z ++ spelled g.tree []) d.spells ∙ ap (λ z. s.left ++ z) g.spells ∙ sym s.is_so;
      same = ap (λ z. Cons z (without_spans g.tree)) d.same ∙ ap (λ z. Cons (without_spans t) z) g.same;
    }

pub dressed_fits : (form : Form) (t : Tree) (us : List Token) (d : Dressed t us) → Fits form t → Fits form d.tree
dressed_fits form t us d h = bare_fits d.tree form (subst (Fits form) (sym d.same) (fits_bare t form h))

token : TokenKind → ℕ → ℕ → Token
token k a b = record { kind = k; at = a; end = b }

-- tokens are their kinds and spans
token_same : (x y : Token) → x.kind ≡ y.kind → x.at ≡ y.at → x.end ≡ y.end → x ≡ y
unfolding token
token_same x y e f g =
    ap (λ k. token k x.at x.end) e ∙ ap (λ a. token y.kind a x.end) f ∙ ap (λ b. token y.kind y.at b) g

first_same : {X : Type 0} (x y : X) (a b : List X) → x ∷ a ≡ y ∷ b → x ≡ y
first_same x y a b e = cc

others_same : {X : Type 0} (x y : X) (a b : List X) → x ∷ a ≡ y ∷ b → a ≡ b
others_same x y a b e = cc

abbrev place : Token → ℕ × ℕ
place t = (t.at, t.end)

pub token_lists : (a b : List Token) → kinds a ≡ kinds b → map place a ≡ map place b → a ≡ b
token_lists [] [] e f = refl
token_lists [] (y ∷ b) e f = absurd (cc e)
token_lists (x ∷ a) [] e f = absurd (cc e)
token_lists (x ∷ a) (y ∷ b) e f =
    let k : x.kind ≡ y.kind = first_same x.kind y.kind (kinds a) (kinds b) e in
    let p : place x ≡ place y = first_same (place x) (place y) (map place a) (map place b) f in
    let same : x ≡ y = token_same x y k (ap (λ (q : ℕ × ℕ). q.0) p) (ap (λ (q : ℕ × ℕ). q.1) p) in
    let rest : a ≡ b = token_lists a b (others_same x.kind y.kind (kinds a) (kinds b) e) (others_same (place x) (place y) (map place a) (map place b) f) in
    cc (same, rest)
