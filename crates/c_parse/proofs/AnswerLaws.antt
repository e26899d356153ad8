-- The answer is determined, and where a shaped tree spells the tokens it is that tree.
use Rattle.std.specs.Prelude.{◌≡◌, ◌⊎◌, ℕ, ◌<◌, ◌≤◌, List, [], ◌∷◌, ◌++◌, Ok, Err}
use Rattle.std.proofs.Common.{refl, sym, ap, ◌∙◌, subst, inl, inr, arith}
use Rattle.c_lex.specs.declared.token.Token.{Token}
use Rattle.c_lex.specs.declared.token.TokenKind.{TokenKind}
use Rattle.c_ast.specs.declared.external.Unit as ast
use Rattle.c_ast.specs.Externals.{unit_tree}
use Rattle.c_ast.specs.Nesting.{depth, deepest, after_token}
use Rattle.c_ast.specs.Shape.{Shaped}
use Rattle.c_ast.specs.Spelling.{kinds, tokens_of}
use Rattle.c_ast.specs.Tree.{Tree}
use Rattle.c_ast.proofs.lemmas.GrammarLaws.{one_token}
use Rattle.c_ast.proofs.lemmas.Spans.{kinds_append}
use Rattle.c_parse.specs.Refusal.{WrongAt, Answers, Agree, OneAnswer, ShapedIsAccepted}
use Rattle.c_parse_tokens.specs.TooDeep.{FirstTooDeep}
use Rattle.c_parse_tokens.specs.Reading.{offset_of}
use Rattle.c_parse.specs.declared.fault.ParseFault.{ParseFault}
use Rattle.c_parse.specs.declared.fault.ParseFault.TheVariants as fault
use Rattle.c_parse_tokens.proofs.lemmas.FirstDeep.{token_head, token_lower}
use Rattle.c_parse.proofs.LeftOutLaws.{none_left_out}

-- ---- the depth grows with the tokens

deepest_more : (c : List ℕ) (ks ls : List TokenKind) → deepest c ks ≤ deepest c (ks ++ ls)
deepest_more c [] ls = omega arith
deepest_more c (k ∷ []) ls = omega (arith, token_lower k ls c)
deepest_more c (k ∷ x ∷ ks) ls =
    let same : after_token k (x ∷ (ks ++ ls)) c ≡ after_token k (x ∷ ks) c = token_head k x (ks ++ ls) ks c in
    let again = deepest_more (after_token k (x ∷ ks) c) (x ∷ ks) ls in
    rw same (omega arith)

depth_more : (a b : List Token) → depth (kinds a) ≤ depth (kinds (a ++ b))
depth_more a b = let more = deepest_more (0 ∷ []) (kinds a) (kinds b) in let e = kinds_append a b in rw e more

-- ---- the first token that is too deep

-- a list of tokens that goes on with at least one
abbrev pub Longer : List Token → Token → List Token → Type 0
Longer a x b = (more : List Token) × (b ≡ (a ++ x ∷ []) ++ more)

compare : (a b : List Token) (x y : Token) (r s : List Token) → a ++ x ∷ r ≡ b ++ y ∷ s → (x ≡ y) ⊎ (Longer a x b ⊎ Longer b y a)
compare [] [] x y r s e = inl (cc e)
compare [] (z ∷ b) x y r s e = inr (inl (b, cc e))
compare (z ∷ a) [] x y r s e = inr (inr (a, cc e))
compare (z ∷ a) (w ∷ b) x y r s e = go (compare a b x y r s (cc e))
  where
    go : (x ≡ y) ⊎ (Longer a x b ⊎ Longer b y a) → (x ≡ y) ⊎ (Longer (z ∷ a) x (w ∷ b) ⊎ Longer (w ∷ b) y (z ∷ a))
    go (inl same) = inl same
    go (inr (inl l)) = let f = l.1 in inr (inl (l.0, cc (e, f)))
    go (inr (inr l)) = let f = l.1 in inr (inr (l.0, cc (e, f)))

-- what is too deep with a token is no beginning of what is not
not_longer : (a b : List Token) (x : Token) → Longer a x b → 200 < depth (kinds (a ++ x ∷ [])) → depth (kinds b) ≤ 200 → ⊥
not_longer a b x l deep low =
    let more : depth (kinds (a ++ x ∷ [])) ≤ depth (kinds b) =
    subst (λ (z : List Token). depth (kinds (a ++ x ∷ [])) ≤ depth (kinds z)) (sym l.1) (depth_more (a ++ x ∷ []) l.0) in
    omega arith

one_too_deep : (ts : List Token) (p q : ℕ) → FirstTooDeep ts p → FirstTooDeep ts q → p ≡ q
one_too_deep ts p q f g = go (compare f.before g.before f.token g.token f.rest g.rest (sym f.split ∙ g.split))
  where
    go : (f.token ≡ g.token) ⊎ (Longer f.before f.token g.before ⊎ Longer g.before g.token f.before) → p ≡ q
    go (inl same) = f.at ∙ ap (λ t. t.at) same ∙ sym g.at
    go (inr (inl l)) = absurd (not_longer f.before g.before f.token l f.deep g.shallow)
    go (inr (inr l)) = absurd (not_longer g.before f.before g.token l g.deep f.shallow)

is_deep : (ts : List Token) (p : ℕ) → FirstTooDeep ts p → depth (kinds ts) ≤ 200 → ⊥
is_deep ts p f low =
    not_longer f.before ts f.token (f.rest, f.split ∙ regroup f.before f.token f.rest) f.deep low
  where
    regroup : (a : List Token) (x : Token) (r : List Token) → a ++ x ∷ r ≡ (a ++ x ∷ []) ++ r
    regroup [] x r = refl
    regroup (z ∷ a) x r = ap (λ u. z ∷ u) (regroup a x r)

-- ---- the tree

one_wrong_offset : (ts : List Token) (n p q : ℕ) → WrongAt ts n p → WrongAt ts n q → p ≡ q
one_wrong_offset ts n p q f g = f.at ∙ ap (λ r. offset_of r n) (one_token ts f.rest g.rest f.wrong g.wrong) ∙ sym g.at

not_wrong : (ts : List Token) (n p : ℕ) (t : Tree) → WrongAt ts n p → Shaped t → tokens_of t ≡ ts → ⊥
not_wrong ts n p t w h e = w.wrong.short t h.0 (ap kinds e)

not_deep : (ts : List Token) (p : ℕ) (t : Tree) → FirstTooDeep ts p → Shaped t → tokens_of t ≡ ts → ⊥
not_deep ts p t f h e = is_deep ts p f (subst (λ (z : List Token). depth (kinds z) ≤ 200) e h.1)

-- ---- the laws

faults_agree : (ts : List Token) (n : ℕ) (e f : ParseFault) → Answers ts n (Err e) → Answers ts n (Err f) → Agree (Err e) (Err f)
faults_agree ts n (fault.LeftOut p) (fault.LeftOut q) a b = let h = sym a ∙ b in cc h
faults_agree ts n (fault.TooDeep p) (fault.TooDeep q) a b = ap fault.TooDeep (one_too_deep ts p q a.1 b.1)
faults_agree ts n (fault.Syntax p) (fault.Syntax q) a b = ap fault.Syntax (one_wrong_offset ts n p q a.2 b.2)
faults_agree ts n (fault.TooDeep p) (fault.Syntax q) a b = absurd (is_deep ts p a.1 b.1)
faults_agree ts n (fault.Syntax p) (fault.TooDeep q) a b = absurd (is_deep ts q b.1 a.1)
faults_agree ts n (fault.LeftOut p) (fault.TooDeep q) a b = let h = sym a ∙ b.0 in cc h
faults_agree ts n (fault.LeftOut p) (fault.Syntax q) a b = let h = sym a ∙ b.0 in cc h
faults_agree ts n (fault.TooDeep p) (fault.LeftOut q) a b = let h = sym b ∙ a.0 in cc h
faults_agree ts n (fault.Syntax p) (fault.LeftOut q) a b = let h = sym b ∙ a.0 in cc h
faults_agree ts n fault.NoMemory f a b = tt
faults_agree ts n e fault.NoMemory a b = tt

-- a fault, and a tree of the same tokens
not_both : (ts : List Token) (n : ℕ) (e : ParseFault) (u : ast.Unit) → Answers ts n (Err e) → Answers ts n (Ok u) → Agree (Err e) (Ok u)
not_both ts n (fault.LeftOut p) u a b = let h = sym a ∙ b.0 in cc h
not_both ts n (fault.TooDeep p) u a b = not_deep ts p (unit_tree u) a.1 b.1.shaped b.1.spells
not_both ts n (fault.Syntax p) u a b = not_wrong ts n p (unit_tree u) a.2 b.1.shaped b.1.spells
not_both ts n fault.NoMemory u a b = tt

agree_symmetric : (e : ParseFault) (u : ast.Unit) → Agree (Err e) (Ok u) → Agree (Ok u) (Err e)
agree_symmetric fault.NoMemory u h = tt
agree_symmetric e u h = h

pub one_answer : OneAnswer
one_answer ts n (Err e) (Err f) a b = faults_agree ts n e f a b
one_answer ts n (Err e) (Ok u) a b = not_both ts n e u a b
one_answer ts n (Ok u) (Err e) a b = agree_symmetric e u (not_both ts n e u b a)
one_answer ts n (Ok u) (Ok v) a b = b.1.only (unit_tree u) a.1.shaped a.1.spells

pub shaped_is_accepted : ShapedIsAccepted
shaped_is_accepted t n (Err (fault.LeftOut p)) h a = let e = sym a ∙ none_left_out t h.0 in cc e
shaped_is_accepted t n (Err (fault.TooDeep p)) h a = not_deep (tokens_of t) p t a.1 h refl
shaped_is_accepted t n (Err (fault.Syntax p)) h a = not_wrong (tokens_of t) n p t a.2 h refl
shaped_is_accepted t n (Err fault.NoMemory) h a = tt
shaped_is_accepted t n (Ok u) h a = sym (a.1.only t h refl)
