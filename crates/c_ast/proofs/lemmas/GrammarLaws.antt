-- The laws of the grammar, from those of the reader.
use Rattle.std.specs.Prelude.{◌≡◌, ◌⊎◌, ℕ, ◌+◌, ◌*◌, ◌≤◌, true, List, [], ◌∷◌, ◌++◌, length, None}
use Rattle.std.proofs.Common.{refl, sym, ap, ◌∙◌, inl, inr, subst, arith, append_assoc}
use Rattle.c_lex.specs.declared.token.Token.{Token}
use Rattle.c_ast.specs.Nonterminals.{Nonterminal, Many}
use Rattle.c_ast.specs.Productions.{Externals}
use Rattle.c_ast.specs.Tree.{Tree}
use Rattle.c_ast.specs.Shape.{FollowsGrammar}
use Rattle.c_ast.specs.Spelling.{kinds, tokens_of, spell}
use Rattle.c_ast.specs.Grammar.{One}
use Rattle.c_ast.specs.Reader.{ReadResult, Read, SyntaxError, OutOfFuel, read}
use Rattle.c_ast.specs.Beginnings.{Begins, WrongFrom}
use Rattle.c_ast.specs.Laws.{without_spans, OneTree, OneTreeAtSpans, TreeOrWrong, OneToken, Says, ReaderIsExact}
use Rattle.c_ast.proofs.Follow.{is_read, follows, precedence}
use Rattle.c_ast.proofs.lemmas.Spelling.{spelled_append}
use Rattle.c_ast.proofs.Sound.{read_sound}
use Rattle.c_ast.proofs.Complete.{Reads, read_again}
use Rattle.c_ast.proofs.Viable.{read_viable}
use Rattle.c_ast.proofs.Local.{SameResult, read_twin}
use Rattle.c_ast.proofs.Small.{Small}
use Rattle.c_ast.proofs.Enough.{read_enough}
use Rattle.c_ast.proofs.lemmas.Spans.{kinds_append, split_kinds, dress, dressed_fits, token_lists}

abbrev unit : Nonterminal
unit = Many Externals

unit_is_read : is_read unit ≡ true
unfolding is_read
unit_is_read = refl

unit_ends : follows unit None ≡ true
unfolding follows
unit_ends = refl

unit_rank : precedence unit ≡ 9
unfolding precedence
unit_rank = refl

-- a tree is read from its tokens
whole : (n : ℕ) (t : Tree) → FollowsGrammar t → Reads (read n unit (tokens_of t)) t []
whole n t h = read_again n unit t [] h unit_is_read unit_ends (λ x. absurd (cc x))

deep_enough : (n : ℕ) (ts : List Token) → 16 * length ts + 16 ≤ n → read n unit ts ≡ OutOfFuel → ⊥
deep_enough n ts h e = read_enough n unit ts unit_is_read (let r = unit_rank in omega arith) e

read_is : (n : ℕ) (t : Tree) → FollowsGrammar t → 16 * length (tokens_of t) + 16 ≤ n → read n unit (tokens_of t) ≡ Read t []
read_is n t h b = go (whole n t h)
  where
    go : Reads (read n unit (tokens_of t)) t [] → read n unit (tokens_of t) ≡ Read t []
    go (inl e) = e
    go (inr e) = absurd (deep_enough n (tokens_of t) b e)

same_tokens : (a b : Tree) → FollowsGrammar a → FollowsGrammar b → tokens_of a ≡ tokens_of b → a ≡ b
same_tokens a b f g e =
    let p = read_is (16 * length (tokens_of a) + 16) a f (omega arith) in
    let q = read_is (16 * length (tokens_of b) + 16) b g (omega arith) in
    cc (p, q, e)

pub one_tree_at_spans : OneTreeAtSpans
one_tree_at_spans a b f g e p = same_tokens a b f g (token_lists (tokens_of a) (tokens_of b) e p)

pub one_tree : OneTree
one_tree a b f g e =
    let d = dress a (tokens_of b) (sym e) in
    sym d.same ∙ ap without_spans (same_tokens d.tree b (dressed_fits (One unit) a (tokens_of b) d f) g d.spells)

-- ---- wrong tokens

-- no tree is spelled by tokens of which the reader says otherwise
not_spelled : (n : ℕ) (ts : List Token) (o : ReadResult) → read n unit ts ≡ o → (o ≡ OutOfFuel → ⊥) → ((t : Tree) → o ≡ Read t [] → ⊥) → (t : Tree) → FollowsGrammar t → spell t ≡ kinds ts → ⊥
not_spelled n ts o e deep done t h s =
    let d = dress t ts (sym s) in
    go d.tree (subst (λ (us : List Token). Reads (read n unit us) d.tree []) d.spells (whole n d.tree (dressed_fits (One unit) t ts d h)))
  where
    go : (u : Tree) → Reads (read n unit ts) u [] → ⊥
    go u (inl r) = done u (sym e ∙ r)
    go u (inr r) = deep (sym e ∙ r)

-- A tree of a longer spelling would have been read past the token at which the reader stopped.
no_more : (n : ℕ) (before : List Token) (x : Token) (r : List Token) (o : ReadResult) → read n unit (before ++ x ∷ r) ≡ o → (Small (length r) o → ⊥) → ((s : List Token) (p : ReadResult) →
    SameResult x r s o p → (t : Tree) → Reads p t [] → ⊥) → Begins (kinds (before ++ x ∷ [])) → ⊥
unfolding Begins
no_more n before x r o e large other b =
    let s = split_kinds (tokens_of b.0) (kinds (before ++ x ∷ [])) b.1 b.3 in
    let us = (before ++ x ∷ []) ++ s.right in
    let d = dress b.0 us (kinds_append (before ++ x ∷ []) s.right ∙ ap (λ z. kinds (before ++ x ∷ []) ++ z) s.right_kinds ∙ sym b.3) in
    go d.tree s.right
    (subst (λ (us : List Token). Reads (read n unit us) d.tree []) (d.spells ∙ append_assoc before (x ∷ []) s.right) (whole n d.tree (dressed_fits (One unit) b.0 us d b.2)))
    (read_twin x r s.right n unit before)
  where
    go : (t : Tree) (s : List Token) → Reads (read n unit (before ++ x ∷ s)) t [] → (SameResult x r s (read n unit (before ++ x ∷ r)) (read n unit (before ++ x ∷
        s))) ⊎ (Small (length r) (read n unit (before ++ x ∷ r))) → ⊥
    go t s w (inl a) = other s (read n unit (before ++ x ∷ s)) (subst (λ (o : ReadResult). SameResult x r s o (read n unit (before ++ x ∷ s))) e a) t w
    go t s w (inr m) = large (subst (Small (length r)) e m)

fail_other : (x : Token) (r s : List Token) (p : ReadResult) → SameResult x r s (SyntaxError (x ∷ r)) p → (t : Tree) → Reads p t [] → ⊥
fail_other x r s (Read u j) a t w = a
fail_other x r s OutOfFuel a t w = a
fail_other x r s (SyntaxError j) a t (inl e) = cc e
fail_other x r s (SyntaxError j) a t (inr e) = cc e

not_empty : (q : List Token) (x : Token) (s : List Token) → q ++ x ∷ s ≡ [] → ⊥
not_empty [] x s e = cc e
not_empty (y ∷ q) x s e = cc e

done_other : (u : Tree) (x : Token) (r s : List Token) (p : ReadResult) → SameResult x r s (Read u (x ∷ r)) p → (t : Tree) → Reads p t [] → ⊥
done_other u x r s (Read v j) a t (inl e) = not_empty a.1.0 x s (sym a.1.2 ∙ cc e)
done_other u x r s (Read v j) a t (inr e) = cc e
done_other u x r s (SyntaxError j) a t w = a
done_other u x r s OutOfFuel a t w = a

fail_wrong : (n : ℕ) (ts rest : List Token) → read n unit ts ≡ SyntaxError rest → WrongFrom ts rest
unfolding Begins
fail_wrong n ts rest e =
    let v = read_viable n unit ts rest e in
    record {
      before = v.before;
      split = v.split;
      begins = (v.tree, kinds v.more, v.fits, ap kinds v.spells ∙ kinds_append v.before v.more);
      none = λ x more same b. no_more n v.before x more (SyntaxError (x ∷ more)) (ap (λ z. read n unit (v.before ++ z)) (sym same) ∙ ap (read n unit) (sym v.split) ∙ e
          ∙ ap SyntaxError same) (λ h. omega arith) (fail_other x more) b;
      short = not_spelled n ts (SyntaxError rest) e (λ h. cc h) (λ t h. cc h);
    }

append_none : {X : Type 0} (a : List X) → a ≡ a ++ []
append_none [] = refl
append_none (x ∷ a) = ap (λ z. x ∷ z) (append_none a)

done_wrong : (n : ℕ) (ts : List Token) (t : Tree) (x : Token) (rest : List Token) → read n unit ts ≡ Read t (x ∷ rest) → WrongFrom ts (x ∷ rest)
unfolding Begins
done_wrong n ts t x rest e =
    let g = read_sound n unit ts t (x ∷ rest) e in
    let split = g.spells ∙ spelled_append t (x ∷ rest) in
    record {
      before = tokens_of t;
      split = split;
      begins = (t, [], g.fits, append_none (kinds (tokens_of t)));
      none = λ y more same b. no_more n (tokens_of t) y more (Read t (y ∷ more)) (ap (λ z. read n unit (tokens_of t ++ z)) (sym same) ∙ ap (read n unit) (sym split) ∙ e
          ∙ ap (Read t) same) (λ h. omega arith) (done_other t y more) b;
      short = not_spelled n ts (Read t (x ∷ rest)) e (λ h. cc h) (λ u h. cc h);
    }

done_right : (n : ℕ) (ts : List Token) (t : Tree) → 16 * length ts + 16 ≤ n → read n unit ts ≡ Read t [] → FollowsGrammar t × (tokens_of t ≡ ts) × ((u : Tree) → FollowsGrammar u → tokens_of u ≡ ts →
    u ≡ t)
done_right n ts t b e =
    let g = read_sound n unit ts t [] e in
    (g.fits, sym g.spells, λ u h s. same_tokens u t h g.fits (s ∙ g.spells))

says : (n : ℕ) (ts : List Token) → 16 * length ts + 16 ≤ n → (o : ReadResult) → read n unit ts ≡ o → Says ts o
says n ts b (Read t []) e = done_right n ts t b e
says n ts b (Read t (x ∷ rest)) e = done_wrong n ts t x rest e
says n ts b (SyntaxError rest) e = fail_wrong n ts rest e
says n ts b OutOfFuel e = deep_enough n ts b e

pub reader_is_exact : ReaderIsExact
reader_is_exact n ts b = says n ts b (read n unit ts) refl

pub tree_or_wrong : TreeOrWrong
tree_or_wrong ts = go (read (16 * length ts + 16) unit ts) (reader_is_exact (16 * length ts + 16) ts (omega arith))
  where
    go : (o : ReadResult) → Says ts o → ((t : Tree) × FollowsGrammar t × (tokens_of t ≡ ts)) ⊎ ((rest : List Token) × WrongFrom ts rest)
    go (Read t []) s = inl (t, s.0, s.1)
    go (Read t (x ∷ rest)) s = inr (x ∷ rest, s)
    go (SyntaxError rest) s = inr (rest, s)
    go OutOfFuel s = absurd s

-- ---- one offset

-- one of two beginnings of a list is the shorter
pub record Shorter (p q a b : List Token) : Type 0 where
  pub next : Token
  pub more : List Token
  pub longer : q ≡ p ++ next ∷ more
  pub rest : a ≡ next ∷ (more ++ b)

abbrev Compared : List Token → List Token → List Token → List Token → Type 0
Compared p q a b = ((p ≡ q) × (a ≡ b)) ⊎ (Shorter p q a b ⊎ Shorter q p b a)

compare_cons : (x y : Token) (p q a b : List Token) → x ≡ y → Compared p q a b → Compared (x ∷ p) (y ∷ q) a b
compare_cons x y p q a b e (inl h) = let f = h.0 in inl (cc (e, f), h.1)
compare_cons x y p q a b e (inr (inl s)) =
    let f = s.longer in inr (inl (record { next = s.next; more = s.more; longer = cc (e, f); rest = s.rest }))
compare_cons x y p q a b e (inr (inr s)) =
    let f = s.longer in inr (inr (record { next = s.next; more = s.more; longer = cc (e, f); rest = s.rest }))

compare : (p q a b : List Token) → p ++ a ≡ q ++ b → Compared p q a b
compare [] [] a b e = inl (refl, e)
compare [] (y ∷ q) a b e = inr (inl (record { next = y; more = q; longer = refl; rest = e }))
compare (x ∷ p) [] a b e = inr (inr (record { next = x; more = p; longer = refl; rest = sym e }))
compare (x ∷ p) (y ∷ q) a b e = compare_cons x y p q a b (cc e) (compare p q a b (cc e))

begins_shorter : (p more : List Token) (x : Token) → Begins (kinds (p ++ x ∷ more)) → Begins (kinds (p ++ x ∷ []))
unfolding Begins
begins_shorter p more x b = (
  b.0,
  kinds more ++ b.1,
  b.2,
  b.3 ∙ ap (λ z. kinds z ++ b.1) (sym (append_assoc p (x ∷ []) more)) ∙ ap (λ z. z ++ b.1) (kinds_append (p ++ x ∷ []) more) ∙ append_assoc (kinds (p ++ x ∷
      [])) (kinds more) b.1,
)

pub one_token : OneToken
one_token ts a b u v = go (compare u.before v.before a b (sym u.split ∙ v.split))
  where
    go : Compared u.before v.before a b → a ≡ b
    go (inl h) = h.1
    go (inr (inl s)) =
        absurd (u.none s.next (s.more ++ b) s.rest (begins_shorter u.before s.more s.next (subst (λ (z : List Token). Begins (kinds z)) s.longer v.begins)))
    go (inr (inr s)) =
        absurd (v.none s.next (s.more ++ a) s.rest (begins_shorter v.before s.more s.next (subst (λ (z : List Token). Begins (kinds z)) s.longer u.begins)))
