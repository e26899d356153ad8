-- Steps of the reader, as the parser takes them.
use Rattle.std.proofs.Common.{◌≡◌, ℕ, zero, suc, Bool, true, false, List, [], ◌∷◌, Option, Some, None, refl, sym, ap, ◌-◌, ◌<◌, ◌≤◌, ◌+◌, Err, arith, ◌∙◌, IsSome, if◌then◌else◌, eq-eqb}
use Rattle.c_lex.specs.declared.keyword.Keyword.{Keyword}
use Rattle.c_lex.specs.declared.keyword.Keyword.TheVariants as w
use Rattle.base.specs.declared.name.Name.{Name}
use Rattle.std.specs.Option.{option_and_then}
use Rattle.c_lex.specs.declared.punct.Punct.{Punct}
use Rattle.c_lex.specs.declared.punct.Punct.TheVariants as m
use Rattle.c_lex.specs.declared.token.Token.{Token}
use Rattle.c_lex.specs.declared.token.TokenKind.{TokenKind}
use Rattle.c_lex.specs.declared.token.TokenKind.TheVariants as kind
use Rattle.c_ast.specs.declared.token.Span.{Span}
use Rattle.c_ast.specs.Nodes.{node, mark, word, name, none_of}
use Rattle.c_ast.specs.Terminals.{Terminal, Mark, ThisKeyword, AnyName, SignKeyword, is, mark_number, keyword_number}
use Rattle.c_ast.specs.Tree.{Tree, Leaf, Node, Cons}
use Rattle.c_ast.proofs.lemmas.Lists.{grows}
use Rattle.c_ast.specs.Reader.{ReadResult, Read, SyntaxError, OutOfFuel, token, and_then, read, step, first, begun, one, children, turns, goes_on, later}
use Rattle.c_ast.specs.PredictSets.{head, at, start, next, begins_repeated}
use Rattle.c_ast.specs.Nonterminals.{Nonterminal, Many}
use Rattle.c_ast.specs.Grammar.{symbols_of, rule, repeated}
use Rattle.c_ast.specs.Productions.{Repeated, More, Stars}
use Rattle.c_parse_tokens.specs.declared.fault.Fault.{Fault}
use Rattle.c_parse_tokens.specs.declared.fault.Fault.TheVariants as fault
use Rattle.c_parse_tokens.specs.Reading.{Gives, Takes, token_at, name_of}
use Rattle.c_parse_tokens.proofs.Marks.{same_mark, same_word}

-- ---- one token

at_mark : (p : Punct) (h : Option TokenKind) → at (is (Mark p)) h ≡ true → h ≡ Some (kind.Punct p)
unfolding is
at_mark p None e = cc
at_mark p (Some (kind.Punct q)) e = ap (λ (r : Punct). Some (kind.Punct r)) (sym (same_mark p q e))
at_mark p (Some k) e = cc

at_word : (w : Keyword) (h : Option TokenKind) → at (is (ThisKeyword w)) h ≡ true → h ≡ Some (kind.Keyword w)
unfolding is
at_word w None e = cc
at_word w (Some (kind.Keyword q)) e = ap (λ (r : Keyword). Some (kind.Keyword r)) (sym (same_word w q e))
at_word w (Some k) e = cc

pub at_some : (p : TokenKind → Bool) (h : Option TokenKind) → at p h ≡ true → IsSome h
at_some p None e = cc
at_some p (Some k) e = refl

pub token-fails : (s : Terminal) (ts : List Token) → at (is s) (head ts) ≡ false → token s ts ≡ SyntaxError ts
unfolding token
token-fails s [] e = refl
token-fails s (x ∷ ts) e = rw e

pub token-taken : (s : Terminal) (k : TokenKind) (span : Span) (ts more : List Token) →
    head ts ≡ Some k → Takes ts span more → is s k ≡ true → token s ts ≡ Read (Leaf (token_at k span)) more
unfolding token
token-taken s k span ts more h taken e =
    ap (token s) (taken k h) ∙ (let P : Bool → ReadResult = λ b. if b then Read (Leaf (token_at k span)) more else SyntaxError (token_at k span ∷ more) in ap P e)

pub token-mark : (p : Punct) (span : Span) (ts more : List Token) →
    at (is (Mark p)) (head ts) ≡ true → Takes ts span more → token (Mark p) ts ≡ Read (mark p span) more
unfolding is
token-mark p span ts more e taken =
    token-taken (Mark p) (kind.Punct p) span ts more (at_mark p (head ts) e) taken (eq-eqb (mark_number p) (mark_number p) refl)

pub token-word : (w : Keyword) (span : Span) (ts more : List Token) →
    at (is (ThisKeyword w)) (head ts) ≡ true → Takes ts span more → token (ThisKeyword w) ts ≡ Read (word w span) more
unfolding is
token-word w span ts more e taken =
    token-taken (ThisKeyword w) (kind.Keyword w) span ts more (at_word w (head ts) e) taken (eq-eqb (keyword_number w) (keyword_number w) refl)

pub token-name : (n : Name) (span : Span) (ts more : List Token) →
    option_and_then name_of (head ts) ≡ Some n → Takes ts span more → token AnyName ts ≡ Read (name (record { name = n; span = span })) more
unfolding is
token-name n span ts more e taken = token-taken AnyName (kind.Name n) span ts more (by_head (head ts) e) taken refl
  where
    by_head : (h : Option TokenKind) → option_and_then name_of h ≡ Some n → h ≡ Some (kind.Name n)
    by_head None e = cc
    by_head (Some (kind.Name m)) e = cc
    by_head (Some k) e = cc

pub token-no_name : (ts : List Token) → option_and_then name_of (head ts) ≡ None → token AnyName ts ≡ SyntaxError ts
unfolding is
token-no_name ts e = token-fails AnyName ts (by_head (head ts) e)
  where
    by_head : (h : Option TokenKind) → option_and_then name_of h ≡ None → at (is AnyName) h ≡ false
    by_head None e = refl
    by_head (Some (kind.Name m)) e = cc
    by_head (Some k) e = refl

pub ruleset heads = (token-mark, token-word, token-name, token-no_name, token-fails, at_some)

pub token-as : (s z : Terminal) (k : TokenKind) (ts : List Token) →
    head ts ≡ Some k → is s k ≡ true → is z k ≡ true → token s ts ≡ token z ts
unfolding token
token-as s z k [] h e d = cc
token-as s z k (x ∷ ts) h e d = by_kind x.kind h
  where
    by_kind : (j : TokenKind) → Some j ≡ Some k → (if is s j then Read (Leaf x) ts else SyntaxError (x ∷ ts)) ≡ (if is z j then Read (Leaf x) ts else SyntaxError (x ∷ ts))
    by_kind j h = let same : j ≡ k = cc in rw (same, e, d)

-- ---- `signed` and `unsigned`

pub token-unsigned : (ts : List Token) → at (is (ThisKeyword w.Unsigned)) (head ts) ≡ true → token SignKeyword ts ≡ token (ThisKeyword w.Unsigned) ts
unfolding is keyword_number
token-unsigned ts e = token-as SignKeyword (ThisKeyword w.Unsigned) (kind.Keyword w.Unsigned) ts (at_word w.Unsigned (head ts) e) refl refl

pub token-signed : (ts : List Token) → at (is (ThisKeyword w.Unsigned)) (head ts) ≡ false → token SignKeyword ts ≡ token (ThisKeyword w.Signed) ts
unfolding token is keyword_number
token-signed [] e = refl
token-signed (x ∷ ts) e = ap (λ (b : Bool). if b then Read (Leaf x) ts else SyntaxError (x ∷ ts)) (by_kind x.kind e)
  where
    by_kind : (k : TokenKind) → is (ThisKeyword w.Unsigned) k ≡ false → is SignKeyword k ≡ is (ThisKeyword w.Signed) k
    by_kind (kind.Keyword w.Unsigned) e = cc
    by_kind (kind.Keyword w.Signed) e = refl
    by_kind k e = refl

-- ---- sequences of symbols

pub err-then : {X Y : Type 0} (view : X → Tree) (view' : Y → Tree) (o : ReadResult) (f : Tree → List Token → ReadResult) (e : Fault) (left : List Token) →
    Gives view o (Err e) left → Gives view' (and_then o f) (Err e) left
err-then view view' o f fault.Syntax left h = ap (λ (x : ReadResult). and_then x f) h
err-then view view' o f fault.OutOfFuel left h = ap (λ (x : ReadResult). and_then x f) h
err-then view view' o f fault.NoMemory left h = tt

pub done-then : (o : ReadResult) (f : Tree → List Token → ReadResult) (t : Tree) (ts : List Token) → o ≡ Read t ts → and_then o f ≡ f t ts
done-then o f t ts h = ap (λ (x : ReadResult). and_then x f) h

pub read-suc : (n : ℕ) (c : Nonterminal) (ts : List Token) → (0 < n) → read n c ts ≡ step (n - 1) (read (n - 1)) c ts
unfolding read
read-suc zero c ts h = absurd (omega arith)
read-suc (suc n) c ts h = let e : suc n - 1 ≡ n = omega arith in rw e

pub read-zero : (n : ℕ) (c : Nonterminal) (ts : List Token) → n ≡ 0 → read n c ts ≡ OutOfFuel
unfolding read
read-zero n c ts h = ap (λ (m : ℕ). read m c ts) h

pub ruleset stepping = (err-then, done-then, read-suc, read-zero)

-- ---- repetitions

pub then-then : (o : ReadResult) (f g : Tree → List Token → ReadResult) →
    and_then (and_then o f) g ≡ and_then o (λ t k. and_then (f t k) g)
then-then (Read t k) f g = refl
then-then (SyntaxError k) f g = refl
then-then OutOfFuel f g = refl

pub many-first : (n : ℕ) (k : Repeated) (ts : List Token) →
    0 < n → read n (Many k) ts ≡ turns (read (n - 1)) (n - 0) (Many k) (none_of k) ts
unfolding read step first begun start symbols_of rule children
many-first zero k ts h = absurd (omega arith)
many-first (suc n) k ts h = let e : suc n - 1 ≡ n = omega arith in let d : suc n - 0 ≡ suc n = omega arith in rw (e, d)

pub less : (n i : ℕ) → i < n → n - i ≡ suc (n - (i + 1))
less n i h = omega arith

pub many-on : (rd : Nonterminal → List Token → ReadResult) (n i : ℕ) (k : Repeated) (t : Tree) (ts : List Token) →
    i < n → at (begins_repeated k) (head ts) ≡ true →
    turns rd (n - i) (Many k) t ts
    ≡ and_then (children rd (repeated k) ts) (λ f j. turns rd (n - (i + 1)) (Many k) (Node (More k) (Cons t f)) j)
unfolding turns goes_on later next symbols_of rule
many-on rd n i k t ts h e =
    rw (less n i h, e) (then-then (children rd (repeated k) ts) (λ f j. Read (Node (More k) (Cons t f)) j) (turns rd (n - (i + 1)) (Many k)))

pub many-end : (rd : Nonterminal → List Token → ReadResult) (n i : ℕ) (k : Repeated) (t : Tree) (ts : List Token) →
    i < n → at (begins_repeated k) (head ts) ≡ false → turns rd (n - i) (Many k) t ts ≡ Read t ts
unfolding turns goes_on next
many-end rd n i k t ts h e = rw (less n i h, e)

-- one star more
pub star-on : (rd : Nonterminal → List Token → ReadResult) (n i : ℕ) (t : Tree) (ts : List Token) →
    i < n → at (is (Mark m.Star)) (head ts) ≡ true →
    turns rd (n - i) (Many Stars) t ts
    ≡ and_then (token (Mark m.Star) ts) (λ x k. turns rd (n - (i + 1)) (Many Stars) (node (More Stars) (t ∷ x ∷ [])) k)
unfolding begins_repeated repeated children one
star-on rd n i t ts h e = many-on rd n i Stars t ts h e ∙ then-then (token (Mark m.Star) ts) _ _

pub star-end : (rd : Nonterminal → List Token → ReadResult) (n i : ℕ) (t : Tree) (ts : List Token) →
    i < n → at (is (Mark m.Star)) (head ts) ≡ false → turns rd (n - i) (Many Stars) t ts ≡ Read t ts
unfolding begins_repeated
star-end rd n i t ts h e = many-end rd n i Stars t ts h e

pub turns-deep : (rd : Nonterminal → List Token → ReadResult) (n i : ℕ) (c : Nonterminal) (t : Tree) (ts : List Token) →
    n ≤ i → turns rd (n - i) c t ts ≡ OutOfFuel
unfolding turns
turns-deep rd n i c t ts h = let e : n - i ≡ 0 = omega arith in rw e

pub ruleset signs = (token-unsigned, token-signed)

pub ruleset loops = (stepping, many-first, many-on, many-end, turns-deep)

pub ruleset star_loops = (err-then, done-then, read-zero, many-first, star-on, star-end, turns-deep, grows)

-- for nonterminals whose reading is spelled out
pub ruleset repeats = (err-then, done-then, read-zero, many-first, many-on, many-end, turns-deep)
