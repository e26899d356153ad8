-- Every tree that follows the grammar is read again from what it spells.
use Rattle.std.specs.Prelude.{◌≡◌, ◌⊎◌, ℕ, zero, suc, Bool, true, false, not, ◌&&◌, ◌||◌, List, [], ◌∷◌, ◌++◌, Option, Some, None}
use Rattle.std.proofs.Common.{refl, sym, ap, ◌∙◌, inl, inr, subst}
use Rattle.std.proofs.lemmas.Bool.{not-true, and_parts, or_left, or_right, or_cases}
use Rattle.c_lex.specs.declared.token.Token.{Token}
use Rattle.c_lex.specs.declared.token.TokenKind.{TokenKind}
use Rattle.c_ast.specs.Nonterminals.{Nonterminal}
use Rattle.c_ast.specs.Productions.{Production}
use Rattle.c_ast.specs.Productions as production
use Rattle.c_ast.specs.Terminals.{Terminal, is}
use Rattle.c_ast.specs.Tree.{Tree, Leaf, Node, Nil, Cons}
use Rattle.c_ast.specs.Spelling.{spelled}
use Rattle.c_ast.specs.Grammar.{Symbol, T, N, One, All, Fits, symbols_of, allowed, waits, else_fits}
use Rattle.c_ast.specs.PredictSets.{at, begins_type, head, typed, start, next}
use Rattle.c_ast.specs.Reader.{ReadResult, Read, OutOfFuel, and_then, production_of, token, one, children, begun, first, later, goes_on, turns, step, read}
use Rattle.c_ast.proofs.Follow.{is_suffix, front, rest_of, is_read, all_nullable, ahead, follows, is_else, is_last, ends}
use Rattle.c_ast.proofs.Bridges.{Row, Sits, row_is, row_token, row_read, row_rest, row_follows, sits_from, sits_ends, next_stops, next_chosen, inner_is, else_is, begins_empty, begins_token, begins_nonterminal, begins_filled, front_is, rest_is, drop_front, rest_filled}
use Rattle.c_ast.proofs.Trees.{waits_node, waits_if, waits_alone, is_if, NodeOf, nil_is, leaf_is, node_is, cons_not_nil, cons_not_empty, not_leaf, not_node, else_fits_quiet, fits_node, fits_allowed, fits_else, fits_parts}
use Rattle.c_ast.proofs.Firsts.{Opens, opens, begins_form, empty_form}
use Rattle.c_ast.proofs.Sound.{waits_filled}

-- read, unless the bound of the nesting is passed
abbrev pub Reads : ReadResult → Tree → List Token → Type 0
Reads o t j = (o ≡ Read t j) ⊎ (o ≡ OutOfFuel)

-- read up to the tree t, after which it goes on
abbrev pub Reaches : ℕ → Nonterminal → Tree → List Token → Type 0
Reaches n c t j =
    (step n (read n) c (spelled t j) ≡ OutOfFuel) ⊎ ((m : ℕ) × (step n (read n) c (spelled t j) ≡ turns (read n) m c t j))

-- no `if` at the end of the tree's children waits for an `else` that follows
abbrev pub Settled : Tree → List Token → Type 0
Settled f j = is_else (head j) ≡ true → waits f ≡ false

-- a tree is read again, and so are children
abbrev pub Whole : Tree → Type 0
Whole t =
    (c : Nonterminal) (l : Production) (f : Tree) → Node l f ≡ t → Fits (One c) t → (n : ℕ) (j : List Token) → is_read c ≡ true → Sits c l (head j) → Settled f j → Reaches n c t j

abbrev pub Rows : Tree → Type 0
Rows f =
    (symbols : List Symbol) → Fits (All symbols) f → (n : ℕ) (j : List Token) → Row symbols → ends symbols (head j) ≡ true → Settled f j → Reads (children (read n) symbols (spelled f j)) f j

abbrev pub Inner : Tree → Type 0
Inner (Cons t f) = Whole t × Rows f
Inner _ = Unit {0}

-- ---- the beginning

typed_cons : (x : Token) (ts : List Token) → typed (x ∷ ts) ≡ at begins_type (head ts)
unfolding typed
typed_cons x ts = refl

-- how what follows a sequence begins
after_row : (symbols : List Symbol) (f : Tree) (j : List Token) → Fits (All symbols) f → (at (ahead symbols) (head (spelled f j)) || all_nullable symbols) ≡ true
unfolding Opens begins_form empty_form
after_row symbols f j h = go (opens f (All symbols) h)
  where
    go : Opens (ahead symbols) (all_nullable symbols) f → (at (ahead symbols) (head (spelled f j)) || all_nullable symbols) ≡ true
    go (inl e) = or_right (at (ahead symbols) (head (spelled f j))) (all_nullable symbols) e.0
    go (inr e) = or_left (at (ahead symbols) (head (spelled f j))) (all_nullable symbols) (ap (λ z. at (ahead symbols) (head z)) (e.3 j) ∙ e.2)

start_chosen : (c : Nonterminal) (l : Production) (f : Tree) (j : List Token) → is_read c ≡ true → allowed c l ≡ true → is_suffix l ≡ false → Sits c l (head j) → (symbols : List Symbol) →
    symbols_of l ≡ symbols → Fits (All symbols) f → start c (head (spelled f j)) (typed (spelled f j)) ≡ Some l
unfolding Opens begins_form empty_form spelled
start_chosen c l f j r a s i [] e h =
    subst (λ (f : Tree). start c (head (spelled f j)) (typed (spelled f j)) ≡ Some l) (sym (nil_is f h))
    (begins_empty c l r a s e (head j) (typed j) (sits_from c l (head j) i))
start_chosen c l f j r a s i (T t ∷ symbols) e h =
    let g = leaf_is t symbols f h in
    subst (λ (f : Tree). start c (head (spelled f j)) (typed (spelled f j)) ≡ Some l) g.is_so
    (ap (λ b. start c (Some g.token.kind) b) (typed_cons g.token (spelled g.others j)) ∙ begins_token c l r a s t symbols e g.token.kind (head (spelled g.others j)) g.stands_for (after_row symbols
    g.others j g.fits))
start_chosen c l f j r a s i (N d ∷ symbols) e h = go (opens f (All (N d ∷ symbols)) h)
  where
    go : Opens (ahead (N d ∷ symbols)) (all_nullable (N d ∷ symbols)) f → start c (head (spelled f j)) (typed (spelled f j)) ≡ Some l
    go (inl o) = absurd (cc (begins_filled c l r a s d symbols e, o.0))
    go (inr o) =
        subst (λ (ts : List Token). start c (head ts) (typed ts) ≡ Some l) (sym (o.3 j))
        (begins_nonterminal c l r a s d symbols e o.0.kind (typed (o.0 ∷ (o.1 ++ j))) o.2)

-- ---- the end

finished : (c : Nonterminal) (l : Production) (f : Tree) (j : List Token) → is_read c ≡ true → allowed c l ≡ true → follows c (head j) ≡ true → (is_else (head j) ≡ true → waits (Node l f) ≡ false) →
    next c l (head j) ≡ None
finished c l f j r a h q = next_stops c l (head j) r a h (λ x e. cc (q x, waits_if f, ap (λ l. waits (Node l f)) e))

waits_inside : (l : Production) (f : Tree) → waits (Node l f) ≡ false → waits f ≡ false
waits_inside l f e = go (is_if l)
  where
    go : (l ≡ production.If) ⊎ (l ≡ production.If → ⊥) → waits f ≡ false
    go (inr other) = sym (waits_node l f other) ∙ e
    go (inl i) = absurd (cc (e, waits_if f, ap (λ l. waits (Node l f)) i))

turned : (n m : ℕ) (c : Nonterminal) (l : Production) (f : Tree) (j : List Token) → next c l (head j) ≡ None → Reads (turns (read n) m c (Node l f) j) (Node l f) j
unfolding turns production_of goes_on
turned n zero c l f j e = inr refl
turned n (suc m) c l f j e = inl (ap (λ o. goes_on (read n) o (Node l f) j (turns (read n) m c)) e)

-- a tree of a nonterminal is read where what follows may follow
read_whole : (n : ℕ) (c : Nonterminal) (t : Tree) (j : List Token) → Fits (One c) t → Whole t → is_read c ≡ true → follows c (head j) ≡ true → (is_else (head j) ≡ true → waits t ≡ false) →
    Reads (read n c (spelled t j)) t j
unfolding read Sits
read_whole zero c t j h again r f q = inr refl
read_whole (suc n) c t j h again r f q =
    go (again c g.production g.children g.is_so h n j r (inl f) (λ x. waits_inside g.production g.children (ap waits g.is_so ∙ q x)))
  where
    g : NodeOf c t
    g = node_is c t h

    stop : next c g.production (head j) ≡ None
    stop = finished c g.production g.children j r (fits_allowed c g.production g.children g.fits) f (λ x. ap waits g.is_so ∙ q x)

    go : Reaches n c t j → Reads (step n (read n) c (spelled t j)) t j
    go (inl e) = inr e
    go (inr e) = subst (λ (o : ReadResult). Reads o t j) (sym e.1) (subst (λ (t : Tree). Reads (turns (read n) e.0 c t j) t j) g.is_so (turned n e.0 c g.production g.children j stop))

-- ---- a production that begins

prefix_reaches : (n : ℕ) (c : Nonterminal) (l : Production) (f : Tree) (j : List Token) → Rows f → Fits (One c) (Node l f) → is_read c ≡ true → is_suffix l ≡ false → Sits c l (head j) →
    Settled f j → Reaches n c (Node l f) j
unfolding step first begun spelled
prefix_reaches n c l f j rows h r s i q =
    go (rows (symbols_of l) (fits_parts c l f h) n j (subst (λ (symbols : List Symbol). Row symbols) (rest_is l s) (row_is l)) (subst (λ (symbols : List Symbol). ends symbols (head j) ≡ true)
    (rest_is l s) (sits_ends c l (head j) r a i)) q)
  where
    a : allowed c l ≡ true
    a = fits_allowed c l f h

    begins : step n (read n) c (spelled (Node l f) j) ≡ and_then (and_then (children (read n) (symbols_of l) (spelled f j)) (λ f k. Read (Node l f) k)) (turns (read n) (suc n) c)
    begins = ap (λ o. and_then (begun (read n) o (spelled f j)) (turns (read n) (suc n) c)) (start_chosen c l f j r a s i (symbols_of l) refl (fits_parts c l f h))

    go : Reads (children (read n) (symbols_of l) (spelled f j)) f j → Reaches n c (Node l f) j
    go (inl e) = inr (suc n, begins ∙ ap (λ (o : ReadResult). and_then (and_then o (λ f k. Read (Node l f) k)) (turns (read n) (suc n) c)) e)
    go (inr e) = inl (begins ∙ ap (λ (o : ReadResult). and_then (and_then o (λ f k. Read (Node l f) k)) (turns (read n) (suc n) c)) e)

-- ---- a production that goes on

one_turn : (n m : ℕ) (c : Nonterminal) (k l : Production) (f : Tree) (ts : List Token) → is_suffix l ≡ true → next c k (head ts) ≡ Some l →
    turns (read n) (suc m) c (Node k f) ts ≡ and_then (and_then (children (read n) (rest_of l) ts) (λ g j. Read (Node l (Cons (Node k f) g)) j)) (turns (read n) m c)
unfolding turns production_of goes_on later
one_turn n m c k l f ts s e =
    ap (λ o. goes_on (read n) o (Node k f) ts (turns (read n) m c)) e ∙ ap (λ (symbols : List Symbol). and_then (and_then (children (read n) symbols ts) (λ g j. Read (Node l (Cons (Node k f) g)) j))
    (turns (read n) m c)) (drop_front l s)

turn_on : (n m : ℕ) (c : Nonterminal) (k l : Production) (f g : Tree) (j : List Token) → is_suffix l ≡ true → next c k (head (spelled g j)) ≡ Some l →
    Reads (children (read n) (rest_of l) (spelled g j)) g j → (turns (read n) m c (Node k f) (spelled g j) ≡ OutOfFuel) ⊎ ((i : ℕ) × (turns (read n) m c (Node k f) (spelled g j) ≡ turns (read n) i c
    (Node l (Cons (Node k f) g)) j))
unfolding turns
turn_on n zero c k l f g j s e p = inl refl
turn_on n (suc m) c k l f g j s e (inl p) =
    inr (m, one_turn n m c k l f (spelled g j) s e ∙ ap (λ (o : ReadResult). and_then (and_then o (λ g j. Read (Node l (Cons (Node k f) g)) j)) (turns (read n) m c)) p)
turn_on n (suc m) c k l f g j s e (inr p) =
    inl (one_turn n m c k l f (spelled g j) s e ∙ ap (λ (o : ReadResult). and_then (and_then o (λ g j. Read (Node l (Cons (Node k f) g)) j)) (turns (read n) m c)) p)

-- what stands before a production that goes on
after_front : (n : ℕ) (c : Nonterminal) (l k : Production) (f g : Tree) (j : List Token) (x : Token) (more : List Token) → Whole (Node k f) → Fits (One (front l)) (Node k f) →
    else_fits l (Cons (Node k f) g) ≡ true → is_read c ≡ true → allowed c l ≡ true → is_suffix l ≡ true → ahead (rest_of l) x.kind ≡ true → spelled g j ≡ x ∷ more →
    Reaches n c (Node k f) (spelled g j)
unfolding Sits
after_front n c l k f g j x more whole h e r a s o q =
    whole c k f refl (fits_node c k f (inner_is c k l r a s b) (fits_else (front l) k f h) (fits_parts (front l) k f h)) n (spelled g j) r (inr (
      l,
      a,
      s,
      b,
      ap (λ z. at (ahead (rest_of l)) (head z)) q ∙ o,
    )) (λ z. quiet (ap (λ z. is_else (head z)) (sym q) ∙ z))
  where
    b : allowed (front l) k ≡ true
    b = fits_allowed (front l) k f h

    quiet : is_else (Some x.kind) ≡ true → waits f ≡ false
    quiet z = else_fits_quiet k f g (subst (λ (l : Production). else_fits l (Cons (Node k f) g) ≡ true) (else_is l x.kind s o z) e)

suffix_reaches : (n : ℕ) (c : Nonterminal) (l k : Production) (f g : Tree) (j : List Token) → Whole (Node k f) → Rows g → Fits (One c) (Node l (Cons (Node k f) g)) →
    Fits (One (front l)) (Node k f) → Fits (All (rest_of l)) g → is_read c ≡ true → is_suffix l ≡ true → Sits c l (head j) → Settled (Cons (Node k f) g) j → Reaches n c (Node l (Cons (Node k f) g)) j
unfolding Opens begins_form empty_form spelled
suffix_reaches n c l k f g j whole rows h hf hr r s i q = go (opens g (All (rest_of l)) hr)
  where
    a : allowed c l ≡ true
    a = fits_allowed c l (Cons (Node k f) g) h

    rest : Reads (children (read n) (rest_of l) (spelled g j)) g j
    rest = rows (rest_of l) hr n j (row_is l) (sits_ends c l (head j) r a i) (λ x. sym (waits_filled (rest_of l) (Node k f) g (rest_filled l s) hr) ∙ q x)

    joins : Reaches n c (Node k f) (spelled g j) → ((m : ℕ) → (turns (read n) m c (Node k f) (spelled g j) ≡ OutOfFuel) ⊎ ((i : ℕ) × (turns (read n) m c (Node k f) (spelled g j) ≡ turns (read n) i c
        (Node l (Cons (Node k f) g)) j))) → Reaches n c (Node l (Cons (Node k f) g)) j
    joins (inl e) t = inl e
    joins (inr e) t = onward (t e.0)
      where
        onward : (turns (read n) e.0 c (Node k f) (spelled g j) ≡ OutOfFuel) ⊎ ((i : ℕ) × (turns (read n) e.0 c (Node k f) (spelled g j) ≡ turns (read n) i c (Node l (Cons (Node k f) g)) j)) →
            Reaches n c (Node l (Cons (Node k f) g)) j
        onward (inl d) = inl (e.1 ∙ d)
        onward (inr d) = inr (d.0, e.1 ∙ d.1)

    go : Opens (ahead (rest_of l)) (all_nullable (rest_of l)) g → Reaches n c (Node l (Cons (Node k f) g)) j
    go (inl o) = absurd (cc (o.0, rest_filled l s))
    go (inr o) =
        joins (after_front n c l k f g j o.0 (o.1 ++ j) whole hf (fits_else c l (Cons (Node k f) g) h) r a s o.2 (o.3 j))
        (λ m. turn_on n m c k l f g j s (ap (λ z. next c k (head z)) (o.3 j) ∙ next_chosen c k l o.0.kind r a s (fits_allowed (front l) k f hf) o.2) rest)

-- ---- sequences

waits_after : (t g : Tree) → waits (Cons t g) ≡ false → waits g ≡ false
unfolding waits
waits_after t Nil h = refl
waits_after t (Leaf x) h = refl
waits_after t (Node l f) h = h
waits_after t (Cons u f) h = h

-- what may follow the first nonterminal of a sequence
pub record EndsNonterminal (c : Nonterminal) (symbols : List Symbol) (h : Option TokenKind) : Type 0 where
  pub others : ends symbols h ≡ true
  pub follow : all_nullable symbols ≡ true → follows c h ≡ true
  pub quiet : all_nullable symbols ≡ true → (is_last symbols ≡ true) ⊎ (is_else h ≡ false)

ends_nonterminal : (c : Nonterminal) (symbols : List Symbol) (h : Option TokenKind) → ends (N c ∷ symbols) h ≡ true → EndsNonterminal c symbols h
unfolding ends
ends_nonterminal c symbols h e =
    record {
      others = (and_parts (ends symbols h) (not (all_nullable symbols) || (follows c h && (is_last symbols || not (is_else h)))) e).0;
      follow = λ n. (and_parts (follows c h) (is_last symbols || not (is_else h)) (inside n)).0;
      quiet = λ n. sides (or_cases (is_last symbols) (not (is_else h)) (and_parts (follows c h) (is_last symbols || not (is_else h)) (inside n)).1);
    }
  where
    inside : all_nullable symbols ≡ true → (follows c h && (is_last symbols || not (is_else h))) ≡ true
    inside n = subst (λ b. (not b || (follows c h && (is_last symbols || not (is_else h)))) ≡ true) n (and_parts (ends symbols h) (not (all_nullable symbols) || (follows c h && (is_last symbols
        || not (is_else h)))) e).1

    sides : (is_last symbols ≡ true) ⊎ (not (is_else h) ≡ true) → (is_last symbols ≡ true) ⊎ (is_else h ≡ false)
    sides (inl l) = inl l
    sides (inr m) = inr (not-true (is_else h) m)

nonterminal_follows : (c : Nonterminal) (symbols : List Symbol) (t g : Tree) (j : List Token) → Row (N c ∷ symbols) → EndsNonterminal c symbols (head j) → Settled (Cons t g) j →
    Fits (All symbols) g → (follows c (head (spelled g j)) ≡ true) × (is_else (head (spelled g j)) ≡ true → waits t ≡ false)
unfolding Opens begins_form empty_form
nonterminal_follows c symbols t g j row e q h = go (opens g (All symbols) h)
  where
    last : (symbols : List Symbol) → Fits (All symbols) g → is_last symbols ≡ true → is_else (head j) ≡ true → waits t ≡ false
    last [] h l x = sym (waits_alone t) ∙ subst (λ (g : Tree). waits (Cons t g) ≡ false) (nil_is g h) (q x)
    last (s ∷ symbols) h l x = absurd (cc l)

    either : is_else (head j) ≡ true → (is_last symbols ≡ true) ⊎ (is_else (head j) ≡ false) → waits t ≡ false
    either x (inl l) = last symbols h l x
    either x (inr o) = absurd (cc (x, o))

    go : Opens (ahead symbols) (all_nullable symbols) g → (follows c (head (spelled g j)) ≡ true) × (is_else (head (spelled g j)) ≡ true → waits t ≡ false)
    go (inl o) =
        subst (λ (ts : List Token). (follows c (head ts) ≡ true) × (is_else (head ts) ≡ true → waits t ≡ false)) (sym (o.1 j))
        (e.follow o.0, λ x. either x (e.quiet o.0))
    go (inr o) =
        let f = row_follows c symbols row o.0.kind o.2 in
        subst (λ (ts : List Token). (follows c (head ts) ≡ true) × (is_else (head ts) ≡ true → waits t ≡ false)) (sym (o.3 j))
        (f.0, λ x. absurd (cc (x, f.1)))

-- one child, and then the others
joined : (rd : Nonterminal → List Token → ReadResult) (s : Symbol) (symbols : List Symbol) (t g : Tree) (ts k j : List Token) → Reads (one rd s ts) t k → Reads (children rd symbols k) g j →
    Reads (children rd (s ∷ symbols) ts) (Cons t g) j
unfolding children
joined rd s symbols t g ts k j (inr e) h = inr (ap (λ (o : ReadResult). and_then o (λ t k. and_then (children rd symbols k) (λ f j. Read (Cons t f) j))) e)
joined rd s symbols t g ts k j (inl e) (inl h) =
    inl (ap (λ (o : ReadResult). and_then o (λ t k. and_then (children rd symbols k) (λ f j. Read (Cons t f) j))) e ∙ ap (λ (o : ReadResult). and_then o (λ f j. Read (Cons t f) j)) h)
joined rd s symbols t g ts k j (inl e) (inr h) =
    inr (ap (λ (o : ReadResult). and_then o (λ t k. and_then (children rd symbols k) (λ f j. Read (Cons t f) j))) e ∙ ap (λ (o : ReadResult). and_then o (λ f j. Read (Cons t f) j)) h)

token_read : (s : Terminal) (x : Token) (ts : List Token) → is s x.kind ≡ true → token s (x ∷ ts) ≡ Read (Leaf x) ts
unfolding token
token_read s x ts e = rw e refl

nil_rows : Rows Nil
unfolding children spelled
nil_rows [] h n j row e q = inl refl
nil_rows (T s ∷ symbols) h n j row e q = absurd (cons_not_nil (T s) symbols h)
nil_rows (N c ∷ symbols) h n j row e q = absurd (cons_not_nil (N c) symbols h)

token_rows : (s : Terminal) (symbols : List Symbol) (t g : Tree) (n : ℕ) (j : List Token) → Rows g → Fits (All (T s ∷ symbols)) (Cons t g) → Row (T s ∷ symbols) →
    ends (T s ∷ symbols) (head j) ≡ true → Settled (Cons t g) j → Reads (children (read n) (T s ∷ symbols) (spelled (Cons t g) j)) (Cons t g) j
unfolding Fits spelled ends one
token_rows s symbols (Leaf x) g n j rows h row e q =
    joined (read n) (T s) symbols (Leaf x) g (x ∷ spelled g j) (spelled g j) j (inl (token_read s x (spelled g j) h.0)) (rows symbols h.1 n j (row_token s symbols row) e (λ z. waits_after (Leaf x) g
    (q z)))
token_rows s symbols (Node l f) g n j rows h row e q = absurd h
token_rows s symbols Nil g n j rows h row e q = absurd h
token_rows s symbols (Cons u f) g n j rows h row e q = absurd h

nonterminal_rows : (c : Nonterminal) (symbols : List Symbol) (t g : Tree) (n : ℕ) (j : List Token) → Whole t → Rows g → Fits (All (N c ∷ symbols)) (Cons t g) → Row (N c ∷ symbols) →
    ends (N c ∷ symbols) (head j) ≡ true → Settled (Cons t g) j → Reads (children (read n) (N c ∷ symbols) (spelled (Cons t g) j)) (Cons t g) j
unfolding Fits spelled one
nonterminal_rows c symbols t g n j whole rows h row e q =
    let d = ends_nonterminal c symbols (head j) e in
    let f = nonterminal_follows c symbols t g j row d q h.1 in
    joined (read n) (N c) symbols t g (spelled t (spelled g j)) (spelled g j) j (read_whole n c t (spelled g j) h.0 whole (row_read c symbols row) f.0 f.1) (rows symbols h.1 n j (row_rest c symbols
    row) d.others (λ z. waits_after t g (q z)))

cons_rows : (t g : Tree) → Whole t → Rows g → Rows (Cons t g)
cons_rows t g whole rows [] h n j row e q = absurd (cons_not_empty t g h)
cons_rows t g whole rows (T s ∷ symbols) h n j row e q = token_rows s symbols t g n j rows h row e q
cons_rows t g whole rows (N c ∷ symbols) h n j row e q = nonterminal_rows c symbols t g n j whole rows h row e q

-- ---- all trees

pub record Complete (t : Tree) : Type 0 where
  pub whole : Whole t
  pub rows : Rows t
  pub inner : Inner t

node_whole : (l : Production) (f : Tree) → Rows f → Inner f → Whole (Node l f)
unfolding Fits
node_whole l f rows inner c k g same h n j r i q = go f (is_suffix l) refl rows inner h (subst (λ (l : Production). Sits c l (head j)) production_same i) (subst (λ (f : Tree). Settled f j)
    parts_same q)
  where
    production_same : k ≡ l
    production_same = cc same

    parts_same : g ≡ f
    parts_same = cc same

    fits_front : (f : Tree) → is_suffix l ≡ true → Fits (One c) (Node l f) → Fits (All (N (front l) ∷ rest_of l)) f
    fits_front f s h = subst (λ (symbols : List Symbol). Fits (All symbols) f) (front_is l s) (fits_parts c l f h)

    go : (f : Tree) (b : Bool) → is_suffix l ≡ b → Rows f → Inner f → Fits (One c) (Node l f) → Sits c l (head j) → Settled f j → Reaches n c (Node l f) j
    go f false s rows inner h i q = prefix_reaches n c l f j rows h r s i q
    go (Cons (Node k f) g) true s rows inner h i q =
        let p = fits_front (Cons (Node k f) g) s h in
        suffix_reaches n c l k f g j inner.0 inner.1 h p.0 p.1 r s i q
    go (Cons (Leaf x) g) true s rows inner h i q = absurd (fits_front (Cons (Leaf x) g) s h).0
    go (Cons Nil g) true s rows inner h i q = absurd (fits_front (Cons Nil g) s h).0
    go (Cons (Cons t f) g) true s rows inner h i q = absurd (fits_front (Cons (Cons t f) g) s h).0
    go (Leaf x) true s rows inner h i q = absurd (fits_front (Leaf x) s h)
    go (Node k f) true s rows inner h i q = absurd (fits_front (Node k f) s h)
    go Nil true s rows inner h i q = absurd (fits_front Nil s h)

pub complete : (t : Tree) → Complete t
unfolding Fits
complete (Leaf x) = record { whole = λ c l f e h. absurd (cc e); rows = λ symbols h. absurd (not_leaf symbols x h); inner = tt }
complete Nil = record { whole = λ c l f e h. absurd (cc e); rows = nil_rows; inner = tt }
complete (Node l f) =
    let d = complete f in
    record { whole = node_whole l f d.rows d.inner; rows = λ symbols h. absurd (not_node symbols l f h); inner = tt }
complete (Cons t f) =
    let d = complete t in
    let e = complete f in
    record { whole = λ c l f e h. absurd (cc e); rows = cons_rows t f d.whole e.rows; inner = (d.whole, e.rows) }

-- A tree of a nonterminal is read from its spelling, where what follows may follow the nonterminal.
pub read_again : (n : ℕ) (c : Nonterminal) (t : Tree) (j : List Token) → Fits (One c) t → is_read c ≡ true → follows c (head j) ≡ true → (is_else (head j) ≡ true → waits t ≡ false) →
    Reads (read n c (spelled t j)) t j
read_again n c t j h r f q = read_whole n c t j h (complete t).whole r f q
