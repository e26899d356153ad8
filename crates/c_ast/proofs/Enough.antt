-- A bound that is a multiple of the number of tokens is never passed.
use Rattle.std.specs.Prelude.{◌≡◌, ◌⊎◌, ℕ, zero, suc, ◌+◌, ◌*◌, ◌<◌, ◌≤◌, Bool, true, false, List, [], ◌∷◌, length, drop, Option, Some, None, if◌then◌else◌, nat_lt}
use Rattle.std.proofs.Common.{refl, sym, ap, ◌∙◌, inl, inr, subst, arith, length-append}
use Rattle.std.proofs.lemmas.Bool.{ltb-true, and_parts}
use Rattle.c_lex.specs.declared.token.Token.{Token}
use Rattle.c_ast.specs.Nonterminals.{Nonterminal}
use Rattle.c_ast.specs.Productions.{Production}
use Rattle.c_ast.specs.Terminals.{Terminal, is}
use Rattle.c_ast.specs.Tree.{Tree, Leaf, Node, Cons}
use Rattle.c_ast.specs.Spelling.{spelled}
use Rattle.c_ast.specs.Grammar.{Symbol, T, N, All, Fits, symbols_of}
use Rattle.c_ast.specs.PredictSets.{head, typed, start, next}
use Rattle.c_ast.specs.Reader.{ReadResult, Read, SyntaxError, OutOfFuel, and_then, production_of, token, one, children, begun, first, later, goes_on, turns, step, read}
use Rattle.c_ast.proofs.Follow.{is_read, all_nullable, ahead, rest_of, precedence}
use Rattle.c_ast.proofs.Checks.{good_ranks}
use Rattle.c_ast.proofs.Bridges.{Row, row_is, row_token, row_read, row_rest, start_is, next_is, rest_is, rest_filled, drop_front, rank_low, ranks_are, GoesOn}
use Rattle.c_ast.proofs.Trees.{fits_allowed}
use Rattle.c_ast.proofs.Firsts.{Opens, opens, begins_form, empty_form}
use Rattle.c_ast.proofs.Small.{Small, begun_small, read_small}
use Rattle.c_ast.proofs.Sound.{Stands, both, parts_sound, later_stands, begun_sound, read_sound}
use Rattle.c_ast.proofs.Viable.{token_done}

-- where a sequence is too deep, its first child is, or what comes then
pub record DeepThen (o : ReadResult) (go : Tree → List Token → ReadResult) : Type 0 where
  pub tree : Tree
  pub left : List Token
  pub first_is : o ≡ Read tree left
  pub then_is : go tree left ≡ OutOfFuel

deep : (o : ReadResult) (go : Tree → List Token → ReadResult) → and_then o go ≡ OutOfFuel → (o ≡ OutOfFuel) ⊎ DeepThen o go
deep (Read u j) go e = inr (record { tree = u; left = j; first_is = refl; then_is = e })
deep (SyntaxError j) go e = absurd (cc e)
deep OutOfFuel go e = inl e

not_deep : (t : Tree) (j : List Token) → Read t j ≡ OutOfFuel → ⊥
not_deep t j e = cc e

abbrev pub EnoughAt : ℕ → Type 0
EnoughAt n = (c : Nonterminal) (ts : List Token) → is_read c ≡ true → 16 * length ts + precedence c < n → read n c ts ≡ OutOfFuel → ⊥

token_flat : (s : Terminal) (ts : List Token) → token s ts ≡ OutOfFuel → ⊥
unfolding token
token_flat s [] e = cc e
token_flat s (x ∷ ts) e = go (is s x.kind) e
  where
    go : (b : Bool) → (if b then Read (Leaf x) ts else SyntaxError (x ∷ ts)) ≡ OutOfFuel → ⊥
    go true h = cc h
    go false h = cc h

-- a token was taken
token_shorter : (s : Terminal) (ts : List Token) (t : Tree) (k : List Token) → token s ts ≡ Read t k → length k < length ts
token_shorter s ts t k e = let d = token_done s ts t k e in rw d.3 (omega arith)

left_small : (n : ℕ) (c : Nonterminal) (ts : List Token) (t : Tree) (k : List Token) → read n c ts ≡ Read t k → length k ≤ length ts
left_small n c ts t k e = subst (Small (length ts)) e (read_small n c (length ts) ts (omega arith))

-- after a token
parts_enough : (n : ℕ) → EnoughAt n → (symbols : List Symbol) → Row symbols → (ts : List Token) → 16 * length ts + 16 ≤ n → children (read n) symbols ts ≡ OutOfFuel → ⊥
unfolding children one
parts_enough n enough [] row ts h e = cc e
parts_enough n enough (T s ∷ symbols) row ts h e =
    go (deep (token s ts) (λ t k. and_then (children (read n) symbols k) (λ f j. Read (Cons t f) j)) e) (parts_enough n enough symbols (row_token s symbols row))
  where
    go : (token s ts ≡ OutOfFuel) ⊎ DeepThen (token s ts) (λ t k. and_then (children (read n) symbols k) (λ f j. Read (Cons t f) j)) → ((ts : List Token) → 16 * length ts + 16 ≤ n →
        children (read n) symbols ts ≡ OutOfFuel → ⊥) → ⊥
    go (inl g) again = token_flat s ts g
    go (inr g) again = inside (deep (children (read n) symbols g.left) (λ f j. Read (Cons g.tree f) j) g.then_is)
      where
        inside : (children (read n) symbols g.left ≡ OutOfFuel) ⊎ DeepThen (children (read n) symbols g.left) (λ f j. Read (Cons g.tree f) j) → ⊥
        inside (inl i) = let less : length g.left < length ts = token_shorter s ts g.tree g.left g.first_is in again g.left (omega arith) i
        inside (inr i) = not_deep (Cons g.tree i.tree) i.left i.then_is
parts_enough n enough (N c ∷ symbols) row ts h e =
    go (deep (read n c ts) (λ t k. and_then (children (read n) symbols k) (λ f j. Read (Cons t f) j)) e) (parts_enough n enough symbols (row_rest c symbols row))
  where
    low : precedence c ≤ 10
    low = rank_low c (row_read c symbols row)

    go : (read n c ts ≡ OutOfFuel) ⊎ DeepThen (read n c ts) (λ t k. and_then (children (read n) symbols k) (λ f j. Read (Cons t f) j)) → ((ts : List Token) → 16 * length ts + 16 ≤ n →
        children (read n) symbols ts ≡ OutOfFuel → ⊥) → ⊥
    go (inl g) again = enough c ts (row_read c symbols row) (omega (arith, low)) g
    go (inr g) again = inside (deep (children (read n) symbols g.left) (λ f j. Read (Cons g.tree f) j) g.then_is)
      where
        inside : (children (read n) symbols g.left ≡ OutOfFuel) ⊎ DeepThen (children (read n) symbols g.left) (λ f j. Read (Cons g.tree f) j) → ⊥
        inside (inl i) = let less : length g.left ≤ length ts = left_small n c ts g.tree g.left g.first_is in again g.left (omega arith) i
        inside (inr i) = not_deep (Cons g.tree i.tree) i.left i.then_is

-- before a token is taken
parts_fresh : (n r : ℕ) → EnoughAt n → (symbols : List Symbol) → Row symbols → good_ranks r symbols ≡ true → (ts : List Token) → 16 * length ts + r ≤ n → children (read n) symbols ts ≡ OutOfFuel → ⊥
unfolding children one
parts_fresh n r enough [] row ranks ts h e = cc e
parts_fresh n r enough (T s ∷ symbols) row ranks ts h e =
    go (deep (token s ts) (λ t k. and_then (children (read n) symbols k) (λ f j. Read (Cons t f) j)) e)
  where
    go : (token s ts ≡ OutOfFuel) ⊎ DeepThen (token s ts) (λ t k. and_then (children (read n) symbols k) (λ f j. Read (Cons t f) j)) → ⊥
    go (inl g) = token_flat s ts g
    go (inr g) = inside (deep (children (read n) symbols g.left) (λ f j. Read (Cons g.tree f) j) g.then_is)
      where
        inside : (children (read n) symbols g.left ≡ OutOfFuel) ⊎ DeepThen (children (read n) symbols g.left) (λ f j. Read (Cons g.tree f) j) → ⊥
        inside (inl i) =
            let less : length g.left < length ts = token_shorter s ts g.tree g.left g.first_is in
            parts_enough n enough symbols (row_token s symbols row) g.left (omega arith) i
        inside (inr i) = not_deep (Cons g.tree i.tree) i.left i.then_is
parts_fresh n r enough (N c ∷ symbols) row ranks ts h e =
    go (deep (read n c ts) (λ t k. and_then (children (read n) symbols k) (λ f j. Read (Cons t f) j)) e) (parts_fresh n r enough symbols (row_rest c symbols row)
    (and_parts (nat_lt (precedence c) r) (good_ranks r symbols) ranks).1)
  where
    lower : precedence c < r
    lower = ltb-true (precedence c) r (and_parts (nat_lt (precedence c) r) (good_ranks r symbols) ranks).0

    go : (read n c ts ≡ OutOfFuel) ⊎ DeepThen (read n c ts) (λ t k. and_then (children (read n) symbols k) (λ f j. Read (Cons t f) j)) → ((ts : List Token) → 16 * length ts + r ≤ n →
        children (read n) symbols ts ≡ OutOfFuel → ⊥) → ⊥
    go (inl g) again = enough c ts (row_read c symbols row) (omega (arith, lower)) g
    go (inr g) again = inside (deep (children (read n) symbols g.left) (λ f j. Read (Cons g.tree f) j) g.then_is)
      where
        inside : (children (read n) symbols g.left ≡ OutOfFuel) ⊎ DeepThen (children (read n) symbols g.left) (λ f j. Read (Cons g.tree f) j) → ⊥
        inside (inl i) = let less : length g.left ≤ length ts = left_small n c ts g.tree g.left g.first_is in again g.left (omega arith) i
        inside (inr i) = not_deep (Cons g.tree i.tree) i.left i.then_is

-- ---- going on

-- after a production that goes on there are fewer tokens
later_shorter : (m : Production) (g : Tree) (ts k : List Token) → all_nullable (rest_of m) ≡ false → Fits (All (rest_of m)) g → ts ≡ spelled g k → length k < length ts
unfolding Opens begins_form empty_form
later_shorter m g ts k f h e = go (opens g (All (rest_of m)) h)
  where
    go : Opens (ahead (rest_of m)) (all_nullable (rest_of m)) g → length k < length ts
    go (inl o) = absurd (cc (f, o.0))
    go (inr o) = rw (e, o.3 k) (omega (arith, length-append o.1 k))

abbrev pub EnoughTurns : ℕ → ℕ → Nonterminal → Type 0
EnoughTurns n m c =
    (l : Production) (f : Tree) (ts : List Token) → Stands c l f ts → length ts < m → 16 * length ts + precedence c ≤ n → turns (read n) m c (Node l f) ts ≡ OutOfFuel → ⊥

goes_on_enough : (n m : ℕ) (c : Nonterminal) → EnoughAt n → EnoughTurns n m c → (l : Production) (f : Tree) (ts : List Token) → Stands c l f ts → length ts < suc m →
    16 * length ts + precedence c ≤ n → (o : Option Production) → next c l (head ts) ≡ o → goes_on (read n) o (Node l f) ts (turns (read n) m c) ≡ OutOfFuel → ⊥
unfolding goes_on later
goes_on_enough n m c enough again l f ts s b h None e i = not_deep (Node l f) ts i
goes_on_enough n m c enough again l f ts s b h (Some k) e i = go (deep (later (read n) k (Node l f) ts) (turns (read n) m c) i)
  where
    on : GoesOn c l (head ts) k
    on = next_is c l (head ts) k s.read (fits_allowed c l f s.fits) e

    go : (later (read n) k (Node l f) ts ≡ OutOfFuel) ⊎ DeepThen (later (read n) k (Node l f) ts) (turns (read n) m c) → ⊥
    go (inl g) = inside (deep (children (read n) (drop 1 (symbols_of k)) ts) (λ g j. Read (Node k (Cons (Node l f) g)) j) g)
      where
        inside : (children (read n) (drop 1 (symbols_of k)) ts ≡ OutOfFuel) ⊎ DeepThen (children (read n) (drop 1 (symbols_of k)) ts) (λ g j. Read (Node k (Cons (Node l f) g)) j) → ⊥
        inside (inl j) =
            parts_fresh n (precedence c) enough (rest_of k) (row_is k) (ranks_are c k s.read on.inside) ts h
            (subst (λ (symbols : List Symbol). children (read n) symbols ts ≡ OutOfFuel) (drop_front k on.suffix) j)
        inside (inr j) = not_deep (Node k (Cons (Node l f) j.tree)) j.left j.then_is
    go (inr g) =
        let d = both (children (read n) (drop 1 (symbols_of k)) ts) (λ g j. Read (Node k (Cons (Node l f) g)) j) g.tree g.left g.first_is in
        let p = parts_sound (read n) (read_sound n) (drop 1 (symbols_of k)) ts d.tree d.left d.first_is in
        let less : length d.left < length ts = later_shorter k d.tree ts d.left (rest_filled k on.suffix) (subst (λ (symbols : List Symbol). Fits (All symbols) d.tree) (drop_front k on.suffix)
        p.fits) p.spells in
        again k (Cons (Node l f) d.tree) d.left (later_stands c l k f d.tree ts d.left s e p) (omega arith) (omega arith)
        (ap (λ (o : ReadResult). and_then o (turns (read n) m c)) d.then_is ∙ g.then_is)

turns_enough : (n m : ℕ) (c : Nonterminal) → EnoughAt n → EnoughTurns n m c
unfolding turns production_of
turns_enough n zero c enough l f ts s b h e = absurd (omega arith)
turns_enough n (suc m) c enough l f ts s b h e =
    goes_on_enough n m c enough (turns_enough n m c enough) l f ts s b h (next c l (head ts)) refl e

-- ---- beginning

begun_enough : (n : ℕ) (c : Nonterminal) (ts : List Token) → EnoughAt n → is_read c ≡ true → 16 * length ts + precedence c ≤ n → (o : Option Production) → start c (head ts) (typed ts) ≡ o →
    begun (read n) o ts ≡ OutOfFuel → ⊥
unfolding begun
begun_enough n c ts enough r h None e i = cc i
begun_enough n c ts enough r h (Some l) e i = go (deep (children (read n) (symbols_of l) ts) (λ f k. Read (Node l f) k) i)
  where
    go : (children (read n) (symbols_of l) ts ≡ OutOfFuel) ⊎ DeepThen (children (read n) (symbols_of l) ts) (λ f k. Read (Node l f) k) → ⊥
    go (inl g) =
        let s = start_is c (head ts) (typed ts) l e in
        parts_fresh n (precedence c) enough (rest_of l) (row_is l) (ranks_are c l r s.0) ts h
        (subst (λ (symbols : List Symbol). children (read n) symbols ts ≡ OutOfFuel) (sym (rest_is l s.1)) g)
    go (inr g) = not_deep (Node l g.tree) g.left g.then_is

step_enough : (n : ℕ) (c : Nonterminal) (ts : List Token) → EnoughAt n → is_read c ≡ true → 16 * length ts + precedence c ≤ n → step n (read n) c ts ≡ OutOfFuel → ⊥
unfolding step first
step_enough n c ts enough r h e = go (deep (first (read n) c ts) (turns (read n) (suc n) c) e)
  where
    go : (first (read n) c ts ≡ OutOfFuel) ⊎ DeepThen (first (read n) c ts) (turns (read n) (suc n) c) → ⊥
    go (inl g) = begun_enough n c ts enough r h (start c (head ts) (typed ts)) refl g
    go (inr g) =
        let d = begun_sound (read n) (read_sound n) c ts g.tree g.left (start c (head ts) (typed ts)) refl g.first_is in
        let less : length g.left ≤ length ts = subst (Small (length ts)) g.first_is (begun_small (read n) (read_small n) (start c (head ts) (typed ts)) (length ts) ts (omega arith)) in
        turns_enough n (suc n) c enough d.production d.children g.left d.stands (omega arith) (omega arith)
        (ap (λ (u : Tree). turns (read n) (suc n) c u g.left) d.is ∙ g.then_is)

-- The bound is not passed where it is above sixteen times the tokens, and the precedence of the nonterminal.
pub read_enough : (n : ℕ) → EnoughAt n
unfolding read
read_enough zero c ts r h e = omega arith
read_enough (suc n) c ts r h e = step_enough n c ts (read_enough n) r (omega arith) e
