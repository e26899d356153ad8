-- What is read follows the grammar, and is spelled by the tokens that were read.
use Rattle.std.specs.Prelude.{◌≡◌, ◌⊎◌, ℕ, zero, suc, Bool, true, false, List, [], ◌∷◌, drop, Option, Some, None, if◌then◌else◌}
use Rattle.std.proofs.Common.{refl, sym, ap, ◌∙◌, inl, inr, subst}
use Rattle.c_lex.specs.declared.token.Token.{Token}
use Rattle.c_ast.specs.Nonterminals.{Nonterminal}
use Rattle.c_ast.specs.Productions.{Production}
use Rattle.c_ast.specs.Productions as production
use Rattle.c_ast.specs.Terminals.{Terminal, is}
use Rattle.c_ast.specs.Tree.{Tree, Leaf, Node, Nil, Cons}
use Rattle.c_ast.specs.Spelling.{spelled}
use Rattle.c_ast.specs.Grammar.{Symbol, T, N, One, All, Fits, symbols_of, allowed, waits, else_fits}
use Rattle.c_ast.specs.PredictSets.{at, head, typed, start, next}
use Rattle.c_ast.specs.Reader.{ReadResult, Read, SyntaxError, OutOfFuel, and_then, production_of, token, one, children, begun, first, later, goes_on, turns, step, read}
use Rattle.c_ast.proofs.Follow.{front, rest_of, is_read, all_nullable, ahead, is_else}
use Rattle.c_ast.proofs.Bridges.{start_is, next_is, if_is, front_is, drop_front, rest_filled, GoesOn}
use Rattle.c_ast.proofs.Trees.{waits_node, waits_alone, waits_cons, waits_last, waits_leaf, waits_nil, else_fits_other, else_fits_if, is_if_else, is_if, prefix_if_else, fits_node, fits_allowed, fits_else, fits_parts, fits_nil, fits_leaf, fits_cons, spelled_node, spelled_cons, else_ahead}

-- where a sequence is done, its first child is
pub record Both (o : ReadResult) (go : Tree → List Token → ReadResult) (t : Tree) (k : List Token) : Type 0 where
  pub tree : Tree
  pub left : List Token
  pub first_is : o ≡ Read tree left
  pub then_is : go tree left ≡ Read t k

pub both : (o : ReadResult) (go : Tree → List Token → ReadResult) (t : Tree) (k : List Token) → and_then o go ≡ Read t k → Both o go t k
both (Read u j) go t k e = record { tree = u; left = j; first_is = refl; then_is = e }
both (SyntaxError j) go t k e = absurd (cc e)
both OutOfFuel go t k e = absurd (cc e)

pub Quiet : Tree → List Token → Type 0
Quiet t k = is_else (head k) ≡ true → waits t ≡ false

-- a tree of the nonterminal, read from these tokens
pub record Got (c : Nonterminal) (ts : List Token) (t : Tree) (k : List Token) : Type 0 where
  pub fits : Fits (One c) t
  pub spells : ts ≡ spelled t k
  pub quiet : is_else (head k) ≡ true → waits t ≡ false

-- children of a production, read from these tokens
pub record GotParts (symbols : List Symbol) (ts : List Token) (f : Tree) (k : List Token) : Type 0 where
  pub fits : Fits (All symbols) f
  pub spells : ts ≡ spelled f k
  pub quiet : is_else (head k) ≡ true → waits f ≡ false

abbrev pub Sound : (Nonterminal → List Token → ReadResult) → Type 0
Sound rd = (c : Nonterminal) (ts : List Token) (t : Tree) (k : List Token) → rd c ts ≡ Read t k → Got c ts t k

token_leaf : (s : Terminal) (x : Token) (ts : List Token) (t : Tree) (k : List Token) (b : Bool) → is s x.kind ≡ b → (if b then Read (Leaf x) ts else SyntaxError (x ∷ ts)) ≡ Read t k →
    (is s x.kind ≡ true) × (t ≡ Leaf x) × (ts ≡ k)
token_leaf s x ts t k true e h = (e, cc, cc)
token_leaf s x ts t k false e h = absurd (cc h)

pub token_sound : (s : Terminal) (symbols : List Symbol) (ts : List Token) (t : Tree) (k : List Token) (f : Tree) (j : List Token) → token s ts ≡ Read t k → GotParts symbols k f j →
    GotParts (T s ∷ symbols) ts (Cons t f) j
unfolding token spelled
token_sound s symbols [] t k f j e g = absurd (cc e)
token_sound s symbols (x ∷ ts) t k f j e g =
    let h = token_leaf s x ts t k (is s x.kind) refl e in
    subst (λ (u : Tree). GotParts (T s ∷ symbols) (x ∷ ts) (Cons u f) j) (sym h.1)
    (record {
      fits = fits_leaf s symbols x f h.0 g.fits;
      spells = ap (λ z. x ∷ z) (h.2 ∙ g.spells);
      quiet = λ e. waits_cons (Leaf x) f (waits_leaf x) (g.quiet e);
    })

done_tree : (t u : Tree) (k j : List Token) → Read t k ≡ Read u j → t ≡ u
done_tree t u k j e = cc

done_left : (t u : Tree) (k j : List Token) → Read t k ≡ Read u j → k ≡ j
done_left t u k j e = cc

-- the same of what is equal
got_parts : (symbols : List Symbol) (ts : List Token) (f g : Tree) (k j : List Token) → Read f k ≡ Read g j → GotParts symbols ts f k → GotParts symbols ts g j
got_parts symbols ts f g k j e h =
    subst (λ (u : Tree). GotParts symbols ts u j) (done_tree f g k j e) (subst (λ (i : List Token). GotParts symbols ts f i) (done_left f g k j e) h)

pub got_same : (c : Nonterminal) (ts : List Token) (t u : Tree) (k j : List Token) → Read t k ≡ Read u j → Got c ts t k → Got c ts u j
got_same c ts t u k j e h =
    subst (λ (u : Tree). Got c ts u j) (done_tree t u k j e) (subst (λ (i : List Token). Got c ts t i) (done_left t u k j e) h)

nil_sound : (ts : List Token) → GotParts [] ts Nil ts
unfolding spelled
nil_sound ts = record { fits = fits_nil; spells = refl; quiet = λ e. waits_nil }

quiet_cons : (symbols : List Symbol) (t f : Tree) (k j : List Token) → Fits (All symbols) f → k ≡ spelled f j → Quiet t k → Quiet f j → Quiet (Cons t f) j
unfolding Quiet spelled Fits
quiet_cons [] t Nil k j h e p q = λ x. waits_alone t ∙ p (ap (λ z. is_else (head z)) e ∙ x)
quiet_cons [] t (Leaf x) k j h e p q = absurd h
quiet_cons [] t (Node l f) k j h e p q = absurd h
quiet_cons [] t (Cons u f) k j h e p q = absurd h
quiet_cons (s ∷ symbols) t f k j h e p q = λ x. waits_last s symbols t f h ∙ q x

cons_sound : (c : Nonterminal) (symbols : List Symbol) (ts : List Token) (t : Tree) (k : List Token) (f : Tree) (j : List Token) → Got c ts t k → GotParts symbols k f j →
    GotParts (N c ∷ symbols) ts (Cons t f) j
unfolding spelled Quiet
cons_sound c symbols ts t k f j g h =
    record {
      fits = fits_cons c symbols t f g.fits h.fits;
      spells = g.spells ∙ ap (spelled t) h.spells;
      quiet = quiet_cons symbols t f k j h.fits h.spells g.quiet h.quiet;
    }

pub parts_sound : (rd : Nonterminal → List Token → ReadResult) → Sound rd → (symbols : List Symbol) (ts : List Token) (f : Tree) (k : List Token) → children rd symbols ts ≡ Read f k →
    GotParts symbols ts f k
unfolding children one
parts_sound rd sound [] ts f k e = got_parts [] ts Nil f ts k e (nil_sound ts)
parts_sound rd sound (T s ∷ symbols) ts f k e =
    let b = both (token s ts) (λ t k. and_then (children rd symbols k) (λ f j. Read (Cons t f) j)) f k e in
    let d = both (children rd symbols b.left) (λ f j. Read (Cons b.tree f) j) f k b.then_is in
    got_parts (T s ∷ symbols) ts (Cons b.tree d.tree) f d.left k d.then_is
    (token_sound s symbols ts b.tree b.left d.tree d.left b.first_is (parts_sound rd sound symbols b.left d.tree d.left d.first_is))
parts_sound rd sound (N c ∷ symbols) ts f k e =
    let b = both (rd c ts) (λ t k. and_then (children rd symbols k) (λ f j. Read (Cons t f) j)) f k e in
    let d = both (children rd symbols b.left) (λ f j. Read (Cons b.tree f) j) f k b.then_is in
    got_parts (N c ∷ symbols) ts (Cons b.tree d.tree) f d.left k d.then_is
    (cons_sound c symbols ts b.tree b.left d.tree d.left (sound c ts b.tree b.left b.first_is) (parts_sound rd sound symbols b.left d.tree d.left d.first_is))

-- ---- going on

-- a node of the nonterminal, of what is read up to k
pub record Stands (c : Nonterminal) (l : Production) (f : Tree) (k : List Token) : Type 0 where
  pub read : is_read c ≡ true
  pub fits : Fits (One c) (Node l f)
  pub quiet : is_else (head k) ≡ true → waits f ≡ false

nearest : (l n : Production) (f g : Tree) (k : List Token) (c : Nonterminal) → GoesOn c l (head k) n → (is_else (head k) ≡ true → waits f ≡ false) → else_fits n (Cons (Node l f) g) ≡ true
nearest l n f g k c on quiet = go (is_if_else n)
  where
    go : (n ≡ production.IfElse) ⊎ (n ≡ production.IfElse → ⊥) → else_fits n (Cons (Node l f) g) ≡ true
    go (inr other) = else_fits_other n (Cons (Node l f) g) other
    go (inl e) =
        subst (λ (n : Production). else_fits n (Cons (Node l f) g) ≡ true) (sym e)
        (else_fits_if l f g (quiet (sym (else_ahead (head k)) ∙ subst (λ (n : Production). at (ahead (rest_of n)) (head k) ≡ true) e on.ahead)))

pub waits_filled : (symbols : List Symbol) (t g : Tree) → all_nullable symbols ≡ false → Fits (All symbols) g → waits (Cons t g) ≡ waits g
unfolding all_nullable
waits_filled [] t g n h = absurd (cc n)
waits_filled (s ∷ symbols) t g n h = waits_last s symbols t g h

pub later_fits : (c : Nonterminal) (l n : Production) (f g : Tree) (ts : List Token) → Stands c l f ts → next c l (head ts) ≡ Some n → Fits (All (drop 1 (symbols_of n))) g →
    Fits (One c) (Node n (Cons (Node l f) g))
later_fits c l n f g ts s e h =
    let on = next_is c l (head ts) n s.read (fits_allowed c l f s.fits) e in
    let rest : Fits (All (rest_of n)) g = subst (λ (symbols : List Symbol). Fits (All symbols) g) (drop_front n on.suffix) h in
    let before : Fits (One (front n)) (Node l f) = fits_node (front n) l f on.after (fits_else c l f s.fits) (fits_parts c l f s.fits) in
    fits_node c n (Cons (Node l f) g) on.inside (nearest l n f g ts c on s.quiet)
    (subst (λ (symbols : List Symbol). Fits (All symbols) (Cons (Node l f) g)) (sym (front_is n on.suffix)) (fits_cons (front n) (rest_of n) (Node l f) g before rest))

pub later_stands : (c : Nonterminal) (l n : Production) (f g : Tree) (ts k : List Token) → Stands c l f ts → next c l (head ts) ≡ Some n → GotParts (drop 1 (symbols_of n)) ts g k →
    Stands c n (Cons (Node l f) g) k
later_stands c l n f g ts k s e h =
    let on = next_is c l (head ts) n s.read (fits_allowed c l f s.fits) e in
    let rest : Fits (All (rest_of n)) g = subst (λ (symbols : List Symbol). Fits (All symbols) g) (drop_front n on.suffix) h.fits in
    record {
      read = s.read;
      fits = later_fits c l n f g ts s e h.fits;
      quiet = λ x. waits_filled (rest_of n) (Node l f) g (rest_filled n on.suffix) rest ∙ h.quiet x;
    }

stopped : (c : Nonterminal) (l : Production) (f : Tree) (k : List Token) → Stands c l f k → next c l (head k) ≡ None → Got c (spelled f k) (Node l f) k
stopped c l f k s e = record { fits = s.fits; spells = sym (spelled_node l f k); quiet = λ x. go x (is_if l) }
  where
    go : is_else (head k) ≡ true → (l ≡ production.If) ⊎ (l ≡ production.If → ⊥) → waits (Node l f) ≡ false
    go x (inr other) = waits_node l f other ∙ s.quiet x
    go x (inl i) =
        absurd (if_is c (head k) s.read (subst (λ (l : Production). allowed c l ≡ true) i (fits_allowed c l f s.fits)) x (subst (λ (l : Production). next c l (head k) ≡ None) i e))

-- what is done after a tree that was read
abbrev pub Again : (Nonterminal → List Token → ReadResult) → ℕ → Nonterminal → Tree → List Token → Type 0
Again rd n c t k =
    (l : Production) (f : Tree) (ts : List Token) → Stands c l f ts → turns rd n c (Node l f) ts ≡ Read t k → Got c (spelled f ts) t k

goes_on_sound : (rd : Nonterminal → List Token → ReadResult) → Sound rd → (n : ℕ) (c : Nonterminal) (t : Tree) (k : List Token) → Again rd n c t k → (l : Production) (f : Tree) (ts : List Token) →
    Stands c l f ts → (o : Option Production) → next c l (head ts) ≡ o → goes_on rd o (Node l f) ts (turns rd n c) ≡ Read t k → Got c (spelled f ts) t k
unfolding goes_on later
goes_on_sound rd sound n c t k again l f ts s None e h = got_same c (spelled f ts) (Node l f) t ts k h (stopped c l f ts s e)
goes_on_sound rd sound n c t k again l f ts s (Some m) e h =
    let b = both (later rd m (Node l f) ts) (turns rd n c) t k h in
    let d = both (children rd (drop 1 (symbols_of m)) ts) (λ g j. Read (Node m (Cons (Node l f) g)) j) b.tree b.left b.first_is in
    let p = parts_sound rd sound (drop 1 (symbols_of m)) ts d.tree d.left d.first_is in
    let i : turns rd n c (Node m (Cons (Node l f) d.tree)) d.left ≡ Read t k = ap (λ (o : ReadResult). and_then o (turns rd n c)) d.then_is ∙ b.then_is in
    let g = again m (Cons (Node l f) d.tree) d.left (later_stands c l m f d.tree ts d.left s e p) i in
    subst (λ (us : List Token). Got c us t k) (spelled_cons (Node l f) d.tree d.left ∙ spelled_node l f (spelled d.tree d.left) ∙ ap (spelled f) (sym p.spells)) g

turns_sound : (rd : Nonterminal → List Token → ReadResult) → Sound rd → (n : ℕ) (c : Nonterminal) (t : Tree) (k : List Token) → Again rd n c t k
unfolding turns production_of
turns_sound rd sound zero c t k l f ts s e = absurd (cc e)
turns_sound rd sound (suc n) c t k l f ts s e =
    goes_on_sound rd sound n c t k (turns_sound rd sound n c t k) l f ts s (next c l (head ts)) refl e

-- ---- beginning

pub record Begun (c : Nonterminal) (ts : List Token) (t : Tree) (k : List Token) : Type 0 where
  pub production : Production
  pub children : Tree
  pub is : Node production children ≡ t
  pub stands : Stands c production children k
  pub spells : ts ≡ spelled children k

pub begun_sound : (rd : Nonterminal → List Token → ReadResult) → Sound rd → (c : Nonterminal) (ts : List Token) (t : Tree) (k : List Token) (o : Option Production) →
    start c (head ts) (typed ts) ≡ o → begun rd o ts ≡ Read t k → Begun c ts t k
unfolding begun
begun_sound rd sound c ts t k None e h = absurd (cc h)
begun_sound rd sound c ts t k (Some l) e h =
    let d = both (children rd (symbols_of l) ts) (λ f j. Read (Node l f) j) t k h in
    let p = parts_sound rd sound (symbols_of l) ts d.tree d.left d.first_is in
    let s = start_is c (head ts) (typed ts) l e in
    let j : d.left ≡ k = done_left (Node l d.tree) t d.left k d.then_is in
    record {
      production = l;
      children = d.tree;
      is = done_tree (Node l d.tree) t d.left k d.then_is;
      stands = record {
        read = s.2;
        fits = fits_node c l d.tree s.0 (else_fits_other l d.tree (prefix_if_else l s.1)) p.fits;
        quiet = subst (λ (k : List Token). is_else (head k) ≡ true → waits d.tree ≡ false) j p.quiet;
      };
      spells = subst (λ (k : List Token). ts ≡ spelled d.tree k) j p.spells;
    }

step_sound : (rd : Nonterminal → List Token → ReadResult) → Sound rd → (n : ℕ) (c : Nonterminal) (ts : List Token) (t : Tree) (k : List Token) → step n rd c ts ≡ Read t k → Got c ts t k
unfolding step first
step_sound rd sound n c ts t k e =
    let b = both (first rd c ts) (turns rd (suc n) c) t k e in
    let d = begun_sound rd sound c ts b.tree b.left (start c (head ts) (typed ts)) refl b.first_is in
    let i : turns rd (suc n) c (Node d.production d.children) b.left ≡ Read t k = ap (λ (u : Tree). turns rd (suc n) c u b.left) d.is ∙ b.then_is in
    subst (λ (us : List Token). Got c us t k) (sym d.spells) (turns_sound rd sound (suc n) c t k d.production d.children b.left d.stands i)

-- What is read is a tree of the nonterminal, spelled by what was read; where an `else` follows, no `if` at its end waits.
pub read_sound : (n : ℕ) → Sound (read n)
unfolding read
read_sound zero c ts t k e = absurd (cc e)
read_sound (suc n) c ts t k e = step_sound (read n) (read_sound n) n c ts t k e
