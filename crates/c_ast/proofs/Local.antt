-- A reader does not look past a token that it has not passed, but at the one token that may choose between productions
-- which take the token before.
use Rattle.std.specs.Prelude.{◌≡◌, ◌⊎◌, ℕ, zero, suc, ◌≤◌, Bool, true, false, List, [], ◌∷◌, ◌++◌, length, drop, Option, Some, None, if◌then◌else◌}
use Rattle.std.proofs.Common.{refl, sym, ap, inl, inr, subst, arith}
use Rattle.c_lex.specs.declared.token.Token.{Token}
use Rattle.c_lex.specs.declared.token.TokenKind.{TokenKind}
use Rattle.c_ast.specs.Nonterminals.{Nonterminal}
use Rattle.c_ast.specs.Productions.{Production}
use Rattle.c_ast.specs.Terminals.{Terminal, is}
use Rattle.c_ast.specs.Tree.{Tree, Leaf, Node, Cons}
use Rattle.c_ast.specs.Grammar.{Symbol, T, N, symbols_of}
use Rattle.c_ast.specs.PredictSets.{at, begins_type, head, typed, start, next}
use Rattle.c_ast.specs.Reader.{ReadResult, Read, SyntaxError, OutOfFuel, and_then, production_of, token, one, children, begun, first, later, goes_on, turns, step, read}
use Rattle.c_ast.proofs.Checks.{takes, takes_it}
use Rattle.c_ast.proofs.Bridges.{look_is}
use Rattle.c_ast.proofs.Small.{Small, SmallReader, then_small, parts_small, turns_small, read_small}

module _ (x : Token) (r s : List Token) where
  -- the same up to the token x, after which r or s stands
  abbrev pub Same : List Token → List Token → Type 0
  Same k j = (q : List Token) × (k ≡ q ++ x ∷ r) × (j ≡ q ++ x ∷ s)

  abbrev pub SameResult : ReadResult → ReadResult → Type 0
  SameResult (Read t k) (Read u j) = (t ≡ u) × Same k j
  SameResult (SyntaxError k) (SyntaxError j) = Same k j
  SameResult _ _ = ⊥

  -- The first has passed the token, or both are equal.
  abbrev pub Twin : ReadResult → ReadResult → Type 0
  Twin o p = SameResult o p ⊎ Small (length r) o

  abbrev pub TwinReader : (Nonterminal → List Token → ReadResult) → Type 0
  TwinReader rd = (c : Nonterminal) (p : List Token) → Twin (rd c (p ++ x ∷ r)) (rd c (p ++ x ∷ s))

  then_twin : (o p : ReadResult) (go : Tree → List Token → ReadResult) → Twin o p → ((t : Tree) (q : List Token) → Twin (go t (q ++ x ∷ r)) (go t (q ++ x ∷ s))) → ((t : Tree) (k : List Token) →
      length k ≤ length r → Small (length r) (go t k)) → Twin (and_then o go) (and_then p go)
  then_twin o p go (inr h) g m = inr (then_small (length r) o go h m)
  then_twin (Read t k) (Read u j) go (inl h) g m =
      let e : go u (h.1.0 ++ x ∷ r) ≡ go t k = cc (h.0, h.1.1) in
      subst (λ (o : ReadResult). Twin o (go u j)) e
      (subst (λ (p : ReadResult). Twin (go u (h.1.0 ++ x ∷ r)) p) (ap (go u) (sym h.1.2)) (g u h.1.0))
  then_twin (SyntaxError k) (SyntaxError j) go (inl h) g m = inl h
  then_twin (Read t k) (SyntaxError j) go (inl h) g m = absurd h
  then_twin (Read t k) OutOfFuel go (inl h) g m = absurd h
  then_twin (SyntaxError k) (Read u j) go (inl h) g m = absurd h
  then_twin (SyntaxError k) OutOfFuel go (inl h) g m = absurd h
  then_twin OutOfFuel p go (inl h) g m = absurd h

  leaf_twin : (y : Token) (p : List Token) (b : Bool) → Twin (if b then Read (Leaf y) (p ++ x ∷ r) else SyntaxError (y ∷ (p ++ x ∷ r))) (if b then Read (Leaf y) (p ++ x ∷ s) else SyntaxError (y ∷
      (p ++ x ∷ s)))
  leaf_twin y p true = inl (refl, (p, refl, refl))
  leaf_twin y p false = inl (y ∷ p, refl, refl)

  here_twin : (b : Bool) → Twin (if b then Read (Leaf x) r else SyntaxError (x ∷ r)) (if b then Read (Leaf x) s else SyntaxError (x ∷ s))
  here_twin true = inr (omega arith)
  here_twin false = inl ([], refl, refl)

  token_twin : (t : Terminal) (p : List Token) → Twin (token t (p ++ x ∷ r)) (token t (p ++ x ∷ s))
  unfolding token
  token_twin t [] = here_twin (is t x.kind)
  token_twin t (y ∷ p) = leaf_twin y p (is t y.kind)

  parts_twin : (rd : Nonterminal → List Token → ReadResult) → SmallReader rd → TwinReader rd → (symbols : List Symbol) (p : List Token) →
      Twin (children rd symbols (p ++ x ∷ r)) (children rd symbols (p ++ x ∷ s))
  unfolding children one
  parts_twin rd small twin [] p = inl (refl, (p, refl, refl))
  parts_twin rd small twin (T t ∷ symbols) p =
      then_twin (token t (p ++ x ∷ r)) (token t (p ++ x ∷ s)) (λ t k. and_then (children rd symbols k) (λ f j. Read (Cons t f) j)) (token_twin t p)
      (λ t q. then_twin (children rd symbols (q ++ x ∷ r)) (children rd symbols (q ++ x ∷ s)) (λ f j. Read (Cons t f) j) (parts_twin rd small twin symbols q) (λ f i. inl (
        refl,
        (
          i,
          refl,
          refl,
        ),
      )) (λ f k h. h))
      (λ t k h. then_small (length r) (children rd symbols k) (λ f j. Read (Cons t f) j) (parts_small rd small symbols (length r) k h) (λ f j i. i))
  parts_twin rd small twin (N c ∷ symbols) p =
      then_twin (rd c (p ++ x ∷ r)) (rd c (p ++ x ∷ s)) (λ t k. and_then (children rd symbols k) (λ f j. Read (Cons t f) j)) (twin c p)
      (λ t q. then_twin (children rd symbols (q ++ x ∷ r)) (children rd symbols (q ++ x ∷ s)) (λ f j. Read (Cons t f) j) (parts_twin rd small twin symbols q) (λ f i. inl (
        refl,
        (
          i,
          refl,
          refl,
        ),
      )) (λ f k h. h))
      (λ t k h. then_small (length r) (children rd symbols k) (λ f j. Read (Cons t f) j) (parts_small rd small symbols (length r) k h) (λ f j i. i))

  -- ---- beginning

  begun_twin : (rd : Nonterminal → List Token → ReadResult) → SmallReader rd → TwinReader rd → (o : Option Production) (p : List Token) → Twin (begun rd o (p ++ x ∷ r)) (begun rd o (p ++ x ∷ s))
  unfolding begun
  begun_twin rd small twin None p = inl (p, refl, refl)
  begun_twin rd small twin (Some l) p =
      then_twin (children rd (symbols_of l) (p ++ x ∷ r)) (children rd (symbols_of l) (p ++ x ∷ s)) (λ f k. Read (Node l f) k) (parts_twin rd small twin (symbols_of l) p) (λ f q. inl (
        refl,
        (
          q,
          refl,
          refl,
        ),
      )) (λ f k h. h)

  took : (rd : Nonterminal → List Token → ReadResult) → SmallReader rd → (symbols : List Symbol) → takes x.kind symbols ≡ true → Small (length r) (children rd symbols (x ∷ r))
  unfolding children one token
  took rd small [] h = absurd (cc h)
  took rd small (N c ∷ symbols) h = absurd (cc h)
  took rd small (T t ∷ symbols) h =
      rw h (then_small (length r) (children rd symbols r) (λ f j. Read (Cons (Leaf x) f) j) (parts_small rd small symbols (length r) r (omega arith)) (λ f j i. i))

  begun_took : (rd : Nonterminal → List Token → ReadResult) → SmallReader rd → (o : Option Production) → takes_it x.kind o ≡ true → Small (length r) (begun rd o (x ∷ r))
  unfolding begun
  begun_took rd small None h = absurd (cc h)
  begun_took rd small (Some l) h = then_small (length r) (children rd (symbols_of l) (x ∷ r)) (λ f k. Read (Node l f) k) (took rd small (symbols_of l) h) (λ f k i. i)

  head_same : (p : List Token) → head (p ++ x ∷ r) ≡ head (p ++ x ∷ s)
  head_same [] = refl
  head_same (y ∷ p) = refl

  flags_same : (c : Nonterminal) (a b : Bool) → (start c (Some x.kind) a ≡ start c (Some x.kind) b) ⊎ (takes_it x.kind (start c (Some x.kind) a) ≡ true)
  flags_same c true true = inl refl
  flags_same c false false = inl refl
  flags_same c false true = go (look_is c x.kind)
    where
      go : (start c (Some x.kind) false ≡ start c (Some x.kind) true) ⊎ ((takes_it x.kind (start c (Some x.kind) false) ≡ true) × (takes_it x.kind (start c (Some x.kind) true) ≡ true)) →
          (start c (Some x.kind) false ≡ start c (Some x.kind) true) ⊎ (takes_it x.kind (start c (Some x.kind) false) ≡ true)
      go (inl e) = inl e
      go (inr e) = inr e.0
  flags_same c true false = go (look_is c x.kind)
    where
      go : (start c (Some x.kind) false ≡ start c (Some x.kind) true) ⊎ ((takes_it x.kind (start c (Some x.kind) false) ≡ true) × (takes_it x.kind (start c (Some x.kind) true) ≡ true)) →
          (start c (Some x.kind) true ≡ start c (Some x.kind) false) ⊎ (takes_it x.kind (start c (Some x.kind) true) ≡ true)
      go (inl e) = inl (sym e)
      go (inr e) = inr e.1

  first_twin : (rd : Nonterminal → List Token → ReadResult) → SmallReader rd → TwinReader rd → (c : Nonterminal) (p : List Token) → Twin (first rd c (p ++ x ∷ r)) (first rd c (p ++ x ∷ s))
  unfolding first typed
  first_twin rd small twin c (y ∷ p) =
      subst (λ (o : Option Production). Twin (begun rd (start c (Some y.kind) (at begins_type (head (p ++ x ∷ r)))) (y ∷ (p ++ x ∷ r))) (begun rd o (y ∷ (p ++ x ∷ s))))
      (ap (λ h. start c (Some y.kind) (at begins_type h)) (head_same p))
      (begun_twin rd small twin (start c (Some y.kind) (at begins_type (head (p ++ x ∷ r)))) (y ∷ p))
  first_twin rd small twin c [] = go (flags_same c (at begins_type (head r)) (at begins_type (head s)))
    where
      go : (start c (Some x.kind) (at begins_type (head r)) ≡ start c (Some x.kind) (at begins_type (head s))) ⊎ (takes_it x.kind (start c (Some x.kind) (at begins_type (head r))) ≡ true) →
          Twin (begun rd (start c (Some x.kind) (at begins_type (head r))) (x ∷ r)) (begun rd (start c (Some x.kind) (at begins_type (head s))) (x ∷ s))
      go (inl e) =
          subst (λ (o : Option Production). Twin (begun rd (start c (Some x.kind) (at begins_type (head r))) (x ∷ r)) (begun rd o (x ∷ s))) e
          (begun_twin rd small twin (start c (Some x.kind) (at begins_type (head r))) [])
      go (inr e) = inr (begun_took rd small (start c (Some x.kind) (at begins_type (head r))) e)

  -- ---- going on

  abbrev pub TwinTurns : (Tree → List Token → ReadResult) → Type 0
  TwinTurns go = (t : Tree) (q : List Token) → Twin (go t (q ++ x ∷ r)) (go t (q ++ x ∷ s))

  goes_on_twin : (rd : Nonterminal → List Token → ReadResult) → SmallReader rd → TwinReader rd → (o : Option Production) (t : Tree) (p : List Token) (go : Tree → List Token → ReadResult) →
      TwinTurns go → ((t : Tree) (k : List Token) → length k ≤ length r → Small (length r) (go t k)) → Twin (goes_on rd o t (p ++ x ∷ r) go) (goes_on rd o t (p ++ x ∷ s) go)
  unfolding goes_on later
  goes_on_twin rd small twin None t p go g m = inl (refl, (p, refl, refl))
  goes_on_twin rd small twin (Some l) t p go g m =
      then_twin (later rd l t (p ++ x ∷ r)) (later rd l t (p ++ x ∷ s)) go
      (then_twin (children rd (drop 1 (symbols_of l)) (p ++ x ∷ r)) (children rd (drop 1 (symbols_of l)) (p ++ x ∷
      s)) (λ f k. Read (Node l (Cons t f)) k) (parts_twin rd small twin (drop 1 (symbols_of l)) p) (λ f q. inl (refl, (q, refl, refl))) (λ f k h. h))
      g m

  turns_twin : (rd : Nonterminal → List Token → ReadResult) → SmallReader rd → TwinReader rd → (n : ℕ) (c : Nonterminal) → TwinTurns (turns rd n c)
  unfolding turns
  turns_twin rd small twin zero c t p = inr tt
  turns_twin rd small twin (suc n) c t p =
      subst (λ (h : Option TokenKind). Twin (goes_on rd (next c (production_of t) (head (p ++ x ∷ r))) t (p ++ x ∷ r) (turns rd n c)) (goes_on rd (next c (production_of t) h) t (p ++ x ∷
      s) (turns rd n c))) (head_same p)
      (goes_on_twin rd small twin (next c (production_of t) (head (p ++ x ∷ r))) t p (turns rd n c) (turns_twin rd small twin n c) (λ u k h. turns_small rd small n c (length r) u k h))

  step_twin : (rd : Nonterminal → List Token → ReadResult) → SmallReader rd → TwinReader rd → (n : ℕ) (c : Nonterminal) (p : List Token) → Twin (step n rd c (p ++ x ∷ r)) (step n rd c (p ++ x ∷ s))
  unfolding step
  step_twin rd small twin n c p =
      then_twin (first rd c (p ++ x ∷ r)) (first rd c (p ++ x ∷ s)) (turns rd (suc n) c) (first_twin rd small twin c p) (turns_twin rd small twin (suc n) c) (λ t k h. turns_small rd small (suc n) c
      (length r) t k h)

  pub read_twin : (n : ℕ) → TwinReader (read n)
  unfolding read
  read_twin zero c p = inr tt
  read_twin (suc n) c p = step_twin (read n) (read_small n) (read_twin n) n c p
