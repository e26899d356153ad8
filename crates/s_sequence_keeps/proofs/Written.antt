-- Names that are written before they are read: instructions, moves, and codes one after the other.
use Rattle.std.proofs.Common.{◌≡◌, ◌<◌, inl, inr, ℕ, zero, suc, ◌+◌, List, [], ◌∷◌, ◌++◌, map, length, slice_get, Some, refl, ap, subst, arith}
use Rattle.std.specs.Prelude.{replicate, take}
use Rattle.g_graph.specs.declared.op.Kind.{Kind}
use Rattle.g_graph.specs.declared.op.Kind.TheVariants.{Value, Memory, Io}
use Rattle.g_graph.specs.Plain.{NodeTrees, no_nodes, node_then}
use Rattle.s_linear.specs.Linear.{Instr, move, Step, plain, choice, loop, Code, no_steps, step_then, Codes, no_codes, code_then}
use Rattle.val_core.specs.Numbers.{numbers_from}
use Rattle.s_sequence.specs.Sequence.{values_in, value_args, kept, Names, node_names, named, moves, name_at, without_states, instrs_then, nodes_code, node_step}
use Rattle.s_sequence_keeps.specs.Closed.{targets_of, NameSet, AreIn, after_instr, after_instrs, after_step, after_code, after_each, InstrsAreClosed, CodeIsClosed}

-- ---- sets of names

-- the second set has the names of the first
abbrev pub Grows : NameSet → NameSet → Type 0
Grows D E = (x : ℕ) → D x → E x

are-in-more : (D E : NameSet) → Grows D E → (xs : List ℕ) → AreIn D xs → AreIn E xs
are-in-more D E more [] h = tt
are-in-more D E more (x ∷ xs) h = (more x h.0, are-in-more D E more xs h.1)

pub instrs-grow : (D : NameSet) (is : List Instr) → Grows D (after_instrs D is)
instrs-grow D [] x h = h
instrs-grow D (i ∷ is) x h = instrs-grow (after_instr D i) is x (inr h)

mutual
  pub step-grows : (D : NameSet) (s : Step) → Grows D (after_step D s)
  step-grows D (plain i) x h = inr h
  step-grows D (choice p no_codes) x h = h
  step-grows D (choice p (code_then c cs)) x h = each-grows D (code_then c cs) x h
  step-grows D (loop enter body p back) x h = inr h

  code-grows : (D : NameSet) (c : Code) → Grows D (after_code D c)
  code-grows D no_steps x h = h
  code-grows D (step_then s c) x h = code-grows (after_step D s) c x (step-grows D s x h)

  each-grows : (D : NameSet) (cs : Codes) (x : ℕ) → D x → after_each D cs x
  each-grows D no_codes x h = tt
  each-grows D (code_then c cs) x h = (code-grows D c x h, each-grows D cs x h)

-- ---- codes one after the other

pub instrs-then-closed : (D : NameSet) (is : List Instr) (k : Code) → InstrsAreClosed D is → CodeIsClosed (after_instrs D is) k → CodeIsClosed D (instrs_then is k)
instrs-then-closed D [] k h g = g
instrs-then-closed D (i ∷ is) k h g = (h.0, instrs-then-closed (after_instr D i) is k h.1 g)

pub instrs-then-after : (D : NameSet) (is : List Instr) (k : Code) (x : ℕ) → after_code (after_instrs D is) k x → after_code D (instrs_then is k) x
instrs-then-after D [] k x h = h
instrs-then-after D (i ∷ is) k x h = instrs-then-after (after_instr D i) is k x h

pub nodes-then-closed : (D : NameSet) (args : List Kind) (base : ℕ) (names : Names) (next : ℕ) (ns : NodeTrees) (k : Code) →
    CodeIsClosed D (nodes_code args base names next ns no_steps) →
    CodeIsClosed (after_code D (nodes_code args base names next ns no_steps)) k → CodeIsClosed D (nodes_code args base names next ns k)
nodes-then-closed D args base names next no_nodes k h g = g
nodes-then-closed D args base names next (node_then x ns) k h g =
    (h.0, nodes-then-closed (after_step D (node_step args base names next x)) args base (named x next names) (next + node_names x) ns k h.1 g)

pub nodes-then-after : (D : NameSet) (args : List Kind) (base : ℕ) (names : Names) (next : ℕ) (ns : NodeTrees) (k : Code) (x : ℕ) →
    after_code (after_code D (nodes_code args base names next ns no_steps)) k x → after_code D (nodes_code args base names next ns k) x
nodes-then-after D args base names next no_nodes k x h = h
nodes-then-after D args base names next (node_then y ns) k x h =
    nodes-then-after (after_step D (node_step args base names next y)) args base (named y next names) (next + node_names y) ns k x h

-- ---- moves

pub moves-closed : (D : NameSet) (t : ℕ) (xs : List ℕ) → AreIn D xs → InstrsAreClosed D (moves t xs)
moves-closed D t [] h = tt
moves-closed D t (x ∷ xs) h = ((h.0, tt), moves-closed (after_instr D (move t x)) (suc t) xs (are-in-more D (after_instr D (move t x)) (λ y g. inr g) xs h.1))

pub moves-write : (D : NameSet) (t : ℕ) (xs : List ℕ) (k : ℕ) → k < length xs → after_instrs D (moves t xs) (t + k)
moves-write D t [] k h = absurd (omega (arith, h))
moves-write D t (x ∷ xs) zero h =
    let same : t ≡ t + 0 = omega arith in
    instrs-grow (after_instr D (move t x)) (moves (suc t) xs) (t + 0) (inl (ap Some same))
moves-write D t (x ∷ xs) (suc k) h =
    let same : suc t + k ≡ t + suc k = omega arith in
    subst (after_instrs (after_instr D (move t x)) (moves (suc t) xs)) same (moves-write (after_instr D (move t x)) (suc t) xs k (omega (arith, h)))

pub same-targets : (t : ℕ) (xs ys : List ℕ) → length xs ≡ length ys → targets_of (moves t xs) ≡ targets_of (moves t ys)
same-targets t [] [] e = refl
same-targets t (x ∷ xs) (y ∷ ys) e = ap (λ r. Some t ∷ r) (same-targets (suc t) xs ys (omega (arith, e)))
same-targets t [] (y ∷ ys) e = absurd (omega (arith, e))
same-targets t (x ∷ xs) [] e = absurd (omega (arith, e))

pub numbers-in : (D : NameSet) (first count : ℕ) → ((k : ℕ) → k < count → D (first + k)) → AreIn D (numbers_from first count)
numbers-in D first zero h = tt
numbers-in D first (suc count) h =
    let here : first + 0 ≡ first = omega arith in (
      subst D here (h 0 (omega arith)),
      numbers-in D (suc first) count (λ k low. let there : first + suc k ≡ suc first + k = omega arith in
          subst D there (h (suc k) (omega (arith, low)))),
    )

-- ---- names of these kinds, of which those of values are written

abbrev pub AreKnown : NameSet → List Kind → List ℕ → Type 0
AreKnown D [] [] = Unit {0}
AreKnown D (Value ∷ ks) (x ∷ xs) = D x × AreKnown D ks xs
AreKnown D (Memory ∷ ks) (x ∷ xs) = AreKnown D ks xs
AreKnown D (Io ∷ ks) (x ∷ xs) = AreKnown D ks xs
AreKnown D _ _ = ⊥

pub kept-in : (D : NameSet) (ks : List Kind) (xs : List ℕ) → AreKnown D ks xs → AreIn D (kept (map Some ks) xs) × (length (kept (map Some ks) xs) ≡ value_args ks)
kept-in D [] [] h = (tt, refl)
kept-in D (Value ∷ ks) (x ∷ xs) h = let more = kept-in D ks xs h.1 in ((h.0, more.0), ap suc more.1)
kept-in D (Memory ∷ ks) (x ∷ xs) h = kept-in D ks xs h
kept-in D (Io ∷ ks) (x ∷ xs) h = kept-in D ks xs h
kept-in D [] (x ∷ xs) h = absurd h
kept-in D (Value ∷ ks) [] h = absurd h
kept-in D (Memory ∷ ks) [] h = absurd h
kept-in D (Io ∷ ks) [] h = absurd h

pub known-at : (D : NameSet) (ks : List Kind) (xs : List ℕ) → AreKnown D ks xs → (p : ℕ) → slice_get ks p ≡ Some Value → D (name_at xs p)
known-at D [] [] h p e = absurd cc
known-at D (Value ∷ ks) (x ∷ xs) h zero e = h.0
known-at D (Memory ∷ ks) (x ∷ xs) h zero e = absurd cc
known-at D (Io ∷ ks) (x ∷ xs) h zero e = absurd cc
known-at D (Value ∷ ks) (x ∷ xs) h (suc p) e = known-at D ks xs h.1 p e
known-at D (Memory ∷ ks) (x ∷ xs) h (suc p) e = known-at D ks xs h p e
known-at D (Io ∷ ks) (x ∷ xs) h (suc p) e = known-at D ks xs h p e
known-at D [] (x ∷ xs) h p e = absurd h
known-at D (Value ∷ ks) [] h p e = absurd h
known-at D (Memory ∷ ks) [] h p e = absurd h
known-at D (Io ∷ ks) [] h p e = absurd h

pub without-states-in : (D : NameSet) (count : ℕ) (xs : List ℕ) → AreKnown D (replicate count Value ++ Memory ∷ Io ∷ []) xs → AreIn D (without_states xs)
without-states-in D zero [] h = tt
without-states-in D zero (x ∷ []) h = tt
without-states-in D zero (x ∷ y ∷ []) h = tt
without-states-in D zero (x ∷ y ∷ z ∷ xs) h = absurd h
without-states-in D (suc count) [] h = tt
without-states-in D (suc count) (x ∷ []) h = tt
without-states-in D (suc count) (x ∷ y ∷ []) h = tt
without-states-in D (suc count) (x ∷ y ∷ z ∷ xs) h = (h.0, without-states-in D count (y ∷ z ∷ xs) h.1)

-- ---- places of values

pub value-place : (ks : List Kind) (p : ℕ) → slice_get ks p ≡ Some Value → values_in (take p (map Some ks)) < value_args ks
value-place [] p e = absurd cc
value-place (Value ∷ ks) zero e = omega arith
value-place (Memory ∷ ks) zero e = absurd cc
value-place (Io ∷ ks) zero e = absurd cc
value-place (Value ∷ ks) (suc p) e = let more = value-place ks p e in omega (arith, more)
value-place (Memory ∷ ks) (suc p) e = value-place ks p e
value-place (Io ∷ ks) (suc p) e = value-place ks p e
