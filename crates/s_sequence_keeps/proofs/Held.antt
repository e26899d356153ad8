-- Data that names and the state hold.
use Rattle.std.proofs.Common.{◌≡◌, ◌⊎◌, ◌<◌, ◌≤◌, inl, inr, ℕ, zero, suc, ◌+◌, ◌==◌, Bool, true, false, cond, List, [], ◌∷◌, map, slice_get, Some, refl, sym, ap, subst, ◌∙◌, arith}
use Rattle.std.specs.Prelude.{take}
use Rattle.val_core.specs.declared.values.Value.{Value}
use Rattle.val_core.specs.declared.values.Value.TheVariants.{Bad}
use Rattle.val_core.specs.Values.{IsLessDefined}
use Rattle.val_core.specs.Answers.{Returned}
use Rattle.g_graph.specs.declared.op.Kind.{Kind}
use Rattle.g_graph.specs.declared.op.Kind.TheVariants.{Value as ValueKind, Memory, Io}
use Rattle.g_graph.proofs.lemmas.Indexes.{same_number_true}
use Rattle.g_graph.proofs.lemmas.Unique.{same_number}
use Rattle.g_mean.specs.Data.{Datum, val, memory, input, at_port, value_of}
use Rattle.s_linear.specs.Linear.{Code}
use Rattle.val_core.specs.Numbers.{numbers_from}
use Rattle.s_linear.specs.Meaning.{State, Context, written, set, instrs_run, code_run}
use Rattle.s_sequence.specs.Sequence.{values_in, value_args, kept, moves, name_at, instrs_then}

-- ---- names and moves

pub same-name : (names : ℕ → Value) (t : ℕ) (v : Value) → written names t v t ≡ v
same-name names t v = ap (λ b. cond b v (names t)) (same_number_true t)

pub other-name : (names : ℕ → Value) (t : ℕ) (v : Value) (x : ℕ) → (x ≡ t → ⊥) → written names t v x ≡ names x
other-name names t v x apart = by (x == t) refl
  where
    by : (test : Bool) → (x == t) ≡ test → cond test v (names x) ≡ names x
    by true e = absurd (apart (same_number x t e))
    by false e = refl

-- the state after moves to the names from `t` on
abbrev pub moved : (t : ℕ) → List ℕ → State → State
moved t [] s = s
moved t (x ∷ xs) s = moved (suc t) xs (set s t (s.names x))

pub moves-run : (c : Context) (t : ℕ) (xs : List ℕ) (s : State) → instrs_run c (moves t xs) s ≡ Returned (moved t xs s) []
moves-run c t [] s = refl
moves-run c t (x ∷ xs) s = moves-run c (suc t) xs (set s t (s.names x))

pub moves-then : (c : Context) (t : ℕ) (xs : List ℕ) (k : Code) (s : State) → code_run c (instrs_then (moves t xs) k) s ≡ code_run c k (moved t xs s)
moves-then c t [] k s = refl
moves-then c t (x ∷ xs) k s = moves-then c (suc t) xs k (set s t (s.names x))

pub moved-below : (t : ℕ) (xs : List ℕ) (s : State) (y : ℕ) → y < t → (moved t xs s).names y ≡ s.names y
moved-below t [] s y h = refl
moved-below t (x ∷ xs) s y h = moved-below (suc t) xs (set s t (s.names x)) y (omega (arith, h)) ∙ other-name s.names t (s.names x) y (λ e. omega (arith, h, e))

-- ---- the states as data

abbrev pub IsState : Kind → Type 0
IsState ValueKind = ⊥
IsState Memory = Unit {0}
IsState Io = Unit {0}

abbrev pub state_datum : Kind → State → Datum
state_datum ValueKind s = val Bad
state_datum Memory s = memory s.memory
state_datum Io s = input s.input

pub set-states : (k : Kind) (s : State) (t : ℕ) (v : Value) → state_datum k (set s t v) ≡ state_datum k s
set-states ValueKind s t v = refl
set-states Memory s t v = refl
set-states Io s t v = refl

pub moved-states : (k : Kind) (t : ℕ) (xs : List ℕ) (s : State) → state_datum k (moved t xs s) ≡ state_datum k s
moved-states k t [] s = refl
moved-states k t (x ∷ xs) s = moved-states k (suc t) xs (set s t (s.names x)) ∙ set-states k s t (s.names x)

-- ---- what names hold

-- a datum is a value for which another one may stand
pub record MayStandFor (d : Datum) (w : Value) : Type 0 where
  pub value : Value
  pub is : d ≡ val value
  pub less : IsLessDefined value w

-- a name from a first one on and below `next` holds a value that may stand for the datum
pub record Tied (first next : ℕ) (d : Datum) (x : ℕ) (s : State) : Type 0 where
  pub value : Value
  pub is : d ≡ val value
  pub least : first ≤ x
  pub below : x < next
  pub less : IsLessDefined value (s.names x)

pub tied-less : (first next : ℕ) (d : Datum) (x : ℕ) (s : State) → Tied first next d x s → IsLessDefined (value_of d) (s.names x)
tied-less first next d x s t = subst (λ e. IsLessDefined (value_of e) (s.names x)) (sym t.is) t.less

pub tied-wider : (first next first' next' : ℕ) (d : Datum) (x y : ℕ) (s : State) → first' ≤ first → next ≤ next' → x ≡ y → Tied first next d x s → Tied first' next' d y s
tied-wider first next first' next' d x y s h k e t =
    let a = t.least in
    let b = t.below in
    record {
      value = t.value;
      is = t.is;
      least = omega (arith, h, e, a);
      below = omega (arith, k, e, b);
      less = subst (λ z. IsLessDefined t.value (s.names z)) e t.less;
    }

pub tied-kept : (first next : ℕ) (d : Datum) (x : ℕ) (s t : State) → ((y : ℕ) → y < next → t.names y ≡ s.names y) → Tied first next d x s → Tied first next d x t
tied-kept first next d x s t same h =
    record { value = h.value; is = h.is; least = h.least; below = h.below; less = subst (λ w. IsLessDefined h.value w) (sym (same x h.below)) h.less }

-- data of these kinds: a name holds each value, and the state each memory and input
abbrev pub Held : (first next : ℕ) → List Kind → List Datum → List ℕ → State → Type 0
Held first next [] [] [] s = Unit {0}
Held first next (ValueKind ∷ ks) (d ∷ ds) (x ∷ xs) s = Tied first next d x s × Held first next ks ds xs s
Held first next (Memory ∷ ks) (d ∷ ds) (x ∷ xs) s = (d ≡ memory s.memory) × Held first next ks ds xs s
Held first next (Io ∷ ks) (d ∷ ds) (x ∷ xs) s = (d ≡ input s.input) × Held first next ks ds xs s
Held first next _ _ _ s = ⊥

-- the same where the names of the values are those from `x` on
abbrev pub Carries : List Kind → List Datum → (x : ℕ) → State → Type 0
Carries [] [] x s = Unit {0}
Carries (ValueKind ∷ ks) (d ∷ ds) x s = MayStandFor d (s.names x) × Carries ks ds (suc x) s
Carries (Memory ∷ ks) (d ∷ ds) x s = (d ≡ memory s.memory) × Carries ks ds x s
Carries (Io ∷ ks) (d ∷ ds) x s = (d ≡ input s.input) × Carries ks ds x s
Carries _ _ x s = ⊥

held-set : (first next : ℕ) (ks : List Kind) (ds : List Datum) (xs : List ℕ) (s : State) (t : ℕ) (v : Value) → (t < first) ⊎ (next ≤ t) → Held first next ks ds xs s →
    Held first next ks ds xs (set s t v)
held-set first next [] [] [] s t v apart h = tt
held-set first next (ValueKind ∷ ks) (d ∷ ds) (x ∷ xs) s t v apart h = (
  record {
    value = h.0.value;
    is = h.0.is;
    least = h.0.least;
    below = h.0.below;
    less = subst (λ w. IsLessDefined h.0.value w) (sym (other-name s.names t v x (by apart h.0.least h.0.below))) h.0.less;
  },
  held-set first next ks ds xs s t v apart h.1,
)
  where
    by : (t < first) ⊎ (next ≤ t) → first ≤ x → x < next → x ≡ t → ⊥
    by (inl a) b c e = omega (arith, a, b, c, e)
    by (inr a) b c e = omega (arith, a, b, c, e)
held-set first next (Memory ∷ ks) (d ∷ ds) (x ∷ xs) s t v apart h = (h.0, held-set first next ks ds xs s t v apart h.1)
held-set first next (Io ∷ ks) (d ∷ ds) (x ∷ xs) s t v apart h = (h.0, held-set first next ks ds xs s t v apart h.1)
held-set first next _ _ _ s t v apart h = absurd h

carries-set : (ks : List Kind) (ds : List Datum) (x : ℕ) (s : State) (t : ℕ) (v : Value) → t < x → Carries ks ds x s → Carries ks ds x (set s t v)
carries-set [] [] x s t v apart h = tt
carries-set (ValueKind ∷ ks) (d ∷ ds) x s t v apart h = (
  record { value = h.0.value; is = h.0.is; less = subst (λ w. IsLessDefined h.0.value w) (sym (other-name s.names t v x (λ e. omega (arith, apart, e)))) h.0.less },
  carries-set ks ds (suc x) s t v (omega (arith, apart)) h.1,
)
carries-set (Memory ∷ ks) (d ∷ ds) x s t v apart h = (h.0, carries-set ks ds x s t v apart h.1)
carries-set (Io ∷ ks) (d ∷ ds) x s t v apart h = (h.0, carries-set ks ds x s t v apart h.1)
carries-set _ _ x s t v apart h = absurd h

-- ---- moves of what names hold

-- a name that is moved first holds what its source held
first-moved : (t : ℕ) (x : ℕ) (xs : List ℕ) (s : State) → (moved (suc t) xs (set s t (s.names x))).names t ≡ s.names x
first-moved t x xs s = moved-below (suc t) xs (set s t (s.names x)) t (omega arith) ∙ same-name s.names t (s.names x)

pub moves-carry : (first next : ℕ) (ks : List Kind) (ds : List Datum) (xs : List ℕ) (t : ℕ) (s : State) → (t + value_args ks ≤ first) ⊎ (next ≤ t) →
    Held first next ks ds xs s →
    Carries ks ds t (moved t (kept (map Some ks) xs) s)
moves-carry first next [] [] [] t s apart h = tt
moves-carry first next (ValueKind ∷ ks) (d ∷ ds) (x ∷ xs) t s apart h = (
  record { value = h.0.value; is = h.0.is; less = subst (λ w. IsLessDefined h.0.value w) (sym (first-moved t x (kept (map Some ks) xs) s)) h.0.less },
  moves-carry first next ks ds xs (suc t) (set s t (s.names x)) (rest apart) (held-set first next ks ds xs s t (s.names x) (here apart) h.1),
)
  where
    here : (t + suc (value_args ks) ≤ first) ⊎ (next ≤ t) → (t < first) ⊎ (next ≤ t)
    here (inl a) = inl (omega (arith, a))
    here (inr a) = inr a

    rest : (t + suc (value_args ks) ≤ first) ⊎ (next ≤ t) → (suc t + value_args ks ≤ first) ⊎ (next ≤ suc t)
    rest (inl a) = inl (omega (arith, a))
    rest (inr a) = inr (omega (arith, a))
moves-carry first next (Memory ∷ ks) (d ∷ ds) (x ∷ xs) t s apart h =
    (h.0 ∙ sym (moved-states Memory t (kept (map Some ks) xs) s), moves-carry first next ks ds xs t s apart h.1)
moves-carry first next (Io ∷ ks) (d ∷ ds) (x ∷ xs) t s apart h =
    (h.0 ∙ sym (moved-states Io t (kept (map Some ks) xs) s), moves-carry first next ks ds xs t s apart h.1)
moves-carry first next _ _ _ t s apart h = absurd h

-- moves back, from the names from `x` on to lower ones
pub carries-back : (ks : List Kind) (ds : List Datum) (x t : ℕ) (s : State) → t + value_args ks ≤ x → Carries ks ds x s →
    Carries ks ds t (moved t (numbers_from x (value_args ks)) s)
carries-back [] [] x t s apart h = tt
carries-back (ValueKind ∷ ks) (d ∷ ds) x t s apart h =
    let low : t < suc x = omega (arith, apart) in
    let more : suc t + value_args ks ≤ suc x = omega (arith, apart) in (
      record { value = h.0.value; is = h.0.is; less = subst (λ w. IsLessDefined h.0.value w) (sym (first-moved t x (numbers_from (suc x) (value_args ks)) s)) h.0.less },
      carries-back ks ds (suc x) (suc t) (set s t (s.names x)) more (carries-set ks ds (suc x) s t (s.names x) low h.1),
    )
carries-back (Memory ∷ ks) (d ∷ ds) x t s apart h = (h.0 ∙ sym (moved-states Memory t (numbers_from x (value_args ks)) s), carries-back ks ds x t s apart h.1)
carries-back (Io ∷ ks) (d ∷ ds) x t s apart h = (h.0 ∙ sym (moved-states Io t (numbers_from x (value_args ks)) s), carries-back ks ds x t s apart h.1)
carries-back _ _ x t s apart h = absurd h

-- ---- what stands at a port

pub carries-tied : (ks : List Kind) (ds : List Datum) (x : ℕ) (s : State) → Carries ks ds x s → (p : ℕ) → slice_get ks p ≡ Some ValueKind →
    Tied x (x + value_args ks) (at_port ds p) (x + value_args (take p ks)) s
carries-tied [] [] x s h p e = absurd cc
carries-tied (ValueKind ∷ ks) (d ∷ ds) x s h zero e =
    let same : x ≡ x + 0 = omega arith in
    record { value = h.0.value; is = h.0.is; least = omega arith; below = omega arith; less = subst (λ z. IsLessDefined h.0.value (s.names z)) same h.0.less }
carries-tied (Memory ∷ ks) (d ∷ ds) x s h zero e = absurd cc
carries-tied (Io ∷ ks) (d ∷ ds) x s h zero e = absurd cc
carries-tied (ValueKind ∷ ks) (d ∷ ds) x s h (suc p) e =
    let t = carries-tied ks ds (suc x) s h.1 p e in
    let same : suc x + value_args (take p ks) ≡ x + suc (value_args (take p ks)) = omega arith in
    tied-wider (suc x) (suc x + value_args ks) x (x + suc (value_args ks)) (at_port ds p) (suc x + value_args (take p ks)) (x + suc (value_args (take p ks))) s
    (omega arith) (omega arith) same t
carries-tied (Memory ∷ ks) (d ∷ ds) x s h (suc p) e = carries-tied ks ds x s h.1 p e
carries-tied (Io ∷ ks) (d ∷ ds) x s h (suc p) e = carries-tied ks ds x s h.1 p e
carries-tied _ _ x s h p e = absurd h

pub carries-state : (k : Kind) → IsState k → (ks : List Kind) (ds : List Datum) (x : ℕ) (s : State) → Carries ks ds x s → (p : ℕ) → slice_get ks p ≡ Some k →
    at_port ds p ≡ state_datum k s
carries-state k state [] [] x s h p e = absurd cc
carries-state k state (ValueKind ∷ ks) (d ∷ ds) x s h zero e = let same : k ≡ ValueKind = cc in absurd (subst IsState same state)
carries-state k state (Memory ∷ ks) (d ∷ ds) x s h zero e = let same : Memory ≡ k = cc in subst (λ j. d ≡ state_datum j s) same h.0
carries-state k state (Io ∷ ks) (d ∷ ds) x s h zero e = let same : Io ≡ k = cc in subst (λ j. d ≡ state_datum j s) same h.0
carries-state k state (ValueKind ∷ ks) (d ∷ ds) x s h (suc p) e = carries-state k state ks ds (suc x) s h.1 p e
carries-state k state (Memory ∷ ks) (d ∷ ds) x s h (suc p) e = carries-state k state ks ds x s h.1 p e
carries-state k state (Io ∷ ks) (d ∷ ds) x s h (suc p) e = carries-state k state ks ds x s h.1 p e
carries-state k state _ _ x s h p e = absurd h

pub take-values : (ks : List Kind) (p : ℕ) → values_in (take p (map Some ks)) ≡ value_args (take p ks)
take-values ks zero = refl
take-values [] (suc p) = refl
take-values (ValueKind ∷ ks) (suc p) = ap suc (take-values ks p)
take-values (Memory ∷ ks) (suc p) = take-values ks p
take-values (Io ∷ ks) (suc p) = take-values ks p

-- what the inputs of an op carry, by their places
pub held-tied : (first next : ℕ) (ks : List Kind) (ds : List Datum) (xs : List ℕ) (s : State) → Held first next ks ds xs s → (p : ℕ) → slice_get ks p ≡ Some ValueKind →
    Tied first next (at_port ds p) (name_at xs p) s
held-tied first next [] [] [] s h p e = absurd cc
held-tied first next (ValueKind ∷ ks) (d ∷ ds) (x ∷ xs) s h zero e = h.0
held-tied first next (Memory ∷ ks) (d ∷ ds) (x ∷ xs) s h zero e = absurd cc
held-tied first next (Io ∷ ks) (d ∷ ds) (x ∷ xs) s h zero e = absurd cc
held-tied first next (ValueKind ∷ ks) (d ∷ ds) (x ∷ xs) s h (suc p) e = held-tied first next ks ds xs s h.1 p e
held-tied first next (Memory ∷ ks) (d ∷ ds) (x ∷ xs) s h (suc p) e = held-tied first next ks ds xs s h.1 p e
held-tied first next (Io ∷ ks) (d ∷ ds) (x ∷ xs) s h (suc p) e = held-tied first next ks ds xs s h.1 p e
held-tied first next _ _ _ s h p e = absurd h

pub held-state : (k : Kind) → IsState k → (first next : ℕ) (ks : List Kind) (ds : List Datum) (xs : List ℕ) (s : State) → Held first next ks ds xs s → (p : ℕ) →
    slice_get ks p ≡ Some k →
    at_port ds p ≡ state_datum k s
held-state k state first next [] [] [] s h p e = absurd cc
held-state k state first next (ValueKind ∷ ks) (d ∷ ds) (x ∷ xs) s h zero e = let same : k ≡ ValueKind = cc in absurd (subst IsState same state)
held-state k state first next (Memory ∷ ks) (d ∷ ds) (x ∷ xs) s h zero e = let same : Memory ≡ k = cc in subst (λ j. d ≡ state_datum j s) same h.0
held-state k state first next (Io ∷ ks) (d ∷ ds) (x ∷ xs) s h zero e = let same : Io ≡ k = cc in subst (λ j. d ≡ state_datum j s) same h.0
held-state k state first next (ValueKind ∷ ks) (d ∷ ds) (x ∷ xs) s h (suc p) e = held-state k state first next ks ds xs s h.1 p e
held-state k state first next (Memory ∷ ks) (d ∷ ds) (x ∷ xs) s h (suc p) e = held-state k state first next ks ds xs s h.1 p e
held-state k state first next (Io ∷ ks) (d ∷ ds) (x ∷ xs) s h (suc p) e = held-state k state first next ks ds xs s h.1 p e
held-state k state first next _ _ _ s h p e = absurd h
