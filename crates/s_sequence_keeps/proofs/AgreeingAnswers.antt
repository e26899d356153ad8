-- Answers that agree.
use Rattle.std.proofs.Common.{◌≡◌, ℕ, List, ◌++◌, refl, sym, ap, ap₂, Option, None, Some, inl, inr}
use Rattle.val_core.specs.declared.values.Value.{Value}
use Rattle.val_core.specs.declared.values.Value.TheVariants.{Num, At, Bad}
use Rattle.val_core.specs.Values.{IsLessDefined}
use Rattle.val_core.specs.Memory.{Memory as Blocks}
use Rattle.val_core.specs.Events.{Event, output, deepest, called}
use Rattle.val_core.specs.Answers.{Answer, Returned, Cut, Exited, Undefined, then_on, on_number, on_defined, active, IsUndefined}
use Rattle.val_core.proofs.lemmas.Answers.{added, before-is}
use Rattle.val_core.proofs.lemmas.Events.{prefix-self}
use Rattle.g_mean.specs.Data.{Datum, val, memory, input, on_memory}
use Rattle.s_sequence_keeps.specs.Agreement.{Agrees, AreWithin}

agrees-added : {A B : Type 0} (R : A → B → Type 0) (o p : List Event) (a : Answer A) (b : Answer B) → o ≡ p → Agrees R a b → Agrees R (added o a) (added p b)
agrees-added R o p (Undefined q) b e h = tt
agrees-added R o p (Returned x q) (Returned y r) e h = (h.0, ap₂ (λ s t. s ++ t) e h.1)
agrees-added R o p (Cut q) (Cut r) e h = ap₂ (λ s t. s ++ t) e h
agrees-added R o p (Exited q s) (Exited r t) e h = (ap₂ (λ s t. s ++ t) e h.0, h.1)
agrees-added R o p _ _ e h = absurd h

-- two parts, and what follows each
pub agrees-then : {A B C D : Type 0} (R : A → B → Type 0) (S : C → D → Type 0) (a : Answer A) (b : Answer B) (next : A → Answer C) (next' : B → Answer D) → Agrees R a b →
    ((x : A) (y : B) → R x y → Agrees S (next x) (next' y)) → Agrees S (then_on a next) (then_on b next')
agrees-then R S (Undefined o) b next next' h go = tt
agrees-then R S (Returned x o) (Returned y p) next next' h go =
    rw (before-is o (next x), before-is p (next' y)) (agrees-added S o p (next x) (next' y) h.1 (go x y h.0))
agrees-then R S (Cut o) (Cut p) next next' h go = h
agrees-then R S (Exited o s) (Exited p t) next next' h go = h
agrees-then R S _ _ next next' h go = absurd h

pub agrees-active : {A B : Type 0} (R : A → B → Type 0) (f : ℕ) (a : Answer A) (b : Answer B) → Agrees R a b → Agrees R (active f a) (active f b)
agrees-active R f (Undefined o) b h = tt
agrees-active R f (Returned x o) (Returned y p) h = (h.0, ap (called f) h.1)
agrees-active R f (Cut o) (Cut p) h = ap (called f) h
agrees-active R f (Exited o s) (Exited p t) h = (ap (called f) h.0, h.1)
agrees-active R f _ _ h = absurd h

-- a relation that follows from the other one
pub agrees-change : {A B : Type 0} (R S : A → B → Type 0) (a : Answer A) (b : Answer B) → ((x : A) (y : B) → R x y → S x y) → Agrees R a b → Agrees S a b
agrees-change R S (Undefined o) b more h = tt
agrees-change R S (Returned x o) (Returned y p) more h = (more x y h.0, h.1)
agrees-change R S (Cut o) (Cut p) more h = h
agrees-change R S (Exited o s) (Exited p t) more h = h
agrees-change R S _ _ more h = absurd h

-- ---- what follows on a number, on what may be undefined, or on a memory

pub agrees-number : {A B : Type 0} (R : A → B → Type 0) (v w : Value) → IsLessDefined v w → (next : ℕ → Answer A) (next' : ℕ → Answer B) →
    ((n : ℕ) → Agrees R (next n) (next' n)) →
    Agrees R (on_number v next) (on_number w next')
agrees-number R (Num n) w (inl e) next next' go = rw (sym e) (go n)
agrees-number R (Num n) w (inr e) next next' go = absurd cc
agrees-number R (At b o) w less next next' go = tt
agrees-number R Bad w less next next' go = tt

-- what follows on a number, where the farther side reads none
pub agrees-unread : {A B : Type 0} (R : A → B → Type 0) (v : Value) (next : ℕ → Answer A) (b : Answer B) → ((n : ℕ) → Agrees R (next n) b) → Agrees R (on_number v next) b
agrees-unread R (Num n) next b go = go n
agrees-unread R (At k o) next b go = tt
agrees-unread R Bad next b go = tt

pub agrees-defined : {A B X : Type 0} (R : A → B → Type 0) (a : Option X) (next : X → Answer A) (next' : X → Answer B) → ((x : X) → Agrees R (next x) (next' x)) →
    Agrees R (on_defined a next) (on_defined a next')
agrees-defined R (Some x) next next' go = go x
agrees-defined R None next next' go = tt

pub agrees-memory : {A B : Type 0} (R : A → B → Type 0) (d : Datum) (next : Blocks → Answer A) (b : Answer B) → ((m : Blocks) → d ≡ memory m → Agrees R (next m) b) →
    Agrees R (on_memory d next) b
agrees-memory R (memory m) next b go = go m refl
agrees-memory R (val v) next b go = tt
agrees-memory R (input i) next b go = tt

-- ---- whole runs

pub agrees-within : {A B : Type 0} (R : A → B → Type 0) (a : Answer A) (b : Answer B) → Agrees R a b → (IsUndefined a → ⊥) → AreWithin R a b
agrees-within R (Undefined o) b h right = absurd (right tt)
agrees-within R (Returned x o) (Returned y p) h right =
    record { forward = (h.0, ap output h.1); back = (h.0, ap output (sym h.1)); same_depth = λ sizes. ap (deepest sizes) (sym h.1) }
agrees-within R (Cut o) (Cut p) h right =
    record { forward = rw h (prefix-self (output p)); back = rw h (prefix-self (output p)); same_depth = λ sizes. ap (deepest sizes) (sym h) }
agrees-within R (Exited o s) (Exited p t) h right =
    record { forward = (ap output h.0, h.1); back = (ap output (sym h.0), sym h.1); same_depth = λ sizes. ap (deepest sizes) (sym h.0) }
agrees-within R _ _ h right = absurd h
