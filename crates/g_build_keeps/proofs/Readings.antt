-- What origins carry while nodes run: outputs that were given stay, and all data are sound.
use Rattle.std.proofs.Common.{◌≡◌, ◌≤◌, ◌<◌, ℕ, ◌==◌, Bool, true, false, cond, List, refl, ap, ◌∙◌, inl, arith}
use Rattle.std.proofs.lemmas.Bool.Decides.{nat_tests}
use Rattle.val_core.specs.Values.{IsSound}
use Rattle.val_core.specs.Refinement.{Direction, Forward, Backward, exactly, Refines}
use Rattle.val_core.specs.Answers.{Answer, Returned, Cut, Exited, Undefined, Gives}
use Rattle.g_graph.specs.declared.op.Origin.{Origin}
use Rattle.g_graph.specs.declared.op.Origin.TheVariants.{Arg, Out}
use Rattle.g_graph.specs.Plain.{NodeTrees}
use Rattle.g_mean.specs.Data.{Datum, at_port}
use Rattle.g_mean.specs.Meaning.{Context, Outputs, extended, read, nodes_run}
use Rattle.g_mean.specs.LessDefined.{AreSound, IsSoundDatum, IsLessDefinedDatum}
use Rattle.g_mean.specs.Refining.{MeaningRefines}
use Rattle.g_mean.proofs.lemmas.Kept.{OutputsRefine, read-refines}
use Rattle.g_mean.proofs.lemmas.Regions.{nodes-refines}
use Rattle.g_mean.proofs.lemmas.Equal.{exactly-compares}
use Rattle.g_mean.proofs.lemmas.LessDefined.{less-kept}
use Rattle.g_mean.proofs.lemmas.Bounds.{Never, Always, never-refines, sound-pairs}
use Rattle.g_mean.proofs.lemmas.Calls.{nodes-itself}

-- ---- outputs that stay

-- an argument, or an output of a node with a number below this one
abbrev pub IsBelow : (next : ℕ) → Origin → Type 0
IsBelow n (Arg k) = Unit {0}
IsBelow n (Out id port) = id < n

pub below-later : (n m : ℕ) (p : Origin) → n ≤ m → IsBelow n p → IsBelow m p
below-later n m (Arg k) h b = tt
below-later n m (Out id port) h b = omega (arith, h, b)

-- what origins below a number carry is the same
abbrev pub Keeps : (next : ℕ) → (before after : Origin → Datum) → Type 0
Keeps n rd rd' = (p : Origin) → IsBelow n p → rd' p ≡ rd p

-- the outputs of nodes below a number are the same
abbrev pub Stay : (next : ℕ) → (before after : Outputs) → Type 0
Stay n o o' = (id port : ℕ) → id < n → o' id port ≡ o id port

pub stay-then : (n m : ℕ) (o o' o'' : Outputs) → n ≤ m → Stay n o o' → Stay m o' o'' → Stay n o o''
stay-then n m o o' o'' le h k id port below = k id port (omega (arith, below, le)) ∙ h id port below

pub stay-keeps : (n : ℕ) (xs : List Datum) (o o' : Outputs) → Stay n o o' → Keeps n (read xs o) (read xs o')
stay-keeps n xs o o' h (Arg k) b = refl
stay-keeps n xs o o' h (Out id port) b = h id port b

-- what a node gives, and what the others gave
pub extended-here : (o : Outputs) (id : ℕ) (ys : List Datum) (port : ℕ) → extended o id ys id port ≡ at_port ys port
extended-here o id ys port = ap (λ (t : Bool). cond t (at_port ys port) (o id port)) itself
  where
    itself : (id == id) ≡ true
    itself = grind (arith, nat_tests)

pub extended-stay : (o : Outputs) (id : ℕ) (ys : List Datum) → Stay id o (extended o id ys)
extended-stay o id ys n port below = ap (λ (t : Bool). cond t (at_port ys port) (o n port)) apart
  where
    apart : (id == n) ≡ false
    apart = grind (arith, nat_tests, below)

-- ---- sound data

-- What stands around regions keeps data sound.
pub record IsSoundContext (d : Context) : Type 0 where
  pub calls : (f : ℕ) → MeaningRefines exactly Forward IsLessDefinedDatum (d.call f) (d.call f)
  pub locals : (k : ℕ) → IsSound (d.addresses.local k)
  pub globals : (k : ℕ) → IsSound (d.addresses.global k)

abbrev pub AreSoundOutputs : Outputs → Type 0
AreSoundOutputs o = (id port : ℕ) → IsSoundDatum (o id port)

pub record IsSoundRun (xs : List Datum) (o : Outputs) : Type 0 where
  pub args : AreSound xs
  pub outputs : AreSoundOutputs o

itself-less : (o : Outputs) → AreSoundOutputs o → OutputsRefine IsLessDefinedDatum o o
itself-less o h id port = (inl refl, h id port, h id port)

pub read-sound : (xs : List Datum) (o : Outputs) → IsSoundRun xs o → (p : Origin) → IsSoundDatum (read xs o p)
read-sound xs o s p = (read-refines IsLessDefinedDatum less-kept xs xs (sound-pairs xs s.args) o o (itself-less o s.outputs) p).1

left-sound : (a b : Answer Outputs) → Refines exactly Forward (OutputsRefine IsLessDefinedDatum) a b → Gives AreSoundOutputs a
left-sound (Returned o e) (Returned p e') h = λ id port. (h.0 id port).1
left-sound (Returned o e) (Cut e') h = absurd h
left-sound (Returned o e) (Exited e' t) h = absurd h
left-sound (Returned o e) (Undefined e') h = absurd h
left-sound (Cut e) b h = tt
left-sound (Exited e t) b h = tt
left-sound (Undefined e) b h = tt

-- nodes give sound data on sound data
pub nodes-sound : (d : Context) → IsSoundContext d → (ns : NodeTrees) (xs : List Datum) (o : Outputs) → IsSoundRun xs o → Gives AreSoundOutputs (nodes_run d ns xs o)
nodes-sound d c ns xs o s =
    left-sound (nodes_run d ns xs o) (nodes_run d ns xs o)
    (nodes-refines exactly exactly-compares Forward IsLessDefinedDatum less-kept Never Always (never-refines exactly exactly-compares Forward IsLessDefinedDatum less-kept) d d
    (record { bounds = omega arith; calls = c.calls; locals = λ k. (inl refl, c.locals k, c.locals k); globals = λ k. (inl refl, c.globals k, c.globals k) }) tt ns ns (nodes-itself Never ns)
    xs xs (sound-pairs xs s.args) o o (itself-less o s.outputs))

-- ---- what is known of the farther side's results, added to the relation

pub refines-far-gives : {A B : Type 0} (direction : Direction) (P : B → Type 0) (R : A → B → Type 0) (a : Answer A) (b : Answer B) → Gives P b → Refines exactly direction R a b →
    Refines exactly direction (λ x y. R x y × P y) a b
refines-far-gives direction P R (Undefined o) b k h = tt
refines-far-gives direction P R (Returned x o) (Returned y p) k h = ((h.0, k), h.1)
refines-far-gives direction P R (Exited o s) (Exited p t) k h = h
refines-far-gives Forward P R (Cut o) (Returned y p) k h = h
refines-far-gives Forward P R (Cut o) (Exited p t) k h = h
refines-far-gives Forward P R (Cut o) (Cut p) k h = h
refines-far-gives Forward P R (Cut o) (Undefined p) k h = tt
refines-far-gives Backward P R (Returned x o) (Cut p) k h = h
refines-far-gives Backward P R (Exited o s) (Cut p) k h = h
refines-far-gives Backward P R (Cut o) (Cut p) k h = h
refines-far-gives direction P R _ _ k h = absurd h
