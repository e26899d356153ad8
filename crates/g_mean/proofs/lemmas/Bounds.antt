-- Greater bounds extend, and sound data stay sound.
use Rattle.std.proofs.Common.{◌≡◌, ℕ, zero, suc, ◌≤◌, List, [], ◌∷◌, slice_get, Option, None, Some, refl, sym, ap, subst, ◌∙◌, inl, arith}
use Rattle.std.proofs.Math.Path.{fun_ext}
use Rattle.val_core.specs.declared.values.Value.{Value}
use Rattle.val_core.specs.Events.{Event, IsPrefixOf}
use Rattle.val_core.specs.Refinement.{Direction, Forward, Comparison, Refines, exactly}
use Rattle.val_core.specs.Answers.{Answer, Returned, Cut, Exited, Undefined, then_on, events, Gives}
use Rattle.val_core.specs.Objects.{Addresses}
use Rattle.val_core.proofs.lemmas.Events.{prefix-self}
use Rattle.val_core.proofs.lemmas.Answers.{added, before-is, then_associates}
use Rattle.val_core.proofs.lemmas.Refinement.{refines-itself, refines-then, refines-active, refines-change}
use Rattle.g_graph.specs.Plain.{RegionTree, nodes_of, id_of, PlainLambda, PlainOmega}
use Rattle.g_graph.specs.Program.{main_name, name_index}
use Rattle.g_mean.specs.Data.{Datum, val, memory, input}
use Rattle.g_mean.specs.Meaning.{Context, extended, node_run, nodes_run}
use Rattle.g_mean.specs.Calls.{entered, applied, region_at, lambda_at, global_of, first_memory, finished, started}
use Rattle.g_mean.specs.LessDefined.{Paired, AreSound, IsLessDefinedDatum}
use Rattle.g_mean.specs.Refining.{Compares, InOrder, MeaningRefines, RegionRefines}
use Rattle.g_mean.specs.Laws.{RegionExtends, LambdaExtends, ProgramExtends, NodesInTurn, EventsGrow, RegionIsSound, LambdaIsSound}
use Rattle.g_mean.proofs.lemmas.Kept.{IsKept}
use Rattle.g_mean.proofs.lemmas.Regions.{both-cut, less-cut, far-cut, order-below, region-refines}
use Rattle.g_mean.proofs.lemmas.Equal.{exactly-compares, Equal, paired-equal, paired-itself, equal-kept}
use Rattle.g_mean.proofs.lemmas.LessDefined.{less-kept}
use Rattle.g_mean.proofs.lemmas.Calls.{same-itself, found-itself, entered-refines}

abbrev pub Never : RegionTree → RegionTree → Type 0
Never r s = ⊥

abbrev pub Always : Context → Context → Type 0
Always c d = Unit {0}

module _ (cmp : Comparison) (g : Compares cmp) (direction : Direction) (N : Datum → Datum → Type 0) (k : IsKept N) where
  pub never-refines : (r s : RegionTree) → Never r s → RegionRefines cmp direction N Always r s
  never-refines r s h = absurd h

  module _ (ls : List PlainLambda) (global : ℕ → Value) (globals : (j : ℕ) → N (val (global j)) (val (global j))) where
    pub applied-more : (n m : ℕ) → InOrder direction n m → (f : ℕ) → MeaningRefines cmp direction N (applied ls global n f) (applied ls global m f)
    applied-more zero zero order f = record { on = λ xs ys near. both-cut cmp g direction (Paired N) }
    applied-more zero (suc m) order f = record { on = λ xs ys near. less-cut cmp g direction (Paired N) m order (applied ls global (suc m) f ys) }
    applied-more (suc n) zero order f = record { on = λ xs ys near. far-cut cmp g direction (Paired N) n order (applied ls global (suc n) f xs) }
    applied-more (suc n) (suc m) order f =
        let below = order-below direction n m order in
        let body = entered-refines cmp g direction N k Never Always never-refines n m below (applied ls global n) (applied ls global m) (λ j. applied-more n m below j) global globals (λ os b. tt)
        (slice_get ls f) (slice_get ls f) (found-itself Never (slice_get ls f)) in
        record {
          on = λ xs ys near. refines-active cmp g.goes (Paired N) direction f (entered n (applied ls global n) global (slice_get ls f) xs)
              (entered m (applied ls global m) global (slice_get ls f) ys) (body.on xs ys near);
        }

  region_at-more : (ls : List PlainLambda) (addresses : Addresses) → ((j : ℕ) → N (val (addresses.local j)) (val (addresses.local j))) →
      ((j : ℕ) → N (val (addresses.global j)) (val (addresses.global j))) → (r : RegionTree) (n m : ℕ) → InOrder direction n m → (xs ys : List Datum) → Paired N xs ys →
      Refines cmp direction (Paired N) (region_at n ls r xs addresses) (region_at m ls r ys addresses)
  region_at-more ls addresses locals globals r n m order xs ys near =
      (region-refines cmp g direction N k Never Always never-refines
      (record { bound = n; call = applied ls addresses.global n; addresses = addresses }) (record { bound = m; call = applied ls addresses.global m; addresses = addresses })
      (record { bounds = order; calls = λ f. applied-more ls addresses.global globals n m order f; locals = locals; globals = globals }) tt r r (same-itself Never r)).on xs ys near

to-equal : (direction : Direction) (a b : Answer (List Datum)) → Refines exactly direction (Paired Equal) a b → Refines exactly direction (λ us vs. us ≡ vs) a b
to-equal direction a b h = refines-change exactly direction (Paired Equal) (λ us vs. us ≡ vs) a b paired-equal h

pub region_extends : RegionExtends
region_extends n m ls r xs addresses order =
    to-equal Forward (region_at n ls r xs addresses) (region_at m ls r xs addresses)
    (region_at-more exactly exactly-compares Forward Equal equal-kept ls addresses (λ j. refl) (λ j. refl) r n m order xs xs (paired-itself xs))

pub lambda_extends : LambdaExtends
lambda_extends n m ls global f xs order =
    to-equal Forward (lambda_at n ls global f xs) (lambda_at m ls global f xs)
    ((applied-more exactly exactly-compares Forward Equal equal-kept ls global (λ j. refl) (suc n) (suc m) (omega arith) f).on xs xs (paired-itself xs))

equal-answers : (a b : Answer (List Datum)) → a ≡ b → Refines exactly Forward (λ us vs. us ≡ vs) a b
equal-answers a b e = subst (λ c. Refines exactly Forward (λ us vs. us ≡ vs) a c) e (refines-itself Forward a)

started-extends : (n m : ℕ) (omega : PlainOmega) (ls : List PlainLambda) (f : Option ℕ) (i : List ℕ) → n ≤ m →
    Refines exactly Forward (λ us vs. us ≡ vs) (started n omega ls f i) (started m omega ls f i)
started-extends n m omega ls None i order = tt
started-extends n m omega ls (Some f) i order =
    let start = memory (first_memory omega.deltas) ∷ input i ∷ [] in
    refines-then exactly exactly-compares.goes (λ us vs. us ≡ vs) (λ us vs. us ≡ vs) Forward (lambda_at n ls (global_of omega.deltas) f start)
    (lambda_at m ls (global_of omega.deltas) f start) finished finished
    (lambda_extends n m ls (global_of omega.deltas) f start order) (λ us vs e. equal-answers (finished us) (finished vs) (ap finished e))

pub program_extends : ProgramExtends
program_extends n m omega ls i order = started-extends n m omega ls (name_index main_name omega.names) i order

-- ---- nodes in turn

pub nodes_in_turn : NodesInTurn
nodes_in_turn c [] after xs o = refl
nodes_in_turn c (x ∷ ns) after xs o =
    ap (then_on (node_run c x xs o)) (fun_ext (λ ys. nodes_in_turn c ns after xs (extended o (id_of x) ys)))
    ∙ sym (then_associates (node_run c x xs o) (λ ys. nodes_run c (nodes_of ns) xs (extended o (id_of x) ys)) (nodes_run c (nodes_of after) xs))

grows-added : {A : Type 0} (o : List Event) (a : Answer A) → IsPrefixOf o (events (added o a))
grows-added o (Returned x p) = (p, refl)
grows-added o (Cut p) = (p, refl)
grows-added o (Exited p s) = (p, refl)
grows-added o (Undefined p) = (p, refl)

grows : {A B : Type 0} (a : Answer A) (next : A → Answer B) → IsPrefixOf (events a) (events (then_on a next))
grows (Returned x o) next = rw (before-is o (next x)) (grows-added o (next x))
grows (Cut o) next = prefix-self o
grows (Exited o s) next = prefix-self o
grows (Undefined o) next = prefix-self o

pub events_grow : EventsGrow
events_grow c ns after xs o =
    subst (λ a. IsPrefixOf (events (nodes_run c (nodes_of ns) xs o)) (events a)) (sym (nodes_in_turn c ns after xs o))
    (grows (nodes_run c (nodes_of ns) xs o) (nodes_run c (nodes_of after) xs))

-- ---- soundness

pub sound-pairs : (xs : List Datum) → AreSound xs → Paired IsLessDefinedDatum xs xs
sound-pairs [] s = tt
sound-pairs (x ∷ xs) s = ((inl refl, s.0, s.0), sound-pairs xs s.1)

pub pairs-sound : (xs ys : List Datum) → Paired IsLessDefinedDatum xs ys → AreSound xs
pairs-sound [] ys h = tt
pairs-sound (x ∷ xs) (y ∷ ys) h = (h.0.1, pairs-sound xs ys h.1)
pairs-sound (x ∷ xs) [] h = absurd h

pub refines-sound : (a b : Answer (List Datum)) → Refines exactly Forward (Paired IsLessDefinedDatum) a b → Gives AreSound a
refines-sound (Returned xs o) (Returned ys p) h = pairs-sound xs ys h.0
refines-sound (Returned xs o) (Cut p) h = absurd h
refines-sound (Returned xs o) (Exited p t) h = absurd h
refines-sound (Returned xs o) (Undefined p) h = absurd h
refines-sound (Cut o) b h = tt
refines-sound (Exited o s) b h = tt
refines-sound (Undefined o) b h = tt

pub region_is_sound : RegionIsSound
region_is_sound n ls r xs addresses locals globals s =
    refines-sound (region_at n ls r xs addresses) (region_at n ls r xs addresses)
    (region_at-more exactly exactly-compares Forward IsLessDefinedDatum less-kept ls addresses (λ j. (inl refl, locals j, locals j)) (λ j. (inl refl, globals j, globals j)) r n n
    (omega arith) xs xs (sound-pairs xs s))

pub lambda_is_sound : LambdaIsSound
lambda_is_sound n ls global f xs globals s =
    refines-sound (lambda_at n ls global f xs) (lambda_at n ls global f xs)
    ((applied-more exactly exactly-compares Forward IsLessDefinedDatum less-kept ls global (λ j. (inl refl, globals j, globals j)) (suc n) (suc n) (omega arith) f).on xs xs (sound-pairs xs s))
