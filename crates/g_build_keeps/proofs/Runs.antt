-- Whole programs: the graph of a program starts as the program does.
use Rattle.std.proofs.Common.{◌≡◌, inl, inr, ℕ, zero, suc, ◌+◌, ◌*◌, ◌%◌, List, [], ◌∷◌, map, refl, sym, ap, ap₂, ◌∙◌, subst, arith}
use Rattle.std.specs.Prelude.{Bool, true, false, if◌then◌else◌, slice_get, slice_index_or, Option, None, Some, option_map}
use Rattle.val_core.specs.declared.values.Value.{Value}
use Rattle.val_core.specs.declared.values.Value.TheVariants.{Num, At, Bad}
use Rattle.val_core.specs.Memory.{Memory as Blocks}
use Rattle.val_core.specs.Refinement.{Direction, Forward, Backward, exactly, Refines}
use Rattle.val_core.specs.Answers.{Answer, Exited, then_on, on_number, on_defined}
use Rattle.val_core.specs.Within.{Given, IsLessDefinedOption}
use Rattle.val_core.proofs.lemmas.Refinement.{exactly-goes, exactly-output, exactly-depth, refines-then, forward-within, backward-within, backward-defined, backward-no-deeper}
use Rattle.c_type.specs.LayoutLaws.{LeavesAreInOrder}
use Rattle.c_typed.specs.Typed.{FunctionTree, ProgramTree}
use Rattle.c_typed.specs.WellTyped.{IsWellTyped}
use Rattle.c_mean.specs.Run as source
use Rattle.c_mean.specs.Run.{call_run, global_address, first_memory, run}
use Rattle.g_graph.specs.Program.{same_bytes, name_index, main_name}
use Rattle.g_graph.proofs.lemmas.Names.{bytes_equal}
use Rattle.g_build_def.specs.Functions as construction
use Rattle.g_build_def.specs.Functions.{graph, names}
use Rattle.g_build_keeps.specs.BuiltLaws.{WellTypedAreBuilt}
use Rattle.g_mean.specs.Data.{Datum, memory, input}
use Rattle.g_mean.specs.Calls as graph_calls
use Rattle.g_mean.specs.Calls.{lambda_at, started, program_at}
use Rattle.g_mean.specs.LessDefined.{AreBytes, AreSound}
use Rattle.g_build_keeps.specs.Laws.{GivesBack, StartsAsProgram}
use Rattle.g_build_keeps.specs.Groups.{HasFewGroups}
use Rattle.g_build_keeps.proofs.Programs.{BodiesFit, forward-fits, backward-fits}
use Rattle.g_build_keeps.proofs.Functions.{bodies-fit}
use Rattle.g_build_keeps.proofs.Globals.{addresses-same, memory-same, first-sound}

-- ---- `main` is found by its name

record Named (fs : List FunctionTree) (k : ℕ) : Type 0 where
  function : FunctionTree
  there : slice_get fs k ≡ Some function
  name : function.name ≡ main_name

named-at : (fs : List FunctionTree) (k : ℕ) → name_index main_name (map (λ (f : FunctionTree). f.name) fs) ≡ Some k → Named fs k
named-at [] k e = absurd cc
named-at (f ∷ fs) k e = by (same_bytes f.name main_name) refl (name_index main_name (map (λ (f : FunctionTree). f.name) fs)) refl k e (λ j z. named-at fs j z)
  where
    by : (t : Bool) → same_bytes f.name main_name ≡ t → (x : Option ℕ) → name_index main_name (map (λ (f : FunctionTree). f.name) fs) ≡ x → (k : ℕ) →
        (if t then Some 0 else option_map suc x) ≡ Some k →
        ((j : ℕ) → name_index main_name (map (λ (f : FunctionTree). f.name) fs) ≡ Some j → Named fs j) → Named (f ∷ fs) k
    by true z x y zero q r = record { function = f; there = refl; name = bytes_equal f.name main_name z }
    by true z x y (suc k) q r = absurd cc
    by false z None y k q r = absurd cc
    by false z (Some j) y zero q r = absurd cc
    by false z (Some j) y (suc k) q r =
        let same : j ≡ k = cc in
        let n = r j y in
        record { function = n.function; there = subst (λ i. slice_get fs i ≡ Some n.function) same n.there; name = n.name }

-- ---- the end of a program

ends : (direction : Direction) (g : Given (Option Value)) (ys : List Datum) → GivesBack g ys → Refines exactly direction (λ (g : Given (Option Value)) (ys : List Datum). ⊥) (source.finished g)
    (graph_calls.finished ys)
ends direction g ys h =
    subst (λ zs. Refines exactly direction (λ (g : Given (Option Value)) (ys : List Datum). ⊥) (source.finished g) (graph_calls.finished zs)) (sym h.is) (by g.value h.less)
  where
    by : (v : Option Value) → IsLessDefinedOption v h.value →
        Refines exactly direction (λ (g : Given (Option Value)) (ys : List Datum). ⊥) (on_defined v (λ u. on_number u (λ w. Exited [] (w % 256)))) (on_number h.value (λ w. Exited [] (w % 256)))
    by None l = tt
    by (Some Bad) l = tt
    by (Some (At b o)) l = tt
    by (Some (Num w)) (inl e) =
        subst (λ u. Refines exactly direction (λ (g : Given (Option Value)) (ys : List Datum). ⊥) (Exited [] (w % 256)) (on_number u (λ w. Exited [] (w % 256)))) e (refl, refl)
    by (Some (Num w)) (inr e) = absurd cc

module _ (p : ProgramTree) (typed : IsWellTyped p) (few : HasFewGroups p) (law : LeavesAreInOrder) (built : WellTypedAreBuilt) where
  main-found : name_index main_name (names p) ≡ Some p.main
  main-found =
      let m = (built p typed).main in
      let n = named-at p.functions m.index m.named in
      m.named ∙ ap Some (typed.main.alone m.index n.function n.there n.name)

  bodies : BodiesFit p
  bodies = bodies-fit p typed few law

  module _ (i : List ℕ) (bytes : AreBytes i) where
    abbrev near : ℕ → Answer (Given (Option Value))
    near k = call_run p (global_address p) k p.main [] (first_memory p) i

    abbrev far : ℕ → Answer (List Datum)
    far k = lambda_at k (graph p) (global_address p) p.main (memory (first_memory p) ∷ input i ∷ [])

    program-is : (n : ℕ) → then_on (far n) graph_calls.finished ≡ program_at n (construction.omega p) (graph p) i
    program-is n =
        sym (ap₂ (λ (global : ℕ → Value) (m : Blocks). then_on (lambda_at n (graph p) global p.main (memory m ∷ input i ∷ [])) graph_calls.finished) (addresses-same p typed law)
        (memory-same p typed law))
        ∙ ap (λ x. started n (construction.omega p) (graph p) x i) (sym main-found)

    sound : AreSound (memory (first_memory p) ∷ input i ∷ [])
    sound = (first-sound p typed law, (bytes, tt))

    whole : (w : Direction) (n m : ℕ) → Refines exactly w GivesBack (near n) (far m) → Refines exactly w (λ g ys. ⊥) (run n p i) (program_at m (construction.omega p) (graph p) i)
    whole w n m h =
        subst (λ z. Refines exactly w (λ g ys. ⊥) (run n p i) z) (program-is m) (refines-then exactly exactly-goes GivesBack (λ g ys. ⊥) w (near n) (far m) source.finished graph_calls.finished h
        (ends w))

    forth : (k : ℕ) → Refines exactly Forward (λ g ys. ⊥) (run k p i) (program_at (2 * k + 1) (construction.omega p) (graph p) i)
    forth k =
        whole Forward k (2 * k + 1)
        (forward-fits p bodies k (suc k) (suc (2 * k + 1)) (omega arith) p.main typed.main.function typed.main.there [] (sym typed.main.takes) (first_memory p) i sound)

    backward : (k : ℕ) → Refines exactly Backward (λ g ys. ⊥) (run k p i) (program_at k (construction.omega p) (graph p) i)
    backward k =
        whole Backward k k (backward-fits p bodies k (suc k) (suc k) (omega arith) (omega arith) p.main typed.main.function typed.main.there [] (sym typed.main.takes) (first_memory p) i sound)

  pub starts-as-program : StartsAsProgram p (graph p)
  starts-as-program i bytes right n =
      record {
        forward = (
          2 * n + 1,
          forward-within exactly exactly-output (λ g ys. ⊥) (run n p i) (ev (2 * n + 1)) (forth i bytes n) (right n)
              (backward-defined exactly (λ g ys. ⊥) (run (2 * n + 1) p i) (ev (2 * n + 1)) (backward i bytes (2 * n + 1)) (right (2 * n + 1))),
        );
        back = (n, backward-within exactly exactly-output (λ g ys. ⊥) (run n p i) (ev n) (backward i bytes n) (right n));
        no_deeper = λ sizes. (n, backward-no-deeper exactly exactly-depth (λ g ys. ⊥) (run n p i) (ev n) (backward i bytes n) (right n) (λ f. slice_index_or sizes f 0));
      }
    where
      ev : ℕ → Answer (List Datum)
      ev k = program_at k (construction.omega p) (graph p) i
