-- The image of a program does what its lambdas do, where its start is as the machine wants it.
use Rattle.std.proofs.Common.{◌≡◌, ℕ, zero, suc, ◌<◌, ◌^◌, ◌≤◌, List, [], ◌∷◌, map, Option, Ok, unwrap_or, slice_index_or, refl, sym, ap, subst, ◌∙◌, All, arith}
use Rattle.std.proofs.lemmas.List.Elements.{All-cons}
use Rattle.std.proofs.lemmas.Simd.{map-map}
use Rattle.val_core.specs.declared.values.Value.{Value}
use Rattle.val_core.specs.Answers.{Answer, Returned, Cut, Exited, Undefined, IsUndefined, events, then_on}
use Rattle.val_core.specs.Events.{output, deepest}
use Rattle.val_core.specs.Within.{Given, Running, behaviour, Within}
use Rattle.elf_file.specs.Laws.{executable_for}
use Rattle.elf_file.specs.Loading.{loaded}
use Rattle.g_graph.specs.Plain.{PlainLambda, PlainOmega}
use Rattle.g_mean.specs.Data.{Datum}
use Rattle.g_mean.specs.Calls.{global_of, first_memory, program_at, deepest_main}
use Rattle.g_mean.specs.LessDefined.{AreBytes}
use Rattle.g_mean.specs.Kinds.{AreWellFormed}
use Rattle.g_mean.proofs.lemmas.Kinds.{all-well-formed}
use Rattle.rv_machine.specs.Run.{run, executed, start}
use Rattle.rv_layout.specs.declared.item.Item.{Item}
use Rattle.rv_layout.specs.Layout.{laid_out}
use Rattle.val_core.specs.Memory.{Memory}
use Rattle.s_linear.specs.Meaning.{calls, finished}
use Rattle.s_linear.specs.declared.frame.CodeForm.{CodeForm}
use Rattle.s_linear.specs.declared.frame.CodeForm.TheVariants.{Plain, Tight}
use Rattle.s_sequence.specs.Sequence.{sequenced}
use Rattle.s_sequence_keeps.specs.Agreement.{GivesBack}
use Rattle.s_sequence_keeps.specs.Laws.{ProgramsAreWithin}
use Rattle.s_sequence_keeps.specs.Programs.{started, linear_program_at}
use Rattle.a_place.specs.Placed.{placed_at, placed_calls}
use Rattle.a_place_keeps.specs.Laws.{SequencedFunctionsAgree, SequencedSharedAgree}
use Rattle.s_select_keeps.specs.Functions.{ProgramCanRun, frame_sizes}
use Rattle.s_select_keeps.specs.LaidFunctions.{function_items}
use Rattle.s_select_keeps.specs.Kept.{ProgramIsKept}
use Rattle.s_select_keeps.specs.Kept as placed
use Rattle.s_select_keeps.specs.Mains.{HasStart}
use Rattle.s_select_keeps.specs.Relation.{Bases}
use Rattle.cc_emit.specs.Image.{places_in, main_of, image_of, file_of_program, CanEmit}
use Rattle.cc_emit.specs.Image as image
use Rattle.rv_machine.specs.Behaviour.{IsKept, FileKeeps}
use Rattle.rv_machine.proofs.lemmas.Nearer.{undefined_is_apart, nearer_is_kept}
use Rattle.cc_emit.specs.Images.{frames, linear, program_of}

-- the items of the functions are those of the lambdas
pub items-same : (form : CodeForm) (ls : List PlainLambda) → map (function_items (places_in form)) (linear ls) ≡ map (image.function_items form) ls
items-same form ls = map-map (function_items (places_in form)) sequenced ls

sizes-same : (form : CodeForm) (omega : PlainOmega) (ls : List PlainLambda) (k : ℕ) → frame_sizes (program_of form omega ls) k ≡ slice_index_or (frames form ls) k 0
sizes-same form omega ls k = ap (λ (xs : List ℕ). slice_index_or xs k 0) (map-map _ sequenced ls)

-- the linear code of well-formed lambdas does over its places, in each form, what it does over names
abbrev pub FormsAgree : Type 0
FormsAgree =
    (form : CodeForm) (ls : List PlainLambda) → AreWellFormed ls → (global : ℕ → Value) (bound f : ℕ) (arguments : List Value) (memory : Memory) (input : List ℕ)
    → calls (linear ls) global bound f arguments memory input
    ≡ placed_calls (map (λ g. placed_at (places_in form g) g) (linear ls)) global bound f arguments memory input

pub forms_agree : SequencedFunctionsAgree → SequencedSharedAgree → FormsAgree
forms_agree plain tight Plain = plain
forms_agree plain tight Tight = tight

pub bytes-all : (i : List ℕ) → AreBytes i → All (λ byte. byte < 2 ^ 8) i
bytes-all [] h = λ k d below. omega (arith, below)
bytes-all (b ∷ i) h = All-cons (λ byte. byte < 2 ^ 8) b i h.0 (bytes-all i h.1)

at-least-none : (n : ℕ) → 0 ≤ n
at-least-none n = omega arith

at-most : (m n : ℕ) → m ≡ n → m ≤ n
at-most m n h = omega (arith, h)

-- nothing written begins every run that neither fails nor gives back
nothing-within : {A B : Type 0} (R : A → B → Type 0) (a : Answer B) → (IsUndefined a → ⊥) → Within R (Running []) (behaviour a)
nothing-within R (Returned x o) right = (output o, refl)
nothing-within R (Cut o) right = (output o, refl)
nothing-within R (Exited o s) right = (output o, refl)
nothing-within R (Undefined o) right = absurd (right tt)

module _ (kept : ProgramIsKept) (agree : FormsAgree) (within : ProgramsAreWithin) (form : CodeForm) (omega : PlainOmega) (ls : List PlainLambda) (can : CanEmit omega ls)
    (loads : loaded (file_of_program form omega ls) ≡ Ok (executable_for (image_of form omega ls))) (can-run : ProgramCanRun (program_of form omega ls)) (stack e : ℕ)
    (bases : Bases) (i : List ℕ)
    (begins : HasStart (program_of form omega ls) (main_of omega) stack e (first_memory omega.deltas) bases i
    (start (executable_for (laid_out (map (function_items (places_in form)) (linear ls)) omega.deltas (main_of omega)))))
    (right : (n : ℕ) → IsUndefined (program_at n omega ls i) → ⊥) where
  -- what the program over places does within a bound
  abbrev over_places : ℕ → Answer (Given Value)
  over_places n = placed.program_at (program_of form omega ls) (main_of omega) (first_memory omega.deltas) i n

  abbrev deeper : ℕ → ℕ
  deeper n = deepest (frame_sizes (program_of form omega ls)) (events (over_places n))

  -- the linear code at a bound is the program over places at the next one
  linear-is : (n : ℕ) → linear_program_at n omega (linear ls) i ≡ over_places (suc n)
  linear-is n =
      let main = can.program.main in
      let number : main_of omega ≡ main.index = ap (λ (x : Option ℕ). unwrap_or x 0) main.named in
      ap (λ (x : Option ℕ). started n omega (linear ls) x i) main.named
      ∙ ap (λ f. then_on (calls (linear ls) (global_of omega.deltas) (suc n) f [] (first_memory omega.deltas) i) finished) (sym number)
      ∙ ap (λ a. then_on a finished)
      (agree form ls (all-well-formed ls can.program.complete.well_formed) (global_of omega.deltas) (suc n) (main_of omega) [] (first_memory omega.deltas) i)

  forward : (n : ℕ) → Within GivesBack (behaviour (program_at n omega ls i)) (behaviour (over_places (suc n)))
  forward n =
      subst (λ a. Within GivesBack (behaviour (program_at n omega ls i)) (behaviour a)) (linear-is n)
      (within ls (all-well-formed ls can.program.complete.well_formed) omega n i (right n)).forward

  back : (n : ℕ) → (m : ℕ) × Within (λ g ys. GivesBack ys g) (behaviour (over_places n)) (behaviour (program_at m omega ls i))
  back zero = (0, nothing-within (λ g ys. GivesBack ys g) (program_at 0 omega ls i) (right 0))
  back (suc n) = (
    n,
    subst (λ a. Within (λ g ys. GivesBack ys g) (behaviour a) (behaviour (program_at n omega ls i))) (linear-is n)
        (within ls (all-well-formed ls can.program.complete.well_formed) omega n i (right n)).back,
  )

  same-depth : (n : ℕ) → deeper (suc n) ≡ deepest_main n omega ls (frames form ls) i
  same-depth n =
      ap (λ sizes. deepest sizes (events (over_places (suc n)))) (λ j k. sizes-same form omega ls k j)
      ∙ ap (λ a. deepest (λ f. slice_index_or (frames form ls) f 0) (events a)) (sym (linear-is n))
      ∙ (within ls (all-well-formed ls can.program.complete.well_formed) omega n i (right n)).same_depth (λ f. slice_index_or (frames form ls) f 0)

  no_deeper : (n : ℕ) → (m : ℕ) × (deeper n ≤ deepest_main m omega ls (frames form ls) i)
  no_deeper zero = (0, at-least-none _)
  no_deeper (suc n) = (n, at-most _ _ (same-depth n))

  placed-right : (n : ℕ) → IsUndefined (over_places n) → ⊥
  placed-right n wrong = let m = back n in undefined_is_apart (λ g ys. GivesBack ys g) (over_places n) (program_at m.0 omega ls i) wrong m.1

  placed-kept : FileKeeps (Given Value) over_places deeper (file_of_program form omega ls) i
  unfolding executed run
  placed-kept =
      record {
        executable = executable_for (image_of form omega ls);
        loads = loads;
        runs =
            subst (λ (items : List (List Item)). IsKept (Given Value) over_places deeper (λ n. executed n (executable_for (laid_out items omega.deltas (main_of omega))) i))
            (items-same form ls)
            (kept (program_of form omega ls) (main_of omega) stack e (first_memory omega.deltas) bases i
            (start (executable_for (laid_out (map (function_items (places_in form)) (linear ls)) omega.deltas (main_of omega)))) can-run begins placed-right);
      }

  pub image_keeps : FileKeeps (List Datum) (λ n. program_at n omega ls i) (λ n. deepest_main n omega ls (frames form ls) i) (file_of_program form omega ls) i
  image_keeps =
      nearer_is_kept (List Datum) (Given Value) GivesBack (λ n. program_at n omega ls i) over_places (λ n. deepest_main n omega ls (frames form ls) i) deeper
      (file_of_program form omega ls) i
      (record { forward = λ n. (suc n, forward n); back = back; no_deeper = no_deeper }) placed-kept
