-- The functions of a program can run once its image is loaded, and its image begins as the machine wants it.
use Rattle.std.proofs.Common.{◌≡◌, ℕ, zero, suc, ◌+◌, ◌-◌, ◌%◌, ◌^◌, ◌<◌, ◌≤◌, Bool, true, false, if◌then◌else◌, List, [], ◌∷◌, map, length, slice_get, Some, refl, sym, subst, ◌∙◌, arith}
use Rattle.std.proofs.lemmas.Bool.{and_parts, lt-ltb}
use Rattle.std.proofs.lemmas.Nat.{mod_below}
use Rattle.std.proofs.lemmas.List.Sums.{sum_by-cons, sum_by-take-le}
use Rattle.std.proofs.lemmas.Option.{same_Some}
use Rattle.std.specs.List.{sum_by}
use Rattle.std.specs.Prelude.{nat_lt, ◌&&◌}
use Rattle.elf_file.specs.Image.{IsPlaced, stack_size}
use Rattle.elf_file.specs.Laws.{executable_for, LoadedIsSound}
use Rattle.elf_file.specs.Segments.{AreSound}
use Rattle.g_graph.specs.declared.op.Op.{Op}
use Rattle.g_graph.specs.declared.op.Op.TheVariants.{Const, Undef, Local, Delta, Bin, Un, Load, Store, Clear, PtrEq, Apply, Put, Exit, Get, Gamma, Theta}
use Rattle.g_graph.specs.Plain.{PlainObject, PlainLambda, PlainOmega}
use Rattle.g_graph.specs.WellFormed.{all_of, body_fits, numbers_fit, every_region, region_fits, leaves_fit, IsWellFormed}
use Rattle.g_mean.specs.Calls.{global_of, first_memory}
use Rattle.g_mean.specs.LessDefined.{AreBytes}
use Rattle.rv_machine.specs.Run.{start}
use Rattle.rv_layout.specs.declared.item.Item.{Item}
use Rattle.rv_layout.specs.Conditions.{CanLayOut}
use Rattle.rv_layout.specs.Items.{marks}
use Rattle.rv_layout.specs.Layout.{put_at, fixed_address, data_address, addresses_of, laid_out}
use Rattle.rv_layout.proofs.lemmas.Addresses.{length-globals_from}
use Rattle.s_linear.specs.Frame.{saved_of, object_room, object_at, frame_size, objects_at}
use Rattle.s_linear.specs.Linear.{LinearFunction}
use Rattle.s_linear.specs.Lines.{does, code_labels, lines}
use Rattle.s_linear.specs.declared.frame.CodeForm.{CodeForm}
use Rattle.s_linear.specs.declared.frame.CodeForm.TheVariants.{Plain, Tight}
use Rattle.s_linear.specs.declared.frame.Frame.{Frame}
use Rattle.s_linear.proofs.lemmas.Labels.{labels_are_marked_once}
use Rattle.s_sequence.specs.Sequence.{op_instr, sequenced}
use Rattle.s_sequence.proofs.lemmas.Instrs.{instrs_pass, globals_are_there}
use Rattle.s_select.specs.Templates.{size_of}
use Rattle.s_select.proofs.lemmas.Selected.{marks-items}
use Rattle.s_select_keeps.specs.Formats.{IsInRange}
use Rattle.s_select_keeps.specs.Functions.{FunctionCanRun, ProgramCanRun, HasBlocks}
use Rattle.s_select_keeps.specs.LaidFunctions.{function_items, is_word_constant}
use Rattle.s_select_keeps.specs.Mains.{HasStart}
use Rattle.s_select_keeps.specs.Relation.{Bases, ShowsMemory}
use Rattle.s_select_keeps.proofs.lemmas.LaidFunctions.{laid_program_can_run, laid_program_starts}
use Rattle.s_select_keeps.proofs.lemmas.SelectedFunctions.{selected_can_run}
use Rattle.cc_emit.specs.Image.{places_in, places_of, main_of, image_of, file_of_program, CanEmit}
use Rattle.cc_emit.specs.Laws.{IsFunction, ImageIsPlaced, ProgramLoads}
use Rattle.cc_emit.proofs.lemmas.FunctionFits.{functions_fit, within_reach}
use Rattle.cc_emit.proofs.lemmas.Lambdas.{is_function, places_few, frame_fits, can_select}
use Rattle.cc_emit.specs.Images.{linear, program_of}
use Rattle.cc_emit.proofs.Images.{items-same, bytes-all}

-- ---- constants

word_made : (op : Op) (t : ℕ) (xs : List ℕ) → is_word_constant (op_instr op t xs) ≡ true
word_made (Const w) t xs = lt-ltb (w % 2 ^ 32) (2 ^ 32) (mod_below w (2 ^ 32) (omega arith))
word_made Undef t xs = refl
word_made (Local k) t xs = refl
word_made (Delta k) t xs = refl
word_made (Bin o) t xs = refl
word_made (Un o) t xs = refl
word_made (Load width) t xs = refl
word_made (Store width) t xs = refl
word_made (Clear k) t xs = refl
word_made PtrEq t xs = refl
word_made (Apply f) t xs = refl
word_made Put t xs = refl
word_made Exit t xs = refl
word_made Get t xs = refl
word_made Gamma t xs = refl
word_made Theta t xs = refl

constants_are_words : (l : PlainLambda) → IsWellFormed l → all_of (does is_word_constant) (lines (sequenced l)) ≡ true
constants_are_words l w = instrs_pass is_word_constant (λ t s. refl) (λ t. refl) word_made l w

-- ---- frames

less : (m n : ℕ) → m - n ≤ m
less m n = omega arith

object-low : (form : CodeForm) (l : PlainLambda) → IsFunction l → (k : ℕ) → object_at (places_of form l).count l.objects k < 2 ^ 32
object-low form l f k =
    let count = (places_of form l).count in
    let few = places_few form l f in
    omega (arith, few, f.limits.values, f.limits.objects, less count (saved_of count), sum_by-take-le object_room l.objects k)

size-counted : (os : List PlainObject) (k : ℕ) → size_of os k ≤ sum_by object_room os
size-counted [] k = omega arith
size-counted (o ∷ os) zero = omega (arith, sum_by-cons object_room o os)
size-counted (o ∷ os) (suc k) = omega (arith, sum_by-cons object_room o os, size-counted os k)

temporaries-few : (form : CodeForm) (l : PlainLambda) → (places_of form l).temporaries ≤ 4
temporaries-few Plain l = omega arith
temporaries-few Tight l = omega arith

is_in_range : (form : CodeForm) (l : PlainLambda) → IsFunction l → IsInRange (places_of form l) l.objects
is_in_range form l f = record {
  temporaries = temporaries-few form l;
  frame = frame_fits form l f;
  objects = object-low form l f;
  sizes = λ k. omega (arith, size-counted l.objects k, f.limits.objects);
}

leaves-fit : (l : PlainLambda) → IsWellFormed l → all_of (λ o. leaves_fit o.size 0 o.leaves) l.objects ≡ true
leaves-fit l w = (and_parts (body_fits l && numbers_fit l && every_region (region_fits (length l.objects)) l.body)
    (all_of (λ o. leaves_fit o.size 0 o.leaves) l.objects) w).1

-- ---- lists

all-mapped : {X Y : Type 0} (f : X → Y) (P : Y → Type 0) (xs : List X) → ((k : ℕ) (x : X) → slice_get xs k ≡ Some x → P (f x)) → (k : ℕ) (y : Y)
    → slice_get (map f xs) k ≡ Some y → P y
all-mapped f P [] h k y e = absurd cc
all-mapped f P (x ∷ xs) h zero y e = subst P (same_Some (f x) y e) (h 0 x refl)
all-mapped f P (x ∷ xs) h (suc k) y e = all-mapped f P xs (λ j z q. h (suc j) z q) k y e

marked-once : (form : CodeForm) (f : LinearFunction) (l : ℕ) → marks l (function_items (places_in form) f) ≤ 1
marked-once form f l = by (nat_lt l (code_labels f.code)) (marks-items l (places_in form f) f.objects (lines f) ∙ labels_are_marked_once f l)
  where
    by : (low : Bool) → marks l (function_items (places_in form) f) ≡ (if low then 1 else 0) → marks l (function_items (places_in form) f) ≤ 1
    by true e = omega (arith, e)
    by false e = omega (arith, e)

-- ---- a program

module _ (form : CodeForm) (omega : PlainOmega) (ls : List PlainLambda) (can : CanEmit omega ls) where
  lambda-runs : (k : ℕ) (l : PlainLambda) → slice_get ls k ≡ Some l → FunctionCanRun (length omega.deltas) (places_of form l) (sequenced l)
  lambda-runs k l there =
      let f = is_function omega ls can k l there in
      let frame : Frame = record { size = frame_size (places_of form l).count l.objects; objects_at = objects_at (places_of form l).count } in
      selected_can_run (length omega.deltas) (sequenced l) (places_of form l) frame (can_select form l frame f (record { size = refl; objects_at = refl }))
      (globals_are_there (length omega.deltas) l (can.program.named k l there)) (constants_are_words l f.well_formed) (within_reach omega ls can form k l there)
      (is_in_range form l f) (leaves-fit l f.well_formed)

  abbrev items : List (List Item)
  items = map (function_items (places_in form)) (linear ls)

  function-runs : (k : ℕ) (f : LinearFunction) → slice_get (linear ls) k ≡ Some f → FunctionCanRun (length (addresses_of items omega.deltas).globals) (places_in form f) f
  function-runs =
      subst (λ n. (k : ℕ) (f : LinearFunction) → slice_get (linear ls) k ≡ Some f → FunctionCanRun n (places_in form f) f)
      (sym (length-globals_from (fixed_address items) (data_address items omega.deltas + 8) omega.deltas))
      (all-mapped sequenced (λ f. FunctionCanRun (length omega.deltas) (places_in form f) f) ls lambda-runs)

  pub can-lay-out : CanLayOut items omega.deltas (main_of omega)
  can-lay-out = subst (λ fs. CanLayOut fs omega.deltas (main_of omega)) (sym (items-same form ls)) (functions_fit form omega ls can)

  module _ (sound : LoadedIsSound) (loads : ProgramLoads) where
    pub segments_are_sound : AreSound (executable_for (laid_out items omega.deltas (main_of omega))).segments
    segments_are_sound =
        subst (λ (fs : List (List Item)). AreSound (executable_for (laid_out fs omega.deltas (main_of omega))).segments) (sym (items-same form ls))
        (sound (file_of_program form omega ls) (executable_for (image_of form omega ls)) (loads form omega ls can))

    pub program_can_run : ProgramCanRun (program_of form omega ls)
    program_can_run =
        laid_program_can_run (places_in form) (linear ls) omega.deltas (main_of omega) (global_of omega.deltas) can-lay-out segments_are_sound function-runs (λ k f there. marked-once form f)

    pub program_starts : ImageIsPlaced → (bases : Bases) (i : List ℕ) → ShowsMemory (program_of form omega ls).text.flags bases (first_memory omega.deltas)
        (program_of form omega ls).text.bytes
        → HasBlocks (program_of form omega ls) bases (first_memory omega.deltas) (addresses_of items omega.deltas).stack_at
        ((addresses_of items omega.deltas).stack_at + stack_size) → AreBytes i
        → HasStart (program_of form omega ls) (main_of omega) (addresses_of items omega.deltas).stack_at put_at (first_memory omega.deltas) bases i
        (start (executable_for (laid_out items omega.deltas (main_of omega))))
    program_starts placed bases i shows has bytes =
        laid_program_starts (places_in form) (linear ls) omega.deltas (main_of omega) (global_of omega.deltas) (first_memory omega.deltas) bases i can-lay-out
        (subst (λ fs. IsPlaced (laid_out fs omega.deltas (main_of omega))) (sym (items-same form ls)) (placed form omega ls can)) segments_are_sound function-runs shows has
        (bytes-all i bytes)
