-- The functions of a program that is within the limits can be laid out with its globals.
use Rattle.std.proofs.Common.{◌≡◌, ℕ, suc, ◌+◌, ◌-◌, ◌*◌, ◌^◌, ◌<◌, ◌≤◌, refl, ap, sym, subst, Bool, true, false, IsTrue, List, [], ◌∷◌, if◌then◌else◌, map, length, sum_by, Some, arith}
use Rattle.std.proofs.lemmas.Bool.{and_from, lt-ltb, le-leb}
use Rattle.std.proofs.lemmas.List.{length-map}
use Rattle.std.proofs.lemmas.List.Sums.{sum_by-cons}
use Rattle.std.proofs.lemmas.Option.{slice_get_within}
use Rattle.std.specs.Prelude.{◌&&◌, nat_lt, slice_get, unwrap_or}
use Rattle.g_graph.specs.declared.op.Op.{Op}
use Rattle.g_graph.specs.declared.op.Op.TheVariants.{Const, Undef, Local, Delta, Bin, Un, Load, Store, Clear, PtrEq, Apply, Put, Exit, Get, Gamma, Theta}
use Rattle.g_graph.specs.Plain.{PlainLambda, PlainDelta, PlainOmega}
use Rattle.g_graph.specs.Lists.{RegionOps, Calls}
use Rattle.g_graph.specs.Program.{lambda_values, IsFunctionWithinLimits}
use Rattle.g_graph.specs.WellFormed.{all_of}
use Rattle.g_graph.proofs.lemmas.Ops.{region_follows}
use Rattle.s_linear.specs.declared.frame.CodeForm.{CodeForm}
use Rattle.s_linear.specs.declared.frame.CodeForm.TheVariants.{Plain, Tight}
use Rattle.s_linear.proofs.lemmas.Labels.{labels_are_marked_once, lines_go_to_labels}
use Rattle.s_sequence.proofs.lemmas.Instrs.{calls_keep_arguments, globals_are_there}
use Rattle.s_sequence.specs.Laws.{Applies}
use Rattle.s_sequence.specs.Sequence.{sequenced}
use Rattle.rv_layout.specs.Items.{items_size}
use Rattle.rv_layout.specs.Globals.{global_room, is_where, globals_where}
use Rattle.rv_layout.specs.Layout.{stack_address}
use Rattle.rv_layout.specs.Conditions.{labels_are_marked, is_within_reach, item_fits, function_fits, global_fits}
use Rattle.s_select.proofs.lemmas.Selected.{selected_labels_are_marked, selected_items_fit}
use Rattle.elf_file.specs.Image.{text_at, stack_size, memory_limit}
use Rattle.cc_emit.specs.Image.{lines_of, places_of, function_items, code_size, main_of, CanEmit}
use Rattle.cc_emit.specs.Laws.{HasFewArguments, FunctionsFit}
use Rattle.cc_emit.proofs.CodeSize.{code_is_short}
use Rattle.cc_emit.proofs.Globals.{globals_fit}
use Rattle.cc_emit.proofs.Short.{lines_are_short}

-- ---- lists

-- what holds of each of some lambdas or globals
all_at : {X Y : Type 0} (test : Y → Bool) (f : X → Y) (xs : List X) → ((k : ℕ) (x : X) → slice_get xs k ≡ Some x → test (f x) ≡ true) → all_of test (map f xs) ≡ true
all_at test f [] h = refl
all_at test f (x ∷ xs) h = and_from (test (f x)) (all_of test (map f xs)) (h 0 x refl) (all_at test f xs (λ k y e. h (suc k) y e))

each_at : {X : Type 0} (test : X → Bool) (xs : List X) → ((k : ℕ) (x : X) → slice_get xs k ≡ Some x → test x ≡ true) → all_of test xs ≡ true
each_at test [] h = refl
each_at test (x ∷ xs) h = and_from (test x) (all_of test xs) (h 0 x refl) (each_at test xs (λ k y e. h (suc k) y e))

-- ---- calls

module _ (ls : List PlainLambda) (limits : (f : ℕ) (l : PlainLambda) → slice_get ls f ≡ Some l → IsFunctionWithinLimits l) where
  few_arguments : (op : Op) (n : ℕ) → Calls ls op n → HasFewArguments op n
  few_arguments (Apply f) n h = le-leb (n - 2) 8 (omega (arith, h.fits, (limits f h.callee h.there).parameters))
  few_arguments (Const w) n h = tt
  few_arguments Undef n h = tt
  few_arguments (Local k) n h = tt
  few_arguments (Delta k) n h = tt
  few_arguments (Bin o) n h = tt
  few_arguments (Un o) n h = tt
  few_arguments (Load width) n h = tt
  few_arguments (Store width) n h = tt
  few_arguments (Clear k) n h = tt
  few_arguments PtrEq n h = tt
  few_arguments Put n h = tt
  few_arguments Exit n h = tt
  few_arguments Get n h = tt
  few_arguments Gamma n h = tt
  few_arguments Theta n h = tt

has_callee : (ls : List PlainLambda) (op : Op) (n : ℕ) → Calls ls op n → Applies (λ f n. nat_lt f (length ls)) op n
has_callee ls (Apply f) n h = lt-ltb f (length ls) (slice_get_within ls f h.callee h.there)
has_callee ls (Const w) n h = tt
has_callee ls Undef n h = tt
has_callee ls (Local k) n h = tt
has_callee ls (Delta k) n h = tt
has_callee ls (Bin o) n h = tt
has_callee ls (Un o) n h = tt
has_callee ls (Load width) n h = tt
has_callee ls (Store width) n h = tt
has_callee ls (Clear k) n h = tt
has_callee ls PtrEq n h = tt
has_callee ls Put n h = tt
has_callee ls Exit n h = tt
has_callee ls Get n h = tt
has_callee ls Gamma n h = tt
has_callee ls Theta n h = tt

-- ---- sizes

-- of so many lambdas together
code_sum : (form : CodeForm) (ls : List PlainLambda) → ((f : ℕ) (l : PlainLambda) → slice_get ls f ≡ Some l → code_size form l ≤ 32 * lambda_values l + 256)
    → sum_by items_size (map (function_items form) ls) ≤ 32 * sum_by lambda_values ls + 256 * length ls
code_sum form [] h = omega arith
code_sum form (l ∷ ls) h =
    omega (
      arith,
      sum_by-cons items_size (function_items form l) (map (function_items form) ls),
      sum_by-cons lambda_values l ls,
      h 0 l refl,
      code_sum form ls (λ f k e. h (suc f) k e),
    )

room_sum : (fixed : Bool) (ds : List PlainDelta) → sum_by global_room (globals_where fixed ds) ≤ sum_by global_room ds
room_sum fixed [] = omega arith
room_sum fixed (d ∷ ds) =
    let rest = room_sum fixed ds in
    elim (is_where fixed d) as (λ b. sum_by global_room (if b then d ∷ globals_where fixed ds else globals_where fixed ds) ≤ sum_by global_room (d ∷ ds)) [
      | true ↦ omega (arith, rest, sum_by-cons global_room d (globals_where fixed ds), sum_by-cons global_room d ds)
      | false ↦ omega (arith, rest, sum_by-cons global_room d ds)
    ]

few : (form : CodeForm) (l : PlainLambda) → (places_of form l).temporaries ≤ 4
few Plain l = omega arith
few Tight l = omega arith

-- ---- a program

module _ (program : PlainOmega) (ls : List PlainLambda) (can : CanEmit program ls) where
  pub arguments_few : (f : ℕ) (l : PlainLambda) → slice_get ls f ≡ Some l → RegionOps HasFewArguments l.body
  arguments_few f l there = region_follows (Calls ls) HasFewArguments (few_arguments ls can.limits.each) l.body (can.program.complete.calls f l there)

  size_of_code : (form : CodeForm) (f : ℕ) (l : PlainLambda) → slice_get ls f ≡ Some l → code_size form l ≤ 32 * lambda_values l + 256
  size_of_code form f l there = code_is_short lines_are_short form l (can.limits.each f l there).parameters (arguments_few f l there)

  pub within_reach : (form : CodeForm) (f : ℕ) (l : PlainLambda) → slice_get ls f ≡ Some l → is_within_reach (function_items form l) ≡ true
  within_reach form f l there = lt-ltb (code_size form l) (2 ^ 20) (omega (arith, size_of_code form f l there, (can.limits.each f l there).values))

  function_fits_there : (form : CodeForm) (f : ℕ) (l : PlainLambda) → slice_get ls f ≡ Some l → function_fits (length ls) (length program.deltas) (function_items form l) ≡ true
  function_fits_there form f l there =
      let functions = length ls in
      let globals = length program.deltas in
      let p = places_of form l in
      let callees = region_follows (Calls ls) (Applies (λ f n. nat_lt f functions)) (has_callee ls) l.body (can.program.complete.calls f l there) in
      and_from (labels_are_marked (function_items form l) && is_within_reach (function_items form l)) (all_of (item_fits functions globals) (function_items form l))
      (and_from (labels_are_marked (function_items form l)) (is_within_reach (function_items form l))
      (selected_labels_are_marked labels_are_marked_once lines_go_to_labels (sequenced l) p l.objects) (within_reach form f l there))
      (selected_items_fit functions globals p l.objects (lines_of l) (few form l) (calls_keep_arguments (λ f n. nat_lt f functions) l callees)
      (globals_are_there globals l (can.program.named f l there)))

  pub main_there : main_of program < length ls
  main_there =
      let m = can.program.main in
      subst (λ n. n < length ls) (sym (ap (λ o. unwrap_or o 0) m.named)) (slice_get_within ls m.index m.lambda m.there)

  pub text_sum : (form : CodeForm) → sum_by items_size (map (function_items form) ls) ≤ 147148800
  text_sum form = omega (arith, code_sum form ls (size_of_code form), can.limits.values, can.limits.functions)

  fixed_sum : sum_by global_room (globals_where true program.deltas) ≤ 1048576
  fixed_sum = omega (arith, room_sum true program.deltas, can.limits.globals)

  other_sum : sum_by global_room (globals_where false program.deltas) ≤ 1048576
  other_sum = omega (arith, room_sum false program.deltas, can.limits.globals)

  pub memory_end : (form : CodeForm) → stack_address (map (function_items form) ls) program.deltas + stack_size ≤ text_at + memory_limit
  memory_end form = omega (arith, text_sum form, fixed_sum, other_sum)

pub functions_fit : FunctionsFit
functions_fit form program ls can = record {
  functions_fit =
      subst (λ n. IsTrue (all_of (function_fits n (length program.deltas)) (map (function_items form) ls))) (sym (length-map ls (function_items form)))
      (all_at (function_fits (length ls) (length program.deltas)) (function_items form) ls (function_fits_there program ls can form));
  globals_fit = each_at (global_fits (length program.deltas)) program.deltas (λ k d e. globals_fit (length program.deltas) d (can.program.globals k d e));
  has_main = subst (λ n. main_of program < n) (sym (length-map ls (function_items form))) (main_there program ls can);
  fits_memory = omega (arith, memory_end program ls can form);
}
