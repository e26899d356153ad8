-- The frame of a call that begins, once its blocks are opened and its arguments taken.
use Rattle.std.proofs.Common.{Vec, Global, ◌≡◌, ℕ, ◌-◌, ◌<◌, ◌≤◌, ◌⊎◌, inl, inr, min, List, [], ◌∷◌, ◌++◌, length, take, drop, reverse, refl, sym, ap, ◌∙◌, subst, arith}
use Rattle.std.specs.Prelude.{Option, None, Some, slice_get, Err}
use Rattle.std.proofs.lemmas.Bool.{cases_lt}
use Rattle.std.proofs.lemmas.List.{length-map, take_all, length-drop}
use Rattle.val_core.specs.declared.values.Value.{Value}
use Rattle.val_core.specs.Memory.{Memory}
use Rattle.val_core.specs.Objects.{address_in, opened}
use Rattle.c_typed.specs.Typed.{VariableTree, FunctionTree, ProgramTree}
use Rattle.c_typed.specs.WellTyped.{params_of}
use Rattle.c_mean.specs.State as state
use Rattle.c_mean.specs.Run.{objects_of, params_in_scope, params_stored}
use Rattle.c_interp_store.specs.declared.shape.Shape.{Shape}
use Rattle.c_interp_store.specs.declared.store.Store.{Store}
use Rattle.c_interp_store.specs.Blocks.{shape_of, shapes_of}
use Rattle.c_interp_store.specs.Holding.{Opened, Holds}
use Rattle.c_interp_def.specs.declared.task.Slot.{Slot as CodeSlot}
use Rattle.c_interp_def.specs.Configurations as def
use Rattle.c_interp_def.specs.Configurations.{variables_in, variables_of, object_sizes}
use Rattle.c_interp_def.specs.ExprTasks.{newest}
use Rattle.c_interp_def.specs.CallLaws.{call_memory}
use Rattle.c_interp_answer.specs.TaskViews.{slots_of}
use Rattle.c_interp.specs.declared.frame.Active.{Active}
use Rattle.c_interp.specs.declared.machine.Machine.{Machine}
use Rattle.c_interp.specs.Machines.{opened_by, config_of, IsHeld}
use Rattle.c_interp.specs.declared.stop.Stop.{Stop}
use Rattle.c_interp.specs.declared.stop.Stop.TheVariants as stop
use Rattle.c_interp.specs.Steps.{IsSomeHeld, IsStored}
use Rattle.c_interp.specs.Calls.{BeginsCall, IsFrame}
use Rattle.c_interp.proofs.Steps.{calls_in}
use Rattle.c_interp.proofs.Arguments.{newest-are, others-are}

abbrev frame_at : (function first depth : ℕ) → List state.Slot → def.Frame
frame_at f first depth slots = record { function = f; first = first; depth = depth; slots = slots }

-- the parameters are the first variables, of which there may be fewer
params-are : (vs : List VariableTree) (k n : ℕ) → n ≡ min k (length vs) → take n vs ≡ take k vs
params-are vs k n e = by (cases_lt (length vs) k)
  where
    by : (length vs < k) ⊎ (k ≤ length vs) → take n vs ≡ take k vs
    by (inl few) = take_all n vs (omega (arith, e, few)) ∙ sym (take_all k vs (omega (arith, few)))
    by (inr many) = let same : n ≡ k = omega (arith, e, many) in ap (λ j. take j vs) same

-- the first variables as they were read
pub params-read : (fn : FunctionTree) (vs : List VariableTree) (k n : ℕ) → vs ≡ fn.variables → k ≡ fn.params → n ≡ min k (length vs) → take n vs ≡ params_of fn
params-read fn vs k n same count few = params-are vs k n few ∙ ap (take k) same ∙ ap (λ j. take j fn.variables) count

-- the operands from the first argument on
pub args-read : (ops all : List Value) (count first : ℕ) → all ≡ ops → first ≡ length ops - count → take (length all - first) (drop first all) ≡ newest count (reverse ops)
args-read ops all count first same first_is =
    take_all (length all - first) (drop first all) (omega (arith, length-drop first all)) ∙ ap (drop first) same ∙ ap (λ k. drop k ops) first_is ∙ sym (newest-are count ops)

-- the machine once the arguments were taken
abbrev pub taken_from : Machine → Vec Value Global → Store → (spare : Vec CodeSlot Global) → Machine
taken_from m ops s spare = record { tasks = m.tasks; operands = ops; frame = m.frame; slots = m.slots; callers = m.callers; flow = m.flow; store = s; status = m.status; spare = spare }

abbrev pub Opens : Machine → List Shape → Opened → Store → Type 0
Opens old shapes o s =
    (calls : List Opened) (m : Memory) → Holds old.store calls m → (o ≡ record { first = length m; count = length shapes }) × Holds s (o ∷ calls) (m ++ opened (shapes_of shapes))

module _ (p : ProgramTree) (f count : ℕ) (fn : FunctionTree) (old : Machine) (shapes : List Shape) (o : Opened) (s : Store) (params : List VariableTree) (args : List Value) (there : slice_get p.functions f ≡ Some fn)
    (laid : shapes_of shapes ≡ objects_of p.structs fn.variables) (opens : Opens old shapes o s) (are_params : params ≡ params_of fn) (are_args : args ≡ newest count (reverse old.operands.items)) where
  -- the memory once they were stored
  abbrev pub stored_in : Memory → Option Memory
  stored_in m = params_stored (address_in o.first (object_sizes p (variables_of p f))) 0 params args m

  pub memory-is : (m : Memory) → Holds old.store (calls_in old) m → call_memory p (config_of old m []) count fn ≡ stored_in (m ++ opened (shapes_of shapes))
  memory-is m holds =
      let e = (opens (calls_in old) m holds).0 in
      ap (λ a. params_stored (address_in a (object_sizes p fn.variables)) 0 (params_of fn) (newest count (reverse old.operands.items)) (m ++ opened (objects_of p.structs fn.variables)))
      (sym (ap (λ q. q.first) e))
      ∙ ap (λ q. params_stored (address_in o.first (object_sizes p (variables_in q))) 0 (params_of fn) (newest count (reverse old.operands.items)) (m ++ opened (objects_of p.structs fn.variables))) (sym there)
      ∙ ap (λ ps. params_stored (address_in o.first (object_sizes p (variables_of p f))) 0 ps (newest count (reverse old.operands.items)) (m ++ opened (objects_of p.structs fn.variables))) (sym are_params)
      ∙ ap (λ vs. params_stored (address_in o.first (object_sizes p (variables_of p f))) 0 params vs (m ++ opened (objects_of p.structs fn.variables))) (sym are_args)
      ∙ ap (λ l. stored_in (m ++ opened l)) (sym laid)

  -- the arguments cannot be stored
  pub begins_none : ((calls : List Opened) (m : Memory) → Holds s calls m → stored_in m ≡ None) → (m : Memory) → IsHeld p old m → call_memory p (config_of old m []) count fn ≡ None
  begins_none none m held = memory-is m held.store ∙ none (o ∷ calls_in old) (m ++ opened (shapes_of shapes)) (opens (calls_in old) m held.store).1

  -- an argument could not be stored, or memory is out
  pub begins_err : (X : Type 0) (last : Store) (new : Machine) (r : Stop) → ((calls : List Opened) (m : Memory) → Holds s calls m → IsStored {X = X} calls (stored_in m) last (Err r)) →
      IsFrame p f count fn old new (Err r)
  begins_err X last new stop.Undefined h = begins_none h
  begins_err X last new stop.NoMemory h = tt
  begins_err X last new stop.Exit h = λ m held. h (o ∷ calls_in old) (m ++ opened (shapes_of shapes)) (opens (calls_in old) m held.store).1
  begins_err X last new stop.Cut h = λ m held. h (o ∷ calls_in old) (m ++ opened (shapes_of shapes)) (opens (calls_in old) m held.store).1
  begins_err X last new stop.ReadFault h = λ m held. h (o ∷ calls_in old) (m ++ opened (shapes_of shapes)) (opens (calls_in old) m held.store).1
  begins_err X last new stop.WriteFault h = λ m held. h (o ∷ calls_in old) (m ++ opened (shapes_of shapes)) (opens (calls_in old) m held.store).1

  pub begins : (active : Active) (last : Store) (ops : Vec Value Global) (spare : Vec CodeSlot Global) → ((calls : List Opened) (m : Memory) → Holds s calls m → IsSomeHeld calls (stored_in m) last) →
      opened_by active ≡ o → active.frame.function ≡ f → active.frame.depth ≡ old.frame.depth - 1 → slots_of active.slots.items ≡ params_in_scope 0 params args →
      ops.items ≡ take (length old.operands.items - count) old.operands.items →
      (m : Memory) → IsHeld p old m → BeginsCall p f count fn old (taken_from old ops last spare) active m
  begins active last ops spare stores is_opened is_function is_depth slots taken m held =
      by (stored_in (m ++ opened (shapes_of shapes))) refl (stores (o ∷ calls_in old) (m ++ opened (shapes_of shapes)) (opens (calls_in old) m held.store).1)
    where
      e : o ≡ record { first = length m; count = length shapes }
      e = (opens (calls_in old) m held.store).0

      by : (q : Option Memory) → stored_in (m ++ opened (shapes_of shapes)) ≡ q → IsSomeHeld (o ∷ calls_in old) q last → BeginsCall p f count fn old (taken_from old ops last spare) active m
      by None is h = absurd h
      by (Some k) is h = record {
        memory = k;
        stored = memory-is m held.store ∙ is;
        held = let P : Opened → Type 0 = λ q. Holds last (q ∷ calls_in old) k in subst P (sym is_opened) h;
        frame = ap (λ a. frame_at a active.frame.objects.first active.frame.depth (slots_of active.slots.items)) is_function
            ∙ ap (λ a. frame_at f a active.frame.depth (slots_of active.slots.items)) (ap (λ q. q.first) is_opened ∙ ap (λ q. q.first) e)
            ∙ ap (λ a. frame_at f (length m) a (slots_of active.slots.items)) is_depth
            ∙ ap (λ l. frame_at f (length m) (old.frame.depth - 1) l)
            (slots ∙ ap (λ ps. params_in_scope 0 ps args) are_params ∙ ap (params_in_scope 0 (params_of fn)) are_args);
        counted = ap (λ q. q.count) is_opened ∙ ap (λ q. q.count) e ∙ sym (length-map shapes shape_of) ∙ ap length laid;
        operands = ap reverse taken ∙ others-are count old.operands.items;
        tasks = refl;
        caller = refl;
        slots = refl;
        callers = refl;
        flow = refl;
      }
