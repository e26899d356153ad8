-- The steps that end a task: a value is given, stored, or assigned to a variable.
use Rattle.std.proofs.Common.{Vec, Global, ◌≡◌, ℕ, Bool, true, false, List, [], ◌∷◌, ◌++◌, reverse, refl, sym, ap, ◌∙◌}
use Rattle.std.specs.Prelude.{Option, None, Some, slice_set, unwrap_or, Result, Ok, Err}
use Rattle.std.proofs.lemmas.Bool.{false≢true}
use Rattle.val_core.specs.declared.values.Value.{Value}
use Rattle.val_core.specs.Memory.{Memory, store}
use Rattle.val_core.specs.Answers.{on_defined}
use Rattle.c_type.specs.Trees.{TypeTree}
use Rattle.c_typed.specs.Typed.{ProgramTree}
use Rattle.c_typed.specs.Objects.{access_width}
use Rattle.c_mean.specs.State.{holds}
use Rattle.c_mean.specs.Statements.{normal}
use Rattle.c_interp_store.specs.declared.store.Store.{Store}
use Rattle.c_interp_store.specs.Holding.{Opened, Holds, IsChanged}
use Rattle.c_interp_def.specs.Configurations.{Configuration, reaches, with_operands}
use Rattle.c_interp_def.specs.declared.task.Slot.{Slot}
use Rattle.c_interp_def.specs.declared.task.Flow.TheVariants.{Normal}
use Rattle.c_interp_answer.specs.TaskViews.{slots_of, flow_of}
use Rattle.c_interp.specs.declared.stop.Stop.{Stop}
use Rattle.c_interp.specs.declared.stop.Stop.TheVariants as stop
use Rattle.c_interp.specs.declared.machine.Machine.{Machine}
use Rattle.c_interp.specs.Machines.{config_of, IsHeld}
use Rattle.c_interp.specs.Steps.{IsStep, give_run, store_run, write_run, set_run, with_memory, with_frame_slots}
use Rattle.c_interp.proofs.Steps.{with_ops, with_store, calls_in, newest-one, done_at_once, undefined_step, changed_step, moved}
use Rattle.c_interp.proofs.StmtSteps.{with_slots}

pub given_step : (p : ProgramTree) (n : ℕ) (u : Unit) (old : Machine) (many : Vec Value Global) (v : Value) → old.flow ≡ Normal → many.items ≡ old.operands.items ++ v ∷ [] →
    IsStep p n (Ok u) old (with_ops old many) (give_run (Some v))
given_step p n u old many v flow pushed m held =
    let held' : IsHeld p (with_ops old many) m = record { store = held.store; counts = held.counts } in
    done_at_once p n old (with_ops old many) (λ i. give_run (Some v) (config_of old m i)) m refl held'
    (λ i.
    ap (λ vs. reaches normal (with_operands (config_of old m i) vs)) (sym (newest-one old.operands.items many.items v pushed))
    ∙ ap (λ f. reaches (flow_of f) (config_of (with_ops old many) m i)) (sym flow))

-- what a store of the code says: where it is defined, and where it is not
pub stored_memory : (old : Machine) (s : Store) (width : ℕ) (t : TypeTree) (at v : Value) (d : Bool) → width ≡ access_width t →
    ((calls : List Opened) (m : Memory) → Holds old.store calls m → IsChanged calls (store width at v m) s d) → d ≡ true → (m : Memory) → Holds old.store (calls_in old) m →
    (k : Memory) × (store (access_width t) at v m ≡ Some k) × Holds s (calls_in old) k
stored_memory old s width t at v d is changes done m it = by (store width at v m) refl (changes (calls_in old) m it)
  where
    by : (o : Option Memory) → store width at v m ≡ o → IsChanged (calls_in old) o s d → (k : Memory) × (store (access_width t) at v m ≡ Some k) × Holds s (calls_in old) k
    by None e h = absurd (false≢true (sym h ∙ done))
    by (Some k) e h = (k, ap (λ w. store w at v m) (sym is) ∙ e, h.1)

pub not_stored_memory : (old : Machine) (s : Store) (width : ℕ) (t : TypeTree) (at v : Value) (d : Bool) → width ≡ access_width t →
    ((calls : List Opened) (m : Memory) → Holds old.store calls m → IsChanged calls (store width at v m) s d) → d ≡ false → (m : Memory) → Holds old.store (calls_in old) m →
    store (access_width t) at v m ≡ None
not_stored_memory old s width t at v d is changes done m it = by (store width at v m) refl (changes (calls_in old) m it)
  where
    by : (o : Option Memory) → store width at v m ≡ o → IsChanged (calls_in old) o s d → store (access_width t) at v m ≡ None
    by None e h = ap (λ w. store w at v m) (sym is) ∙ e
    by (Some k) e h = absurd (false≢true (sym done ∙ h.0))

module _ (p : ProgramTree) (n : ℕ) (old : Machine) (s : Store) (width : ℕ) (t : TypeTree) (at v : Value) (d : Bool) (is : width ≡ access_width t) (changes : (calls : List Opened) (m : Memory) → Holds old.store calls m → IsChanged calls (store width at v m) s d) where
  pub stored_step : (u : Unit) → old.flow ≡ Normal → d ≡ true → IsStep p n (Ok u) old (with_store old s) (store_run t at (Some v))
  stored_step u flow done =
      changed_step p n u old s (store_run t at (Some v)) flow
      (λ m held.
      let (k, is_stored, it) = stored_memory old s width t at v d is changes done m held.store in
      (k, it, λ i. ap (λ o. on_defined o (λ q. reaches normal (with_memory (config_of old m i) q))) is_stored))

  pub not_stored_step : (new : Machine) → d ≡ false → IsStep p n (Err stop.Undefined) old new (store_run t at (Some v))
  not_stored_step new done =
      undefined_step p n old new (store_run t at (Some v))
      (λ m i held. ap (λ o. on_defined o (λ q. reaches normal (with_memory (config_of old m i) q))) (not_stored_memory old s width t at v d is changes done m held.store))

  -- the store is done, and the operand is given
  pub written_step : (r : Result Unit Stop) (new : Machine) (given : Option Value) (g : Value) → d ≡ true → g ≡ unwrap_or given v →
      IsStep p n r (with_store old s) new (give_run (Some g)) → IsStep p n r old new (write_run t at (Some v) given)
  written_step r new given g done given_is step =
      moved p n r old (with_store old s) new (write_run t at (Some v) given) (give_run (Some g)) refl
      (λ m held.
      let (k, is_stored, it) = stored_memory old s width t at v d is changes done m held.store in (
        k,
        record { store = it; counts = held.counts },
        λ i.
            let x : Configuration = config_of old m i in
            ap (λ o. on_defined o (λ q. reaches normal (with_operands (with_memory x q) (unwrap_or given v ∷ x.operands)))) is_stored
            ∙ ap (λ z. reaches normal (with_operands (with_memory x k) (z ∷ x.operands))) (sym given_is),
      ))
      step

  pub not_written_step : (new : Machine) (given : Option Value) → d ≡ false → IsStep p n (Err stop.Undefined) old new (write_run t at (Some v) given)
  not_written_step new given done =
      undefined_step p n old new (write_run t at (Some v) given)
      (λ m i held.
      ap (λ o. on_defined o (λ q. reaches normal (with_operands (with_memory (config_of old m i) q) (unwrap_or given v ∷ reverse old.operands.items))))
      (not_stored_memory old s width t at v d is changes done m held.store))

-- a variable takes a value
pub assigned_step : (p : ProgramTree) (n : ℕ) (u : Unit) (old : Machine) (slots : Vec Slot Global) (many : Vec Value Global) (k : ℕ) (v : Value) (given : Option Value) → old.flow ≡ Normal →
    slots_of slots.items ≡ slice_set (slots_of old.slots.items) k (holds v) → many.items ≡ old.operands.items ++ unwrap_or given v ∷ [] →
    IsStep p n (Ok u) old (with_ops (with_slots old slots) many) (set_run k (Some v) given)
assigned_step p n u old slots many k v given flow assigned pushed m held =
    let new : Machine = with_ops (with_slots old slots) many in
    let held' : IsHeld p new m = record { store = held.store; counts = held.counts } in
    done_at_once p n old new (λ i. set_run k (Some v) given (config_of old m i)) m refl held'
    (λ i.
    let x : Configuration = config_of old m i in
    ap (λ q. reaches normal (with_operands (with_frame_slots x q) (unwrap_or given v ∷ x.operands))) (sym assigned)
    ∙ ap (λ vs. reaches normal (with_operands (with_frame_slots x (slots_of slots.items)) vs)) (sym (newest-one old.operands.items many.items (unwrap_or given v) pushed))
    ∙ ap (λ f. reaches (flow_of f) (config_of new m i)) (sym flow))
