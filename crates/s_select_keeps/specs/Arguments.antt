-- What the instructions do that load the arguments of a call, and put them into the places of parameters.
use Rattle.std.specs.Prelude.{◌≡◌, ℕ, ◌+◌, ◌^◌, ◌<◌, ◌≤◌, IsTrue, List, map, length, slice_index}
use Rattle.val_core.specs.declared.values.Value.{Value}
use Rattle.g_graph.specs.WellFormed.{all_of}
use Rattle.rv_isa.specs.Registers.{a0}
use Rattle.rv_machine.specs.Machine as machine
use Rattle.rv_machine.specs.Standing.{Text, CodeStands}
use Rattle.s_linear.specs.Frame.{PlainPlaces}
use Rattle.s_linear.specs.Meaning as linear
use Rattle.s_linear.specs.Meaning.{first_names}
use Rattle.a_place.specs.Placed.{put_params}
use Rattle.s_select.specs.Conditions.{has_place}
use Rattle.s_select.specs.Templates as select
use Rattle.s_select.specs.Templates.{get_arguments}
use Rattle.s_select_keeps.specs.Relation.{Shows, Frame, Represents}
use Rattle.s_select_keeps.specs.Rows.{InBody}
use Rattle.s_select_keeps.specs.Steps.{Steps, Arrives}
use Rattle.s_select_keeps.specs.Table.{place_at, HasPlaces}

-- Up to address b the values of these names are in the registers from one on. The machine goes on standing for the state.
pub record Loaded (text : Text) (f : Frame) (p : PlainPlaces) (b register : ℕ) (names : List ℕ) (q : linear.State) (s : machine.State) : Type 0 where
  pub state : machine.State
  pub steps : Steps text.flags s state
  pub pc : state.pc ≡ b
  pub shows : Represents text f q state
  pub values : (k : ℕ) → k < length names → Shows f.bases (q.names (place_at p (slice_index names k))) (state.regs (register + k))

abbrev pub ArgumentsAreLoaded : Type 0
ArgumentsAreLoaded =
    InBody (λ text f q s. (p : PlainPlaces) (names : List ℕ) (b : ℕ) → HasPlaces f p → IsTrue (all_of (has_place p) names) → length names ≤ 8
    → CodeStands text s.pc (get_arguments p a0 names) b → b < 2 ^ 32 → Loaded text f p b a0 names q s)

-- The values in the argument registers are put into the places of parameters, one after the other.
abbrev pub ParamsArePut : Type 0
ParamsArePut =
    InBody (λ text f q s. (p : PlainPlaces) (names : List ℕ) (vs : List Value) (b : ℕ) → HasPlaces f p → IsTrue (all_of (has_place p) names) → length names ≤ 8
    → ((k : ℕ) → k < length names → Shows f.bases (first_names vs k) (s.regs (a0 + k))) → CodeStands text s.pc (select.put_params p a0 names) b → b < 2 ^ 32
    → Arrives text f b (record { names = put_params (map (place_at p) names) 0 vs q.names; memory = q.memory; input = q.input }) s)
