-- Several changes of one node of a list of nodes, one after the other: variables go from the last to the first, so that
-- those before them keep their places.
use Rattle.std.specs.Prelude.{ℕ, zero, suc, Bool, if◌then◌else◌, List, [], ◌∷◌}
use Rattle.std.specs.declared.option.Option.{Option}
use Rattle.std.specs.declared.option.Option.TheVariants.{Some, None}
use Rattle.g_graph.specs.declared.op.Origin.{Origin}
use Rattle.g_graph.specs.declared.op.Origin.TheVariants.{Out}
use Rattle.g_arena_def.specs.declared.place.Place.{Place}
use Rattle.g_arena_def.specs.Flat.{Flat, place_in}
use Rattle.g_arena_def.specs.Reads.{uses_in}
use Rattle.g_arena_def.specs.Edits.{use_changed, input_removed, output_removed, argument_removed, result_removed}

-- a step at each place whose test is false, from the last to the first, where places are counted from a first one
abbrev pub from_last : {A : Type 0} → (step : ℕ → A → A) → (first : ℕ) → (stays : List Bool) → A → A
from_last step k [] a = a
from_last step k (t ∷ ts) a = if t then from_last step (suc k) ts a else step k (from_last step (suc k) ts a)

-- a step at each of so many places, from the first to the last
abbrev pub each_of : {A : Type 0} → (step : ℕ → A → A) → (count : ℕ) → A → A
each_of step zero a = a
each_of step (suc c) a = step c (each_of step c a)

-- An exit variable of a node of so many regions goes: its output, and its result in each region.
abbrev pub exit_removed : (n count : ℕ) → (port : ℕ) → Flat → Flat
exit_removed n c k a = each_of (λ j. result_removed (place_in n j) k) c (output_removed n k a)

abbrev pub exits_removed : (n count : ℕ) → (stays : List Bool) → Flat → Flat
exits_removed n c stays a = from_last (exit_removed n c) 0 stays a

-- An entry variable goes: its argument in each region, and its input, which stands behind the predicate.
abbrev pub entry_removed : (n count : ℕ) → (index : ℕ) → Flat → Flat
entry_removed n c k a = input_removed n (suc k) (each_of (λ j. argument_removed (place_in n j) k) c a)

abbrev pub entries_removed : (n count : ℕ) → (stays : List Bool) → Flat → Flat
entries_removed n c stays a = from_last (entry_removed n c) 0 stays a

-- A loop variable goes: its output, its result, which stands behind the predicate, its argument and its input.
abbrev pub variable_removed : (n : ℕ) → (index : ℕ) → Flat → Flat
variable_removed n k a =
    input_removed n k (argument_removed (place_in n 0) k (result_removed (place_in n 0) (suc k) (output_removed n k a)))

abbrev pub variables_removed : (n : ℕ) → (stays : List Bool) → Flat → Flat
variables_removed n stays a = from_last (variable_removed n) 0 stays a

-- so many uses of an origin move, one after the other, and all of them
abbrev pub uses_changed : Place → (from to : Origin) → (count : ℕ) → Flat → Flat
uses_changed p from to zero a = a
uses_changed p from to (suc c) a = use_changed p from to (uses_changed p from to c a)

abbrev pub uses_moved : Place → (from to : Origin) → Flat → Flat
uses_moved p from to a = uses_changed p from to (uses_in p from a) a

-- Uses of outputs of node n move to what these carry, from the last to the first, counted from a first one; and an exit
-- variable that carries an origin goes, once its uses have moved.
abbrev pub uses_carried : (n : ℕ) → Place → (first : ℕ) → (carried : List (Option Origin)) → Flat → Flat
uses_carried n p k [] a = a
uses_carried n p k (None ∷ cs) a = uses_carried n p (suc k) cs a
uses_carried n p k (Some o ∷ cs) a = uses_moved p (Out n k) o (uses_carried n p (suc k) cs a)

abbrev pub exits_carried : (n count : ℕ) → Place → (first : ℕ) → (carried : List (Option Origin)) → Flat → Flat
exits_carried n c p k [] a = a
exits_carried n c p k (None ∷ cs) a = exits_carried n c p (suc k) cs a
exits_carried n c p k (Some o ∷ cs) a = exit_removed n c k (uses_moved p (Out n k) o (exits_carried n c p (suc k) cs a))
