-- What holds of the linear code of a lambda.
use Rattle.std.specs.Prelude.{◌≡◌, ◌<◌, ℕ, ◌-◌, Bool, true, IsTrue, length}
use Rattle.g_graph.specs.declared.op.Op.{Op}
use Rattle.g_graph.specs.declared.op.Op.TheVariants.{Apply}
use Rattle.g_graph.specs.declared.op.Origin.TheVariants.{Arg}
use Rattle.g_graph.specs.Plain.{args_of, PlainLambda}
use Rattle.g_graph.specs.Count.{region_values}
use Rattle.g_graph.specs.Lists.{RegionOps, NamesGlobal}
use Rattle.g_graph.specs.WellFormed.{all_of, IsWellFormed}
use Rattle.s_linear.specs.Linear.{Instr, call}
use Rattle.s_linear.specs.Lines.{does, names_below, lines}
use Rattle.s_linear.specs.Operands.{has_its_object, has_its_global, has_its_width}
use Rattle.s_sequence.specs.Sequence.{value_args, no_names, name_of, sequenced}

-- a call's function and number of arguments pass
abbrev pub calls_with : (ℕ → ℕ → Bool) → Instr → Bool
calls_with test (call f t arguments) = test f (length arguments)
calls_with test _ = true

-- an Apply's function and number of inputs without its states pass
abbrev pub Applies : (ℕ → ℕ → Bool) → Op → (count : ℕ) → Type 0
Applies test (Apply f) count = test f (count - 2) ≡ true
Applies test op count = Unit {0}

-- Each name is below the number of the lambda's values.
abbrev pub NamesAreBelow : Type 0
NamesAreBelow = (l : PlainLambda) → IsWellFormed l → IsTrue (all_of (names_below (region_values l.body)) (lines (sequenced l)))

-- Each width is 1, 2 or 4.
abbrev pub WidthsFit : Type 0
WidthsFit = (l : PlainLambda) → IsWellFormed l → IsTrue (all_of (does has_its_width) (lines (sequenced l)))

-- Each object that is named is one of the lambda's.
abbrev pub ObjectsAreThere : Type 0
ObjectsAreThere = (l : PlainLambda) → IsWellFormed l → IsTrue (all_of (does (has_its_object (length l.objects))) (lines (sequenced l)))

-- Each global that is named is one of so many, where those of the lambda's nodes are.
abbrev pub GlobalsAreThere : Type 0
GlobalsAreThere =
    (globals : ℕ) (l : PlainLambda) → RegionOps (NamesGlobal globals) l.body → IsTrue (all_of (does (has_its_global globals)) (lines (sequenced l)))

-- A call has two arguments fewer than its Apply has inputs: what holds of each Apply's holds of each call's.
abbrev pub CallsKeepArguments : Type 0
CallsKeepArguments =
    (test : ℕ → ℕ → Bool) (l : PlainLambda) → RegionOps (Applies test) l.body →
    IsTrue (all_of (does (calls_with test)) (lines (sequenced l)))

-- In the body of a well-formed lambda the parameters have the first names, in order, and the names of nodes come after them.
abbrev pub ParamsAreFirst : Type 0
ParamsAreFirst =
    (l : PlainLambda) → IsWellFormed l →
    ((k : ℕ) → k < l.params → name_of (args_of l.body) 0 no_names (Arg k) ≡ k) × (value_args (args_of l.body) ≡ l.params)
