-- What holds of the items of all lines.
use Rattle.std.specs.Prelude.{ℕ, ◌≤◌, IsTrue, List}
use Rattle.g_graph.specs.Plain.{PlainObject}
use Rattle.g_graph.specs.WellFormed.{all_of}
use Rattle.s_linear.specs.Frame.{PlainPlaces}
use Rattle.s_linear.specs.Linear.{LinearFunction}
use Rattle.s_linear.specs.Lines.{Line, does, lines}
use Rattle.s_linear.specs.Operands.{has_its_callee, has_its_global}
use Rattle.rv_layout.specs.Conditions.{item_fits, labels_are_marked}
use Rattle.s_select.specs.Templates.{items_of}

-- Each label that is jumped to is marked once.
abbrev pub SelectedLabelsAreMarked : Type 0
SelectedLabelsAreMarked = (f : LinearFunction) (p : PlainPlaces) (os : List PlainObject) → IsTrue (labels_are_marked (items_of p os (lines f)))

-- The items of lines ask no more than the lines do: their functions and globals are there, their stubs are one of the two,
-- and their registers are below 32, where at most four places are registers that a call loses.
abbrev pub SelectedItemsFit : Type 0
SelectedItemsFit =
    (functions globals : ℕ) (p : PlainPlaces) (os : List PlainObject) (ls : List Line) → p.temporaries ≤ 4
    → IsTrue (all_of (does (has_its_callee functions)) ls) → IsTrue (all_of (does (has_its_global globals)) ls)
    → IsTrue (all_of (item_fits functions globals) (items_of p os ls))
