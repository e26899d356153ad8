-- Laws of depths.
use Rattle.std.specs.Prelude.{◌≡◌, ℕ, ◌≤◌, List, Option, Some}
use Rattle.g_graph.specs.Plain.{PlainLambda, PlainOmega}
use Rattle.g_graph.specs.Program.{name_index, main_name}
use Rattle.g_mean.specs.Calls.{deepest_main}
use Rattle.cc_view.specs.Depths.{depth_at, IsDepth}

-- Where `main` has a depth, no run of the program has a stack of more bytes, whatever it reads and however long it runs.
abbrev pub StacksAreBounded : Type 0
StacksAreBounded =
    (ls : List PlainLambda) (sizes : List ℕ) (depths : List (Option ℕ)) → IsDepth ls sizes depths →
    (omega : PlainOmega) (main d : ℕ) → name_index main_name omega.names ≡ Some main → depth_at depths main ≡ Some d →
    (n : ℕ) (i : List ℕ) → deepest_main n omega ls sizes i ≤ d
