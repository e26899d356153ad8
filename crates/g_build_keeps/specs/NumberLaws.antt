-- Laws of the numbers that construction gives to nodes.
use Rattle.std.specs.Prelude.{◌≡◌, ◌≤◌, ℕ, length, Some, slice_get}
use Rattle.c_typed.specs.Typed.{ProgramTree}
use Rattle.g_graph.specs.Plain.{PlainLambda}
use Rattle.g_graph.specs.Ids.{region_ids}
use Rattle.g_graph.specs.Program.{lambda_values}
use Rattle.g_build_def.specs.Functions.{graph}

-- As many numbers are taken in a lambda as it has nodes, from 0 on.
abbrev pub NumbersCountNodes : Type 0
NumbersCountNodes = (p : ProgramTree) (f : ℕ) (l : PlainLambda) → slice_get (graph p) f ≡ Some l → l.next ≡ length (region_ids l.body)

-- So they are no more than its values.
abbrev pub NumbersAreFew : Type 0
NumbersAreFew = (p : ProgramTree) (f : ℕ) (l : PlainLambda) → slice_get (graph p) f ≡ Some l → l.next ≤ lambda_values l
