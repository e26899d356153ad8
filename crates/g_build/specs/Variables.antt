-- The variables of a function: the numbers of its objects, and the newest that leave the scope.
use Rattle.std.specs.Prelude.{ℕ, zero, suc, if◌then◌else◌, List, [], ◌∷◌}
use Rattle.std.specs.Coded.{Coded, coded_list}
use Rattle.c_typed.specs.Typed.{VariableTree}
use Rattle.c_typed.specs.ProgramEncoding.{coded_variable}
use Rattle.g_build_def.specs.Writer.{popped}
use Rattle.g_build_expression.specs.Work.{Work, moved_to}

abbrev pub coded_variables : Coded (List VariableTree)
coded_variables = coded_list coded_variable

-- for each variable how many objects stand before it, where so many stand before the first
abbrev pub object_numbers : ℕ → List VariableTree → List ℕ
object_numbers n [] = []
object_numbers n (v ∷ vs) = n ∷ object_numbers (if v.is_object then suc n else n) vs

-- so many of the newest variables leave the scope
abbrev pub pops : ℕ → Work → Work
pops zero w = w
pops (suc n) w = pops n (moved_to w (popped w.point))
