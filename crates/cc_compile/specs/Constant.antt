-- The program that returns a constant, and its image.
use Rattle.std.specs.Prelude.{ℕ, List, [], ◌∷◌, codes}
use Rattle.c_type.specs.Trees.{scalar_type}
use Rattle.c_type.specs.declared.scalar.Scalar.TheVariants.{Int}
use Rattle.c_typed.specs.Typed.{FunctionTree, ProgramTree, expr, constant, return_value, stmt_then, no_items}
use Rattle.g_build_def.specs.Functions.{graph, omega}
use Rattle.s_linear.specs.declared.frame.CodeForm.TheVariants.{Plain}
use Rattle.cc_emit.specs.Image.{file_of_program}

-- `int main(void) { return N; }`, N being an `int`, with the name and the definition at these offsets
abbrev pub constant_function : (at starts ends n : ℕ) → FunctionTree
constant_function at starts ends n = record {
  name = codes "main";
  at = at;
  starts = starts;
  ends = ends;
  result = scalar_type Int;
  params = 0;
  variables = [];
  body = stmt_then (return_value (expr (scalar_type Int) (constant n))) no_items;
}

abbrev pub constant_program : (at starts ends n : ℕ) → ProgramTree
constant_program at starts ends n =
    record { structs = []; functions = constant_function at starts ends n ∷ []; globals = []; main = 0 }

-- its plain image, wherever it stands in the source
abbrev pub image_of_constant : (at starts ends n : ℕ) → List ℕ
image_of_constant at starts ends n = file_of_program Plain (omega (constant_program at starts ends n)) (graph (constant_program at starts ends n))
