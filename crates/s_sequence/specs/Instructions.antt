-- Single instructions: of an op without regions, and the move to an output.
use Rattle.std.specs.Prelude.{ℕ, List, [], ◌∷◌}
use Rattle.std.specs.declared.option.Option.{Option}
use Rattle.std.specs.declared.option.Option.TheVariants.{Some}
use Rattle.g_graph.specs.declared.op.Kind.{Kind}
use Rattle.g_graph.specs.declared.op.Kind.TheVariants.{Value}
use Rattle.g_graph.specs.declared.op.Op.{Op}
use Rattle.g_graph.specs.declared.op.Op.TheVariants.{Apply}
use Rattle.s_linear.specs.Linear.{move, Instr, undef}
use Rattle.s_linear.specs.Lines.{Line, done}
use Rattle.s_sequence.specs.Sequence.{op_instr}

-- the instruction of an op other than Apply, by the names of its first two inputs
abbrev pub instr_with : Op → (target first second : ℕ) → Instr
instr_with (Apply f) t x y = undef t
instr_with op t x y = op_instr op t (x ∷ y ∷ [])

-- the move to an output from a result, where it is a value
abbrev pub exit_lines : Option Kind → (target source : ℕ) → List Line
exit_lines (Some Value) t s = done (move t s) ∷ []
exit_lines k t s = []
