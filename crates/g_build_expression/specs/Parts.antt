-- Parts of expressions.
use Rattle.std.specs.Prelude.{if◌then◌else◌}
use Rattle.c_type.specs.Trees.{TypeTree, void_type}
use Rattle.c_typed.specs.declared.operator.CompoundOp.{CompoundOp}
use Rattle.c_typed.specs.declared.operator.IncDec.{IncDec}
use Rattle.g_graph.specs.declared.op.Origin.{Origin}
use Rattle.g_build_def.specs.Writer.{Point, Built, given, bind}
use Rattle.g_build_def.specs.Operations.{converted_made}
use Rattle.g_build_def.specs.Places.{Spot, spot_read, spot_written}
use Rattle.g_build_def.specs.Expressions.{compound_made, stepped_made}

-- the value of a `?:` of this type, whose Gamma has this output
abbrev pub chosen_value : TypeTree → (predicate output : Origin) → Origin
chosen_value void_type p o = p
chosen_value t p o = o

-- a compound assignment, after its operand
abbrev pub compound_end : CompoundOp → TypeTree → Spot → (old operand : Origin) → Point → Built Origin
compound_end o t x old y s = bind (compound_made o old y s) (λ new z. bind (converted_made t new z) (spot_written t x))

-- `++` and `--` on a place
abbrev pub step_end : IncDec → TypeTree → Spot → Point → Built Origin
step_end i t x u =
    bind (spot_read t x u) (λ old v.
    bind (stepped_made i old v) (λ new w.
    bind (converted_made t new w) (λ c z.
    bind (spot_written t x c z) (λ _ y. given (if i.gives_old then old else c) y))))
