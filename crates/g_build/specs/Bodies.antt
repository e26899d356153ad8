-- Bodies from a point on, and the value of a `return`.
use Rattle.std.specs.Prelude.{Bool}
use Rattle.c_typed.specs.Typed.{FunctionTree, StmtTree, return_value}
use Rattle.c_typed.specs.WellTyped.{params_of}
use Rattle.g_graph.specs.declared.op.Origin.{Origin}
use Rattle.g_build_def.specs.Writer.{Point, Built, bind, given}
use Rattle.g_build_def.specs.Statements.{items_made}
use Rattle.g_build_def.specs.Functions.{jumps_begun, params_stored, straight_made}
use Rattle.g_build_def.specs.Operations.{undef_made}
use Rattle.g_build_def.specs.Expressions.{expr_made}

abbrev pub jumping_from : (is_main : Bool) → FunctionTree → Point → Built Origin
jumping_from is_main f p =
    bind (jumps_begun is_main p) (λ _ s.
    bind (params_stored 0 0 (params_of f) s) (λ _ t. bind (items_made f.variables f.body t) (λ _ u. given u.carried.ret u)))

abbrev pub straight_from : (is_main : Bool) → FunctionTree → Point → Built Origin
straight_from is_main f p = bind (params_stored 0 0 (params_of f) p) (λ _ s. straight_made is_main f.variables f.body s)

-- the value of a `return`
abbrev pub returned_made : StmtTree → Point → Built Origin
returned_made (return_value e) s = expr_made e s
returned_made a s = undef_made s
