use Rattle.std.proofs.Common.{◌≡◌, OnOk, subst}
use Rattle.c_ast.specs.Externals.{body_tree}
use Rattle.c_check.proofs.FunctionLemmas.{ended-declared}
use Rattle.c_check.proofs.functions.function_declared.Goals as goal

pub returns : goal.returns
returns c =
    let name = c.args.name.now in
    let is =
    ended-declared name.name name.span.at c.args.starts c.args.t c.args.ps.items c.as_slice.result.now (body_tree c.args.body.now) c.is_block.result c.args.state.now c.declare_function.new.state
    c.is_block.ensures c.as_slice.ensures.value c.in_ok-declare_function.ensures in
    subst (λ z. OnOk c.function_ended.result (c.function_ended.new.state ≡ z.1)) is c.function_ended.ensures
