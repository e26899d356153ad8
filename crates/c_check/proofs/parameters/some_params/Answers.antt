use Rattle.std.proofs.Common.{◌++◌, ◌∷◌, [], true, false, sym, ap, ◌∙◌}
use Rattle.c_ast.specs.Expressions.{next}
use Rattle.c_ast.specs.Externals.{param as param_tree}
use Rattle.c_ast.specs.Nodes.{many}
use Rattle.c_ast.specs.Productions as l
use Rattle.c_check_def.specs.Externals.{param, more_params}
use Rattle.c_check.proofs.LoneLemmas.{lone-test, lone-params, each-params}
use Rattle.c_check.proofs.parameters.some_params.Goals as goal

pub returns-then-are_none-clause-value : goal.returns-then-are_none-clause-value
returns-then-are_none-clause-value c =
    let x = c.args.x.now in
    c.new-all.ensures.items ∙ ap (λ r. r.0) (sym (lone-params x c.args.state.now (lone-test x true c.if-are_none.ensures)))

pub returns-then-are_none-clause-state : goal.returns-then-are_none-clause-state
returns-then-are_none-clause-state c =
    let x = c.args.x.now in ap (λ r. r.1) (sym (lone-params x c.args.state.now (lone-test x true c.if-are_none.ensures)))

pub returns-clause-value : goal.returns-clause-value
returns-clause-value c =
    let x = c.args.x.now in
    let s = c.args.state.now in
    let s1 = c.param.new.state in
    let p = param (param_tree x.first) s in
    let first = c.in_ok-push.ensures.items ∙ ap (λ ys. ys ++ c.in_ok-first.first ∷ []) c.new-all.ensures.items ∙ c.in_ok-first.ensures.value in
    c.in_ok-more_params.ensures.params
    ∙ ap (λ ys. ys ++ (more_params (many l.MoreParams (next param_tree) c.as_slice.result.now) s1).0) first
    ∙ ap (λ z. p.0 ++ (more_params (many l.MoreParams (next param_tree) z) s1).0) c.as_slice.ensures
    ∙ ap (λ t. p.0 ++ (more_params (many l.MoreParams (next param_tree) x.more) t).0) c.in_ok-first.ensures.state
    ∙ ap (λ r. r.0) (sym (each-params x s (lone-test x false c.if-are_none.ensures)))

pub returns-clause-state : goal.returns-clause-state
returns-clause-state c =
    let x = c.args.x.now in
    let s = c.args.state.now in
    let s1 = c.param.new.state in
    c.in_ok-more_params.ensures.state
    ∙ ap (λ z. (more_params (many l.MoreParams (next param_tree) z) s1).1) c.as_slice.ensures
    ∙ ap (λ t. (more_params (many l.MoreParams (next param_tree) x.more) t).1) c.in_ok-first.ensures.state
    ∙ ap (λ r. r.1) (sym (each-params x s (lone-test x false c.if-are_none.ensures)))
