use Rattle.std.proofs.Common.{◌≡◌, [], ◌∷◌, length, is_some, IfOk, OnOk, Result, Ok, Err, sym, ap, subst, ◌∙◌}
use Rattle.std.specs.Option.{option_map}
use Rattle.c_ast.specs.Declarations.{open_dimensions as dimension_trees}
use Rattle.c_ast.specs.declared.token.Identifier.{Identifier}
use Rattle.c_check.specs.Params.{param_specified}
use Rattle.c_check.proofs.ParamLemmas.{param-of}
use Rattle.c_check.proofs.parameters.param.Goals as goal

if-ok : {A E : Type 0} (r : Result A E) (P Q : A → Type 0) → ((a : A) → P a → Q a) → IfOk r P → IfOk r Q
if-ok (Ok a) P Q f h = f a h
if-ok (Err e) P Q f h = h

pub returns-clause-value : goal.returns-clause-value
returns-clause-value c =
    let x = c.args.x.now in
    let s1 = c.specified_type.new.state in
    let y = c.in_ok-specified.specified in
    let o = option_map (λ (i : Identifier). i.name) x.name in
    let all = param-of x c.args.state.now s1 y c.in_ok-specified.ensures.value c.in_ok-specified.ensures.state in
    let at = ap (λ at. (param_specified at y (is_some x.qualifier) (length x.stars) o (dimension_trees x.dimensions) s1).0) c.offset_of-offset.ensures in
    if-ok c.param_specified.result _ _ (λ r e. ap (λ z. z ∷ []) (e ∙ at) ∙ ap (λ r. r.0) (sym all)) c.param_specified.ensures.value

pub returns-clause-state : goal.returns-clause-state
returns-clause-state c =
    let x = c.args.x.now in
    let s1 = c.specified_type.new.state in
    let y = c.in_ok-specified.specified in
    let o = option_map (λ (i : Identifier). i.name) x.name in
    let all = param-of x c.args.state.now s1 y c.in_ok-specified.ensures.value c.in_ok-specified.ensures.state in
    let at = ap (λ at. (param_specified at y (is_some x.qualifier) (length x.stars) o (dimension_trees x.dimensions) s1).1) c.offset_of-offset.ensures in
    subst (λ z. OnOk c.param_specified.result (c.param_specified.new.state ≡ z)) (at ∙ ap (λ r. r.1) (sym all)) c.param_specified.ensures.state
