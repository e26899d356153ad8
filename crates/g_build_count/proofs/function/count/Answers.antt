use Rattle.std.proofs.Common.{◌≡◌, ◌+◌, Bool, [], ap, ◌∙◌, arith}
use Rattle.std.specs.Prelude.{if◌then◌else◌}
use Rattle.c_typed.specs.WellTyped.{params_of}
use Rattle.c_typed.specs.StmtViews.{items_of}
use Rattle.g_graph.specs.Count.{saturated}
use Rattle.g_build_def.specs.Exits.{body_jumps}
use Rattle.g_build_def.specs.Functions.{function_values}
use Rattle.g_build_count.specs.Values.{entered_values}
use Rattle.g_build_count.proofs.Entered.{count_is}
use Rattle.g_build_count.proofs.function.count.Goals as goal

pub returns : goal.returns
returns c =
    let f = c.args.f.now in
    let all = count_is f in
    let jumps : c.body_jumps-jumps.result ≡ body_jumps f.body =
    c.body_jumps-jumps.ensures ∙ ap (λ xs. body_jumps (items_of xs)) c.deref.ensures.value ∙ ap (λ g. body_jumps g.body) c.f.view_is in
    let carried : c.states_carried.result ≡ (if body_jumps f.body then 4 else 2) = c.states_carried.ensures ∙ ap (λ (b : Bool). if b then 4 else 2) jumps in
    let rest : c.entered_values-rest.result ≡ saturated (entered_values f (body_jumps f.body) (params_of f) (if body_jumps f.body then 4 else 2) []) =
    c.entered_values-rest.ensures
    ∙ ap (λ j. saturated (entered_values f j c.params_of.result.now c.states_carried.result c.outermost-scope.result.objects)) jumps
    ∙ ap (λ ps. saturated (entered_values f (body_jumps f.body) ps c.states_carried.result c.outermost-scope.result.objects)) c.params_of.ensures
    ∙ ap (λ n. saturated (entered_values f (body_jumps f.body) (params_of f) n c.outermost-scope.result.objects)) carried
    ∙ ap (λ os. saturated (entered_values f (body_jumps f.body) (params_of f) (if body_jumps f.body then 4 else 2) os)) c.outermost-scope.ensures in
    let same : saturated (6 + f.params + entered_values f (body_jumps f.body) (params_of f) (if body_jumps f.body then 4 else 2) []) ≡ saturated (function_values f) = ap saturated all in
    let params : c.f.inside.params ≡ f.params = ap (λ g. g.params) c.f.view_is in
    let sum : c.saturating_add.result ≡ saturated (6 + f.params + entered_values f (body_jumps f.body) (params_of f) (if body_jumps f.body then 4 else 2) []) =
    omega (arith, params, rest, c.from.ensures, c.saturating_add.ensures) in
    sum ∙ same
