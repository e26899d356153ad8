use Rattle.std.proofs.Common.{◌≡◌, [], ◌∷◌, ◌++◌, ap, sym, subst, ◌∙◌, ◌<◌, ◌^◌}
use Rattle.std.proofs.lemmas.Result.{on_ok_weaker}
use Rattle.g_graph.specs.Plain.{PlainLambda}
use Rattle.g_graph.specs.Count.{region_values}
use Rattle.s_linear.specs.Lines.{enter, leave, code_lines}
use Rattle.val_core.specs.Numbers.{numbers_from}
use Rattle.s_sequence.specs.Sequence.{body_code, value_name}
use Rattle.s_sequence.specs.Scope.{port_in}
use Rattle.s_sequence.specs.Shape.{RegionShaped}
use Rattle.s_sequence.specs.Writer.{with_lines}
use Rattle.s_sequence.proofs.ShapeLemmas.{body_shaped, body_room, body_written}
use Rattle.s_sequence.proofs.sequencing.write_lambda.Goals as goal

pub write_nodes-requires-clause-shaped : goal.write_nodes-requires-clause-shaped
write_nodes-requires-clause-shaped c = subst RegionShaped (sym (ap (λ (l : PlainLambda). l.body) c.lambda.view_is)) (body_shaped c.args.lambda.now c.requires.well_formed)

pub write_nodes-requires-clause-room : goal.write_nodes-requires-clause-room
write_nodes-requires-clause-room c =
    let body : c.lambda.inside.body ≡ c.args.lambda.now.body = ap (λ (l : PlainLambda). l.body) c.lambda.view_is in
    body_room c.lambda.inside.body c.push.new.self (enter c.in_ok-params.params.items ∷ [])
    (subst RegionShaped (sym body) (body_shaped c.args.lambda.now c.requires.well_formed))
    (subst (λ r. region_values r < 2 ^ 32) (sym body) c.requires.few)
    (c.in_ok-push.ensures ∙ ap (λ w. with_lines w (enter c.in_ok-params.params.items ∷ [])) c.requires.first)

pub returns : goal.returns
returns c =
    let body : c.lambda.inside.body ≡ c.args.lambda.now.body = ap (λ (l : PlainLambda). l.body) c.lambda.view_is in
    let items = c.in_ok-params.params.items in
    let params : items ≡ numbers_from 0 c.args.lambda.now.params = c.in_ok-params.ensures ∙ ap (λ (l : PlainLambda). numbers_from 0 l.params) c.lambda.view_is in
    let begins = c.in_ok-push.ensures ∙ ap (λ w. with_lines w (enter items ∷ [])) c.requires.first in
    on_ok_weaker c.push-2.result
    (λ h. body_written c.lambda.inside.body c.as_ref-scope.result.now c.value_of-value.result c.push.new.self c.write_nodes.new.w c.push-2.new.self
    (enter items ∷ []) begins c.in_ok-boxed.ensures.lines
    (λ o. ap (λ s. port_in s o) c.as_ref-scope.ensures ∙ c.in_ok-boxed.ensures.scope o) c.value_of-value.ensures h
    ∙ ap (λ r. enter items ∷ (code_lines 0 (body_code r) ++ leave (value_name r) ∷ [])) body
    ∙ ap (λ xs. enter xs ∷ (code_lines 0 (body_code c.args.lambda.now.body) ++ leave (value_name c.args.lambda.now.body) ∷ [])) params) c.push-2.ensures
