use Rattle.std.proofs.Common.{length, map, sym, ap, subst, ◌∙◌, arith}
use Rattle.std.specs.Arc.{arc_value}
use Rattle.std.proofs.lemmas.List.{length-map}
use Rattle.std.proofs.lemmas.Result.{on_ok_weaker}
use Rattle.g_pass_order.specs.Calls.{CallsAreKnown}
use Rattle.s_linear.specs.declared.frame.CodeForm.TheVariants.{Plain}
use Rattle.cc_emit.specs.Image.{frame_of, lambdas_of}
use Rattle.cc_emit.proofs.lemmas.FunctionFits.{main_there}
use Rattle.cc_view_source.specs.declared.making.Made.{Made}
use Rattle.cc_view.proofs.StackLines.{is_stack_of}
use Rattle.cc_view.proofs.accepted.push_stack.Goals as goal

pub depths-requires-clause-few : goal.depths-requires-clause-few
depths-requires-clause-few c =
    let same = c.deref-2.ensures.value ∙ (c.in_ok-lambdas.ensures ∙ ap (λ xs. lambdas_of (map arc_value xs)) c.deref.ensures.value) in
    omega (arith, ap length same, c.requires.emit.limits.functions)

pub depths-requires-clause-known : goal.depths-requires-clause-known
depths-requires-clause-known c =
    let ls = lambdas_of (map arc_value c.args.made.now.answers.items) in
    let same = c.deref-2.ensures.value ∙ (c.in_ok-lambdas.ensures ∙ ap (λ xs. lambdas_of (map arc_value xs)) c.deref.ensures.value) in
    subst CallsAreKnown (sym same) (c.complete_lists_know_calls.ensures ls c.requires.emit.program.complete)

pub depths-requires-clause-framed : goal.depths-requires-clause-framed
depths-requires-clause-framed c =
    let ls = lambdas_of (map arc_value c.args.made.now.answers.items) in
    let same = c.deref-2.ensures.value ∙ (c.in_ok-lambdas.ensures ∙ ap (λ xs. lambdas_of (map arc_value xs)) c.deref.ensures.value) in
    ap length c.requires.framed ∙ (length-map ls (frame_of Plain) ∙ ap length (sym same))

pub main_of-main-requires : goal.main_of-main-requires
main_of-main-requires c =
    let ls = lambdas_of (map arc_value c.args.made.now.answers.items) in
    omega (arith, main_there c.args.made.now.omega ls c.requires.emit, c.requires.emit.limits.functions)

pub push_stack_of-requires-clause-few : goal.push_stack_of-requires-clause-few
push_stack_of-requires-clause-few c =
    let same = c.deref-4.ensures.value ∙ (c.in_ok-lambdas.ensures ∙ ap (λ xs. lambdas_of (map arc_value xs)) c.deref.ensures.value) in
    omega (arith, ap length same, c.requires.emit.limits.functions)

pub push_stack_of-requires-clause-known : goal.push_stack_of-requires-clause-known
push_stack_of-requires-clause-known c =
    let ls = lambdas_of (map arc_value c.args.made.now.answers.items) in
    let same = c.deref-4.ensures.value ∙ (c.in_ok-lambdas.ensures ∙ ap (λ xs. lambdas_of (map arc_value xs)) c.deref.ensures.value) in
    subst CallsAreKnown (sym same) (c.complete_lists_know_calls.ensures ls c.requires.emit.program.complete)

pub returns : goal.returns
returns c =
    let ls = lambdas_of (map arc_value c.args.made.now.answers.items) in
    let same = c.deref-2.ensures.value ∙ (c.in_ok-lambdas.ensures ∙ ap (λ xs. lambdas_of (map arc_value xs)) c.deref.ensures.value) in
    let names = c.deref-3.ensures.value ∙ ap (λ (m : Made). m.omega.names) c.made.view_is in
    on_ok_weaker c.push_stack_of.result
    (λ h. (
      h.0,
      is_stack_of c.args.made.now.omega ls c.deref-2.result.now c.args.sizes.now c.deref-3.result.now c.in_ok-depths.depths.items c.deref-5.result.now c.main_of-main.result h.0 same c.requires.framed names
          c.deref-5.ensures.value c.main_of-main.ensures c.in_ok-depths.ensures h.1,
      h.2,
    )) c.push_stack_of.ensures
