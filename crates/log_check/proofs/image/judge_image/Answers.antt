use Rattle.std.proofs.Common.{◌<◌, ◌^◌, List, length, map, sym, ap, subst, ◌∙◌}
use Rattle.std.specs.Arc.{arc_value}
use Rattle.g_graph.specs.Lists.{IsComplete}
use Rattle.g_graph.specs.Plain.{PlainLambda, PlainOmega}
use Rattle.g_pass.specs.Sweep.{rules}
use Rattle.cc_emit.specs.Image.{file_of_program, lambdas_of, CanEmit}
use Rattle.log_check.specs.Right.{steps_of, AreRight}
use Rattle.log_check.specs.Parting.{PartAt}
use Rattle.log_check.proofs.image.judge_image.Goals as goal

pub replay-requires-clause-few : goal.replay-requires-clause-few
replay-requires-clause-few c =
    let lambdas = c.deref.ensures.value ∙ ap (λ (o : PlainOmega). o.lambdas) c.omega.view_is in
    subst (λ (ls : List PlainLambda). length ls < 2 ^ 32) (sym lambdas) c.requires.few

pub replay-requires-clause-complete : goal.replay-requires-clause-complete
replay-requires-clause-complete c =
    let lambdas = c.deref.ensures.value ∙ ap (λ (o : PlainOmega). o.lambdas) c.omega.view_is in
    subst IsComplete (sym lambdas) c.requires.complete

pub replay-requires-clause-logged : goal.replay-requires-clause-logged
replay-requires-clause-logged c =
    let lambdas = c.deref.ensures.value ∙ ap (λ (o : PlainOmega). o.lambdas) c.omega.view_is in
    c.requires.logged ∙ ap (λ (ls : List PlainLambda). length ls) (sym lambdas)

pub file_with-requires : goal.file_with-requires
file_with-requires c =
    let o = c.args.omega.now in
    let log = c.args.log.now in
    let ks = lambdas_of (map arc_value c.in_ok-made.made.items) in
    let lambdas = c.deref.ensures.value ∙ ap (λ (o : PlainOmega). o.lambdas) c.omega.view_is in
    let right = subst (λ (ls : List PlainLambda). AreRight ls log ks) lambdas c.in_ok-made.ensures.right in
    let kept = c.replayed_keep_lists.ensures.kept rules c.rules_are_steps.ensures o.lambdas (steps_of log) ks c.requires.complete right.replayed in
    subst (λ xs. CanEmit o (lambdas_of (map arc_value xs))) (sym c.deref-2.ensures.value) (c.requires.can ks kept)

pub returns-in-Some-clause-fault : goal.returns-in-Some-clause-fault
returns-in-Some-clause-fault c =
    let o = c.args.omega.now in
    let ks = lambdas_of (map arc_value c.in_ok-made.made.items) in
    let lambdas = c.deref.ensures.value ∙ ap (λ (x : PlainOmega). x.lambdas) c.omega.view_is in
    let file = c.deref-3.ensures.value ∙ (c.in_ok-file.ensures.file ∙ ap (λ xs. file_of_program c.args.form o (lambdas_of (map arc_value xs))) c.deref-2.ensures.value) in
    record {
      lambdas = ks;
      right = subst (λ (ls : List PlainLambda). AreRight ls c.args.log.now ks) lambdas c.in_ok-made.ensures.right;
      bytes = subst (λ bytes. PartAt c.args.image.now bytes c.in-Some.byte) file c.in-Some.ensures.some;
    }

pub returns-clause-image : goal.returns-clause-image
returns-clause-image c =
    let o = c.args.omega.now in
    let ks = lambdas_of (map arc_value c.in_ok-made.made.items) in
    let lambdas = c.deref.ensures.value ∙ ap (λ (x : PlainOmega). x.lambdas) c.omega.view_is in
    let file = c.deref-3.ensures.value ∙ (c.in_ok-file.ensures.file ∙ ap (λ xs. file_of_program c.args.form o (lambdas_of (map arc_value xs))) c.deref-2.ensures.value) in
    record {
      lambdas = ks;
      right = subst (λ (ls : List PlainLambda). AreRight ls c.args.log.now ks) lambdas c.in_ok-made.ensures.right;
      file = c.in-None.ensures.none ∙ file;
    }
