use Rattle.std.proofs.Common.{ℕ, ◌+◌, ◌∙◌, ◌++◌, drop, refl, sym, ap, subst, arith}
use Rattle.val_core.specs.Objects.{address_in}
use Rattle.c_typed.specs.Typed.{VariableTree}
use Rattle.c_typed.specs.Objects.{access_width}
use Rattle.c_mean.specs.Run.{params_in_scope, params_stored}
use Rattle.c_interp_store.specs.declared.store.Store.{Store}
use Rattle.c_interp_def.specs.Configurations.{variables_of, object_sizes}
use Rattle.c_interp_answer.specs.TaskViews.{slots_of}
use Rattle.c_interp.proofs.Arguments.{AreTaken, object_taken, object_not_taken, value_taken, all_taken, object_in_scope, value_in_scope, all_in_scope}
use Rattle.c_interp.proofs.calls.take_arguments.Goals as goal
use Rattle.c_interp.proofs.calls.take_arguments.Goals.{then-p+else-not-store+in_ok-push, else-p+in_ok-push-2}

pub loop-i-init : goal.loop-i-init
loop-i-init c = record {
  number = omega arith;
  slots = sym (ap (λ l. slots_of l ++ params_in_scope 0 c.args.params.now c.args.arguments.now) c.requires.blank);
  stored = λ calls m h. (m, h, refl);
}

pub loop-i-preserved : goal.loop-i-preserved
loop-i-preserved c =
    let address = address_in c.args.first (object_sizes c.args.program.now.typed.now (variables_of c.args.program.now.typed.now c.args.function)) in
    let ps = c.args.params.now in
    let args = c.args.arguments.now in
    let i = c.loop-i.i in
    let v = c.index-params-i.result in
    let inv = c.loop-i.invariant in
    elim c.if-p.branch [
      | then-p+else-not-store+in_ok-push w ↦
          let is = ap (λ (x : VariableTree). x.is_object) (sym c.p.view_is) ∙ w.if-p.true in
          record {
            number = omega (arith, w.number-is, inv.number);
            slots = object_in_scope ps args i c.loop-i.number c.if-p.number v c.loop-i.slots.items c.if-p.slots.items _ c.loop-i-test.true c.index-params-i.is is w.number-is
                (ap (λ s. s.items) w.slots-is ∙ w.in_ok-push.ensures.items) inv.slots;
            stored = λ calls m h.
                subst (λ (s : Store). AreTaken address c.if-p.number (drop (i + 1) ps) (drop (i + 1) args) calls s _) (sym w.store-is)
                (object_taken address ps args i c.loop-i.number c.if-p.number w.access_width.result v w.address_of-at.result c.argument_at-v.result calls c.loop-i.store w.store.new.self w.store.result _
                c.loop-i-test.true c.index-params-i.is is (w.access_width.ensures ∙ ap access_width (w.deref.ensures ∙ ap (λ (x : VariableTree). x.type) c.p.view_is)) w.address_of-at.ensures c.argument_at-v.ensures
                w.number-is w.if-not-store.false (λ k held. w.store.ensures calls k held) (inv.stored calls m h));
          }
      | else-p+in_ok-push-2 w ↦
          let is = ap (λ (x : VariableTree). x.is_object) (sym c.p.view_is) ∙ w.if-p.false in
          record {
            number = omega (arith, w.number-is, inv.number);
            slots = value_in_scope ps args i c.loop-i.number v c.argument_at-v.result c.loop-i.slots.items c.if-p.slots.items _ c.loop-i-test.true c.index-params-i.is is c.argument_at-v.ensures
                (ap (λ s. s.items) w.slots-is ∙ w.in_ok-push-2.ensures.items) inv.slots
                ∙ ap (λ k. slots_of c.if-p.slots.items ++ params_in_scope k (drop (i + 1) ps) (drop (i + 1) args)) (sym w.number-is);
            stored = λ calls m h.
                let all = params_stored address 0 ps args m in
                subst (λ (s : Store). AreTaken address c.if-p.number (drop (i + 1) ps) (drop (i + 1) args) calls s all) (sym w.store-is)
                (subst (λ (k : ℕ). AreTaken address k (drop (i + 1) ps) (drop (i + 1) args) calls c.loop-i.store all) (sym w.number-is)
                (value_taken address ps args i c.loop-i.number v calls c.loop-i.store all c.loop-i-test.true c.index-params-i.is is (inv.stored calls m h)));
          }
    ]

pub returns-then-not-store-clause-stored : goal.returns-then-not-store-clause-stored
returns-then-not-store-clause-stored c = λ calls m h.
    object_not_taken (address_in c.args.first (object_sizes c.args.program.now.typed.now (variables_of c.args.program.now.typed.now c.args.function))) c.args.params.now c.args.arguments.now c.loop-i.i c.loop-i.number
    c.access_width.result c.index-params-i.result c.address_of-at.result c.argument_at-v.result calls c.loop-i.store c.store.new.self c.store.result _ c.loop-i-test.true c.index-params-i.is
    (ap (λ (x : VariableTree). x.is_object) (sym c.p.view_is) ∙ c.if-p.true) (c.access_width.ensures ∙ ap access_width (c.deref.ensures ∙ ap (λ (x : VariableTree). x.type) c.p.view_is))
    c.address_of-at.ensures c.argument_at-v.ensures c.if-not-store.true (λ k held. c.store.ensures calls k held) (c.loop-i.invariant.stored calls m h)

pub returns-clause-stored : goal.returns-clause-stored
returns-clause-stored c = λ calls m h.
    all_taken (address_in c.args.first (object_sizes c.args.program.now.typed.now (variables_of c.args.program.now.typed.now c.args.function))) c.args.params.now c.args.arguments.now c.loop-i.i c.loop-i.number calls
    c.loop-i.store _ c.loop-i-test.false (c.loop-i.invariant.stored calls m h)

pub returns-clause-slots : goal.returns-clause-slots
returns-clause-slots c = all_in_scope c.args.params.now c.args.arguments.now c.loop-i.i c.loop-i.number c.loop-i.slots.items _ c.loop-i-test.false c.loop-i.invariant.slots
