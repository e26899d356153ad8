use Rattle.std.proofs.Common.{◌≡◌, ◌*◌, ◌++◌, ◌∷◌, [], sym, ap, ◌∙◌, arith}
use Rattle.std.proofs.lemmas.List.{take_all}
use Rattle.r_edit.proofs.lemmas.InPlace.{take_get}
use Rattle.r_inv.specs.Carried.{carried_of}
use Rattle.r_inv.specs.Cost.{asked}
use Rattle.r_inv.proofs.Asked.{product_more, list_count}
use Rattle.r_inv.proofs.carried_sweep.carried.Goals as goal

pub loop-port-preserved : goal.loop-port-preserved
loop-port-preserved g c = record {
  list = λ x e. c.in_ok-push.ensures.items ∙ ap (λ ys. ys ++ c.carries-origin.result ∷ []) (c.loop-port.invariant.list x e)
      ∙ sym (take_get (carried_of x) c.loop-port.port c.carries-origin.result (c.carries-origin.ensures.origin x e));
  looks = omega arith;
}

pub returns-clause-list : goal.returns-clause-list
returns-clause-list g c = λ x e.
    c.loop-port.invariant.list x e
    ∙ take_all c.loop-port.port (carried_of x) (omega (arith, list_count c.args.shape c.args.arena.now c.requires.whole c.requires.shape c.requires.op x e))

pub returns-clause-looks : goal.returns-clause-looks
returns-clause-looks g c =
    let last : c.loop-port.port ≡ c.args.shape.outputs = omega arith in
    omega (arith, ap (λ k. asked c.args.shape.op c.args.shape.regions * k) last)

pub returns-in_err-push-clause-looks : goal.returns-in_err-push-clause-looks
returns-in_err-push-clause-looks g c =
    omega (arith, product_more (asked c.args.shape.op c.args.shape.regions) c.loop-port.port c.args.shape.outputs c.loop-port-test.true)
