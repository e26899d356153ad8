-- What is outside then.
use Rattle.std.proofs.Common.{◌≡◌, ◌==◌, ◌+◌, ◌∷◌, ◌++◌, [], if◌then◌else◌, List, length, slice_get, unwrap_or, sym, ap, ap₂, subst, ◌∙◌, arith}
use Rattle.g_graph.specs.declared.op.Origin.{Origin}
use Rattle.g_graph.specs.declared.op.Origin.TheVariants.{Arg, Out}
use Rattle.g_graph.specs.Plain.{NodeTree, node, regions_of}
use Rattle.g_graph.specs.Replace.{node_redirected}
use Rattle.g_graph.specs.Splice.{args_to_inputs}
use Rattle.r_push.specs.Walk.{node_now, gone}
use Rattle.r_walk.specs.Moves.{origin_in, output_in}
use Rattle.r_push.specs.Walks.{walking, IsWalked}
use Rattle.r_push.proofs.Along.{origins_are}
use Rattle.r_push.proofs.LeftOut.{gone_walked}
use Rattle.r_push.proofs.leaving.leave.Goals as goal

pub returns-clause-ok : goal.returns-clause-ok
returns-clause-ok c = λ k before is.
    let x = c.node.inside in
    let moves = c.args.moves.now in
    let outer = c.args.outside.now.inputs.items in
    let read : List Origin → NodeTree = λ os. node x.id x.op os (regions_of x.regions.items) in
    let w = walking c.args.values.now c.args.outside.now c.args.log.now.items in
    let now = walking (c.args.values.now + c.growth.result) (record { inputs = c.push-2.new.self; left = c.push.new.self }) c.push-3.new.self.items in
    let len : c.len.result ≡ length outer = omega (arith, c.args.outside.now.inputs.ok.0) in
    let moved : c.in_ok-moved.field-0 ≡ node_redirected (args_to_inputs outer) (node_now k.moved (read x.inputs.items)) =
    c.in_ok-moved.ensures ∙ ap₂ (λ os y. node_redirected (args_to_inputs os) (node_redirected (origin_in moves []) y)) c.deref.ensures.value (sym c.node.view_is)
    ∙ ap (λ os. node_redirected (args_to_inputs outer) (read os)) (origins_are moves k.moved is.moved x.inputs.items) in
    subst (λ y. IsWalked (gone k w (node_now k.moved y)) before before c.note.new.self now) c.node.view_is
    (gone_walked k c.args.place.now moves c.note.new.self w now (node_now k.moved (read x.inputs.items)) before is
    (λ n p.
    c.in_ok-note.ensures n p ∙ ap (λ os. if n == x.id then unwrap_or (slice_get os p) (Out n p) else output_in moves n p) (c.in_ok-only.ensures ∙ ap (λ l. Arg l ∷ []) len))
    (ap (λ more. c.args.values.now + more) c.growth.ensures) c.in_ok-push-3.ensures.items c.in_ok-push-2.ensures.items
    (c.in_ok-push.ensures.items ∙ ap (λ y. c.args.outside.now.left.items ++ y ∷ []) moved))
