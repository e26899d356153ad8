-- The next origin decides, or those after it.
use Rattle.std.proofs.Common.{◌&&◌, ◌+◌, Bool, List, [], map, drop, sym, ap, ◌∙◌}
use Rattle.std.proofs.lemmas.List.{at_drop_more, at_drop_all}
use Rattle.g_graph.specs.declared.op.Origin.{Origin}
use Rattle.g_graph.specs.declared.op.Origin.TheVariants.{Arg}
use Rattle.g_graph.specs.WellFormed.{all_of}
use Rattle.r_push.specs.Walk.{goes_along}
use Rattle.r_walk.specs.Walk.{origin_now}
use Rattle.r_push.proofs.leaving.all_go_along.Goals as goal

pub returns-then-not-goes_along : goal.returns-then-not-goes_along
returns-then-not-goes_along c = λ k is.
    let items = c.args.origins.now in
    let i = c.loop-origin.origin-index in
    let whole : List Origin → Bool = λ os. all_of (goes_along k c.args.args) (map (origin_now k.moved []) os) in
    let now = ap (goes_along k c.args.args) (c.origin_now.ensures k.moved is.moved) in
    ap (λ b. b && whole (drop (i + 1) items)) (sym c.if-not-goes_along.true ∙ c.goes_along.ensures k is ∙ now) ∙ sym (at_drop_more whole items i (Arg 0) c.loop-origin-test.true)
    ∙ c.loop-origin.invariant k is

pub loop-origin-preserved : goal.loop-origin-preserved
loop-origin-preserved c = λ k is.
    let items = c.args.origins.now in
    let i = c.loop-origin.origin-index in
    let whole : List Origin → Bool = λ os. all_of (goes_along k c.args.args) (map (origin_now k.moved []) os) in
    let now = ap (goes_along k c.args.args) (c.origin_now.ensures k.moved is.moved) in
    ap (λ b. b && whole (drop (i + 1) items)) (sym c.if-not-goes_along.false ∙ c.goes_along.ensures k is ∙ now) ∙ sym (at_drop_more whole items i (Arg 0) c.loop-origin-test.true)
    ∙ c.loop-origin.invariant k is

pub returns : goal.returns
returns c = λ k is.
    sym (at_drop_all (λ os. all_of (goes_along k c.args.args) (map (origin_now k.moved []) os)) c.args.origins.now c.loop-origin.origin-index c.loop-origin-test.false) ∙ c.loop-origin.invariant k is
