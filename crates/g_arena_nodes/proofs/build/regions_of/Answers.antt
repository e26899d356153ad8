-- One region more takes its nodes.
use Rattle.std.proofs.Common.{map-id, ap, sym, ◌∙◌, rules}
use Rattle.std.proofs.lemmas.Iterator.Consumers.{YieldsList-end}
use Rattle.std.proofs.lemmas.Iterator.Adapters.{YieldsList-from_vec}
use Rattle.g_arena_nodes.specs.Made.{regions_made, regions_left}
use Rattle.g_arena_nodes.proofs.StepLemmas.{region_more}
use Rattle.g_arena_nodes.proofs.build.regions_of.Goals as goal

pub loop-part-preserved : goal.loop-part-preserved
loop-part-preserved c =
    let m = region_more c.args.node c.len.result c.loop-part.yielded c.in-Some.part c.args.made.now.items c.loop-part.made.items c.region_at.new.made.items c.loop-part.regions.items c.push.new.self.items c.in_ok-region.region c.in_ok-place.place
    c.loop-part.invariant.made c.loop-part.invariant.rest (c.len.ensures ∙ c.loop-part.regions.ok.0) c.in_ok-place.ensures c.in_ok-region.ensures.region c.in_ok-region.ensures.left c.in_ok-push.ensures.items in
    record { made = m.0; rest = m.1 }

pub returns-clause-regions : goal.returns-clause-regions
returns-clause-regions c =
    let end = YieldsList-end (YieldsList-from_vec {s = c.into_iter-part-iterator.result} c.args.parts.items (search rules) (search rules))
    c.loop-part.yielded c.loop-part.part-iterator c.loop-part.yielded_by c.next.result c.next.new.self c.in-None.is c.next.ensures.steps in
    c.loop-part.invariant.made ∙ ap (λ ps. regions_made c.args.node 0 ps c.args.made.now.items) (sym (map-id c.loop-part.yielded) ∙ end.0)

pub returns-clause-left : goal.returns-clause-left
returns-clause-left c =
    let end = YieldsList-end (YieldsList-from_vec {s = c.into_iter-part-iterator.result} c.args.parts.items (search rules) (search rules))
    c.loop-part.yielded c.loop-part.part-iterator c.loop-part.yielded_by c.next.result c.next.new.self c.in-None.is c.next.ensures.steps in
    c.loop-part.invariant.rest ∙ ap (λ ps. regions_left c.args.node 0 ps c.args.made.now.items) (sym (map-id c.loop-part.yielded) ∙ end.0)
