-- The answers that the stale jobs lend may cross threads. Of the tree of regions, which holds itself, the toolchain shows it
-- given the same of what else regions hold; of a lambda and of an answer it follows from their fields.
use denote.Param.Send.{IsSend, IsSync, sendable}
use Rattle.std.proofs.Crossing.{crosses, Arc-sync}
use Rattle.std.specs.contracts.sync.Arc as Arc
use Rattle.std.specs.contracts.alloc.Global as Heap
use Rattle.std.specs.contracts.impls.GlobalAllocator.TheImpl.{ghosts}
use Rattle.smallvec.proofs.small_vec.SmallVec.TheSendSync as small_vec
use Rattle.g_graph.proofs.lambda.Object.TheSendSync as object
use Rattle.g_graph.proofs.op.Kind.TheSendSync as kind
use Rattle.g_graph.proofs.op.Op.TheSendSync as op
use Rattle.g_graph.proofs.op.Origin.TheSendSync as origin
use Rattle.r_rule.proofs.optimised.StepList.TheSendSync as steps
use Rattle.g_graph.proofs.region.Node.TheLaws.TheKnot as knot
use Rattle.g_graph.specs.contracts.lambda.Lambda as lambda
use Rattle.r_rule.specs.contracts.optimised.Optimised as optimised
use Rattle.g_graph.specs.contracts.region.Region as region

region-send : IsSend region.the_row
region-send = search (knot.send-Region, op.the_field_send, origin.the_send, kind.the_send, small_vec.the_send, crosses, sendable) depth 20

region-sync : IsSync region.the_row
region-sync = search (knot.sync-Region, op.the_field_sync, origin.the_sync, kind.the_sync, small_vec.the_sync, crosses, sendable) depth 20

lambda-send : IsSend lambda.the_row
lambda-send = search (region-send, object.the_send, crosses, sendable) depth 20

pub lambda-sync : IsSync lambda.the_row
lambda-sync = search (region-sync, object.the_sync, crosses, sendable) depth 20

answer-send : IsSend optimised.the_row
answer-send = search (lambda-send, steps.the_send, sendable) depth 20

answer-sync : IsSync optimised.the_row
answer-sync = search (lambda-sync, steps.the_sync, sendable) depth 20

pub answers-sync : IsSync (Arc.the_row optimised.the_row Heap.the_row ghosts)
answers-sync = Arc-sync optimised.the_row answer-send answer-sync

pub ruleset kept-crosses = (lambda-sync, answers-sync)
