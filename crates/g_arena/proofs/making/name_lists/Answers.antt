-- The uses of one list more are named.
use Rattle.std.proofs.Common.{◌<◌, List, length, subst, arith}
use Rattle.g_graph.specs.declared.op.Origin.{Origin}
use Rattle.g_arena_use.specs.Lists.{PlainList, AreNamedIn}
use Rattle.g_arena_use.proofs.ReadLemmas.{get_within}
use Rattle.g_arena.proofs.StepLemmas.{item_there, kept_more, list_more, lists_named}
use Rattle.g_arena.proofs.making.name_lists.Goals as goal

pub loop-i-preserved : goal.loop-i-preserved
loop-i-preserved c =
    let inside : c.loop-i.i < length c.args.lists.now = omega arith in
    let P : List Origin → Type 0 = λ os. AreNamedIn c.name_origins.new.names c.list.inside.home os in
    let Q : PlainList → Type 0 = λ l. AreNamedIn c.name_origins.new.names l.home l.origins in
    record {
      kept = kept_more c.args.names.now c.loop-i.names c.name_origins.new.names c.loop-i.invariant.kept c.in_ok-name_origins.ensures.kept;
      named = list_more c.loop-i.names c.name_origins.new.names c.args.lists.now c.loop-i.i c.index-lists-i.result
          (item_there c.args.lists.now c.loop-i.i c.index-lists-i.result inside c.index-lists-i.is) c.loop-i.invariant.named c.in_ok-name_origins.ensures.kept
          (subst Q c.list.view_is (subst P c.as_slice.ensures c.in_ok-name_origins.ensures.named));
    }

pub returns-clause-named : goal.returns-clause-named
returns-clause-named c = lists_named c.loop-i.names c.args.lists.now (λ j x e. c.loop-i.invariant.named j (let w = get_within c.args.lists.now j x e in omega (arith, w)) x e)
