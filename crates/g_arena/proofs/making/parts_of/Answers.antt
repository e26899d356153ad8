-- What is stored of the list is indexed.
use Rattle.std.proofs.Common.{◌<◌, ◌^◌, List, length, subst, ap, ◌∙◌, arith}
use Rattle.g_graph.specs.declared.op.Origin.{Origin}
use Rattle.g_arena_def.specs.Flat.{FlatRegion}
use Rattle.g_arena.specs.Stores.{AreStored}
use Rattle.g_arena.proofs.StoreLemmas.{ready, parts}
use Rattle.g_arena.proofs.making.parts_of.Goals as goal

pub indexed-requires-clause-ready : goal.indexed-requires-clause-ready
indexed-requires-clause-ready c =
    ready c.as_slice.result.now c.args.rows.nodes.items c.in_ok-stored.stored.slots.items c.in_ok-stored.stored.numbers.keys c.in_ok-stored.stored.inputs.items c.in_ok-stored.stored.results.items c.requires.once c.in_ok-stored.ensures

pub returns : goal.returns
returns c =
    let P : List Origin → Type 0 = λ os. AreStored os c.args.rows.nodes.items c.in_ok-stored.stored.slots.items c.in_ok-stored.stored.numbers.keys c.in_ok-stored.stored.inputs.items c.in_ok-stored.stored.results.items in
    let stored = subst P (c.as_slice.ensures.value ∙ ap (λ (r : FlatRegion). r.results) c.body.view_is) c.in_ok-stored.ensures in
    let short : length c.in_ok-args.args < 2 ^ 32 = omega (arith, c.in_ok-args.ensures.short, ap length c.in_ok-args.ensures.kinds) in
    parts c.args.rows.body c.args.rows.nodes.items c.in_ok-stored.stored.slots.items c.in_ok-stored.stored.numbers.keys c.in_ok-stored.stored.inputs.items c.in_ok-stored.stored.results.items
    c.in_ok-args.args _ _ _ _ c.requires stored (c.in_ok-args.ensures.kinds ∙ ap (λ (r : FlatRegion). r.args) c.body.view_is) short c.in_ok-parts.ensures
