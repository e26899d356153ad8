-- The number of one node more is a new one, since no number stands twice.
use Rattle.std.proofs.Common.{[], ◌∷◌, ◌++◌, length, map-id, sym, ◌∙◌, rules}
use Rattle.std.proofs.lemmas.Iterator.Adapters.{YieldsList-from_vec}
use Rattle.g_arena.proofs.StepLemmas.{stored_more, node_new, next_of}
use Rattle.g_arena.proofs.making.stored_of.Goals as goal

pub add-requires : goal.add-requires
add-requires c =
    let road = YieldsList-from_vec {s = c.into_iter-row-iterator.result} c.args.rows.items (search rules) (search rules) in
    let so_far = next_of road c.loop-row.yielded c.loop-row.row-iterator c.in-Some.row c.next.new.self c.loop-row.yielded_by c.in-Some.ensures.steps in
    node_new c.args.rows.items c.loop-row.yielded c.in-Some.row c.loop-row.stored.numbers.keys (length (c.loop-row.yielded ++ c.in-Some.row ∷ [])) c.requires
    (sym (map-id (c.loop-row.yielded ++ c.in-Some.row ∷ [])) ∙ so_far) c.loop-row.invariant.keys

pub loop-row-preserved : goal.loop-row-preserved
loop-row-preserved c =
    stored_more c.args.results.now c.loop-row.yielded c.in-Some.row c.loop-row.stored.slots.items c.add.new.self.slots.items c.loop-row.stored.numbers.keys c.add.new.self.numbers.keys
    c.loop-row.stored.inputs.items c.add.new.self.inputs.items c.loop-row.stored.results.items c.add.new.self.results.items c.loop-row.invariant
    c.in_ok-add.ensures.slots c.in_ok-add.ensures.numbers c.in_ok-add.ensures.inputs c.in_ok-add.ensures.results c.in_ok-add.ensures.short
