-- One node more, if it is there.
use Rattle.std.proofs.Common.{◌+◌, ◌<◌, ◌≤◌, ◌++◌, length, drop, subst, sym, ap, ◌∙◌, arith}
use Rattle.std.proofs.Math.ListN.{drop_of_length-le}
use Rattle.std.proofs.lemmas.List.{append-nil}
use Rattle.g_arena_use.specs.Plain.{PlainSlot, slot_at, is_live}
use Rattle.g_arena_use.specs.Seen.{slot_seen, nodes_seen}
use Rattle.g_arena_use.proofs.ReadLemmas.{slot_there}
use Rattle.g_arena.specs.Rows.{HasResults, with_row}
use Rattle.g_arena.proofs.RowLemmas.{row_more}
use Rattle.g_arena.proofs.making.live_rows.Goals as goal

pub add_row-requires-clause-results : goal.add_row-requires-clause-results
add_row-requires-clause-results c =
    let inside : c.loop-at.at < length c.args.nodes.now = omega arith in
    let P : PlainSlot → Type 0 = λ s. HasResults c.args.results.now.lists s in
    subst P (sym c.slot.ensures.slot) (c.requires.results c.loop-at.at (slot_at c.args.nodes.now c.loop-at.at) (slot_there c.args.nodes.now c.loop-at.at inside))

pub loop-at-preserved : goal.loop-at-preserved
loop-at-preserved c =
    let inside : c.loop-at.at < length c.args.inputs.now.lists = omega arith in
    let one = c.in_ok-add_row.ensures
    ∙ (λ i. with_row (is_live (c.slot.ensures.slot i)) (slot_seen (c.list.ensures i) c.args.results.now.lists (c.slot.ensures.slot i)) c.loop-at.rows.items) in
    ap (λ rows. rows ++ nodes_seen (drop (c.loop-at.at + 1) c.args.inputs.now.lists) c.args.results.now.lists (drop (c.loop-at.at + 1) c.args.nodes.now)) one
    ∙ row_more c.args.inputs.now.lists c.args.results.now.lists c.args.nodes.now c.loop-at.at c.loop-at.rows.items inside c.requires.inputs
    ∙ c.loop-at.invariant

pub returns : goal.returns
returns c =
    let all : length c.args.nodes.now ≤ c.loop-at.at = omega arith in
    sym (append-nil c.loop-at.rows.items)
    ∙ ap (λ ss. c.loop-at.rows.items ++ nodes_seen (drop c.loop-at.at c.args.inputs.now.lists) c.args.results.now.lists ss) (sym (drop_of_length-le c.args.nodes.now all))
    ∙ c.loop-at.invariant
