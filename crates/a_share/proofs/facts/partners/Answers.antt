use Rattle.std.proofs.Common.{◌+◌, ◌<◌, ◌∙◌, [], ◌++◌, flat_map, drop, get_or, length, ap, arith, rules}
use Rattle.std.proofs.lemmas.List.{length-replicate, drop_more, drop_all}
use Rattle.s_linear.specs.Views.{line_of}
use Rattle.a_share.specs.Tables.{by_depth, ends_of, line_at}
use Rattle.a_share.proofs.Tables.{seen, line_below, line_read, grown, grown_all, none_in, position_inside}
use Rattle.a_share.proofs.facts.partners.Goals as goal

pub loop-position-init : goal.loop-position-init
loop-position-init c = record {
  count = ap length c.in_ok-partners.ensures ∙ length-replicate c.args.count [];
  partners = λ x h. ap (λ z. get_or z x [] ++ flat_map (λ i. ends_of x (line_at (seen c.args.lines.now) i)) c.as_slice-position-items.result.now) c.in_ok-partners.ensures
      ∙ ap (λ z. z ++ flat_map (λ i. ends_of x (line_at (seen c.args.lines.now) i)) c.as_slice-position-items.result.now) (none_in c.args.count x);
}

pub bounds-lines-position : goal.bounds-lines-position
bounds-lines-position c =
    position_inside c.args.lines.now c.args.depths.now c.as_slice-position-items.result.now c.loop-position.position-index c.requires.depths
    (c.as_slice-position-items.ensures.value ∙ c.in_ok-order.ensures ∙ ap by_depth (c.as_slice.ensures.value ∙ c.in_ok-moves.ensures)) c.loop-position-test.true

pub offset_bounds-lines-position : goal.offset_bounds-lines-position
offset_bounds-lines-position c =
    let inside : get_or c.as_slice-position-items.result.now c.loop-position.position-index 0 < length c.args.lines.now =
    position_inside c.args.lines.now c.args.depths.now c.as_slice-position-items.result.now c.loop-position.position-index c.requires.depths
    (c.as_slice-position-items.ensures.value ∙ c.in_ok-order.ensures ∙ ap by_depth (c.as_slice.ensures.value ∙ c.in_ok-moves.ensures)) c.loop-position-test.true in
    search rules

pub add_move-requires : goal.add_move-requires
add_move-requires c =
    let inside = position_inside c.args.lines.now c.args.depths.now c.as_slice-position-items.result.now c.loop-position.position-index c.requires.depths
    (c.as_slice-position-items.ensures.value ∙ c.in_ok-order.ensures ∙ ap by_depth (c.as_slice.ensures.value ∙ c.in_ok-moves.ensures)) c.loop-position-test.true in
    let below = line_below c.args.lines.now _ c.index-lines-position.result inside c.index-lines-position.is in
    omega (arith, below, c.requires.names, c.loop-position.invariant.count)

pub loop-position-preserved : goal.loop-position-preserved
loop-position-preserved c =
    let lines = c.args.lines.now in
    let order = c.as_slice-position-items.result.now in
    let k = c.loop-position.position-index in
    let i = get_or order k 0 in
    let before = c.loop-position.invariant in
    let inside : i < length lines = position_inside lines c.args.depths.now order k c.requires.depths
    (c.as_slice-position-items.ensures.value ∙ c.in_ok-order.ensures ∙ ap by_depth (c.as_slice.ensures.value ∙ c.in_ok-moves.ensures)) c.loop-position-test.true in
    record {
      count = c.in_ok-add_move.ensures.count ∙ before.count;
      partners = λ x h.
          grown (get_or c.loop-position.partners x []) (ends_of x (line_of c.index-lines-position.result))
          (flat_map (λ j. ends_of x (line_at (seen lines) j)) (drop (k + 1) order)) (get_or c.add_move.new.lists x [])
          (flat_map (λ j. ends_of x (line_at (seen lines) j)) (drop k order)) (flat_map (λ j. ends_of x (line_at (seen lines) j)) order)
          (c.in_ok-add_move.ensures.ends x (omega (arith, before.count)))
          (ap (flat_map (λ j. ends_of x (line_at (seen lines) j))) (drop_more order k 0 c.loop-position-test.true)
          ∙ ap (λ l. ends_of x l ++ flat_map (λ j. ends_of x (line_at (seen lines) j)) (drop (k + 1) order)) (line_read lines i c.index-lines-position.result inside c.index-lines-position.is))
          (before.partners x h);
    }

pub returns-clause-count : goal.returns-clause-count
returns-clause-count c = c.loop-position.invariant.count

pub returns-clause-partners : goal.returns-clause-partners
returns-clause-partners c = λ x h.
    let order = c.as_slice-position-items.result.now in
    let k = c.loop-position.position-index in
    grown_all (get_or c.loop-position.partners x []) (flat_map (λ j. ends_of x (line_at (seen c.args.lines.now) j)) (drop k order))
    (flat_map (λ j. ends_of x (line_at (seen c.args.lines.now) j)) order)
    (ap (flat_map (λ j. ends_of x (line_at (seen c.args.lines.now) j))) (drop_all k order (omega (arith, c.loop-position-test.false)))) (c.loop-position.invariant.partners x h)
    ∙ ap (flat_map (λ j. ends_of x (line_at (seen c.args.lines.now) j)))
    (c.as_slice-position-items.ensures.value ∙ c.in_ok-order.ensures ∙ ap by_depth (c.as_slice.ensures.value ∙ c.in_ok-moves.ensures))
