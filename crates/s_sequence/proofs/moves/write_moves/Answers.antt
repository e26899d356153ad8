use Rattle.std.proofs.Common.{ap, ◌∙◌, arith, ◌+◌, ◌++◌, map, drop}
use Rattle.std.specs.declared.option.Option.TheVariants.{Some}
use Rattle.s_linear.specs.Lines.{done}
use Rattle.s_sequence.specs.Sequence.{moves, kept}
use Rattle.s_sequence.specs.Writer.{PlainWriter}
use Rattle.s_sequence.proofs.MoveLemmas.{moves_more, moves_end, room_more, room_end}
use Rattle.s_sequence.proofs.moves.write_moves.Goals as goal
use Rattle.s_sequence.proofs.moves.write_moves.Goals.{then-i-sources+in_ok-target, else-i-sources}

pub loop-i-preserved : goal.loop-i-preserved
loop-i-preserved c =
    let kinds = c.args.kinds.now in
    let sources = c.args.sources.now in
    let i = c.loop-i.i in
    let inv = c.loop-i.invariant in
    elim c.if-i-sources.branch [
      | then-i-sources+in_ok-target w ↦
          let e = ap (λ (v : PlainWriter). v.lines) (w.w-is) ∙ ap (λ (v : PlainWriter). v.lines) w.in_ok-target.ensures.lines in
          let f = w.target-is ∙ w.in_ok-target.ensures.next in
          record {
            lines = moves_more kinds sources i c.loop-i.w.lines c.if-i-sources.w.lines _ c.loop-i.target c.if-i-sources.target c.loop-i-test.true w.if-i-sources.true e f
                inv.lines;
            next = ap (λ (v : PlainWriter). v.next) w.w-is ∙ ap (λ (v : PlainWriter). v.next) w.in_ok-target.ensures.lines ∙ inv.next;
            label = ap (λ (v : PlainWriter). v.label) w.w-is ∙ ap (λ (v : PlainWriter). v.label) w.in_ok-target.ensures.lines ∙ inv.label;
            room = omega (arith, room_more kinds sources i c.loop-i.target c.if-i-sources.target c.loop-i-test.true f, inv.room);
          }
      | else-i-sources w ↦
          record {
            lines = ap (λ (v : PlainWriter). v.lines ++ map done (moves c.if-i-sources.target (kept (map Some (drop (i + 1) kinds)) (drop (i + 1) sources)))) w.w-is
                ∙ ap (λ t. c.loop-i.w.lines ++ map done (moves t (kept (map Some (drop (i + 1) kinds)) (drop (i + 1) sources)))) w.target-is
                ∙ moves_end kinds sources i c.loop-i.w.lines _ c.loop-i.target w.if-i-sources.false inv.lines;
            next = ap (λ (v : PlainWriter). v.next) w.w-is ∙ inv.next;
            label = ap (λ (v : PlainWriter). v.label) w.w-is ∙ inv.label;
            room = omega (arith, room_end kinds sources i c.loop-i-test.true, inv.room, w.target-is);
          }
    ]
