-- One line more: its words come first among those that are left.
use Rattle.std.proofs.Common.{◌∙◌, ap, List, ℕ, map, take, drop, drop_of_length-le, length, ◌/◌, ◌+◌, arith}
use Rattle.s_linear.specs.Views.{line_of}
use Rattle.rv_layout.proofs.lemmas.Items.{all_rest}
use Rattle.s_select.specs.Templates.{line_items}
use Rattle.cc_listing.proofs.Cut.{four_bytes}
use Rattle.cc_listing.proofs.LineLemmas.{next_line, size_left, own_there, later_there, lines_step, lines_end}
use Rattle.cc_listing.proofs.lines.push_lines.Goals as goal

pub split_at-requires : goal.split_at-requires
split_at-requires c =
    let more = next_line c.args.lines.now c.loop-position.position c.index-lines-position.result c.loop-position-test.true c.index-lines-position.is in
    let there = own_there c.args.function.now.places.now c.args.function.now.objects.now _ _ _ more (length c.loop-position.rest.now) c.loop-position.invariant.whole in
    omega (arith, there, ap (λ n. n / 4) c.line_size-size.ensures.size)

pub push_listed-requires : goal.push_listed-requires
push_listed-requires c =
    let p = c.args.function.now.places.now in
    let os = c.args.function.now.objects.now in
    let line = c.index-lines-position.result in
    let more = next_line c.args.lines.now c.loop-position.position line c.loop-position-test.true c.index-lines-position.is in
    omega (
      arith,
      size_left p os _ _ _ more,
      four_bytes (line_items p os (line_of line)),
      c.line_size-size.ensures.size,
      c.split_at.ensures.front_len,
      c.loop-position.invariant.here,
      c.requires.end,
    )

pub overflow_add-here : goal.overflow_add-here
overflow_add-here c =
    let more = next_line c.args.lines.now c.loop-position.position c.index-lines-position.result c.loop-position-test.true c.index-lines-position.is in
    omega (
      arith,
      size_left c.args.function.now.places.now c.args.function.now.objects.now _ _ _ more,
      c.line_size-size.ensures.size,
      c.loop-position.invariant.here,
      c.requires.end,
    )

pub loop-position-preserved : goal.loop-position-preserved
loop-position-preserved c =
    let p = c.args.function.now.places.now in
    let os = c.args.function.now.objects.now in
    let i = c.loop-position.position in
    let line = c.index-lines-position.result in
    let rest = c.loop-position.rest.now in
    let own : List ℕ = c.split_at.result.0.now in
    let later : List ℕ = c.split_at.result.1.now in
    let before = c.loop-position.invariant in
    let size = c.line_size-size.ensures.size in
    let more = next_line c.args.lines.now i line c.loop-position-test.true c.index-lines-position.is in
    record {
      text =
          lines_step p os (line_of line) (map line_of (drop (i + 1) c.args.lines.now)) (map line_of (drop i c.args.lines.now)) more c.args.names.now i
          c.loop-position.here (c.loop-position.here + c.line_size-size.result) rest own later c.loop-position.out.items c.push_listed.new.out.items _
          (c.split_at.ensures.front ∙ ap (λ n. take (n / 4) rest) size)
          (c.split_at.ensures.back ∙ ap (λ n. drop (n / 4) rest) size)
          (ap (λ n. c.loop-position.here + n) size) before.text c.in_ok-push_listed.ensures;
      whole =
          later_there p os _ _ _ more (length rest) (length later) before.whole
          (omega (arith, c.split_at.ensures.back_len, ap (λ n. n / 4) size));
      here = omega (arith, size_left p os _ _ _ more, size, before.here);
      placed = all_rest _ _ _ _ more before.placed;
      named = all_rest _ _ _ _ more before.named;
      params = all_rest _ _ _ _ more before.params;
      arguments = all_rest _ _ _ _ more before.arguments;
    }

pub returns-clause-text : goal.returns-clause-text
returns-clause-text c =
    lines_end c.args.function.now.places.now c.args.function.now.objects.now c.args.names.now c.loop-position.position c.loop-position.here _
    c.loop-position.rest.now c.loop-position.out.items _ (ap (map line_of) (drop_of_length-le c.args.lines.now c.loop-position-test.false)) c.loop-position.invariant.text
