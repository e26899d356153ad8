use Rattle.std.proofs.Common.{◌≡◌, ◌≤◌, ◌<◌, ◌∙◌, ap, length, map, arith}
use Rattle.s_linear.specs.Views.{line_of}
use Rattle.a_place.specs.Places.{name_count, starting}
use Rattle.a_place.specs.Sweep.{spans_of, given_before}
use Rattle.a_place.proofs.Positions.{length_spans, names_inside, ends_inside, names_start, given_next, size_of}
use Rattle.a_place.proofs.lemmas.Starting.{few_names, room_for}
use Rattle.a_place.proofs.placing.place.Goals as goal

pub starts-requires : goal.starts-requires
starts-requires c =
    let lines : map line_of c.as_slice-lines.result.now ≡ c.args.linear.now = ap (map line_of) c.as_slice-lines.ensures.value ∙ c.linear.view_is in
    let spans : c.deref.result.now ≡ spans_of c.args.linear.now = c.deref.ensures.value ∙ c.in_ok-spans.ensures ∙ ap spans_of lines in
    let few : name_count c.args.linear.now ≤ 4294967295 = few_names 4294967295 c.args.linear.now c.requires in
    let all = length_spans c.args.linear.now c.deref.result.now spans in
    omega (arith, all, few)

pub start-requires-clause-names : goal.start-requires-clause-names
start-requires-clause-names c =
    let p = c.loop-position.position in
    let lines : map line_of c.as_slice-lines.result.now ≡ c.args.linear.now = ap (map line_of) c.as_slice-lines.ensures.value ∙ c.linear.view_is in
    let read : c.in_ok-spans.spans.items ≡ spans_of c.args.linear.now = c.in_ok-spans.ensures ∙ ap spans_of lines in
    let names : c.get.result.now ≡ starting c.args.linear.now p =
    c.get.ensures ∙ c.in_ok-starts.ensures.starts c.args.linear.now p (c.deref.ensures.value ∙ read) c.loop-position-test.true in
    names_inside c.args.linear.now c.deref-in-loop-position.result.now c.get.result.now p (c.deref-in-loop-position.ensures.value ∙ read) names

pub start-requires-clause-ends : goal.start-requires-clause-ends
start-requires-clause-ends c =
    let p = c.loop-position.position in
    let lines : map line_of c.as_slice-lines.result.now ≡ c.args.linear.now = ap (map line_of) c.as_slice-lines.ensures.value ∙ c.linear.view_is in
    let read : c.in_ok-spans.spans.items ≡ spans_of c.args.linear.now = c.in_ok-spans.ensures ∙ ap spans_of lines in
    let names : c.get.result.now ≡ starting c.args.linear.now p =
    c.get.ensures ∙ c.in_ok-starts.ensures.starts c.args.linear.now p (c.deref.ensures.value ∙ read) c.loop-position-test.true in
    let size : length c.as_slice-lines.result.now ≡ length c.args.linear.now = size_of c.as_slice-lines.result.now c.args.linear.now lines in
    let room : p < length c.args.linear.now = omega (arith, size, c.loop-position-test.true) in
    λ k d h.
    let ends = ends_inside c.args.linear.now c.deref-in-loop-position.result.now c.get.result.now p (c.deref-in-loop-position.ensures.value ∙ read) names room k d h in
    omega (arith, ends, c.loop-position.invariant.lines)

pub start-requires-clause-count : goal.start-requires-clause-count
start-requires-clause-count c =
    let p = c.loop-position.position in
    let lines : map line_of c.as_slice-lines.result.now ≡ c.args.linear.now = ap (map line_of) c.as_slice-lines.ensures.value ∙ c.linear.view_is in
    let read : c.in_ok-spans.spans.items ≡ spans_of c.args.linear.now = c.in_ok-spans.ensures ∙ ap spans_of lines in
    let names : c.get.result.now ≡ starting c.args.linear.now p =
    c.get.ensures ∙ c.in_ok-starts.ensures.starts c.args.linear.now p (c.deref.ensures.value ∙ read) c.loop-position-test.true in
    let few : name_count c.args.linear.now ≤ 4294967295 = few_names 4294967295 c.args.linear.now c.requires in
    let room = room_for c.args.linear.now p 4294967295 c.loop-position.sweep.count c.loop-position.invariant.sweep.count few in
    let count : length c.get.result.now ≡ length (starting c.args.linear.now p) = ap length names in
    omega (arith, room, count)

pub loop-position-preserved : goal.loop-position-preserved
loop-position-preserved c =
    let p = c.loop-position.position in
    let before = c.loop-position.invariant in
    let lines : map line_of c.as_slice-lines.result.now ≡ c.args.linear.now = ap (map line_of) c.as_slice-lines.ensures.value ∙ c.linear.view_is in
    let read : c.in_ok-spans.spans.items ≡ spans_of c.args.linear.now = c.in_ok-spans.ensures ∙ ap spans_of lines in
    let spans : c.deref-in-loop-position.result.now ≡ spans_of c.args.linear.now = c.deref-in-loop-position.ensures.value ∙ read in
    let names : c.get.result.now ≡ starting c.args.linear.now p =
    c.get.ensures ∙ c.in_ok-starts.ensures.starts c.args.linear.now p (c.deref.ensures.value ∙ read) c.loop-position-test.true in
    let size : length c.as_slice-lines.result.now ≡ length c.args.linear.now = size_of c.as_slice-lines.result.now c.args.linear.now lines in
    let room : p < length c.args.linear.now = omega (arith, size, c.loop-position-test.true) in
    let start = names_start c.args.linear.now c.deref-in-loop-position.result.now c.get.result.now p spans names room in
    record {
      names = ap (λ of. of.len) c.in_ok-end.ensures.of ∙ c.in_ok-start.ensures.names ∙ before.names;
      lines = ap length c.in_ok-end.ensures.ends ∙ c.in_ok-start.ensures.lines ∙ before.lines;
      sweep =
          given_next c.args.linear.now c.deref-in-loop-position.result.now c.get.result.now p spans names c.end.new.self
          (c.in_ok-end.ensures.sweep c.args.linear.now _
          (c.in_ok-start.ensures.sweep c.args.linear.now p (given_before c.args.linear.now p) spans start before.sweep));
    }
