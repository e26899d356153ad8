use Rattle.std.proofs.Common.{◌≡◌, ◌∙◌, false, length, get_or, sym, subst, ap, arith}
use Rattle.std.specs.List.{All}
use Rattle.std.proofs.lemmas.List.{length-map}
use Rattle.s_linear.specs.Views.{line_of}
use Rattle.a_share.specs.Sound.{IsSound, IsWithin, segments_in}
use Rattle.a_share.specs.Tables.{is_long_in, partners_in, copied_in}
use Rattle.a_share.specs.declared.facts.Facts.{Facts}
use Rattle.a_share.proofs.Tables.{seen, read_list, pushed}
use Rattle.a_share.proofs.Usable.{usable_made}
use Rattle.a_share.proofs.facts.Facts.new.Goals as goal

pub is_long-requires-clause-segments : goal.is_long-requires-clause-segments
is_long-requires-clause-segments c =
    let w = c.args.walk in
    let x = c.loop-name.name in
    let read : c.as_slice-segments.result.now ≡ segments_in w x =
    c.as_slice-segments.ensures
    ∙ read_list (λ v. v.items) w.segments.items x c.index.result.now (omega (arith, c.loop-name-test.true, c.requires.walk.segments, w.segments.ok.0)) c.index.ensures in
    subst (All (IsWithin (length c.args.lines.now))) (sym read) (c.requires.walk.within x c.loop-name-test.true)

pub loop-name-preserved : goal.loop-name-preserved
loop-name-preserved c =
    let w = c.args.walk in
    let x = c.loop-name.name in
    let before = c.loop-name.invariant in
    let read : c.as_slice-segments.result.now ≡ segments_in w x =
    c.as_slice-segments.ensures
    ∙ read_list (λ v. v.items) w.segments.items x c.index.result.now (omega (arith, c.loop-name-test.true, c.requires.walk.segments, w.segments.ok.0)) c.index.ensures in
    record {
      count = omega (arith, c.in_ok-push.ensures.len, before.count);
      long = λ y h.
          ap (λ z. get_or z y false) c.in_ok-push.ensures.items
          ∙ pushed (λ k. is_long_in k (seen c.args.lines.now) (segments_in w k)) c.loop-name.long.items c.is_long.result false x
          (omega (arith, c.loop-name.long.ok.0, before.count)) before.long (c.is_long.ensures ∙ ap (is_long_in x (seen c.args.lines.now)) read) y h;
    }

pub returns-clause-usable : goal.returns-clause-usable
returns-clause-usable c =
    let lines = c.args.lines.now in
    let w = c.args.walk in
    let F : Facts =
    record { walk = w; writes = c.in_ok-writes.writes; partners = c.in_ok-partners.partners; copied = c.in_ok-copied.copied; params = c.param_count.result; long = c.loop-name.long } in
    usable_made (seen lines) c.args.count F (subst (λ n. IsSound n c.args.count w) (sym (length-map lines line_of)) c.requires.walk) c.requires.names c.in_ok-writes.ensures.count
    c.in_ok-partners.ensures.count c.in_ok-copied.ensures.count
    (omega (arith, c.loop-name.invariant.count, c.loop-name-test.false, c.loop-name.auto.name-end)) c.in_ok-writes.ensures.writes
    (λ x h. c.in_ok-partners.ensures.partners x h ∙ ap (partners_in x (seen lines)) c.as_slice.ensures.value)
    (λ x h. c.in_ok-copied.ensures.copied x h ∙ ap (copied_in x (seen lines)) c.as_slice-2.ensures.value)
