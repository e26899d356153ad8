use Rattle.std.proofs.Common.{◌≡◌, ◌<◌, ◌∙◌, ℕ, [], None, map, take, length, get_or, vec_len, refl, sym, subst, ap, arith}
use Rattle.std.proofs.lemmas.List.{length-map, take_all}
use Rattle.s_linear.specs.Lines.{lines}
use Rattle.s_linear.specs.Views.{line_of}
use Rattle.a_place.specs.Places.{name_count}
use Rattle.a_place.specs.Marks.{marks}
use Rattle.a_share.specs.Sound.{IsSound}
use Rattle.a_share.specs.Walked.{IsWalkOf}
use Rattle.a_share.specs.Tables.{by_depth, depth_in}
use Rattle.a_share.specs.Facts.{AreFacts, name_number}
use Rattle.a_share.specs.Giving.{IsGiving, given_by}
use Rattle.a_share.proofs.Tables.{order_entry}
use Rattle.a_share.proofs.Fitting.{given_more}
use Rattle.a_share.proofs.Shared.{places_made, places_shared}
use Rattle.a_share.proofs.sharing.share.Goals as goal

pub give-requires-clause-name : goal.give-requires-clause-name
give-requires-clause-name c =
    let os = c.in_ok-depths.depths.items in
    let entry = order_entry os c.as_slice-name-items.result.now c.loop-name.name-index
    (c.as_slice-name-items.ensures.value ∙ (c.in_ok-order.ensures ∙ ap by_depth c.as_slice-2.ensures.value)) c.loop-name-test.true in
    let names : name_number c.in_ok-facts.facts ≡ c.in_ok-count.count = ap (λ w. vec_len w.segments) c.in_ok-facts.ensures.walk ∙ c.in_ok-walk.ensures.sound.segments in
    omega (arith, entry, names, c.in_ok-depths.ensures.count, c.in_ok-depths.depths.ok.0)

pub loop-name-preserved : goal.loop-name-preserved
loop-name-preserved c =
    let F = c.in_ok-facts.facts in
    let items = c.as_slice-name-items.result.now in
    let k = c.loop-name.name-index in
    record {
      ready = c.in_ok-give.ensures.ready;
      giving = subst (λ gs. IsGiving F gs c.give.new.self) (sym (given_more F items k (get_or items k 0) [] c.loop-name-test.true refl))
          (c.in_ok-give.ensures.giving (given_by F (take k items) []) c.loop-name.invariant.giving);
    }

pub returns : goal.returns
returns c = λ f e t.
    let L = c.as_slice-lines.result.now in
    let F = c.in_ok-facts.facts in
    let os = c.in_ok-depths.depths.items in
    let same : map line_of L ≡ lines f = ap (map line_of) c.as_slice-lines.ensures.value ∙ (c.linear.view_is ∙ sym e) in
    let walk : IsWalkOf (lines f) (marks f) F.walk = subst (IsWalkOf (lines f) (marks f)) (sym c.in_ok-facts.ensures.walk) (c.in_ok-walk.ensures.walk f (sym same) t) in
    let sound : IsSound (length L) c.in_ok-count.count F.walk = subst (IsSound (length L) c.in_ok-count.count) (sym c.in_ok-facts.ensures.walk) c.in_ok-walk.ensures.sound in
    let size : length L ≡ length (lines f) = sym (length-map L line_of) ∙ ap length same in
    let facts : AreFacts (lines f) F = subst (λ ls. AreFacts ls F) same c.in_ok-facts.ensures.facts in
    let count : name_number F ≡ name_count (lines f) = sound.segments ∙ (c.in_ok-count.ensures ∙ ap name_count same) in
    let long : length os ≡ name_number F = omega (arith, c.in_ok-depths.depths.ok.0, c.in_ok-depths.ensures.count, sound.segments) in
    let depth : (x : ℕ) → x < name_number F → get_or os x None ≡ depth_in x (lines f) F.walk.depths.items =
    λ x h.
    c.in_ok-depths.ensures.depths x (omega (arith, h, sound.segments))
    ∙ (ap (depth_in x (map line_of L)) (c.as_slice.ensures.value ∙ ap (λ w. w.depths.items) (sym c.in_ok-facts.ensures.walk))
    ∙ ap (λ ls. depth_in x ls F.walk.depths.items) same) in
    let order : c.as_slice-name-items.result.now ≡ by_depth os = c.as_slice-name-items.ensures.value ∙ (c.in_ok-order.ensures ∙ ap by_depth c.as_slice-2.ensures.value) in
    let all : take c.loop-name.name-index c.as_slice-name-items.result.now ≡ by_depth os =
    take_all c.loop-name.name-index c.as_slice-name-items.result.now (omega (arith, c.loop-name-test.false)) ∙ order in
    places_shared f F os walk c.in_ok-facts.ensures.usable facts (sound.depths ∙ size) count long depth c.in_ok-places.field-0
    (c.in_ok-places.ensures F (given_by F (take c.loop-name.name-index c.as_slice-name-items.result.now) []) c.loop-name.invariant.ready c.loop-name.invariant.giving
    ∙ ap (places_made (name_number F)) (ap (λ xs. given_by F xs []) all))
