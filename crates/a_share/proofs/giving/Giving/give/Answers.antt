use Rattle.std.proofs.Common.{◌≡◌, ◌∙◌, refl, sym, subst, ap, max, Some, arith}
use Rattle.std.specs.Prelude.{nat_lt}
use Rattle.std.proofs.lemmas.Result.{on_ok_weaker}
use Rattle.std.specs.Vec.{with_item}
use Rattle.a_share.specs.Facts.{line_number, segments_of, writes_of}
use Rattle.a_share.specs.Held.{IsHeld, AddsTo}
use Rattle.a_place.specs.Share.{counted_for}
use Rattle.a_share.specs.Giving.{Holds, chosen, names_at}
use Rattle.a_share.specs.declared.giving.Giving.{Giving}
use Rattle.a_share.proofs.Tables.{read_list}
use Rattle.a_share.proofs.Placing.{segments_within, chosen_found, holds_more, given_shared, given_alone, ready_set}
use Rattle.a_share.proofs.giving.Giving.give.Goals as goal

pub hold-requires-clause-segments : goal.hold-requires-clause-segments
hold-requires-clause-segments c =
    let F = c.args.facts.now in
    let h = c.index_mut-then-place-lt-SHARED.result.now in
    let held : IsHeld (line_number F) h =
    subst (IsHeld (line_number F)) (sym c.index_mut-then-place-lt-SHARED.ensures.value) (c.requires.ready.each c.choose-place.result h c.if-place-lt-SHARED.true) in
    let read : c.as_slice-segments.result.now ≡ segments_of F c.args.name =
    c.as_slice-segments.ensures
    ∙ read_list (λ v. v.items) F.walk.segments.items c.args.name c.index.result.now (omega (arith, c.requires.name, F.walk.segments.ok.0)) c.index.ensures in
    segments_within F c.args.name h.firsts.size c.as_slice-segments.result.now c.requires.facts c.requires.name held.firsts_size read

pub returns-then-place-lt-SHARED-clause-ready : goal.returns-then-place-lt-SHARED-clause-ready
returns-then-place-lt-SHARED-clause-ready c =
    let F = c.args.facts.now in
    let g = c.args.self.now in
    let h = c.index_mut-then-place-lt-SHARED.result.now in
    let held : IsHeld (line_number F) h =
    subst (IsHeld (line_number F)) (sym c.index_mut-then-place-lt-SHARED.ensures.value) (c.requires.ready.each c.choose-place.result h c.if-place-lt-SHARED.true) in
    on_ok_weaker c.hold.result
    (λ new. record {
      of = c.requires.ready.of;
      held = c.requires.ready.held;
      each = ready_set F g _ c.choose-place.result c.hold.new.self c.requires.ready c.if-place-lt-SHARED.true refl (subst (λ n. IsHeld n c.hold.new.self) held.firsts_size new);
    }) c.hold.ensures.held

pub returns-then-place-lt-SHARED-clause-giving : goal.returns-then-place-lt-SHARED-clause-giving
returns-then-place-lt-SHARED-clause-giving c =
    let F = c.args.facts.now in
    let g = c.args.self.now in
    let p = c.choose-place.result in
    let h = c.index_mut-then-place-lt-SHARED.result.now in
    let held : IsHeld (line_number F) h =
    subst (IsHeld (line_number F)) (sym c.index_mut-then-place-lt-SHARED.ensures.value) (c.requires.ready.each p h c.if-place-lt-SHARED.true) in
    let read : c.as_slice-segments.result.now ≡ segments_of F c.args.name =
    c.as_slice-segments.ensures
    ∙ read_list (λ v. v.items) F.walk.segments.items c.args.name c.index.result.now (omega (arith, c.requires.name, F.walk.segments.ok.0)) c.index.ensures in
    on_ok_weaker c.hold.result
    (λ adds. λ gs giving.
    let new : Giving = record { of = with_item g.of c.args.name (Some p); held = with_item g.held p c.hold.new.self; next = g.next; count = c.max-self.result } in
    let is : p ≡ chosen F c.args.name gs = c.choose-place.ensures ∙ chosen_found F c.requires.facts g gs c.requires.ready giving c.args.name c.requires.name in
    let before : Holds F (names_at p gs) h = subst (Holds F (names_at p gs)) (sym c.index_mut-then-place-lt-SHARED.ensures.value) (giving.held p h c.if-place-lt-SHARED.true) in
    let count : new.count ≡ max g.count (counted_for p) = c.max-self.ensures ∙ ap (max g.count) c.counted_for.ensures in
    let all : AddsTo (line_number F) (segments_of F c.args.name) (writes_of F c.args.name) (nat_lt c.args.name F.params) h c.hold.new.self =
    subst (λ n. AddsTo n (segments_of F c.args.name) (writes_of F c.args.name) (nat_lt c.args.name F.params) h c.hold.new.self) held.firsts_size
    (subst (λ ss. AddsTo h.firsts.size ss (writes_of F c.args.name) (nat_lt c.args.name F.params) h c.hold.new.self) read
    (subst (λ ws. AddsTo h.firsts.size c.as_slice-segments.result.now ws (nat_lt c.args.name F.params) h c.hold.new.self) c.get.ensures adds)) in
    given_shared F g new gs c.args.name p c.requires.ready giving c.requires.name is refl count c.hold.new.self c.if-place-lt-SHARED.true refl
    (holds_more F c.args.name (names_at p gs) h c.hold.new.self before all) refl) c.hold.ensures.adds

pub returns-in_ok-self-clause-giving : goal.returns-in_ok-self-clause-giving
returns-in_ok-self-clause-giving c = λ gs giving.
    let F = c.args.facts.now in
    let g = c.args.self.now in
    let p = c.choose-place.result in
    let new : Giving = record { of = with_item g.of c.args.name (Some p); held = g.held; next = c.in_ok-self.field-0; count = c.max-self.result } in
    let is : p ≡ chosen F c.args.name gs = c.choose-place.ensures ∙ chosen_found F c.requires.facts g gs c.requires.ready giving c.args.name c.requires.name in
    let count : new.count ≡ max g.count (counted_for p) = c.max-self.ensures ∙ ap (max g.count) c.counted_for.ensures in
    given_alone F g new gs c.args.name p c.requires.ready giving c.requires.name is refl count c.if-place-lt-SHARED.false refl c.in_ok-self.ensures
