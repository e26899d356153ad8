use Rattle.std.proofs.Common.{◌≡◌, ◌∙◌, ◌-◌, ℕ, [], false, map, length, replicate, slice_get, slice_index_or, refl, sym, ap, subst}
use Rattle.std.specs.Prelude.{Option, Some, None}
use Rattle.std.proofs.lemmas.List.{length-map, length-replicate}
use Rattle.s_linear.specs.Lines.{lines}
use Rattle.s_linear.specs.Views.{line_of}
use Rattle.a_place.specs.Marks.{marks}
use Rattle.a_share.specs.Bounds.{bounds_of}
use Rattle.a_share.specs.Pairs.{IsMadeOf}
use Rattle.a_share.specs.Walking.{AreFresh, AreWalked, leave_of}
use Rattle.a_share.specs.declared.walk.Walk.{Walk}
use Rattle.a_share.proofs.Backed.{made_within, fresh_of, value_last, walk_of}
use Rattle.a_share.proofs.walk.walk_back.Goals as goal
use Rattle.a_share.proofs.walk.walk_back.Goals.{in-Some+in_ok-walk_lines, in_default}

abbrev value_or : Option ℕ → ℕ
value_or None = 0
value_or (Some v) = v

pub returns-clause-sound : goal.returns-clause-sound
returns-clause-sound c =
    let n = length c.args.lines.now in
    let fresh = c.in_ok-needs.ensures in
    let depths : length c.match-value_of.needs.depths.items ≡ length c.args.lines.now =
    elim c.match-value_of.branch [
      | in-Some+in_ok-walk_lines w ↦
          ap (λ z. length z.depths.items) w.needs-is ∙ w.in_ok-walk_lines.ensures.depths ∙ ap length fresh.depths ∙ length-replicate n 0
      | in_default w ↦ ap (λ z. length z.depths.items) w.needs-is ∙ ap length fresh.depths ∙ length-replicate n 0
    ] in
    let copies : length c.match-value_of.needs.copies.items ≡ length c.args.lines.now =
    elim c.match-value_of.branch [
      | in-Some+in_ok-walk_lines w ↦
          ap (λ z. length z.copies.items) w.needs-is ∙ w.in_ok-walk_lines.ensures.copies ∙ ap length fresh.copies ∙ length-replicate n false
      | in_default w ↦ ap (λ z. length z.copies.items) w.needs-is ∙ ap length fresh.copies ∙ length-replicate n false
    ] in
    record {
      segments = c.in_ok-segments.ensures.size;
      within = λ x h.
          made_within n (bounds_of c.match-value_of.needs.toggles x) (slice_index_or (map (λ v. v.items) c.in_ok-segments.segments.items) x [])
          (c.in_ok-segments.ensures.made x h);
      depths = c.match-value_of.needs.depths.ok.0 ∙ depths;
      copies = c.match-value_of.needs.copies.ok.0 ∙ copies;
    }

pub returns-clause-walk : goal.returns-clause-walk
returns-clause-walk c = λ f same own.
    let ls = map line_of c.args.lines.now in
    let fresh = c.in_ok-needs.ensures in
    let long : length (map line_of c.args.lines.now) ≡ length c.args.lines.now = length-map c.args.lines.now line_of in
    let new : AreFresh c.in_ok-needs.needs (map line_of c.args.lines.now) =
    fresh_of c.in_ok-needs.needs ls c.args.count fresh.toggles fresh.changed (fresh.depths ∙ ap (λ n. replicate n 0) (sym long))
    (fresh.copies ∙ ap (λ n. replicate n false) (sym long)) c.requires in
    let known : c.value_of.result ≡ Some f.value =
    c.value_of.ensures ∙ ap (λ n. leave_of (slice_get ls (n - 1))) (sym long)
    ∙ subst (λ z. leave_of (slice_get z (length z - 1)) ≡ Some f.value) same (value_last f) in
    let whole : Walk = record { segments = c.in_ok-segments.segments; depths = c.match-value_of.needs.depths; copies = c.match-value_of.needs.copies } in
    let size : length c.args.lines.now ≡ length (lines f) = sym (ap length same ∙ long) in
    elim c.match-value_of.branch [
      | in-Some+in_ok-walk_lines w ↦
          (let value : f.value ≡ w.in-Some.value = ap value_or (sym known ∙ w.in-Some.is) in
          let walked : AreWalked w.walk_lines.new.needs (lines f) (marks f) = w.in_ok-walk_lines.ensures.walked f same own value new in
          walk_of (lines f) (marks f) c.match-value_of.needs whole c.args.count (subst (λ z. AreWalked z (lines f) (marks f)) (sym w.needs-is) walked)
          c.in_ok-segments.ensures.size
          (λ x h. subst (λ n. IsMadeOf n (bounds_of c.match-value_of.needs.toggles x) (slice_index_or (map (λ v. v.items) c.in_ok-segments.segments.items) x [])) size
          (c.in_ok-segments.ensures.made x h))
          refl refl)
      | in_default w ↦ absurd (let e : Some f.value ≡ None = sym known ∙ w.in_default.is in cc)
    ]
