use Rattle.std.proofs.Common.{◌≡◌, drop, map, refl, sym, ap, ◌∙◌, arith}
use Rattle.std.specs.Prelude.{true}
use Rattle.g_graph.specs.declared.op.Origin.{Origin}
use Rattle.g_build_def.specs.Writer.{Built, hidden, pushed, nothing, bind}
use Rattle.g_build_def.specs.Operations.{const_made}
use Rattle.g_build_def.specs.Switch.{groups_moved, from_made}
use Rattle.g_build_expression.specs.Work.{made, moved_to}
use Rattle.g_build_expression.proofs.lemmas.Made.{bind_makes, moved_made, made_given, on_ok}
use Rattle.g_build.specs.LabelViews.{label_of}
use Rattle.g_build.proofs.Segments.{moved_end, drop_map}
use Rattle.std.proofs.lemmas.List.{length-map}
use Rattle.g_build.proofs.select.begin_several.Goals as goal

pub returns : goal.returns
returns c =
    let w = c.args.b.now in
    let v : Unit {0} = tt in
    let w1 = c.constant.new.self in
    let wk = c.loop-k.b in
    let d = c.args.default in
    let ls = map label_of c.args.labels.now in
    let qs = c.args.equals.now in
    let n = c.loop-k.number in
    let k = c.loop-k.k in
    let ended = ap (λ xs. groups_moved d xs (drop k qs) n wk.point) (drop_map label_of c.args.labels.now k)
    ∙ moved_end ls qs k d n wk.point (omega (arith, c.loop-k-test.false, c.min-count.ensures, length-map c.args.labels.now label_of)) in
    let work : wk ≡ made w1 (groups_moved d ls qs c.in_ok-number.number w1.point) = sym (ap (made wk) ended ∙ made_given wk n) ∙ c.loop-k.invariant.work in
    let value = sym (ap (λ (b : Built Origin). b.value) ended) ∙ c.loop-k.invariant.value in
    on_ok c.push_variable.result (c.push_variable.new.self ≡ moved_to wk (pushed (hidden n) wk.point)) (c.push_variable.new.self ≡ made w (from_made true d ls qs w.point)) c.push_variable.ensures
    (λ e.
    (bind_makes w w1 c.push_variable.new.self (const_made d w.point) (λ m t. bind (groups_moved d ls qs m t) (λ o u. nothing (pushed (hidden o) u))) c.in_ok-number.number tt
    (record { work = c.in_ok-number.ensures.work; value = c.in_ok-number.ensures.value })
    (bind_makes w1 wk c.push_variable.new.self (groups_moved d ls qs c.in_ok-number.number w1.point) (λ o u. nothing (pushed (hidden o) u)) n tt (record { work = work; value = value })
    (record { work = e ∙ sym (moved_made wk v (pushed (hidden n) wk.point)); value = refl }))).work)
