use Rattle.std.proofs.Common.{◌≡◌, ◌∙◌, length, None, Some, if◌then◌else◌, ap, sym}
use Rattle.c_check_def.specs.State.{Declared}
use Rattle.c_check_def.specs.Calls.{call_term}
use Rattle.c_check_term.proofs.PassingLemmas.{unfit}
use Rattle.c_check_term.proofs.calls.call_made.Goals as goal

pub returns-then-len : goal.returns-then-len
returns-then-len c =
    let f = c.args.f.now in
    let xs = c.args.xs.items in
    let params = c.len.ensures ∙ c.f.inside.params.ok.0 ∙ ap (λ (d : Declared). length d.params) c.f.view_is in
    let apart = λ (same : length f.params ≡ length xs). c.if-len.true (params ∙ same ∙ sym (c.len-2.ensures ∙ c.args.xs.ok.0)) in
    ap (λ b. if b then Some (call_term c.args.callee f xs) else None) (sym (unfit f.params xs apart))
