use Rattle.std.proofs.Common.{ℕ, Option, refl, subst}
use Rattle.std.proofs.lemmas.Result.{on_ok_weaker}
use Rattle.cc_view.specs.Explanation.{depth_line, recursive_line, IsStackLine}
use Rattle.cc_view.proofs.accepted.push_stack_of.Goals as goal

pub returns-in-Some : goal.returns-in-Some
returns-in-Some c =
    let names = c.args.names.now in
    let depth = c.in-Some.depth in
    on_ok_weaker c.push_chain.result
    (λ h. (depth_line names depth h.0, subst (λ (o : Option ℕ). IsStackLine names o (depth_line names depth h.0)) c.in-Some.ensures (h.0, refl), h.1)) c.push_chain.ensures

pub returns-in-None : goal.returns-in-None
returns-in-None c =
    let names = c.args.names.now in
    on_ok_weaker c.push_cycles.result
    (λ h. (recursive_line names h.0, subst (λ (o : Option ℕ). IsStackLine names o (recursive_line names h.0)) c.in-None.ensures (h.0, refl), h.1)) c.push_cycles.ensures
