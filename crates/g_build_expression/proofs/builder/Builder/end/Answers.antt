use Rattle.std.proofs.Common.{◌∙◌, ap, sym}
use Rattle.std.specs.Prelude.{Some}
use Rattle.g_build_expression.specs.Work.{carried_from}
use Rattle.g_build_expression.proofs.Ends.{ended_is}
use Rattle.g_build_expression.proofs.builder.Builder.end.Goals as goal

pub returns-in_ok-rename-in-Some-clause-work : goal.returns-in_ok-rename-in-Some-clause-work
returns-in_ok-rename-in-Some-clause-work c =
    let after = c.in_ok-rename-in-Some.ensures ∙ ap (λ n. carried_from (Some c.in-Some.id) n c.end_node.new.self) c.extra_count.ensures.value in
    ended_is c.args.op c.args.extra c.args.self.now c.end_node.new.self c.rename.new.self c.in-Some.id after c.in_ok-id.ensures.work (sym c.in-Some.is ∙ c.in_ok-id.ensures.id)
