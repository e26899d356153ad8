use Rattle.std.proofs.Common.{arith, ap, ◌∙◌, take, sym, slice_index_or, slice_set}
use Rattle.std.proofs.lemmas.List.{take_more}
use Rattle.call_order.specs.Search.{all_at}
use Rattle.call_order.proofs.StageLemmas.{all_at-push}
use Rattle.call_order.proofs.stages.put_all.Goals as goal

pub loop-member-preserved : goal.loop-member-preserved
loop-member-preserved c =
    let members = c.args.members.now in
    let i = c.loop-member.member-index in
    let last = slice_index_or members i 0 in
    ap (λ stages. slice_set stages last c.args.stage) c.loop-member.invariant
    ∙ (sym (all_at-push c.args.stages.now (take i members) last c.args.stage)
    ∙ ap (λ js. all_at c.args.stages.now js c.args.stage) (sym (take_more members i 0 (omega arith))))
