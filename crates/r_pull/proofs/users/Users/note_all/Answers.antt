-- One origin more.
use Rattle.std.proofs.Common.{◌+◌, List, drop, drop_of_length-le, sym, ap, ◌∙◌}
use Rattle.std.proofs.lemmas.List.{at_drop_more}
use Rattle.g_graph.specs.declared.op.Origin.{Origin}
use Rattle.r_pull.specs.declared.users.User.{User}
use Rattle.r_pull.specs.Users.{both_use, used_by, user_in}
use Rattle.r_pull.proofs.Uses.{no_origin, more_origins}
use Rattle.r_pull.proofs.users.Users.note_all.Goals as goal

pub loop-origin-preserved : goal.loop-origin-preserved
loop-origin-preserved c = λ n.
    let items = c.args.origins.now in
    let i = c.loop-origin.origin-index in
    let whole : List Origin → User = λ xs. both_use (user_in c.loop-origin.self n) (used_by n c.args.user xs) in
    more_origins n c.args.user (user_in c.loop-origin.self n) (user_in c.note.new.self n) _ (drop (i + 1) items) (c.in_ok-note.ensures n)
    ∙ sym (at_drop_more whole items i _ c.loop-origin-test.true) ∙ c.loop-origin.invariant n

pub returns : goal.returns
returns c = λ n.
    let user = user_in c.loop-origin.self n in
    no_origin n user c.args.user ∙ ap (λ xs. both_use user (used_by n c.args.user xs)) (sym (drop_of_length-le c.args.origins.now c.loop-origin-test.false)) ∙ c.loop-origin.invariant n
