use Rattle.std.proofs.Common.{◌≡◌, ◌<◌, ◌∷◌, [], ◌++◌, ◌∙◌, ap, length, slice_index_or, slice_set, vec_len, arith}
use Rattle.a_share.proofs.Gets.{put_at}
use Rattle.a_share.proofs.toggles.Toggles.add.Goals as goal

pub returns-in_ok-push : goal.returns-in_ok-push
returns-in_ok-push c =
    let size : vec_len c.self.inside.lists ≡ length c.self.inside.lists.items = c.self.inside.lists.ok.0 in
    let low : c.args.name < length c.self.inside.lists.items = grind (arith, size, c.if-name-len.true, c.len.ensures) in
    put_at (λ list. list.items) c.self.inside.lists.items c.args.name c.args.bound c.index_mut.result.now c.push.new.self low c.index_mut.ensures.value
    c.in_ok-push.ensures.ok
    ∙ ap (λ lists. slice_set lists c.args.name (slice_index_or lists c.args.name [] ++ c.args.bound ∷ [])) c.self.view_is
