use Rattle.std.proofs.Common.{◌∷◌, [], ◌++◌, ◌∙◌, ap, slice_index_or, slice_set, arith}
use Rattle.std.proofs.lemmas.List.{length-map}
use Rattle.a_place.proofs.Lists.{put_at}
use Rattle.a_place.proofs.buckets.Buckets.put.Goals as goal

pub returns : goal.returns
returns c =
    put_at (λ list. list.items) c.self.inside.lists.items c.args.index c.args.number c.index_mut.result.now c.push.new.self
    (grind (arith, length-map, c.self.view_is, c.requires)) c.index_mut.ensures.value c.in_ok-push.ensures.ok
    ∙ ap (λ lists. slice_set lists c.args.index (slice_index_or lists c.args.index [] ++ c.args.number ∷ [])) c.self.view_is
