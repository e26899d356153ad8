-- One more list is in the index.
use Rattle.std.proofs.Common.{Some, length, ap, sym, subst, ◌∙◌, arith}
use Rattle.std.proofs.lemmas.Option.{slice_get-get_or}
use Rattle.g_arena_use.specs.UseCells.{UseCells, with_written}
use Rattle.g_arena_use.specs.Lists.{AreNamedIn}
use Rattle.g_arena_use.specs.Sites.{held}
use Rattle.g_arena_use.proofs.MadeLemmas.{part_within, part_ends, part_more, named_in}
use Rattle.g_arena_use.proofs.use_lists.index_of.Goals as goal

pub put_site-requires-clause-room : goal.put_site-requires-clause-room
put_site-requires-clause-room c =
    let s = c.site-item.result in
    let e = slice_get-get_or c.args.sites.now c.loop-site.site-index s c.loop-site-test.true ∙ ap Some (sym c.site-item.is) in
    part_ends c.args.sites.now c.args.cells c.loop-site.site-index s c.requires.laid c.requires.cells e

pub put_site-requires-clause-within : goal.put_site-requires-clause-within
put_site-requires-clause-within c =
    omega (arith, part_within c.args.names c.args.sites.now c.args.cells c.loop-site.site-index, ap (λ (u : UseCells). length u.cells) c.loop-site.invariant)

pub put_site-requires-clause-named : goal.put_site-requires-clause-named
put_site-requires-clause-named c =
    let s = c.site-item.result in
    let e = slice_get-get_or c.args.sites.now c.loop-site.site-index s c.loop-site-test.true ∙ ap Some (sym c.site-item.is) in
    let P : UseCells → Type 0 = λ u. AreNamedIn u.names s.home s.origins in
    subst P (sym c.loop-site.invariant) (named_in c.args.names c.args.sites.now c.loop-site.site-index s c.requires.named e)

pub loop-site-preserved : goal.loop-site-preserved
loop-site-preserved c =
    let s = c.site-item.result in
    let e = slice_get-get_or c.args.sites.now c.loop-site.site-index s c.loop-site-test.true ∙ ap Some (sym c.site-item.is) in
    part_more c.args.names c.args.sites.now c.args.cells c.loop-site.site-index s c.put_site.new.uses c.requires.laid c.requires.full c.requires.cells e
    (c.put_site.ensures ∙ ap (λ u. with_written u s.cell (held s.home s.origins)) c.loop-site.invariant)
