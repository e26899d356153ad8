use Rattle.std.proofs.Common.{◌≡◌, ◌∙◌, sym, subst, ap, Some, arith}
use Rattle.std.specs.Prelude.{slice_get}
use Rattle.std.proofs.lemmas.Option.{slice_get_read}
use Rattle.a_share.specs.Facts.{line_number, segments_of}
use Rattle.a_share.specs.Held.{IsHeld}
use Rattle.a_share.specs.Giving.{having}
use Rattle.a_share.proofs.Tables.{read_list}
use Rattle.a_share.proofs.Placing.{fits_made, segments_within}
use Rattle.a_share.proofs.giving.Giving.fits.Goals as goal

pub meets-requires-clause-segments : goal.meets-requires-clause-segments
meets-requires-clause-segments c =
    let F = c.args.facts.now in
    let h = c.index-held.result.now in
    let held : IsHeld (line_number F) h = subst (IsHeld (line_number F)) (sym c.index-held.ensures) (c.requires.ready.each c.args.place h c.requires.place) in
    let read : c.as_slice-segments.result.now ≡ segments_of F c.args.name =
    c.as_slice-segments.ensures
    ∙ read_list (λ v. v.items) F.walk.segments.items c.args.name c.index.result.now (omega (arith, c.requires.name, F.walk.segments.ok.0)) c.index.ensures in
    segments_within F c.args.name h.firsts.size c.as_slice-segments.result.now c.requires.facts c.requires.name held.firsts_size read

pub returns : goal.returns
returns c =
    let F = c.args.facts.now in
    let g = c.args.self.now in
    let h = c.index-held.result.now in
    let there : slice_get g.held.items c.args.place ≡ Some h =
    slice_get_read g.held.items 31 c.args.place h (omega (arith, c.requires.ready.held, g.held.ok.0)) c.requires.place c.index-held.ensures in
    let read : c.as_slice-segments.result.now ≡ segments_of F c.args.name =
    c.as_slice-segments.ensures
    ∙ read_list (λ v. v.items) F.walk.segments.items c.args.name c.index.result.now (omega (arith, c.requires.name, F.walk.segments.ok.0)) c.index.ensures in
    c.meets.ensures
    ∙ fits_made F c.args.name g c.args.place h c.as_slice-segments.result.now c.get-2.result.now c.having-copies.result there (sym c.loses.ensures ∙ c.if-loses.false)
    (sym c.is_crowded.ensures ∙ c.if-is_crowded.false) read c.get-2.ensures (c.having-copies.ensures ∙ ap (having g c.args.place) c.get.ensures)
