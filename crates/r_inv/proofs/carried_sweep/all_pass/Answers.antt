use Rattle.std.proofs.Common.{◌≡◌, true, false, ◌+◌, ◌&&◌, sym, ap, subst, ◌∙◌, arith}
use Rattle.std.specs.Prelude.{IsSome}
use Rattle.r_edit.specs.Carried.{outer}
use Rattle.g_graph.specs.WellFormed.{is_origin}
use Rattle.g_arena_def.specs.Flat.{place_in}
use Rattle.g_arena_def.specs.Reads.{result_at}
use Rattle.r_inv.proofs.Asked.{results_there, some_region, left, next_region, none_left}
use Rattle.r_inv.proofs.carried_sweep.all_pass.Goals as goal

pub outer_result-other-requires : goal.outer_result-other-requires
outer_result-other-requires g c =
    subst (λ q. IsSome (result_at q c.args.port c.args.arena.now)) (sym c.place_in-place.ensures)
    (results_there c.args.shape c.args.arena.now c.requires.whole c.requires.shape c.requires.gamma c.args.port c.requires.port c.loop-region.region c.loop-region-test.true)

pub returns-then-not-is_origin-clause-pass : goal.returns-then-not-is_origin-clause-pass
returns-then-not-is_origin-clause-pass g c = λ x e.
    let here : is_origin (outer c.args.inputs.now (result_at (place_in c.args.shape.node c.loop-region.region) c.args.port c.args.arena.now)) c.args.origin ≡ false =
    ap (λ q. is_origin (outer c.args.inputs.now (result_at q c.args.port c.args.arena.now)) c.args.origin) (sym c.place_in-place.ensures)
    ∙ ap (λ o. is_origin o c.args.origin) (sym c.outer_result-other.ensures.origin) ∙ sym c.is_origin.ensures ∙ c.if-not-is_origin.true in
    sym (sym (c.loop-region.invariant.same x e)
    ∙ next_region c.args.shape c.args.arena.now c.requires.whole c.requires.shape c.requires.gamma c.args.port c.requires.port x e c.args.inputs.now c.args.origin c.loop-region.region c.loop-region-test.true
    ∙ ap (λ t. t && left c.args.shape c.args.arena.now c.requires.whole c.requires.shape c.requires.gamma c.args.port c.requires.port x e c.args.inputs.now c.args.origin (c.loop-region.region + 1)) here)

pub loop-region-preserved : goal.loop-region-preserved
loop-region-preserved g c = record {
  same = λ x e.
      let here : is_origin (outer c.args.inputs.now (result_at (place_in c.args.shape.node c.loop-region.region) c.args.port c.args.arena.now)) c.args.origin ≡ true =
      ap (λ q. is_origin (outer c.args.inputs.now (result_at q c.args.port c.args.arena.now)) c.args.origin) (sym c.place_in-place.ensures)
      ∙ ap (λ o. is_origin o c.args.origin) (sym c.outer_result-other.ensures.origin) ∙ sym c.is_origin.ensures ∙ c.if-not-is_origin.false in
      sym (next_region c.args.shape c.args.arena.now c.requires.whole c.requires.shape c.requires.gamma c.args.port c.requires.port x e c.args.inputs.now c.args.origin c.loop-region.region c.loop-region-test.true
      ∙ ap (λ t. t && left c.args.shape c.args.arena.now c.requires.whole c.requires.shape c.requires.gamma c.args.port c.requires.port x e c.args.inputs.now c.args.origin (c.loop-region.region + 1)) here)
      ∙ c.loop-region.invariant.same x e;
  looks = omega arith;
}

pub returns-clause-pass : goal.returns-clause-pass
returns-clause-pass g c = λ x e.
    let some = some_region c.args.shape c.args.arena.now c.requires.whole c.requires.shape c.requires.gamma c.args.port c.requires.port in
    sym (sym (c.loop-region.invariant.same x e)
    ∙ none_left c.args.shape c.args.arena.now c.requires.whole c.requires.shape c.requires.gamma c.args.port c.requires.port x e c.args.inputs.now c.args.origin c.loop-region.region (omega (arith, some)))

pub returns-clause-looks : goal.returns-clause-looks
returns-clause-looks g c =
    omega (arith, some_region c.args.shape c.args.arena.now c.requires.whole c.requires.shape c.requires.gamma c.args.port c.requires.port)
