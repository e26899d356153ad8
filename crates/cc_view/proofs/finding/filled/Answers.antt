use Rattle.std.proofs.Common.{◌≡◌, ◌+◌, ℕ, List, Option, length, set, slice_index_or, refl, ap, sym, subst, ◌∙◌, arith}
use Rattle.std.proofs.lemmas.Option.{slice_get_read}
use Rattle.std.proofs.lemmas.List.Elements.{Contains-get_or}
use Rattle.g_pass_order.specs.Calls.{region_calls}
use Rattle.cc_view.specs.Depths.{most_of, with_frame}
use Rattle.cc_view.specs.Turns.{IsFilled}
use Rattle.cc_view.proofs.Filling.{filled-more, filled-all}
use Rattle.cc_view.proofs.finding.filled.Goals as goal

pub bounds-lambdas-function : goal.bounds-lambdas-function
bounds-lambdas-function c = c.requires.turns.inside _ (Contains-get_or c.args.turns.now c.loop-turn.turn-index 0 c.loop-turn-test.true)

pub bounds-frames-function : goal.bounds-frames-function
bounds-frames-function c =
    let low = c.requires.turns.inside _ (Contains-get_or c.args.turns.now c.loop-turn.turn-index 0 c.loop-turn-test.true) in
    omega (arith, low, c.requires.framed)

pub index_mut-requires : goal.index_mut-requires
index_mut-requires c =
    let low = c.requires.turns.inside _ (Contains-get_or c.args.turns.now c.loop-turn.turn-index 0 c.loop-turn-test.true) in
    omega (arith, low, c.loop-turn.invariant.counted)

pub loop-turn-preserved : goal.loop-turn-preserved
loop-turn-preserved c =
    let ls = c.args.lambdas.now in
    let sizes = c.args.frames.now in
    let turns = c.args.turns.now in
    let t = c.loop-turn.turn-index in
    let f = slice_index_or turns t 0 in
    let l = c.index-lambdas-function.result in
    let depths = c.loop-turn.depths.items in
    let low = c.requires.turns.inside f (Contains-get_or turns t 0 c.loop-turn-test.true) in
    let at = slice_get_read ls (length ls) f l refl low c.index-lambdas-function.is in
    let small = (c.type_inv.frames f).fits in
    let is : c.depth_of-depth.result ≡ with_frame (slice_index_or sizes f 0) (most_of depths (region_calls l.body)) =
    c.depth_of-depth.ensures ∙ ap (λ (ds : List (Option ℕ)). with_frame (slice_index_or sizes f 0) (most_of ds (region_calls l.body))) c.as_slice.ensures.value in
    subst (λ (v : Option ℕ). IsFilled ls sizes turns (t + 1) (set depths f v)) (sym is)
    (filled-more ls sizes turns t f l depths c.requires.turns c.loop-turn-test.true refl at small c.loop-turn.invariant)

pub returns : goal.returns
returns c =
    filled-all c.args.lambdas.now c.args.frames.now c.args.turns.now c.loop-turn.turn-index c.loop-turn.depths.items c.requires.turns (omega (arith, c.loop-turn-test.false)) c.loop-turn.invariant
