use Rattle.std.proofs.Common.{◌<◌, ◌≤◌, arith, ap, subst, ◌∙◌, sym}
use Rattle.std.specs.Prelude.{IsSome}
use Rattle.g_graph.specs.declared.op.Origin.TheVariants.{Arg}
use Rattle.g_arena_def.specs.Flat.{Flat, place_in}
use Rattle.g_arena_def.specs.Reads.{found, kind_in, uses_in}
use Rattle.r_dne.proofs.EntryJudged.{part_there, part_uses, part_input}
use Rattle.r_dne.proofs.gamma_sweep.remove_entry.Goals as goal

pub remove_argument-requires-clause-there : goal.remove_argument-requires-clause-there
remove_argument-requires-clause-there g c =
    let within : c.loop-region.region < c.args.shape.regions = omega arith in
    subst (λ q. IsSome (kind_in q (Arg c.args.index) c.loop-region.arena)) (sym c.place_in.ensures)
    (subst (λ a. IsSome (kind_in (place_in c.args.shape.node c.loop-region.region) (Arg c.args.index) a)) (sym c.loop-region.invariant.gone)
    (part_there c.args.shape.node c.args.shape.regions c.args.index c.loop-region.region c.args.arena.now c.requires.entries within))

pub remove_argument-requires-clause-unused : goal.remove_argument-requires-clause-unused
remove_argument-requires-clause-unused g c =
    let within : c.loop-region.region < c.args.shape.regions = omega arith in
    ap (λ q. uses_in q (Arg c.args.index) c.loop-region.arena) c.place_in.ensures ∙ ap (uses_in (place_in c.args.shape.node c.loop-region.region) (Arg c.args.index)) c.loop-region.invariant.gone
    ∙ part_uses c.args.shape.node c.args.shape.regions c.args.index c.loop-region.region c.args.arena.now c.requires.entries within ∙ c.requires.unused c.loop-region.region within

pub remove_input-requires : goal.remove_input-requires
remove_input-requires g c =
    let all : c.loop-region.region ≤ c.args.shape.regions = omega arith in
    let t = part_input c.args.shape.node c.args.shape.regions c.args.index c.loop-region.region c.args.arena.now c.requires.entries all in
    (t.0, ap (λ (a : Flat). found c.args.shape.node a.nodes) c.loop-region.invariant.gone ∙ t.1, omega (arith, t.2))
