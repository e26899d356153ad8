use Rattle.std.proofs.Common.{◌≡◌, ◌+◌, ◌<◌, suc, arith, ap, subst, ◌∙◌, sym}
use Rattle.std.specs.Prelude.{IsSome}
use Rattle.g_arena_def.specs.Flat.{place_in}
use Rattle.g_arena_def.specs.Reads.{result_at}
use Rattle.g_arena_def.specs.Edits.{result_removed, output_removed}
use Rattle.r_sweep.specs.Removals.{each_of}
use Rattle.r_sweep.proofs.ExitLemmas.{result_there}
use Rattle.r_sweep.proofs.exits.remove_exit.Goals as goal

pub remove_output-requires : goal.remove_output-requires
remove_output-requires g c =
    let h = c.requires in (h.node, h.there, h.output, h.unused)

pub remove_result-requires : goal.remove_result-requires
remove_result-requires g c =
    let within : c.loop-region.region < c.args.regions = omega arith in
    subst (λ p. IsSome (result_at p c.args.port c.loop-region.arena)) (sym c.place_in.ensures)
    (subst (λ a. IsSome (result_at (place_in c.args.node c.loop-region.region) c.args.port a)) (sym c.loop-region.invariant.gone)
    (result_there c.args.node c.args.regions c.args.port c.args.arena.now c.requires c.loop-region.region within))

pub loop-region-preserved : goal.loop-region-preserved
loop-region-preserved g c =
    let one : suc c.loop-region.region ≡ c.loop-region.region + 1 = omega arith in
    record {
      gone = c.remove_result.ensures.removed ∙ (λ i. result_removed (c.place_in.ensures i) c.args.port (c.loop-region.invariant.gone i))
          ∙ ap (λ k. each_of (λ j. result_removed (place_in c.args.node j) c.args.port) k (output_removed c.args.node c.args.port c.args.arena.now)) one;
      looks = omega arith;
    }

pub returns : goal.returns
returns g c =
    let all : c.loop-region.region ≡ c.args.regions = omega arith in
    record {
      gone = c.loop-region.invariant.gone ∙ ap (λ k. each_of (λ j. result_removed (place_in c.args.node j) c.args.port) k (output_removed c.args.node c.args.port c.args.arena.now)) all;
      looks = omega arith;
    }
