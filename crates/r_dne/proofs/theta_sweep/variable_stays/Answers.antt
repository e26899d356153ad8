use Rattle.std.proofs.Common.{◌≡◌, ◌+◌, suc, arith, ap, sym, ◌∙◌}
use Rattle.std.specs.Prelude.{if◌then◌else◌, is_some}
use Rattle.g_graph.specs.declared.op.Origin.TheVariants.{Arg}
use Rattle.g_graph.specs.WellFormed.{is_origin}
use Rattle.g_arena_def.specs.Reads.{result_at, kind_in, uses_in}
use Rattle.r_dne.proofs.Loops.{output_there, argument_there, result_there, stays_by_output, stays_by_argument}
use Rattle.r_dne.proofs.theta_sweep.variable_stays.Goals as goal

pub uses-requires : goal.uses-requires
uses-requires g c = output_there c.args.shape c.args.arena.now c.requires.whole c.requires.shape c.requires.theta c.args.index c.requires.within

pub returns-then-stays-clause-stays : goal.returns-then-stays-clause-stays
returns-then-stays-clause-stays g c =
    stays_by_output c.args.shape c.args.arena.now c.requires.whole c.requires.shape c.requires.theta c.args.index c.requires.within c.uses.result.kind c.uses.result.count c.uses.ensures.kind c.uses.ensures.count
    (sym c.stays.ensures ∙ c.if-stays.true)

pub uses-count-requires : goal.uses-count-requires
uses-count-requires g c =
    (λ i. is_some (kind_in (c.place_in-inner.ensures i) (Arg c.args.index) c.args.arena.now))
    ∙ argument_there c.args.shape c.args.arena.now c.requires.whole c.requires.shape c.requires.theta c.args.index c.requires.within

pub own_use-requires-clause-there : goal.own_use-requires-clause-there
own_use-requires-clause-there g c =
    let one : c.args.index + 1 ≡ suc c.args.index = omega arith in
    (λ i. is_some (result_at (c.place_in-inner.ensures i) (one i) c.args.arena.now)) ∙ result_there c.args.shape c.args.arena.now c.requires.whole c.requires.shape c.requires.theta c.args.index c.requires.within

pub returns-clause-stays : goal.returns-clause-stays
returns-clause-stays g c =
    let one : c.args.index + 1 ≡ suc c.args.index = omega arith in
    stays_by_argument c.args.shape c.args.arena.now c.requires.whole c.requires.shape c.requires.theta c.args.index c.requires.within c.uses.result.kind c.uses.result.count c.uses.ensures.kind c.uses.ensures.count
    c.own_use.result c.uses-count.result.count
    (c.own_use.ensures.count ∙ (λ i. if is_origin (result_at (c.place_in-inner.ensures i) (one i) c.args.arena.now) (Arg c.args.index) then 1 else 0))
    (c.uses-count.ensures.count ∙ ap (λ p. uses_in p (Arg c.args.index) c.args.arena.now) c.place_in-inner.ensures)
    (sym c.stays.ensures ∙ c.if-stays.false)
