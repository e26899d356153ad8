use Rattle.std.proofs.Common.{sym, ap, subst, ◌∙◌, arith}
use Rattle.std.specs.Prelude.{IsSome}
use Rattle.r_edit.specs.Carried.{outer}
use Rattle.g_arena_def.specs.Reads.{result_at}
use Rattle.r_inv.proofs.Asked.{results_there, some_region, none_first, some_first}
use Rattle.r_inv.proofs.carried_sweep.passed.Goals as goal

pub outer_result-requires : goal.outer_result-requires
outer_result-requires g c =
    subst (λ q. IsSome (result_at q c.args.port c.args.arena.now)) (sym c.place_in-start.ensures)
    (results_there c.args.shape c.args.arena.now c.requires.whole c.requires.shape c.requires.gamma c.args.port c.requires.port 0
    (some_region c.args.shape c.args.arena.now c.requires.whole c.requires.shape c.requires.gamma c.args.port c.requires.port))

pub returns-in-None-clause-origin : goal.returns-in-None-clause-origin
returns-in-None-clause-origin g c = λ x e.
    none_first c.args.shape c.args.arena.now c.requires.whole c.requires.shape c.requires.gamma c.args.port c.requires.port x e c.args.inputs.now (c.requires.inputs x e)
    (ap (λ q. outer c.args.inputs.now (result_at q c.args.port c.args.arena.now)) (sym c.place_in-start.ensures) ∙ sym c.in-None.ensures.origin)

pub returns-in-None-clause-looks : goal.returns-in-None-clause-looks
returns-in-None-clause-looks g c =
    omega (arith, c.in-None.ensures.looks, some_region c.args.shape c.args.arena.now c.requires.whole c.requires.shape c.requires.gamma c.args.port c.requires.port)

pub returns-then-all_pass-clause-origin : goal.returns-then-all_pass-clause-origin
returns-then-all_pass-clause-origin g c = λ x e.
    some_first c.args.shape c.args.arena.now c.requires.whole c.requires.shape c.requires.gamma c.args.port c.requires.port x e c.args.inputs.now (c.requires.inputs x e) c.in-Some.first _
    (ap (λ q. outer c.args.inputs.now (result_at q c.args.port c.args.arena.now)) (sym c.place_in-start.ensures) ∙ sym c.in-Some.ensures.origin)
    (sym (c.all_pass.ensures.pass x e) ∙ c.if-all_pass.true)

pub returns-else-all_pass-clause-origin : goal.returns-else-all_pass-clause-origin
returns-else-all_pass-clause-origin g c = λ x e.
    some_first c.args.shape c.args.arena.now c.requires.whole c.requires.shape c.requires.gamma c.args.port c.requires.port x e c.args.inputs.now (c.requires.inputs x e) c.in-Some.first _
    (ap (λ q. outer c.args.inputs.now (result_at q c.args.port c.args.arena.now)) (sym c.place_in-start.ensures) ∙ sym c.in-Some.ensures.origin)
    (sym (c.all_pass.ensures.pass x e) ∙ c.if-all_pass.false)
