use Rattle.std.proofs.Common.{◌+◌, Some, sym, ap, subst, ◌∙◌}
use Rattle.std.specs.Prelude.{IsSome}
use Rattle.g_arena_def.specs.Reads.{result_at}
use Rattle.r_inv.proofs.Asked.{origin_there, own_result_there, no_value, value_kept}
use Rattle.r_inv.proofs.carried_sweep.kept.Goals as goal

pub uses-requires : goal.uses-requires
uses-requires g c = origin_there c.args.shape c.args.arena.now c.requires.whole c.requires.shape c.args.port c.requires.port

pub returns-then-not-is_value-clause-origin : goal.returns-then-not-is_value-clause-origin
returns-then-not-is_value-clause-origin g c = λ x e.
    no_value c.args.shape c.args.arena.now c.requires.whole c.requires.shape c.requires.theta c.args.port c.requires.port x e c.uses.result.kind c.uses.ensures.kind
    (sym c.is_value.ensures ∙ c.if-not-is_value.true)

pub result-own-requires : goal.result-own-requires
result-own-requires g c =
    subst (λ q. IsSome (result_at q (c.args.port + 1) c.args.arena.now)) (sym c.place_in.ensures)
    (own_result_there c.args.shape c.args.arena.now c.requires.whole c.requires.shape c.requires.theta c.args.port c.requires.port)

pub returns-clause-origin : goal.returns-clause-origin
returns-clause-origin g c = λ x e.
    value_kept c.args.shape c.args.arena.now c.requires.whole c.requires.shape c.requires.theta c.args.port c.requires.port x e c.uses.result.kind c.uses.ensures.kind
    (sym c.is_value.ensures ∙ c.if-not-is_value.false) c.args.inputs.now (c.requires.inputs x e) c.result-own.result
    (ap (λ q. result_at q (c.args.port + 1) c.args.arena.now) (sym c.place_in.ensures) ∙ c.result-own.ensures.origin) ∙ ap Some (sym c.input_of.ensures)
