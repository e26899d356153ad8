use Rattle.std.proofs.Common.{◌≡◌, ◌≤◌, arith, ap, subst, ◌∙◌, sym}
use Rattle.std.specs.Prelude.{IsSome}
use Rattle.g_graph.specs.declared.op.Origin.{Origin}
use Rattle.g_arena_def.specs.Reads.{kind_in, uses_in}
use Rattle.r_sweep.specs.Removals.{uses_changed}
use Rattle.r_sweep.proofs.lemmas.Moves.{kinds_still, uses_left}
use Rattle.r_sweep.proofs.moving.move_uses.Goals as goal

pub change_use-requires-clause-used : goal.change_use-requires-clause-used
change_use-requires-clause-used g c =
    let within : c.loop-i._i ≤ uses_in c.args.home c.args.from c.args.arena.now = omega arith in
    let left = uses_left c.args.home c.args.from c.args.to c.requires.other c.loop-i._i c.args.arena.now within in
    omega (arith, left, ap (uses_in c.args.home c.args.from) c.loop-i.invariant.changed)

pub change_use-requires-clause-there : goal.change_use-requires-clause-there
change_use-requires-clause-there g c =
    subst (λ k. IsSome k) (sym (ap (kind_in c.args.home c.args.to) c.loop-i.invariant.changed ∙ kinds_still c.args.home c.args.from c.args.to c.args.home c.args.to c.loop-i._i c.args.arena.now)) c.requires.there

pub change_use-requires-clause-kinds : goal.change_use-requires-clause-kinds
change_use-requires-clause-kinds g c =
    let still = λ (o : Origin). ap (kind_in c.args.home o) c.loop-i.invariant.changed ∙ kinds_still c.args.home c.args.from c.args.to c.args.home o c.loop-i._i c.args.arena.now in
    still c.args.from ∙ c.requires.kinds ∙ sym (still c.args.to)

pub returns : goal.returns
returns g c =
    let all : c.loop-i._i ≡ c.args.count = omega arith in
    record {
      moved = c.loop-i.invariant.changed ∙ ap (λ k. uses_changed c.args.home c.args.from c.args.to k c.args.arena.now) (all ∙ c.requires.count);
      looks = omega arith;
    }
