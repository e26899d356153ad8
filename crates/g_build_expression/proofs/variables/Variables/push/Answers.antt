use Rattle.std.proofs.Common.{length, sym, ap, ◌∙◌, arith}
use Rattle.g_build_expression.specs.SlotViews.{slot_of}
use Rattle.g_build_expression.specs.Places.{is_hidden}
use Rattle.g_build_expression.proofs.lemmas.Scopes.{push_keeps}
use Rattle.std.proofs.lemmas.Bool.{not-false}
use Rattle.g_build_expression.proofs.Slots.{length_more}
use Rattle.g_build_expression.proofs.variables.Variables.push.Goals as goal

pub invariant_of-self-2 : goal.invariant_of-self-2
invariant_of-self-2 c =
    let unnamed = not-false (is_hidden (slot_of c.args.variable)) (sym c.is_named.ensures ∙ c.if-is_named.false) in (
      omega (arith, ap length c.in_ok-push.ensures.items, length_more c.self.inside.all.items c.args.variable, c.if-len-ge-MOST.false, c.len.ensures, c.self.inside.all.ok.0),
      push_keeps c.self.inside.all.items c.push.new.self.items c.args.variable c.self.inside.places.items c.self.invariant.1 unnamed c.in_ok-push.ensures.items,
    )
