use Rattle.std.proofs.Common.{◌-◌, length, take, sym, ap, ◌∙◌, arith}
use Rattle.g_build_def.specs.Writer.{without_newest}
use Rattle.g_build_expression.specs.SlotViews.{slot_of}
use Rattle.g_build_expression.specs.Places.{is_hidden}
use Rattle.g_build_expression.proofs.lemmas.Scopes.{pop_drops, pop_keeps, popped_is}
use Rattle.std.proofs.lemmas.Bool.{not-true, not-false}
use Rattle.g_build_expression.proofs.Slots.{length_more}
use Rattle.g_build_expression.proofs.variables.Variables.pop.Goals as goal

pub invariant_of-self-then-is_named : goal.invariant_of-self-then-is_named
invariant_of-self-then-is_named c =
    let named = not-true (is_hidden (slot_of c.in-Some.variable)) (sym c.is_named.ensures ∙ c.if-is_named.true) in
    let rest = c.pop-then-is_named.ensures.rest ∙ ap (λ n. take (n - 1) c.self.inside.places.items) c.self.inside.places.ok.0 in (
      omega (arith, c.self.invariant.0, ap length c.in-Some.ensures.items, length_more c.pop.new.self.items c.in-Some.variable),
      pop_drops c.self.inside.all.items c.pop.new.self.items c.in-Some.variable c.self.inside.places.items c.pop-then-is_named.new.self.items c.self.invariant.1 named c.in-Some.ensures.items rest,
    )

pub invariant_of-self-else-is_named : goal.invariant_of-self-else-is_named
invariant_of-self-else-is_named c =
    let unnamed = not-false (is_hidden (slot_of c.in-Some.variable)) (sym c.is_named.ensures ∙ c.if-is_named.false) in (
      omega (arith, c.self.invariant.0, ap length c.in-Some.ensures.items, length_more c.pop.new.self.items c.in-Some.variable),
      pop_keeps c.self.inside.all.items c.pop.new.self.items c.in-Some.variable c.self.inside.places.items c.self.invariant.1 unnamed c.in-Some.ensures.items,
    )

pub returns-then-is_named : goal.returns-then-is_named
returns-then-is_named c = popped_is c.self.inside.all.items c.pop.new.self.items c.in-Some.variable c.in-Some.ensures.items ∙ ap without_newest c.self.view_is

pub returns-else-is_named : goal.returns-else-is_named
returns-else-is_named c = popped_is c.self.inside.all.items c.pop.new.self.items c.in-Some.variable c.in-Some.ensures.items ∙ ap without_newest c.self.view_is
