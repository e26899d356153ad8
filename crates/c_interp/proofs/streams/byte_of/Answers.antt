use Rattle.std.proofs.Common.{◌++◌, ◌∷◌, [], ◌∙◌, refl, sym, ap, inl, inr}
use Rattle.val_core.specs.declared.values.Value.TheVariants.{Num}
use Rattle.c_interp.proofs.Ports.{last-number, none-there}
use Rattle.c_interp.proofs.streams.byte_of.Goals as goal

pub returns-in_default : goal.returns-in_default
returns-in_default c = inl (none-there c.args.operands.now c.in_default.ensures.cases.0)

pub returns-in_default-number : goal.returns-in_default-number
returns-in_default-number c = inr (c.pop.new.self.items, c.in-Some.v, c.in-Some.ensures.items, sym c.in_default-number.ensures)

pub returns : goal.returns
returns c = (
  c.in-Some-number.w,
  c.pop.new.self.items,
  refl,
  last-number c.args.operands.now.items c.pop.new.self.items c.in-Some.v c.in-Some-number.w c.in-Some.ensures.items (sym c.in-Some-number.ensures),
  c.in_ok-push.ensures.items ∙ ap (λ b. c.pop.new.self.items ++ Num b ∷ []) c.from.ensures,
)
