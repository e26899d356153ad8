use Rattle.std.proofs.Common.{◌≡◌, Bool, true, [], ◌∷◌, ◌++◌, length, ap, ◌∙◌, arith}
use Rattle.std.specs.Prelude.{not, is_ok, if◌then◌else◌}
use Rattle.g_build_expression.proofs.lemmas.Scopes.{push_adds, same_length}
use Rattle.g_build_expression.proofs.Slots.{length_more}
use Rattle.g_build_expression.proofs.variables.Variables.push_named.Goals as goal

pub invariant_of-self-else-is_err : goal.invariant_of-self-else-is_err
invariant_of-self-else-is_err c =
    let did : is_ok c.push-2.result ≡ true = c.is_err.ensures.negation ∙ ap not c.if-is_err.false in
    let all : c.push-2.new.self.items ≡ c.self.inside.all.items ++ c.args.variable ∷ [] =
    c.push-2.ensures.items ∙ ap (λ (b : Bool). if b then (c.self.inside.all.items ++ c.args.variable ∷ []) else c.self.inside.all.items) did in
    let count : c.len.result ≡ length c.self.inside.all.items = c.len.ensures ∙ c.self.inside.all.ok.0 in (
      omega (arith, ap length all, length_more c.self.inside.all.items c.args.variable, c.requires.room, ap length c.self.view_is, same_length c.self.inside.all.items),
      push_adds c.self.inside.all.items c.push-2.new.self.items c.args.variable c.self.inside.places.items c.push.new.self.items c.len.result c.self.invariant.1 c.requires.named
          all count c.in_ok-push.ensures.items,
    )
