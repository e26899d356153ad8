use Rattle.std.proofs.Common.{◌≡◌, ◌<◌, ◌++◌, ◌∷◌, [], length, sym, ap, ◌∙◌, arith}
use Rattle.std.specs.Option.{option_to_list}
use Rattle.std.proofs.lemmas.Bool.Decides.{nat_tests}
use Rattle.c_typed.specs.Typed.{initial_elements}
use Rattle.c_check_declaration.specs.Pieces.{trees_of, value_or_elements}
use Rattle.c_check_declaration.proofs.PieceLemmas.{not-lone}
use Rattle.c_check_declaration.proofs.pieces.value_or_elements.Goals as goal

pub returns-in_ok-elements-in-Some : goal.returns-in_ok-elements-in-Some
returns-in_ok-elements-in-Some c =
    let some : 0 < length c.pop.new.self.items = grind (arith, nat_tests, c.pop.new.self.ok.0) in
    let many = not-lone c.pop.new.self.items c.in-Some.last some in
    let whole : c.args.pieces.items ≡ c.pop.new.self.items ++ c.in-Some.last ∷ [] =
    c.pop.ensures.items ∙ ap (λ o. c.pop.new.self.items ++ option_to_list o) c.in-Some.is in
    ap initial_elements (c.in_ok-elements-in-Some.ensures ∙ ap trees_of c.in_ok-push-in-Some.ensures.items)
    ∙ sym many ∙ ap (λ ps. value_or_elements (trees_of ps)) (sym whole)
