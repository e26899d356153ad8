use Rattle.std.proofs.Common.{◌≡◌, ◌∙◌, ap, replicate, sym, refl, rules}
use Rattle.a_place.proofs.Steps.{at_first}
use Rattle.a_place.proofs.sweep.Sweep.new.Goals as goal

pub returns-clause-sweep : goal.returns-clause-sweep
returns-clause-sweep c =
    let zeros : c.in_ok-vec.field-0.items ≡ replicate c.args.names 0 = search rules in
    λ ls names. at_first ls c.args.lines _ (zeros ∙ ap (λ n. replicate n 0) (sym names)) refl c.new.ensures.empty c.in_ok-new.ensures
