use Rattle.indexmap.specs.IndexMap.{get}
use Rattle.c_check_scope.specs.Scopes.{same_name}
use Rattle.c_check_scope.proofs.lemmas.Latest.{last-found, popped}
use Rattle.c_check_scope.proofs.declarations.Declarations.pop.Goals as goal

pub restore-requires : goal.restore-requires
restore-requires g c = last-found (get same_name c.self.inside.latest) c.self.inside.all.items c.pop.new.self.items c.in-Some.last c.self.invariant c.in-Some.ensures.items

pub invariant_of-self : goal.invariant_of-self
invariant_of-self g c =
    popped (get same_name c.self.inside.latest) c.self.inside.all.items c.pop.new.self.items c.in-Some.last c.self.invariant c.in-Some.ensures.items
    (get same_name c.restore.new.latest) c.restore.ensures.0
