use Rattle.std.proofs.Common.{◌∙◌, ap, reverse}
use Rattle.c_check_scope.specs.Scopes.{meaning}
use Rattle.c_check_scope.proofs.ScopesLemmas.{meaning-latest}
use Rattle.c_check_scope.proofs.scopes.Scopes.lookup.Goals as goal

pub returns : goal.returns
returns g c =
    let s = c.self.inside in
    let name = c.args.name.now in
    c.lookup.ensures ∙ meaning-latest s.declarations s.count (reverse s.outer.items) name c.self.invariant ∙ ap (λ scopes. meaning scopes name) c.self.view_is
