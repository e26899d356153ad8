use Rattle.std.proofs.Common.{◌∙◌, ap, reverse}
use Rattle.c_check_scope.specs.Scopes.{is_declared}
use Rattle.c_check_scope.proofs.ScopesLemmas.{few, innermost}
use Rattle.c_check_scope.proofs.scopes.Scopes.is_declared.Goals as goal

pub is_among_latest-requires : goal.is_among_latest-requires
is_among_latest-requires g c = few c.self.inside.declarations c.self.inside.count (reverse c.self.inside.outer.items) c.self.invariant

pub returns : goal.returns
returns g c =
    let s = c.self.inside in
    let name = c.args.name.now in
    c.is_among_latest.ensures.value ∙ innermost s.declarations s.count (reverse s.outer.items) name ∙ ap (λ scopes. is_declared scopes name) c.self.view_is
