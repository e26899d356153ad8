use Rattle.std.proofs.Common.{◌+◌, ◌∙◌, ap, sym, subst, reverse, arith}
use Rattle.c_check_scope.specs.Scopes.{with_declaration}
use Rattle.c_check_scope.specs.Nested.{scopes_of, AreCounted}
use Rattle.c_check_scope.proofs.ScopesLemmas.{few, counted-more, scopes-more}
use Rattle.c_check_scope.proofs.scopes.Scopes.bind.Goals as goal

pub overflow_add-self : goal.overflow_add-self
overflow_add-self g c =
    let h = few c.self.inside.declarations c.self.inside.count (reverse c.self.inside.outer.items) c.self.invariant in
    omega (arith, h, c.in_ok-push.ensures.small)

pub invariant_of-self-2 : goal.invariant_of-self-2
invariant_of-self-2 g c =
    let s = c.self.inside in
    let ns = reverse s.outer.items in
    subst (λ ds. AreCounted ds (s.count + 1) ns) (sym c.in_ok-push.ensures.ok) (counted-more s.declarations s.count ns (c.args.name.now, c.args.meaning) c.self.invariant)

pub returns-clause-ok : goal.returns-clause-ok
returns-clause-ok g c =
    let s = c.self.inside in
    let ns = reverse s.outer.items in
    let name = c.args.name.now in
    ap (λ ds. scopes_of ds (s.count + 1) ns) c.in_ok-push.ensures.ok ∙ scopes-more s.declarations s.count ns name c.args.meaning
    ∙ ap (λ scopes. with_declaration scopes name c.args.meaning) c.self.view_is
