use Rattle.std.proofs.Common.{◌≡◌, ◌∙◌, [], None, ap, sym, drop, arith}
use Rattle.std.proofs.lemmas.List.{drop-drop}
use Rattle.c_check_scope.specs.Scopes.{outer}
use Rattle.c_check_scope.proofs.ScopesLemmas.{no-elements, if-none, counted-less, scopes-less}
use Rattle.c_check_scope.proofs.scopes.Scopes.leave.Goals as goal

-- where no scope is around the innermost one, none is left
none : (g : _) (c : goal.After-self-1 g) → c.pop-2.result ≡ None → c.pop-2.new.self.items ≡ []
none g c is = no-elements c.pop-2.new.self.items (sym c.pop-2.new.self.ok.0 ∙ if-none _ _ _ c.pop-2.result c.pop-2.ensures.cases is)

-- its declarations are gone
left : (g : _) (c : goal.After-self-1 g) → c.loop-i.self-inside.declarations ≡ drop c.self.inside.count c.self.inside.declarations
left g c = c.loop-i.invariant.0 ∙ ap (λ i. drop i c.self.inside.declarations) (omega (arith, c.loop-i.auto._i-end, c.loop-i-test.false))

pub loop-i-preserved : goal.loop-i-preserved
loop-i-preserved g c = (c.pop.ensures ∙ ap (drop 1) c.loop-i.invariant.0 ∙ drop-drop 1 c.loop-i._i c.self.inside.declarations, c.loop-i.invariant.1)

pub invariant_of-self : goal.invariant_of-self
invariant_of-self g c =
    let s = c.self.inside in
    counted-less s.declarations c.loop-i.self-inside.declarations s.count c.unwrap_or-self-inside.result s.outer.items c.pop-2.new.self.items c.pop-2.result (left g c)
    (sym c.loop-i.invariant.1 ∙ c.pop-2.ensures.items) c.unwrap_or-self-inside.ensures (none g c) c.self.invariant

pub returns : goal.returns
returns g c =
    let s = c.self.inside in
    scopes-less s.declarations c.loop-i.self-inside.declarations s.count c.unwrap_or-self-inside.result s.outer.items c.pop-2.new.self.items c.pop-2.result (left g c)
    (sym c.loop-i.invariant.1 ∙ c.pop-2.ensures.items) c.unwrap_or-self-inside.ensures (none g c)
    ∙ ap outer c.self.view_is
