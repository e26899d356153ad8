use Rattle.std.proofs.Common.{◌≡◌, drop}
use Rattle.c_check_scope.proofs.scopes.Scopes.leave.Given as goal

abbrev pub invariant-loop-i : goal.invariant-loop-i
invariant-loop-i g l =
    let before = l.initial.self-inside in
    (l.self-inside.declarations ≡ drop l._i before.declarations) × (l.self-inside.outer.items ≡ before.outer.items)
