-- The scope around is linked to fewer scopes.
use Rattle.std.specs.Prelude.{suc, ◌≤◌, None, Some}
use Rattle.std.proofs.Common.{arith}
use Rattle.g_build_count.specs.ScopeViews.{seen_of, depth_around}
use Rattle.g_build_count.specs.declared.scope.Scope.TheInside.{Inside}
use Rattle.g_build_count.specs.declared.scope.Scope.TheDeep.{deep-Scope}

pub scope_height : (a : Inside) → deep-Scope a ≤ suc (depth_around (seen_of (λ r. r.now) a.around))
scope_height a =
    elim a.around as (λ x. deep-Scope (record a { around = x }) ≤ suc (depth_around (seen_of (λ r. r.now) x))) [ None ↦ omega arith | Some r ↦ omega arith ]
