-- A declaration of a function, from its steps.
use Rattle.std.proofs.Common.{◌≡◌, ℕ, Bool, List, map, ap, ◌∙◌}
use Rattle.c_ast.specs.Tree.{Tree}
use Rattle.c_check_scope.specs.Scopes.{Name}
use Rattle.c_check_def.specs.State.{MaybeType, State}
use Rattle.c_check_def.specs.Externals.{Param, declare_function, is_block}
use Rattle.c_check.specs.Functions.{function_ended, function_declared}

abbrev declared : Name → (offset : ℕ) → MaybeType → List Param → Bool → State → State
declared name offset t ps b s = (declare_function name offset (record { result = t; params = map (λ (p : Param). p.type) ps; is_defined = b }) s).1

pub ended-declared : (name : Name) (offset starts : ℕ) (t : MaybeType) (ps qs : List Param) (body : Tree) (b : Bool) (s u : State) → b ≡ is_block body → qs ≡ ps
    → u ≡ declared name offset t qs b s → function_ended name offset starts t ps body u ≡ function_declared name offset starts t ps body s
ended-declared name offset starts t ps qs body b s u defined same made =
    ap (function_ended name offset starts t ps body) (made ∙ ap (λ rs. declared name offset t rs b s) same ∙ ap (λ c. declared name offset t ps c s) defined)
