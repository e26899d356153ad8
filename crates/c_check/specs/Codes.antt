-- How the logic stores a parameter and a member of a struct: as their fields.
use Rattle.std.specs.Prelude.{ℕ, Bool, Option, refl}
use Rattle.std.specs.Coded.{Coded, code_by, coded×, coded_ℕ, coded_bool, coded_list, coded_option}
use Rattle.c_check_scope.specs.Scopes.{Name}
use Rattle.c_check_state.specs.Codes.{coded_type}
use Rattle.c_check_def.specs.State.{MaybeType}
use Rattle.c_check_def.specs.Externals.{Member, Param}

abbrev pub coded_param : Coded Param
coded_param =
    code_by (Option Name × (ℕ × (MaybeType × Bool))) (coded× (coded_option (coded_list coded_ℕ)) (coded× coded_ℕ (coded× coded_type coded_bool)))
    (λ p. (p.name, (p.offset, (p.type, p.is_const)))) (λ q. record { name = q.0; offset = q.1.0; type = q.1.1.0; is_const = q.1.1.1 }) (λ _. refl)

abbrev pub coded_member : Coded Member
coded_member = code_by (Name × MaybeType) (coded× (coded_list coded_ℕ) coded_type) (λ x. (x.name, x.type)) (λ p. record { name = p.0; type = p.1 }) (λ _. refl)
