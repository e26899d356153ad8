-- How the logic stores a specified type: as its fields.
use Rattle.std.specs.Prelude.{ℕ, Option, refl}
use Rattle.std.specs.Coded.{Coded, code_by, coded×, coded_ℕ, coded_option}
use Rattle.c_type.specs.Trees.{TypeTree}
use Rattle.c_type.specs.TreeEncoding.{coded_tree}
use Rattle.c_check_def.specs.Specifiers.{Specified}

abbrev pub coded_specified : Coded Specified
coded_specified =
    code_by (TypeTree × Option ℕ) (coded× coded_tree (coded_option coded_ℕ)) (λ x. (x.type, x.undeclared)) (λ p. record { type = p.0; undeclared = p.1 }) (λ _. refl)
