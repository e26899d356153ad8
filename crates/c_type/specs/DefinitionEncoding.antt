-- A struct definition is stored as its fields.
use Rattle.std.specs.Prelude.{ℕ, List, refl}
use Rattle.std.specs.Coded.{Coded, code_by, coded×, coded_ℕ, coded_list}
use Rattle.c_type.specs.Trees.{TypeTree}
use Rattle.c_type.specs.TreeEncoding.{coded_tree}
use Rattle.c_type.specs.Layout.{Definitions}

abbrev pub coded_definitions : Coded Definitions
coded_definitions =
    coded_list
    (code_by (ℕ × List TypeTree) (coded× coded_ℕ (coded_list coded_tree)) (λ d. (d.tag, d.members)) (λ p. record { tag = p.0; members = p.1 }) (λ _. refl))
