-- How the logic stores operands with commas between them: as the fields.
use Rattle.std.specs.Prelude.{List, refl}
use Rattle.std.specs.Coded.{Coded, code_by, coded×, coded_list}
use Rattle.c_typed.specs.Typed.{ExprTree}
use Rattle.c_typed.specs.ExprEncoding.{coded_expr}
use Rattle.c_check_def.specs.declared.operand.Operand.{Operand}
use Rattle.c_check_state.specs.Codes.{coded_operand}
use Rattle.c_check_def.specs.Operands.{Sequence}

abbrev pub coded_sequence : Coded Sequence
coded_sequence =
    code_by (List ExprTree × Operand) (coded× (coded_list coded_expr) coded_operand) (λ s. (s.dropped, s.last)) (λ p. record { dropped = p.0; last = p.1 }) (λ _. refl)
