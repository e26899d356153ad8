use Rattle.s_select_keeps.proofs.Rows.{const_is_done, undef_is_done, object_address_is_done, global_address_is_done, binary_is_done, unary_is_done, move_is_done}
use Rattle.s_select_keeps.proofs.laws.templates_write_values.Goals as goal

pub returns-clause-constant : goal.returns-clause-constant
returns-clause-constant c = const_is_done

pub returns-clause-undef : goal.returns-clause-undef
returns-clause-undef c = undef_is_done

pub returns-clause-object_address : goal.returns-clause-object_address
returns-clause-object_address c = object_address_is_done

pub returns-clause-global_address : goal.returns-clause-global_address
returns-clause-global_address c = global_address_is_done

pub returns-clause-binary : goal.returns-clause-binary
returns-clause-binary c = binary_is_done

pub returns-clause-unary : goal.returns-clause-unary
returns-clause-unary c = unary_is_done

pub returns-clause-moved : goal.returns-clause-moved
returns-clause-moved c = move_is_done
