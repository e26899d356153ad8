-- The view of an op: the number of its variant and that of its field, and the op that has them.
use Rattle.std.specs.Prelude.{◌≡◌, ℕ, Bool, List, [], ◌∷◌, refl}
use Rattle.std.proofs.Common.{ap}
use Rattle.std.specs.List.{slice_index_or}
use Rattle.val_core.specs.Views.{View, same_by, op1_number, op1_of, op1_read_back, op2_number, op2_of, op2_read_back}
use Rattle.g_graph.specs.declared.op.Op.{Op}
use Rattle.g_graph.specs.declared.op.Op.TheVariants.{Const, Undef, Local, Delta, Bin, Un, Load, Store, Clear, PtrEq, Apply, Put, Exit, Get, Gamma, Theta}

abbrev pub op_numbers : Op → ℕ × ℕ
op_numbers (Const w) = (0, w)
op_numbers Undef = (1, 0)
op_numbers (Local k) = (2, k)
op_numbers (Delta k) = (3, k)
op_numbers (Bin a) = (4, op2_number a)
op_numbers (Un a) = (5, op1_number a)
op_numbers (Load width) = (6, width)
op_numbers (Store width) = (7, width)
op_numbers (Clear k) = (8, k)
op_numbers PtrEq = (9, 0)
op_numbers (Apply f) = (10, f)
op_numbers Put = (11, 0)
op_numbers Exit = (12, 0)
op_numbers Get = (13, 0)
op_numbers Gamma = (14, 0)
op_numbers Theta = (15, 0)

abbrev ops : (field : ℕ) → List Op
ops n =
    Const n ∷ Undef ∷ Local n ∷ Delta n ∷ Bin (op2_of n) ∷ Un (op1_of n) ∷ Load n ∷ Store n ∷ Clear n ∷ PtrEq ∷ Apply n ∷ Put ∷ Exit ∷ Get ∷ Gamma ∷ Theta ∷ []

abbrev pub op_of : ℕ × ℕ → Op
op_of p = slice_index_or (ops p.1) p.0 Undef

pub op_read_back : (a : Op) → op_of (op_numbers a) ≡ a
op_read_back (Bin a) = ap Bin (op2_read_back a)
op_read_back (Un a) = ap Un (op1_read_back a)
op_read_back a = refl

abbrev pub op_view : View Op
op_view = record { numbers = op_numbers; value = op_of; read_back = op_read_back }

-- whether two ops are the same, with the word, number or width that is in them
abbrev pub same_op : Op → Op → Bool
same_op = same_by op_view
