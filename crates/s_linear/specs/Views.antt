-- The lines that lines of the code stand for.
use Rattle.s_linear.specs.Linear.{Instr, const, undef, object_address, global_address, binary, unary, load, store, clear, equal_pointers, move, call, put, get, exit}
use Rattle.s_linear.specs.Lines.{Line, enter, leave, done, branch_not_zero, branch_zero, branch_equal, jump, label}
use Rattle.s_linear.specs.declared.line.Instr as code_instr
use Rattle.s_linear.specs.declared.line.Instr.TheVariants as instr
use Rattle.s_linear.specs.declared.line.Line as code_line
use Rattle.s_linear.specs.declared.line.Line.TheVariants as line

abbrev pub instr_of : code_instr.Instr → Instr
instr_of (instr.Const t w) = const t w
instr_of (instr.Undef t) = undef t
instr_of (instr.ObjectAddress t k) = object_address t k
instr_of (instr.GlobalAddress t k) = global_address t k
instr_of (instr.Binary o t a b) = binary o t a b
instr_of (instr.Unary o t a) = unary o t a
instr_of (instr.Load width t a) = load width t a
instr_of (instr.Store width a v) = store width a v
instr_of (instr.Clear k) = clear k
instr_of (instr.EqualPointers t a b) = equal_pointers t a b
instr_of (instr.Move t a) = move t a
instr_of (instr.Call f t xs) = call f t xs.items
instr_of (instr.Put a) = put a
instr_of (instr.Get t) = get t
instr_of (instr.Exit a) = exit a

abbrev pub line_of : code_line.Line → Line
line_of (line.Enter xs) = enter xs.items
line_of (line.Leave v) = leave v
line_of (line.Done i) = done (instr_of i)
line_of (line.BranchNotZero p l) = branch_not_zero p l
line_of (line.BranchZero p l) = branch_zero p l
line_of (line.BranchEqual p r l) = branch_equal p r l
line_of (line.Jump l) = jump l
line_of (line.Label l) = label l
