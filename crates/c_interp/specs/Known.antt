-- What is known of a part of a program where a machine stands.
use Rattle.std.specs.Prelude.{ℕ, List, ◌∷◌, map, reverse}
use Rattle.val_core.specs.Memory.{Memory}
use Rattle.c_typed.specs.Typed.{ExprTree, OptionalExpr, some_expr, StmtTree, loop, ProgramTree}
use Rattle.c_mean.specs.State.{State}
use Rattle.c_mean.specs.Expressions.{Context}
use Rattle.c_interp_def.specs.Configurations.{state_of}
use Rattle.c_interp_def.specs.ExprTasks.{context}
use Rattle.c_interp_answer.specs.declared.scope.Scope.{Scope}
use Rattle.c_interp_answer.specs.Answered.{Sees}
use Rattle.c_interp.specs.declared.machine.Machine.{Machine}
use Rattle.c_interp.specs.Machines.{config_of, opened_in, opened_by, IsHeld}

-- whatever memory the machine holds
abbrev pub Knows : ProgramTree → (bound : ℕ) → Machine → (Context → State → Type 0) → Type 0
Knows p n m P = (k : Memory) (i : List ℕ) → IsHeld p m k → P (context p n (config_of m k i)) (state_of (config_of m k i))

-- the scope shows what the newest call sees
abbrev pub Shows : ProgramTree → (bound : ℕ) → Machine → Scope → Type 0
Shows p n m v =
    (k : Memory) (i : List ℕ) → IsHeld p m k →
    Sees v (opened_in m.frame ∷ reverse (map opened_by m.callers.items)) (context p n (config_of m k i)) (state_of (config_of m k i))

-- a loop with this condition
abbrev pub while_loop : ExprTree → OptionalExpr → StmtTree → StmtTree
while_loop e step a = loop (some_expr e) step a
