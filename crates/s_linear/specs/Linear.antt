-- Linear code: instructions over names, with choices and loops as trees. A name is a number, numbered in the order of first
-- writing; memory, input and output have none.
use Rattle.std.specs.Prelude.{ℕ, List}
use Rattle.val_core.specs.declared.operation.Op1.{Op1}
use Rattle.val_core.specs.declared.operation.Op2.{Op2}
use Rattle.g_graph.specs.Plain.{PlainObject}

-- The target of an instruction comes first. Those without one are `store`, `clear`, `put` and `exit`.
pub data Instr : Type 0 where
  const : (target word : ℕ) → Instr
  undef : (target : ℕ) → Instr
  object_address : (target number : ℕ) → Instr
  global_address : (target number : ℕ) → Instr
  binary : Op2 → (target left right : ℕ) → Instr
  unary : Op1 → (target input : ℕ) → Instr
  load : (width target address : ℕ) → Instr
  store : (width address value : ℕ) → Instr
  clear : (number : ℕ) → Instr
  equal_pointers : (target left right : ℕ) → Instr
  move : (target source : ℕ) → Instr
  call : (function target : ℕ) → (arguments : List ℕ) → Instr
  put : (byte : ℕ) → Instr
  get : (target : ℕ) → Instr
  exit : (status : ℕ) → Instr

-- A choice goes to one of its codes by a predicate: of n codes to that numbered min(predicate, n - 1). A loop moves its
-- variables in, does its body, and while the predicate is not 0 moves them back and does it again.
mutual
  pub data Step : Type 0 where
    plain : Instr → Step
    choice : (predicate : ℕ) → Codes → Step
    loop : (enter : List Instr) → (body : Code) → (predicate : ℕ) → (back : List Instr) → Step

  pub data Code : Type 0 where
    no_steps : Code
    step_then : Step → Code → Code

  pub data Codes : Type 0 where
    no_codes : Codes
    code_then : Code → Codes → Codes

-- a function: its number, how many parameters it has, its memory objects, its code, and the name of its value
pub record LinearFunction : Type 0 where
  pub number : ℕ
  pub params : ℕ
  pub objects : List PlainObject
  pub code : Code
  pub value : ℕ
