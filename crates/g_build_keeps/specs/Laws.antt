-- The graph of a program does what the program does.
use Rattle.std.specs.Prelude.{◌≡◌, ℕ, ◌≤◌, List, [], ◌∷◌, map, length, slice_get, Option, Some}
use Rattle.val_core.specs.declared.values.Value.{Value}
use Rattle.val_core.specs.Memory.{Memory as Blocks, IsSoundMemory}
use Rattle.val_core.specs.Events.{deepest}
use Rattle.val_core.specs.Answers.{IsUndefined, events}
use Rattle.val_core.specs.Within.{behaviour, Within, Given, IsLessDefinedOption}
use Rattle.c_typed.specs.Typed.{FunctionTree, ProgramTree}
use Rattle.c_typed.specs.WellTyped.{IsWellTyped}
use Rattle.c_mean.specs.Run.{call_run, global_address, run, deepest_run}
use Rattle.g_graph.specs.Plain.{PlainLambda}
use Rattle.g_build_def.specs.Functions.{graph, omega}
use Rattle.g_mean.specs.Data.{Datum, val, memory, input, taken}
use Rattle.g_mean.specs.Calls.{lambda_at, program_at, deepest_main}
use Rattle.g_mean.specs.LessDefined.{AreBytes, AreSound}
use Rattle.g_build_keeps.specs.Groups.{HasFewGroups}

-- A lambda gives back what its function does: the memory, the input, and a value that may stand for that of the function.
pub record GivesBack (g : Given (Option Value)) (ys : List Datum) : Type 0 where
  pub value : Value
  pub is : ys ≡ val value ∷ memory g.memory ∷ input g.input ∷ []
  pub less : IsLessDefinedOption g.value value

-- A call that may be made: as many arguments as the function has parameters, and sound data.
pub record IsCall (p : ProgramTree) (f : ℕ) (vs : List Value) (m : Blocks) (i : List ℕ) : Type 0 where
  pub function : FunctionTree
  pub there : slice_get p.functions f ≡ Some function
  pub count : length vs ≡ function.params
  pub values : AreSound (map val vs)
  pub memory : IsSoundMemory m
  pub input : AreBytes i

-- Each run of the function is within some run of the lambda, and each run of the lambda within some run of the function,
-- which meets stacks no less deep.
pub record CallIsKept (p : ProgramTree) (ls : List PlainLambda) (f : ℕ) (vs : List Value) (m : Blocks) (i : List ℕ) (n : ℕ) : Type 0 where
  pub forward : (bound : ℕ)
      × Within GivesBack (behaviour (call_run p (global_address p) n f vs m i)) (behaviour (lambda_at bound ls (global_address p) f (taken vs m i)))
  pub back : (bound : ℕ)
      × Within (λ ys g. GivesBack g ys) (behaviour (lambda_at n ls (global_address p) f (taken vs m i))) (behaviour (call_run p (global_address p) bound f vs m i))
  pub no_deeper : (sizes : ℕ → ℕ) → (bound : ℕ)
      × (deepest sizes (events (lambda_at n ls (global_address p) f (taken vs m i))) ≤ deepest sizes (events (call_run p (global_address p) bound f vs m i)))

-- The lambdas have the meaning of the program: of every call that no bound makes undefined, each run is kept.
abbrev pub HasMeaning : ProgramTree → List PlainLambda → Type 0
HasMeaning p ls =
    (f : ℕ) (vs : List Value) (m : Blocks) (i : List ℕ) → IsCall p f vs m i → ((n : ℕ) → IsUndefined (call_run p (global_address p) n f vs m i) → ⊥) →
    (n : ℕ) → CallIsKept p ls f vs m i n

-- Construction keeps the meaning of each well-typed program with few groups in each `switch`.
abbrev pub ConstructionKeepsMeaning : Type 0
ConstructionKeepsMeaning = (p : ProgramTree) → IsWellTyped p → HasFewGroups p → HasMeaning p (graph p)

-- ---- programs

-- Each run of the program is within some run of its graph, and each run of the graph within some run of the program,
-- which meets stacks no less deep. No run gives anything back: it ends, or its bound does not suffice.
pub record ProgramIsKept (p : ProgramTree) (ls : List PlainLambda) (i : List ℕ) (n : ℕ) : Type 0 where
  pub forward : (bound : ℕ) × Within (λ g ys. ⊥) (behaviour (run n p i)) (behaviour (program_at bound (omega p) ls i))
  pub back : (bound : ℕ) × Within (λ ys g. ⊥) (behaviour (program_at n (omega p) ls i)) (behaviour (run bound p i))
  pub no_deeper : (sizes : List ℕ) → (bound : ℕ) × (deepest_main n (omega p) ls sizes i ≤ deepest_run bound p sizes i)

-- With these lambdas, and the globals and names of the program, a start does what the program does: on every input on which
-- no bound makes the program undefined, each run is kept.
abbrev pub StartsAsProgram : ProgramTree → List PlainLambda → Type 0
StartsAsProgram p ls = (i : List ℕ) → AreBytes i → ((n : ℕ) → IsUndefined (run n p i) → ⊥) → (n : ℕ) → ProgramIsKept p ls i n

-- Construction keeps programs.
abbrev pub ConstructionKeepsPrograms : Type 0
ConstructionKeepsPrograms = (p : ProgramTree) → IsWellTyped p → HasFewGroups p → StartsAsProgram p (graph p)
