-- Laws of what a source program does.
use Rattle.std.specs.Prelude.{◌≡◌, ◌≢◌, ℕ, ◌≤◌, List, [], ◌∷◌, ◌++◌, take, drop}
use Rattle.val_core.specs.declared.values.Value.{Value}
use Rattle.val_core.specs.Memory.{Memory}
use Rattle.val_core.specs.Events.{Event, wrote, took, met, output, IsPrefixOf}
use Rattle.val_core.specs.Answers.{Answer, Returned, Cut, Exited, Undefined, IsUndefined, events}
use Rattle.val_core.specs.Refinement.{Forward, exactly, Refines}
use Rattle.c_typed.specs.Typed.{ExprTree, StmtTree, VariableTree, ProgramTree}
use Rattle.c_mean.specs.State.{State}
use Rattle.c_mean.specs.Expressions.{Call, Context, expr_run}
use Rattle.c_mean.specs.Statements.{stmt_run}
use Rattle.c_mean.specs.Run.{nested, call_run, run, deepest_run, Ending, exit, cut, undefined, Heard, taken, heard}

-- ---- bounds

-- One answer extends another: what was cut may go on, and every other ending stays as it is, the undefined one too.
abbrev pub Extends : {A : Type 0} → (lesser greater : Answer A) → Type 0
Extends (Cut o) b = IsPrefixOf o (events b)
Extends a b = a ≡ b

-- The second context has the greater bound, and its calls extend those of the first.
pub record ContextExtends (c d : Context) : Type 0 where
  pub bound : c.bound ≤ d.bound
  pub calls : (f : ℕ) (vs : List Value) (m : Memory) (i : List ℕ) → Extends (c.calls f vs m i) (d.calls f vs m i)
  pub addresses : c.addresses ≡ d.addresses

-- What ended is equal, and what was cut has events that begin the other's: so the greater run refines the lesser one.
abbrev pub ExtendedRefines : (A : Type 0) → Type 0
ExtendedRefines A = (a b : Answer A) → Extends a b → Refines exactly Forward (λ x y. x ≡ y) a b

-- A greater bound only extends. So it is with an expression,
abbrev pub ExpressionsExtend : Type 0
ExpressionsExtend = (c d : Context) → ContextExtends c d → (e : ExprTree) (s : State) → Extends (expr_run c e s) (expr_run d e s)

-- with a statement,
abbrev pub StatementsExtend : Type 0
StatementsExtend =
    (c d : Context) → ContextExtends c d → (vs : List VariableTree) (a : StmtTree) (s : State) → Extends (stmt_run c vs a s) (stmt_run d vs a s)

-- with the calls within a call, whose bounds of turns and of depth are apart,
abbrev pub NestedCallsExtend : Type 0
NestedCallsExtend =
    (p : ProgramTree) (global : ℕ → Value) (n m : ℕ) → n ≤ m → (depth deeper : ℕ) → depth ≤ deeper →
    (f : ℕ) (vs : List Value) (k : Memory) (i : List ℕ) → Extends (nested p global n depth f vs k i) (nested p global m deeper f vs k i)

-- with a call,
abbrev pub CallsExtend : Type 0
CallsExtend =
    (n m : ℕ) (p : ProgramTree) (global : ℕ → Value) (f : ℕ) (vs : List Value) (k : Memory) (i : List ℕ) → n ≤ m →
    Extends (call_run p global n f vs k i) (call_run p global m f vs k i)

-- and with a program.
abbrev pub RunsExtend : Type 0
RunsExtend = (n m : ℕ) (p : ProgramTree) (i : List ℕ) → n ≤ m → Extends (run n p i) (run m p i)

-- A run of a greater bound meets stacks no less deep.
abbrev pub DeepestGrows : Type 0
DeepestGrows = (n m : ℕ) (p : ProgramTree) (sizes : List ℕ) (i : List ℕ) → n ≤ m → deepest_run n p sizes i ≤ deepest_run m p sizes i

-- ---- input

-- the bytes that are taken, in order
abbrev pub taken_bytes : List Event → List ℕ
taken_bytes [] = []
taken_bytes (took b ∷ es) = b ∷ taken_bytes es
taken_bytes (wrote b ∷ es) = taken_bytes es
taken_bytes (met s ∷ es) = taken_bytes es

-- The bytes taken are the first of the input, at every ending, and a result has the rest of it.
abbrev pub TakesInput : {A : Type 0} → (rest : A → List ℕ) → (input : List ℕ) → Answer A → Type 0
TakesInput rest i (Returned x o) = (taken_bytes o ≡ take (taken o) i) × (rest x ≡ drop (taken o) i)
TakesInput rest i a = taken_bytes (events a) ≡ take (taken (events a)) i

abbrev pub EachTakesInput : (ℕ → Call) → Type 0
EachTakesInput calls = (f : ℕ) (vs : List Value) (m : Memory) (i : List ℕ) → TakesInput (λ g. g.input) i (calls f vs m i)

-- An expression takes its input from the state, where calls do so,
abbrev pub ExpressionsTakeInput : Type 0
ExpressionsTakeInput = (c : Context) → EachTakesInput c.calls → (e : ExprTree) (s : State) → TakesInput (λ x. x.state.input) s.input (expr_run c e s)

-- and so does a statement,
abbrev pub StatementsTakeInput : Type 0
StatementsTakeInput =
    (c : Context) → EachTakesInput c.calls → (vs : List VariableTree) (a : StmtTree) (s : State) →
    TakesInput (λ x. x.state.input) s.input (stmt_run c vs a s)

-- the calls within a call,
abbrev pub NestedCallsTakeInput : Type 0
NestedCallsTakeInput = (p : ProgramTree) (global : ℕ → Value) (turns depth : ℕ) → EachTakesInput (nested p global turns depth)

-- a call,
abbrev pub CallsTakeInput : Type 0
CallsTakeInput = (n : ℕ) (p : ProgramTree) (global : ℕ → Value) → EachTakesInput (call_run p global n)

-- and a program.
abbrev pub RunsTakeInput : Type 0
RunsTakeInput = (n : ℕ) (p : ProgramTree) (i : List ℕ) → TakesInput (λ g. g.input) i (run n p i)

-- ---- what was heard

-- a run gives no result, and what was heard ends as the run does
abbrev pub EndsAs : {A : Type 0} → Answer A → Ending → Type 0
EndsAs (Returned x o) e = ⊥
EndsAs (Cut o) e = e ≡ cut
EndsAs (Exited o status) e = e ≡ exit status
EndsAs (Undefined o) e = e ≡ undefined

-- What was heard is what the run wrote, the input without the bytes that it took, and its ending.
abbrev pub HearsAnswer : {A : Type 0} → (input : List ℕ) → Answer A → Heard → Type 0
HearsAnswer i a h = (h.output ≡ output (events a)) × (taken_bytes (events a) ++ h.rest ≡ i) × EndsAs a h.ending

abbrev pub HeardIsRun : Type 0
HeardIsRun = (n : ℕ) (p : ProgramTree) (i : List ℕ) → HearsAnswer i (run n p i) (heard n p i)

-- What was heard is undefined where the run is, and there alone.
abbrev pub HeardIsUndefined : Type 0
HeardIsUndefined =
    (n : ℕ) (p : ProgramTree) (i : List ℕ) → (IsUndefined (run n p i) → (heard n p i).ending ≡ undefined) × ((heard n p i).ending ≡ undefined → IsUndefined (run n p i))

-- What was heard at a bound that suffices is heard at every greater one, and where the bound cuts, the output begins the other.
abbrev pub HeardExtends : Type 0
HeardExtends =
    (n m : ℕ) (p : ProgramTree) (i : List ℕ) → n ≤ m →
    ((heard n p i).ending ≢ cut → heard n p i ≡ heard m p i) × IsPrefixOf (heard n p i).output (heard m p i).output
