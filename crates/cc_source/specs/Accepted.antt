-- Which sources are accepted, and why the others are refused.
use Rattle.std.specs.Prelude.{◌≡◌, ◌≢◌, ◌⊎◌, ℕ, List, length, None, Ok, Err}
use Rattle.c_lex.specs.Tokens.{lexed}
use Rattle.c_lex.specs.declared.token.Token.{Token}
use Rattle.c_ast.specs.Tree.{Tree}
use Rattle.c_parse_tokens.specs.LeftOut.{first_left_out}
use Rattle.c_parse.specs.Refusal.{IsTreeOf, Answers}
use Rattle.c_parse.specs.declared.fault.ParseFault.TheVariants as parse
use Rattle.c_typed.specs.Typed.{ProgramTree}
use Rattle.c_check_def.specs.Check.{check}
use Rattle.c_check.specs.Faults as checker
use Rattle.c_check.specs.declared.fault.CheckFault.TheVariants as check_fault
use Rattle.g_build.specs.Answer.{limit_named}
use Rattle.g_build.specs.Passed.{limit_passed}
use Rattle.g_build.specs.declared.omega.BuildFault.TheVariants as build_fault
use Rattle.cc_source.specs.declared.fault.CompileFault.{CompileFault}
use Rattle.cc_source.specs.declared.fault.CompileFault.TheVariants as fault

-- A source has tokens, none of them left out of the language, and they have this tree.
pub record HasTree (source : List ℕ) (t : Tree) : Type 0 where
  pub tokens : List Token
  pub lexed : lexed source ≡ Ok tokens
  pub known : first_left_out tokens ≡ None
  pub tree : IsTreeOf tokens t

-- No rule of the checker is broken, and this is the program.
pub record Checks (source : List ℕ) (p : ProgramTree) : Type 0 where
  pub tree : Tree
  pub has_tree : HasTree source tree
  pub checked : check tree (length source) ≡ Ok p

-- A source is accepted as this program.
pub record Accepts (source : List ℕ) (p : ProgramTree) : Type 0 where
  pub checks : Checks source p
  pub within : limit_passed p.functions ≡ None

-- Why a source is refused: the fault of one of the phases. Out of memory may come in place of any answer.
abbrev pub Refuses : CompileFault → List ℕ → Type 0
Refuses (fault.Lex e) source = lexed source ≡ Err e
Refuses (fault.Parse e) source = (e ≢ parse.NoMemory) × ((tokens : List Token) × (lexed source ≡ Ok tokens) × Answers tokens (length source) (Err e))
Refuses (fault.Check e) source = (e ≢ check_fault.NoMemory) × ((tree : Tree) × HasTree source tree × checker.Refuses e (check tree (length source)))
Refuses (fault.Build e) source = (e ≢ build_fault.NoMemory) × ((p : ProgramTree) × Checks source p × (limit_named {O = Unit {0}} (Err e) ≡ limit_passed p.functions))
Refuses fault.NoMemory source = Unit {0}

-- ---- laws

-- A source is accepted as one program at most.
abbrev pub OneProgram : Type 0
OneProgram = (source : List ℕ) (p q : ProgramTree) → Accepts source p → Accepts source q → p ≡ q

-- A source has at most one fault.
abbrev pub OneFault : Type 0
OneFault = (source : List ℕ) (e f : CompileFault) → e ≢ fault.NoMemory → f ≢ fault.NoMemory → Refuses e source → Refuses f source → e ≡ f

-- A source that is accepted has none.
abbrev pub AcceptedIsNotRefused : Type 0
AcceptedIsNotRefused = (source : List ℕ) (p : ProgramTree) (e : CompileFault) → e ≢ fault.NoMemory → Accepts source p → Refuses e source → ⊥

-- A source is accepted, or has a fault.
abbrev pub AcceptedOrRefused : Type 0
AcceptedOrRefused = (source : List ℕ) → ((p : ProgramTree) × Accepts source p) ⊎ ((e : CompileFault) × (e ≢ fault.NoMemory) × Refuses e source)
