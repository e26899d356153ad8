-- Which code of a body the law of code speaks of, and where its lines stand.
use Rattle.std.specs.Prelude.{◌≡◌, ℕ, ◌^◌, ◌<◌, true, IsTrue, List, [], ◌∷◌, length, Option, All}
use Rattle.g_graph.specs.Plain.{PlainObject}
use Rattle.g_graph.specs.WellFormed.{all_of}
use Rattle.rv_machine.specs.Machine as machine
use Rattle.rv_machine.specs.Standing.{Text}
use Rattle.rv_layout.specs.Layout.{Addresses}
use Rattle.s_linear.specs.Frame.{PlainPlaces}
use Rattle.s_linear.specs.Linear.{Instr, Step, plain, choice, loop, Code, no_steps, step_then, Codes, no_codes, code_then}
use Rattle.s_linear.specs.Lines.{Line, counted, code_lines, instr_names}
use Rattle.s_linear.specs.Meaning as linear
use Rattle.s_linear.specs.Meaning.{Context, code_run}
use Rattle.s_linear.specs.Operands.{has_its_object, has_its_global}
use Rattle.a_place.specs.Placed.{placed_code}
use Rattle.s_select.specs.Conditions.{has_place}
use Rattle.s_select.specs.Templates.{items_of}
use Rattle.s_select_keeps.specs.Relation.{Frame, HasWords, Represents}
use Rattle.s_select_keeps.specs.Standing.{ItemsStand}
use Rattle.s_select_keeps.specs.Steps.{Follows}
use Rattle.s_select_keeps.specs.Table.{place_at, IsBody, IsPlain}

-- each instruction of a list is as said
abbrev pub InstrsFit : (Instr → Type 0) → List Instr → Type 0
InstrsFit fits [] = Unit {0}
InstrsFit fits (i ∷ is) = fits i × InstrsFit fits is

-- Each instruction of a code is as said, each predicate that is read has a place, and the numbers of the codes of a choice are words.
abbrev mutual
  pub StepFits : (Instr → Type 0) → PlainPlaces → Step → Type 0
  StepFits fits p (plain i) = fits i
  StepFits fits p (choice x cs) = (1 < counted cs → has_place p x ≡ true) × (counted cs < 2 ^ 32) × CodesFit fits p cs
  StepFits fits p (loop moves body x back) = InstrsFit fits moves × CodeFits fits p body × (has_place p x ≡ true) × InstrsFit fits back

  pub CodeFits : (Instr → Type 0) → PlainPlaces → Code → Type 0
  CodeFits fits p no_steps = Unit {0}
  CodeFits fits p (step_then x k) = StepFits fits p x × CodeFits fits p k

  pub CodesFit : (Instr → Type 0) → PlainPlaces → Codes → Type 0
  CodesFit fits p no_codes = Unit {0}
  CodesFit fits p (code_then k ks) = CodeFits fits p k × CodesFit fits p ks

-- the items of lines stand from address a up to b
abbrev pub LinesStand : Text → Addresses → (labels : ℕ → Option ℕ) → PlainPlaces → List PlainObject → (a : ℕ) → List Line → (b : ℕ) → Type 0
LinesStand text addresses labels p os a ls b = ItemsStand text addresses labels a (items_of p os ls) b

-- names have places, objects and globals that are named are there, and the instruction is no call
abbrev pub InstrFits : PlainPlaces → (objects globals : ℕ) → Instr → Type 0
InstrFits p objects globals i = IsTrue (all_of (has_place p) (instr_names i)) × IsTrue (has_its_object objects i) × IsTrue (has_its_global globals i) × IsPlain i

-- The lines of code do what the code means over places, choices and loops included, where no function is called. Where the bound
-- cuts its meaning, as many instructions at least are done.
abbrev pub CodeIsDone : Type 0
CodeIsDone =
    (text : Text) (f : Frame) (addresses : Addresses) (labels : ℕ → Option ℕ) (p : PlainPlaces) (os : List PlainObject) (c : Context) (q : linear.State)
    (s : machine.State) (k : Code) (first b : ℕ)
    → HasWords text f → Represents text f q s → IsBody text f addresses p os c.addresses q.memory → All (λ byte. byte < 2 ^ 8) q.input
    → CodeFits (InstrFits p (length os) (length addresses.globals)) p k → LinesStand text addresses labels p os s.pc (code_lines first k) b → b < 2 ^ 32
    → Follows text f b c.bound (code_run c (placed_code (place_at p) k) q) s q.input
