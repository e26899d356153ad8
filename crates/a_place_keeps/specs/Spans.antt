-- Where lines stand in a list of lines, and when the intervals of its names span a code: at each position of the code the names
-- that occur there are within their intervals.
use Rattle.std.specs.Prelude.{◌≡◌, ◌≢◌, ◌≤◌, ℕ, suc, List, [], ◌∷◌, IsTrue, slice_get, Some}
use Rattle.g_graph.specs.WellFormed.{some_of}
use Rattle.s_linear.specs.Linear.{Instr, Step, plain, choice, loop, Code, no_steps, step_then, Codes, no_codes, code_then}
use Rattle.s_linear.specs.Lines.{Line, counted}
use Rattle.a_place.specs.Places.{occurs, first}
use Rattle.a_place.specs.Laws.{IsAliveAt}
use Rattle.s_sequence_keeps.specs.Closed.{target_of, sources_of}
use Rattle.a_place_keeps.specs.Need.{IsIn}

-- these lines stand in `lines` from position a up to b
abbrev pub StandAt : (lines : List Line) → (a : ℕ) → List Line → (b : ℕ) → Type 0
StandAt lines a [] b = a ≡ b
StandAt lines a (l ∷ ls) b = (slice_get lines a ≡ Some l) × StandAt lines (suc a) ls b

-- a name occurs, and its interval has started
pub record IsBegunAt (lines : List Line) (name position : ℕ) : Type 0 where
  pub occurs_there : IsTrue (some_of (occurs name) lines)
  pub started : first name lines ≤ position

-- names that share a position have different places
abbrev pub ArePlacesApart : (lines : List Line) → (place : ℕ → ℕ) → Type 0
ArePlacesApart lines place = (x y i : ℕ) → x ≢ y → IsAliveAt lines x i → IsAliveAt lines y i → place x ≢ place y

-- ---- from position a up to b

pub record SpansInstr (lines : List Line) (a : ℕ) (i : Instr) : Type 0 where
  pub target : (x : ℕ) → target_of i ≡ Some x → IsAliveAt lines x a
  pub source : (x : ℕ) → IsIn x (sources_of i) → IsAliveAt lines x a

abbrev pub SpansInstrs : (lines : List Line) → (a : ℕ) → List Instr → (b : ℕ) → Type 0
SpansInstrs lines a [] b = a ≤ b
SpansInstrs lines a (i ∷ is) b = SpansInstr lines a i × SpansInstrs lines (suc a) is b

-- The codes of a choice stand in any order. A loop's label is at position l, its branch at m and its jump at e.
abbrev mutual
  pub SpansStep : (lines : List Line) → (a : ℕ) → Step → (b : ℕ) → Type 0
  SpansStep lines a (plain i) b = SpansInstr lines a i × (suc a ≤ b)
  SpansStep lines a (choice p cs) b = (2 ≤ counted cs → IsAliveAt lines p a) × SpansCodes lines a cs b × (a ≤ b)
  SpansStep lines a (loop moves body p back) b =
      (l : ℕ) × (m : ℕ) × (e : ℕ) × SpansInstrs lines a moves l × SpansCode lines (suc l) body m × IsAliveAt lines p m
      × SpansInstrs lines (suc m) back e × (e ≤ b)

  pub SpansCode : (lines : List Line) → (a : ℕ) → Code → (b : ℕ) → Type 0
  SpansCode lines a no_steps b = a ≤ b
  SpansCode lines a (step_then s k) b = (m : ℕ) × SpansStep lines a s m × SpansCode lines m k b

  pub SpansCodes : (lines : List Line) → (a : ℕ) → Codes → (b : ℕ) → Type 0
  SpansCodes lines a no_codes b = Unit {0}
  SpansCodes lines a (code_then k ks) b =
      ((c : ℕ) × (d : ℕ) × (a ≤ c) × SpansCode lines c k d × (d ≤ b)) × SpansCodes lines a ks b
