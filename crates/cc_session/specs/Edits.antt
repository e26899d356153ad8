-- Edits of a source: the definition of a function replaced by a text.
use Rattle.std.specs.Prelude.{◌≡◌, ◌≢◌, ℕ, Option, None, Some, if◌then◌else◌, List, [], ◌∷◌, ◌++◌, map, take, drop}
use Rattle.c_check_scope.specs.Scopes.{same_name}
use Rattle.c_typed.specs.Typed.{FunctionTree, ProgramTree}
use Rattle.cc_source.specs.Accepted.{Accepts, Refuses}
use Rattle.cc_source.specs.declared.fault.CompileFault.{CompileFault}
use Rattle.cc_source.specs.declared.fault.CompileFault.TheVariants as compile
use Rattle.cc_session.specs.declared.fault.EditFault.{EditFault}
use Rattle.cc_session.specs.declared.fault.EditFault.TheVariants as fault
use Rattle.cc_session.specs.Accepted.{PlainAccepted}

-- where the definition of the first function of this name begins and ends
abbrev pub extent_of : List FunctionTree → (name : List ℕ) → Option (ℕ × ℕ)
extent_of [] name = None
extent_of (f ∷ fs) name = if same_name f.name name then Some (f.starts, f.ends) else extent_of fs name

abbrev pub names_of : List FunctionTree → List (List ℕ)
names_of fs = map (λ (f : FunctionTree). f.name) fs

-- the source in which the text stands in place of what was from one offset to another
abbrev pub replaced : (source : List ℕ) → (extent : ℕ × ℕ) → (text : List ℕ) → List ℕ
replaced source extent text = take extent.0 source ++ text ++ drop extent.1 source

-- The function of the name is there, and the text in its place makes this source.
pub record IsReplaced (before : PlainAccepted) (name text new : List ℕ) : Type 0 where
  pub extent : ℕ × ℕ
  pub found : extent_of before.program.functions name ≡ Some extent
  pub is : new ≡ replaced before.source extent text

-- The edit makes this of it: the new source is accepted, and its functions have the names that they had.
pub record IsEdited (before : PlainAccepted) (name text : List ℕ) (after : PlainAccepted) : Type 0 where
  pub replaced : IsReplaced before name text after.source
  pub accepted : Accepts after.source after.program
  pub same_names : names_of after.program.functions ≡ names_of before.program.functions

-- Why an edit is refused. Out of memory may come in place of any answer.
abbrev pub IsEditRefused : EditFault → (before : PlainAccepted) → (name text : List ℕ) → Type 0
IsEditRefused fault.NoFunction before name text = extent_of before.program.functions name ≡ None
IsEditRefused (fault.Source e new) before name text = (e ≢ compile.NoMemory) × (IsReplaced before name text new × Refuses e new)
IsEditRefused fault.OtherNames before name text =
    (new : List ℕ) × IsReplaced before name text new × ((p : ProgramTree) × Accepts new p × (names_of p.functions ≢ names_of before.program.functions))
IsEditRefused fault.NoMemory before name text = Unit {0}

-- the fault of an edit that makes this source, which has this fault
abbrev pub given_back : CompileFault → (source : List ℕ) → EditFault
given_back compile.NoMemory source = fault.NoMemory
given_back e source = fault.Source e source

-- A source is not accepted, for its fault, and is given back; or memory ran out.
abbrev pub IsNotAccepted : EditFault → (source : List ℕ) → Type 0
IsNotAccepted (fault.Source e new) source = (e ≢ compile.NoMemory) × ((new ≡ source) × Refuses e source)
IsNotAccepted fault.NoMemory source = Unit {0}
IsNotAccepted _ source = ⊥
