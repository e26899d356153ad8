-- What contracts see of an accepted source.
use Rattle.std.specs.Prelude.{◌≡◌, ℕ, List, None, refl}
use Rattle.std.specs.Coded.{Coded, code_by, coded×, coded_list, coded_ℕ}
use Rattle.c_typed.specs.Typed.{ProgramTree}
use Rattle.c_typed.specs.ProgramEncoding.{coded_program}
use Rattle.c_typed.specs.WellTyped.{IsWellTyped}
use Rattle.c_check_def.specs.Limits.{above_limits}
use Rattle.cc_source.specs.Accepted.{Accepts}

-- a source, and the program that it is accepted as
pub record PlainAccepted : Type 0 where
  pub source : List ℕ
  pub program : ProgramTree

abbrev pub coded_accepted : Coded PlainAccepted
coded_accepted = code_by (List ℕ × ProgramTree) (coded× (coded_list coded_ℕ) coded_program) (λ a. (a.source, a.program)) (λ p. record { source = p.0; program = p.1 }) (λ _. refl)

-- The source is accepted as the program, which is well typed and within the limits of programs.
pub record IsAccepted (source : List ℕ) (p : ProgramTree) : Type 0 where
  pub accepted : Accepts source p
  pub typed : IsWellTyped p
  pub limits : above_limits p ≡ None
