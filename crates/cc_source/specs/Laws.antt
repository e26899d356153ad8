-- Laws of the programs of accepted sources, and of the lists that keep their graphs.
use Rattle.std.specs.Prelude.{◌≡◌, ℕ, List, None}
use Rattle.c_typed.specs.Typed.{ProgramTree}
use Rattle.c_typed.specs.WellTyped.{IsWellTyped}
use Rattle.c_check_def.specs.Limits.{above_limits}
use Rattle.g_graph.specs.Plain.{PlainLambda}
use Rattle.g_build_def.specs.Functions.{graph, omega}
use Rattle.g_build_keeps.specs.BuiltLaws.{IsSmall}
use Rattle.g_build.specs.Passed.{limit_passed}
use Rattle.r_edit.specs.Steps.{MayStandForAll}
use Rattle.g_pass_def.specs.Kept.{IsKeptBy}
use Rattle.g_build_keeps.specs.Groups.{HasFewGroups}
use Rattle.g_build_keeps.specs.Laws.{HasMeaning}
use Rattle.s_linear.specs.declared.frame.CodeForm.{CodeForm}
use Rattle.cc_emit.specs.Image.{CanEmit, file_of_program}
use Rattle.cc_source.specs.SourceLaws.{AreBytes}
use Rattle.cc_source.specs.Accepted.{Accepts}
use Rattle.cc_source.specs.Meaning.{KeepsMeaning}

-- ---- limits

-- A program that passes no limit is small.
abbrev pub UnlimitedAreSmall : Type 0
UnlimitedAreSmall = (p : ProgramTree) → above_limits p ≡ None → limit_passed p.functions ≡ None → IsSmall p

-- The lambdas of such a program can be put in an image,
abbrev pub ProgramsCanBeEmitted : Type 0
ProgramsCanBeEmitted = (p : ProgramTree) → IsWellTyped p → above_limits p ≡ None → limit_passed p.functions ≡ None → CanEmit (omega p) (graph p)

-- and so can lambdas that keep them.
abbrev pub KeptListsCanBeEmitted : Type 0
KeptListsCanBeEmitted =
    (p : ProgramTree) → IsWellTyped p → above_limits p ≡ None → limit_passed p.functions ≡ None → (ks : List PlainLambda) → IsKeptBy (graph p) ks → CanEmit (omega p) ks

-- ---- meaning

-- The image of a program does what the program does, with every list of lambdas that may stand for the built ones.
abbrev pub ProgramsKeepMeaning : Type 0
ProgramsKeepMeaning =
    (form : CodeForm) (p : ProgramTree) → IsWellTyped p → HasFewGroups p → (ls : List PlainLambda) → MayStandForAll (graph p) ls → CanEmit (omega p) ls →
    KeepsMeaning form p ls (file_of_program form (omega p) ls)

-- So it is with the built lambdas of a program within the limits.
abbrev pub BuiltProgramsKeepMeaning : Type 0
BuiltProgramsKeepMeaning =
    (form : CodeForm) (p : ProgramTree) → IsWellTyped p → HasFewGroups p → IsSmall p → KeepsMeaning form p (graph p) (file_of_program form (omega p) (graph p))

-- So it is with every list that keeps the graph of a source that is accepted.
abbrev pub KeptListsKeepMeaning : Type 0
KeptListsKeepMeaning =
    (form : CodeForm) (source : List ℕ) → AreBytes source → (p : ProgramTree) → Accepts source p → (ks : List PlainLambda) → IsKeptBy (graph p) ks →
    KeepsMeaning form p ks (file_of_program form (omega p) ks)

-- Such a list has the meaning of the program call for call too.
abbrev pub KeptListsHaveMeaning : Type 0
KeptListsHaveMeaning =
    (source : List ℕ) → AreBytes source → (p : ProgramTree) → Accepts source p → (ks : List PlainLambda) → IsKeptBy (graph p) ks →
    HasMeaning p ks
