-- What the images of a source do on an input on which the source's own run was heard to exit.
use Rattle.std.specs.Prelude.{◌≡◌, ◌≢◌, ◌⊎◌, ℕ, List, Ok}
use Rattle.val_core.specs.Events.{IsPrefixOf}
use Rattle.c_typed.specs.Typed.{ProgramTree}
use Rattle.c_mean.specs.Run as source
use Rattle.c_mean.specs.Run.{heard}
use Rattle.r_rule.specs.declared.steps.Rule.{Rule}
use Rattle.g_graph.specs.Plain.{PlainLambda}
use Rattle.s_linear.specs.declared.frame.CodeForm.{CodeForm}
use Rattle.g_mean.specs.LessDefined.{AreBytes}
use Rattle.rv_machine.specs.Machine.{exit, stack}
use Rattle.rv_machine.specs.Run.{RunResult, ended, image_at}
use Rattle.cc_source.specs.SourceLaws as laws
use Rattle.cc_source.specs.Accepted.{Accepts}
use Rattle.cc_source.specs.Meaning.{KeepsMeaning}
use Rattle.cc_compile.specs.Compiled.{IsImageUnder}

-- No bound makes the run of the program on this input undefined.
abbrev pub IsDefined : ProgramTree → (input : List ℕ) → Type 0
IsDefined p i = (n : ℕ) → (heard n p i).ending ≢ source.undefined

-- A run of the machine exited with the status after the output, or had no room left on its stack after a prefix of it.
abbrev pub HasExited : (status : ℕ) (output : List ℕ) → RunResult → Type 0
HasExited status output r = ((r.hart ≡ ended (exit status)) × (r.output ≡ output)) ⊎ ((r.hart ≡ ended stack) × IsPrefixOf r.output output)

-- Some number of instructions of the file, with this input, come to that.
abbrev pub FileExits : (status : ℕ) (output : List ℕ) → (bytes input : List ℕ) → Type 0
FileExits status output bytes i = (count : ℕ) × ((r : RunResult) × (image_at count bytes i ≡ Ok r) × HasExited status output r)

-- Where the run was heard to exit within some bound, it is defined.
abbrev pub ExitsAreDefined : Type 0
ExitsAreDefined = (p : ProgramTree) (n : ℕ) (i : List ℕ) (status : ℕ) → (heard n p i).ending ≡ source.exit status → IsDefined p i

-- A file that keeps the meaning of the program then exits so, whoever made it,
abbrev pub KeptFilesExit : Type 0
KeptFilesExit =
    (form : CodeForm) (p : ProgramTree) (ls : List PlainLambda) (bytes : List ℕ) → KeepsMeaning form p ls bytes →
    (n : ℕ) (i : List ℕ) → AreBytes i → (status : ℕ) → (heard n p i).ending ≡ source.exit status →
    FileExits status (heard n p i).output bytes i

-- and so does the image of a source that is accepted, under every recipe in each form of code.
abbrev pub HeardExitsAreKept : Type 0
HeardExitsAreKept =
    (text : List ℕ) → laws.AreBytes text → (p : ProgramTree) → Accepts text p →
    (n : ℕ) (i : List ℕ) → AreBytes i → (status : ℕ) → (heard n p i).ending ≡ source.exit status →
    IsDefined p i × ((recipe : List Rule) (form : CodeForm) (bytes : List ℕ) → IsImageUnder recipe form p bytes → FileExits status (heard n p i).output bytes i)
