-- How a call ends: its status, and what it writes on the report. Each line ends with a line feed.
use Rattle.std.specs.Prelude.{ℕ, List, [], ◌∷◌, ◌++◌, codes}
use Rattle.elf_file.specs.ElfFault.{name_of, number_of}
use Rattle.cc_report.specs.Refusal as Refusal
use Rattle.cc_report.specs.LogFault as log_fault
use Rattle.cc_report.specs.Text.{decimal_text, hex_text}
use Rattle.cc_report.specs.declared.log_fault.LogFault.{LogFault}
use Rattle.cc_report.specs.declared.log_fault.LogFault.TheVariants.{OtherImage}
use Rattle.cc_report.specs.declared.refusal.RefusalKind.{RefusalKind}
use Rattle.cc_report.specs.declared.refusal.RefusalKind.TheVariants.{Limit}
use Rattle.cc_report.specs.declared.outcome.Outcome.{Outcome}
use Rattle.cc_report.specs.declared.outcome.Outcome.TheVariants.{Done, Usage, ReadFault, WriteFault, Refused, BadImage, NoMemory, Exit, Stack, Budget, Stuck, Undefined, Cut, Certified, NotCertified, Script}

abbrev pub status_of : Outcome → ℕ
status_of Done = 0
status_of Usage = 1
status_of ReadFault = 2
status_of WriteFault = 3
status_of (Refused refusal) = 4
status_of (BadImage fault) = 5
status_of NoMemory = 6
status_of (Exit status) = 0
status_of Stack = 7
status_of Budget = 7
status_of (Stuck pc why) = 7
status_of Undefined = 7
status_of Cut = 7
status_of Certified = 0
status_of (NotCertified kind place) = 8
status_of (Script number) = 9

abbrev pub line : List ℕ → List ℕ
line text = text ++ 10 ∷ []

abbrev pub usage_text : List ℕ
usage_text =
    line (codes "usage: rvcc build IN OUT [--workers N] [--recipe LIST] [--report NAME]")
    ++ line (codes "       rvcc run IMG [--steps N]")
    ++ line (codes "       rvcc gen NUMBER COUNT OUT")

-- which limit is passed and with what count, where the refusal is of this kind
abbrev pub limit_text : RefusalKind → List ℕ
limit_text (Limit which count) = codes " which " ++ decimal_text which ++ codes " count " ++ decimal_text count
limit_text _ = []

-- where a log or its image has a fault of this kind
abbrev pub place_text : LogFault → (place : ℕ) → List ℕ
place_text OtherImage place = codes " byte " ++ decimal_text place
place_text _ place = codes " line " ++ decimal_text place

-- what is written on the output of a source that is accepted and defines so many functions
abbrev pub accepted_text : (functions : ℕ) → List ℕ
accepted_text functions = line (codes "accepted " ++ decimal_text functions)

abbrev pub text_of : Outcome → List ℕ
text_of Done = []
text_of Usage = usage_text
text_of ReadFault = line (codes "read fault")
text_of WriteFault = line (codes "write fault")
text_of (Refused refusal) =
    line
    (codes "refused "
    ++ Refusal.name_of refusal.kind
    ++ 32 ∷ decimal_text (Refusal.number_of refusal.kind)
    ++ codes " line "
    ++ decimal_text refusal.line
    ++ limit_text refusal.kind)
text_of (BadImage fault) = line (codes "image " ++ name_of fault ++ 32 ∷ decimal_text (number_of fault))
text_of NoMemory = line (codes "memory")
text_of (Exit status) = line (codes "exit " ++ decimal_text status)
text_of Stack = line (codes "stack")
text_of Budget = line (codes "budget")
text_of (Stuck pc why) = line (codes "stuck " ++ hex_text 8 pc ++ 32 ∷ decimal_text why)
text_of Undefined = line (codes "undefined")
text_of Cut = line (codes "cut")
text_of Certified = line (codes "yes")
text_of (NotCertified kind place) = line (codes "log " ++ log_fault.name_of kind ++ 32 ∷ decimal_text (log_fault.number_of kind) ++ place_text kind place)
text_of (Script number) = line (codes "script " ++ decimal_text number)
