-- How the command without arguments ends, from how its steps did.
use Rattle.std.proofs.Common.{◌≡◌, ℕ, List, take, refl}
use Rattle.std.specs.Option.{ForSome}
use Rattle.r_rule.specs.declared.steps.Rule.{Rule}
use Rattle.s_linear.specs.declared.frame.CodeForm.{CodeForm}
use Rattle.cc_watch.specs.Rows.{PlainRow}
use Rattle.cc_top.specs.AcceptEnds.{AcceptCause, IsTold}
use Rattle.cc_io.specs.Outside.{StreamSeen}
use Rattle.cc_top.specs.Compiled.{CompilesTo}
use Rattle.cc_source.specs.Refused.{IsRejectionOf}
use Rattle.cc_report.specs.declared.outcome.Outcome.{Outcome}
use Rattle.cc_report.specs.declared.outcome.Outcome.TheVariants.{Done, WriteFault, Refused, NoMemory}
use Rattle.cc_top.proofs.SourceLemmas.{defines_of_read}
use Rattle.cc_source.proofs.lemmas.Sources.{refused_of_read}

-- the bytes that were read are a source of so many functions
pub accepted_ends : (recipe : List Rule) (form : CodeForm) (functions : ℕ) (e : Outcome) (input input' output output' : StreamSeen) (read bytes : List ℕ) (rows : List PlainRow)
    → ForSome input.bytes (λ text. read ≡ take 1048577 text) →
    CompilesTo recipe form read bytes functions rows → IsTold functions e output output' → AcceptCause e input input' output output'
accepted_ends recipe form n Done input input' output output' read bytes rows same h ends = (n, (λ text is. defines_of_read recipe form text read bytes n rows (same text is) h), ends)
accepted_ends recipe form n WriteFault input input' output output' read bytes rows same h ends = (n, (λ text is. defines_of_read recipe form text read bytes n rows (same text is) h), ends)
accepted_ends recipe form n _ input input' output output' read bytes rows same h ends = absurd ends

-- the bytes that were read are refused, or memory ran out
pub rejected_ends : (e : Outcome) (input input' output : StreamSeen) (read : List ℕ) → ForSome input.bytes (λ text. read ≡ take 1048577 text) → IsRejectionOf read e
    → AcceptCause e input input' output output
rejected_ends (Refused refusal) input input' output read same h = ((λ text is. refused_of_read text read refusal (same text is) h), refl)
rejected_ends NoMemory input input' output read same h = refl
rejected_ends _ input input' output read same h = absurd h
