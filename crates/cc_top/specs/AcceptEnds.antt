-- How the command without arguments ends: the cause of each outcome, and what the streams hold then.
use Rattle.std.specs.Prelude.{◌≡◌, ℕ, List, take}
use Rattle.std.specs.Option.{ForSome}
use Rattle.cc_io.specs.Faults.{Increased}
use Rattle.cc_io.specs.Sink.{append}
use Rattle.cc_io.specs.Source.{prepend}
use Rattle.cc_report.specs.Outcome.{accepted_text}
use Rattle.cc_io.specs.Outside.{StreamSeen}
use Rattle.cc_top.specs.Compiled.{Defines}
use Rattle.cc_source.specs.Refused.{IsRefused}
use Rattle.cc_report.specs.declared.outcome.Outcome.{Outcome}
use Rattle.cc_report.specs.declared.outcome.Outcome.TheVariants.{Done, ReadFault, WriteFault, Refused, NoMemory}

-- The output has gained the line of an accepted source of so many functions, or a prefix of it where it was not written.
abbrev pub IsTold : (functions : ℕ) → Outcome → (output output' : StreamSeen) → Type 0
IsTold functions Done output output' = output'.bytes ≡ append output.bytes (accepted_text functions)
IsTold functions WriteFault output output' =
    Increased output.faults output'.faults
    × ((count : ℕ) × (output'.bytes ≡ append output.bytes (take count (accepted_text functions))))
IsTold functions _ output output' = ⊥

-- The source is what the input has left, where it is known.
abbrev pub AcceptCause : Outcome → (input input' output output' : StreamSeen) → Type 0
AcceptCause Done input input' output output' = (functions : ℕ) × ForSome input.bytes (Defines functions) × IsTold functions Done output output'
AcceptCause ReadFault input input' output output' = Increased input.faults input'.faults × (output' ≡ output)
AcceptCause WriteFault input input' output output' =
    (functions : ℕ) × ForSome input.bytes (Defines functions) × IsTold functions WriteFault output output'
AcceptCause (Refused refusal) input input' output output' = ForSome input.bytes (λ text. IsRefused text refusal) × (output' ≡ output)
AcceptCause NoMemory input input' output output' = output' ≡ output
AcceptCause _ input input' output output' = ⊥

-- Bytes were taken from the front of the input alone.
pub record AcceptEnds (ended : Outcome) (input input' output output' : StreamSeen) : Type 0 where
  pub cause : AcceptCause ended input input' output output'
  pub taken : List ℕ
  pub rest : input.bytes ≡ prepend taken input'.bytes
