-- How a command ends: the cause of each outcome, what the outside holds and the watchers stand for then, and what is said.
use Rattle.std.specs.Prelude.{◌≡◌, ◌⊎◌, ℕ, List, Option, Some, None}
use Rattle.cc_command.specs.Command.{Command, accept, build, run, generate, check, session, interpret}
use Rattle.cc_watch.specs.Rows.{PlainRow}
use Rattle.cc_top.specs.AcceptEnds.{AcceptEnds}
use Rattle.cc_top.specs.BuildEnds.{BuildEndsUnder}
use Rattle.cc_top.specs.CheckEnds.{CheckEnds}
use Rattle.cc_top.specs.InterpretEnds.{InterpretEnds}
use Rattle.cc_top.specs.SessionEnds.{SessionEndsUnder}
use Rattle.cc_top.specs.RunEnds.{RunEnds}
use Rattle.cc_top.specs.GenerateEnds.{GenerateEnds}
use Rattle.cc_report.specs.Outcome.{text_of as line_of}
use Rattle.cc_io.specs.Outside.{Outside, KeepsStreams}
use Rattle.cc_report.specs.declared.outcome.Outcome.{Outcome}
use Rattle.cc_report.specs.declared.outcome.Outcome.TheVariants.{Usage, NoMemory}

-- The arguments are no command, which leaves all as it was. Memory may run out for them too.
abbrev pub EndsUnread : Outcome → Outside → Outside → Type 0
EndsUnread ended before after = ((ended ≡ Usage) ⊎ (ended ≡ NoMemory)) × (after ≡ before)

-- The command of the arguments ends so. Any command but `build` leaves the watchers as they were and tells the line of
-- its outcome.
module _ {W : Type 0} (named : W → List ℕ) (stands_for : W → List PlainRow → Type 0) (text_of : W → List PlainRow → List ℕ) where
  abbrev pub Ends : Option Command → Outcome → (said : List ℕ) → (before after : Outside) → (ws ws' : List W) → Type 0
  Ends None ended said before after ws ws' = EndsUnread ended before after × (said ≡ line_of ended) × (ws' ≡ ws)
  Ends (Some accept) ended said before after ws ws' =
      AcceptEnds ended before.input after.input before.output after.output × (after.files ≡ before.files) × (said ≡ line_of ended) × (ws' ≡ ws)
  Ends (Some (build source image list workers name form)) ended said before after ws ws' =
      BuildEndsUnder named stands_for text_of list form name source image ended said before.files after.files ws ws' × KeepsStreams before after
  Ends (Some (generate start functions out)) ended said before after ws ws' =
      GenerateEnds start functions out ended before.files after.files × KeepsStreams before after × (said ≡ line_of ended) × (ws' ≡ ws)
  Ends (Some (run image steps)) ended said before after ws ws' = RunEnds image steps ended before after × (said ≡ line_of ended) × (ws' ≡ ws)
  Ends (Some (check source log image form)) ended said before after ws ws' =
      CheckEnds source log image form ended before.files after.files × KeepsStreams before after × (said ≡ line_of ended) × (ws' ≡ ws)
  Ends (Some (session source image list workers form)) ended said before after ws ws' =
      SessionEndsUnder list form source image ended before after × (said ≡ line_of ended) × (ws' ≡ ws)
  Ends (Some (interpret source bound)) ended said before after ws ws' = InterpretEnds source bound ended before after × (said ≡ line_of ended) × (ws' ≡ ws)
