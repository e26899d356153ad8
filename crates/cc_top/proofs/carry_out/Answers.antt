use Rattle.std.specs.Prelude.{refl, ℕ, List, [], Option, None, Some}
use mathlib.Core.Logic.{inl, inr}
use Rattle.cc_command.specs.Command.{Command, accept, build, run, generate, check, session, interpret}
use Rattle.cc_watch.specs.Rows.{PlainRow}
use Rattle.cc_top.specs.Ends.{Ends}
use Rattle.cc_report.specs.Outcome.{text_of as line_of}
use Rattle.cc_io.specs.Outside.{Outside}
use Rattle.cc_report.specs.declared.outcome.Outcome.TheVariants.{NoMemory}
use Rattle.cc_io.proofs.lemmas.Prepends.{prepend-none}
use Rattle.cc_top.proofs.carry_out.Goals as goal

-- Memory may run out under every command, which leaves all as it was.
module _ {W : Type 0} (named : W → List ℕ) (stands_for : W → List PlainRow → Type 0) (text_of : W → List PlainRow → List ℕ) where
  memory-ends : (c : Option Command) (x : Outside) (ws : List W) → Ends named stands_for text_of c NoMemory (line_of NoMemory) x x ws ws
  memory-ends None x ws = ((inr refl, refl), refl, refl)
  memory-ends (Some accept) x ws = (record { cause = refl; taken = []; rest = prepend-none x.input.bytes }, refl, refl, refl)
  memory-ends (Some (build source image list workers name form)) x ws =
      (record { build = λ rules is has. inl (refl, refl); usage = λ none. (inr refl, refl, refl); line = λ other. refl }, (refl, refl))
  memory-ends (Some (generate start functions out)) x ws = (refl, (refl, refl), refl, refl)
  memory-ends (Some (run image steps)) x ws = (record { cause = (refl, refl); files = refl; run = λ files is. tt }, refl, refl)
  memory-ends (Some (check source log image form)) x ws = (record { cause = tt; files = refl }, (refl, refl), refl, refl)
  memory-ends (Some (session source image list workers form)) x ws =
      (record { session = λ recipe is. inl (record { files = refl; input = refl; output = refl }); usage = λ none. (inr refl, refl) }, refl, refl)
  memory-ends (Some (interpret source bound)) x ws = (record { cause = inl (refl, refl); files = refl }, refl, refl)

pub returns-in-Err : goal.returns-in-Err
returns-in-Err g c = memory-ends _ _ _ _ _ _
