-- How `gen` ends: the cause of each outcome, and what the files hold then.
use Rattle.std.specs.Prelude.{◌≡◌, ℕ}
use Rattle.cc_io.specs.Files.{Name}
use Rattle.cc_gen.specs.Generated.{generated}
use Rattle.cc_io.specs.Outside.{WriteFails, Writes, WritesPrefix, FilesSeen}
use Rattle.cc_report.specs.declared.outcome.Outcome.{Outcome}
use Rattle.cc_report.specs.declared.outcome.Outcome.TheVariants.{Done, WriteFault, NoMemory}

abbrev pub GenerateEnds : (start functions : ℕ) → (out : Name) → Outcome → FilesSeen → FilesSeen → Type 0
GenerateEnds start functions out Done before after = Writes out (generated start functions) before after
GenerateEnds start functions out WriteFault before after =
    WriteFails out before after × WritesPrefix out (generated start functions) before after
GenerateEnds start functions out NoMemory before after = after ≡ before
GenerateEnds start functions out _ before after = ⊥
