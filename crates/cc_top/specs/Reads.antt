-- What reading leaves of the files.
use Rattle.std.specs.Prelude.{◌≡◌, ◌≤◌, ◌⊎◌}
use Rattle.cc_io.specs.Files.{Name}
use Rattle.cc_io.specs.Outside.{FilesSeen, ReadFails, Unchanged}
use Rattle.cc_report.specs.declared.outcome.Outcome.{Outcome}
use Rattle.cc_report.specs.declared.outcome.Outcome.TheVariants.{ReadFault, NoMemory}

-- No file changes, and no count of reads or of opening falls.
pub record OnlyReads (before after : FilesSeen) : Type 0 where
  pub files : Unchanged before after
  pub reads : before.read_faults ≤ after.read_faults
  pub opens : (name : Name) → before.open_faults name ≤ after.open_faults name

-- one of the files of these names was not read, or memory ran out
abbrev pub Unread : (source log image : Name) → Outcome → (before after : FilesSeen) → Type 0
Unread source log image ended before after =
    (ended ≡ NoMemory) ⊎ ((ended ≡ ReadFault) × (ReadFails source before after ⊎ (ReadFails log before after ⊎ ReadFails image before after)))
