-- Why bytes are not read as a log.
use Rattle.std.specs.Prelude.{◌≡◌, ◌≢◌, ◌<◌, ◌≤◌, ◌++◌, ℕ, List, length}
use Rattle.cc_watch.specs.Rows.{PlainRow}
use Rattle.cc_watch.specs.Texts.{head_text}
use Rattle.log_check.specs.Log.{most_log_bytes, BreaksAt, IsHead}
use Rattle.log_check.specs.declared.fault.ReadFault.{ReadFault}
use Rattle.log_check.specs.declared.fault.ReadFault.TheVariants.{LongLog, BadLine, NoMemory}

-- want of memory may come in place of any answer
abbrev pub IsReadFault : ReadFault → List ℕ → Type 0
IsReadFault LongLog bytes = most_log_bytes < length bytes
IsReadFault (BadLine line) bytes = (length bytes ≤ most_log_bytes) × BreaksAt line bytes
IsReadFault NoMemory bytes = Unit {0}

-- the text begins with no function line, which was to be the one of this number
abbrev pub PartFails : ReadFault → (line : ℕ) → List ℕ → Type 0
PartFails (BadLine at) line text = (at ≡ line) × ((r : PlainRow) (after : List ℕ) → IsHead r → text ≢ head_text r ++ after)
PartFails NoMemory line text = Unit {0}
PartFails LongLog line text = ⊥
