-- What files in memory show of themselves.
use Rattle.std.specs.Prelude.{◌≡◌, ℕ, List, Option, None, Some, drop, option_map, if◌then◌else◌}
use Rattle.std.specs.String.{string_bytes}
use Rattle.cc_io.specs.Files.{Name, FileSet, content}
use Rattle.cc_io.specs.FileMap.{file_set, file_room}
use Rattle.cc_io.specs.declared.failing.FailingCalls.{FailingCalls}
use Rattle.cc_io.specs.declared.mem_files.MemFiles.{MemFiles}

-- the files
abbrev pub files_of : MemFiles → FileSet
files_of files = file_set files.files

-- the name of the file that is open
abbrev pub open_name : MemFiles → Option Name
open_name files = option_map (λ at. string_bytes files.read_name) files.read_at

-- what is left of the file that is open
abbrev pub open_left : MemFiles → Option (List ℕ)
open_left files = option_map (λ at. drop at (content (string_bytes files.read_name) (files_of files))) files.read_at

-- the name of the file that is written
abbrev pub written_name : MemFiles → Option Name
written_name files = if files.is_written then Some (string_bytes files.write_name) else None

-- how many bytes more the file that is written holds without taking memory
abbrev pub written_room : MemFiles → ℕ
written_room files = file_room files.files (string_bytes files.write_name)

-- the calls that are to fail, and how many were made
abbrev pub files_calls : MemFiles → FailingCalls
files_calls files = files.calls

-- the counts of faults
abbrev pub reads_failed : MemFiles → ℕ
reads_failed files = files.read_faults

abbrev pub writes_failed : MemFiles → ℕ
writes_failed files = files.write_faults

-- of opening and creating there is one count each, whatever the name
abbrev pub opens_failed : MemFiles → Name → ℕ
opens_failed files = λ name. files.open_faults

abbrev pub creates_failed : MemFiles → Name → ℕ
creates_failed files = λ name. files.create_faults

-- no call has failed
pub record IsFaultless (files : MemFiles) : Type 0 where
  pub reads : files.read_faults ≡ 0
  pub writes : files.write_faults ≡ 0
  pub opens : files.open_faults ≡ 0
  pub creates : files.create_faults ≡ 0

-- no count of faults has changed
pub record IsSameFaults (old new : MemFiles) : Type 0 where
  pub reads : new.read_faults ≡ old.read_faults
  pub writes : new.write_faults ≡ old.write_faults
  pub opens : new.open_faults ≡ old.open_faults
  pub creates : new.create_faults ≡ old.create_faults
