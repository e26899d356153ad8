-- Files by name, as a known set of files has them, and room for their names.
use Rattle.std.specs.Prelude.{ℕ, ◌≡◌, ◌≤◌, List, [], ◌++◌, length, Option, Some, IsSome, if◌then◌else◌, option_map, unwrap_or}
use Rattle.std.specs.Str.{bytes_eq}

-- a file's name: the bytes of its text
abbrev pub Name : Type 0
Name = List ℕ

-- a set of files: what the file of a name holds, or that there is none
abbrev pub FileSet : Type 0
FileSet = Name → Option (List ℕ)

-- what is read of the file of this name from its start on: a missing one is empty
abbrev pub content : Name → FileSet → List ℕ
content name files = unwrap_or (files name) []

-- the file of this name holds these bytes, and each other file is as it was
abbrev pub put_file : Name → List ℕ → FileSet → FileSet
put_file name bytes files = λ other. if bytes_eq name other then Some bytes else files other

-- the file of this name, where there is one, has these bytes more at its end, and each other file is as it was
abbrev pub append_file : Name → List ℕ → FileSet → FileSet
append_file name bytes files =
    λ other. if bytes_eq name other then option_map (λ held. held ++ bytes) (files other) else files other

-- In a call no count of faults falls, and only that of reads may rise.
pub record OnlyReadsRise {F : Type 0} (read_faults write_faults : F → ℕ) (open_faults create_faults : F → Name → ℕ) (old new : F) : Type 0 where
  pub reads : read_faults old ≤ read_faults new
  pub writes : write_faults new ≡ write_faults old
  pub opens : open_faults new ≡ open_faults old
  pub creates : create_faults new ≡ create_faults old

-- In a call no count of faults falls, and only that of writes may rise.
pub record OnlyWritesRise {F : Type 0} (read_faults write_faults : F → ℕ) (open_faults create_faults : F → Name → ℕ) (old new : F) : Type 0 where
  pub reads : read_faults new ≡ read_faults old
  pub writes : write_faults old ≤ write_faults new
  pub opens : open_faults new ≡ open_faults old
  pub creates : create_faults new ≡ create_faults old

-- In a call no count of faults falls, and only those of opening, of any name, may rise.
pub record OnlyOpensRise {F : Type 0} (read_faults write_faults : F → ℕ) (open_faults create_faults : F → Name → ℕ) (old new : F) : Type 0 where
  pub reads : read_faults new ≡ read_faults old
  pub writes : write_faults new ≡ write_faults old
  pub opens : (name : Name) → open_faults old name ≤ open_faults new name
  pub creates : create_faults new ≡ create_faults old

-- In a call no count of faults falls, and only those of creating, of any name, may rise.
pub record OnlyCreatesRise {F : Type 0} (read_faults write_faults : F → ℕ) (open_faults create_faults : F → Name → ℕ) (old new : F) : Type 0 where
  pub reads : read_faults new ≡ read_faults old
  pub writes : write_faults new ≡ write_faults old
  pub opens : open_faults new ≡ open_faults old
  pub creates : (name : Name) → create_faults old name ≤ create_faults new name

-- the name of each file is of at most this length
abbrev pub NamesFit : FileSet → ℕ → Type 0
NamesFit files room = (name : Name) → IsSome (files name) → length name ≤ room
