-- The created file of a lent `Files`, seen as a sink, and the rest of the files.
use Rattle.std.specs.Prelude.{ℕ, Bool, true, false, List, Option, None, Some, option_map, if◌then◌else◌}
use Rattle.std.specs.Str.{bytes_eq}
use Rattle.cc_io.specs.Files.{Name, FileSet}

-- what the file that is written holds, where the files are known
abbrev pub written_content : Option Name → Option FileSet → Option (List ℕ)
written_content None files = None
written_content (Some name) None = None
written_content (Some name) (Some files) = files name

-- the files without the one of this name
abbrev pub without_file : Name → FileSet → FileSet
without_file name files = λ other. if bytes_eq name other then None else files other

-- the files without the one that is written, where they are known
abbrev pub other_files : Option Name → Option FileSet → Option FileSet
other_files None files = None
other_files (Some name) files = option_map (without_file name) files

-- whether the file that is read is also the one that is written
abbrev pub is_same_file : Option Name → Option Name → Bool
is_same_file None None = true
is_same_file None (Some name) = false
is_same_file (Some name) None = false
is_same_file (Some name) (Some other) = bytes_eq name other

-- what is left of the file that is read, where another file is written
abbrev pub other_left : Option Name → Option Name → Option (List ℕ) → Option (List ℕ)
other_left reading writing left = if is_same_file reading writing then None else left

-- the rest of the files: all but the content of the created file
pub record RestOfCreated : Type 0 where
  -- which `&mut` is lent, by its ghost name
  pub lender : ℕ
  pub writing : Option Name
  pub others : Option FileSet
  pub reading : Option Name
  pub left : Option (List ℕ)
  pub read_faults : ℕ
  pub open_faults : Name → ℕ
  pub create_faults : Name → ℕ
