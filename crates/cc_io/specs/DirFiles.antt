-- The files of a folder that are in use.
use Rattle.std.specs.Prelude.{◌≡◌, ℕ, List, Option, None, option_map, option_and_then}
use Rattle.std.specs.String.{string_bytes}
use Rattle.cc_io.specs.Files.{Name}
use Rattle.cc_io.specs.declared.dir_files.NamedFile.{NamedFile}
use Rattle.cc_io.specs.declared.dir_files.DirFiles.{DirFiles}

-- the name that the file, where there is one, was asked for by
abbrev pub name_of : {H : Type 0} → Option (NamedFile H) → Option Name
name_of file = option_map (λ found. string_bytes found.name) file

-- the bytes that are known of the system's file, where there is one
abbrev pub bytes_of : {H : Type 0} → (H → Option (List ℕ)) → Option (NamedFile H) → Option (List ℕ)
bytes_of known file = option_and_then (λ found. known found.file) file

module _ {R H D : Type 0} where
  -- the file that is open, and the one that is written
  abbrev pub open_file : DirFiles R H D → Option (NamedFile H)
  open_file files = files.reading

  abbrev pub made_file : DirFiles R H D → Option (NamedFile H)
  made_file files = files.writing

  -- the counts of faults: of opening and creating there is one each, whatever the name
  abbrev pub reads_failed : DirFiles R H D → ℕ
  reads_failed files = files.read_faults

  abbrev pub writes_failed : DirFiles R H D → ℕ
  writes_failed files = files.write_faults

  abbrev pub opens_failed : DirFiles R H D → Name → ℕ
  opens_failed files = λ name. files.open_faults

  abbrev pub creates_failed : DirFiles R H D → Name → ℕ
  creates_failed files = λ name. files.create_faults

  -- the files of this folder, of which none is in use and no call has failed
  pub record IsNew (folder : Name) (files : DirFiles R H D) : Type 0 where
    pub path : string_bytes files.folder ≡ folder
    pub reading : name_of files.reading ≡ None
    pub writing : name_of files.writing ≡ None
    pub reads : files.read_faults ≡ 0
    pub writes : files.write_faults ≡ 0
    pub opens : files.open_faults ≡ 0
    pub creates : files.create_faults ≡ 0
