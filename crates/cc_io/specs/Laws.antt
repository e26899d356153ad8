-- Laws of what is read, written and filed.
use Rattle.std.specs.Prelude.{◌≡◌, ◌≢◌, ℕ, List, [], ◌++◌, Option, Some, option_map}
use Rattle.cc_io.specs.Source.{prepend}
use Rattle.cc_io.specs.Sink.{append}
use Rattle.cc_io.specs.Created.{written_content, other_files}
use Rattle.cc_io.specs.Files.{Name, FileSet, put_file, append_file}

-- two reads, one after the other, take what one read of both pieces takes
abbrev pub PrependTwice : Type 0
PrependTwice = (first second : List ℕ) (rest : Option (List ℕ)) → prepend first (prepend second rest) ≡ prepend (first ++ second) rest

-- two pieces appended, one after the other, are both joined
abbrev pub AppendTwice : Type 0
AppendTwice = (held : Option (List ℕ)) (first second : List ℕ) → append (append held first) second ≡ append held (first ++ second)

-- a file that is appended to holds both pieces
abbrev pub PutThenAppend : Type 0
PutThenAppend =
    (name : Name) (bytes piece : List ℕ) (files : FileSet) → append_file name piece (put_file name bytes files) ≡ put_file name (bytes ++ piece) files

-- of two contents the later counts
abbrev pub PutTwice : Type 0
PutTwice =
    (name : Name) (first second : List ℕ) (files : FileSet) → put_file name second (put_file name first files) ≡ put_file name second files

-- a file holds what was put there
abbrev pub PutHere : Type 0
PutHere = (name : Name) (bytes : List ℕ) (files : FileSet) → put_file name bytes files name ≡ Some bytes

-- and every other file what it held
abbrev pub PutElsewhere : Type 0
PutElsewhere =
    (name other : Name) (bytes : List ℕ) (files : FileSet) → name ≢ other → put_file name bytes files other ≡ files other

-- a file that was created and then appended to, while the other files stayed, holds these bytes
abbrev pub WrittenWhole : Type 0
WrittenWhole =
    (name : Name) (bytes : List ℕ) (old made new : Option FileSet) (writing writing' : Option Name) → writing ≡ Some name → writing' ≡ writing → made ≡ option_map (put_file name []) old
    → written_content writing' new ≡ append (written_content writing made) bytes → other_files writing' new ≡ other_files writing made → new ≡ option_map (put_file name bytes) old
