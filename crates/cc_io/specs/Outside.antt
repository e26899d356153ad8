-- What is known of the outside at one moment: its files, its input and its output.
use Rattle.std.specs.Prelude.{◌≡◌, ◌⊎◌, ℕ, List, Option, take, option_map}
use Rattle.std.specs.Option.{ForSome}
use Rattle.cc_io.specs.Faults.{Increased}
use Rattle.cc_io.specs.Files.{Name, FileSet, content, put_file}

-- Of the files: what they hold, where it is known, and how often each call has failed.
pub record FilesSeen : Type 0 where
  pub known : Option FileSet
  pub read_faults : ℕ
  pub write_faults : ℕ
  pub open_faults : Name → ℕ
  pub create_faults : Name → ℕ

-- Of a stream: the bytes that it has left, or holds, where they are known, and how often a call has failed.
pub record StreamSeen : Type 0 where
  pub bytes : Option (List ℕ)
  pub faults : ℕ

pub record Outside : Type 0 where
  pub files : FilesSeen
  pub input : StreamSeen
  pub output : StreamSeen

-- the input and the output are as they were
abbrev pub KeepsStreams : Outside → Outside → Type 0
KeepsStreams before after = (after.input ≡ before.input) × (after.output ≡ before.output)

module _ {F : Type 0} (known : F → Option FileSet) (read_faults write_faults : F → ℕ) (open_faults create_faults : F → Name → ℕ) where
  abbrev pub files_seen : F → FilesSeen
  files_seen f = record {
    known = known f;
    read_faults = read_faults f;
    write_faults = write_faults f;
    open_faults = open_faults f;
    create_faults = create_faults f;
  }

abbrev pub stream_seen : {S : Type 0} → (S → Option (List ℕ)) → (S → ℕ) → S → StreamSeen
stream_seen bytes faults s = record { bytes = bytes s; faults = faults s }

-- What is seen of all three, by the members of their traits: of files `F`, an input `I` and an output `O`.
module _ {F I O : Type 0} (known : F → Option FileSet) (read_faults write_faults : F → ℕ) (open_faults create_faults : F → Name → ℕ) (left : I → Option (List ℕ)) (input_faults : I → ℕ)
    (held : O → Option (List ℕ)) (output_faults : O → ℕ) where
  abbrev pub outside_of : F → I → O → Outside
  outside_of f i o = record {
    files = files_seen known read_faults write_faults open_faults create_faults f;
    input = stream_seen left input_faults i;
    output = stream_seen held output_faults o;
  }

-- ---- files before and after

-- the file of this name was not read
abbrev pub ReadFails : Name → FilesSeen → FilesSeen → Type 0
ReadFails name before after =
    Increased (before.open_faults name) (after.open_faults name) ⊎ Increased before.read_faults after.read_faults

-- the file of this name was not written
abbrev pub WriteFails : Name → FilesSeen → FilesSeen → Type 0
WriteFails name before after =
    Increased (before.create_faults name) (after.create_faults name) ⊎ Increased before.write_faults after.write_faults

-- The file of this name holds this and every other file is as it was.
abbrev pub Writes : Name → List ℕ → FilesSeen → FilesSeen → Type 0
Writes name bytes before after = after.known ≡ option_map (put_file name bytes) before.known

-- No file has changed.
abbrev pub Unchanged : FilesSeen → FilesSeen → Type 0
Unchanged before after = after.known ≡ before.known

-- No file has changed, or the file of this name holds the bytes from their front on, and every other is as it was.
abbrev pub WritesPrefix : Name → List ℕ → FilesSeen → FilesSeen → Type 0
WritesPrefix name bytes before after = Unchanged before after ⊎ ((count : ℕ) × Writes name (take count bytes) before after)

-- of the source's text, where the files are known
abbrev pub IfKnown : Name → FilesSeen → (List ℕ → Type 0) → Type 0
IfKnown source before P = ForSome before.known (λ files. P (content source files))
