-- A map from names to bytes, as a set of files.
use Rattle.std.specs.Prelude.{ℕ, ◌-◌, option_map, unwrap_or, vec_len}
use Rattle.std.specs.declared.vec.Vec.{Vec}
use Rattle.std.specs.Vec.{vec_capacity}
use Rattle.std.specs.declared.string.String.{String}
use Rattle.std.specs.BTreeMap.{BTreeMap, get_by_text}
use Rattle.cc_io.specs.Files.{Name, FileSet}

-- the files of a map
abbrev pub file_set : {Y Z : Type 0} → BTreeMap (String Y) (Vec ℕ Z) → FileSet
file_set files = λ name. option_map (λ bytes. bytes.items) (get_by_text files name)

-- how many bytes more the file of this name holds without taking memory
abbrev pub file_room : {Y Z : Type 0} → BTreeMap (String Y) (Vec ℕ Z) → Name → ℕ
file_room files name = unwrap_or (option_map (λ bytes. vec_capacity bytes - vec_len bytes) (get_by_text files name)) 0
