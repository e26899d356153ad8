-- What a map's changes at one name are to the files.
use Rattle.std.proofs.Common.{◌≡◌, ℕ, Bool, true, false, cond, List, ◌++◌, Option, Some, option_map, Result, Ok, Err, OnOk, OnErr, is_ok, refl, sym, ap, ◌∙◌}
use mathlib.Core.Path.{fun_ext}
use Rattle.std.specs.declared.vec.Vec.{Vec}
use Rattle.std.specs.declared.string.String.{String}
use Rattle.std.specs.String.{string_bytes, string_cmp}
use Rattle.std.specs.Ordering.{nat_cmp}
use Rattle.std.specs.Cmp.Lexicographic.{slice_cmp}
use Rattle.std.specs.BTreeMap.{BTreeMap, UpdatesBy, get_by_text}
use Rattle.std.specs.Str.{bytes_eq}
use Rattle.std.proofs.lemmas.Map.Text.{btree_map_updates_text}
use Rattle.std.proofs.lemmas.Slice.Eq.{bytes_eq-Decides}
use Rattle.cc_io.specs.Files.{Name, FileSet, put_file, append_file}
use Rattle.cc_io.specs.FileMap.{file_set}

-- the map n is m with the value w at this name
abbrev pub SetsName : {Y Z : Type 0} → Name → BTreeMap (String Y) (Vec ℕ Z) → BTreeMap (String Y) (Vec ℕ Z) → Option (Vec ℕ Z) → Type 0
SetsName name m n w = UpdatesBy string_cmp (λ k. slice_cmp nat_cmp name (string_bytes k)) m n w

choose : {X Y : Type 0} (f : X → Y) (b : Bool) (x : X) (y : Option X) → option_map f (cond b (Some x) y) ≡ cond b (Some (f x)) (option_map f y)
choose f true x y = refl
choose f false x y = refl

module _ {Y Z : Type 0} (name : Name) (m n : BTreeMap (String Y) (Vec ℕ Z)) (held : Vec ℕ Z) (sets : SetsName name m n (Some held)) where
  pub file_set-put : file_set n ≡ put_file name held.items (file_set m)
  file_set-put =
      fun_ext (λ other. ap (option_map (λ v. v.items)) (btree_map_updates_text name m n (Some held) sets other) ∙ choose (λ v. v.items) (bytes_eq name other) held (get_by_text m other))

-- a file that is put again with more bytes
put_more : (name : Name) (files : FileSet) (bytes piece : List ℕ) → files name ≡ Some bytes → put_file name (bytes ++ piece) files ≡ append_file name piece files
put_more name files bytes piece had = fun_ext (λ other. at other (bytes_eq name other) refl)
  where
    at : (other : Name) (b : Bool) → bytes_eq name other ≡ b → cond b (Some (bytes ++ piece)) (files other) ≡ cond b (option_map (λ h. h ++ piece) (files other)) (files other)
    at other true same = sym (ap (option_map (λ h. h ++ piece)) (ap files (sym ((bytes_eq-Decides name other).0 same)) ∙ had))
    at other false differ = refl

-- a file that is put again as it was
put_same : (name : Name) (files : FileSet) (bytes : List ℕ) → files name ≡ Some bytes → put_file name bytes files ≡ files
put_same name files bytes had = fun_ext (λ other. at other (bytes_eq name other) refl)
  where
    at : (other : Name) (b : Bool) → bytes_eq name other ≡ b → cond b (Some bytes) (files other) ≡ files other
    at other true same = sym (ap files (sym ((bytes_eq-Decides name other).0 same)) ∙ had)
    at other false differ = refl

module _ {Y Z E : Type 0} (r : Result (Unit {0}) E) (name : Name) (m n : BTreeMap (String Y) (Vec ℕ Z)) (old held : Vec ℕ Z) (piece : List ℕ) (had : get_by_text m name ≡ Some old)
    (more : held.items ≡ cond (is_ok r) (old.items ++ piece) old.items) (sets : SetsName name m n (Some held)) where
  file_set-more : (b : Bool) → is_ok r ≡ b → file_set n ≡ put_file name (cond b (old.items ++ piece) old.items) (file_set m)
  file_set-more b is = file_set-put name m n held sets ∙ ap (λ bytes. put_file name bytes (file_set m)) (more ∙ ap (λ x. cond x (old.items ++ piece) old.items) is)

  was : file_set m name ≡ Some old.items
  was = ap (option_map (λ v. v.items)) had

  at_ok : is_ok r ≡ true → file_set n ≡ append_file name piece (file_set m)
  at_ok is = file_set-more true is ∙ put_more name (file_set m) old.items piece was

  at_err : is_ok r ≡ false → file_set n ≡ file_set m
  at_err is = file_set-more false is ∙ put_same name (file_set m) old.items was

on_ok : {E P : Type 0} (r : Result (Unit {0}) E) → (is_ok r ≡ true → P) → OnOk r P
on_ok (Ok u) p = p refl
on_ok (Err e) p = tt

on_err : {E P : Type 0} (r : Result (Unit {0}) E) → (is_ok r ≡ false → P) → OnErr r P
on_err (Ok u) p = tt
on_err (Err e) p = p refl

module _ {Y Z E : Type 0} (r : Result (Unit {0}) E) (name : Name) (m n : BTreeMap (String Y) (Vec ℕ Z)) (old held : Vec ℕ Z) (piece : List ℕ) (had : get_by_text m name ≡ Some old)
    (more : held.items ≡ cond (is_ok r) (old.items ++ piece) old.items) (sets : SetsName name m n (Some held)) where
  pub append-ok : OnOk r (file_set n ≡ append_file name piece (file_set m))
  append-ok = on_ok r (at_ok r name m n old held piece had more sets)

  pub append-err : OnErr r (file_set n ≡ file_set m)
  append-err = on_err r (at_err r name m n old held piece had more sets)
