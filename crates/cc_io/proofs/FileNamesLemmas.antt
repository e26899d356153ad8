-- The names still fit once a file is put or appended to.
use Rattle.std.proofs.Common.{◌≡◌, ◌≤◌, ℕ, Bool, true, false, cond, List, ◌++◌, length, Option, None, Some, IsSome, is_some, is_err, option_map, Result, Ok, Err, OnOk, OnErr, refl, ap, subst, ◌∙◌, arith}
use Rattle.std.specs.Str.{bytes_eq}
use Rattle.std.proofs.lemmas.Slice.Eq.{bytes_eq-Decides}
use Rattle.cc_io.specs.Files.{Name, FileSet, put_file, append_file, NamesFit}

put-at : (name other : Name) (bytes : List ℕ) (files : FileSet) (room : ℕ) (b : Bool) → bytes_eq name other ≡ b → length name ≤ room → NamesFit files room → IsSome (cond b (Some bytes) (files other))
    → length other ≤ room
put-at name other bytes files room true same fits all is = subst (λ n. length n ≤ room) ((bytes_eq-Decides name other).0 same) fits
put-at name other bytes files room false differ fits all is = all other is

append-at : (other : Name) (piece : List ℕ) (held : Option (List ℕ)) (b : Bool) → IsSome (cond b (option_map (λ h. h ++ piece) held) held) → IsSome held
append-at other piece (Some held) b is = refl
append-at other piece None true is = is
append-at other piece None false is = is

larger : (files : FileSet) (room room' : ℕ) → room ≤ room' → NamesFit files room → NamesFit files room'
larger files room room' le all = λ name is. let h : length name ≤ room = all name is in omega arith

pub NamesFit-put : {E : Type 0} (r : Result (Unit {0}) E) (name : Name) (bytes : List ℕ) (old new : FileSet) (room room' : ℕ) → NamesFit old room → room ≤ room' → length name ≤ room'
    → OnOk r (new ≡ put_file name bytes old) → OnErr r (new ≡ old) → NamesFit new room'
NamesFit-put (Ok u) name bytes old new room room' all le fits ok err =
    λ other is. put-at name other bytes old room' (bytes_eq name other) refl fits (larger old room room' le all) (subst (λ f. IsSome (f other)) ok is)
NamesFit-put (Err e) name bytes old new room room' all le fits ok err =
    λ other is. larger old room room' le all other (subst (λ f. IsSome (f other)) err is)

pub NamesFit-append : {E : Type 0} (r : Result (Unit {0}) E) (name : Name) (piece : List ℕ) (old new : FileSet) (room : ℕ) → NamesFit old room → OnOk r (new ≡ append_file name piece old)
    → OnErr r (new ≡ old) → NamesFit new room
NamesFit-append (Ok u) name piece old new room all ok err =
    λ other is. all other (append-at other piece (old other) (bytes_eq name other) (subst (λ f. IsSome (f other)) ok is))
NamesFit-append (Err e) name piece old new room all ok err = λ other is. all other (subst (λ f. IsSome (f other)) err is)

-- the file that was put is there
pub put-some : {E : Type 0} (r : Result (Unit {0}) E) (name : Name) (bytes : List ℕ) (old new : FileSet) → OnOk r (new ≡ put_file name bytes old) → false ≡ is_err r → IsSome (new name)
put-some (Ok u) name bytes old new ok is =
    ap (λ f. is_some (f name)) ok ∙ ap (λ b. is_some (cond b (Some bytes) (old name))) ((bytes_eq-Decides name name).1 refl)
put-some (Err e) name bytes old new ok is = cc
