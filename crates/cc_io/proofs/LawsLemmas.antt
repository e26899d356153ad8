-- The laws, each by cases.
use Rattle.std.proofs.Common.{◌≡◌, ◌≢◌, ℕ, Bool, true, false, cond, List, ◌++◌, Option, Some, option_map, refl, ap}
use mathlib.Core.Path.{fun_ext}
use Rattle.std.specs.Str.{bytes_eq}
use Rattle.std.proofs.lemmas.Slice.Eq.{bytes_eq-Decides}
use Rattle.cc_io.specs.Files.{Name, FileSet}
use Rattle.cc_io.specs.Laws.{PutThenAppend, PutTwice, PutHere, PutElsewhere}

both : {X : Type 0} (f : X → X) (b : Bool) (x : X) (y : Option X) → cond b (option_map f (cond b (Some x) y)) (cond b (Some x) y) ≡ cond b (Some (f x)) y
both f true x y = refl
both f false x y = refl

later : {X : Type 0} (b : Bool) (x y z : X) → cond b x (cond b y z) ≡ cond b x z
later true x y z = refl
later false x y z = refl

pub put-then-append : PutThenAppend
put-then-append name bytes piece files =
    fun_ext (λ other. both (λ held. held ++ piece) (bytes_eq name other) bytes (files other))

pub put-twice : PutTwice
put-twice name first second files =
    fun_ext (λ other. later (bytes_eq name other) (Some second) (Some first) (files other))

pub put-here : PutHere
put-here name bytes files = ap (λ b. cond b (Some bytes) (files name)) ((bytes_eq-Decides name name).1 refl)

elsewhere : (name other : Name) (bytes : List ℕ) (files : FileSet) (b : Bool) → bytes_eq name other ≡ b → name ≢ other → cond b (Some bytes) (files other) ≡ files other
elsewhere name other bytes files true same differ = absurd (differ ((bytes_eq-Decides name other).0 same))
elsewhere name other bytes files false differs differ = refl

pub put-elsewhere : PutElsewhere
put-elsewhere name other bytes files differ = elsewhere name other bytes files (bytes_eq name other) refl differ
