-- What is left of the open file after a call.
use Rattle.std.proofs.Common.{◌≡◌, ◌≢◌, ℕ, ◌+◌, Bool, true, false, cond, List, ◌++◌, take, drop, Option, None, Some, IsSome, option_map, Result, Ok, Err, OnOk, OnErr, refl, sym, ap, ◌∙◌}
use Rattle.std.specs.Str.{bytes_eq}
use Rattle.std.proofs.lemmas.Slice.Eq.{bytes_eq-Decides}
use Rattle.std.proofs.lemmas.Bool.{false≢true}
use Rattle.std.proofs.lemmas.List.{take-append-drop, drop-drop}
use Rattle.cc_io.specs.Files.{Name, FileSet, content, put_file, append_file}

-- a read took these bytes from what was left
pub left-read : (read_at : Option ℕ) (at n : ℕ) (held got : List ℕ) → read_at ≡ Some at → got ≡ take n (drop at held) → option_map (λ k. drop k held) read_at ≡ Some (got ++ drop (at + n) held)
left-read read_at at n held got is took =
    ap (option_map (λ k. drop k held)) is ∙ ap Some (sym (take-append-drop n (drop at held)) ∙ ap (λ bytes. bytes ++ drop n (drop at held)) (sym took) ∙ ap (λ rest. got ++ rest) (drop-drop n at held))

-- the file of another name is as it was
other-put : (name other : Name) (bytes : List ℕ) (files : FileSet) → name ≢ other → put_file name bytes files other ≡ files other
other-put name other bytes files differ = at (bytes_eq name other) refl
  where
    at : (b : Bool) → bytes_eq name other ≡ b → cond b (Some bytes) (files other) ≡ files other
    at true same = absurd (differ ((bytes_eq-Decides name other).0 same))
    at false differs = refl

other-append : (name other : Name) (piece : List ℕ) (files : FileSet) → name ≢ other → append_file name piece files other ≡ files other
other-append name other piece files differ = at (bytes_eq name other) refl
  where
    at : (b : Bool) → bytes_eq name other ≡ b → cond b (option_map (λ h. h ++ piece) (files other)) (files other) ≡ files other
    at true same = absurd (differ ((bytes_eq-Decides name other).0 same))
    at false differs = refl

-- what is left of a file that is as it was
left-same : (read : Name) (read_at : Option ℕ) (old new : FileSet) → (option_map (λ k. read) read_at ≡ Some read → new read ≡ old read)
    → option_map (λ k. drop k (content read new)) read_at ≡ option_map (λ k. drop k (content read old)) read_at
left-same read None old new same = refl
left-same read (Some at) old new same = ap (λ held. Some (drop at (content read (λ name. held)))) (same refl)

pub left-put : {E : Type 0} (r : Result (Unit {0}) E) (read name : Name) (read_at : Option ℕ) (bytes : List ℕ) (old new : FileSet) → OnOk r (new ≡ put_file name bytes old) → OnErr r (new ≡ old)
    → option_map (λ k. read) read_at ≢ Some name → option_map (λ k. drop k (content read new)) read_at ≡ option_map (λ k. drop k (content read old)) read_at
left-put (Ok u) read name read_at bytes old new ok err differ =
    left-same read read_at old new (λ is. ap (λ f. f read) ok ∙ other-put name read bytes old (λ same. differ (is ∙ ap Some (sym same))))
left-put (Err e) read name read_at bytes old new ok err differ = left-same read read_at old new (λ is. ap (λ f. f read) err)

pub left-append : {E : Type 0} (r : Result (Unit {0}) E) (read name : Name) (read_at : Option ℕ) (piece : List ℕ) (old new : FileSet) → OnOk r (new ≡ append_file name piece old) → OnErr r (new ≡ old)
    → option_map (λ k. read) read_at ≢ Some name → option_map (λ k. drop k (content read new)) read_at ≡ option_map (λ k. drop k (content read old)) read_at
left-append (Ok u) read name read_at piece old new ok err differ =
    left-same read read_at old new (λ is. ap (λ f. f read) ok ∙ other-append name read piece old (λ same. differ (is ∙ ap Some (sym same))))
left-append (Err e) read name read_at piece old new ok err differ = left-same read read_at old new (λ is. ap (λ f. f read) err)

-- the name of the file that is written, where there is one
pub written-some : (is_written : Bool) (name : Name) → IsSome (cond is_written (Some name) None) → Some name ≡ cond is_written (Some name) None
written-some true name some = refl
written-some false name some = absurd (false≢true some)
