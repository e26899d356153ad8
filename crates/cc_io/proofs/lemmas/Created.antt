-- The file that is written and the other files, put together again.
use Rattle.std.proofs.Common.{◌≡◌, ◌≢◌, ◌≤◌, ◌⊎◌, ℕ, length, inr, Bool, true, false, cond, List, [], ◌++◌, take, Option, None, Some, option_map, Result, Ok, Err, IfOk, OnOk, OnErr, refl, sym, ap, ◌∙◌}
use mathlib.Core.Path.{fun_ext}
use Rattle.std.specs.Option.{ForSome}
use Rattle.std.specs.Str.{bytes_eq}
use Rattle.std.proofs.lemmas.Slice.Eq.{bytes_eq-Decides}
use Rattle.std.proofs.lemmas.Bool.{false≢true}
use Rattle.cc_io.specs.Sink.{append}
use Rattle.cc_io.specs.Files.{Name, FileSet, put_file, append_file}
use Rattle.cc_io.specs.Created.{written_content, without_file, other_files, is_same_file, other_left}

-- a name is itself
bytes_eq-same : (name : Name) → bytes_eq name name ≡ true
bytes_eq-same name = (bytes_eq-Decides name name).1 refl

append-option_map : (held : Option (List ℕ)) (bytes : List ℕ) → option_map (λ h. h ++ bytes) held ≡ append held bytes
append-option_map None bytes = refl
append-option_map (Some held) bytes = refl

-- bytes appended to the file that is written
append_file-same : (name : Name) (bytes : List ℕ) (files : FileSet) → append_file name bytes files name ≡ append (files name) bytes
append_file-same name bytes files =
    ap (λ b. cond b (option_map (λ h. h ++ bytes) (files name)) (files name)) (bytes_eq-same name) ∙ append-option_map (files name) bytes

skip : {X : Type 0} (b : Bool) (x y z : X) → cond b z (cond b x y) ≡ cond b z y
skip true x y z = refl
skip false x y z = refl

-- the files without one do not depend on what it holds
without-append : (name : Name) (bytes : List ℕ) (files : FileSet) → without_file name (append_file name bytes files) ≡ without_file name files
without-append name bytes files =
    fun_ext (λ other. skip (bytes_eq name other) (option_map (λ h. h ++ bytes) (files other)) (files other) None)

without-put : (name : Name) (bytes : List ℕ) (files : FileSet) → without_file name (put_file name bytes files) ≡ without_file name files
without-put name bytes files = fun_ext (λ other. skip (bytes_eq name other) (Some bytes) (files other) None)

-- a write as the sink's caller sees it
written-append : (writing writing' : Option Name) (known known' : Option FileSet) (bytes : List ℕ) → ForSome writing (λ name. known' ≡ option_map (append_file name bytes) known)
    → writing' ≡ writing → written_content writing' known' ≡ append (written_content writing known) bytes
written-append None writing' known known' bytes step same = ap (λ w. written_content w known') same
written-append (Some name) writing' None known' bytes step same =
    ap (λ w. written_content w known') same ∙ ap (written_content (Some name)) (step name refl)
written-append (Some name) writing' (Some files) known' bytes step same =
    ap (λ w. written_content w known') same ∙ ap (written_content (Some name)) (step name refl) ∙ append_file-same name bytes files

others-append : (writing writing' : Option Name) (known known' : Option FileSet) (bytes : List ℕ) → ForSome writing (λ name. known' ≡ option_map (append_file name bytes) known)
    → writing' ≡ writing → other_files writing' known' ≡ other_files writing known
others-append None writing' known known' bytes step same = ap (λ w. other_files w known') same
others-append (Some name) writing' None known' bytes step same =
    ap (λ w. other_files w known') same ∙ ap (other_files (Some name)) (step name refl)
others-append (Some name) writing' (Some files) known' bytes step same =
    ap (λ w. other_files w known') same ∙ ap (other_files (Some name)) (step name refl) ∙ ap Some (without-append name bytes files)

-- both for a call that may fail
pub written-ok : {E : Type 0} (r : Result ℕ E) (writing writing' : Option Name) (known known' : Option FileSet) (piece : List ℕ)
    → IfOk r (λ n. ForSome writing (λ name. known' ≡ option_map (append_file name (take n piece)) known)) → writing' ≡ writing
    → IfOk r (λ n. written_content writing' known' ≡ append (written_content writing known) (take n piece))
written-ok (Ok n) writing writing' known known' piece step same = written-append writing writing' known known' (take n piece) step same
written-ok (Err e) writing writing' known known' piece step same = tt

pub others-kept : {E : Type 0} (r : Result ℕ E) (writing writing' : Option Name) (known known' : Option FileSet) (piece : List ℕ)
    → IfOk r (λ n. ForSome writing (λ name. known' ≡ option_map (append_file name (take n piece)) known)) → OnErr r (known' ≡ known) → writing' ≡ writing
    → other_files writing' known' ≡ other_files writing known
others-kept (Ok n) writing writing' known known' piece step err same = others-append writing writing' known known' (take n piece) step same
others-kept (Err e) writing writing' known known' piece step err same =
    ap (λ w. other_files w known') same ∙ ap (other_files writing) err

is_same-self : (file : Option Name) → is_same_file file file ≡ true
is_same-self None = refl
is_same-self (Some name) = bytes_eq-same name

pick_left : (b : Bool) (left left' : Option (List ℕ)) → (b ≡ false → left' ≡ left) → cond b None left' ≡ cond b None left
pick_left true left left' step = refl
pick_left false left left' step = step refl

-- what is left of another file, after a call that leaves that alone
pub other_left-same : (reading writing reading' writing' : Option Name) (left left' : Option (List ℕ)) → (reading ≢ writing → left' ≡ left) → reading' ≡ reading → writing' ≡ writing
    → other_left reading' writing' left' ≡ other_left reading writing left
other_left-same reading writing reading' writing' left left' step same_reading same_writing =
    ap (λ r. other_left r writing' left') same_reading ∙ ap (λ w. other_left reading w left') same_writing
    ∙ pick_left (is_same_file reading writing) left left' (λ differ. step (λ same. false≢true (sym differ ∙ ap (is_same_file reading) (sym same) ∙ is_same-self reading)))

module _ (name : Name) (bytes : List ℕ) (f g : FileSet) (held : g name ≡ Some bytes) (others : without_file name g ≡ without_file name f) where
  at_other : (other : Name) (b : Bool) → bytes_eq name other ≡ b → g other ≡ cond b (Some bytes) (f other)
  at_other other true same = ap g (sym ((bytes_eq-Decides name other).0 same)) ∙ held
  at_other other false differ =
      let e : cond (bytes_eq name other) None (g other) ≡ cond (bytes_eq name other) None (f other) = ap (λ h. h other) others in
      rw differ at e

  put-together : g ≡ put_file name bytes f
  put-together = fun_ext (λ other. at_other other (bytes_eq name other) refl)

-- the one file and the other files make the whole
whole : (name : Name) (bytes : List ℕ) (old new : Option FileSet) → written_content (Some name) new ≡ append (written_content (Some name) (option_map (put_file name []) old)) bytes
    → other_files (Some name) new ≡ other_files (Some name) (option_map (put_file name []) old) → new ≡ option_map (put_file name bytes) old
whole name bytes None None held others = refl
whole name bytes None (Some g) held others = cc
whole name bytes (Some f) None held others = cc
whole name bytes (Some f) (Some g) held others =
    let all : g name ≡ Some bytes = held ∙ ap (λ b. append (cond b (Some []) (f name)) bytes) (bytes_eq-same name) in
    let same : without_file name g ≡ without_file name (put_file name [] f) = cc in
    ap Some (put-together name bytes f g all (same ∙ without-put name [] f))

-- a file that was created and then written through a lent sink
pub known-saved : (name : Name) (bytes : List ℕ) (old made new : Option FileSet) (writing writing' : Option Name) → writing ≡ Some name → writing' ≡ writing → made ≡ option_map (put_file name []) old
    → written_content writing' new ≡ append (written_content writing made) bytes → other_files writing' new ≡ other_files writing made → new ≡ option_map (put_file name bytes) old
known-saved name bytes old made new writing writing' named same created held others =
    whole name bytes old new (rw (same, named, created) at held) (rw (same, named, created) at others)

-- what is known of a created file and the other files, before and after it is written through a lent sink
pub record Lent (name : Name) (old made new : Option FileSet) (writing writing' : Option Name) : Type 0 where
  pub named : writing ≡ Some name
  pub same : writing' ≡ writing
  pub created : made ≡ option_map (put_file name []) old
  pub others : other_files writing' new ≡ other_files writing made

pub saved-ok : {E F : Type 0} (r : Result (Unit {0}) E) (known : F → Option FileSet) (made new last : F) (name : Name) (bytes : List ℕ) (old : Option FileSet) (writing writing' : Option Name)
    → Lent name old (known made) (known new) writing writing' → OnOk r (written_content writing' (known new) ≡ append (written_content writing (known made)) bytes) → last ≡ new
    → OnOk r (known last ≡ option_map (put_file name bytes) old)
saved-ok (Ok u) known made new last name bytes old writing writing' lent held same =
    ap known same ∙ known-saved name bytes old (known made) (known new) writing writing' lent.named lent.same lent.created held lent.others
saved-ok (Err e) known made new last name bytes old writing writing' lent held same = tt

pub saved-err : {E F : Type 0} (r : Result (Unit {0}) E) (known : F → Option FileSet) (made new last : F) (name : Name) (bytes : List ℕ) (old : Option FileSet) (writing writing' : Option Name)
    → Lent name old (known made) (known new) writing writing'
    → OnErr r ((k : ℕ) × (k ≤ length bytes) × (written_content writing' (known new) ≡ append (written_content writing (known made)) (take k bytes))) → last ≡ new
    → OnErr r ((known last ≡ old) ⊎ ((k : ℕ) × (k ≤ length bytes) × (known last ≡ option_map (put_file name (take k bytes)) old)))
saved-err (Ok u) known made new last name bytes old writing writing' lent held same = tt
saved-err (Err e) known made new last name bytes old writing writing' lent held same =
    inr (held.0, held.1, ap known same ∙ known-saved name (take held.0 bytes) old (known made) (known new) writing writing' lent.named lent.same lent.created held.2 lent.others)
