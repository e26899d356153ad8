-- A file that is created and then written through a lent sink.
use Rattle.std.proofs.Common.{◌≡◌, ◌⊎◌, ℕ, inr, List, take, Option, option_map, Result, Ok, Err, OnErr, ap, ◌∙◌}
use Rattle.cc_gen.specs.Pieces.{HoldsPrefix}
use Rattle.cc_io.specs.Files.{Name, FileSet, put_file}
use Rattle.cc_io.specs.Created.{written_content}
use Rattle.cc_io.proofs.lemmas.Created.{Lent, known-saved}

pub saved-prefix : {E F : Type 0} (r : Result (Unit {0}) E) (known : F → Option FileSet) (made new last : F) (name : Name) (bytes : List ℕ) (old : Option FileSet) (writing writing' : Option Name)
    → Lent name old (known made) (known new) writing writing'
    → OnErr r (HoldsPrefix bytes (written_content writing (known made)) (written_content writing' (known new))) → last ≡ new
    → OnErr r ((known last ≡ old) ⊎ ((count : ℕ) × (known last ≡ option_map (put_file name (take count bytes)) old)))
saved-prefix (Ok u) known made new last name bytes old writing writing' lent held same = tt
saved-prefix (Err e) known made new last name bytes old writing writing' lent held same =
    inr (held.count, ap known same ∙ known-saved name (take held.count bytes) old (known made) (known new) writing writing' lent.named lent.same lent.created held.held lent.others)
