-- What the inverted loop does.
use Rattle.std.specs.Prelude.{◌==◌}
use Rattle.std.proofs.Common.{◌≡◌, ◌+◌, ℕ, zero, suc, Bool, true, false, cond, List, [], ◌∷◌, length, refl, sym, ap, subst, ◌∙◌, arith}
use Rattle.std.proofs.Math.Path.{fun_ext}
use Rattle.val_core.specs.declared.values.Value.{Value}
use Rattle.val_core.specs.declared.values.Value.TheVariants.{Num, At, Bad}
use Rattle.val_core.specs.Answers.{Answer, Returned, then_on, on_number, Gives}
use Rattle.val_core.proofs.lemmas.Answers.{then_on_given, gives-then}
use Rattle.g_graph.specs.declared.op.Kind.{Kind}
use Rattle.g_graph.specs.declared.op.Kind.TheVariants.{Value as ValueKind}
use Rattle.g_graph.specs.declared.op.Op.TheVariants.{Gamma, Theta}
use Rattle.g_graph.specs.Plain.{RegionTree, region, no_regions, region_then, args_of, results_of}
use Rattle.g_graph.specs.Ids.{nodes_ids}
use Rattle.g_mean.specs.Data.{Datum, value_of}
use Rattle.g_mean.specs.Meaning.{Meaning, Context, branched, again, turns, region_meaning}
use Rattle.g_mean.proofs.lemmas.Closed.{region-closed}
use Rattle.r_edit.specs.Numbering.{node_count, region_numbered}
use Rattle.r_edit.proofs.lemmas.Copies.{numbered_copies_mean_the_same}
use Rattle.r_edit.proofs.lemmas.Loops.{gives-results, chosen-two}
use Rattle.r_invert.specs.Compose.{in_sequence, alone}
use Rattle.r_invert.specs.Laws.{either}
use Rattle.r_invert.specs.Rule.{Parts, turn, remaining, choice, inverted}
use Rattle.r_invert.proofs.Composed.{sequence-means, alone-means}
use Rattle.r_invert.proofs.Pieces.{Part, Piece, apart-pieces, numbered-piece}
use Rattle.r_invert.proofs.Whole.{PartsFit, results-count, loop-piece, last-piece, choice-piece}

-- ---- pieces

sequence-does : (objects a j k : ℕ) (args mids outs : List Kind) (r s : RegionTree) → Piece objects a j args mids r → Piece objects (a + j) k mids outs s → (c : Context) (xs : List Datum) →
    region_meaning c (in_sequence r s) xs ≡ then_on (region_meaning c r xs) (region_meaning c s)
sequence-does objects a j k args mids outs (region own ns results) (region others ms gets) r s c xs =
    let count : length others ≡ length results = ap length s.takes ∙ sym (results-count (region own ns results) mids r.gives) in
    sequence-means c own ns results others ms gets (region-closed objects (region own ns results) r.fits) (region-closed objects (region others ms gets) s.fits) count
    (apart-pieces a j k (nodes_ids ns) (nodes_ids ms) r.ids s.ids) xs

copy-does : (objects first : ℕ) (args outs : List Kind) (r : RegionTree) → Part objects args outs r → (c : Context) → region_meaning c (region_numbered first r) ≡ region_meaning c r
copy-does objects first args outs r h c = numbered_copies_mean_the_same first r (region-closed objects r h.fits) c

part-gives : (objects : ℕ) (args outs : List Kind) (r : RegionTree) → Part objects args outs r → (c : Context) (xs : List Datum) → Gives (λ ys. length ys ≡ length outs) (region_meaning c r xs)
part-gives objects args outs (region own ns results) h c xs =
    subst (λ n. Gives (λ ys. length ys ≡ n) (region_meaning c (region own ns results) xs)) (results-count (region own ns results) outs h.gives) (gives-results c own ns results xs)

-- ---- results in number

number-gives : (P : List Datum → Type 0) (v : Value) (f : ℕ → Answer (List Datum)) → ((w : ℕ) → Gives P (f w)) → Gives P (on_number v f)
number-gives P (Num w) f h = h w
number-gives P (At b o) f h = tt
number-gives P Bad f h = tt

cond-gives : (P : List Datum → Type 0) (t : Bool) (a b : Answer (List Datum)) → Gives P a → Gives P b → Gives P (cond t a b)
cond-gives P true a b h k = h
cond-gives P false a b h k = k

again-gives : (count : ℕ) (next : Meaning) → ((xs : List Datum) → Gives (λ ys. length ys ≡ count) (next xs)) → (ys : List Datum) → length ys ≡ suc count →
    Gives (λ zs. length zs ≡ count) (again next ys)
again-gives count next h [] e = tt
again-gives count next h (p ∷ ys) e =
    let long : length ys ≡ count = omega (arith, e) in
    number-gives (λ zs. length zs ≡ count) (value_of p) (λ w. cond (w == 0) (Returned ys []) (next ys))
    (λ w. cond-gives (λ zs. length zs ≡ count) (w == 0) (Returned ys []) (next ys) long (h ys))

turns-give : (count n : ℕ) (body : Meaning) → ((xs : List Datum) → Gives (λ ys. length ys ≡ suc count) (body xs)) → (xs : List Datum) → Gives (λ ys. length ys ≡ count) (turns n body xs)
turns-give count zero body h xs = tt
turns-give count (suc n) body h xs =
    gives-then (λ ys. length ys ≡ suc count) (λ ys. length ys ≡ count) (body xs) (again (turns n body)) (h xs) (again-gives count (turns n body) (turns-give count n body h))

either-gives : (P : List Datum → Type 0) (stop go : Meaning) (es : List Datum) → ((us : List Datum) → Gives P (stop us)) → ((us : List Datum) → Gives P (go us)) → Gives P (either stop go es)
either-gives P stop go [] h k = tt
either-gives P stop go (p ∷ es) h k = number-gives P (value_of p) (λ w. cond (w == 0) (stop es) (go es)) (λ w. cond-gives P (w == 0) (stop es) (go es) (h es) (k es))

-- ---- a Gamma of two regions

pub branched-two : (stop go : Meaning) (es : List Datum) → branched (stop ∷ go ∷ []) es ≡ either stop go es
branched-two stop go [] = refl
branched-two stop go (p ∷ es) = ap (on_number (value_of p)) (fun_ext (λ w. chosen-two w stop go es))

-- the same on so many entries
either-long : (stop go stop' go' : Meaning) (count : ℕ) → ((es : List Datum) → length es ≡ count → stop es ≡ stop' es) → ((es : List Datum) → length es ≡ count → go es ≡ go' es) → (us : List Datum) →
    length us ≡ suc count → either stop go us ≡ either stop' go' us
either-long stop go stop' go' count h k [] e = refl
either-long stop go stop' go' count h k (p ∷ es) e =
    let long : length es ≡ count = omega (arith, e) in
    ap (on_number (value_of p)) (fun_ext (λ w i. cond (w == 0) (h es long i) (k es long i)))

-- ---- the loop

module _ (objects : ℕ) (args es : List Kind) (p : Parts) (h : PartsFit objects args es p) (c : Context) where
  abbrev test : Meaning
  test = region_meaning c p.test

  abbrev stop : Meaning
  stop = region_meaning c p.stop

  abbrev go : Meaning
  go = region_meaning c p.go

  abbrev body : Meaning
  body us = then_on (go us) test

  turn-does : (first : ℕ) → region_meaning c (turn first p) ≡ body
  turn-does first =
      fun_ext (λ us.
      sequence-does objects first (node_count p.go) (node_count p.test) es args (ValueKind ∷ es) (region_numbered first p.go) (region_numbered (first + node_count p.go) p.test)
      (numbered-piece objects first es args p.go h.go) (numbered-piece objects (first + node_count p.go) args (ValueKind ∷ es) p.test h.test) c us
      ∙ (λ i. then_on (copy-does objects first es args p.go h.go c i us) (copy-does objects (first + node_count p.go) args (ValueKind ∷ es) p.test h.test c i)))

  body-gives : (us : List Datum) → Gives (λ ys. length ys ≡ suc (length es)) (body us)
  body-gives us = gives-then (λ ys. Unit {0}) (λ ys. length ys ≡ suc (length es)) (go us) test (any (go us)) (λ ys k. part-gives objects args (ValueKind ∷ es) p.test h.test c ys)
    where
      any : (a : Answer (List Datum)) → Gives (λ ys. Unit {0}) a
      any (Returned x o) = tt
      any _ = tt

  loop-does : (first : ℕ) (us : List Datum) → length us ≡ length es →
      region_meaning c (alone first Theta (args_of p.go) (length (args_of p.go)) (region_then (turn (suc first) p) no_regions)) us ≡ turns c.bound body us
  loop-does first us long =
      let gives : Gives (λ ys. length ys ≡ length es) (turns c.bound (region_meaning c (turn (suc first) p)) us) =
      subst (λ m. Gives (λ ys. length ys ≡ length es) (turns c.bound m us)) (sym (turn-does (suc first))) (turns-give (length es) c.bound body body-gives us) in
      ap (λ ks. region_meaning c (alone first Theta ks (length ks) (region_then (turn (suc first) p) no_regions)) us) h.go.takes
      ∙ alone-means c first Theta es (length es) (region_then (turn (suc first) p) no_regions) us long gives
      ∙ ap (λ m. turns c.bound m us) (turn-does (suc first))

  abbrev rest : Meaning
  rest us = then_on (turns c.bound body us) stop

  remaining-does : (first : ℕ) (us : List Datum) → length us ≡ length es → region_meaning c (remaining first p) us ≡ rest us
  remaining-does first us long =
      let count = node_count p.go + node_count p.test in
      sequence-does objects first (suc count) (node_count p.stop) es es args
      (alone first Theta (args_of p.go) (length (args_of p.go)) (region_then (turn (suc first) p) no_regions)) (region_numbered (suc first + count) p.stop)
      (loop-piece objects args es p h first) (last-piece objects args es p h first) c us
      ∙ (λ i. then_on (loop-does first us long i) (copy-does objects (suc first + count) es args p.stop h.stop c i))

  choice-does : (first : ℕ) (us : List Datum) → length us ≡ suc (length es) → region_meaning c (choice first p) us ≡ either stop rest us
  choice-does first us long =
      let z = region_numbered (suc first) p.stop in
      let b = remaining (suc first + node_count p.stop) p in
      let rs = region_then z (region_then b no_regions) in
      let same : either (region_meaning c z) (region_meaning c b) us ≡ either stop rest us =
      either-long (region_meaning c z) (region_meaning c b) stop rest (length es) (λ vs e i. copy-does objects (suc first) es args p.stop h.stop c i vs)
      (λ vs e. remaining-does (suc first + node_count p.stop) vs e) us long in
      let does : branched (region_meaning c z ∷ region_meaning c b ∷ []) us ≡ either stop rest us = branched-two (region_meaning c z) (region_meaning c b) us ∙ same in
      let gives : Gives (λ ys. length ys ≡ length args) (branched (region_meaning c z ∷ region_meaning c b ∷ []) us) =
      subst (Gives (λ ys. length ys ≡ length args)) (sym does) (either-gives (λ ys. length ys ≡ length args) stop rest us (λ vs. part-gives objects es args p.stop h.stop c vs)
      (λ vs. gives-then (λ ys. length ys ≡ length es) (λ ys. length ys ≡ length args) (turns c.bound body vs) stop (turns-give (length es) c.bound body body-gives vs)
      (λ ys k. part-gives objects es args p.stop h.stop c ys))) in
      ap (λ ks. region_meaning c (alone first Gamma (ValueKind ∷ ks) (length (results_of p.stop)) rs) us) h.stop.takes
      ∙ ap (λ n. region_meaning c (alone first Gamma (ValueKind ∷ es) n rs) us) (results-count p.stop args h.stop.gives)
      ∙ alone-means c first Gamma (ValueKind ∷ es) (length args) rs us long gives ∙ does

  pub inverted-does : (next : ℕ) (xs : List Datum) → region_meaning c (inverted next p) xs ≡ then_on (test xs) (either stop rest)
  inverted-does next xs =
      let count = node_count p.go + node_count p.test in
      sequence-does objects next (node_count p.test) (suc (node_count p.stop + (suc count + node_count p.stop))) args (ValueKind ∷ es) args
      (region_numbered next p.test) (choice (next + node_count p.test) p)
      (numbered-piece objects next args (ValueKind ∷ es) p.test h.test) (choice-piece objects args es p h (next + node_count p.test)) c xs
      ∙ ap (λ m. then_on (m xs) (region_meaning c (choice (next + node_count p.test) p))) (copy-does objects next args (ValueKind ∷ es) p.test h.test c)
      ∙ then_on_given (test xs) (region_meaning c (choice (next + node_count p.test) p)) (either stop rest)
      (λ us did e. choice-does (next + node_count p.test) us (subst (Gives (λ ys. length ys ≡ suc (length es))) e (part-gives objects args (ValueKind ∷ es) p.test h.test c xs)))
