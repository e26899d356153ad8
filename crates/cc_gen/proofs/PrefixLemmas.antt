-- Texts written one after the other, and prefixes of them.
use Rattle.std.proofs.Common.{◌≡◌, ℕ, zero, suc, ◌+◌, ◌-◌, ◌<◌, List, [], ◌∷◌, ◌++◌, length, take, drop, get_or, Option, Result, Ok, Err, OnOk, OnErr, sym, ap, subst, ◌∙◌, append-nil, length-append, arith}
use Rattle.std.specs.List.{flat_map, range_with_len}
use Rattle.std.proofs.lemmas.Grind.{flat_map-append}
use Rattle.std.proofs.lemmas.List.{take-append-le, take-append-drop}
use Rattle.std.proofs.Math.Seq.{take-append-add, drop-cons}
use Rattle.cc_io.specs.Sink.{append}
use Rattle.cc_io.proofs.lemmas.Sink.{append-append}
use Rattle.cc_gen.specs.Pieces.{HoldsPrefix}

pub append-then : (before now after : Option (List ℕ)) (first second : List ℕ) → now ≡ append before first → after ≡ append now second → after ≡ append before (first ++ second)
append-then before now after first second so_far next =
    next ∙ ap (λ held. append held second) so_far ∙ append-append before first second

-- a prefix of the first text is a prefix of both
pub prefix-first : (before after : Option (List ℕ)) (first second : List ℕ) → HoldsPrefix first before after → HoldsPrefix (first ++ second) before after
prefix-first before after first second part = record {
  count = part.count;
  within = omega (arith, part.within, length-append first second);
  held = part.held ∙ ap (append before) (sym (take-append-le part.count first second part.within));
}

-- the first text, and then a prefix of the second
pub prefix-then : (before now after : Option (List ℕ)) (first second : List ℕ) → now ≡ append before first → HoldsPrefix second now after → HoldsPrefix (first ++ second) before after
prefix-then before now after first second so_far part = record {
  count = length first + part.count;
  within = omega (arith, part.within, length-append first second);
  held = append-then before now after first (take part.count second) so_far part.held
      ∙ ap (append before) (sym (take-append-add first second part.count));
}

-- a prefix of the middle of three texts
pub prefix-middle : (before now after : Option (List ℕ)) (first second third : List ℕ) → now ≡ append before first → HoldsPrefix second now after
    → HoldsPrefix (first ++ (second ++ third)) before after
prefix-middle before now after first second third so_far part =
    prefix-then before now after first (second ++ third) so_far (prefix-first now after second third part)

-- the texts of a list, of which one is written to a prefix
pub prefix-each : {X : Type 0} (f : X → List ℕ) (xs ys : List X) (x : X) (before now after : Option (List ℕ)) → now ≡ append before (flat_map f xs) → HoldsPrefix (f x) now after
    → HoldsPrefix (flat_map f (xs ++ x ∷ ys)) before after
prefix-each f xs ys x before now after so_far part =
    let P : List ℕ → Type 0 = λ text. HoldsPrefix text before after in
    subst P (sym (flat_map-append f xs (x ∷ ys))) (prefix-middle before now after (flat_map f xs) (f x) (flat_map f ys) so_far part)

pub prefix-at : {X : Type 0} (f : X → List ℕ) (xs : List X) (i : ℕ) (d : X) (before now after : Option (List ℕ)) → i < length xs → now ≡ append before (flat_map f (take i xs))
    → HoldsPrefix (f (get_or xs i d)) now after → HoldsPrefix (flat_map f xs) before after
prefix-at {X} f xs i d before now after within so_far part =
    let P : List X → Type 0 = λ all. HoldsPrefix (flat_map f all) before after in
    let whole : take i xs ++ get_or xs i d ∷ drop (suc i) xs ≡ xs =
    ap (λ rest. take i xs ++ rest) (sym (drop-cons xs i d within)) ∙ take-append-drop i xs in
    subst P whole (prefix-each f (take i xs) (drop (suc i) xs) (get_or xs i d) before now after so_far part)

-- the numbers before one, and from it on
range-split : (a i k : ℕ) → range_with_len a (i + k) ≡ range_with_len a i ++ range_with_len (a + i) k
range-split a zero k =
    let none : 0 + k ≡ k = omega arith in
    let same : a + 0 ≡ a = omega arith in
    ap (range_with_len a) none ∙ ap (λ b. range_with_len b k) (sym same)
range-split a (suc i) k =
    let more : suc i + k ≡ suc (i + k) = omega arith in
    let next : (a + 1) + i ≡ a + suc i = omega arith in
    ap (range_with_len a) more
    ∙ ap (λ rest. a ∷ rest) (range-split (a + 1) i k)
    ∙ ap (λ b. a ∷ (range_with_len (a + 1) i ++ range_with_len b k)) next

-- the texts of the first numbers, of which one is written to a prefix
pub prefix-number : (f : ℕ → List ℕ) (n i : ℕ) (before now after : Option (List ℕ)) → i < n → now ≡ append before (flat_map f (range_with_len 0 i)) → HoldsPrefix (f i) now after
    → HoldsPrefix (flat_map f (range_with_len 0 n)) before after
prefix-number f n i before now after within so_far part =
    let P : List ℕ → Type 0 = λ all. HoldsPrefix (flat_map f all) before after in
    let count : i + suc (n - suc i) ≡ n = omega arith in
    let from : 0 + i ≡ i = omega arith in
    let whole : range_with_len 0 i ++ i ∷ range_with_len (i + 1) (n - suc i) ≡ range_with_len 0 n =
    ap (λ b. range_with_len 0 i ++ range_with_len b (suc (n - suc i))) (sym from) ∙ sym (range-split 0 i (suc (n - suc i))) ∙ ap (range_with_len 0) count in
    subst P whole (prefix-each f (range_with_len 0 i) (range_with_len (i + 1) (n - suc i)) i before now after so_far part)

-- and one more of them
pub number-more : (f : ℕ → List ℕ) (i : ℕ) → flat_map f (range_with_len 0 (i + 1)) ≡ flat_map f (range_with_len 0 i) ++ f i
number-more f i =
    let from : 0 + i ≡ i = omega arith in
    ap (flat_map f) (range-split 0 i 1) ∙ flat_map-append f (range_with_len 0 i) (range_with_len (0 + i) 1) ∙ ap (λ b. flat_map f (range_with_len 0 i) ++ (f b ++ [])) from
    ∙ ap (λ text. flat_map f (range_with_len 0 i) ++ text) (append-nil (f i))

pub append-number : (f : ℕ → List ℕ) (i : ℕ) (before now after : Option (List ℕ)) → now ≡ append before (flat_map f (range_with_len 0 i)) → after ≡ append now (f i)
    → after ≡ append before (flat_map f (range_with_len 0 (i + 1)))
append-number f i before now after so_far next =
    append-then before now after (flat_map f (range_with_len 0 i)) (f i) so_far next ∙ ap (append before) (sym (number-more f i))

-- what holds of a failed call
pub on_err : {T E : Type 0} {P : Type 0} (r : Result T E) → P → OnErr r P
on_err (Ok x) p = tt
on_err (Err e) p = p

-- a text by another name
pub same-ok : {T E : Type 0} (r : Result T E) (before after : Option (List ℕ)) (first second : List ℕ) → OnOk r (after ≡ append before first) → first ≡ second → OnOk r (after ≡ append before second)
same-ok r before after first second wrote same = let P : List ℕ → Type 0 = λ text. OnOk r (after ≡ append before text) in subst P same wrote

pub same-err : {T E : Type 0} (r : Result T E) (before after : Option (List ℕ)) (first second : List ℕ) → OnErr r (HoldsPrefix first before after) → first ≡ second
    → OnErr r (HoldsPrefix second before after)
same-err r before after first second wrote same = let P : List ℕ → Type 0 = λ text. OnErr r (HoldsPrefix text before after) in subst P same wrote

-- a text after what is written already
pub then-ok : {T E : Type 0} (r : Result T E) (before now after : Option (List ℕ)) (first second : List ℕ) → now ≡ append before first → OnOk r (after ≡ append now second)
    → OnOk r (after ≡ append before (first ++ second))
then-ok (Ok x) before now after first second so_far wrote = append-then before now after first second so_far wrote
then-ok (Err e) before now after first second so_far wrote = tt

pub then-err : {T E : Type 0} (r : Result T E) (before now after : Option (List ℕ)) (first second : List ℕ) → now ≡ append before first → OnErr r (HoldsPrefix second now after)
    → OnErr r (HoldsPrefix (first ++ second) before after)
then-err (Ok x) before now after first second so_far wrote = tt
then-err (Err e) before now after first second so_far wrote = prefix-then before now after first second so_far wrote

pub last-err : {T E : Type 0} (r : Result T E) (before now next after : Option (List ℕ)) (first second third : List ℕ) → now ≡ append before first → next ≡ append now second
    → OnErr r (HoldsPrefix third next after) → OnErr r (HoldsPrefix (first ++ (second ++ third)) before after)
last-err r before now next after first second third so_far further wrote =
    then-err r before now after first (second ++ third) so_far (then-err r now next after second third further wrote)

pub last-ok : {T E : Type 0} (r : Result T E) (before now next after : Option (List ℕ)) (first second third : List ℕ) → now ≡ append before first → next ≡ append now second
    → OnOk r (after ≡ append next third) → OnOk r (after ≡ append before (first ++ (second ++ third)))
last-ok r before now next after first second third so_far further wrote =
    then-ok r before now after first (second ++ third) so_far (then-ok r now next after second third further wrote)
