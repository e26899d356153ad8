-- What is written in a global, from the first on that ends after a leaf's offset.
use Rattle.std.proofs.Common.{◌≡◌, ℕ, zero, suc, ◌+◌, ◌-◌, ◌<◌, ◌≤◌, ◌==◌, ◌≢◌, List, [], ◌∷◌, length, drop, get_or, refl, ap, ◌∙◌, sym, subst, arith, add-one, drop-cons}
use Rattle.std.specs.Prelude.{Bool, true, false, if◌then◌else◌, ◌&&◌, nat_le, nat_lt, slice_index_or}
use Rattle.std.proofs.lemmas.Bool.Decides.{nat_tests}
use Rattle.val_core.specs.declared.leaf.Leaf.{Leaf}
use Rattle.val_core.specs.declared.values.Value.{Value}
use Rattle.val_core.specs.declared.values.Value.TheVariants.{Num}
use Rattle.c_typed.specs.Typed.{WrittenTree, word_at, link_at, characters_at}
use Rattle.c_typed.specs.WellTyped.{WrittenFits}
use Rattle.c_mean.specs.Run.{leaf_value}
use Rattle.std.proofs.lemmas.List.{get_or-map, length-map}
use Rattle.std.proofs.Math.Seq.{drop-nil}
use Rattle.c_typed.specs.declared.program.Written.{Written}
use Rattle.c_typed.specs.ProgramEncoding.{written_of}
use Rattle.c_interp_store.specs.Starts.{is_past, first_is_past, are_written, AreFit}

pick : {X : Type 0} (b : Bool) (x y : X) → b ≡ false → (if b then x else y) ≡ y
pick true x y e = absurd cc
pick false x y e = refl

-- what ends before an offset is not written there
past_skipped : (global : ℕ → Value) (o q : ℕ) (w : WrittenTree) (ws : List WrittenTree) → is_past o w ≡ true → o ≤ q → leaf_value global q (w ∷ ws) ≡ leaf_value global q ws
past_skipped global o q (word_at at width v) ws h le = pick (at == q) (Num v) (leaf_value global q ws) (grind (arith, nat_tests))
past_skipped global o q (link_at at k) ws h le = pick (at == q) (global k) (leaf_value global q ws) (grind (arith, nat_tests))
past_skipped global o q (characters_at at cs) ws h le =
    pick (nat_le at q && nat_lt q (at + length cs)) (Num (slice_index_or cs (q - at) 0)) (leaf_value global q ws) (grind (arith, nat_tests))

-- what stands after an offset is not written there
later_skipped : (global : ℕ → Value) (ls : List Leaf) (n low q : ℕ) (ws : List WrittenTree) → WrittenFits ls n low ws → q < low → leaf_value global q ws ≡ Num 0
later_skipped global ls n low q [] h lt = refl
later_skipped global ls n low q (word_at at width v ∷ ws) h lt =
    let le = h.0 in
    pick (at == q) (Num v) (leaf_value global q ws) (grind (arith, nat_tests, le)) ∙ later_skipped global ls n (at + width) q ws h.3 (omega (arith, le))
later_skipped global ls n low q (link_at at k ∷ ws) h lt =
    let le = h.0 in
    pick (at == q) (global k) (leaf_value global q ws) (grind (arith, nat_tests, le)) ∙ later_skipped global ls n (at + 4) q ws h.3 (omega (arith, le))
later_skipped global ls n low q (characters_at at cs ∷ ws) h lt =
    let le = h.0 in
    pick (nat_le at q && nat_lt q (at + length cs)) (Num (slice_index_or cs (q - at) 0)) (leaf_value global q ws) (grind (arith, nat_tests, le))
    ∙ later_skipped global ls n (at + length cs) q ws h.2 (omega (arith, le))

-- one more that ends before the offset
skip_more : (global : ℕ → Value) (o q : ℕ) (ws : List WrittenTree) (i : ℕ) (d : WrittenTree) → i < length ws → is_past o (get_or ws i d) ≡ true → o ≤ q
    → leaf_value global q (drop i ws) ≡ leaf_value global q (drop (i + 1) ws)
skip_more global o q ws i d lt past le = rw (add-one, drop-cons ws i d) (past_skipped global o q (get_or ws i d) (drop (suc i) ws) past le)

first_at : (o : ℕ) (ws : List WrittenTree) (i : ℕ) (d : WrittenTree) → i < length ws → first_is_past o (drop i ws) ≡ is_past o (get_or ws i d)
first_at o ws i d lt = ap (first_is_past o) (drop-cons ws i d lt)

-- what stands after the offset is not written there
pub word_later : (global : ℕ → Value) (ls : List Leaf) (n low o at width v : ℕ) (ws : List WrittenTree) (x : WrittenTree) → x ≡ word_at at width v → at ≢ o → is_past o x ≡ false
    → WrittenFits ls n low (x ∷ ws) → Num 0 ≡ leaf_value global o (x ∷ ws)
word_later global ls n low o at width v ws x e ne past fits =
    let P : WrittenTree → Type 0 = λ y. is_past o y ≡ false → WrittenFits ls n low (y ∷ ws) → Num 0 ≡ leaf_value global o (y ∷ ws) in
    subst P (sym e) (λ p f. sym (pick (at == o) (Num v) (leaf_value global o ws) (grind (arith, nat_tests)) ∙ later_skipped global ls n (at + width) o ws f.3 (grind (arith, nat_tests)))) past fits

pub link_later : (global : ℕ → Value) (ls : List Leaf) (n low o at k : ℕ) (ws : List WrittenTree) (x : WrittenTree) → x ≡ link_at at k → at ≢ o → is_past o x ≡ false
    → WrittenFits ls n low (x ∷ ws) → Num 0 ≡ leaf_value global o (x ∷ ws)
link_later global ls n low o at k ws x e ne past fits =
    let P : WrittenTree → Type 0 = λ y. is_past o y ≡ false → WrittenFits ls n low (y ∷ ws) → Num 0 ≡ leaf_value global o (y ∷ ws) in
    subst P (sym e) (λ p f. sym (pick (at == o) (global k) (leaf_value global o ws) (grind (arith, nat_tests)) ∙ later_skipped global ls n (at + 4) o ws f.3 (grind (arith, nat_tests)))) past fits

pub characters_later : (global : ℕ → Value) (ls : List Leaf) (n low o at : ℕ) (cs : List ℕ) (ws : List WrittenTree) (x : WrittenTree) → x ≡ characters_at at cs → o < at → is_past o x ≡ false
    → WrittenFits ls n low (x ∷ ws) → Num 0 ≡ leaf_value global o (x ∷ ws)
characters_later global ls n low o at cs ws x e lt past fits =
    let P : WrittenTree → Type 0 = λ y. is_past o y ≡ false → WrittenFits ls n low (y ∷ ws) → Num 0 ≡ leaf_value global o (y ∷ ws) in
    subst P (sym e)
    (λ p f.
    sym (pick (nat_le at o && nat_lt o (at + length cs)) (Num (slice_index_or cs (o - at) 0)) (leaf_value global o ws) (grind (arith, nat_tests))
    ∙ later_skipped global ls n (at + length cs) o ws f.2 (omega (arith, lt)))) past fits

-- ---- the same of the code's list

read : (xs : List Written) (i : ℕ) (w : Written) → i < length xs → w ≡ get_or xs i w → get_or (are_written xs) i (written_of w) ≡ written_of w
read xs i w lt e = get_or-map written_of xs i w (written_of w) lt ∙ ap written_of (sym e)

inside : (xs : List Written) (i : ℕ) → i < length xs → i < length (are_written xs)
inside xs i lt = rw (length-map xs written_of) lt

pub first_is : (o : ℕ) (xs : List Written) (i : ℕ) (w : Written) → i < length xs → w ≡ get_or xs i w → first_is_past o (drop i (are_written xs)) ≡ is_past o (written_of w)
first_is o xs i w lt e = first_at o (are_written xs) i (written_of w) (inside xs i lt) ∙ ap (is_past o) (read xs i w lt e)

pub skip_is : (global : ℕ → Value) (o q : ℕ) (xs : List Written) (i : ℕ) (w : Written) → i < length xs → w ≡ get_or xs i w → is_past o (written_of w) ≡ true → o ≤ q
    → leaf_value global q (drop i (are_written xs)) ≡ leaf_value global q (drop (i + 1) (are_written xs))
skip_is global o q xs i w lt e past le = skip_more global o q (are_written xs) i (written_of w) (inside xs i lt) (ap (is_past o) (read xs i w lt e) ∙ past) le

pub first_drop : (xs : List Written) (i : ℕ) (w : Written) → i < length xs → w ≡ get_or xs i w → drop i (are_written xs) ≡ written_of w ∷ drop (suc i) (are_written xs)
first_drop xs i w lt e = drop-cons (are_written xs) i (written_of w) (inside xs i lt) ∙ ap (λ y. y ∷ drop (suc i) (are_written xs)) (read xs i w lt e)

pub drop_past : (xs : List Written) (i : ℕ) → length xs ≤ i → drop i (are_written xs) ≡ []
drop_past [] i le = drop-nil i
drop_past (x ∷ xs) zero le = absurd (omega arith)
drop_past (x ∷ xs) (suc i) le = drop_past xs i (omega arith)

pub fits_drop : (ws : List WrittenTree) (i : ℕ) → AreFit ws → AreFit (drop i ws)
fits_drop ws zero h = h
fits_drop [] (suc i) h = h
fits_drop (word_at at width v ∷ ws) (suc i) h = fits_drop ws i (record { leaves = h.leaves; globals = h.globals; from = at + width; fits = h.fits.3 })
fits_drop (link_at at k ∷ ws) (suc i) h = fits_drop ws i (record { leaves = h.leaves; globals = h.globals; from = at + 4; fits = h.fits.3 })
fits_drop (characters_at at cs ∷ ws) (suc i) h = fits_drop ws i (record { leaves = h.leaves; globals = h.globals; from = at + length cs; fits = h.fits.2 })
