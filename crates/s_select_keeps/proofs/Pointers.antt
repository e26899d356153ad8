-- Pointers are equal on the machine where they are equal as values.
use Rattle.std.proofs.Common.{◌≡◌, ◌≢◌, ◌⊎◌, ℕ, ◌+◌, ◌^◌, ◌<◌, ◌≤◌, ◌==◌, ◌&&◌, Bool, true, false, cond, Option, None, Some, slice_get, refl, sym, ap, ap₂, subst, ◌∙◌, arith, inl, inr, eqb-true, eq-eqb}
use Rattle.std.proofs.lemmas.Option.{same_Some}
use Rattle.std.specs.Prelude.{option_and_then}
use Rattle.std.proofs.lemmas.Bool.{and_parts, cases_Bool, eqb-false, ne_eqb}
use Rattle.val_core.specs.Words.{one_if}
use Rattle.val_core.specs.declared.values.BlockName.{BlockName}
use Rattle.val_core.specs.declared.values.Value.{Value}
use Rattle.val_core.specs.declared.values.Value.TheVariants.{Num, At, Bad}
use Rattle.val_core.specs.declared.operation.Op2.TheVariants.{Eq}
use Rattle.val_core.specs.Values.{same_block}
use Rattle.val_core.specs.Memory.{Memory, Block, block_named, is_live, pointers_equal}
use Rattle.s_select.specs.Operands.{location_of}
use Rattle.s_select.specs.Templates.{binary_code}
use Rattle.s_select_keeps.specs.Computed.{computed2}
use Rattle.s_select_keeps.specs.Relation.{Bases, Shows, ShowsAddress, Lives, AreLaidOut}
use Rattle.s_select_keeps.specs.Memories.{EqualPointersIsDone}
use Rattle.s_select_keeps.proofs.Locations.{location-fits}
use Rattle.s_select_keeps.proofs.Words.{same2}
use Rattle.s_select_keeps.proofs.Represented.{place-written}
use Rattle.s_select_keeps.proofs.Templates.{binary-computes, two-write}

-- a block of this name that lives
record Named (b : BlockName) (m : Memory) : Type 0 where
  block : Block
  lives : Lives m b.number block
  size : block.size ≡ b.size

named-there : (b : BlockName) (m : Memory) → is_live (block_named b m) ≡ true → Named b m
named-there b m e = by (slice_get m b.number) refl e
  where
    sized : (k : Block) → slice_get m b.number ≡ Some k → (test : Bool) → (k.size == b.size) ≡ test → is_live (cond test (Some k) None) ≡ true → Named b m
    sized k there true same live = record { block = k; lives = record { there = there; live = live }; size = eqb-true k.size b.size same }
    sized k there false other live = absurd cc

    by : (found : Option Block) → slice_get m b.number ≡ found → is_live (option_and_then (λ k. cond (k.size == b.size) (Some k) None) found) ≡ true → Named b m
    by None there live = absurd cc
    by (Some k) there live = sized k there (k.size == b.size) refl live

-- an address below 2^32, which is not 0
address-low : (base size offset x : ℕ) → ShowsAddress base size offset x → (0 < x) × (x < 2 ^ 32)
address-low base size offset x h =
    let is = h.is in
    let within = h.within in
    let low = h.low in
    let high = h.high in
    (omega (arith, is, low), omega (arith, is, within, high))

unequal-none : (a b : ℕ) → a < 2 ^ 32 → b < 2 ^ 32 → a ≢ b → computed2 Eq a b ≡ 0
unequal-none a b p q ne = same2 Eq a b p q ∙ ap one_if (ne_eqb a b ne)

module _ (flags : ℕ → ℕ) (bases : Bases) (m : Memory) (laid : AreLaidOut flags bases m) where
  -- two addresses in blocks that live
  addresses-equal : (b c : BlockName) (o p x y : ℕ) → Named b m → Named c m → ShowsAddress (bases b.number) b.size o x → ShowsAddress (bases c.number) c.size p y
      → (x == y) ≡ (same_block b c && (o == p))
  addresses-equal b c o p x y j k h h' =
      elim (cases_Bool (b.number == c.number)) [
        | inl same ↦ in-one (eqb-true b.number c.number same) same
        | inr differ ↦ ne_eqb x y (in-two (eqb-false b.number c.number differ)) ∙ (rw differ refl)
      ]
    where
      in-one : b.number ≡ c.number → (b.number == c.number) ≡ true → (x == y) ≡ (same_block b c && (o == p))
      in-one number same =
          let block : j.block ≡ k.block = same_Some j.block k.block (sym j.lives.there ∙ ap (slice_get m) number ∙ k.lives.there) in
          let size : b.size ≡ c.size = sym j.size ∙ ap (λ z. z.size) block ∙ k.size in
          let sizes : (b.size == c.size) ≡ true = eq-eqb b.size c.size size in
          let base = ap bases number in
          let is = h.is in
          let is' = h'.is in
          elim (cases_Bool (o == p)) [
            | inl equal ↦ let at : o ≡ p = eqb-true o p equal in eq-eqb x y (omega (arith, at, base, is, is')) ∙ (rw (same, sizes, equal) refl)
            | inr differ ↦ let at : o ≢ p = eqb-false o p differ in ne_eqb x y (λ e. at (omega (arith, e, base, is, is'))) ∙ (rw (same, sizes, differ) refl)
          ]

      in-two : b.number ≢ c.number → x ≢ y
      in-two ne e = by (laid.apart b.number c.number j.block k.block j.lives k.lives ne)
        where
          by : (bases b.number + j.block.size + 4 ≤ bases c.number) ⊎ (bases c.number + k.block.size + 4 ≤ bases b.number) → ⊥
          by (inl before) =
              let is = h.is in
              let is' = h'.is in
              let within = h.within in
              let size = j.size in
              absurd (omega (arith, e, before, is, is', within, size))
          by (inr after) =
              let is = h.is in
              let is' = h'.is in
              let within = h'.within in
              let size = k.size in
              absurd (omega (arith, e, after, is, is', within, size))

  pointers-shown : (v w : Value) (x y n : ℕ) → pointers_equal v w m ≡ Some n → Shows bases v x → Shows bases w y → Shows bases (Num n) (computed2 Eq x y)
  pointers-shown (Num a) (Num b) x y n e p q =
      let is : one_if (a == b) ≡ n = cc in
      (ap₂ (computed2 Eq) p.0 q.0 ∙ same2 Eq a b p.1 q.1 ∙ is, subst (λ z. z < 2 ^ 32) is (bit (a == b)))
    where
      bit : (test : Bool) → one_if test < 2 ^ 32
      bit true = omega arith
      bit false = omega arith
  pointers-shown (At b o) (Num w) x y n e p q = by (w == 0) refl e
    where
      by : (test : Bool) → (w == 0) ≡ test → cond test (Some 0) None ≡ Some n → Shows bases (Num n) (computed2 Eq x y)
      by true zero k =
          let is : 0 ≡ n = cc in
          let null : w ≡ 0 = eqb-true w 0 zero in
          let low = address-low (bases b.number) b.size o x p in
          let above = low.0 in
          let same = q.0 in
          (unequal-none x y low.1 (omega (arith, same, null)) (λ z. absurd (omega (arith, z, above, same, null))) ∙ is, omega (arith, is))
      by false other k = absurd cc
  pointers-shown (Num w) (At b o) x y n e p q = by (w == 0) refl e
    where
      by : (test : Bool) → (w == 0) ≡ test → cond test (Some 0) None ≡ Some n → Shows bases (Num n) (computed2 Eq x y)
      by true zero k =
          let is : 0 ≡ n = cc in
          let null : w ≡ 0 = eqb-true w 0 zero in
          let low = address-low (bases b.number) b.size o y q in
          let above = low.0 in
          let same = p.0 in
          (unequal-none x y (omega (arith, same, null)) low.1 (λ z. absurd (omega (arith, z, above, same, null))) ∙ is, omega (arith, is))
      by false other k = absurd cc
  pointers-shown (At b o) (At c p) x y n e h h' = by (is_live (block_named b m) && is_live (block_named c m)) refl e
    where
      bit : (test : Bool) → one_if test < 2 ^ 32
      bit true = omega arith
      bit false = omega arith

      by : (test : Bool) → (is_live (block_named b m) && is_live (block_named c m)) ≡ test → cond test (Some (one_if (same_block b c && (o == p)))) None ≡ Some n
          → Shows bases (Num n) (computed2 Eq x y)
      by true live k =
          let is : one_if (same_block b c && (o == p)) ≡ n = cc in
          let both = and_parts (is_live (block_named b m)) (is_live (block_named c m)) live in
          let equal = addresses-equal b c o p x y (named-there b m both.0) (named-there c m both.1) h h' in
          let low = address-low (bases b.number) b.size o x h in
          let low' = address-low (bases c.number) c.size p y h' in
          (same2 Eq x y low.1 low'.1 ∙ ap one_if equal ∙ is, subst (λ z. z < 2 ^ 32) is (bit (same_block b c && (o == p))))
      by false dead k = absurd cc
  pointers-shown (Num a) Bad x y n e p q = absurd cc
  pointers-shown (At b o) Bad x y n e p q = absurd cc
  pointers-shown Bad w x y n e p q = absurd cc

pub equal_pointers_is_done : EqualPointersIsDone
equal_pointers_is_done text f q s words rep t x y n below inx iny equal b there low =
    place-written text f words q s b t (Num n) rep below
    (two-write text f words s b (location_of f.temporaries t) (location_of f.temporaries x) (location_of f.temporaries y) (Num n) (q.names x) (q.names y) (binary_code Eq) (computed2 Eq) rep.has_text rep.stack
    (location-fits f t below) (location-fits f x inx) (location-fits f y iny) there low (rep.places x inx) (rep.places y iny)
    (λ u m rd a c v w has code small ne nea nec is is'. binary-computes text Eq u m rd a c v w has code small ne nea nec is is')
    (λ v w p p'. pointers-shown text.flags f.bases q.memory rep.memory.laid (q.names x) (q.names y) v w n equal p p'))
