-- What holds at some addresses of blocks holds at more of them.
use Rattle.std.proofs.Common.{◌≡◌, ℕ, ◌%◌, ◌^◌, refl, sym, ap, subst, ◌∙◌, arith, inl, inr}
use Rattle.val_core.specs.declared.values.Value.{Value}
use Rattle.val_core.specs.declared.values.Value.TheVariants.{Num, At, Bad}
use Rattle.val_core.specs.Memory.{Memory, Block, shape_of}
use Rattle.s_select_keeps.specs.Relation.{Bases, Extends, Shows, Lives, Fellow, LivesAlike, IsLive, IsOutside, AreLaidOut, SameWord}
use Rattle.s_select_keeps.proofs.Operands.{shows-word}

pub shows-more : (bases more : Bases) → Extends bases more → (v : Value) (x : ℕ) → Shows bases v x → Shows more v x
shows-more bases more e (Num w) x h = h
shows-more bases more e (At b o) x h =
    let same : more b.number ≡ bases b.number = e b.number h.low in
    let is = h.is in
    let low = h.low in
    let high = h.high in
    record { is = omega (arith, is, same); within = h.within; low = omega (arith, low, same); high = omega (arith, high, same) }
shows-more bases more e Bad x h = tt

pub extends-self : (bases : Bases) → Extends bases bases
extends-self bases n above = refl

pub extends-then : (a b c : Bases) → Extends a b → Extends b c → Extends a c
extends-then a b c e f n above =
    let same : b n ≡ a n = e n above in
    f n (omega (arith, above, same)) ∙ same

-- ---- words of registers

pub same-then : (x y z : ℕ) → SameWord x y → SameWord y z → SameWord x z
same-then x y z (inl e) (inl d) = inl (d ∙ e)
same-then x y z (inl e) (inr d) = inr (d ∙ ap (λ n. n % 2 ^ 32) e)
same-then x y z (inr e) (inl d) = inr (d ∙ e)
same-then x y z (inr e) (inr d) = inr (d ∙ ap (λ n. n % 2 ^ 32) e ∙ (let t : x % 2 ^ 32 % 2 ^ 32 ≡ x % 2 ^ 32 = omega arith in t))

pub shows-same : (bases : Bases) (v : Value) (x y : ℕ) → SameWord x y → Shows bases v x → Shows bases v y
shows-same bases v x y (inl e) h = subst (Shows bases v) (sym e) h
shows-same bases v x y (inr e) h = subst (Shows bases v) (sym e) (shows-word bases v x h)

-- ---- blocks that live

fellow-then : (m : Memory) (n : ℕ) (b : Block) (k : Block) → shape_of k ≡ shape_of b → k.fixed ≡ b.fixed → Fellow m n k → Fellow m n b
fellow-then m n b k shape fixed h = record { block = h.block; there = h.there; shape = h.shape ∙ shape; fixed = h.fixed ∙ fixed }

pub alike-then : (m k l : Memory) → LivesAlike m k → LivesAlike k l → LivesAlike m l
alike-then m k l h g = record {
  forth = λ n b lives. let f = h.forth n b lives in fellow-then l n b f.block f.shape f.fixed (g.forth n f.block f.there);
  back = λ n b lives. let f = g.back n b lives in fellow-then m n b f.block f.shape f.fixed (h.back n f.block f.there);
}

pub alike-self : (m : Memory) → LivesAlike m m
alike-self m = record {
  forth = λ n b lives. record { block = b; there = lives; shape = refl; fixed = refl };
  back = λ n b lives. record { block = b; there = lives; shape = refl; fixed = refl };
}

module _ (flags : ℕ → ℕ) (bases more : Bases) (m k : Memory) (laid : AreLaidOut flags bases m) (e : Extends bases more) (h : LivesAlike m k) where
  pub base-kept : (n : ℕ) (b : Block) → Lives m n b → more n ≡ bases n
  base-kept n b lives = e n (laid.blocks_fit n b lives).low

  pub live-back : (a : ℕ) → IsLive more k a → IsLive bases m a
  live-back a live =
      let f = h.back live.number live.block live.lives in
      let same : more live.number ≡ bases live.number = base-kept live.number f.block f.there in
      let size : f.block.size ≡ live.block.size = ap (λ s. s.size) f.shape in
      let low = live.low in
      let high = live.high in
      record { number = live.number; block = f.block; lives = f.there; low = omega (arith, low, same); high = omega (arith, high, same, size) }

  live-forth : (a : ℕ) → IsLive bases m a → IsLive more k a
  live-forth a live =
      let f = h.forth live.number live.block live.lives in
      let same : more live.number ≡ bases live.number = base-kept live.number live.block live.lives in
      let size : f.block.size ≡ live.block.size = ap (λ s. s.size) f.shape in
      let low = live.low in
      let high = live.high in
      record { number = live.number; block = f.block; lives = f.there; low = omega (arith, low, same); high = omega (arith, high, same, size) }

  pub outside-after : (a : ℕ) → IsOutside bases m a → IsOutside more k a
  outside-after a out live = out (live-back a live)

  pub outside-before : (a : ℕ) → IsOutside more k a → IsOutside bases m a
  outside-before a out live = out (live-forth a live)
