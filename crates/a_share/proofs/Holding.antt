-- What the walk has found stays found.
use Rattle.std.proofs.Common.{◌≡◌, ◌<◌, ◌≤◌, ℕ, suc, ◌+◌, Bool, List, [], ◌∷◌, ◌++◌, length, slice_get, sym, ap, ◌∙◌, subst, arith}
use Rattle.std.specs.Prelude.{◌==◌, IsTrue}
use Rattle.std.proofs.lemmas.List.{append_assoc}
use Rattle.s_linear.specs.Lines.{Line}
use Rattle.a_place.specs.Marks.{Mark}
use Rattle.a_share.specs.Bounds.{differ, need_at, needed_now, has_bound, is_odd_in, AreBelow}
use Rattle.a_share.specs.Walking.{IsHeldAt, AreHeld, Keeps, HasRoom}
use Rattle.a_share.specs.declared.needs.Needs.{Needs}
use Rattle.a_share.proofs.Parity.{differ_assoc, odd_append}
use Rattle.a_share.proofs.Toggling.{below_append}

-- nothing changes at the positions from a up to b
pub record IsSame (old new : Needs) (a b : ℕ) : Type 0 where
  pub need : (x k : ℕ) → a < k → k ≤ b → need_at new.toggles x k ≡ need_at old.toggles x k
  pub kept : (x c : ℕ) → IsTrue (has_bound old.toggles x c) → IsTrue (has_bound new.toggles x c)
  pub depths : (i : ℕ) → a ≤ i → i < b → slice_get new.depths.items i ≡ slice_get old.depths.items i
  pub copies : (i : ℕ) → a ≤ i → i < b → slice_get new.copies.items i ≡ slice_get old.copies.items i

pub kept_same : (old new : Needs) (c a b : ℕ) (names : List ℕ) → c ≤ a → Keeps old new c names → IsSame old new a b
kept_same old new c a b names h p = record {
  need = λ x k l m. p.need x k (omega arith);
  kept = p.kept;
  depths = λ i l m. p.depths i (omega arith);
  copies = λ i l m. p.copies i (omega arith);
}

same_at : (old new : Needs) (a b i : ℕ) (l : Line) (m : Mark) → a ≤ i → i < b → IsSame old new a b → IsHeldAt old i l m → IsHeldAt new i l m
same_at old new a b i l m low high s h = record {
  depth = λ e. s.depths i low high ∙ h.depth e;
  after = λ j e x. s.need x (suc i) (omega arith) (omega arith) ∙ h.after j e x;
  cut = λ j e x w n. s.kept x i (h.cut j e x w n);
  copy = λ t c e. s.copies i low high ∙ h.copy t c e;
}

pub still_held : (old new : Needs) (a b i : ℕ) (ls : List Line) (ms : List Mark) → a ≤ i → i + length ls ≤ b → IsSame old new a b → AreHeld old i ls ms
    → AreHeld new i ls ms
still_held old new a b i [] [] low high s h = tt
still_held old new a b i [] (m ∷ ms) low high s h = h
still_held old new a b i (l ∷ ls) [] low high s h = h
still_held old new a b i (l ∷ ls) (m ∷ ms) low high s h =
    let here : i < b = omega arith in
    let less : a ≤ suc i = omega arith in
    let rest : suc i + length ls ≤ b = omega arith in
    (same_at old new a b i l m low here s h.0, still_held old new a b (suc i) ls ms less rest s h.1)

pub held_append : (w : Needs) (a b : ℕ) (ls ks : List Line) (ms ns : List Mark) → b ≡ a + length ls → AreHeld w a ls ms → AreHeld w b ks ns
    → AreHeld w a (ls ++ ks) (ms ++ ns)
held_append w a b [] ks [] ns e p q = let s : b ≡ a = omega arith in subst (λ z. AreHeld w z ks ns) s q
held_append w a b [] ks (m ∷ ms) ns e p q = absurd p
held_append w a b (l ∷ ls) ks [] ns e p q = absurd p
held_append w a b (l ∷ ls) ks (m ∷ ms) ns e p q =
    let s : b ≡ suc a + length ls = omega arith in (p.0, held_append w (suc a) b ls ks ms ns s p.1 q)

pub keeps_more : (old mid new : Needs) (b c : ℕ) (xs ys : List ℕ) → c ≤ b → Keeps old mid b xs → Keeps mid new c ys → Keeps old new b (xs ++ ys)
keeps_more old mid new b c xs ys l p q = record {
  changed = q.changed ∙ ap (λ z. z ++ ys) p.changed ∙ append_assoc old.changed.items xs ys;
  below = below_append (length old.toggles) xs ys p.below (subst (λ n. AreBelow n ys) p.size q.below);
  now = λ x.
      q.now x ∙ ap (λ z. differ z (is_odd_in x ys)) (p.now x) ∙ differ_assoc (needed_now old.toggles x) (is_odd_in x xs) (is_odd_in x ys)
      ∙ ap (differ (needed_now old.toggles x)) (sym (odd_append (λ y. y == x) xs ys));
  need = λ x k h. q.need x k (omega arith) ∙ p.need x k h;
  size = q.size ∙ p.size;
  kept = λ x c h. q.kept x c (p.kept x c h);
  depths = λ i h. q.depths i (omega arith) ∙ p.depths i h;
  copies = λ i h. q.copies i (omega arith) ∙ p.copies i h;
  depths_size = q.depths_size ∙ p.depths_size;
  copies_size = q.copies_size ∙ p.copies_size;
}

pub keeps_room : (lines : List Line) (J : ℕ → Bool) (old new : Needs) (b : ℕ) (names : List ℕ) → Keeps old new b names → HasRoom lines J old → HasRoom lines J new
keeps_room lines J old new b names p h = record {
  names = rw p.size h.names;
  jumps = h.jumps;
  depths = p.depths_size ∙ h.depths;
  copies = p.copies_size ∙ h.copies;
}
