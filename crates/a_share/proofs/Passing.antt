-- One step of the walk back.
use Rattle.std.proofs.Common.{◌≡◌, ◌≢◌, ◌<◌, ◌≤◌, ℕ, suc, Bool, true, false, not, ◌&&◌, ◌||◌, List, [], ◌∷◌, length, slice_get, set, Some, refl, sym, ap, ◌∙◌, subst, length-set, arith}
use Rattle.std.specs.Prelude.{◌==◌, nat_le, IsTrue}
use Rattle.std.proofs.lemmas.Bool.Decides.{nat_tests}
use Rattle.s_linear.specs.Linear.{Instr, move}
use Rattle.s_linear.specs.Lines.{Line, done}
use Rattle.a_place.specs.Share.{Names, writes, reads, needed_by}
use Rattle.a_place.specs.Marks.{mark}
use Rattle.a_share.specs.Bounds.{differ, need_at, needed_now, is_odd_in, AreToggled}
use Rattle.a_share.specs.Changes.{HasChanged, IsPassed}
use Rattle.a_share.specs.Walking.{IsAt, Keeps, IsWalked}
use Rattle.a_share.specs.declared.needs.Needs.{Needs}
use Rattle.a_share.proofs.Gets.{get_set_same, get_set_other}
use Rattle.a_share.proofs.Toggling.{toggled_now}

-- below a bound all numbers change alike
pub all_alike : (w v : Needs) (b p : ℕ) (N : Names) (names : List ℕ) → p ≤ b → IsAt w b N → AreToggled w.toggles v.toggles names p
    → IsAt v p (needed_now v.toggles)
all_alike w v b p N names l h t x k m =
    let low : nat_le k p ≡ true = grind (arith, nat_tests) in
    t.need x k ∙ rw low (ap (λ z. differ z (is_odd_in x names)) (h x k (omega arith) ∙ sym (h x 0 (omega arith))))
    ∙ sym (toggled_now w.toggles v.toggles names p x t)

pub above_same : (w v : Needs) (p : ℕ) (names : List ℕ) → AreToggled w.toggles v.toggles names p → (x k : ℕ) → p < k
    → need_at v.toggles x k ≡ need_at w.toggles x k
above_same w v p names t x k m =
    let high : nat_le k p ≡ false = grind (arith, nat_tests) in
    t.need x k ∙ rw high (no_more (need_at w.toggles x k))
  where
    no_more : (n : Bool) → differ n false ≡ n
    no_more true = refl
    no_more false = refl

-- What changed before a position keeps what is after it.
pub keeps_after : (w v : Needs) (p b : ℕ) (names : List ℕ) → p ≤ b → HasChanged w v names p
    → ((i : ℕ) → b ≤ i → slice_get v.depths.items i ≡ slice_get w.depths.items i) → ((i : ℕ) → b ≤ i → slice_get v.copies.items i ≡ slice_get w.copies.items i)
    → length v.depths.items ≡ length w.depths.items → length v.copies.items ≡ length w.copies.items → Keeps w v b names
keeps_after w v p b names l h d c e f = record {
  changed = h.changed;
  below = h.below;
  now = λ x. toggled_now w.toggles v.toggles names p x h.toggled;
  need = λ x k m. above_same w v p names h.toggled x k (omega arith);
  size = h.toggled.size;
  kept = h.toggled.kept;
  depths = d;
  copies = c;
  depths_size = e;
  copies_size = f;
}

-- Only the need of a name after an instruction makes its need before it.
pub needed_alike : (i : Instr) (N M : Names) (x : ℕ) → N x ≡ M x → needed_by i N x ≡ needed_by i M x
needed_alike i N M x e = ap (λ z. reads i x || (not (writes i x) && z)) e

pub record IsNoted (w v : Needs) (p d : ℕ) (i : Instr) : Type 0 where
  pub passed : IsPassed i w v p
  pub depths : v.depths.items ≡ set w.depths.items p d
  pub size : length v.copies.items ≡ length w.copies.items
  pub others : (j : ℕ) → j ≢ p → slice_get v.copies.items j ≡ slice_get w.copies.items j
  pub copy : (t a : ℕ) → i ≡ move t a → slice_get v.copies.items p ≡ Some (not (t == a) && needed_now w.toggles a)
  pub room : p < length w.depths.items

abbrev pub done_inner : Line → Instr → Instr
done_inner (done i) j = i
done_inner _ j = j

pub instr_walked : (w v : Needs) (p d : ℕ) (i : Instr) (N : Names) → IsAt w (suc p) N → IsNoted w v p d i
    → IsWalked w v p (suc p) (done i ∷ []) (mark d N ∷ []) (λ x. needed_by i N x)
instr_walked w v p d i N h n =
    let names = n.passed.changes.0 in
    let c : HasChanged w v names p = n.passed.changes.1 in
    let now : (x : ℕ) → needed_now w.toggles x ≡ N x = λ x. h x 0 (omega arith) in
    let less : p ≤ suc p = omega arith in
    record {
      here = λ x k m. all_alike w v (suc p) p N names less h c.toggled x k m ∙ n.passed.now x ∙ needed_alike i (needed_now w.toggles) N x (now x);
      held = (
        record {
          depth = λ e. ap (λ z. slice_get z p) n.depths ∙ get_set_same w.depths.items p d n.room;
          after = λ j e x. above_same w v p names c.toggled x (suc p) (omega arith) ∙ h x (suc p) (omega arith);
          cut = λ j e x g f. n.passed.cut x (subst (λ z. IsTrue (writes z x)) (sym (ap (λ z. done_inner z i) e)) g) (now x ∙ f);
          copy = λ t a e. n.copy t a (ap (λ z. done_inner z i) e) ∙ ap (λ z. Some (not (t == a) && z)) (now a);
        },
        tt,
      );
      keeps = (
        names,
        keeps_after w v p (suc p) names less c
            (λ j l. ap (λ z. slice_get z j) n.depths ∙ get_set_other w.depths.items p j d (λ e. absurd (omega arith)))
            (λ j l. n.others j (λ e. absurd (omega arith)))
            (ap length n.depths ∙ length-set w.depths.items p d) n.size,
      );
    }
