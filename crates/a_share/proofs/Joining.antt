-- What is needed before the branches of a choice, and after the body of a loop.
use Rattle.std.proofs.Common.{◌≡◌, ◌<◌, ℕ, Bool, true, false, ◌&&◌, ◌||◌, if◌then◌else◌, List, [], ◌∷◌, length, drop, refl, sym, ap, ◌∙◌, subst, inl, inr, arith}
use Rattle.std.specs.Prelude.{◌==◌, nat_le, nat_lt}
use Rattle.std.proofs.lemmas.Bool.{cases_Bool}
use Rattle.std.proofs.lemmas.Bool.Decides.{nat_tests}
use Rattle.std.proofs.lemmas.List.{append-nil}
use Rattle.s_linear.specs.Linear.{Instr}
use Rattle.a_place.specs.Places.{among}
use Rattle.a_place.specs.Share.{Names}
use Rattle.a_share.specs.Bounds.{Bounds, differ, need_at, needed_now, is_odd_in, is_as, AreBelow, AreToggled}
use Rattle.a_share.specs.Changes.{HasChanged, ChangesAt, ArePassed, IsEntered}
use Rattle.a_share.specs.Unions.{IsUnion}
use Rattle.a_share.specs.declared.needs.Needs.{Needs}
use Rattle.a_share.proofs.Parity.{differ_false, differ_twice}
use Rattle.a_share.proofs.Toggling.{toggled_now}
use Rattle.a_share.proofs.Moving.{changes_more}
use Rattle.a_share.proofs.Unions.{among_below, below_among, same_where, union_now}
use Rattle.a_share.proofs.Choosing.{IsRestored}
use Rattle.a_share.proofs.Gets.{take_added, drop_added}

-- the union of what codes need is set
pub union_joined : (old mid new : Needs) (b : ℕ) (more less : List ℕ) (S : Names) → IsUnion (length old.toggles) more less (needed_now old.toggles) S
    → (AreBelow (length old.toggles) more → ChangesAt old mid b)
    → (AreBelow (length old.toggles) more → (x : ℕ) → needed_now mid.toggles x ≡ (if among x more then true else needed_now old.toggles x))
    → (AreBelow (length mid.toggles) less → ChangesAt mid new b)
    → (AreBelow (length mid.toggles) less → (x : ℕ) → needed_now new.toggles x ≡ (if among x less then false else needed_now mid.toggles x))
    → ChangesAt old new b × ((x : ℕ) → needed_now new.toggles x ≡ S x)
union_joined old mid new b more less S u change now change' now' =
    let high : AreBelow (length old.toggles) more = among_below (length old.toggles) more (λ x h. u.added_below x h) in
    let c = change high in
    let size : length mid.toggles ≡ length old.toggles = c.1.toggled.size in
    let low : AreBelow (length mid.toggles) less = subst (λ n. AreBelow n less) (sym size) (among_below (length old.toggles) less (λ x h. u.dropped_below x h)) in (
      changes_more old mid new b c (change' low),
      λ x. now' low x ∙ ap (λ z. if among x less then false else z) (now high x) ∙ union_now (length old.toggles) more less (needed_now old.toggles) S x u,
    )

-- twice the same names change nothing
undone : (ts us vs : Bounds) (names : List ℕ) (b : ℕ) → AreToggled ts us names b → AreToggled us vs names b → AreToggled ts vs [] b
undone ts us vs names b p q = record {
  need = λ x k.
      q.need x k ∙ ap (λ z. differ z (nat_le k b && is_odd_in x names)) (p.need x k) ∙ differ_twice (need_at ts x k) (nat_le k b && is_odd_in x names)
      ∙ sym (ap (differ (need_at ts x k)) (and_no (nat_le k b)) ∙ differ_false (need_at ts x k));
  size = q.size ∙ p.size;
  kept = λ x c h. q.kept x c (p.kept x c h);
}
  where
    and_no : (t : Bool) → (t && false) ≡ false
    and_no true = refl
    and_no false = refl

-- What the moves back need is added to what is needed after the loop, and then the predicate.
pub body_entered : (w0 wa wb wc we : Needs) (p b : ℕ) (is : List Instr) (read : List ℕ) → ArePassed is w0 wa b
    → ((x : ℕ) → among x read ≡ ((among x (drop (length w0.changed.items) wa.changed.items) && is_as true (needed_now wa.toggles x)) || among x []))
    → IsRestored wa wb (length w0.changed.items) b → (AreBelow (length wb.toggles) read → ChangesAt wb wc b)
    → (AreBelow (length wb.toggles) read → (x : ℕ) → needed_now wc.toggles x ≡ (if among x read then true else needed_now wb.toggles x))
    → p < length w0.toggles → (p < length wc.toggles → ChangesAt wc we b)
    → (p < length wc.toggles → (x : ℕ) → needed_now we.toggles x ≡ ((p == x) || needed_now wc.toggles x)) → IsEntered p is w0 we b
body_entered w0 wa wb wc we p b is read passed chosen r change now within last last_now =
    let names = passed.changes.0 in
    let c : HasChanged w0 wa names b = passed.changes.1 in
    let dropped = drop_added w0.changed.items names wa.changed.items c.changed in
    let size : length wa.toggles ≡ length w0.toggles = c.toggled.size in
    let below : AreBelow (length wa.toggles) names = subst (λ n. AreBelow n names) (sym size) c.below in
    let t : AreToggled wa.toggles wb.toggles names b =
    subst (λ z. AreToggled wa.toggles wb.toggles z b) dropped (r.toggled (subst (λ z. AreBelow (length wa.toggles) z) (sym dropped) below)) in
    let none : AreToggled w0.toggles wb.toggles [] b = undone w0.toggles wa.toggles wb.toggles names b c.toggled t in
    let back : ChangesAt w0 wb b =
    ([], record { changed = r.changed ∙ take_added w0.changed.items names wa.changed.items c.changed ∙ sym (append-nil w0.changed.items); below = refl; toggled = none }) in
    let back_now : (x : ℕ) → needed_now wb.toggles x ≡ needed_now w0.toggles x = λ x.
    toggled_now w0.toggles wb.toggles [] b x none ∙ differ_false (needed_now w0.toggles x) in
    let chosen' : (x : ℕ) → among x read ≡ ((among x names && needed_now wa.toggles x) || false) = λ x.
    chosen x ∙ ap (λ z. (among x z && needed_now wa.toggles x) || false) dropped in
    let size_b : length wb.toggles ≡ length w0.toggles = none.size in
    let low : AreBelow (length wb.toggles) read =
    among_below (length wb.toggles) read (λ x h.
    let l : x < length w0.toggles = below_among (length w0.toggles) x names c.below (first_of (among x names) (needed_now wa.toggles x) (sym (chosen' x) ∙ h)) in
    omega arith) in
    let ch : ChangesAt wb wc b = change low in
    let size_c : length wc.toggles ≡ length wb.toggles = ch.1.toggled.size in
    let inside : p < length wc.toggles = omega arith in
    record {
      changes = changes_more w0 wc we b (changes_more w0 wb wc b back ch) (last inside);
      now = λ x.
          last_now inside x
          ∙ ap (λ z. (p == x) || z)
          (now low x ∙ ap (λ z. if among x read then true else z) (back_now x) ∙ ap (λ z. if z then true else needed_now w0.toggles x) (chosen' x)
          ∙ joined (among x names) (needed_now wa.toggles x) (needed_now w0.toggles x) (same_where (needed_now w0.toggles x) (needed_now wa.toggles x) names x
          (toggled_now w0.toggles wa.toggles names b x c.toggled))
          ∙ ap (λ z. needed_now w0.toggles x || z) (passed.now x));
    }
  where
    first_of : (s k : Bool) → ((s && k) || false) ≡ true → s ≡ true
    first_of true k h = refl
    first_of false k h = absurd cc

    joined : (s k n : Bool) → (s ≡ false → k ≡ n) → (if (s && k) || false then true else n) ≡ (n || k)
    joined true true true h = refl
    joined true true false h = refl
    joined true false true h = refl
    joined true false false h = refl
    joined false k true h = refl
    joined false k false h = sym (h refl)

-- the predicate of a branch
pub predicate_below : (n p : ℕ) → AreBelow n (p ∷ []) → p < n
predicate_below n p h =
    elim (cases_Bool (nat_lt p n)) [
      | inl low ↦ grind (arith, nat_tests)
      | inr high ↦ absurd (let e = rw high at h in cc)
    ]
