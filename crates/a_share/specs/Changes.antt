-- How the walk's state changes at a bound.
use Rattle.std.specs.Prelude.{◌≡◌, ℕ, ◌==◌, ◌||◌, List, ◌++◌, length, IsTrue}
use Rattle.s_linear.specs.Linear.{Instr}
use Rattle.a_place.specs.Share.{writes, needed_by, needed_by_instrs}
use Rattle.a_share.specs.Bounds.{Bounds, needed_now, has_bound, AreBelow, AreToggled}
use Rattle.a_share.specs.declared.needs.Needs.{Needs}

-- These names get a bound, and are added to those that changed.
pub record HasChanged (old new : Needs) (names : List ℕ) (bound : ℕ) : Type 0 where
  pub changed : new.changed.items ≡ old.changed.items ++ names
  pub below : AreBelow (length old.toggles) names
  pub toggled : AreToggled old.toggles new.toggles names bound

-- What is needed changes at a bound alone.
abbrev pub ChangesAt : (old new : Needs) (bound : ℕ) → Type 0
ChangesAt old new b = (names : List ℕ) × HasChanged old new names b

-- both before the higher bound and before the lower one
abbrev pub AreTurnedOver : (ts us : Bounds) → (names : List ℕ) → (low high : ℕ) → Type 0
AreTurnedOver ts us names low high = (vs : Bounds) × AreToggled ts vs names high × AreToggled vs us names low

-- An instruction is passed at a bound: what is needed now is what is needed before it. What it writes and was needed gets the bound.
pub record IsPassed (i : Instr) (old new : Needs) (bound : ℕ) : Type 0 where
  pub changes : ChangesAt old new bound
  pub now : (x : ℕ) → needed_now new.toggles x ≡ needed_by i (needed_now old.toggles) x
  pub cut : (x : ℕ) → IsTrue (writes i x) → IsTrue (needed_now old.toggles x) → IsTrue (has_bound new.toggles x bound)

-- Instructions are passed at a bound.
pub record ArePassed (is : List Instr) (old new : Needs) (bound : ℕ) : Type 0 where
  pub changes : ChangesAt old new bound
  pub now : (x : ℕ) → needed_now new.toggles x ≡ needed_by_instrs is (needed_now old.toggles) x

-- What is needed after a loop becomes what is needed after its body.
pub record IsEntered (p : ℕ) (back : List Instr) (old new : Needs) (bound : ℕ) : Type 0 where
  pub changes : ChangesAt old new bound
  pub now : (x : ℕ) → needed_now new.toggles x ≡ ((p == x) || (needed_now old.toggles x || needed_by_instrs back (needed_now old.toggles) x))
