-- Laws of behaviour that is kept.
use Rattle.std.specs.Prelude.{ℕ, ◌≤◌, List}
use Rattle.val_core.specs.Answers.{Answer}
use Rattle.val_core.specs.Within.{behaviour, Within}
use Rattle.rv_machine.specs.Behaviour.{FileKeeps}

-- Each run of the nearer family is within a run of the farther one, and back; `R` relates results. No run of the farther
-- one meets stacks that are deeper than all of the nearer.
pub record AreWithin (A B : Type 0) (R : A → B → Type 0) (near : ℕ → Answer A) (far : ℕ → Answer B) (deep deeper : ℕ → ℕ) : Type 0 where
  pub forward : (n : ℕ) → (m : ℕ) × Within R (behaviour (near n)) (behaviour (far m))
  pub back : (n : ℕ) → (m : ℕ) × Within (λ y x. R x y) (behaviour (far n)) (behaviour (near m))
  pub no_deeper : (n : ℕ) → (m : ℕ) × (deeper n ≤ deep m)

-- What is kept of the farther family is kept of the nearer.
abbrev pub NearerIsKept : (A B : Type 0) → (A → B → Type 0) → Type 0
NearerIsKept A B R =
    (near : ℕ → Answer A) (far : ℕ → Answer B) (deep deeper : ℕ → ℕ) (bytes input : List ℕ) →
    AreWithin A B R near far deep deeper → FileKeeps B far deeper bytes input → FileKeeps A near deep bytes input
