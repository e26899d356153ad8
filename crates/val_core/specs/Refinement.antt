-- One relation between the answers of two sides: a nearer one, to the source program, and one farther from it.
use Rattle.std.specs.Prelude.{◌≡◌, ℕ, ◌≤◌, List}
use Rattle.val_core.specs.Events.{Event, output, deepest, IsPrefixOf}
use Rattle.val_core.specs.Answers.{Answer, Returned, Cut, Exited, Undefined}

-- which side has the lesser bounds, and so is the first to be cut
pub data Direction : Type 0 where
  Forward : Direction
  Backward : Direction

-- How the events of the two sides compare, the nearer side's first: where both have ended, where the nearer side was
-- cut, and where the farther one was.
pub record Comparison : Type 1 where
  pub Same : (near far : List Event) → Type 0
  pub NearIsPrefix : (near far : List Event) → Type 0
  pub FarIsPrefix : (near far : List Event) → Type 0

-- the same events
abbrev pub exactly : Comparison
exactly = record { Same = λ o p. o ≡ p; NearIsPrefix = λ o p. IsPrefixOf o p; FarIsPrefix = λ o p. IsPrefixOf p o }

-- the same output, and on the farther side no deeper stacks
abbrev pub no_deeper : Comparison
no_deeper =
    record {
      Same = λ o p. (output o ≡ output p) × ((sizes : ℕ → ℕ) → deepest sizes p ≤ deepest sizes o);
      NearIsPrefix = λ o p. IsPrefixOf (output o) (output p);
      FarIsPrefix = λ o p. IsPrefixOf (output p) (output o) × ((sizes : ℕ → ℕ) → deepest sizes p ≤ deepest sizes o);
    }

-- What is undefined on the nearer side excuses everything on the farther one. `R` relates the results.
abbrev pub Refines : Comparison → Direction → {A B : Type 0} → (A → B → Type 0) → Answer A → Answer B → Type 0
Refines c direction R (Undefined o) b = Unit {0}
Refines c direction R (Returned x o) (Returned y p) = R x y × c.Same o p
Refines c direction R (Exited o s) (Exited p t) = c.Same o p × (s ≡ t)
Refines c Forward R (Cut o) (Returned y p) = c.NearIsPrefix o p
Refines c Forward R (Cut o) (Exited p t) = c.NearIsPrefix o p
Refines c Forward R (Cut o) (Cut p) = c.NearIsPrefix o p
Refines c Forward R (Cut o) (Undefined p) = Unit {0}
Refines c Backward R (Returned x o) (Cut p) = c.FarIsPrefix o p
Refines c Backward R (Exited o s) (Cut p) = c.FarIsPrefix o p
Refines c Backward R (Cut o) (Cut p) = c.FarIsPrefix o p
Refines c direction R _ _ = ⊥
