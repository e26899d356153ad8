-- Laws of runs: of the relation between the answers of two sides, and of one run within another.
use Rattle.std.specs.Prelude.{◌≡◌, ◌≢◌, ℕ, ◌≤◌, List, [], ◌++◌}
use Rattle.val_core.specs.Events.{Event, output, deepest, called, IsPrefixOf}
use Rattle.val_core.specs.Answers.{Answer, then_on, active, IsUndefined, events}
use Rattle.val_core.specs.Refinement.{Direction, Forward, Backward, Comparison, Refines}
use Rattle.val_core.specs.Within.{Behaviour, Terminates, Fails, behaviour, Within}

-- A comparison holds of what follows where it holds of what came before, and of calls where it holds of their bodies.
pub record GoesOn (c : Comparison) : Type 0 where
  pub nothing : c.Same [] []
  pub same : (o p q r : List Event) → c.Same o p → c.Same q r → c.Same (o ++ q) (p ++ r)
  pub near : (o p q r : List Event) → c.Same o p → c.NearIsPrefix q r → c.NearIsPrefix (o ++ q) (p ++ r)
  pub far : (o p q r : List Event) → c.Same o p → c.FarIsPrefix q r → c.FarIsPrefix (o ++ q) (p ++ r)
  pub near_more : (o p r : List Event) → c.NearIsPrefix o p → c.NearIsPrefix o (p ++ r)
  pub far_more : (o r p : List Event) → c.FarIsPrefix o p → c.FarIsPrefix (o ++ r) p
  pub same_called : (f : ℕ) (o p : List Event) → c.Same o p → c.Same (called f o) (called f p)
  pub near_called : (f : ℕ) (o p : List Event) → c.NearIsPrefix o p → c.NearIsPrefix (called f o) (called f p)
  pub far_called : (f : ℕ) (o p : List Event) → c.FarIsPrefix o p → c.FarIsPrefix (called f o) (called f p)

-- a comparison says that outputs are equal, or that one begins the other
pub record ShowsOutput (c : Comparison) : Type 0 where
  pub same : (o p : List Event) → c.Same o p → output o ≡ output p
  pub near : (o p : List Event) → c.NearIsPrefix o p → IsPrefixOf (output o) (output p)
  pub far : (o p : List Event) → c.FarIsPrefix o p → IsPrefixOf (output p) (output o)

-- and that the farther side meets no deeper stacks
pub record ShowsDepth (c : Comparison) : Type 0 where
  pub same : (o p : List Event) → c.Same o p → (sizes : ℕ → ℕ) → deepest sizes p ≤ deepest sizes o
  pub far : (o p : List Event) → c.FarIsPrefix o p → (sizes : ℕ → ℕ) → deepest sizes p ≤ deepest sizes o

-- What follows on answers that refine refines, where it is on results that refine.
abbrev pub RefinesThen : (c : Comparison) (A B C D : Type 0) → (A → B → Type 0) → (C → D → Type 0) → Type 0
RefinesThen c A B C D R S =
    (direction : Direction) (a : Answer A) (b : Answer B) (next : A → Answer C) (next' : B → Answer D) → Refines c direction R a b →
    ((x : A) (y : B) → R x y → Refines c direction S (next x) (next' y)) → Refines c direction S (then_on a next) (then_on b next')

-- calls of one function whose bodies refine refine
abbrev pub RefinesActive : (c : Comparison) (A B : Type 0) → (A → B → Type 0) → Type 0
RefinesActive c A B R =
    (direction : Direction) (f : ℕ) (a : Answer A) (b : Answer B) → Refines c direction R a b → Refines c direction R (active f a) (active f b)

-- Where the nearer side is cut first and neither is undefined, it is within the farther one.
abbrev pub ForwardIsWithin : (c : Comparison) (A B : Type 0) → (A → B → Type 0) → Type 0
ForwardIsWithin c A B R =
    (a : Answer A) (b : Answer B) → Refines c Forward R a b → (IsUndefined a → ⊥) → (IsUndefined b → ⊥) → Within R (behaviour a) (behaviour b)

-- Where the farther side is cut first and the nearer one is defined, the farther one is within it.
abbrev pub BackwardIsWithin : (c : Comparison) (A B : Type 0) → (A → B → Type 0) → Type 0
BackwardIsWithin c A B R =
    (a : Answer A) (b : Answer B) → Refines c Backward R a b → (IsUndefined a → ⊥) → Within (λ y x. R x y) (behaviour b) (behaviour a)

-- The farther side is then defined too,
abbrev pub BackwardIsDefined : (c : Comparison) (A B : Type 0) → (A → B → Type 0) → Type 0
BackwardIsDefined c A B R =
    (a : Answer A) (b : Answer B) → Refines c Backward R a b → (IsUndefined a → ⊥) → IsUndefined b → ⊥

-- and meets no deeper stacks.
abbrev pub BackwardIsNoDeeper : (c : Comparison) (A B : Type 0) → (A → B → Type 0) → Type 0
BackwardIsNoDeeper c A B R =
    (a : Answer A) (b : Answer B) → Refines c Backward R a b → (IsUndefined a → ⊥) → (sizes : ℕ → ℕ) →
    deepest sizes (events b) ≤ deepest sizes (events a)

-- ---- within

-- a run that has not failed is within itself
abbrev pub WithinItself : (A : Type 0) → Type 0
WithinItself A = (x : Behaviour A) → x ≢ Fails → Within (λ r s. r ≡ s) x x

-- a run within a run within a run is within it
abbrev pub WithinComposes : (A B C : Type 0) → (A → B → Type 0) → (B → C → Type 0) → (A → C → Type 0) → Type 0
WithinComposes A B C R S T =
    ((x : A) (y : B) (z : C) → R x y → S y z → T x z) → (x : Behaviour A) (y : Behaviour B) (z : Behaviour C) →
    Within R x y → Within S y z → Within T x z

-- an ended run is within none but one with its output and status
abbrev pub TerminatedIsEqual : (A B : Type 0) → (A → B → Type 0) → Type 0
TerminatedIsEqual A B R =
    (output : List ℕ) (status : ℕ) (y : Behaviour B) → Within R (Terminates output status) y → y ≡ Terminates output status

-- nothing is within a run that failed, nor is such a run within anything
abbrev pub FailedIsApart : (A B : Type 0) → (A → B → Type 0) → Type 0
FailedIsApart A B R = ((x : Behaviour A) → Within R x Fails → ⊥) × ((y : Behaviour B) → Within R Fails y → ⊥)
