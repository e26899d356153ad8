-- How the answers of a lambda and of its linear code relate, at one bound.
use Rattle.std.specs.Prelude.{◌≡◌, ℕ, List, [], ◌∷◌}
use Rattle.val_core.specs.declared.values.Value.{Value}
use Rattle.val_core.specs.Values.{IsLessDefined}
use Rattle.val_core.specs.Events.{deepest}
use Rattle.val_core.specs.Answers.{Answer, Returned, Cut, Exited, Undefined, events}
use Rattle.val_core.specs.Within.{behaviour, Within, Given}
use Rattle.g_mean.specs.Data.{Datum, val, memory, input}

-- What is undefined on the nearer side excuses everything on the farther one. Else both sides end in the same way after the
-- same events, and `R` relates the results.
abbrev pub Agrees : {A B : Type 0} → (A → B → Type 0) → Answer A → Answer B → Type 0
Agrees R (Undefined o) b = Unit {0}
Agrees R (Returned x o) (Returned y p) = R x y × (o ≡ p)
Agrees R (Cut o) (Cut p) = o ≡ p
Agrees R (Exited o s) (Exited p t) = (o ≡ p) × (s ≡ t)
Agrees R _ _ = ⊥

-- as many values, and each of the second ones may stand for the first one in its place
abbrev pub AreLessDefined : List Value → List Value → Type 0
AreLessDefined [] [] = Unit {0}
AreLessDefined (v ∷ vs) (w ∷ ws) = IsLessDefined v w × AreLessDefined vs ws
AreLessDefined _ _ = ⊥

-- A lambda gives back what its linear code does: the memory, the input, and a value for which that of the code may stand.
pub record GivesBack (ys : List Datum) (g : Given Value) : Type 0 where
  pub value : Value
  pub is : ys ≡ val value ∷ memory g.memory ∷ input g.input ∷ []
  pub less : IsLessDefined value g.value

-- Each of two runs is within the other one, and they meet equally deep stacks, whatever the sizes of frames.
pub record AreWithin {A B : Type 0} (R : A → B → Type 0) (near : Answer A) (far : Answer B) : Type 0 where
  pub forward : Within R (behaviour near) (behaviour far)
  pub back : Within (λ y x. R x y) (behaviour far) (behaviour near)
  pub same_depth : (sizes : ℕ → ℕ) → deepest sizes (events far) ≡ deepest sizes (events near)
