-- Laws of events and answers. `A`, `B` and `C` are types of results.
use Rattle.std.specs.Prelude.{◌≡◌, ℕ, ◌+◌, max, List, [], ◌++◌}
use Rattle.val_core.specs.Events.{Event, output, deepest, beneath, called, IsPrefixOf}
use Rattle.val_core.specs.Answers.{Answer, Returned, before, then_on}

-- ---- events

abbrev pub OutputAppends : Type 0
OutputAppends = (o p : List Event) → output (o ++ p) ≡ output o ++ output p

abbrev pub DeepestAppends : Type 0
DeepestAppends = (sizes : ℕ → ℕ) (o p : List Event) → deepest sizes (o ++ p) ≡ max (deepest sizes o) (deepest sizes p)

abbrev pub BeneathAppends : Type 0
BeneathAppends = (f : ℕ) (o p : List Event) → beneath f (o ++ p) ≡ beneath f o ++ beneath f p

-- a call writes what its body writes
abbrev pub CalledKeepsOutput : Type 0
CalledKeepsOutput = (f : ℕ) (o : List Event) → output (called f o) ≡ output o

-- and its stacks are those of its body with its own frame under them
abbrev pub CalledDeepens : Type 0
CalledDeepens = (sizes : ℕ → ℕ) (f : ℕ) (o : List Event) → deepest sizes (called f o) ≡ sizes f + deepest sizes o

-- what leads to a list leads to what that list leads to
abbrev pub PrefixesCompose : (A : Type 0) → Type 0
PrefixesCompose A = (xs ys zs : List A) → IsPrefixOf xs ys → IsPrefixOf ys zs → IsPrefixOf xs zs

-- ---- answers

abbrev pub BeforeTwice : (A : Type 0) → Type 0
BeforeTwice A = (o p : List Event) (a : Answer A) → before o (before p a) ≡ before (o ++ p) a

abbrev pub ThenAfterBefore : (A B : Type 0) → Type 0
ThenAfterBefore A B =
    (o : List Event) (a : Answer A) (next : A → Answer B) → then_on (before o a) next ≡ before o (then_on a next)

abbrev pub ThenAssociates : (A B C : Type 0) → Type 0
ThenAssociates A B C =
    (a : Answer A) (next : A → Answer B) (last : B → Answer C) → then_on (then_on a next) last ≡ then_on a (λ x. then_on (next x) last)

abbrev pub ThenNothing : (A : Type 0) → Type 0
ThenNothing A = (a : Answer A) → then_on a (λ x. Returned x []) ≡ a

-- what follows counts only on the result that is given
abbrev pub ThenOnGiven : (A B : Type 0) → Type 0
ThenOnGiven A B =
    (a : Answer A) (next other : A → Answer B) → ((x : A) (o : List Event) → a ≡ Returned x o → next x ≡ other x) →
    then_on a next ≡ then_on a other
