-- The laws of runs within each other.
use Rattle.std.proofs.Common.{◌≡◌, List, refl, sym, ap₂, ◌∙◌}
use Rattle.val_core.specs.Within.{Behaviour, Returns, Running, Terminates, Fails, Within}
use Rattle.val_core.specs.RunLaws.{WithinItself, WithinComposes, TerminatedIsEqual, FailedIsApart}
use Rattle.val_core.proofs.lemmas.Events.{prefix-self, prefixes_compose}
use Rattle.val_core.specs.Events.{IsPrefixOf}

pub within_itself : {A : Type 0} → WithinItself A
within_itself (Returns x o) sane = (refl, refl)
within_itself (Running o) sane = prefix-self o
within_itself (Terminates o s) sane = (refl, refl)
within_itself Fails sane = absurd (sane refl)

pub prefix-eq : {A : Type 0} (xs ys zs : List A) → IsPrefixOf xs ys → ys ≡ zs → IsPrefixOf xs zs
prefix-eq xs ys zs l e = (l.0, l.1 ∙ e)

pub within_composes : {A B C : Type 0} (R : A → B → Type 0) (S : B → C → Type 0) (T : A → C → Type 0) → WithinComposes A B C R S T
within_composes R S T join (Returns x o) (Returns y p) (Returns z q) h k = (join x y z h.0 k.0, h.1 ∙ k.1)
within_composes R S T join (Terminates o s) (Terminates p t) (Terminates q u) h k = (h.0 ∙ k.0, h.1 ∙ k.1)
within_composes R S T join (Running o) (Returns y p) (Returns z q) h k = prefix-eq o p q h k.1
within_composes R S T join (Running o) (Terminates p t) (Terminates q u) h k = prefix-eq o p q h k.0
within_composes R S T join (Running o) (Running p) (Returns z q) h k = prefixes_compose o p q h k
within_composes R S T join (Running o) (Running p) (Terminates q u) h k = prefixes_compose o p q h k
within_composes R S T join (Running o) (Running p) (Running q) h k = prefixes_compose o p q h k
within_composes R S T join (Returns x o) (Returns y p) _ h k = absurd k
within_composes R S T join (Terminates o s) (Terminates p t) _ h k = absurd k
within_composes R S T join (Running o) (Returns y p) _ h k = absurd k
within_composes R S T join (Running o) (Terminates p t) _ h k = absurd k
within_composes R S T join (Running o) (Running p) Fails h k = absurd k
within_composes R S T join _ _ _ h k = absurd h

pub terminated_is_equal : {A B : Type 0} (R : A → B → Type 0) → TerminatedIsEqual A B R
terminated_is_equal R o s (Terminates p t) h = ap₂ Terminates (sym h.0) (sym h.1)
terminated_is_equal R o s (Returns y p) h = absurd h
terminated_is_equal R o s (Running p) h = absurd h
terminated_is_equal R o s Fails h = absurd h

within-fails : {A B : Type 0} (R : A → B → Type 0) (x : Behaviour A) → Within R x Fails → ⊥
within-fails R (Returns x o) h = h
within-fails R (Running o) h = h
within-fails R (Terminates o s) h = h
within-fails R Fails h = h

pub fails-within : {A B : Type 0} (R : A → B → Type 0) (y : Behaviour B) → Within R Fails y → ⊥
fails-within R (Returns y p) h = h
fails-within R (Running p) h = h
fails-within R (Terminates p t) h = h
fails-within R Fails h = h

pub failed_is_apart : {A B : Type 0} (R : A → B → Type 0) → FailedIsApart A B R
failed_is_apart R = (within-fails R, fails-within R)
