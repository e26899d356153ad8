-- The laws of answers.
use Rattle.std.proofs.Common.{◌≡◌, ℕ, List, [], ◌∷◌, ◌++◌, refl, sym, ap, ◌∙◌, append_assoc}
use Rattle.val_core.specs.Events.{Event, called}
use Rattle.val_core.specs.Answers.{Answer, Returned, Cut, Exited, Undefined, before, then_on, active, events, Gives}
use Rattle.val_core.specs.AnswerLaws.{BeforeTwice, ThenAfterBefore, ThenAssociates, ThenNothing, ThenOnGiven}

-- `before`, by the answer alone
abbrev pub added : {A : Type 0} → List Event → Answer A → Answer A
added o (Returned x p) = Returned x (o ++ p)
added o (Cut p) = Cut (o ++ p)
added o (Exited p status) = Exited (o ++ p) status
added o (Undefined p) = Undefined (o ++ p)

pub before-is : {A : Type 0} (o : List Event) (a : Answer A) → before o a ≡ added o a
before-is [] (Returned x p) = refl
before-is [] (Cut p) = refl
before-is [] (Exited p status) = refl
before-is [] (Undefined p) = refl
before-is (e ∷ o) (Returned x p) = refl
before-is (e ∷ o) (Cut p) = refl
before-is (e ∷ o) (Exited p status) = refl
before-is (e ∷ o) (Undefined p) = refl

-- the events of an answer with others before it
pub events-added : {A : Type 0} (o : List Event) (a : Answer A) → events (added o a) ≡ o ++ events a
events-added o (Returned x p) = refl
events-added o (Cut p) = refl
events-added o (Exited p status) = refl
events-added o (Undefined p) = refl

added-twice : {A : Type 0} (o p : List Event) (a : Answer A) → added o (added p a) ≡ added (o ++ p) a
added-twice o p (Returned x q) = ap (Returned x) (sym (append_assoc o p q))
added-twice o p (Cut q) = ap Cut (sym (append_assoc o p q))
added-twice o p (Exited q status) = ap (λ r. Exited r status) (sym (append_assoc o p q))
added-twice o p (Undefined q) = ap Undefined (sym (append_assoc o p q))

pub before_twice : {A : Type 0} → BeforeTwice A
before_twice o p a =
    before-is o (before p a) ∙ ap (added o) (before-is p a) ∙ added-twice o p a ∙ sym (before-is (o ++ p) a)

then-added : {A B : Type 0} (o : List Event) (a : Answer A) (next : A → Answer B) → then_on (added o a) next ≡ before o (then_on a next)
then-added o (Returned x p) next = sym (before_twice o p (next x))
then-added o (Cut p) next = sym (before-is o (Cut p))
then-added o (Exited p status) next = sym (before-is o (Exited p status))
then-added o (Undefined p) next = sym (before-is o (Undefined p))

pub then_after_before : {A B : Type 0} → ThenAfterBefore A B
then_after_before o a next = ap (λ b. then_on b next) (before-is o a) ∙ then-added o a next

pub then_associates : {A B C : Type 0} → ThenAssociates A B C
then_associates (Returned x o) next last = then_after_before o (next x) last
then_associates (Cut o) next last = refl
then_associates (Exited o status) next last = refl
then_associates (Undefined o) next last = refl

append-nothing : {A : Type 0} (ys : List A) → ys ++ [] ≡ ys
append-nothing [] = refl
append-nothing (y ∷ ys) = ap (λ r. y ∷ r) (append-nothing ys)

pub then_nothing : {A : Type 0} → ThenNothing A
then_nothing (Returned x o) = before-is o (Returned x []) ∙ ap (Returned x) (append-nothing o)
then_nothing (Cut o) = refl
then_nothing (Exited o status) = refl
then_nothing (Undefined o) = refl

pub then_on_given : {A B : Type 0} → ThenOnGiven A B
then_on_given (Returned x o) next other same = ap (before o) (same x o refl)
then_on_given (Cut o) next other same = refl
then_on_given (Exited o status) next other same = refl
then_on_given (Undefined o) next other same = refl

-- a property of the results
gives-added : {A : Type 0} (P : A → Type 0) (o : List Event) (a : Answer A) → Gives P a → Gives P (added o a)
gives-added P o (Returned x p) h = h
gives-added P o (Cut p) h = tt
gives-added P o (Exited p status) h = tt
gives-added P o (Undefined p) h = tt

pub gives-then : {A B : Type 0} (P : A → Type 0) (Q : B → Type 0) (a : Answer A) (next : A → Answer B) → Gives P a → ((x : A) → P x → Gives Q (next x)) → Gives Q (then_on a next)
gives-then P Q (Returned x o) next h go = rw (before-is o (next x)) (gives-added Q o (next x) (go x h))
gives-then P Q (Cut o) next h go = tt
gives-then P Q (Exited o status) next h go = tt
gives-then P Q (Undefined o) next h go = tt

pub gives-active : {A : Type 0} (P : A → Type 0) (f : ℕ) (a : Answer A) → Gives P a → Gives P (active f a)
gives-active P f (Returned x o) h = h
gives-active P f (Cut o) h = tt
gives-active P f (Exited o status) h = tt
gives-active P f (Undefined o) h = tt

pub events-active : {A : Type 0} (f : ℕ) (a : Answer A) → events (active f a) ≡ called f (events a)
events-active f (Returned x o) = refl
events-active f (Cut o) = refl
events-active f (Exited o status) = refl
events-active f (Undefined o) = refl
