-- Answers that extend others.
use Rattle.std.proofs.Common.{◌≡◌, ℕ, ◌≤◌, Bool, true, false, if◌then◌else◌, List, ◌++◌, Option, None, Some, refl, sym, ap, subst}
use Rattle.val_core.specs.declared.values.Value.{Value}
use Rattle.val_core.specs.declared.values.Value.TheVariants.{Num, At, Bad}
use Rattle.val_core.specs.Events.{Event, deepest, IsPrefixOf}
use Rattle.val_core.specs.Answers.{Answer, Returned, Cut, Exited, Undefined, before, then_on, on_number, on_defined, active, events}
use Rattle.val_core.proofs.lemmas.Events.{prefix-self, prefix-more, prefix-after, prefix-called, prefix-deepest}
use Rattle.val_core.specs.Refinement.{Forward, exactly, Refines}
use Rattle.val_core.proofs.lemmas.Answers.{added, before-is, events-added, events-active}
use Rattle.val_core.proofs.lemmas.Refinement.{refines-itself}
use Rattle.c_type.specs.Trees.{TypeTree}
use Rattle.c_mean.specs.State.{used, truth}
use Rattle.c_mean.specs.Expressions.{branched}
use Rattle.c_mean.specs.RunLaws.{Extends, ExtendedRefines}

pub extends-itself : {A : Type 0} (a : Answer A) → Extends a a
extends-itself (Returned x o) = refl
extends-itself (Cut o) = prefix-self o
extends-itself (Exited o s) = refl
extends-itself (Undefined o) = refl

extends-added : {A : Type 0} (o : List Event) (a b : Answer A) → Extends a b → Extends (added o a) (added o b)
extends-added o (Returned x p) b h = ap (added o) h
extends-added o (Cut p) b h = subst (λ l. IsPrefixOf (o ++ p) l) (sym (events-added o b)) (prefix-after o p (events b) h)
extends-added o (Exited p s) b h = ap (added o) h
extends-added o (Undefined p) b h = ap (added o) h

extends-before : {A : Type 0} (o : List Event) (a b : Answer A) → Extends a b → Extends (before o a) (before o b)
extends-before o a b h = rw (before-is o a, before-is o b) (extends-added o a b h)

-- what happened stays
grows-before : {A : Type 0} (o p : List Event) (a : Answer A) → IsPrefixOf o p → IsPrefixOf o (events (before p a))
grows-before o p a h = rw (before-is p a, events-added p a) (prefix-more o p (events a) h)

grows-then : {A B : Type 0} (o : List Event) (b : Answer A) (next : A → Answer B) → IsPrefixOf o (events b) → IsPrefixOf o (events (then_on b next))
grows-then o (Returned x p) next h = grows-before o p (next x) h
grows-then o (Cut p) next h = h
grows-then o (Exited p s) next h = h
grows-then o (Undefined p) next h = h

pub extends-then : {A B : Type 0} (a b : Answer A) (next next' : A → Answer B) → Extends a b → ((x : A) → Extends (next x) (next' x)) → Extends (then_on a next) (then_on b next')
extends-then (Returned x o) b next next' h go = rw (← h) (extends-before o (next x) (next' x) (go x))
extends-then (Cut o) b next next' h go = grows-then o b next' h
extends-then (Exited o s) b next next' h go = ap (λ z. then_on z next') h
extends-then (Undefined o) b next next' h go = ap (λ z. then_on z next') h

pub extends-defined : {A X : Type 0} (x : Option X) (next next' : X → Answer A) → ((y : X) → Extends (next y) (next' y)) → Extends (on_defined x next) (on_defined x next')
extends-defined None next next' go = refl
extends-defined (Some y) next next' go = go y

pub extends-number : {A : Type 0} (v : Value) (next next' : ℕ → Answer A) → ((w : ℕ) → Extends (next w) (next' w)) → Extends (on_number v next) (on_number v next')
extends-number (Num w) next next' go = go w
extends-number (At b o) next next' go = refl
extends-number Bad next next' go = refl

pub extends-used : {A : Type 0} (v : Value) (next next' : Value → Answer A) → ((w : Value) → Extends (next w) (next' w)) → Extends (used v next) (used v next')
extends-used (Num w) next next' go = go (Num w)
extends-used (At b o) next next' go = go (At b o)
extends-used Bad next next' go = refl

chosen-extends : {A : Type 0} (d : Option Bool) (a b a' b' : Answer A) → Extends a a' → Extends b b' →
    Extends (on_defined d (λ t. if t then a else b)) (on_defined d (λ t. if t then a' else b'))
chosen-extends None a b a' b' h k = refl
chosen-extends (Some true) a b a' b' h k = h
chosen-extends (Some false) a b a' b' h k = k

pub extends-branched : {A : Type 0} (t : TypeTree) (v : Value) (a b a' b' : Answer A) → Extends a a' → Extends b b' → Extends (branched t v a b) (branched t v a' b')
extends-branched t v a b a' b' h k = chosen-extends (truth t v) a b a' b' h k

pub extends-active : {A : Type 0} (f : ℕ) (a b : Answer A) → Extends a b → Extends (active f a) (active f b)
extends-active f (Returned x o) b h = ap (active f) h
extends-active f (Cut o) b h = rw (events-active f b) (prefix-called f o (events b) h)
extends-active f (Exited o s) b h = ap (active f) h
extends-active f (Undefined o) b h = ap (active f) h

pub extends-deepest : {A : Type 0} (sizes : ℕ → ℕ) (a b : Answer A) → Extends a b → deepest sizes (events a) ≤ deepest sizes (events b)
extends-deepest sizes (Returned x o) b h = rw (← h) (prefix-deepest sizes o o (prefix-self o))
extends-deepest sizes (Cut o) b h = prefix-deepest sizes o (events b) h
extends-deepest sizes (Exited o s) b h = rw (← h) (prefix-deepest sizes o o (prefix-self o))
extends-deepest sizes (Undefined o) b h = rw (← h) (prefix-deepest sizes o o (prefix-self o))

equal-refines : {A : Type 0} (a b : Answer A) → a ≡ b → Refines exactly Forward (λ x y. x ≡ y) a b
equal-refines a b e = subst (λ c. Refines exactly Forward (λ x y. x ≡ y) a c) e (refines-itself Forward a)

cut-refines : {A : Type 0} (o : List Event) (b : Answer A) → IsPrefixOf o (events b) → Refines exactly Forward (λ (x y : A). x ≡ y) (Cut o) b
cut-refines o (Returned x p) h = h
cut-refines o (Cut p) h = h
cut-refines o (Exited p s) h = h
cut-refines o (Undefined p) h = tt

pub extended_refines : {A : Type 0} → ExtendedRefines A
extended_refines (Returned x o) b h = equal-refines (Returned x o) b h
extended_refines (Cut o) b h = cut-refines o b h
extended_refines (Exited o s) b h = equal-refines (Exited o s) b h
extended_refines (Undefined o) b h = tt
