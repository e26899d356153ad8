-- The bytes that a part takes are the first of its input, and what it leaves comes after them.
use Rattle.std.proofs.Common.{◌≡◌, ℕ, suc, Bool, true, false, if◌then◌else◌, List, [], ◌∷◌, ◌++◌, take, drop, length, Option, None, Some, refl, sym, ap, ap₂, ◌∙◌, append_assoc}
use Rattle.std.proofs.lemmas.List.{take-append-drop}
use Rattle.std.proofs.Math.Seq.{take-append_seam, drop-append_seam}
use Rattle.val_core.specs.declared.values.Value.{Value}
use Rattle.val_core.specs.declared.values.Value.TheVariants.{Num, At, Bad}
use Rattle.val_core.specs.Events.{Event, wrote, took, met, beneath, IsPrefixOf}
use Rattle.val_core.specs.Answers.{Answer, Returned, Cut, Exited, Undefined, then_on, on_number, on_defined, active}
use Rattle.val_core.proofs.lemmas.Answers.{added, before-is}
use Rattle.c_type.specs.Trees.{TypeTree}
use Rattle.c_mean.specs.State.{used, truth}
use Rattle.c_mean.specs.Expressions.{branched}
use Rattle.c_mean.specs.Run.{taken}
use Rattle.c_mean.specs.RunLaws.{taken_bytes, TakesInput}

-- the form for the induction, without `take` and `drop`
abbrev pub Takes : {A : Type 0} → (rest : A → List ℕ) → (input : List ℕ) → Answer A → Type 0
Takes rest i (Returned x o) = taken_bytes o ++ rest x ≡ i
Takes rest i (Cut o) = IsPrefixOf (taken_bytes o) i
Takes rest i (Exited o s) = IsPrefixOf (taken_bytes o) i
Takes rest i (Undefined o) = IsPrefixOf (taken_bytes o) i

-- ---- the two forms

bytes-append : (o p : List Event) → taken_bytes (o ++ p) ≡ taken_bytes o ++ taken_bytes p
bytes-append [] p = refl
bytes-append (wrote b ∷ o) p = bytes-append o p
bytes-append (took b ∷ o) p = ap (λ l. b ∷ l) (bytes-append o p)
bytes-append (met s ∷ o) p = bytes-append o p

bytes-beneath : (f : ℕ) (o : List Event) → taken_bytes (beneath f o) ≡ taken_bytes o
bytes-beneath f [] = refl
bytes-beneath f (wrote b ∷ o) = bytes-beneath f o
bytes-beneath f (took b ∷ o) = ap (λ l. b ∷ l) (bytes-beneath f o)
bytes-beneath f (met s ∷ o) = bytes-beneath f o

taken-length : (o : List Event) → taken o ≡ length (taken_bytes o)
taken-length [] = refl
taken-length (wrote b ∷ o) = taken-length o
taken-length (took b ∷ o) = ap (λ n. suc n) (taken-length o)
taken-length (met s ∷ o) = taken-length o

first-of : (o : List Event) (r i : List ℕ) → taken_bytes o ++ r ≡ i → taken_bytes o ≡ take (taken o) i
first-of o r i e = sym (take-append_seam (taken_bytes o) r) ∙ ap₂ take (sym (taken-length o)) e

rest-of : (o : List Event) (r i : List ℕ) → taken_bytes o ++ r ≡ i → r ≡ drop (taken o) i
rest-of o r i e = sym (drop-append_seam (taken_bytes o) r) ∙ ap₂ drop (sym (taken-length o)) e

pub takes-law : {A : Type 0} (rest : A → List ℕ) (i : List ℕ) (a : Answer A) → Takes rest i a → TakesInput rest i a
takes-law rest i (Returned x o) h = (first-of o (rest x) i h, rest-of o (rest x) i h)
takes-law rest i (Cut o) h = first-of o h.0 i h.1
takes-law rest i (Exited o s) h = first-of o h.0 i h.1
takes-law rest i (Undefined o) h = first-of o h.0 i h.1

pub law-takes : {A : Type 0} (rest : A → List ℕ) (i : List ℕ) (a : Answer A) → TakesInput rest i a → Takes rest i a
law-takes rest i (Returned x o) h = ap₂ (λ x y. x ++ y) h.0 h.1 ∙ take-append-drop (taken o) i
law-takes rest i (Cut o) h = (drop (taken o) i, ap (λ l. l ++ drop (taken o) i) h ∙ take-append-drop (taken o) i)
law-takes rest i (Exited o s) h = (drop (taken o) i, ap (λ l. l ++ drop (taken o) i) h ∙ take-append-drop (taken o) i)
law-takes rest i (Undefined o) h = (drop (taken o) i, ap (λ l. l ++ drop (taken o) i) h ∙ take-append-drop (taken o) i)

-- ---- what follows

more-taken : (o p : List Event) (i j r : List ℕ) → taken_bytes o ++ j ≡ i → taken_bytes p ++ r ≡ j → taken_bytes (o ++ p) ++ r ≡ i
more-taken o p i j r e h =
    ap (λ l. l ++ r) (bytes-append o p) ∙ append_assoc (taken_bytes o) (taken_bytes p) r ∙ ap (λ l. taken_bytes o ++ l) h ∙ e

takes-added : {A : Type 0} (rest : A → List ℕ) (i j : List ℕ) (o : List Event) (a : Answer A) → taken_bytes o ++ j ≡ i → Takes rest j a → Takes rest i (added o a)
takes-added rest i j o (Returned x p) e h = more-taken o p i j (rest x) e h
takes-added rest i j o (Cut p) e h = (h.0, more-taken o p i j h.0 e h.1)
takes-added rest i j o (Exited p s) e h = (h.0, more-taken o p i j h.0 e h.1)
takes-added rest i j o (Undefined p) e h = (h.0, more-taken o p i j h.0 e h.1)

pub takes-then : {A B : Type 0} (rest : A → List ℕ) (rest' : B → List ℕ) (i : List ℕ) (a : Answer A) (next : A → Answer B) → Takes rest i a →
    ((x : A) → Takes rest' (rest x) (next x)) → Takes rest' i (then_on a next)
takes-then rest rest' i (Returned x o) next h go = rw (before-is o (next x)) (takes-added rest' i (rest x) o (next x) h (go x))
takes-then rest rest' i (Cut o) next h go = h
takes-then rest rest' i (Exited o s) next h go = h
takes-then rest rest' i (Undefined o) next h go = h

pub takes-defined : {A X : Type 0} (rest : A → List ℕ) (i : List ℕ) (x : Option X) (next : X → Answer A) → ((y : X) → Takes rest i (next y)) → Takes rest i (on_defined x next)
takes-defined rest i None next go = (i, refl)
takes-defined rest i (Some y) next go = go y

pub takes-number : {A : Type 0} (rest : A → List ℕ) (i : List ℕ) (v : Value) (next : ℕ → Answer A) → ((w : ℕ) → Takes rest i (next w)) → Takes rest i (on_number v next)
takes-number rest i (Num w) next go = go w
takes-number rest i (At b o) next go = (i, refl)
takes-number rest i Bad next go = (i, refl)

pub takes-used : {A : Type 0} (rest : A → List ℕ) (i : List ℕ) (v : Value) (next : Value → Answer A) → ((w : Value) → Takes rest i (next w)) → Takes rest i (used v next)
takes-used rest i (Num w) next go = go (Num w)
takes-used rest i (At b o) next go = go (At b o)
takes-used rest i Bad next go = (i, refl)

takes-chosen : {A : Type 0} (rest : A → List ℕ) (i : List ℕ) (d : Option Bool) (a b : Answer A) → Takes rest i a → Takes rest i b → Takes rest i (on_defined d (λ t. if t then a else b))
takes-chosen rest i None a b h k = (i, refl)
takes-chosen rest i (Some true) a b h k = h
takes-chosen rest i (Some false) a b h k = k

pub takes-branched : {A : Type 0} (rest : A → List ℕ) (i : List ℕ) (t : TypeTree) (v : Value) (a b : Answer A) → Takes rest i a → Takes rest i b → Takes rest i (branched t v a b)
takes-branched rest i t v a b h k = takes-chosen rest i (truth t v) a b h k

pub takes-active : {A : Type 0} (rest : A → List ℕ) (i : List ℕ) (f : ℕ) (a : Answer A) → Takes rest i a → Takes rest i (active f a)
takes-active rest i f (Returned x o) h = ap (λ l. l ++ rest x) (bytes-beneath f o) ∙ h
takes-active rest i f (Cut o) h = (h.0, ap (λ l. l ++ h.0) (bytes-beneath f o) ∙ h.1)
takes-active rest i f (Exited o s) h = (h.0, ap (λ l. l ++ h.0) (bytes-beneath f o) ∙ h.1)
takes-active rest i f (Undefined o) h = (h.0, ap (λ l. l ++ h.0) (bytes-beneath f o) ∙ h.1)
