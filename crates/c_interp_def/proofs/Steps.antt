-- Chains of answers, and operands that come and go.
use Rattle.std.proofs.Common.{◌≡◌, ℕ, Bool, true, false, if◌then◌else◌, Option, None, Some, refl, sym, ap, ◌∙◌}
use Rattle.std.proofs.Math.Path.{fun_ext}
use Rattle.val_core.specs.declared.values.Value.{Value}
use Rattle.val_core.specs.declared.values.Value.TheVariants.{Num, At, Bad}
use Rattle.val_core.specs.Answers.{Answer, then_on, on_number, on_defined}
use Rattle.val_core.proofs.lemmas.Answers.{then_associates}
use Rattle.c_type.specs.Trees.{TypeTree}
use Rattle.c_mean.specs.State.{used, truth}
use Rattle.c_mean.specs.Expressions.{branched}

-- ---- what follows, at each result

pub on : {A B : Type 0} (a : Answer A) (f g : A → Answer B) → ((x : A) → f x ≡ g x) → then_on a f ≡ then_on a g
on a f g h = ap (then_on a) (fun_ext h)

-- two sides that begin with the same part
pub both : {A B C D : Type 0} (a : Answer A) (f : A → Answer B) (g : B → Answer D) (h : A → Answer C) (k : C → Answer D) → ((x : A) → then_on (f x) g ≡ then_on (h x) k) → then_on (then_on a f) g
    ≡ then_on (then_on a h) k
both a f g h k same = then_associates a f g ∙ on a (λ x. then_on (f x) g) (λ x. then_on (h x) k) same ∙ sym (then_associates a h k)

-- what two tasks do after a value became an operand
pub two : {A B C D : Type 0} (a : Answer A) (g : A → Answer B) (t : B → Answer C) (u : C → Answer D) → then_on (then_on (then_on a g) t) u ≡ then_on a (λ r. then_on (then_on (g r) t) u)
two a g t u = ap (λ b. then_on b u) (then_associates a g t) ∙ then_associates a (λ r. then_on (g r) t) u

pub three : {A B C D E : Type 0} (a : Answer A) (g : A → Answer B) (t : B → Answer C) (u : C → Answer D) (w : D → Answer E) → then_on (then_on (then_on (then_on a g) t) u) w
    ≡ then_on a (λ r. then_on (then_on (then_on (g r) t) u) w)
three a g t u w = ap (λ b. then_on b w) (two a g t u) ∙ then_associates a (λ r. then_on (then_on (g r) t) u) w

-- ---- what follows on a value, a number, or what may be undefined

pub used-then : {A B : Type 0} (v : Value) (f : Value → Answer A) (g : A → Answer B) → then_on (used v f) g ≡ used v (λ w. then_on (f w) g)
used-then (Num w) f g = refl
used-then (At b o) f g = refl
used-then Bad f g = refl

pub used-on : {A : Type 0} (v : Value) (f g : Value → Answer A) → ((w : Value) → f w ≡ g w) → used v f ≡ used v g
used-on (Num w) f g h = h (Num w)
used-on (At b o) f g h = h (At b o)
used-on Bad f g h = refl

pub number-then : {A B : Type 0} (v : Value) (f : ℕ → Answer A) (g : A → Answer B) → then_on (on_number v f) g ≡ on_number v (λ w. then_on (f w) g)
number-then (Num w) f g = refl
number-then (At b o) f g = refl
number-then Bad f g = refl

pub number-on : {A : Type 0} (v : Value) (f g : ℕ → Answer A) → ((w : ℕ) → f w ≡ g w) → on_number v f ≡ on_number v g
number-on (Num w) f g h = h w
number-on (At b o) f g h = refl
number-on Bad f g h = refl

pub defined-then : {A B X : Type 0} (x : Option X) (f : X → Answer A) (g : A → Answer B) → then_on (on_defined x f) g ≡ on_defined x (λ y. then_on (f y) g)
defined-then None f g = refl
defined-then (Some y) f g = refl

pub defined-on : {A X : Type 0} (x : Option X) (f g : X → Answer A) → ((y : X) → f y ≡ g y) → on_defined x f ≡ on_defined x g
defined-on None f g h = refl
defined-on (Some y) f g h = h y

decided-then : {A B : Type 0} (d : Option Bool) (a b : Answer A) (g : A → Answer B) → then_on (on_defined d (λ e. if e then a else b)) g ≡ on_defined d (λ e. if e then then_on a g else then_on b g)
decided-then None a b g = refl
decided-then (Some true) a b g = refl
decided-then (Some false) a b g = refl

pub branched-then : {A B : Type 0} (t : TypeTree) (v : Value) (a b : Answer A) (g : A → Answer B) → then_on (branched t v a b) g ≡ branched t v (then_on a g) (then_on b g)
branched-then t v a b g = decided-then (truth t v) a b g
