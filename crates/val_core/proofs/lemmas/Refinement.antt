-- The relation between the answers of two sides.
use Rattle.std.proofs.Common.{◌≡◌, ℕ, ◌≤◌, List, [], ◌++◌, refl, sym, ap, ap₂, ◌∙◌, subst, subst₂, le_of_eq, zero-le, arith}
use Rattle.val_core.specs.Events.{Event, output, deepest, called, IsPrefixOf}
use Rattle.val_core.specs.Answers.{Answer, Returned, Cut, Exited, Undefined, before, then_on, Gives}
use Rattle.val_core.specs.Refinement.{Direction, Forward, Backward, Comparison, exactly, no_deeper, Refines}
use Rattle.val_core.specs.RunLaws.{GoesOn, ShowsOutput, ShowsDepth, RefinesThen, RefinesActive, ForwardIsWithin, BackwardIsWithin, BackwardIsDefined, BackwardIsNoDeeper}
use Rattle.val_core.proofs.lemmas.Events.{output_appends, deepest_appends, called_keeps_output, called_deepens, prefix-self, prefix-more, prefix-after, prefix-output, prefix-deepest, prefix-called}
use Rattle.val_core.proofs.lemmas.Answers.{added, before-is, then_nothing}

-- ---- the two comparisons

pub exactly-goes : GoesOn exactly
exactly-goes =
    record {
      nothing = refl;
      same = λ o p q r e d. ap₂ (λ x y. x ++ y) e d;
      near = λ o p q r e l. rw e (prefix-after p q r l);
      far = λ o p q r e l. rw e (prefix-after p r q l);
      near_more = λ o p r l. prefix-more o p r l;
      far_more = λ o r p l. prefix-more p o r l;
      same_called = λ f o p e. ap (called f) e;
      near_called = λ f o p l. prefix-called f o p l;
      far_called = λ f o p l. prefix-called f p o l;
    }

no_deeper-more : (o p q r : List Event) → ((sizes : ℕ → ℕ) → deepest sizes p ≤ deepest sizes o) → ((sizes : ℕ → ℕ) → deepest sizes r ≤ deepest sizes q) → (sizes : ℕ → ℕ) →
    deepest sizes (p ++ r) ≤ deepest sizes (o ++ q)
no_deeper-more o p q r h k sizes =
    let a = h sizes in
    let b = k sizes in
    let c = deepest_appends sizes p r in
    let d = deepest_appends sizes o q in
    omega (arith, a, b, c, d)

no_deeper-called : (f : ℕ) (o p : List Event) → ((sizes : ℕ → ℕ) → deepest sizes p ≤ deepest sizes o) → (sizes : ℕ → ℕ) → deepest sizes (called f p) ≤ deepest sizes (called f o)
no_deeper-called f o p h sizes =
    let a = h sizes in
    let b = called_deepens sizes f p in
    let c = called_deepens sizes f o in
    omega (arith, a, b, c)

output-prefix : (o p q r : List Event) → output o ≡ output p → IsPrefixOf (output q) (output r) → IsPrefixOf (output (o ++ q)) (output (p ++ r))
output-prefix o p q r e l =
    subst₂ (λ x y. IsPrefixOf x y) (ap (λ x. x ++ output q) (sym e) ∙ sym (output_appends o q)) (sym (output_appends p r)) (prefix-after (output p) (output q) (output r) l)

pub no_deeper-goes : GoesOn no_deeper
no_deeper-goes =
    record {
      nothing = (refl, λ sizes. zero-le);
      same = λ o p q r e d.
          (output_appends o q ∙ ap₂ (λ x y. x ++ y) e.0 d.0 ∙ sym (output_appends p r), no_deeper-more o p q r e.1 d.1);
      near = λ o p q r e l. output-prefix o p q r e.0 l;
      far = λ o p q r e l. (output-prefix p o r q (sym e.0) l.0, no_deeper-more o p q r e.1 l.1);
      near_more = λ o p r l. subst (λ x. IsPrefixOf (output o) x) (sym (output_appends p r)) (prefix-more (output o) (output p) (output r) l);
      far_more = λ o r p l. (
        subst (λ x. IsPrefixOf (output p) x) (sym (output_appends o r)) (prefix-more (output p) (output o) (output r) l.0),
        λ sizes. let h = l.1 sizes in let d = deepest_appends sizes o r in omega (arith, h, d),
      );
      same_called = λ f o p e.
          (called_keeps_output f o ∙ e.0 ∙ sym (called_keeps_output f p), no_deeper-called f o p e.1);
      near_called = λ f o p l.
          subst₂ (λ x y. IsPrefixOf x y) (sym (called_keeps_output f o)) (sym (called_keeps_output f p)) l;
      far_called = λ f o p l.
          (subst₂ (λ x y. IsPrefixOf x y) (sym (called_keeps_output f p)) (sym (called_keeps_output f o)) l.0, no_deeper-called f o p l.1);
    }

pub no_deeper-output : ShowsOutput no_deeper
no_deeper-output = record { same = λ o p e. e.0; near = λ o p l. l; far = λ o p l. l.0 }

pub no_deeper-depth : ShowsDepth no_deeper
no_deeper-depth = record { same = λ o p e. e.1; far = λ o p l. l.1 }

-- a call that the farther side does not make
pub no_deeper-uncalled : (f : ℕ) (o p : List Event) → no_deeper.Same o p → no_deeper.Same (called f o) p
no_deeper-uncalled f o p e =
    (called_keeps_output f o ∙ e.0, λ sizes. let h = e.1 sizes in let d = called_deepens sizes f o in omega (arith, h, d))

pub exactly-output : ShowsOutput exactly
exactly-output =
    record { same = λ o p e. ap output e; near = λ o p l. prefix-output o p l; far = λ o p l. prefix-output p o l }

pub exactly-depth : ShowsDepth exactly
exactly-depth =
    record {
      same = λ o p e sizes. le_of_eq (ap (deepest sizes) (sym e));
      far = λ o p l sizes. prefix-deepest sizes p o l;
    }

-- ---- answers that refine

refines-added : {A B : Type 0} (c : Comparison) → GoesOn c → (direction : Direction) (R : A → B → Type 0) (o p : List Event) (a : Answer A) (b : Answer B) → c.Same o p →
    Refines c direction R a b → Refines c direction R (added o a) (added p b)
refines-added c g direction R o p (Undefined q) b e h = tt
refines-added c g direction R o p (Returned x q) (Returned y r) e h = (h.0, g.same o p q r e h.1)
refines-added c g direction R o p (Exited q s) (Exited r t) e h = (g.same o p q r e h.0, h.1)
refines-added c g Forward R o p (Cut q) (Returned y r) e h = g.near o p q r e h
refines-added c g Forward R o p (Cut q) (Exited r t) e h = g.near o p q r e h
refines-added c g Forward R o p (Cut q) (Cut r) e h = g.near o p q r e h
refines-added c g Forward R o p (Cut q) (Undefined r) e h = tt
refines-added c g Backward R o p (Returned x q) (Cut r) e h = g.far o p q r e h
refines-added c g Backward R o p (Exited q s) (Cut r) e h = g.far o p q r e h
refines-added c g Backward R o p (Cut q) (Cut r) e h = g.far o p q r e h
refines-added c g direction R o p _ _ e h = absurd h

refines-before : {A B : Type 0} (c : Comparison) → GoesOn c → (direction : Direction) (R : A → B → Type 0) (o p : List Event) (a : Answer A) (b : Answer B) → c.Same o p →
    Refines c direction R a b → Refines c direction R (before o a) (before p b)
refines-before c g direction R o p a b e h = rw (before-is o a, before-is p b) (refines-added c g direction R o p a b e h)

-- one side was cut, and the other one goes on
cut-less : {A B : Type 0} (c : Comparison) → GoesOn c → (R : A → B → Type 0) (o p : List Event) (b : Answer B) → c.NearIsPrefix o p → Refines c Forward R (Cut o) (added p b)
cut-less c g R o p (Returned y r) h = g.near_more o p r h
cut-less c g R o p (Cut r) h = g.near_more o p r h
cut-less c g R o p (Exited r t) h = g.near_more o p r h
cut-less c g R o p (Undefined r) h = tt

cut-far : {A B : Type 0} (c : Comparison) → GoesOn c → (R : A → B → Type 0) (o p : List Event) (a : Answer A) → c.FarIsPrefix o p → Refines c Backward R (added o a) (Cut p)
cut-far c g R o p (Returned x q) h = g.far_more o q p h
cut-far c g R o p (Cut q) h = g.far_more o q p h
cut-far c g R o p (Exited q s) h = g.far_more o q p h
cut-far c g R o p (Undefined r) h = tt

pub refines-then : {A B C D : Type 0} (c : Comparison) → GoesOn c → (R : A → B → Type 0) (S : C → D → Type 0) → RefinesThen c A B C D R S
refines-then c g R S direction (Undefined o) b next next' h go = tt
refines-then c g R S direction (Returned x o) (Returned y p) next next' h go =
    refines-before c g direction S o p (next x) (next' y) h.1 (go x y h.0)
refines-then c g R S direction (Exited o s) (Exited p t) next next' h go = h
refines-then c g R S Forward (Cut o) (Returned y p) next next' h go = rw (before-is p (next' y)) (cut-less c g S o p (next' y) h)
refines-then c g R S Forward (Cut o) (Exited p t) next next' h go = h
refines-then c g R S Forward (Cut o) (Cut p) next next' h go = h
refines-then c g R S Forward (Cut o) (Undefined p) next next' h go = tt
refines-then c g R S Backward (Returned x o) (Cut p) next next' h go = rw (before-is o (next x)) (cut-far c g S o p (next x) h)
refines-then c g R S Backward (Exited o s) (Cut p) next next' h go = h
refines-then c g R S Backward (Cut o) (Cut p) next next' h go = h
refines-then c g R S direction _ _ next next' h go = absurd h

pub refines-active : {A B : Type 0} (c : Comparison) → GoesOn c → (R : A → B → Type 0) → RefinesActive c A B R
refines-active c g R direction f (Undefined o) b h = tt
refines-active c g R direction f (Returned x o) (Returned y p) h = (h.0, g.same_called f o p h.1)
refines-active c g R direction f (Exited o s) (Exited p t) h = (g.same_called f o p h.0, h.1)
refines-active c g R Forward f (Cut o) (Returned y p) h = g.near_called f o p h
refines-active c g R Forward f (Cut o) (Exited p t) h = g.near_called f o p h
refines-active c g R Forward f (Cut o) (Cut p) h = g.near_called f o p h
refines-active c g R Forward f (Cut o) (Undefined p) h = tt
refines-active c g R Backward f (Returned x o) (Cut p) h = g.far_called f o p h
refines-active c g R Backward f (Exited o s) (Cut p) h = g.far_called f o p h
refines-active c g R Backward f (Cut o) (Cut p) h = g.far_called f o p h
refines-active c g R direction f _ _ h = absurd h

-- a relation of the results that follows from the other
pub refines-change : {A B : Type 0} (c : Comparison) (direction : Direction) (R S : A → B → Type 0) (a : Answer A) (b : Answer B) → ((x : A) (y : B) → R x y → S x y) → Refines c direction R a b →
    Refines c direction S a b
refines-change c direction R S (Undefined o) b more h = tt
refines-change c direction R S (Returned x o) (Returned y p) more h = (more x y h.0, h.1)
refines-change c direction R S (Exited o s) (Exited p t) more h = h
refines-change c Forward R S (Cut o) (Returned y p) more h = h
refines-change c Forward R S (Cut o) (Exited p t) more h = h
refines-change c Forward R S (Cut o) (Cut p) more h = h
refines-change c Forward R S (Cut o) (Undefined p) more h = tt
refines-change c Backward R S (Returned x o) (Cut p) more h = h
refines-change c Backward R S (Exited o s) (Cut p) more h = h
refines-change c Backward R S (Cut o) (Cut p) more h = h
refines-change c direction R S _ _ more h = absurd h

-- what is known of the nearer side's results, added to the relation
pub refines-gives : {A B : Type 0} (c : Comparison) (direction : Direction) (P : A → Type 0) (R : A → B → Type 0) (a : Answer A) (b : Answer B) → Gives P a → Refines c direction R a b →
    Refines c direction (λ x y. P x × R x y) a b
refines-gives c direction P R (Undefined o) b k h = tt
refines-gives c direction P R (Returned x o) (Returned y p) k h = ((k, h.0), h.1)
refines-gives c direction P R (Exited o s) (Exited p t) k h = h
refines-gives c Forward P R (Cut o) (Returned y p) k h = h
refines-gives c Forward P R (Cut o) (Exited p t) k h = h
refines-gives c Forward P R (Cut o) (Cut p) k h = h
refines-gives c Forward P R (Cut o) (Undefined p) k h = tt
refines-gives c Backward P R (Returned x o) (Cut p) k h = h
refines-gives c Backward P R (Exited o s) (Cut p) k h = h
refines-gives c Backward P R (Cut o) (Cut p) k h = h
refines-gives c direction P R _ _ k h = absurd h

-- one side goes on purely
pub refines-less-goes : {A B C : Type 0} (c : Comparison) → GoesOn c → (direction : Direction) (R : A → B → Type 0) (S : C → B → Type 0) (a : Answer A) (b : Answer B) (f : A → C) →
    Refines c direction R a b → ((x : A) (y : B) → R x y → S (f x) y) → Refines c direction S (then_on a (λ x. Returned (f x) [])) b
refines-less-goes c g direction R S a b f h go =
    let e = then_nothing b in
    let whole = refines-then c g R S direction a b (λ x. Returned (f x) []) (λ y. Returned y []) h (λ x y r. (go x y r, g.nothing)) in
    subst (λ z. Refines c direction S (then_on a (λ x. Returned (f x) [])) z) e whole

pub refines-far-goes : {A B D : Type 0} (c : Comparison) → GoesOn c → (direction : Direction) (R : A → B → Type 0) (S : A → D → Type 0) (a : Answer A) (b : Answer B) (f : B → D) →
    Refines c direction R a b → ((x : A) (y : B) → R x y → S x (f y)) → Refines c direction S a (then_on b (λ y. Returned (f y) []))
refines-far-goes c g direction R S a b f h go =
    let e = then_nothing a in
    let whole = refines-then c g R S direction a b (λ x. Returned x []) (λ y. Returned (f y) []) h (λ x y r. (go x y r, g.nothing)) in
    subst (λ z. Refines c direction S z (then_on b (λ y. Returned (f y) []))) e whole

pub refines-itself : {A : Type 0} (direction : Direction) (a : Answer A) → Refines exactly direction (λ x y. x ≡ y) a a
refines-itself direction (Undefined o) = tt
refines-itself direction (Returned x o) = (refl, refl)
refines-itself direction (Exited o s) = (refl, refl)
refines-itself Forward (Cut o) = prefix-self o
refines-itself Backward (Cut o) = prefix-self o

-- ---- what it means for whole runs

pub forward-within : {A B : Type 0} (c : Comparison) → ShowsOutput c → (R : A → B → Type 0) → ForwardIsWithin c A B R
forward-within c s R (Undefined o) b h right right' = absurd (right tt)
forward-within c s R (Returned x o) (Returned y p) h right right' = (h.0, s.same o p h.1)
forward-within c s R (Exited o t) (Exited p u) h right right' = (s.same o p h.0, h.1)
forward-within c s R (Cut o) (Returned y p) h right right' = s.near o p h
forward-within c s R (Cut o) (Exited p t) h right right' = s.near o p h
forward-within c s R (Cut o) (Cut p) h right right' = s.near o p h
forward-within c s R (Cut o) (Undefined p) h right right' = absurd (right' tt)
forward-within c s R _ _ h right right' = absurd h

pub backward-within : {A B : Type 0} (c : Comparison) → ShowsOutput c → (R : A → B → Type 0) → BackwardIsWithin c A B R
backward-within c s R (Undefined o) b h right = absurd (right tt)
backward-within c s R (Returned x o) (Returned y p) h right = (h.0, sym (s.same o p h.1))
backward-within c s R (Exited o t) (Exited p u) h right = (sym (s.same o p h.0), sym h.1)
backward-within c s R (Returned x o) (Cut p) h right = s.far o p h
backward-within c s R (Exited o t) (Cut p) h right = s.far o p h
backward-within c s R (Cut o) (Cut p) h right = s.far o p h
backward-within c s R _ _ h right = absurd h

pub backward-defined : {A B : Type 0} (c : Comparison) (R : A → B → Type 0) → BackwardIsDefined c A B R
backward-defined c R (Undefined o) (Undefined p) h right wrong = right tt
backward-defined c R (Returned x o) (Undefined p) h right wrong = h
backward-defined c R (Exited o t) (Undefined p) h right wrong = h
backward-defined c R (Cut o) (Undefined p) h right wrong = h
backward-defined c R _ _ h right wrong = absurd wrong

pub backward-no-deeper : {A B : Type 0} (c : Comparison) → ShowsDepth c → (R : A → B → Type 0) → BackwardIsNoDeeper c A B R
backward-no-deeper c s R (Undefined o) b h right sizes = absurd (right tt)
backward-no-deeper c s R (Returned x o) (Returned y p) h right sizes = s.same o p h.1 sizes
backward-no-deeper c s R (Exited o t) (Exited p u) h right sizes = s.same o p h.0 sizes
backward-no-deeper c s R (Returned x o) (Cut p) h right sizes = s.far o p h sizes
backward-no-deeper c s R (Exited o t) (Cut p) h right sizes = s.far o p h sizes
backward-no-deeper c s R (Cut o) (Cut p) h right sizes = s.far o p h sizes
backward-no-deeper c s R _ _ h right sizes = absurd h
