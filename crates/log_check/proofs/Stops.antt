-- A function has one fault at most, and none where what the log says of it is right.
use Rattle.std.proofs.Common.{◌≡◌, ◌≢◌, ◌<◌, ◌+◌, ℕ, zero, suc, List, [], ◌∷◌, length, take, None, Some, slice_get, refl, sym, ap, subst, ◌∙◌, inl, inr, arith}
use Rattle.std.specs.Prelude.{option_and_then, Option}
use Rattle.std.proofs.lemmas.Bool.{cases_eq, cases_lt}
use Rattle.std.proofs.lemmas.Option.{slice_get_within}
use Rattle.std.proofs.Math.Seq.{take-length}
use Rattle.r_rule.specs.declared.steps.Step.{Step}
use Rattle.g_graph.specs.Plain.{PlainLambda}
use Rattle.g_graph.specs.Program.{lambda_values}
use Rattle.g_pass_def.specs.Sweep.{replayed}
use Rattle.g_pass.specs.Sweep.{rules}
use Rattle.log_check.specs.Log.{PlainPart}
use Rattle.log_check.specs.Right.{HasCounts}
use Rattle.log_check.specs.Fault.{StopsAfter, IsFunctionFault}
use Rattle.log_check.specs.declared.replay_fault.ReplayFault.{ReplayFault}
use Rattle.log_check.specs.declared.replay_fault.ReplayFault.TheVariants.{BadCount, BadStep, NoMemory}

-- two that an option is are one
pub one-of : {X : Type 0} (o : Option X) (x y : X) → o ≡ Some x → o ≡ Some y → x ≡ y
one-of o x y e g = let both : Some x ≡ Some y = sym e ∙ g in cc

pub none-of : {X : Type 0} (o : Option X) (x : X) → o ≡ None → o ≡ Some x → ⊥
none-of o x e g = let both : None ≡ Some x = sym e ∙ g in absurd cc

-- ---- steps

-- where steps stop, more of them are not made
stops : (callees : List PlainLambda) (steps : List Step) (l : PlainLambda) (n m : ℕ) (k : PlainLambda) (s : Step) → replayed rules callees (take n steps) l ≡ Some k →
    slice_get steps n ≡ Some s → rules.step s.rule callees s.node k ≡ None → n < m → replayed rules callees (take m steps) l ≡ None
stops callees [] l n m k s made next stop low = absurd cc
stops callees (t ∷ steps) l n zero k s made next stop low = absurd (omega (arith, low))
stops callees (t ∷ steps) l zero (suc m) k s made next stop low =
    let here : l ≡ k = cc in
    let this : t ≡ s = cc in
    let at : rules.step t.rule callees t.node l ≡ None =
    subst (λ (x : Step). rules.step x.rule callees x.node l ≡ None) (sym this) (subst (λ x. rules.step s.rule callees s.node x ≡ None) (sym here) stop) in
    ap (option_and_then (replayed rules callees (take m steps))) at
stops callees (t ∷ steps) l (suc n) (suc m) k s made next stop low =
    goes-on (rules.step t.rule callees t.node l) (λ x e. stops callees steps x n m k s e next stop (omega (arith, low))) made
  where
    goes-on : (o : Option PlainLambda) → ((x : PlainLambda) → replayed rules callees (take n steps) x ≡ Some k → replayed rules callees (take m steps) x ≡ None) →
        option_and_then (replayed rules callees (take n steps)) o ≡ Some k → option_and_then (replayed rules callees (take m steps)) o ≡ None
    goes-on None rest e = refl
    goes-on (Some x) rest e = rest x e

stops-before : (callees : List PlainLambda) (steps : List Step) (l : PlainLambda) (n m : ℕ) → StopsAfter callees steps l n → n < m → replayed rules callees (take m steps) l ≡ None
stops-before callees steps l n m h low = stops callees steps l n m h.lambda h.step h.made h.next h.stops low

-- nor are all of them
pub never-all : (callees : List PlainLambda) (steps : List Step) (l : PlainLambda) (n : ℕ) → StopsAfter callees steps l n → replayed rules callees steps l ≡ None
never-all callees steps l n h =
    subst (λ xs. replayed rules callees xs l ≡ None) (take-length steps) (stops-before callees steps l n (length steps) h (slice_get_within steps n h.step h.next))

same-index : (callees : List PlainLambda) (steps : List Step) (l : PlainLambda) (n m : ℕ) → StopsAfter callees steps l n → StopsAfter callees steps l m → n ≡ m
same-index callees steps l n m h g =
    elim (cases_eq n m) [
      | inl same ↦ same
      | inr other ↦
          elim (cases_lt n m) [
            | inl low ↦ absurd (none-of _ g.lambda (stops-before callees steps l n m h low) g.made)
            | inr high ↦ absurd (none-of _ h.lambda (stops-before callees steps l m n g (omega (arith, high, other))) h.made)
          ]
    ]

-- ---- a function

pub one_function_fault : (callees : List PlainLambda) (l : PlainLambda) (p : PlainPart) (e f : ReplayFault) → e ≢ NoMemory → f ≢ NoMemory → IsFunctionFault callees l p e →
    IsFunctionFault callees l p f → e ≡ f
one_function_fault callees l p NoMemory f some any a b = absurd (some refl)
one_function_fault callees l p e NoMemory any some a b = absurd (some refl)
one_function_fault callees l p (BadCount x) (BadCount y) some any a b = ap (λ n. BadCount n) (a.0 ∙ sym b.0)
one_function_fault callees l p (BadStep x) (BadStep y) some any a b =
    let same = same-index callees p.steps l a.1.index b.1.index a.1.after b.1.after in
    ap (λ n. BadStep n) (a.1.line_is ∙ (ap (λ n. p.line + suc n) same ∙ sym b.1.line_is))
one_function_fault callees l p (BadCount x) (BadStep y) some any a b =
    elim a.1 [
      | inl other ↦ absurd (other b.0)
      | inr counts ↦ absurd (none-of _ counts.lambda (never-all callees p.steps l b.1.index b.1.after) counts.made)
    ]
one_function_fault callees l p (BadStep x) (BadCount y) some any a b =
    elim b.1 [
      | inl other ↦ absurd (other a.0)
      | inr counts ↦ absurd (none-of _ counts.lambda (never-all callees p.steps l a.1.index a.1.after) counts.made)
    ]

pub right_has_no_fault : (callees : List PlainLambda) (l : PlainLambda) (p : PlainPart) (k : PlainLambda) (e : ReplayFault) → e ≢ NoMemory →
    replayed rules callees p.steps l ≡ Some k → HasCounts p l k → IsFunctionFault callees l p e → ⊥
right_has_no_fault callees l p k NoMemory some made counts a = some refl
right_has_no_fault callees l p k (BadStep x) some made counts a = none-of _ k (never-all callees p.steps l a.1.index a.1.after) made
right_has_no_fault callees l p k (BadCount x) some made counts a =
    elim a.1 [
      | inl other ↦ other counts.before
      | inr another ↦ another.other (counts.after ∙ ap lambda_values (one-of _ k another.lambda made another.made))
    ]
