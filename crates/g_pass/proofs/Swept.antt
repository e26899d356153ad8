-- Lambdas with their steps.
use Rattle.std.proofs.Common.{◌≡◌, ◌++◌, ℕ, List, [], ◌∷◌, Some, None, Result, Ok, Err, OnErr, sym, ap}
use Rattle.g_graph.specs.Plain.{PlainLambda}
use Rattle.r_rule.specs.declared.steps.Step.{Step}
use Rattle.r_rule.specs.declared.steps.Rule.{Rule}
use Rattle.g_pass_def.specs.Sweep.{Swept, stepped, tried}
use Rattle.g_pass.specs.Sweep.{step, rules}

abbrev pub with_steps : PlainLambda → List Step → Swept
with_steps l steps = record { lambda = l; steps = steps }

pub same_swept : (l k : PlainLambda) (ls ks : List Step) → l ≡ k → ls ≡ ks → with_steps l ls ≡ with_steps k ks
same_swept l k ls ks e f = λ i. with_steps (e i) (f i)

pub on_err : {A B : Type 0} (P : Type 0) (r : Result A B) → P → OnErr r P
on_err P (Ok x) p = tt
on_err P (Err e) p = p

-- one node, where the step is made and where it is not
pub tried_made : (r : Rule) (callees : List PlainLambda) (n : ℕ) (l k : PlainLambda) (steps : List Step) → step r callees n l ≡ Some k →
    with_steps k (steps ++ record { rule = r; node = n } ∷ []) ≡ tried rules callees r (with_steps l steps) n
tried_made r callees n l k steps e = ap (λ o. stepped r n (with_steps l steps) o) (sym e)

pub tried_unmade : (r : Rule) (callees : List PlainLambda) (n : ℕ) (l : PlainLambda) (steps : List Step) → step r callees n l ≡ None →
    with_steps l steps ≡ tried rules callees r (with_steps l steps) n
tried_unmade r callees n l steps e = ap (λ o. stepped r n (with_steps l steps) o) (sym e)
