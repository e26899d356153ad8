-- What calls over two complete lists give, of which one may stand for the other.
use Rattle.std.proofs.Common.{ℕ}
use Rattle.val_core.specs.Answers.{Answer, Returned, Cut, Exited, Gives}
use Rattle.val_core.specs.Within.{behaviour, Within}
use Rattle.g_mean.specs.Calls.{lambda_at}
use Rattle.g_mean.specs.Kinds.{AreOfKinds, call_gives, ReturnsRefine}
use Rattle.g_mean.specs.LessDefined.{Paired, IsLessDefinedDatum}
use Rattle.g_mean.proofs.lemmas.Kinds.{all-well-formed, lambdas_keep_kinds, return-refine}
use Rattle.r_edit.specs.Steps.{CompleteListsReturn}

-- what is known of the results on both sides, and a relation that follows
within-both : {A : Type 0} (P : A → Type 0) (R S : A → A → Type 0) (a b : Answer A) → Gives P a → Gives P b → ((x y : A) → P x → P y → R x y → S x y) → Within R (behaviour a) (behaviour b) →
    Within S (behaviour a) (behaviour b)
within-both P R S (Returned x o) (Returned y p) g h more l = (more x y g h l.0, l.1)
within-both P R S (Exited o s) (Exited p t) g h more l = l
within-both P R S (Cut o) (Returned y p) g h more l = l
within-both P R S (Cut o) (Exited p t) g h more l = l
within-both P R S (Cut o) (Cut p) g h more l = l
within-both P R S _ _ g h more l = absurd l

pub complete_lists_return : CompleteListsReturn
complete_lists_return ls ks stands complete global f count xs globals sound kinds right =
    let kept = stands.functions global f xs globals sound right in
    let near = λ (n : ℕ). lambdas_keep_kinds n ls global f count xs (all-well-formed ls complete.well_formed) kinds in
    let far = λ (n : ℕ). lambdas_keep_kinds n ks global f count xs (all-well-formed ks (stands.complete complete).well_formed) kinds in
    record {
      forward = λ n.
          let m = kept.forward n in
          (m.0, within-both (AreOfKinds call_gives) (Paired IsLessDefinedDatum) ReturnsRefine (lambda_at n ls global f xs) (lambda_at m.0 ks global f xs) (near n) (far m.0) return-refine m.1);
      back = λ n.
          let m = kept.back n in (
            m.0,
            within-both (AreOfKinds call_gives) (λ ys us. Paired IsLessDefinedDatum us ys) (λ ys us. ReturnsRefine us ys) (lambda_at n ks global f xs) (lambda_at m.0 ls global f xs) (far n) (near m.0)
                (λ ys us h g p. return-refine us ys g h p) m.1,
          );
      no_deeper = kept.no_deeper;
    }
