-- One lambda for another, in any list.
use Rattle.std.proofs.Common.{◌≡◌, ℕ, zero, suc, List, [], ◌∷◌, Option, Some, slice_get, refl, sym, subst, ◌∙◌}
use Rattle.std.specs.Prelude.{slice_set}
use Rattle.std.proofs.lemmas.Option.{same_Some}
use Rattle.g_graph.specs.Plain.{RegionTree, PlainLambda}
use Rattle.g_graph.specs.Lists.{RegionOps, Calls}
use Rattle.g_graph.specs.WellFormed.{IsWellFormed}
use Rattle.g_graph.proofs.lemmas.Ops.{changed_ops}
use Rattle.g_graph.proofs.lemmas.Complete.{complete_set}
use Rattle.g_mean.specs.Replacement.{Replaces}
use Rattle.g_mean.specs.Refining.{LambdasSameBut}
use Rattle.g_mean.specs.Edits.{IsEdited, AreEditedAt, IsPartOf, EditsKeepMeaning, EditsKeepComplete}
use Rattle.g_mean.proofs.lemmas.Replacement.{lambdas_keep_meaning}
use Rattle.g_mean.proofs.lemmas.Programs.{programs_keep_meaning}
use Rattle.g_mean.proofs.lemmas.Edits.{edits_replace}

pub set-edited : (here : RegionTree → Option RegionTree) (l k : PlainLambda) → IsEdited here l k → (ls : List PlainLambda) (f : ℕ) → slice_get ls f ≡ Some l →
    AreEditedAt here f ls (slice_set ls f k)
set-edited here l k h [] f e = absurd cc
set-edited here l k h (j ∷ ls) zero e = (subst (λ m. IsEdited here m k) (sym (same_Some j l e)) h, refl)
set-edited here l k h (j ∷ ls) (suc f) e = (refl, set-edited here l k h ls f e)

pub edits_keep_meaning : EditsKeepMeaning
edits_keep_meaning here l k well edited replaces =
    record {
      functions = λ ls f e. lambdas_keep_meaning ls (slice_set ls f k) (same ls f e);
      program = λ ls f e. programs_keep_meaning ls (slice_set ls f k) (same ls f e);
    }
  where
    same : (ls : List PlainLambda) (f : ℕ) → slice_get ls f ≡ Some l → LambdasSameBut (Replaces ls (slice_set ls f k)) ls (slice_set ls f k)
    same ls f e =
        edits_replace ls (slice_set ls f k) here f (set-edited here l k edited ls f e)
        (λ j q. subst IsWellFormed (same_Some l j (sym e ∙ q)) well)
        (λ j r s q part d. replaces ls (slice_set ls f k) r s (subst (λ m. IsPartOf m r) (same_Some j l (sym q ∙ e)) part) d)

pub edits_keep_complete : EditsKeepComplete
edits_keep_complete here l k well edited calls ls f e complete =
    complete_set l k well (sym edited.number) (sym edited.params)
    (λ js h. subst (RegionOps (Calls js)) (sym edited.body) (changed_ops (Calls js) here (calls js) l h)) ls f e complete
