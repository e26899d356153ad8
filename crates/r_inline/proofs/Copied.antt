-- What the code needs: that the callee's body can be copied, and that the changed lambda is the rule's.
use Rattle.std.specs.Prelude.{option_map}
use Rattle.std.proofs.Common.{◌≡◌, ℕ, ◌+◌, true, [], ◌∷◌, sym, ap, ap₂, subst, ◌∙◌}
use Rattle.g_graph.specs.Plain.{RegionTree, PlainLambda}
use Rattle.g_graph.specs.Change.{lambda_changed}
use Rattle.g_graph.specs.Replace.{region_redirected}
use Rattle.g_graph.specs.Splice.{args_to_inputs, region_spliced}
use Rattle.g_graph.specs.WellFormed.{IsWellFormed}
use Rattle.g_mean.specs.Copies.{IsClosed}
use Rattle.g_mean.proofs.lemmas.Closed.{region-closed}
use Rattle.r_edit.specs.Steps.{MayStandFor}
use Rattle.r_edit.specs.Numbering.{node_count, region_numbered}
use Rattle.r_inline.specs.Rule.{call_at, applies, lambda_inlined}
use Rattle.r_inline.proofs.Body.{is-body}
use Rattle.r_inline.proofs.Kept.{applies-parts, inline_is_a_step}

pub body-closed : (n : ℕ) (callee l : PlainLambda) → IsWellFormed callee → applies l n callee ≡ true → IsClosed callee.body
body-closed n callee l well e = region-closed 0 callee.body ((is-body callee well (applies-parts n callee l e).none).fits 0)

-- the changed lambda with the number after the copy's
pub inline-is : (n : ℕ) (callee l k : PlainLambda) (copy : RegionTree) (next : ℕ) → copy ≡ region_numbered l.next callee.body → next ≡ l.next + node_count callee.body →
    k ≡ lambda_changed (λ r. option_map (λ inputs. region_spliced n (region_redirected (args_to_inputs inputs) copy) r) (call_at n callee r)) l →
    record k { next = next } ≡ lambda_inlined n callee l
inline-is n callee l k copy next e f g =
    ap₂ (λ (m : PlainLambda) t. record m { next = t })
    (g ∙ ap (λ c. lambda_changed (λ r. option_map (λ inputs. region_spliced n (region_redirected (args_to_inputs inputs) c) r) (call_at n callee r)) l) e) f

pub inline-step : (n : ℕ) (callee l k : PlainLambda) (next : ℕ) → IsWellFormed callee → IsWellFormed l → applies l n callee ≡ true →
    record k { next = next } ≡ lambda_inlined n callee l → MayStandFor (callee ∷ []) l (record k { next = next })
inline-step n callee l k next known well e is = subst (MayStandFor (callee ∷ []) l) (sym is) (inline_is_a_step n callee l known well e)
