-- The changed lambda is the rule's.
use Rattle.std.specs.Prelude.{◌^◌, ◌<◌, option_and_then, is_some, unwrap_or}
use Rattle.std.proofs.Common.{◌≡◌, ℕ, ◌+◌, true, length, Option, None, Some, option_map, refl, sym, ap, subst, ◌∙◌}
use Rattle.g_graph.specs.Plain.{RegionTree, NodeTree, PlainLambda}
use Rattle.g_graph.specs.Change.{region_changed, lambda_changed}
use Rattle.g_graph.specs.Count.{saturated}
use Rattle.g_graph.specs.Ids.{region_ids}
use Rattle.g_graph.specs.Program.{lambda_values}
use Rattle.g_graph.specs.WellFormed.{IsWellFormed}
use Rattle.r_edit.specs.Found.{region_found}
use Rattle.r_invert.specs.Edit.{IsMade, loop_at, loop_part, placed_at, new_in}
use Rattle.r_invert.specs.Rule.{invert_here, body_inverted, applies, with_body, lambda_inverted}
use Rattle.r_invert.proofs.Counted.{invert-same, at-same}
use Rattle.r_invert.proofs.Fits.{changed-next, body-sound}
use Rattle.r_invert.proofs.Found.{found-made, found-some, placed-changes}

pub lambda-made : (values n : ℕ) (l : PlainLambda) (x : NodeTree) → IsWellFormed l → region_found (loop_at values l.next n) l.body ≡ Some x → IsMade l.next x
lambda-made values n l x w e = let s = body-sound l w in found-made (length l.objects) values l.next n l.body x s.0 s.1 e

pub applies-finds : (v n : ℕ) (l : PlainLambda) → v ≡ saturated (lambda_values l) → applies l n ≡ true → is_some (region_found (loop_at v l.next n) l.body) ≡ true
applies-finds v n l e a =
    ap (λ h. is_some (region_found h l.body)) (ap (λ u. loop_at u l.next n) e ∙ at-same (lambda_values l) l.next n) ∙ found-some (lambda_values l) l.next n l.body a

-- the body that comes
pub record Body (v n : ℕ) (l : PlainLambda) (part : RegionTree) : Type 0 where
  pub now : RegionTree
  pub is : lambda_inverted n l ≡ with_body l now
  pub made : lambda_changed (placed_at v l.next n part) l ≡ record l { body = now }
  pub room : l.next + new_in l.next (region_ids now) < 2 ^ 32

pub body-is : (v n : ℕ) (l : PlainLambda) (part : RegionTree) → v ≡ saturated (lambda_values l) → IsWellFormed l →
    option_and_then (loop_part l.next) (region_found (loop_at v l.next n) l.body) ≡ Some part → Body v n l part
body-is v n l part e w f = by (region_found (loop_at v l.next n) l.body) refl f
  where
    by : (o : Option NodeTree) → region_found (loop_at v l.next n) l.body ≡ o → option_and_then (loop_part l.next) o ≡ Some part → Body v n l part
    by None d g = absurd cc
    by (Some y) d g =
        let c = placed-changes v l.next n y part g l.body d in
        let same : invert_here v l.next n ≡ invert_here (lambda_values l) l.next n = ap (λ u. invert_here u l.next n) e ∙ invert-same (lambda_values l) l.next n in
        let changed : body_inverted n l ≡ Some c.0 = ap (λ h. region_changed h l.body) (sym same) ∙ c.1 in
        record {
          now = c.0;
          is = ap (λ o. unwrap_or (option_map (with_body l) o) l) changed;
          made = ap (λ o. record l { body = unwrap_or o l.body }) c.2;
          room = changed-next (lambda_values l) n l w c.0 changed;
        }

module _ (v n : ℕ) (l : PlainLambda) (part : RegionTree) (b : Body v n l part) (k : PlainLambda) (m : ℕ) (is : k ≡ lambda_changed (placed_at v m n part) l) (same : m ≡ l.next) where
  now-is : k ≡ record l { body = b.now }
  now-is = is ∙ ap (λ t. lambda_changed (placed_at v t n part) l) same ∙ b.made

  next-is : m + new_in m (region_ids k.body) ≡ l.next + new_in l.next (region_ids b.now)
  next-is = λ i. same i + new_in (same i) (region_ids (now-is i).body)

  pub next-fits : m + new_in m (region_ids k.body) < 2 ^ 32
  next-fits = subst (λ t. t < 2 ^ 32) (sym next-is) b.room

  pub invert-is : (next : ℕ) → next ≡ m + new_in m (region_ids k.body) → record k { next = next } ≡ lambda_inverted n l
  invert-is next e = (λ i. record (now-is i) { next = next }) ∙ ap (λ t. record l { body = b.now; next = t }) (e ∙ next-is) ∙ sym b.is
