-- Each rule keeps meaning at twice the bound and two more.
use Rattle.std.specs.Prelude.{◌+◌, ◌^◌, ◌==◌, ◌-◌, ◌&&◌, nat_le, if◌then◌else◌, is_some, option_map, unwrap_or, slice_set}
use Rattle.std.proofs.Common.{◌≡◌, ℕ, Bool, true, false, List, [], ◌∷◌, length, Option, Some, None, slice_get, refl, sym, ap, subst, ◌∙◌, arith}
use Rattle.std.proofs.lemmas.Bool.{and_parts}
use Rattle.std.proofs.lemmas.Bool.Decides.{nat_tests}
use Rattle.std.proofs.lemmas.Option.{none-some, same_Some}
use Rattle.std.specs.List.{AllByRecursion}
use Rattle.base.specs.Limits.{most_callee_values}
use Rattle.r_rule.specs.declared.steps.Rule.{Rule}
use Rattle.r_rule.specs.declared.steps.Rule.TheVariants.{Fold, Cne, Dne, Inv, Push, Pull, Invert, Unroll, Inline}
use Rattle.g_graph.specs.Change.{region_changed}
use Rattle.g_graph.specs.Count.{nodes_values}
use Rattle.g_graph.specs.Plain.{RegionTree, PlainObject, PlainLambda, nodes_in}
use Rattle.g_graph.specs.Program.{lambda_values}
use Rattle.g_graph.specs.WellFormed.{IsWellFormed}
use Rattle.g_mean.specs.Edits.{IsEdited, IsPartOf}
use Rattle.g_mean.specs.Refining.{LambdasSameBut}
use Rattle.g_mean.specs.Replacement.{Replaces, FunctionsKeepMeaning, ProgramKeepsMeaning}
use Rattle.g_mean.proofs.lemmas.Edits.{edits_replace}
use Rattle.g_mean.proofs.lemmas.Exchange.{set-edited}
use Rattle.g_mean.proofs.lemmas.Programs.{programs_keep_meaning}
use Rattle.g_mean.proofs.lemmas.Replacement.{lambdas_keep_meaning}
use Rattle.r_edit.specs.Size.{may_change_size}
use Rattle.r_edit.specs.Steps.{HasEach}
use Rattle.r_edit.specs.Numbering.{node_count}
use Rattle.r_fold.specs.Laws.{FoldReplaces}
use Rattle.r_fold.specs.Rule.{fold_here}
use Rattle.r_cne.specs.Laws.{CneReplaces}
use Rattle.r_cne.specs.Rule.{cne_here}
use Rattle.r_dne.specs.Laws.{DneReplaces}
use Rattle.r_dne.specs.Rule.{dne_here}
use Rattle.r_inv.specs.Laws.{InvReplaces}
use Rattle.r_inv.specs.Rule.{inv_here}
use Rattle.r_push.specs.Laws.{PushReplaces}
use Rattle.r_push.specs.Rule.{push_here}
use Rattle.r_pull.specs.Laws.{PullReplaces}
use Rattle.r_pull.specs.Rule.{pull_here}
use Rattle.r_unroll.specs.Laws.{UnrollReplaces}
use Rattle.r_unroll.specs.Rule.{unroll_here}
use Rattle.r_invert.specs.Laws.{InvertReplaces}
use Rattle.r_invert.specs.Rule.{invert_here, body_inverted, with_body, lambda_inverted}
use Rattle.r_inline.specs.Laws.{InlineReplaces}
use Rattle.r_inline.specs.Rule as inline_rule
use Rattle.r_inline.specs.Callees.{inlined_at}
use Rattle.g_pass.specs.Sweep.{applies, applied}
use Rattle.g_pass.proofs.InlinedSteps.{numbered_all, numbered_there, is_inlined}
use Rattle.g_pass.specs.MeaningLaws.{RulesKeepMeaning}

-- ---- one lambda of a list

abbrev Keeps : (ls : List PlainLambda) (f : ℕ) (k : PlainLambda) → Type 0
Keeps ls f k = FunctionsKeepMeaning ls (slice_set ls f k) × ProgramKeepsMeaning ls (slice_set ls f k)

edited-keeps : (here : RegionTree → Option RegionTree) (ls : List PlainLambda) (f : ℕ) (l k : PlainLambda) → IsWellFormed l → slice_get ls f ≡ Some l → IsEdited here l k →
    ((r s : RegionTree) → IsPartOf l r → here r ≡ Some s → Replaces ls (slice_set ls f k) r s) → Keeps ls f k
edited-keeps here ls f l k well at edited replaces = (lambdas_keep_meaning ls (slice_set ls f k) same, programs_keep_meaning ls (slice_set ls f k) same)
  where
    same : LambdasSameBut (Replaces ls (slice_set ls f k)) ls (slice_set ls f k)
    same =
        edits_replace ls (slice_set ls f k) here f (set-edited here l k edited ls f at)
        (λ j q. subst IsWellFormed (same_Some l j (sym at ∙ q)) well)
        (λ j r s q part d. replaces r s (subst (λ m. IsPartOf m r) (same_Some j l (sym q ∙ at)) part) d)

-- a rule that looks at its lambda alone
alone : (rule : Rule) (here : RegionTree → Option RegionTree) (ls : List PlainLambda) (n f : ℕ) (l k : PlainLambda) → IsWellFormed l → slice_get ls f ≡ Some l → IsEdited here l (applied rule n l) →
    ((ks : List PlainLambda) (r s : RegionTree) → IsPartOf l r → here r ≡ Some s → Replaces ls ks r s) → (if applies rule l n then Some (applied rule n l) else None) ≡ Some k → Keeps ls f k
alone rule here ls n f l k well at edited replaces e = by (applies rule l n) e
  where
    by : (t : Bool) → (if t then Some (applied rule n l) else None) ≡ Some k → Keeps ls f k
    by true d =
        subst (λ (j : PlainLambda). Keeps ls f j) (same_Some (applied rule n l) k d)
        (edited-keeps here ls f l (applied rule n l) well at edited (replaces (slice_set ls f (applied rule n l))))
    by false d = absurd (none-some k d)

-- ---- inversion

inverted-edited : (n : ℕ) (l : PlainLambda) → IsEdited (invert_here (lambda_values l) l.next n) l (lambda_inverted n l)
inverted-edited n l = by (body_inverted n l) refl
  where
    by : (found : Option RegionTree) → body_inverted n l ≡ found → IsEdited (invert_here (lambda_values l) l.next n) l (unwrap_or (option_map (with_body l) found) l)
    by None e = record { number = refl; params = refl; objects = refl; body = ap (λ o. unwrap_or o l.body) (sym e) }
    by (Some s) e = record { number = refl; params = refl; objects = refl; body = ap (λ o. unwrap_or o l.body) (sym e) }

-- ---- inlining

none-there : (os : List PlainObject) → (length os == 0) ≡ true → os ≡ []
none-there [] e = refl
none-there (o ∷ os) e = absurd (grind (arith, nat_tests))

no-objects : (n : ℕ) (c l : PlainLambda) → inline_rule.applies l n c ≡ true → c.objects ≡ []
no-objects n c l e =
    let objects = length c.objects == 0 in
    let small = nat_le (lambda_values c) most_callee_values in
    let numbers = nat_le (l.next + node_count c.body) (2 ^ 32 - 1) in
    let may = and_parts (inline_rule.may_inline (lambda_values l) l.next c) (is_some (region_changed (inline_rule.inline_here l.next n c) l.body)) e in
    let most = and_parts (objects && small && numbers) (may_change_size (lambda_values l) (nodes_values (nodes_in c.body)) inline_rule.call_values) may.0 in
    none-there c.objects (and_parts objects small (and_parts (objects && small) numbers most.0).0).0

inlined-keeps : InlineReplaces → (held ls : List PlainLambda) (n f : ℕ) (l k : PlainLambda) → IsWellFormed l → AllByRecursion IsWellFormed held → HasEach held ls → slice_get ls f ≡ Some l →
    option_map (λ c. inline_rule.lambda_inlined n c l) (inlined_at held n l) ≡ Some k → Keeps ls f k
inlined-keeps inline held ls n f l k well all each at e =
    let one = is_inlined held n l k e in
    let c = one.callee in
    let known = numbered_all IsWellFormed one.number held c one.found all in
    let there = numbered_there ls one.number held c one.found each in
    subst (λ (j : PlainLambda). Keeps ls f j) one.is
    (edited-keeps (inline_rule.inline_here l.next n c) ls f l (inline_rule.lambda_inlined n c l) well at (record { number = refl; params = refl; objects = refl; body = refl })
    (λ r s part d. inline ls (slice_set ls f (inline_rule.lambda_inlined n c l)) n c l r s known (no-objects n c l one.can) there part d))

-- ---- the rules

module _ (fold : FoldReplaces) (cne : CneReplaces) (dne : DneReplaces) (inv : InvReplaces) (push : PushReplaces) (pull : PullReplaces) (invert_replaces : InvertReplaces) (unroll : UnrollReplaces)
    (inline : InlineReplaces) where
  pub rules_keep_meaning : RulesKeepMeaning
  rules_keep_meaning Fold held ls n f l k well all each at e =
      alone Fold (fold_here n) ls n f l k well at (record { number = refl; params = refl; objects = refl; body = refl }) (λ ks r s part d. fold ls ks n l r s part d) e
  rules_keep_meaning Cne held ls n f l k well all each at e =
      alone Cne (cne_here n) ls n f l k well at (record { number = refl; params = refl; objects = refl; body = refl }) (λ ks r s part d. cne ls ks n l r s part d) e
  rules_keep_meaning Dne held ls n f l k well all each at e =
      alone Dne (dne_here n) ls n f l k well at (record { number = refl; params = refl; objects = refl; body = refl }) (λ ks r s part d. dne ls ks n l r s part d) e
  rules_keep_meaning Inv held ls n f l k well all each at e =
      alone Inv (inv_here n) ls n f l k well at (record { number = refl; params = refl; objects = refl; body = refl }) (λ ks r s part d. inv ls ks n l r s part d) e
  rules_keep_meaning Push held ls n f l k well all each at e =
      alone Push (push_here (lambda_values l) n) ls n f l k well at (record { number = refl; params = refl; objects = refl; body = refl }) (λ ks r s part d. push ls ks (lambda_values l) n l r s part d) e
  rules_keep_meaning Pull held ls n f l k well all each at e =
      alone Pull (pull_here (lambda_values l) l.next n) ls n f l k well at (record { number = refl; params = refl; objects = refl; body = refl }) (λ ks r s part d. pull ls ks (lambda_values l) n l r s part d) e
  rules_keep_meaning Invert held ls n f l k well all each at e =
      alone Invert (invert_here (lambda_values l) l.next n) ls n f l k well at (inverted-edited n l) (λ ks r s part d. invert_replaces ls ks (lambda_values l) n l r s part d) e
  rules_keep_meaning Unroll held ls n f l k well all each at e =
      alone Unroll (unroll_here (lambda_values l) l.next n) ls n f l k well at (record { number = refl; params = refl; objects = refl; body = refl }) (λ ks r s part d. unroll ls ks (lambda_values l) l.next n l r s part d) e
  rules_keep_meaning Inline held ls n f l k well all each at e = inlined-keeps inline held ls n f l k well all each at e
