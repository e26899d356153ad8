-- Two lists that steps make at the same functions, whose deps are among them, agree there.
use Rattle.std.proofs.Common.{◌≡◌, ◌<◌, ℕ, zero, suc, List, [], ◌∷◌, length, slice_get, slice_index, slice_index_or, Contains, refl, sym, ap, ◌∙◌, arith}
use Rattle.std.specs.Prelude.{unwrap_or}
use Rattle.std.proofs.lemmas.List.{ext_get_or}
use Rattle.std.proofs.lemmas.Option.{unwrap_or-slice_get}
use Rattle.r_rule.specs.declared.steps.Step.{Step}
use Rattle.g_graph.specs.Plain.{PlainLambda}
use Rattle.g_pass_order.specs.Calls.{no_lambda}
use Rattle.g_pass_order.specs.Laws.{IsRankedOrder, OrdersAreRanked, OrdersAreUnique}
use Rattle.g_pass_def.specs.Sweep.{RuleTable, replayed}
use Rattle.g_pass_def.specs.Answers.{lambda_of}
use Rattle.g_pass_def.specs.Replayed.{lambdas_at, IsReplayed}
use Rattle.g_pass_def.specs.Laws.{ReplayedAreUnique}

pub same-at : (ks js : List PlainLambda) (ds : List ℕ) → ((d : ℕ) → Contains ds d → lambda_of ks d ≡ lambda_of js d) → lambdas_at ks ds ≡ lambdas_at js ds
same-at ks js [] same = refl
same-at ks js (d ∷ ds) same =
    ap (λ k. k ∷ lambdas_at ks ds) (same d (0, omega arith, refl))
    ∙ ap (λ rest. lambda_of js d ∷ rest) (same-at ks js ds (λ e h. same e (suc h.0, omega (arith, h.1), h.2)))

module _ (t : RuleTable) (ls : List PlainLambda) (ranks : List ℕ) (deps : List (List ℕ)) (steps : List (List Step)) (ranked : IsRankedOrder ls ranks deps) (ks js : List PlainLambda)
    (Among : ℕ → Type 0)
    (closed : (j d : ℕ) → Among j → Contains (slice_index_or deps j []) d → Among d) (one : (j : ℕ) → Among j → IsReplayed t ls deps steps ks j)
    (other : (j : ℕ) → Among j → IsReplayed t ls deps steps js j) where
  same-below : (bound j : ℕ) → slice_index ranks j < bound → Among j → slice_get ks j ≡ slice_get js j
  same-below zero j low among = absurd (omega (arith, low))
  same-below (suc bound) j low among =
      let callees : lambdas_at ks (slice_index_or deps j []) ≡ lambdas_at js (slice_index_or deps j []) =
      same-at ks js (slice_index_or deps j [])
      (λ d h. ap (λ o. unwrap_or o no_lambda) (same-below bound d (omega (arith, low, (ranked.dep j d h).smaller)) (closed j d among h))) in
      sym (one j among) ∙ (ap (λ held. replayed t held (slice_index_or steps j []) (lambda_of ls j)) callees ∙ other j among)

  pub same-replayed : (j : ℕ) → Among j → slice_get ks j ≡ slice_get js j
  same-replayed j among = same-below (suc (slice_index ranks j)) j (omega arith) among

pub replayed_are_unique : OrdersAreRanked → OrdersAreUnique → ReplayedAreUnique
replayed_are_unique is_ranked is_unique t ls steps ks js one other =
    let order = is_unique ls one.ranks other.ranks one.deps other.deps one.order other.order in
    let ranked = is_ranked ls one.ranks one.deps one.order in
    ext_get_or no_lambda ks js (one.count ∙ sym other.count)
    (λ j h.
    sym (unwrap_or-slice_get ks j no_lambda)
    ∙ (ap (λ o. unwrap_or o no_lambda)
    (same-replayed t ls one.ranks one.deps steps ranked ks js (λ f. f < length ls) (λ f d among dep. (ranked.dep f d dep).known) one.each
    (λ f among. ap (λ ds. replayed t (lambdas_at js (slice_index_or ds f [])) (slice_index_or steps f []) (lambda_of ls f)) order.1 ∙ other.each f among) j
    (omega (arith, h, one.count)))
    ∙ unwrap_or-slice_get js j no_lambda))
