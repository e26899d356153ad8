-- The next number of a lambda has 32 bits where a rule has changed it.
use Rattle.std.specs.Prelude.{nat_le, is_some, option_map, option_and_then, if◌then◌else◌}
use Rattle.std.proofs.Common.{◌≡◌, ◌+◌, ◌-◌, ◌^◌, ℕ, Bool, true, false, List, Option, None, Some, refl, subst}
use Rattle.std.proofs.lemmas.Bool.{and_parts}
use Rattle.std.proofs.lemmas.Option.{none-some, same_Some}
use Rattle.r_rule.specs.declared.steps.Rule.TheVariants.{Fold, Cne, Dne, Inv, Push, Pull, Invert, Unroll, Inline}
use Rattle.g_graph.specs.Plain.{PlainLambda, nodes_in}
use Rattle.g_graph.specs.Change.{region_changed}
use Rattle.g_graph.specs.Count.{nodes_values}
use Rattle.g_graph.specs.Program.{lambda_values}
use Rattle.r_edit.specs.Size.{may_change_size}
use Rattle.r_edit.specs.Numbering.{node_count}
use Rattle.r_inline.specs.Called.{called_at}
use Rattle.r_inline.specs.Rule as inline_rule
use Rattle.r_invert.specs.Rule.{body_inverted}
use Rattle.r_pull.specs.Rule.{copies_at}
use Rattle.r_unroll.specs.Rule.{body_unrolled}
use Rattle.g_pass.specs.Sweep.{applies, applied}
use Rattle.r_inline.specs.Callees.{numbered}
use Rattle.g_pass.specs.StepLaws.{HasNumbers, RulesKeepNumbers}
use Rattle.g_pass.proofs.Pulled.{has_room, pulled_next}
use Rattle.g_pass.proofs.Unrolled.{unrolled_next}
use Rattle.g_pass.proofs.Inverted.{inverted_next}

-- where a test holds, the lambda is the changed one
where_it_applies : (test : Bool) (x k : PlainLambda) → (test ≡ true → HasNumbers x) → (if test then Some x else None) ≡ Some k → HasNumbers k
where_it_applies true x k has e = subst HasNumbers (same_Some x k e) (has refl)
where_it_applies false x k has e = absurd (none-some k e)

-- what a test says that there is
there : {X : Type 0} → (o : Option X) → is_some o ≡ true → (x : X) × (o ≡ Some x)
there None e = absurd cc
there (Some x) e = (x, refl)

-- ---- inlining

inlined_next : (n : ℕ) (l c : PlainLambda) → inline_rule.applies l n c ≡ true → HasNumbers (inline_rule.lambda_inlined n c l)
inlined_next n l c t =
    let may = (and_parts (inline_rule.may_inline (lambda_values l) l.next c) (is_some (region_changed (inline_rule.inline_here l.next n c) l.body)) t).0 in
    let numbers =
    (and_parts _ (nat_le (l.next + node_count c.body) (2 ^ 32 - 1))
    (and_parts _ (may_change_size (lambda_values l) (nodes_values (nodes_in c.body)) inline_rule.call_values) may).0).1 in
    has_room (l.next + node_count c.body) numbers

by_callee : (n : ℕ) (l k : PlainLambda) (found : Option PlainLambda) →
    option_map (λ c. inline_rule.lambda_inlined n c l) (option_and_then (λ c. if inline_rule.applies l n c then Some c else None) found) ≡ Some k → HasNumbers k
by_callee n l k None e = absurd (none-some k e)
by_callee n l k (Some c) e = by (inline_rule.applies l n c) refl e
  where
    by : (t : Bool) → inline_rule.applies l n c ≡ t → option_map (λ d. inline_rule.lambda_inlined n d l) (if t then Some c else None) ≡ Some k → HasNumbers k
    by true t e = subst HasNumbers (same_Some (inline_rule.lambda_inlined n c l) k e) (inlined_next n l c t)
    by false t e = absurd (none-some k e)

by_call : (callees : List PlainLambda) (n : ℕ) (l k : PlainLambda) (called : Option ℕ) →
    option_map (λ c. inline_rule.lambda_inlined n c l)
    (option_and_then (λ f. option_and_then (λ c. if inline_rule.applies l n c then Some c else None) (numbered f callees)) called) ≡ Some k → HasNumbers k
by_call callees n l k None e = absurd (none-some k e)
by_call callees n l k (Some f) e = by_callee n l k (numbered f callees) e

-- ---- all rules

pub rules_keep_numbers : RulesKeepNumbers
rules_keep_numbers Fold callees n l k w has e = where_it_applies (applies Fold l n) (applied Fold n l) k (λ t. has) e
rules_keep_numbers Cne callees n l k w has e = where_it_applies (applies Cne l n) (applied Cne n l) k (λ t. has) e
rules_keep_numbers Dne callees n l k w has e = where_it_applies (applies Dne l n) (applied Dne n l) k (λ t. has) e
rules_keep_numbers Inv callees n l k w has e = where_it_applies (applies Inv l n) (applied Inv n l) k (λ t. has) e
rules_keep_numbers Push callees n l k w has e = where_it_applies (applies Push l n) (applied Push n l) k (λ t. has) e
rules_keep_numbers Pull callees n l k w has e =
    where_it_applies (applies Pull l n) (applied Pull n l) k (λ t. let c = there (copies_at l n) t in pulled_next n l c.0 c.1) e
rules_keep_numbers Invert callees n l k w has e =
    where_it_applies (applies Invert l n) (applied Invert n l) k (λ t. let c = there (body_inverted n l) t in inverted_next n l w c.0 c.1) e
rules_keep_numbers Unroll callees n l k w has e =
    where_it_applies (applies Unroll l n) (applied Unroll n l) k (λ t. let c = there (body_unrolled n l) t in unrolled_next n l w c.0 c.1) e
rules_keep_numbers Inline callees n l k w has e = by_call callees n l k (called_at n l) e
