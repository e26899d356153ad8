-- Sweeps made at once, as sweeps of the table.
use Rattle.std.proofs.Common.{◌≡◌, ◌++◌, ℕ, Bool, true, false, List, [], ◌∷◌, length, take, Result, Ok, Err, IfOk, OnOk, OnErr, IsTrue, refl, sym, ap, subst, ◌∙◌}
use Rattle.std.specs.Prelude.{if◌then◌else◌}
use Rattle.std.specs.List.{fold}
use Rattle.std.proofs.Math.Seq.{take-append_seam}
use Rattle.r_rule.specs.declared.steps.Rule.{Rule}
use Rattle.r_rule.specs.declared.steps.Rule.TheVariants.{Fold, Cne, Dne, Inv, Push, Pull, Invert, Unroll, Inline}
use Rattle.r_rule.specs.declared.steps.Step.{Step}
use Rattle.g_graph.specs.Plain.{PlainLambda}
use Rattle.g_graph.specs.Ids.{region_ids}
use Rattle.g_graph.specs.WellFormed.{IsWellFormed}
use Rattle.g_arena_def.specs.Flat.{Flat}
use Rattle.g_pass_def.specs.Sweep.{sweep, in_order}
use Rattle.r_sweep_def.specs.Swept.{Logged, Change, tried_by, swept_by}
use Rattle.r_sweep.specs.Fast.{HasSwept}
use Rattle.g_pass.specs.Fast.{is_in_arena, RulesKeep, change_of, swept_with, swept_each, AreInArena, AreSwept}
use Rattle.g_pass.specs.Sweep.{applies, applied, rules}
use Rattle.r_fold.specs.Laws.{FoldIsAStep}
use Rattle.r_cne.specs.Laws.{CneIsAStep}
use Rattle.r_dne.specs.Laws.{DneIsAStep}
use Rattle.r_inv.specs.Laws.{InvIsAStep}
use Rattle.r_push.specs.Laws.{PushIsAStep}
use Rattle.r_pull.specs.Laws.{PullIsAStep}
use Rattle.r_unroll.specs.Laws.{UnrollIsAStep}
use Rattle.r_invert.specs.Laws.{InvertIsAStep}
use Rattle.r_inline.specs.Callees.{inline_change}
use Rattle.g_pass.proofs.Folds.{sweeps_are_folds, inline_sweeps_are_folds}

abbrev pub logged : PlainLambda → List Step → Logged
logged l steps = record { lambda = l; steps = steps }

is_no_truth : {A : Type 0} → false ≡ true → A
is_no_truth e = absurd cc

pub rules_keep : FoldIsAStep → CneIsAStep → DneIsAStep → InvIsAStep → PushIsAStep → PullIsAStep → UnrollIsAStep → InvertIsAStep → RulesKeep
rules_keep fold cne dne inv push pull unroll invert Cne n l well = (cne [] n l well).well_formed
rules_keep fold cne dne inv push pull unroll invert Dne n l well = (dne [] n l well).well_formed
rules_keep fold cne dne inv push pull unroll invert Inv n l well = (inv [] n l well).well_formed
rules_keep fold cne dne inv push pull unroll invert Fold n l well = (fold [] n l well).well_formed
rules_keep fold cne dne inv push pull unroll invert Push n l well = (push [] n l well).well_formed
rules_keep fold cne dne inv push pull unroll invert Pull n l well = (pull [] n l well).well_formed
rules_keep fold cne dne inv push pull unroll invert Invert n l well = (invert [] n l well).well_formed
rules_keep fold cne dne inv push pull unroll invert Unroll n l well = (unroll [] n l well).well_formed
rules_keep fold cne dne inv push pull unroll invert Inline n l well = well

-- ---- a sweep keeps a lambda well formed, and what the log had

module _ (r : Rule) (keep : RulesKeep) where
  one_keeps : (n : ℕ) (s : Logged) → IsWellFormed s.lambda → IsWellFormed (tried_by (change_of r) s n).lambda
  one_keeps n s well = by (applies r s.lambda n)
    where
      by : (t : Bool) → IsWellFormed (if t then record { lambda = applied r n s.lambda; steps = s.steps ++ record { rule = r; node = n } ∷ [] } else s).lambda
      by true = keep r n s.lambda well
      by false = well

  pub sweeps_keep : (ns : List ℕ) (s : Logged) → IsWellFormed s.lambda → IsWellFormed (swept_by (change_of r) ns s).lambda
  sweeps_keep [] s well = well
  sweeps_keep (n ∷ ns) s well = sweeps_keep ns (tried_by (change_of r) s n) (one_keeps n s well)

none_more : (xs : List Step) → xs ≡ xs ++ []
none_more [] = refl
none_more (x ∷ xs) = ap (λ ys. x ∷ ys) (none_more xs)

and_more : (xs ys zs : List Step) → (xs ++ ys) ++ zs ≡ xs ++ (ys ++ zs)
and_more [] ys zs = refl
and_more (x ∷ xs) ys zs = ap (λ ws. x ∷ ws) (and_more xs ys zs)

abbrev pub HasAdded : (before after : List Step) → Type 0
HasAdded before after = (added : List Step) × (after ≡ before ++ added)

one_adds : (c : Change) (n : ℕ) (s : Logged) → HasAdded s.steps (tried_by c s n).steps
one_adds c n s = by (c.applies s.lambda n)
  where
    by : (t : Bool) → HasAdded s.steps (if t then record { lambda = c.changed n s.lambda; steps = s.steps ++ record { rule = c.rule; node = n } ∷ [] } else s).steps
    by true = (record { rule = c.rule; node = n } ∷ [], refl)
    by false = ([], none_more s.steps)

pub sweeps_add : (c : Change) (ns : List ℕ) (s : Logged) → HasAdded s.steps (swept_by c ns s).steps
sweeps_add c [] s = ([], none_more s.steps)
sweeps_add c (n ∷ ns) s =
    let first = one_adds c n s in
    let rest = sweeps_add c ns (tried_by c s n) in
    (first.0 ++ rest.0, rest.1 ∙ ap (λ xs. xs ++ rest.0) first.1 ∙ and_more s.steps first.0 rest.0)

pub has_added : (c : Change) (ns : List ℕ) (l : PlainLambda) (before after : List Step) (a : Flat) → HasSwept c ns l before a after → HasAdded before after
has_added c ns l before after a h = let m = sweeps_add c ns (logged l before) in (m.0, h.1 ∙ m.1)

-- sweeps one after the other
pub each_keeps : (keep : RulesKeep) (rs : List Rule) (s : Logged) → IsWellFormed s.lambda → IsWellFormed (swept_each rs s).lambda
each_keeps keep [] s well = well
each_keeps keep (r ∷ rs) s well = each_keeps keep rs (swept_with s r) (sweeps_keep r keep (in_order rules r (region_ids s.lambda.body)) s well)

each_add : (rs : List Rule) (s : Logged) → HasAdded s.steps (swept_each rs s).steps
each_add [] s = ([], none_more s.steps)
each_add (r ∷ rs) s =
    let first = sweeps_add (change_of r) (in_order rules r (region_ids s.lambda.body)) s in
    let rest = each_add rs (swept_with s r) in
    (first.0 ++ rest.0, rest.1 ∙ ap (λ xs. xs ++ rest.0) first.1 ∙ and_more s.steps first.0 rest.0)

pub each_has_added : (rs : List Rule) (l : PlainLambda) (before after : List Step) (a : Flat) → AreSwept rs l before a after → HasAdded before after
each_has_added rs l before after a h = let m = each_add rs (logged l before) in (m.0, h.1 ∙ m.1)

pub added_then : {A B : Type 0} (x : Result A B) (before now after : List Step) → HasAdded before now → OnErr x (HasAdded now after) → OnErr x (HasAdded before after)
added_then (Ok v) before now after m n = tt
added_then (Err v) before now after m n = (m.0 ++ n.0, n.1 ∙ ap (λ xs. xs ++ n.0) m.1 ∙ and_more before m.0 n.0)

pub swept_then : {A B : Type 0} (x : Result A B) (r : Rule) (rs ss : List Rule) (l : PlainLambda) (before now after : List Step) (a : Flat) → ss ≡ r ∷ rs →
    now ≡ (swept_with (logged l before) r).steps → OnOk x (AreSwept rs (swept_with (logged l before) r).lambda now a after) → OnOk x (AreSwept ss l before a after)
swept_then x r rs ss l before now after a e f h =
    subst (λ q. OnOk x (AreSwept q l before a after)) (sym e) (subst (λ q. OnOk x (AreSwept rs (swept_with (logged l before) r).lambda q a after)) f h)

pub later_in_arena : (r : Rule) (rs ss : List Rule) → ss ≡ r ∷ rs → AreInArena ss → AreInArena rs
later_in_arena r rs ss e h = (subst AreInArena e h).1

-- a log that has gained steps, cut back
pub cut_back : (before after now : List Step) (n : ℕ) → HasAdded before after → n ≡ length before → now ≡ take n after → now ≡ before
cut_back before after now n h e f = f ∙ ap (λ k. take k after) e ∙ ap (take (length before)) h.1 ∙ take-append_seam before h.0

-- ---- a sweep over an arena

pub on_ok : {A B P : Type 0} (x : Result A B) (v : A) → x ≡ Ok v → OnOk x P → P
on_ok {A} {B} {P} x v e h = subst (λ (y : Result A B). OnOk y P) e h

pub at_err : {A B P : Type 0} (x : Result A B) (v : B) → x ≡ Err v → OnErr x P → P
at_err {A} {B} {P} x v e h = subst (λ (y : Result A B). OnErr y P) e h

pub of_rule_ok : {A B : Type 0} (x : Result A B) (r s : Rule) (l : PlainLambda) (before after : List Step) (a : Flat) → r ≡ s →
    OnOk x (HasSwept (change_of s) (in_order rules s (region_ids l.body)) l before a after) → OnOk x (HasSwept (change_of r) (in_order rules r (region_ids l.body)) l before a after)
of_rule_ok x r s l before after a e h = subst (λ q. OnOk x (HasSwept (change_of q) (in_order rules q (region_ids l.body)) l before a after)) (sym e) h

pub of_rule_err : {A B : Type 0} (x : Result A B) (r s : Rule) (l : PlainLambda) (before after : List Step) (a : Flat) → r ≡ s →
    OnErr x ((count : ℕ) × HasSwept (change_of s) (take count (in_order rules s (region_ids l.body))) l before a after) →
    OnErr x ((count : ℕ) × HasSwept (change_of r) (take count (in_order rules r (region_ids l.body))) l before a after)
of_rule_err x r s l before after a e h =
    subst (λ q. OnErr x ((count : ℕ) × HasSwept (change_of q) (take count (in_order rules q (region_ids l.body))) l before a after)) (sym e) h

-- ---- as a sweep of the table

-- no rule that is swept over an arena looks at callees
pub not_inline : (r : Rule) → IsTrue (is_in_arena r) → r ≡ Inline → ⊥
not_inline r in_arena e = is_no_truth (subst (λ q. IsTrue (is_in_arena q)) e in_arena)

pub is_sweep : (r : Rule) (callees : List PlainLambda) (l k : PlainLambda) (before after : List Step) → (r ≡ Inline → ⊥) →
    logged k after ≡ swept_by (change_of r) (in_order rules r (region_ids l.body)) (logged l before) →
    record { lambda = k; steps = after } ≡ sweep rules callees (record { lambda = l; steps = before }) r
is_sweep r callees l k before after alone e =
    (λ i. record { lambda = (e i).lambda; steps = (e i).steps }) ∙ sym (sweeps_are_folds r alone callees l before)

pub is_sweep_of_calls : (callees : List PlainLambda) (l k : PlainLambda) (before after : List Step) →
    logged k after ≡ swept_by (inline_change callees) (region_ids l.body) (logged l before) →
    record { lambda = k; steps = after } ≡ sweep rules callees (record { lambda = l; steps = before }) Inline
is_sweep_of_calls callees l k before after e =
    (λ i. record { lambda = (e i).lambda; steps = (e i).steps }) ∙ sym (inline_sweeps_are_folds callees l before)

-- sweeps over one arena are the table's
pub each_is_sweep : (callees : List PlainLambda) (rs : List Rule) → AreInArena rs → (l : PlainLambda) (steps : List Step) →
    let s = swept_each rs (logged l steps) in record { lambda = s.lambda; steps = s.steps } ≡ fold (sweep rules callees) (record { lambda = l; steps = steps }) rs
each_is_sweep callees [] h l steps = refl
each_is_sweep callees (r ∷ rs) h l steps =
    let s = swept_with (logged l steps) r in
    each_is_sweep callees rs h.1 s.lambda s.steps ∙ ap (λ t. fold (sweep rules callees) t rs) (sym (sweeps_are_folds r (not_inline r h.0) callees l steps))

pub each_ok : {B : Type 0} (x : Result PlainLambda B) (callees : List PlainLambda) (rs : List Rule) → AreInArena rs → (l : PlainLambda) (before after : List Step) →
    IfOk x (λ made. logged made after ≡ swept_each rs (logged l before)) →
    IfOk x (λ made. record { lambda = made; steps = after } ≡ fold (sweep rules callees) (record { lambda = l; steps = before }) rs)
each_ok (Ok made) callees rs h l before after e = (λ i. record { lambda = (e i).lambda; steps = (e i).steps }) ∙ each_is_sweep callees rs h l before
each_ok (Err fault) callees rs h l before after e = tt

-- ---- as answers

pub alone_ok : {B : Type 0} (x : Result PlainLambda B) (r : Rule) (callees : List PlainLambda) (l : PlainLambda) (before after : List Step) → (r ≡ Inline → ⊥) →
    IfOk x (λ made. logged made after ≡ swept_by (change_of r) (in_order rules r (region_ids l.body)) (logged l before)) →
    IfOk x (λ made. record { lambda = made; steps = after } ≡ sweep rules callees (record { lambda = l; steps = before }) r)
alone_ok (Ok made) r callees l before after alone e = is_sweep r callees l made before after alone e
alone_ok (Err fault) r callees l before after alone e = tt

pub of_rule_alone : {B : Type 0} (x : Result PlainLambda B) (r s : Rule) (callees : List PlainLambda) (l : PlainLambda) (before after : List Step) → r ≡ s → (s ≡ Inline → ⊥) →
    IfOk x (λ made. logged made after ≡ swept_by (change_of s) (in_order rules s (region_ids l.body)) (logged l before)) →
    IfOk x (λ made. record { lambda = made; steps = after } ≡ sweep rules callees (record { lambda = l; steps = before }) r)
of_rule_alone x r s callees l before after e alone h =
    subst (λ q. IfOk x (λ made. record { lambda = made; steps = after } ≡ sweep rules callees (record { lambda = l; steps = before }) q)) (sym e)
    (alone_ok x s callees l before after alone h)

pub of_calls : {B : Type 0} (x : Result PlainLambda B) (r : Rule) (callees : List PlainLambda) (l : PlainLambda) (before after : List Step) → r ≡ Inline →
    IfOk x (λ made. logged made after ≡ swept_by (inline_change callees) (region_ids l.body) (logged l before)) →
    IfOk x (λ made. record { lambda = made; steps = after } ≡ sweep rules callees (record { lambda = l; steps = before }) r)
of_calls (Ok made) r callees l before after e h =
    subst (λ q. record { lambda = made; steps = after } ≡ sweep rules callees (record { lambda = l; steps = before }) q) (sym e) (is_sweep_of_calls callees l made before after h)
of_calls (Err fault) r callees l before after e h = tt

pub walk_keeps : {B : Type 0} (x : Result PlainLambda B) (r : Rule) → RulesKeep → (ns : List ℕ) (l : PlainLambda) (before after : List Step) → IsWellFormed l →
    IfOk x (λ made. logged made after ≡ swept_by (change_of r) ns (logged l before)) → IfOk x IsWellFormed
walk_keeps (Ok made) r keep ns l before after well e = subst IsWellFormed (sym (ap (λ z. z.lambda) e)) (sweeps_keep r keep ns (logged l before) well)
walk_keeps (Err fault) r keep ns l before after well e = tt
