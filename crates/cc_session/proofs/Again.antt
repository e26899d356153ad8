-- A rebuild of the source of the last one.
use Rattle.std.proofs.Common.{◌≡◌, ◌<◌, ◌≤◌, ◌+◌, ℕ, Bool, true, false, cond, List, [], ◌∷◌, length, map, slice_index_or, refl, sym, ap, subst, ◌∙◌, inl, inr}
use Rattle.std.specs.Prelude.{Option, Some, count_by}
use Rattle.std.proofs.lemmas.Bool.{cases_lt}
use Rattle.std.proofs.lemmas.List.{get_or-map, get_or_past, length-map}
use Rattle.std.proofs.lemmas.List.Sums.{sum_by-cons}
use Rattle.call_order.specs.Units.{IsPath}
use Rattle.r_rule.specs.declared.steps.Rule.{Rule}
use Rattle.g_graph.specs.Plain.{PlainLambda}
use Rattle.s_linear.specs.declared.frame.CodeForm.{CodeForm}
use Rattle.g_pass_order.specs.Calls.{IsOrder, no_lambda}
use Rattle.g_pass_order.specs.Laws.{IsRankedOrder, OrdersAreRanked}
use Rattle.g_pass_work.specs.Stale.{AreStale, IsUnstale}
use Rattle.cc_session.specs.Accepted.{PlainAccepted}
use Rattle.cc_session.specs.Session.{IsImageKept, IsLast, IsLastForm, IsKept, IsSession, PlainKept, PlainSession}
use Rattle.cc_session.specs.Rebuilds.{AreStaleSince, HasDeps, IsRebuilt, last_source}

-- ---- nothing is stale between a list and itself

abbrev none : List PlainLambda → List Bool
none ls = map (λ (l : PlainLambda). false) ls

none-long : (ls : List PlainLambda) → length (none ls) ≡ length ls
none-long ls = length-map ls (λ (l : PlainLambda). false)

none-counted : (ls : List PlainLambda) → count_by (λ (b : Bool). b) (none ls) ≡ 0
none-counted [] = refl
none-counted (l ∷ ls) = sum_by-cons (λ (b : Bool). cond b 1 0) false (none ls) ∙ ap (λ (n : ℕ). 0 + n) (none-counted ls)

module _ (ls : List PlainLambda) (ranks : List ℕ) (deps : List (List ℕ)) (ranked : IsRankedOrder ls ranks deps) where
  -- what deps lead to is in the list
  reached : (path : List ℕ) (j k : ℕ) → j < length ls → IsPath deps j path k → k < length ls
  reached [] j k inside same = subst (λ (i : ℕ). i < length ls) same inside
  reached (next ∷ path) j k inside steps = reached path next k (ranked.dep j next steps.0).known steps.1

  unstale : (j : ℕ) → j < length ls → IsUnstale ls deps ls deps j
  unstale j inside k path = record { inside = reached path.0 j k inside path.1; lambda = refl; deps_are = refl }

  there : (j : ℕ) → slice_index_or (none ls) j true ≡ false → j < length ls
  there j is =
      elim (cases_lt j (length ls)) [
        | inl inside ↦ inside
        | inr past ↦
            let beyond = get_or_past (none ls) j true (subst (λ (n : ℕ). n ≤ j) (sym (none-long ls)) past) in
            let clash : true ≡ false = sym beyond ∙ is in absurd cc
      ]

  none-stale : AreStale ls deps ls deps (none ls)
  none-stale = record {
    count = none-long ls;
    each = λ j. (λ is. unstale j (there j is), λ all. get_or-map (λ (l : PlainLambda). false) ls j no_lambda true (all j ([], refl)).inside);
  }

-- ---- what is kept is what a rebuild gives

module _ (is_ranked : OrdersAreRanked) (recipe : List Rule) (kept : PlainKept) (is : IsKept recipe kept) where
  has : HasDeps kept.source kept.lambdas kept.deps
  has = record {
    program = is.program;
    accepted = is.accepted;
    lambdas_are = is.lambdas_are;
    ranks = is.answered.ranks;
    order = subst (λ (ds : List (List ℕ)). IsOrder kept.lambdas is.answered.ranks ds) is.deps_are is.answered.order;
  }

  stale-since : AreStaleSince (Some kept.source) kept.source 0
  stale-since =
      let order = has.order in
      record {
        old = kept.lambdas;
        old_deps = kept.deps;
        had = has;
        new = kept.lambdas;
        deps = kept.deps;
        has = has;
        stale = none kept.lambdas;
        are_stale = none-stale kept.lambdas has.ranks kept.deps (is_ranked kept.lambdas has.ranks kept.deps order);
        count = sym (none-counted kept.lambdas);
      }

  again : IsRebuilt (record { source = kept.source; recipe = recipe; form = kept.form; last = Some kept.source }) kept.image 0
  again = record { program = is.program; accepted = is.accepted; image = is.image_is; are_stale = stale-since }

module _ (now : PlainAccepted) (recipe : List Rule) (form : CodeForm) (last : Option PlainKept) (image : List ℕ) (k : IsImageKept last now.source image) where
  last-is : last_source last ≡ Some now.source
  last-is = ap last_source k.last_is ∙ ap (λ (s : List ℕ). Some s) k.source_is

  pub rebuilt-again : OrdersAreRanked → IsSession now recipe form last → (session : PlainSession) → session ≡ record { source = now.source; recipe = recipe; form = form; last = last_source last } →
      (bytes : List ℕ) (jobs : ℕ) → bytes ≡ image → jobs ≡ 0 → IsRebuilt session bytes jobs
  rebuilt-again is_ranked valid session is bytes jobs same none_stale =
      let made = again is_ranked recipe k.kept (subst (IsLast recipe) k.last_is valid.is_last) in
      let at : record { source = k.kept.source; recipe = recipe; form = k.kept.form; last = Some k.kept.source } ≡ session =
      ap (λ (s : List ℕ). record { source = s; recipe = recipe; form = k.kept.form; last = Some s }) k.source_is
      ∙ (ap (λ (f : CodeForm). record { source = now.source; recipe = recipe; form = f; last = Some now.source }) (subst (IsLastForm form) k.last_is valid.is_form)
      ∙ (ap (λ (l : Option (List ℕ)). record { source = now.source; recipe = recipe; form = form; last = l }) (sym last-is) ∙ sym is)) in
      subst (λ (n : ℕ). IsRebuilt session bytes n) (sym none_stale)
      (subst (λ (b : List ℕ). IsRebuilt session b 0) (sym (same ∙ k.image_is)) (subst (λ (s : PlainSession). IsRebuilt s k.kept.image 0) at made))
