-- The items of functions that are not stale are those that they had.
use Rattle.std.proofs.Common.{◌≡◌, ◌∙◌, ℕ, Bool, true, false, List, refl, sym, ap, subst, option_map}
use Rattle.std.proofs.lemmas.Option.{slice_get-map}
use Rattle.std.specs.Prelude.{Option, None, Some, slice_get, slice_index_or}
use Rattle.r_rule.specs.declared.steps.Rule.{Rule}
use Rattle.g_graph.specs.Plain.{PlainLambda}
use Rattle.r_rule.specs.Optimised.{PlainOptimised}
use Rattle.g_pass_order.specs.Laws.{OrdersAreUnique}
use Rattle.g_pass.specs.Sweep.{rules}
use Rattle.g_pass_work.specs.Laws.{UnstaleAnswersAreKept}
use Rattle.g_pass_work.specs.Stale.{IsUnstale}
use Rattle.s_linear.specs.declared.frame.CodeForm.{CodeForm}
use Rattle.rv_layout.specs.declared.item.Item.{Item}
use Rattle.cc_emit.specs.Image.{function_items, lambdas_of}
use Rattle.cc_session.specs.Items.{items_of, kept_items, AreItemsKept}
use Rattle.cc_session.specs.Session.{PlainKept, answers_of, IsLast, IsLastForm}
use Rattle.cc_session.specs.Rebuilds.{AreRemade}
use Rattle.cc_session.proofs.Earlier.{kept-of}

-- the items of an answer
items-at : (form : CodeForm) (answers : List PlainOptimised) (j : ℕ) → slice_get (items_of form answers) j
    ≡ option_map (function_items form) (option_map (λ (o : PlainOptimised). o.lambda) (slice_get answers j))
items-at form answers j =
    slice_get-map (function_items form) (lambdas_of answers) j
    ∙ ap (option_map (function_items form)) (slice_get-map (λ (o : PlainOptimised). o.lambda) answers j)

-- the items that are kept are those of the answers that are kept
all-kept : (form : CodeForm) (last : Option PlainKept) → IsLastForm form last → kept_items last ≡ items_of form (answers_of last)
all-kept form None is = refl
all-kept form (Some k) is = ap (λ (f : CodeForm). items_of f k.answers) is

module _ (unique : OrdersAreUnique) (law : UnstaleAnswersAreKept) (recipe : List Rule) (last : Option PlainKept) (is : IsLast recipe last)
    (ls : List PlainLambda) (deps : List (List ℕ)) (stale : List Bool) (answers : List PlainOptimised) (made : AreRemade recipe last ls deps stale answers) where
  answer-kept : (j : ℕ) → slice_index_or stale j true ≡ false → slice_get answers j ≡ slice_get (answers_of last) j
  answer-kept j fresh =
      let kept = kept-of recipe last is ls deps stale made.are_stale in
      let now = made.answered in
      let same = (unique ls now.ranks made.ranks now.deps deps now.order made.order).1 in
      law rules recipe kept.earlier ls (answers_of last) answers kept.answered now j
      (subst (λ (ds : List (List ℕ)). IsUnstale kept.earlier kept.answered.deps ls ds j) (sym same) ((kept.are_stale.each j).0 fresh))

  pub items-kept : (form : CodeForm) → IsLastForm form last → (items : List (List Item)) → items ≡ kept_items last → AreItemsKept form answers stale items
  items-kept form is_form items are j fresh =
      ap (λ (xs : List (List Item)). slice_get xs j) (are ∙ all-kept form last is_form) ∙ (items-at form (answers_of last) j
      ∙ (ap (λ (o : Option PlainOptimised). option_map (function_items form) (option_map (λ (a : PlainOptimised). a.lambda) o)) (sym (answer-kept j fresh))
      ∙ sym (items-at form answers j)))
