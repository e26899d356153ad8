-- The items of functions, and which of them stay.
use Rattle.std.specs.Prelude.{◌≡◌, ℕ, Bool, true, false, Option, None, Some, List, [], map, slice_get, slice_index_or}
use Rattle.r_rule.specs.Optimised.{PlainOptimised}
use Rattle.s_linear.specs.declared.frame.CodeForm.{CodeForm}
use Rattle.rv_layout.specs.declared.item.Item.{Item}
use Rattle.cc_emit.specs.Image.{function_items, lambdas_of}
use Rattle.cc_session.specs.Session.{PlainKept}

-- the items of the function of each answer
abbrev pub items_of : CodeForm → List PlainOptimised → List (List Item)
items_of form answers = map (function_items form) (lambdas_of answers)

-- the items of the functions that are kept
abbrev pub kept_items : Option PlainKept → List (List Item)
kept_items None = []
kept_items (Some k) = items_of k.form k.answers

-- Of each of these functions that is not stale the items are kept.
abbrev pub AreItemsKept : (form : CodeForm) (answers : List PlainOptimised) (stale : List Bool) (kept : List (List Item)) → Type 0
AreItemsKept form answers stale kept = (j : ℕ) → slice_index_or stale j true ≡ false → slice_get kept j ≡ slice_get (items_of form answers) j
