-- The lists of vectors, as they are read.
use Rattle.std.proofs.Common.{◌≡◌, ◌<◌, ℕ, List, [], Vec, Global, length, slice_index_or, sym, ap, ◌∙◌}
use Rattle.std.proofs.lemmas.List.{get_or-map}
use Rattle.call_order.specs.Units.{call_lists}

-- the list of one function, in the plain lists
pub row : (lists : List (Vec ℕ Global)) (j : ℕ) (v : Vec ℕ Global) → j < length lists → v ≡ slice_index_or lists j v → slice_index_or (call_lists lists) j [] ≡ v.items
row lists j v inside is = get_or-map (λ (x : Vec ℕ Global). x.items) lists j v [] inside ∙ ap (λ (x : Vec ℕ Global). x.items) (sym is)
