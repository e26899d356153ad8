-- Results of several jobs, one after another.
use Rattle.std.proofs.Common.{◌≡◌, ℕ, ◌+◌, ◌<◌, Option, Some, None, List, [], ◌∷◌, ◌++◌, length, map, take, slice_index, slice_index_or, refl, sym, ap, ◌∙◌}
use Rattle.std.specs.Prelude.{option_map, option_to_list}
use Rattle.std.specs.List.{filter_map, cons_option}
use Rattle.std.proofs.lemmas.List.{take_more, append_assoc, get_or_default}
use Rattle.std.proofs.lemmas.List.Elements.{filter_map-append}

cons_option-nil : {X : Type 0} (o : Option X) → option_to_list o ≡ cons_option o []
cons_option-nil None = refl
cons_option-nil (Some x) = refl

-- one result more
pub results-more : {A M : Type 0} (value : A → M) (results : List (Option A)) (deps : List ℕ) (i : ℕ) (found : Option A) (old out new : List A) → i < length deps → slice_index deps i < length results
    → found ≡ slice_index_or results (slice_index deps i) found → map value out ≡ map value old ++ filter_map (λ d. option_map value (slice_index_or results d None)) (take i deps)
    → map value new ≡ map value out ++ option_to_list (option_map value found) → map value new ≡ map value old ++ filter_map (λ d. option_map value (slice_index_or results d None)) (take (i + 1) deps)
results-more {A} {M} value results deps i found old out new inside known is before now =
    let at : ℕ → Option M = λ d. option_map value (slice_index_or results d None) in
    let d = slice_index deps i in
    let here : option_map value found ≡ at d = ap (option_map value) (is ∙ get_or_default results d found None known) in
    let last : option_to_list (option_map value found) ≡ filter_map at (d ∷ []) = ap option_to_list here ∙ cons_option-nil (at d) in
    let front = filter_map at (take i deps) in
    now
    ∙ (ap (λ xs. xs ++ option_to_list (option_map value found)) before
    ∙ (append_assoc (map value old) front (option_to_list (option_map value found))
    ∙ ap (λ xs. map value old ++ xs)
    (ap (λ xs. front ++ xs) last
    ∙ (sym (filter_map-append at (take i deps) (d ∷ [])) ∙ ap (filter_map at) (sym (take_more deps i 0 inside))))))
