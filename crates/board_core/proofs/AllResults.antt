-- The results of a board on which all jobs are out.
use Rattle.std.proofs.Common.{◌≡◌, ℕ, suc, zero, ◌<◌, List, [], ◌∷◌, ◌++◌, length, map, Option, Some, None, slice_get, IsSome, refl, sym, ap, ◌∙◌, arith}
use Rattle.std.specs.Prelude.{option_map, slice_index_or}
use Rattle.std.specs.List.{filter_map, cons_option}
use Rattle.std.proofs.lemmas.List.{map-append, append-nil}
use Rattle.std.proofs.lemmas.List.Elements.{filter_map-append}
use Rattle.board_core.specs.declared.event.Event.{Event}
use Rattle.board_core.specs.Answers.{IsRanked}
use Rattle.board_core.specs.Board.{Job, Open, Held, Out, Program, result_of, replay, IsLegal}
use Rattle.board_core.specs.Calls.{AllOut}
use Rattle.board_core.specs.Laws.{ResultsAreAnswers}
use Rattle.board_core.proofs.lemmas.Answers.{sound-replay}
use Rattle.board_core.specs.Alone.{AreResults}

-- ---- those that are there

-- one more, where it is there
pub one-more : {A B : Type 0} (value : A → B) (all new : List A) (found : List (Option A)) (one : Option A) (made : A) →
    map value all ≡ filter_map (option_map value) found → one ≡ Some made → new ≡ all ++ made ∷ [] → map value new ≡ filter_map (option_map value) (found ++ one ∷ [])
one-more value all new found one made before is pushed =
    ap (map value) pushed
    ∙ (map-append value all (made ∷ [])
    ∙ (ap (λ xs. xs ++ value made ∷ []) before
    ∙ (ap (λ o. filter_map (option_map value) found ++ cons_option (option_map value o) []) (sym is) ∙ sym (filter_map-append (option_map value) found (one ∷ [])))))

-- and where it is not
pub none-more : {A B : Type 0} (value : A → B) (all : List A) (found : List (Option A)) (one : Option A) →
    map value all ≡ filter_map (option_map value) found → one ≡ None → map value all ≡ filter_map (option_map value) (found ++ one ∷ [])
none-more value all found one before is =
    before
    ∙ (sym (append-nil (filter_map (option_map value) found))
    ∙ (ap (λ o. filter_map (option_map value) found ++ cons_option (option_map value o) []) (sym is) ∙ sym (filter_map-append (option_map value) found (one ∷ []))))

somes : {A B : Type 0} (f : A → Option B) (xs : List A) → filter_map f xs ≡ filter_map (λ o. o) (map f xs)
somes f [] = refl
somes f (x ∷ xs) = ap (cons_option (f x)) (somes f xs)

same-somes : {A B C : Type 0} (f : A → Option C) (g : B → Option C) (xs : List A) (ys : List B) → map f xs ≡ map g ys → filter_map f xs ≡ filter_map g ys
same-somes f g xs ys same = somes f xs ∙ (ap (filter_map (λ o. o)) same ∙ sym (somes g ys))

-- ---- where each job is out

module _ {M : Type 0} where
  abbrev AreOut : List (Job M) → List M → Type 0
  AreOut js xs = (length xs ≡ length js) × ((j : ℕ) → j < length js → (made : M) × (slice_get xs j ≡ Some made) × (slice_index_or js j Open ≡ Out made))

  out-first : (js : List (Job M)) (made : M) (xs : List M) → AreOut js xs → AreOut (Out made ∷ js) (made ∷ xs)
  out-first js made xs rest = (omega (arith, rest.0), λ j inside. at j inside)
    where
      at : (j : ℕ) → j < suc (length js) → (it : M) × (slice_get (made ∷ xs) j ≡ Some it) × (slice_index_or (Out made ∷ js) j Open ≡ Out it)
      at zero inside = (made, refl, refl)
      at (suc j) inside = rest.1 j (omega (arith, inside))

  all-out : (js : List (Job M)) → ((j : ℕ) → j < length js → IsSome (result_of (slice_index_or js j Open))) → AreOut js (filter_map result_of js)
  all-out [] each = (refl, λ j inside. absurd (omega (arith, inside)))
  all-out (Open ∷ js) each = let none = each 0 (omega arith) in cc
  all-out (Held worker ∷ js) each = let none = each 0 (omega arith) in cc
  all-out (Out made ∷ js) each = out-first js made (filter_map result_of js) (all-out js (λ j inside. each (suc j) (omega (arith, inside))))

  -- the results that are there are those of all jobs, where these are all out
  pub results-of-all : {A : Type 0} → ResultsAreAnswers M → (program : Program M) (events : List Event) → IsRanked program → IsLegal program events →
      AllOut program (replay program events) → (value : A → Option M) (found : List A) → map value found ≡ map result_of (replay program events).jobs →
      AreResults program (filter_map value found)
  results-of-all are program events ranked legal out value found same =
      let js = (replay program events).jobs in
      let count : length js ≡ length program.deps = (sound-replay program ranked events legal).counted in
      let has = all-out js (λ j inside. out j (omega (arith, inside, count))) in
      let is = same-somes value result_of found js same in
      record {
        count = ap (λ (xs : List M). length xs) is ∙ (has.0 ∙ count);
        each = λ j inside.
            let at = has.1 j (omega (arith, inside, count)) in
            ap (λ (xs : List M). slice_get xs j) is ∙ (at.1 ∙ sym (are program events ranked legal j at.0 at.2));
      }
