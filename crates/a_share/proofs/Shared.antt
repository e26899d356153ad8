-- The places given by what is known of a function's names are the shared places.
use Rattle.std.proofs.Common.{◌≡◌, ◌<◌, ℕ, List, [], length, map, get_or, refl, ap, ◌∙◌, arith, Some, None, Option, if◌then◌else◌}
use Rattle.val_core.specs.Numbers.{numbers_from}
use Rattle.val_core.proofs.lemmas.Numbers.{length_numbers}
use Rattle.s_linear.specs.Frame.{PlainPlaces}
use Rattle.s_linear.specs.Linear.{LinearFunction}
use Rattle.s_linear.specs.Lines.{lines}
use Rattle.a_place.specs.Places.{among, above, Given, place_in, name_count}
use Rattle.a_place.specs.Share.{Site, sites, all_names, depth_of, in_order, given, all_given, count_of, shared}
use Rattle.a_place.specs.Marks.{marks, sites_at}
use Rattle.a_share.specs.Walked.{IsWalkOf}
use Rattle.a_share.specs.Tables.{depth_in, by_depth}
use Rattle.a_share.specs.Facts.{line_number, name_number, AreUsable, AreFacts}
use Rattle.a_share.specs.Giving.{given_by}
use Rattle.a_share.specs.declared.facts.Facts.{Facts}
use Rattle.a_place.proofs.lemmas.Marked.{marked_lines}
use Rattle.a_share.proofs.Occurs.{names_stand, counts_agree}
use Rattle.a_share.proofs.Depths.{depth_is, order_is}
use Rattle.a_share.proofs.Distinct.{distinct_order, order_inside}
use Rattle.a_share.proofs.Fitting.{given_same}

abbrev pub places_made : (names : ℕ) → List Given → PlainPlaces
places_made n gs = record { of = map (place_in gs) (numbers_from 0 n); count = count_of gs; temporaries = 4 }

module _ (f : LinearFunction) (F : Facts) (os : List (Option ℕ)) (walk : IsWalkOf (lines f) (marks f) F.walk) (usable : AreUsable F) (facts : AreFacts (lines f) F) (line_count : line_number F ≡ length (lines f)) (count : name_number F ≡ name_count (lines f)) (size : length os ≡ name_number F) (depth : (x : ℕ) → x < name_number F → get_or os x None ≡ depth_in x (lines f) F.walk.depths.items) where
  abbrev ss : List Site
  ss = sites_at (lines f) (marks f)

  depths_length : length (lines f) ≡ length F.walk.depths.items
  depths_length = omega (arith, F.walk.depths.ok.0, line_count)

  copies_length : length (lines f) ≡ length F.walk.copies.items
  copies_length = omega (arith, F.walk.copies.ok.0, line_count, usable.walk.copies)

  names_above : name_number F ≡ above (all_names f)
  names_above = count ∙ counts_agree f

  depth_found : (x : ℕ) → x < length os → get_or os x None ≡ (if among x (all_names f) then Some (depth_of (sites f) x) else None)
  depth_found x h =
      depth x (omega (arith, size))
      ∙ (depth_is x (lines f) (marks f) F.walk.depths.items (marked_lines f).same depths_length walk.depths (marked_lines f).flat
      ∙ (ap (λ b. if b then Some (depth_of ss x) else None) (names_stand f x)
      ∙ ap (λ s. if among x (all_names f) then Some (depth_of s x) else None) (marked_lines f).here))

  order_found : by_depth os ≡ in_order (sites f) (all_names f)
  order_found = order_is (sites f) (all_names f) os (size ∙ names_above) depth_found

  given_found : given_by F (by_depth os) [] ≡ all_given f.params (sites f) (all_names f)
  given_found =
      given_same (lines f) (marks f) F f.params (marked_lines f).same usable facts walk line_count (facts.params ∙ length_numbers 0 f.params)
      depths_length copies_length (by_depth os) [] (distinct_order os) (λ x e. (refl, (let l : x < length os = order_inside os x e in omega (arith, size)))) tt tt
      ∙ (ap (λ s. given f.params s (by_depth os) []) (marked_lines f).here ∙ ap (λ xs. given f.params (sites f) xs []) order_found)

  pub places_shared : (p : PlainPlaces) → p ≡ places_made (name_number F) (given_by F (by_depth os) []) → p ≡ shared f
  places_shared p e =
      e ∙ (ap (places_made (name_number F)) given_found ∙ ap (λ n. places_made n (all_given f.params (sites f) (all_names f))) names_above)
