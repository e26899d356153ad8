-- The place of a refusal's text.
use Rattle.std.proofs.Common.{◌≡◌, ℕ, List, None, Some, ap, ◌∙◌, length, option_map}
use Rattle.std.specs.Prelude.{min}
use Rattle.cc_report.specs.Explained.{refusal_text}
use Rattle.cc_source.specs.Refusal.{refusal_of}
use Rattle.cc_source.specs.Offset.{LinesAreOfOffsets, offset_of}
use Rattle.cc_report.specs.declared.refusal.Refusal.{Refusal}
use Rattle.cc_source.specs.declared.fault.CompileFault.{CompileFault}
use Rattle.cc_view.specs.Explanation.{IsRefusalText}

module _ (law : LinesAreOfOffsets) (source : List ℕ) (e : CompileFault) (refusal : Refusal) (refused : refusal_of e source ≡ Some refusal) where
  -- what was found for the offset is where the fault is
  pub found_at : (at : ℕ) (text : List ℕ) → Some at ≡ option_map (λ n. min n (length source)) (offset_of e) → text ≡ refusal_text refusal source at → IsRefusalText source e refusal text
  found_at at text found is =
      let place = law source e refusal refused in
      let same : at ≡ min place.at (length source) = by at place.at (found ∙ ap (option_map (λ n. min n (length source))) place.there) in
      record { at = place.at; there = place.there; is = is ∙ ap (refusal_text refusal source) same }
    where
      by : (a n : ℕ) → Some a ≡ Some (min n (length source)) → a ≡ min n (length source)
      by a n e = cc

  -- so something is found
  pub not_found : (text : List ℕ) → None ≡ option_map (λ n. min n (length source)) (offset_of e) → IsRefusalText source e refusal text
  not_found text found =
      let place = law source e refusal refused in
      absurd (by place.at (found ∙ ap (option_map (λ n. min n (length source))) place.there))
    where
      by : (n : ℕ) → None ≡ Some (min n (length source)) → ⊥
      by n e = cc
