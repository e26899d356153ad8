use Rattle.std.proofs.Common.{◌≡◌, ◌∙◌, map, take, ap, arith, ℕ, List, Option}
use Rattle.std.specs.Prelude.{unwrap_or}
use Rattle.std.proofs.lemmas.List.{take_all}
use Rattle.val_core.specs.Numbers.{numbers_from}
use Rattle.s_linear.specs.Frame.{PlainPlaces}
use Rattle.a_place.specs.Places.{place_in}
use Rattle.a_share.specs.Facts.{name_number}
use Rattle.a_share.proofs.Placing.{places_given}
use Rattle.a_share.proofs.giving.Giving.places.Goals as goal

abbrev made : (count : ℕ) → List ℕ → PlainPlaces
made n of = record { of = of; count = n; temporaries = 4 }

pub returns : goal.returns
returns c = λ F gs ready giving.
    let items : List (Option ℕ) = c.as_slice-place-items.result.now in
    let all : take c.loop-place.place-index items ≡ items = take_all c.loop-place.place-index items (omega (arith, c.loop-place-test.false)) in
    let of : c.loop-place.of.items ≡ map (place_in gs) (numbers_from 0 (name_number F)) =
    c.loop-place.invariant ∙ (ap (map (λ o. unwrap_or o 0)) (all ∙ c.as_slice-place-items.ensures.value) ∙ places_given F c.args.self gs ready giving) in
    ap (made c.args.self.count) of ∙ ap (λ n. made n (map (place_in gs) (numbers_from 0 (name_number F)))) giving.count
