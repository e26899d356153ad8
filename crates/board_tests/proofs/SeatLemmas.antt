-- What is known of a seat, as one equation and one by one.
use Rattle.std.proofs.Common.{◌≡◌, ℕ, [], Option, ap}
use Rattle.atomic_table.specs.Seated.{TableId}
use Rattle.atomic_table.specs.declared.shared.Seat.{Seat}
use Rattle.board_core.specs.History.{History}
use Rattle.board_lock.specs.declared.view.View.{View}
use Rattle.board_tests.specs.Rests.{RestsAs, facts, resting}

module _ {W M : Type 0} where
  pub of_facts
      : (lock : TableId) (program : Option (History W)) (number : ℕ) (seat : Seat (Option (History W)) (View W M))
      → facts seat ≡ resting lock program number
      → RestsAs lock program number seat × (seat.me.0.taken ≡ [])
  of_facts lock program number seat is = (
    (
      ap (λ f. f.0) is,
      ap (λ f. f.1) is,
      ap (λ f. f.2) is,
      ap (λ f. f.3) is,
      ap (λ f. f.4) is,
      ap (λ f. f.5) is,
      ap (λ f. f.6) is,
    ),
    ap (λ f. f.7) is,
  )

  pub to_facts
      : (lock : TableId) (program : Option (History W)) (number : ℕ) (seat : Seat (Option (History W)) (View W M))
      → RestsAs lock program number seat
      → seat.me.0.taken ≡ []
      → facts seat ≡ resting lock program number
  to_facts lock program number seat rests alone = λ i. (rests.0 i, rests.1 i, rests.2 i, rests.3 i, rests.4 i, rests.5 i, rests.6 i, alone i)
