-- A seat between two calls.
use Rattle.std.proofs.Common.{◌≡◌, ℕ, Bool, true, false, Option, None, Some, List, [], ◌∷◌, length, sym, ap, ◌∙◌, subst}
use mathlib.Core.Option.{some, some-injective}
use lib.ListN.{get_elem?}
use Rattle.atomic_table.specs.Seated.{TableId}
use Rattle.atomic_table.specs.Table.{Final, Seen}
use Rattle.atomic_table.specs.declared.shared.Seat.{Seat}
use Rattle.board_core.specs.History.{History}
use Rattle.board_lock.specs.declared.view.View.{View}
use Rattle.board_lock.specs.Rule.{opening, with_events, IsOneHistory}
use Rattle.board_lock.specs.Seats.{IsSeatOf, HasItsPart, sitting_of, Closes}
use Rattle.board_lock.proofs.SeatLemmas.{closes-step}

module _ {W M : Type 0} (lock : TableId) (seat : Seat (Option (History W)) (View W M)) where
  pub rests : seat.me.0.has_turn ≡ false → IsSeatOf lock seat → (seat.me.0.ticket ≡ None) × (seat.me.1 ≡ [])
  rests is of = subst (λ (b : Bool). HasItsPart b seat) is of.part

  pub has_turn : seat.me.0.has_turn ≡ true → IsSeatOf lock seat → ((ticket : ℕ) × (seat.me.0.ticket ≡ Some ticket)) × (seat.me.1 ≡ (0, None) ∷ [])
  has_turn is of = subst (λ (b : Bool). HasItsPart b seat) is of.part

  pub at-rest : (board : History W) → seat.table_id ≡ lock → seat.me.0.program ≡ Some (opening board) → seat.me.0.other_front ≡ [] → seat.me.0.has_turn ≡ false → seat.me.0.ticket ≡ None
      → seat.me.1 ≡ [] → IsSeatOf lock seat
  at-rest board same named compared off without slots =
      record { same = same; named = (board, named); compared = compared; part = subst (λ (b : Bool). HasItsPart b seat) (sym off) (without, slots) }

  pub on-turn : (board : History W) → seat.table_id ≡ lock → seat.me.0.program ≡ Some (opening board) → seat.me.0.other_front ≡ [] → seat.me.0.has_turn ≡ true
      → (ticket : ℕ) → seat.me.0.ticket ≡ Some ticket → seat.me.1 ≡ (0, None) ∷ [] → IsSeatOf lock seat
  on-turn board same named compared on ticket ticket_is slots =
      record { same = same; named = (board, named); compared = compared; part = subst (λ (b : Bool). HasItsPart b seat) (sym on) ((ticket, ticket_is), slots) }

module _ {W M : Type 0} (made : W → ℕ → List M → M) (board : History W) where
  pub closes-final : (words : List ℕ) (slots : List (Option (History W))) (id : ℕ) (v : View W M) → Final (Seen (IsOneHistory made board) id v) words slots
      → (other : History W) → v.program ≡ Some (opening other) → v.number ≡ 0 → v.splits ≡ length v.taken → v.has_turn ≡ false
      → (found : Option (History W)) → get_elem? slots 0 ≡ some found → (home : History W) × (found ≡ Some home) × Closes made (sitting_of v) home
  closes-final words slots id v final other is first all_in off found at =
      let s = final.0 in
      let seen = final.1 in
      let end = closes-step made board s seen.0 id v seen.1 other is first all_in off in
      let home : History W = with_events board seen.0.log in
      let there = final.4 0 (Some home) (ap (λ (hs : List (mathlib.Core.Option.Option (Option (History W)))). get_elem? hs 0) end.0) in
      (home, some-injective found (Some home) (sym at ∙ there), end.1)
