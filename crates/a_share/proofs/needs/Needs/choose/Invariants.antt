-- What holds before each turn of the loops of `choose`.
use Rattle.std.proofs.Common.{◌≡◌, ◌&&◌, ◌||◌, ℕ, drop}
use Rattle.a_place.specs.Places.{among}
use Rattle.a_share.specs.Bounds.{is_as, needed_now}
use Rattle.a_share.proofs.needs.Needs.choose.Given as goal

abbrev pub invariant-loop-k : goal.invariant-loop-k
invariant-loop-k l =
    (x : ℕ) → ((among x (drop l.k l.names) && is_as l.needed (needed_now l.self.toggles x)) || among x l.chosen.items)
    ≡ ((among x (drop l.from l.names) && is_as l.needed (needed_now l.self.toggles x)) || among x l.fn.chosen.items)
