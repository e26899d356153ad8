-- What holds before each turn of the loops of `choose`.
use Rattle.std.proofs.Common.{◌≡◌, length}
use Rattle.a_share.specs.Facts.{partners_of}
use Rattle.a_share.specs.Giving.{candidates_at, fits_at, place_at}
use Rattle.a_place.specs.Share.{first_of}
use Rattle.a_share.proofs.Placing.{AreTried}
use Rattle.a_share.proofs.Trying.{left_from, others_from}
use Rattle.a_share.proofs.giving.Giving.choose.Given as goal

abbrev pub invariant-loop-partner : goal.invariant-loop-partner
invariant-loop-partner l = record {
  tried : AreTried (fits_at l.facts l.name l.self) l.tried;
  size : length l.tried ≡ 31;
  left : first_of (fits_at l.facts l.name l.self) (left_from (place_at l.self) (partners_of l.facts l.name) l.partner-index) l.self.next
      ≡ first_of (fits_at l.facts l.name l.self) (candidates_at l.facts l.name l.self) l.self.next;
}

abbrev pub invariant-loop-k : goal.invariant-loop-k
invariant-loop-k l = record {
  tried : AreTried (fits_at l.facts l.name l.self) l.tried;
  size : length l.tried ≡ 31;
  left : first_of (fits_at l.facts l.name l.self) (others_from l.k) l.self.next
      ≡ first_of (fits_at l.facts l.name l.self) (candidates_at l.facts l.name l.self) l.self.next;
}
