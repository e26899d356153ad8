-- What one of some codes needs, by what changes from what is needed after them.
use Rattle.std.specs.Prelude.{◌≡◌, ◌<◌, ℕ, true, false, List, IsTrue}
use Rattle.a_place.specs.Places.{among}
use Rattle.a_place.specs.Share.{Names}

-- From these names N the names S come when some are added and others dropped, all of which are below a count.
pub record IsUnion (count : ℕ) (more less : List ℕ) (N S : Names) : Type 0 where
  pub added : (x : ℕ) → IsTrue (among x more) → S x ≡ true
  pub dropped : (x : ℕ) → IsTrue (among x less) → S x ≡ false
  pub others : (x : ℕ) → among x more ≡ false → among x less ≡ false → S x ≡ N x
  pub added_below : (x : ℕ) → IsTrue (among x more) → x < count
  pub dropped_below : (x : ℕ) → IsTrue (among x less) → x < count
