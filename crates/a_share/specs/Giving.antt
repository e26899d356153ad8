-- The choice of a place, and what is known after places were given.
use Rattle.std.specs.Prelude.{◌≡◌, ◌==◌, ◌+◌, ◌<◌, ◌≤◌, ℕ, nat_lt, Bool, false, not, ◌&&◌, if◌then◌else◌, List, [], ◌∷◌, ◌++◌, filter, Option, Some, None, slice_get, slice_index_or, vec_len}
use Rattle.std.specs.List.{flat_map}
use Rattle.g_graph.specs.WellFormed.{some_of}
use Rattle.val_core.specs.Numbers.{numbers_from}
use Rattle.a_place.specs.Places.{Given}
use Rattle.a_place.specs.Share.{is_lost, first_of, next_place, count_of}
use Rattle.a_share.specs.Walk.{count_if, has}
use Rattle.a_share.specs.Sums.{is_in}
use Rattle.a_share.specs.Counts.{between}
use Rattle.a_share.specs.Held.{IsHeld, total, meetings}
use Rattle.a_share.specs.Facts.{segments_of, writes_of, partners_of, copied_of, line_number, name_number}
use Rattle.a_share.specs.declared.facts.Facts.{Facts}
use Rattle.a_share.specs.declared.held.Held.{Held}
use Rattle.a_share.specs.declared.giving.Giving.{Giving}

-- the places given are below the count of names, and 31 places are known of
pub record IsReady (F : Facts) (g : Giving) : Type 0 where
  pub of : vec_len g.of ≡ name_number F
  pub held : vec_len g.held ≡ 31
  pub each : (p : ℕ) (d : Held) → p < 31 → IsHeld (line_number F) (slice_index_or g.held.items p d)

-- ---- by what is counted

abbrev pub place_at : Giving → (name : ℕ) → Option ℕ
place_at g x = slice_index_or g.of.items x None

abbrev pub is_place : (place : ℕ) → Option ℕ → Bool
is_place p None = false
is_place p (Some q) = q == p

abbrev pub as_list : Option ℕ → List ℕ
as_list None = []
as_list (Some p) = p ∷ []

-- how many of these names have a place
abbrev pub having : Giving → (place : ℕ) → List ℕ → ℕ
having g p xs = count_if (λ y. is_place p (place_at g y)) xs

abbrev pub fits_held : Facts → (name : ℕ) → Giving → (place : ℕ) → Held → Bool
fits_held F x g p h =
    not (slice_index_or F.long.items x false && is_lost p) && (not (nat_lt x F.params && h.has_param)
    && (meetings h (segments_of F x) (writes_of F x) == having g p (copied_of F x)))

abbrev pub fits_where : Facts → (name : ℕ) → Giving → (place : ℕ) → Option Held → Bool
fits_where F x g p None = false
fits_where F x g p (Some h) = fits_held F x g p h

abbrev pub fits_at : Facts → (name : ℕ) → Giving → (place : ℕ) → Bool
fits_at F x g p = fits_where F x g p (slice_get g.held.items p)

-- the places that several names may have, in order
abbrev pub shared_places : List ℕ
shared_places = numbers_from 11 4 ++ numbers_from 0 11 ++ numbers_from 15 16

abbrev pub candidates_at : Facts → (name : ℕ) → Giving → List ℕ
candidates_at F x g = filter (λ p. nat_lt p 31) (flat_map (λ y. as_list (place_at g y)) (partners_of F x)) ++ shared_places

-- ---- by the places given

abbrev pub place_given : List Given → (name : ℕ) → Option ℕ
place_given [] x = None
place_given (g ∷ gs) x = if g.name == x then Some g.place else place_given gs x

-- the names that have a place
abbrev pub names_at : (place : ℕ) → List Given → List ℕ
names_at p [] = []
names_at p (g ∷ gs) = if g.place == p then g.name ∷ names_at p gs else names_at p gs

-- how often a name is needed after a write of one of these, or one of them after a write of it
abbrev pub met : Facts → (name : ℕ) → (others : List ℕ) → ℕ
met F x ys =
    total (λ i. total (λ y. count_if (has i) (segments_of F y)) ys) (writes_of F x)
    + total (λ s. total (λ y. count_if (λ i. has i s) (writes_of F y)) ys) (segments_of F x)

abbrev pub fits_given : Facts → (name : ℕ) → List Given → (place : ℕ) → Bool
fits_given F x gs p =
    not (slice_index_or F.long.items x false && is_lost p)
    && (not (nat_lt x F.params && some_of (λ y. nat_lt y F.params) (names_at p gs))
    && (met F x (names_at p gs) == count_if (λ y. is_place p (place_given gs y)) (copied_of F x)))

abbrev pub candidates_given : Facts → (name : ℕ) → List Given → List ℕ
candidates_given F x gs = filter (λ p. nat_lt p 31) (flat_map (λ y. as_list (place_given gs y)) (partners_of F x)) ++ shared_places

abbrev pub chosen : Facts → (name : ℕ) → List Given → ℕ
chosen F x gs = first_of (fits_given F x gs) (candidates_given F x gs) (next_place gs)

-- the places of names in their order, after those given earlier
abbrev pub given_by : Facts → (names : List ℕ) → List Given → List Given
given_by F [] gs = gs
given_by F (x ∷ xs) gs = given_by F xs (record { name = x; place = chosen F x gs } ∷ gs)

-- the names of a place are counted
pub record Holds (F : Facts) (names : List ℕ) (h : Held) : Type 0 where
  pub firsts : (l r : ℕ) → l ≤ r → r ≤ line_number F → between h.firsts l r ≡ total (λ y. count_if (λ s. is_in l r s.first) (segments_of F y)) names
  pub lasts : (l r : ℕ) → l ≤ r → r ≤ line_number F → between h.lasts l r ≡ total (λ y. count_if (λ s. is_in l r s.last) (segments_of F y)) names
  pub writes : (l r : ℕ) → l ≤ r → r ≤ line_number F → between h.writes l r ≡ total (λ y. count_if (is_in l r) (writes_of F y)) names
  pub param : h.has_param ≡ some_of (λ y. nat_lt y F.params) names

pub record IsGiving (F : Facts) (gs : List Given) (g : Giving) : Type 0 where
  pub of : (x : ℕ) → x < name_number F → place_at g x ≡ place_given gs x
  pub held : (p : ℕ) (d : Held) → p < 31 → Holds F (names_at p gs) (slice_index_or g.held.items p d)
  pub next : g.next ≡ next_place gs
  pub count : g.count ≡ count_of gs
