-- How lists of cells are stored: for each cell its list and its neighbours, for each list its ends.
use Rattle.std.specs.Prelude.{◌≡◌, ℕ, zero, suc, ◌+◌, ◌-◌, ◌<◌, Option, Some, None, List, [], ◌∷◌, map, length, slice_get, slice_index_or, slice_set}
use Rattle.std.specs.Option.{option_or}
use Rattle.cell_lists.specs.declared.links.Link.{Link}
use Rattle.cell_lists.specs.declared.links.Ends.{Ends}
use Rattle.cell_lists.specs.Lists.{Lists, AreDistinct, first_or, last_or, fall, falls}

-- what stands where there is no cell
abbrev pub no_link : Link
no_link = record { list = 0; before = None; after = None }

-- there is a link of the cell, if it is one
abbrev pub IsCell : List Link → Option ℕ → Type 0
IsCell links None = Unit {0}
IsCell links (Some x) = x < length links

-- the cell, if there is one, gets a neighbour after it, or before it
abbrev pub after_set : List Link → Option ℕ → (after : Option ℕ) → List Link
after_set links None after = links
after_set links (Some x) after =
    slice_set links x (record (slice_index_or links x no_link) { after = after })

abbrev pub before_set : List Link → Option ℕ → (before : Option ℕ) → List Link
before_set links None before = links
before_set links (Some x) before =
    slice_set links x (record (slice_index_or links x no_link) { before = before })

-- what is stored of a list
abbrev pub ends_of : List ℕ → Ends
ends_of xs = record { first = first_or None xs; last = last_or None xs; len = length xs; falls = falls None xs }

-- an end of a list once a cell goes: the cell's other neighbour where it stood at that end
abbrev pub end_without : Option ℕ → (outer inner : Option ℕ) → Option ℕ
end_without end None inner = inner
end_without end (Some x) inner = end

-- the same where a cell is added at the end
abbrev pub with_last : Ends → ℕ → Ends
with_last e c = record {
  first = option_or e.first (Some c);
  last = Some c;
  len = e.len + 1;
  falls = e.falls + fall e.last (Some c);
}

-- and where a cell with these neighbours goes
abbrev pub without_cell : Ends → ℕ → Link → Ends
without_cell e c link = record {
  first = end_without e.first link.before link.after;
  last = end_without e.last link.after link.before;
  len = e.len - 1;
  falls = e.falls - fall link.before (Some c) - fall (Some c) link.after + fall link.before link.after;
}

-- and where another cell stands for it
abbrev pub with_other : Ends → (cell other : ℕ) → Link → Ends
with_other e c d link = record {
  first = end_without e.first link.before (Some d);
  last = end_without e.last link.after (Some d);
  len = e.len;
  falls = e.falls - fall link.before (Some c) - fall (Some c) link.after + fall link.before (Some d) + fall (Some d) link.after;
}

-- the cells are linked in this order in the list of a number, between `before` and `after`
abbrev pub Linked : List Link → ℕ → (before after : Option ℕ) → List ℕ → Type 0
Linked links k before after [] = Unit {0}
Linked links k before after (x ∷ xs) =
    (slice_get links x ≡ Some (record { list = k; before = before; after = first_or after xs })) × Linked links k (Some x) after xs

-- so many cells from one on
abbrev pub walk : List Link → ℕ → Option ℕ → List ℕ
walk links zero from = []
walk links (suc n) None = []
walk links (suc n) (Some x) = x ∷ walk links n (slice_index_or links x no_link).after

-- the cells of a list
abbrev pub cells_of : List Link → Ends → List ℕ
cells_of links e = walk links e.len e.first

-- a list is stored as its number and its cells ask
pub record IsLinked (links : List Link) (k : ℕ) (e : Ends) : Type 0 where
  pub linked : Linked links k None None (cells_of links e)
  pub ends : e ≡ ends_of (cells_of links e)
  pub distinct : AreDistinct (cells_of links e)

-- each list is
abbrev pub AreLinked : List Link → List Ends → Type 0
AreLinked links lists = (k : ℕ) (e : Ends) → slice_get lists k ≡ Some e → IsLinked links k e

-- the lists
abbrev pub lists_seen : List Link → List Ends → Lists
lists_seen links lists = record { cells = length links; lists = map (cells_of links) lists }
