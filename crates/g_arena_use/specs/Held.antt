-- What contracts see of lists with an index of their uses, and how these are kept.
use Rattle.std.specs.Prelude.{◌≡◌, length, map}
use Rattle.g_arena_use.specs.Lists.{PlainUses}
use Rattle.g_arena_use.specs.Sites.{list_seen, cells_of, AreLaid, owners_from}
use Rattle.g_arena_use.specs.declared.use_lists.UseLists.TheInside.{Inside}

abbrev pub uses_seen : Inside → PlainUses
uses_seen a = record { names = a.uses.names; lists = map list_seen a.sites.items; room = length a.owners.items }

pub record AreIndexed (a : Inside) : Type 0 where
  pub laid : AreLaid 0 a.sites.items
  pub owners : a.owners.items ≡ owners_from 0 a.sites.items
  pub cells : a.uses.cells ≡ cells_of a.sites.items
