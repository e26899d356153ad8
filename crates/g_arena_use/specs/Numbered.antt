-- How nodes are stored with an index by number and with their neighbours.
use Rattle.std.specs.Prelude.{◌≡◌, length}
use Rattle.cell_lists.specs.Lists.{list_at, AreDistinct}
use Rattle.g_arena_use.specs.declared.nodes.Nodes.TheInside.{Inside}
use Rattle.g_arena_use.specs.Plain.{numbers_of, live_from, AreShort}

pub record AreNumbered (a : Inside) : Type 0 where
  pub keys : a.numbers.keys ≡ numbers_of a.slots.items
  pub once : AreDistinct (numbers_of a.slots.items)
  pub cells : a.order.cells ≡ length a.slots.items
  pub lists : length a.order.lists ≡ 1
  pub order : list_at a.order 0 ≡ live_from 0 a.slots.items
  pub short : AreShort a.slots.items
