-- What contracts see of an arena, and how it is stored.
use Rattle.g_arena_def.specs.Flat.{Flat}
use Rattle.g_arena_use.specs.Lists.{origins_at}
use Rattle.g_arena_use.specs.Seen.{nodes_seen}
use Rattle.g_arena_use.specs.Indexed.{AreIndexed}
use Rattle.g_arena.specs.declared.arena.Arena.TheInside.{Inside}
use Rattle.g_arena.specs.Gone.{AreGone}

abbrev pub arena_seen : Inside → Flat
arena_seen a = record {
  number = a.number;
  params = a.params;
  objects = a.objects.items;
  next = a.next;
  body = record { args = a.args; results = origins_at a.results.lists 0 };
  nodes = nodes_seen a.inputs.lists a.results.lists a.nodes;
}

pub record IsStored (a : Inside) : Type 0 where
  pub indexed : AreIndexed a.args a.nodes a.inputs a.results
  pub gone : AreGone a.nodes
