-- How a node goes with the nodes in its regions, and what of the index is asked before and holds behind it.
use Rattle.std.specs.Prelude.{◌≡◌, ℕ, zero, suc, ◌+◌, false, List}
use Rattle.std.specs.declared.option.Option.TheVariants.{Some}
use Rattle.g_graph.specs.declared.op.Kind.{Kind}
use Rattle.g_arena_def.specs.Edits.{at_with, nodes_without}
use Rattle.g_arena_use.specs.Lists.{PlainList, PlainUses, origins_at, emptied}
use Rattle.g_arena_use.specs.Plain.{PlainSlot, slot_at, is_live}
use Rattle.g_arena_use.specs.Seen.{nodes_seen}
use Rattle.g_arena_use.specs.Indexed.{AreIndexed}

-- a node that went did so with one that is not there
abbrev pub AreGone : List PlainSlot → Type 0
AreGone ss = (k r : ℕ) → (slot_at ss k).gone ≡ Some r → is_live (slot_at ss r) ≡ false

-- so many lists from one on lose their origins
abbrev pub cleared : (first count : ℕ) → List PlainList → List PlainList
cleared k zero ls = ls
cleared k (suc n) ls = at_with (k + n) emptied (cleared k n ls)

-- what is stored of nodes is indexed, with the arguments of some body
pub record ArePlaced (ss : List PlainSlot) (xs ls : PlainUses) : Type 0 where
  pub args : List Kind
  pub indexed : AreIndexed args ss xs ls
  pub gone : AreGone ss

-- the node of a slot went with the nodes in its regions
pub record WentTogether (root : ℕ) (ss : List PlainSlot) (xs ls : PlainUses) (ss' : List PlainSlot) (xs' ls' : PlainUses) : Type 0 where
  pub indexed : (args : List Kind) → AreIndexed args ss xs ls → AreIndexed args ss' xs' ls'
  pub gone : AreGone ss'
  pub seen : nodes_seen xs'.lists ls'.lists ss' ≡ nodes_without (slot_at ss root).id (nodes_seen xs.lists ls.lists ss)
  pub body : origins_at ls'.lists 0 ≡ origins_at ls.lists 0
