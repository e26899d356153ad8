-- What stands around a node in a walk: the constants that were written before it in its region, and the outputs that are used.
use Rattle.std.specs.Prelude.{◌≡◌, ℕ, ◌*◌, ◌+◌, ◌^◌, ◌<◌, Bool, true, List, option_map, nat_eq}
use Rattle.std.specs.declared.option.Option.{Option}
use Rattle.std.specs.declared.option.Option.TheVariants.{Some, None}
use Rattle.g_graph.specs.declared.op.Origin.{Origin}
use Rattle.g_graph.specs.declared.op.Origin.TheVariants.{Out}
use Rattle.g_graph.specs.Nodes.{node_at, const_word}
use Rattle.g_graph.specs.Plain.{NodeTrees}
use Rattle.r_walk.specs.declared.uses.Uses.{Uses}
use Rattle.r_walk.specs.declared.words.Words.{Words}
use Rattle.r_walk.specs.Walk.{is_in}
use Rattle.indexmap.specs.IndexMap.{get}
use Rattle.indexmap.specs.IndexSet.{contains}

abbrev pub joined_word : Option (Option ℕ) → Option ℕ
joined_word None = None
joined_word (Some w) = w

abbrev pub word_in : Words → ℕ → Option ℕ
word_in w n = joined_word (get nat_eq w.words n)

-- the words of these nodes, of nodes of one number the first's
abbrev pub AreWords : Words → NodeTrees → Type 0
AreWords w before = (n : ℕ) → get nat_eq w.words n ≡ option_map const_word (node_at n before)

-- an output stands as one number
abbrev pub uses_in : Uses → (n port : ℕ) → Bool
uses_in u n p = contains nat_eq u.outputs (n * 2 ^ 32 + p)

abbrev pub AreUses : Uses → List Origin → Type 0
AreUses u os = (n p : ℕ) → p < 2 ^ 32 → uses_in u n p ≡ is_in os (Out n p)

-- Where a rule looks around, the walk keeps both.
abbrev pub IsAround : (looks : Bool) → Words → Uses → NodeTrees → List Origin → Type 0
IsAround looks w u before os = looks ≡ true → AreWords w before × AreUses u os
