-- The law by which a list of nodes stands for at most one lambda.
use Rattle.std.specs.Prelude.{◌≡◌, IsTrue}
use Rattle.g_graph.specs.Plain.{PlainLambda}
use Rattle.g_graph.specs.Ids.{region_ids}
use Rattle.g_graph.specs.WellFormed.{distinct}
use Rattle.g_arena_def.specs.Flat.{StandsFor, Flat}

-- no number stands twice
abbrev pub HasNumbersOnce : PlainLambda → Type 0
HasNumbersOnce l = IsTrue (distinct (region_ids l.body))

abbrev pub FlatIsOfOneLambda : Type 0
FlatIsOfOneLambda = (a : Flat) (l m : PlainLambda) → HasNumbersOnce l → HasNumbersOnce m → StandsFor a l → StandsFor a m → l ≡ m
