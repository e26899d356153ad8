-- The law of the rule in a walk.
use Rattle.std.specs.Prelude.{List}
use Rattle.std.specs.List.{AllByRecursion}
use Rattle.g_graph.specs.Plain.{PlainLambda}
use Rattle.g_graph.specs.WellFormed.{IsWellFormed}
use Rattle.r_inline.specs.Callees.{inline_change}
use Rattle.r_inline.specs.Asked.{inline_asked}
use Rattle.r_walk.specs.Laws.{IsLocal}

-- With callees that are well formed, the rule makes of each node what a walk is told.
abbrev pub InlineIsLocal : Type 0
InlineIsLocal = (callees : List PlainLambda) → AllByRecursion IsWellFormed callees → IsLocal (inline_change callees) (inline_asked callees)
