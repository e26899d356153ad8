-- The plain form of a parsed command.
use Rattle.std.specs.Prelude.{option_map}
use Rattle.cc_view_source.specs.Command.{Command, graph, steps, listing, explain}
use Rattle.cc_view_source.specs.declared.arguments.Command.{Command as Parsed}
use Rattle.cc_view_source.specs.declared.arguments.Command.TheVariants.{Graph, Steps, Listing, Explain}

abbrev pub plain_command : Parsed → Command
plain_command (Graph source recipe function after drawing) = graph source.now recipe.now (option_map (λ s. s.now) function) after drawing
plain_command (Steps source recipe) = steps source.now recipe.now
plain_command (Listing source recipe) = listing source.now recipe.now
plain_command (Explain source recipe) = explain source.now recipe.now
