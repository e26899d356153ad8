use Rattle.std.proofs.Common.{◌≡◌, drop}
use Rattle.std.specs.declared.option.Option.TheVariants.{Some}
use Rattle.g_graph.specs.declared.op.Kind.TheVariants.{Value}
use Rattle.g_graph.specs.Scope.{is_of}
use Rattle.g_graph.specs.WellFormed.{all_of}
use Rattle.g_graph.proofs.kind_lists.are_values.Given as goal

abbrev pub invariant-loop-kind : goal.invariant-loop-kind
invariant-loop-kind l = all_of (λ k. is_of Value (Some k)) (drop l.kind-index l.kinds) ≡ all_of (λ k. is_of Value (Some k)) l.kinds
