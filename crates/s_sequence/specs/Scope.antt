-- The names and kinds of a region's origins, as the code finds them.
use Rattle.std.specs.Prelude.{ℕ}
use Rattle.std.specs.Ordering.{nat_cmp}
use Rattle.std.specs.BTreeMap.{get}
use Rattle.std.specs.declared.option.Option.{Option}
use Rattle.std.specs.declared.option.Option.TheVariants.{Some, None}
use Rattle.g_graph.specs.declared.op.Kind.{Kind}
use Rattle.g_graph.specs.declared.op.Origin.{Origin}
use Rattle.g_graph.specs.declared.op.Origin.TheVariants.{Arg, Out}
use Rattle.s_sequence.specs.declared.ports.Port.{Port}
use Rattle.s_sequence.specs.declared.scope.Scope.{Scope}
use Rattle.s_sequence.specs.Sequence.{Names}
use Rattle.s_sequence.specs.Ports.{PlainPorts, port_at}

-- an output of a node that is not there has the name 0, as in `no_names`
abbrev pub found_in : Option PlainPorts → (port : ℕ) → Port
found_in None p = record { name = 0; kind = None }
found_in (Some ports) p = port_at ports p

abbrev pub port_in : Scope → Origin → Port
port_in s (Arg k) = port_at s.args k
port_in s (Out n p) = found_in (get nat_cmp s.outputs n) p

abbrev pub name_in : Scope → Origin → ℕ
name_in s o = (port_in s o).name

abbrev pub kind_in : Scope → Origin → Option Kind
kind_in s o = (port_in s o).kind

abbrev pub names_in : Scope → Names
names_in s n p = name_in s (Out n p)
