-- The arguments of a region or the outputs of a node, each with its name and its kind.
use Rattle.std.specs.Prelude.{ℕ, suc, List, [], ◌∷◌, ◌++◌, slice_get}
use Rattle.std.specs.declared.option.Option.{Option}
use Rattle.std.specs.declared.option.Option.TheVariants.{Some, None}
use Rattle.g_graph.specs.declared.op.Kind.{Kind}
use Rattle.g_graph.specs.declared.op.Kind.TheVariants.{Value}
use Rattle.s_sequence.specs.declared.ports.Port.{Port}

pub record PlainPorts : Type 0 where
  pub first : ℕ
  pub list : List Port
  pub end : ℕ

-- the name after one of this kind
abbrev pub name_after : Option Kind → ℕ → ℕ
name_after (Some Value) n = suc n
name_after k n = n

abbrev pub no_ports : (first : ℕ) → PlainPorts
no_ports first = record { first = first; list = []; end = first }

abbrev pub port_added : PlainPorts → Option Kind → PlainPorts
port_added ports k = record { first = ports.first; list = ports.list ++ record { name = ports.end; kind = k } ∷ []; end = name_after k ports.end }

-- after others, ports of these kinds
abbrev pub ports_added : PlainPorts → List (Option Kind) → PlainPorts
ports_added ports [] = ports
ports_added ports (k ∷ ks) = ports_added (port_added ports k) ks

-- ports of these kinds, whose names begin at `first`
abbrev pub ports_from : (first : ℕ) → List (Option Kind) → PlainPorts
ports_from first kinds = ports_added (no_ports first) kinds

abbrev pub found_at : Option Port → (end : ℕ) → Port
found_at None end = record { name = end; kind = None }
found_at (Some port) end = port

abbrev pub port_at : PlainPorts → (index : ℕ) → Port
port_at ports p = found_at (slice_get ports.list p) ports.end
