-- Names and labels are left for what is to come.
use Rattle.std.proofs.Common.{◌≡◌, ◌<◌, ◌≤◌, ◌+◌, ◌-◌, List, [], ◌∷◌, map, length, take, drop, get_or, refl, ap, sym, arith}
use Rattle.std.proofs.lemmas.List.{length-map}
use Rattle.std.specs.declared.option.Option.{Option}
use Rattle.std.specs.declared.option.Option.TheVariants.{None}
use Rattle.g_graph.specs.declared.op.Kind.{Kind}
use Rattle.g_graph.specs.declared.op.Origin.{Origin}
use Rattle.g_graph.specs.Plain.{RegionTree, region, args_of, results_of}
use Rattle.g_graph.specs.Signatures.{kind_of, kind_after, result_kinds}
use Rattle.g_graph.specs.Count.{region_values}
use Rattle.s_sequence.specs.Sequence.{values_in, value_args, region_names}
use Rattle.s_sequence.proofs.lemmas.Named.{args_length, values_length, nodes_names_values}

pub args_room : (r : RegionTree) → value_args (args_of r) < region_values r
args_room (region args nodes results) = omega (arith, args_length args)

pub loop_room : (r : RegionTree) → value_args (args_of r) ≤ length (args_of r)
loop_room r = args_length (args_of r)

-- the results of a region, whatever their kinds, have names after those of its nodes
pub exits_room : (r : RegionTree) (results : List Origin) (f : Origin → Option Kind) → results ≡ results_of r →
    values_in (map f results) + region_names r < region_values r
exits_room (region args nodes rs) results f e =
    omega (arith, values_length (map f results), length-map results f, ap length e, args_length args, nodes_names_values nodes)

pub standing_room : (r : RegionTree) → region_names r + values_in (result_kinds r) < region_values r
standing_room (region args nodes results) =
    omega (arith, exits_room (region args nodes results) results (kind_of args (λ n p. kind_after nodes n p None)) refl)

pub value_each : (r : RegionTree) → 0 < region_values r
value_each (region args nodes results) = omega arith

-- two regions, as a first and a rest
pub second : (xs : List RegionTree) (r : RegionTree) → length xs ≡ 2 → r ≡ get_or xs 0 r →
    (s : RegionTree) × (xs ≡ r ∷ s ∷ []) × (take (length xs - 1) (drop 1 xs) ≡ s ∷ [])
second [] r h e = absurd (omega arith)
second (a ∷ []) r h e = absurd (omega arith)
second (a ∷ b ∷ []) r h e = (b, ap (λ x. x ∷ b ∷ []) (sym e), refl)
second (a ∷ b ∷ d ∷ xs) r h e = absurd (omega arith)
