-- A choice ends.
use Rattle.std.specs.Prelude.{Option, option_to_list, is_some}
use Rattle.g_graph.specs.declared.op.Origin.{Origin}
use Rattle.g_graph.specs.declared.op.Op.TheVariants.{Gamma}
use Rattle.g_build_expression.specs.declared.choices.RegionOrder.{RegionOrder}
use Rattle.g_build_expression.specs.declared.choices.RegionOrder.TheVariants.{ZeroFirst, OneFirst}
use Rattle.g_build_expression.specs.Work.{Work, closed, with_exchanged, ended}

-- the branches stand in the order of their regions
abbrev pub in_order : RegionOrder → Work → Work
in_order ZeroFirst w = w
in_order OneFirst w = with_exchanged w

-- The branch that stands open is closed with this result, if any, and the Gamma ends.
abbrev pub chosen : RegionOrder → (result : Option Origin) → Work → Work
chosen o r w = ended Gamma (is_some r) (in_order o (closed (option_to_list r) w))
