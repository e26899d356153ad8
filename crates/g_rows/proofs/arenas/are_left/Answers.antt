use Rattle.g_rows.proofs.arenas.are_left.Goals as goal

pub sweep_fast-requires : goal.sweep_fast-requires
sweep_fast-requires g c = record { lambda = c.args.lambda; stands = c.in_ok-arena.ensures.stands; well = c.requires.well_formed }
