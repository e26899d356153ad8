use Rattle.std.proofs.Common.{sym, ap, ◌∙◌}
use Rattle.c_check_def.specs.Initialisers.{is_address}
use Rattle.c_check_declaration.proofs.values.is_address.Goals as goal

pub returns-in-Place : goal.returns-in-Place
returns-in-Place c = c.is_global_array.ensures c.args.state.now.globals c.in-Place.is_const ∙ ap (is_address c.args.state.now.globals) (sym c.in-Place.is)
