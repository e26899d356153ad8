use Rattle.s_select_keeps.proofs.Formats.{items_fit}
use Rattle.s_select_keeps.proofs.LineFormats.{templates_fit}
use Rattle.s_select_keeps.proofs.TextFormats.{text_fits}
use Rattle.s_select_keeps.proofs.laws.templates_fit_formats.Goals as goal

pub returns-clause-templates : goal.returns-clause-templates
returns-clause-templates c = templates_fit

pub returns-clause-items : goal.returns-clause-items
returns-clause-items c = items_fit

pub returns-clause-text : goal.returns-clause-text
returns-clause-text c = text_fits
