use Rattle.cc_emit.proofs.Selects.{lambda_can_select}
use Rattle.cc_emit.proofs.image_laws.lambda_can_select.Goals as goal

pub returns : goal.returns
returns c =
    lambda_can_select c.names_have_places.ensures c.objects_are_there.ensures c.calls_keep_arguments.ensures c.widths_fit.ensures
