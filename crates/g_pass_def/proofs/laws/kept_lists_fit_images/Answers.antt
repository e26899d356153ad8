use Rattle.g_pass_def.proofs.Images.{kept_lists_fit_images}
use Rattle.g_pass_def.proofs.laws.kept_lists_fit_images.Goals as goal

pub returns : goal.returns
returns c = kept_lists_fit_images
