use Rattle.std.proofs.Common.{◌≡◌, arith}
use Rattle.std.specs.declared.option.Option.TheVariants.{Some}
use Rattle.g_pass_order.specs.Calls.{region_calls}
use Rattle.cc_view.specs.Depths.{greater, most_of}
use Rattle.cc_view.proofs.Lists.{frame_fits}
use Rattle.cc_view.proofs.calling.depth_of.Goals as goal

pub overflow_add-result : goal.overflow_add-result
overflow_add-result c =
    let is : greater (Some 0) (most_of c.args.depths.now (region_calls c.lambda.inside.body)) ≡ Some c.in-Some.most = cc in
    omega (arith, frame_fits c.args.depths.now (region_calls c.lambda.inside.body) c.args.frame c.in-Some.most (omega arith) c.requires is)
