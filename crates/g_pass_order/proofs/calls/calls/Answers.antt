use Rattle.std.proofs.Common.{refl}
use Rattle.std.proofs.lemmas.Option.{slice_get_read}
use Rattle.g_pass_order.proofs.calls.calls.Goals as goal

pub called-requires : goal.called-requires
called-requires c f h =
    c.requires.known c.loop-lambda.lambda-index f c.lambda-item.result
    (slice_get_read c.args.lambdas.now _ c.loop-lambda.lambda-index c.lambda-item.result refl c.loop-lambda-test.true c.lambda-item.is) h
