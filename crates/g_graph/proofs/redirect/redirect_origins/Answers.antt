use Rattle.std.proofs.Common.{sym, ◌∙◌, refl, get_or, arith}
use Rattle.g_graph.specs.declared.op.Origin.TheVariants.{Arg}
use Rattle.g_graph.proofs.lemmas.Mapped.{mapped_none, mapped_more, mapped_all}
use Rattle.g_graph.proofs.redirect.redirect_origins.Goals as goal

pub loop-origin-init : goal.loop-origin-init
loop-origin-init g c = sym (mapped_none (g.R.Redirect.redirected c.args.by.now) 0 0 c.args.origins.now (omega arith))

pub loop-origin-preserved : goal.loop-origin-preserved
loop-origin-preserved g c =
    mapped_more (g.R.Redirect.redirected c.args.by.now) 0 c.loop-origin.origin-index c.args.origins.now c.loop-origin.origins
    (get_or c.loop-origin.origins c.loop-origin.origin-index (Arg 0)) c.redirect.result (Arg 0) c.loop-origin.invariant (omega arith) c.loop-origin-test.true refl c.redirect.ensures

pub returns : goal.returns
returns g c =
    c.loop-origin.invariant ∙ mapped_all (g.R.Redirect.redirected c.args.by.now) 0 c.loop-origin.origin-index c.args.origins.now c.loop-origin-test.false
