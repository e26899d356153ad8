use Rattle.std.proofs.Common.{◌≡◌, ℕ, refl, subst, arith}
use Rattle.val_core.specs.Objects.{word_of}
use Rattle.c_interp_store.specs.declared.store.Store.{Store}
use Rattle.c_interp_store.specs.Blocks.{whole_block}
use Rattle.c_interp_store.specs.Holding.{IsGrown}
use Rattle.c_interp_store.proofs.Holding.{grown}
use Rattle.c_interp_store.proofs.store.Store.push.Goals as goal

pub returns-clause-grown : goal.returns-clause-grown
returns-clause-grown c =
    let size : c.args.size ≡ word_of c.args.size = omega (arith, c.ranges.size.fits) in
    let t : Store = record { blocks = c.push.new.self; made = c.in-Some.made } in
    subst (λ (n : ℕ). IsGrown c.args.self.now t (whole_block n c.args.fixed c.args.cells.items)) size
    (λ first count calls m last h. grown c.args.self.now t _ c.in_ok-push.ensures.items c.in-Some.ensures.1 refl first count calls m last h)
