use Rattle.std.proofs.Common.{List, ℕ, sym, subst}
use Rattle.std.specs.Prelude.{Result, Ok, Err, IfOk}
use Rattle.cc_session.specs.Session.{IsImageKept}
use Rattle.cc_session.specs.Rebuilds.{IsRebuilt}
use Rattle.cc_session.proofs.Again.{rebuilt-again}
use Rattle.cc_session.proofs.session.Session.rebuild.Goals as goal

both : {X Y : Type 0} (r : Result X Y) (P Q R : X → Type 0) → ((x : X) → P x → Q x → R x) → IfOk r P → IfOk r Q → IfOk r R
both (Ok x) P Q R f p q = f x p q
both (Err e) P Q R f p q = tt

pub returns-in-Some-clause-rebuilt : goal.returns-in-Some-clause-rebuilt
returns-in-Some-clause-rebuilt g c =
    let now = c.self.inside.current in
    let image = c.in-Some.image.now in
    let kept = subst (λ (s : List ℕ). IsImageKept c.self.inside.last s image) c.source.ensures.same c.in-Some.ensures in
    let law = c.orders_are_unique.ensures.ranked in
    let made = rebuilt-again now c.self.inside.recipe c.self.inside.form c.self.inside.last image kept law c.self.invariant c.args.self.now (sym c.self.view_is) in
    both c.rebuild_again.result _ _ (λ it. IsRebuilt c.args.self.now it.image.items it.jobs) (λ it same none. made it.image.items it.jobs same none) c.rebuild_again.ensures.image
    c.rebuild_again.ensures.jobs
