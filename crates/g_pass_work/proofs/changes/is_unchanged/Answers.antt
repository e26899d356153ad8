use Rattle.std.proofs.Common.{sym, ◌∙◌, arith}
use Rattle.std.proofs.lemmas.Bool.Decides.{Decides-eqb}
use Rattle.std.proofs.lemmas.Slice.Eq.{slice_eq-Decides}
use Rattle.g_pass_work.proofs.Changed.{test-is}
use Rattle.g_pass_work.proofs.changes.is_unchanged.Goals as goal

pub returns : goal.returns
returns c =
    let test = slice_eq-Decides Decides-eqb _ _ _ c.eq.ensures in
    let x = c.index-deps-function.result in
    let y = c.index-old_deps-function.result in
    let r = c.eq.result in
    let own = c.as_slice-own.ensures.value in
    let theirs = c.as_slice.ensures.value in
    test-is c.args.old.now c.args.new.now c.args.old_deps.now c.args.deps.now c.args.function c.index-old-function.result c.index-new-function.result x y r (omega arith) c.requires.inside
    (omega arith) c.requires.has_deps c.index-old-function.is c.index-new-function.is (c.equal.ensures.0 c.if-not-equal.false) c.index-deps-function.is
    c.index-old_deps-function.is (λ e. sym own ∙ (test.0 e ∙ theirs), λ same. test.1 (own ∙ (same ∙ sym theirs)))
