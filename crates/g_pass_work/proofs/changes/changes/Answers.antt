use Rattle.std.proofs.Common.{◌≡◌, [], ◌∷◌, ℕ, false, true, length, slice_index_or, List, Bool, sym, ap, ◌∙◌, subst, arith, length-append}
use Rattle.std.specs.Prelude.{◌↔◌, not}
use Rattle.call_order.specs.Units.{call_lists}
use Rattle.g_pass_work.specs.Stale.{IsUnchanged}
use Rattle.g_pass_work.proofs.Changed.{one-more}
use Rattle.g_pass_work.proofs.changes.changes.Goals as goal

pub loop-function-preserved : goal.loop-function-preserved
loop-function-preserved c =
    let before = c.loop-function.changed.items in
    let n = c.loop-function.function in
    let P : ℕ → Type 0 = λ j. IsUnchanged c.args.old.now (call_lists c.args.old_deps.now) c.args.new.now (call_lists c.args.deps.now) j in
    let is = c.in_ok-push.ensures.items in (
      ap length is ∙ (length-append before (not c.is_unchanged.result ∷ []) ∙ omega (arith, c.loop-function.invariant.0)),
      λ j low. subst (λ (bs : List Bool). (slice_index_or bs j true ≡ false) ↔ P j) (sym is)
          (one-more P before n c.is_unchanged.result c.loop-function.invariant.0 c.loop-function.invariant.1 c.is_unchanged.ensures j low),
    )
