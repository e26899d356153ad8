use Rattle.std.proofs.Common.{◌≡◌, ℕ, true, false, List, Vec, Global, slice_index_or, Contains, sym, subst, ◌∙◌, arith}
use Rattle.std.specs.Prelude.{◌↔◌, not}
use Rattle.std.proofs.lemmas.List.{length-map}
use Rattle.call_order.specs.Units.{call_lists}
use Rattle.g_pass_work.proofs.Rows.{row}
use Rattle.g_pass_work.proofs.Settled.{settled-here, settled-still, right-value}
use Rattle.g_pass_work.proofs.spread.settle.Goals as goal

pub is_kept-is_kept-requires-clause-known : goal.is_kept-is_kept-requires-clause-known
is_kept-is_kept-requires-clause-known c d h =
    let own = row c.args.deps.now c.args.function c.index-deps-function.result c.requires.inside c.index-deps-function.is ∙ sym c.as_slice-own.ensures.value in
    omega (arith, c.requires.known c.args.function d (subst (λ (xs : List ℕ). Contains xs d) (sym own) h), length-map c.args.deps.now (λ (x : Vec ℕ Global). x.items), c.requires.all_stale)

pub returns-clause-settled : goal.returns-clause-settled
returns-clause-settled c =
    let own = row c.args.deps.now c.args.function c.index-deps-function.result c.requires.inside c.index-deps-function.is ∙ sym c.as_slice-own.ensures.value in
    let deps = call_lists c.args.deps.now in
    let stale = c.args.stale.now in
    let f = c.args.function in
    let b = c.is_kept-is_kept.result in
    let test = subst (λ (xs : List ℕ). (b ≡ true) ↔ ((slice_index_or c.args.changed.now f true ≡ false) × ((d : ℕ) → Contains xs d → slice_index_or stale d true ≡ false))) (sym own)
    c.is_kept-is_kept.ensures in
    settled-here deps c.args.changed.now stale f (not b) (omega (arith, c.requires.inside, c.requires.all_stale)) (right-value deps c.args.changed.now stale f b c.requires.settled test)

pub returns-clause-kept : goal.returns-clause-kept
returns-clause-kept c =
    let own = row c.args.deps.now c.args.function c.index-deps-function.result c.requires.inside c.index-deps-function.is ∙ sym c.as_slice-own.ensures.value in
    let deps = call_lists c.args.deps.now in
    let stale = c.args.stale.now in
    let f = c.args.function in
    let b = c.is_kept-is_kept.result in
    let test = subst (λ (xs : List ℕ). (b ≡ true) ↔ ((slice_index_or c.args.changed.now f true ≡ false) × ((d : ℕ) → Contains xs d → slice_index_or stale d true ≡ false))) (sym own)
    c.is_kept-is_kept.ensures in
    settled-still deps c.args.changed.now stale f (not b) (omega (arith, c.requires.inside, c.requires.all_stale)) (right-value deps c.args.changed.now stale f b c.requires.settled test)
