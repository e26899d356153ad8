use Rattle.std.proofs.Common.{◌≡◌, ◌+◌, ◌-◌, ◌*◌, ◌&&◌, ◌||◌, not, true, false, refl, ap, sym, drop, ◌∙◌, arith}
use Rattle.r_edit.specs.InPlace.{all_stay}
use Rattle.r_sweep.specs.Removals.{from_last, entry_removed}
use Rattle.r_dne.specs.Listed.{used_arguments}
use Rattle.r_dne.specs.Gone.{with_note}
use Rattle.r_dne.proofs.EntryJudged.{entry_args, now_stays, now_gone, now_all, now_entries, now_unused, none_judged, some_kinds, noted_too, last_true, nothing_more, not_both, both_are}
use Rattle.r_dne.proofs.Gammas.{on_err}
use Rattle.r_dne.proofs.gamma_sweep.shrink_entries.Goals as goal

pub is_entry_used-requires : goal.is_entry_used-requires
is_entry_used-requires g c =
    let k = some_kinds c.args.count in
    entry_args c.args.shape.node c.args.shape.regions c.args.count c.args.arena.now c.requires k.0 k.1 c.loop-index.index c.loop-index-test.true c.loop-index.invariant.within c.loop-index.arena (c.loop-index.invariant.gone k.0 k.1)

pub remove_entry-requires-clause-entries : goal.remove_entry-requires-clause-entries
remove_entry-requires-clause-entries g c =
    let k = some_kinds c.args.count in
    now_entries c.args.shape.node c.args.shape.regions c.args.count c.args.arena.now c.requires k.0 k.1 c.loop-index.index c.loop-index-test.true c.loop-index.invariant.within c.loop-index.arena (c.loop-index.invariant.gone k.0 k.1)
    c.is_entry_used.result c.is_entry_used.ensures.used

pub remove_entry-requires-clause-unused : goal.remove_entry-requires-clause-unused
remove_entry-requires-clause-unused g c =
    let k = some_kinds c.args.count in
    now_unused c.args.shape.node c.args.shape.regions c.args.count c.args.arena.now c.requires k.0 k.1 c.loop-index.index c.loop-index-test.true c.loop-index.invariant.within c.loop-index.arena (c.loop-index.invariant.gone k.0 k.1)
    c.is_entry_used.result c.is_entry_used.ensures.used c.if-not-is_entry_used.true

pub loop-index-init : goal.loop-index-init
loop-index-init g c = record {
  gone = λ ks len. sym (ap (λ ts. from_last (entry_removed c.args.shape.node c.args.shape.regions) c.args.count ts c.args.arena.now)
      (none_judged c.args.shape.node c.args.shape.regions c.args.count c.args.arena.now ks len));
  noted = λ ks len. nothing_more c.args.noted (drop c.args.count (used_arguments c.args.arena.now c.args.shape.node c.args.shape.regions 0 ks))
      (none_judged c.args.shape.node c.args.shape.regions c.args.count c.args.arena.now ks len);
  kept = λ q. refl;
  first = λ q. q;
  log = sym (ap (λ t. with_note t c.args.shape.node c.args.log.now.items) (not_both c.args.noted));
  within = omega arith;
  looks = omega arith;
}

pub loop-index-preserved : goal.loop-index-preserved
loop-index-preserved g c =
    let one : (c.loop-index.index - 1) + 1 ≡ c.loop-index.index = omega arith in
    record {
      gone = λ ks len. now_stays c.args.shape.node c.args.shape.regions c.args.count c.args.arena.now c.requires ks len c.loop-index.index c.loop-index-test.true c.loop-index.invariant.within c.loop-index.arena
          (c.loop-index.invariant.gone ks len) c.is_entry_used.result c.is_entry_used.ensures.used c.if-not-is_entry_used.false;
      noted = λ ks len. c.loop-index.invariant.noted ks len
          ∙ sym (ap (λ u. c.args.noted || not u)
          (now_all c.args.shape.node c.args.shape.regions c.args.count c.args.arena.now c.requires ks len c.loop-index.index c.loop-index-test.true c.loop-index.invariant.within c.loop-index.arena
          (c.loop-index.invariant.gone ks len) c.is_entry_used.result c.is_entry_used.ensures.used
          ∙ ap (λ t. t && all_stay (drop c.loop-index.index (used_arguments c.args.arena.now c.args.shape.node c.args.shape.regions 0 ks))) c.if-not-is_entry_used.false));
      kept = c.loop-index.invariant.kept;
      first = c.loop-index.invariant.first;
      log = c.loop-index.invariant.log;
      within = omega arith;
      looks = omega (arith, ap (λ k. (2 * c.args.shape.regions + 1) * k) one);
    }

pub loop-index-preserved-then-not-is_entry_used : goal.loop-index-preserved-then-not-is_entry_used
loop-index-preserved-then-not-is_entry_used g c =
    let one : (c.loop-index.index - 1) + 1 ≡ c.loop-index.index = omega arith in
    record {
      gone = λ ks len. c.remove_entry.ensures.gone
          ∙ now_gone c.args.shape.node c.args.shape.regions c.args.count c.args.arena.now c.requires ks len c.loop-index.index c.loop-index-test.true c.loop-index.invariant.within c.loop-index.arena
          (c.loop-index.invariant.gone ks len) c.is_entry_used.result c.is_entry_used.ensures.used c.if-not-is_entry_used.true;
      noted = λ ks len. sym (ap (λ u. c.args.noted || not u)
          (now_all c.args.shape.node c.args.shape.regions c.args.count c.args.arena.now c.requires ks len c.loop-index.index c.loop-index-test.true c.loop-index.invariant.within c.loop-index.arena
          (c.loop-index.invariant.gone ks len) c.is_entry_used.result c.is_entry_used.ensures.used
          ∙ ap (λ t. t && all_stay (drop c.loop-index.index (used_arguments c.args.arena.now c.args.shape.node c.args.shape.regions 0 ks))) c.if-not-is_entry_used.true)
          ∙ last_true c.args.noted);
      kept = λ q. absurd (let d : true ≡ false = q in cc);
      first = λ q. absurd (let d : true ≡ false = q in cc);
      log = c.in_ok-note.ensures.ok ∙ noted_too c.args.noted c.loop-index.noted c.args.shape.node c.args.log.now.items c.loop-index.log.items c.loop-index.invariant.log c.loop-index.invariant.first;
      within = omega arith;
      looks = omega (arith, ap (λ k. (2 * c.args.shape.regions + 1) * k) one);
    }

pub returns-clause-gone : goal.returns-clause-gone
returns-clause-gone g c = λ ks len.
    let last : c.loop-index.index ≡ 0 = omega arith in
    c.loop-index.invariant.gone ks len
    ∙ ap (λ k. from_last (entry_removed c.args.shape.node c.args.shape.regions) k (drop k (used_arguments c.args.arena.now c.args.shape.node c.args.shape.regions 0 ks)) c.args.arena.now) last

pub returns-clause-log : goal.returns-clause-log
returns-clause-log g c = λ ks len.
    let last : c.loop-index.index ≡ 0 = omega arith in
    let es = used_arguments c.args.arena.now c.args.shape.node c.args.shape.regions 0 ks in
    c.loop-index.invariant.log
    ∙ ap (λ t. with_note t c.args.shape.node c.args.log.now.items)
    (both_are c.args.noted c.loop-index.noted (not (all_stay es)) (c.loop-index.invariant.noted ks len ∙ ap (λ k. c.args.noted || not (all_stay (drop k es))) last))

pub returns-in_err-note-clause-err_noted : goal.returns-in_err-note-clause-err_noted
returns-in_err-note-clause-err_noted g c = on_err _ c.from_residual.result (c.loop-index.invariant.first c.in_err-note.ensures.err_noted)

pub returns-in_err-note-clause-err_arena : goal.returns-in_err-note-clause-err_arena
returns-in_err-note-clause-err_arena g c = on_err _ c.from_residual.result (c.loop-index.invariant.kept c.in_err-note.ensures.err_noted)

pub returns-in_err-note-clause-err_log : goal.returns-in_err-note-clause-err_log
returns-in_err-note-clause-err_log g c =
    on_err _ c.from_residual.result
    (c.in_err-note.ensures.err ∙ c.loop-index.invariant.log ∙ ap (λ t. with_note (t && not c.args.noted) c.args.shape.node c.args.log.now.items) c.in_err-note.ensures.err_noted)

pub returns-in_err-note-clause-looks : goal.returns-in_err-note-clause-looks
returns-in_err-note-clause-looks g c =
    let one : (c.loop-index.index - 1) + 1 ≡ c.loop-index.index = omega arith in
    omega (arith, ap (λ k. (2 * c.args.shape.regions + 1) * k) one)
