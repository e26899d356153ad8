use Rattle.std.proofs.Common.{◌≡◌, ◌++◌, [], OnErr, take, drop, length, subst, sym, ap, ◌∙◌, append-nil, take_all, rules, arith}
use Rattle.std.proofs.lemmas.List.{drop_all}
use Rattle.cc_top.specs.Watchers.{AllHaveBegun}
use Rattle.cc_top.proofs.watchers.tell_all.Goals as goal

pub returns-clause-err : goal.returns-clause-err
returns-clause-err g c =
    let long : length c.tell_rows.new.watchers ≡ length c.deref_mut.result.now = search rules in
    let held : c.args.watchers.now.len ≡ length c.args.watchers.now.items = search rules in
    let same : length c.deref_mut.result.now ≡ length c.args.watchers.now.items = ap length c.deref_mut.ensures.value in
    let none : drop (length c.tell_rows.new.watchers) c.args.watchers.now.items ≡ [] = drop_all (length c.tell_rows.new.watchers) c.args.watchers.now.items (omega (arith, long, same)) in
    let whole : take c.args.watchers.now.len (c.tell_rows.new.watchers ++ drop (length c.tell_rows.new.watchers) c.args.watchers.now.items) ≡ c.tell_rows.new.watchers =
    ap (λ rest. take c.args.watchers.now.len (c.tell_rows.new.watchers ++ rest)) none
    ∙ ap (take c.args.watchers.now.len) (append-nil c.tell_rows.new.watchers) ∙ take_all c.args.watchers.now.len c.tell_rows.new.watchers (omega (arith, long, held, same)) in
    subst
    (λ ws.
    OnErr c.tell_rows.result (
    AllHaveBegun (λ b. (goal.Watcher-dyn g (b.vtable, b.value)).named b.value) (λ b. (goal.Watcher-dyn g (b.vtable, b.value)).stands_for b.value)
    (λ b. (goal.Watcher-dyn g (b.vtable, b.value)).text_of b.value) c.args.rows.now c.args.watchers.now.items ws))
    (sym whole)
    (subst
    (λ ws.
    OnErr c.tell_rows.result (
    AllHaveBegun (λ b. (goal.Watcher-dyn g (b.vtable, b.value)).named b.value) (λ b. (goal.Watcher-dyn g (b.vtable, b.value)).stands_for b.value)
    (λ b. (goal.Watcher-dyn g (b.vtable, b.value)).text_of b.value) c.args.rows.now ws c.tell_rows.new.watchers))
    c.deref_mut.ensures.value c.tell_rows.ensures.err)
