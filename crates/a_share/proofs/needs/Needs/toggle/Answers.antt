use Rattle.std.proofs.Common.{◌≡◌, ◌<◌, ◌∙◌, ap, length, drop, get_or, vec_len, ◌+◌, arith}
use Rattle.a_share.proofs.Gets.{drop_at}
use Rattle.a_share.proofs.Toggling.{part_more}
use Rattle.a_share.proofs.needs.Needs.toggle.Goals as goal

pub loop-k-preserved : goal.loop-k-preserved
loop-k-preserved c =
    let before = c.loop-k.invariant in
    let k = c.loop-k.k in
    let xs = c.args.self.now.changed.items in
    let x = c.index.result.now in
    let size : vec_len c.args.self.now.changed ≡ length c.args.self.now.changed.items = c.args.self.now.changed.ok.0 in
    let within : k < length c.args.self.now.changed.items = grind (arith, size, c.loop-k-test.true, c.len-k-end.ensures) in
    let there : x ≡ get_or c.args.self.now.changed.items k x = c.index.ensures ∙ ap (λ v. get_or v.items k x) before.changed in
    record {
      changed = before.changed;
      depths = before.depths;
      copies = before.copies;
      toggled = λ b.
          part_more c.args.self.now.toggles c.loop-k.self.toggles c.add.new.self (drop c.args.mark xs) (drop k xs) (drop (k + 1) xs) x c.args.bound b
          (drop_at xs k x within there) c.in_ok-add.ensures (before.toggled b);
    }
