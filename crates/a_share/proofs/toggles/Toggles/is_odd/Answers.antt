use Rattle.std.proofs.Common.{◌≡◌, ◌<◌, ◌∙◌, ap, sym, length, vec_len, nat_eq, ◌%◌, arith}
use Rattle.std.specs.Prelude.{nat_le}
use Rattle.std.proofs.lemmas.Bool.Decides.{nat_tests}
use Rattle.a_share.specs.Bounds.{bounds_of}
use Rattle.a_share.proofs.Gets.{view_at}
use Rattle.a_share.proofs.Parity.{odd_length}
use Rattle.a_share.proofs.toggles.Toggles.is_odd.Goals as goal

pub returns-then-name-len : goal.returns-then-name-len
returns-then-name-len c =
    let size : vec_len c.self.inside.lists ≡ length c.self.inside.lists.items = c.self.inside.lists.ok.0 in
    let low : c.args.name < length c.self.inside.lists.items = grind (arith, size, c.if-name-len.true, c.len.ensures) in
    let same = view_at (λ list. list.items) c.self.inside.lists.items c.args.self.now c.args.name c.index.result.now low c.index.ensures c.self.view_is in
    let odd = odd_length (nat_le 0) (bounds_of c.args.self.now c.args.name) (λ x. grind (arith, nat_tests)) in
    ap (λ n. nat_eq (n % 2) 1) (c.len-then-name-len.ensures.value ∙ ap length (sym same)) ∙ sym odd
