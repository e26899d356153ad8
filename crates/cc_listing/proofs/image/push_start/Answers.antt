-- The pieces put together.
use Rattle.std.proofs.Common.{◌∙◌, [], codes, drop, take}
use Rattle.std.proofs.lemmas.Result.{on_ok_weaker}
use Rattle.elf_file.specs.Image.{text_at}
use Rattle.rv_layout.specs.Layout.{get_at, put_at}
use Rattle.cc_listing.specs.Lines.{start_text}
use Rattle.cc_listing.specs.Symbols.{stub_text}
use Rattle.cc_listing.proofs.Pushed.{three}
use Rattle.cc_listing.proofs.image.push_start.Goals as goal

pub returns : goal.returns
unfolding start_text
returns c =
    let ws = c.args.words.now in
    on_ok_weaker c.push_stub-3.result
    (λ written. written
    ∙ three c.args.out.now.items (stub_text (codes "$start") (codes "main") text_at (take 8 ws)) (stub_text (codes "$put") [] put_at (take 9 (drop 8 ws)))
    (stub_text (codes "$get") [] get_at (take 12 (drop 17 ws))) _ _ c.in_ok-push_stub.ensures c.in_ok-push_stub-2.ensures)
    c.push_stub-3.ensures
