-- The pieces put together.
use Rattle.std.proofs.Common.{◌∙◌, codes}
use Rattle.std.proofs.lemmas.Result.{on_ok_weaker}
use Rattle.cc_listing.specs.Words.{word_digits}
use Rattle.cc_listing.specs.Symbols.{commands}
use Rattle.cc_listing.proofs.Pushed.{five}
use Rattle.cc_listing.proofs.symbols.push_commands.Goals as goal

pub returns : goal.returns
returns c =
    on_ok_weaker c.push-3.result
    (λ written. written ∙ five c.args.out.now.items commands (word_digits c.args.fixed_at) (codes " -Tdata=0x") (word_digits c.args.data_at) (codes " F.o -o F.sym\n\t.option norvc\n\t.option norelax\n\t.text\n") _ _ _ _ c.in_ok-push.ensures c.in_ok-push_word.ensures c.in_ok-push-2.ensures c.in_ok-push_word-2.ensures)
    c.push-3.ensures
