use Rattle.std.proofs.Common.{◌≡◌, ◌++◌, ◌∙◌, ap, append_assoc, codes}
use Rattle.g_text.specs.Texts.{blanks}
use Rattle.g_text.proofs.TextLemmas.{blanks_more}
use Rattle.g_text.proofs.writing.push_blanks.Goals as goal

pub loop-preserved : goal.loop-preserved
loop-preserved c =
    let start = c.args.out.now.items in
    let more : c.push.new.out.items ≡ c.loop.out.items ++ codes "  " = c.in_ok-push.ensures in
    more ∙ ap (λ t. t ++ codes "  ") c.loop.invariant ∙ append_assoc start (blanks c.loop.counter) (codes "  ") ∙ ap (λ t. start ++ t) (blanks_more c.loop.counter)
