use Rattle.std.proofs.Common.{◌≡◌, ◌++◌, ◌<◌, ◌∙◌, ap, append_assoc, arith, codes, flat_map, length, slice_get, take}
use Rattle.g_graph.specs.Signatures.{joined, output_kinds}
use Rattle.g_text.specs.Texts.{kind_text}
use Rattle.g_text.proofs.TextLemmas.{letters_more}
use Rattle.g_text.proofs.writing.push_outputs.Goals as goal

pub loop-port-preserved : goal.loop-port-preserved
loop-port-preserved c =
    let start = c.args.out.now.items in
    let kinds = output_kinds c.args.node.now in
    let port = c.loop-port.port in
    let so_far = flat_map kind_text (take port kinds) in
    let letter : c.letter.result.now ≡ kind_text (joined (slice_get kinds port)) = c.letter.ensures ∙ ap kind_text c.output_kind.ensures in
    let more : c.push-in-loop-port.new.out.items ≡ c.loop-port.out.items ++ c.letter.result.now = c.in_ok-push-2.ensures in
    let below : port < length kinds = omega (arith, c.outputs-count.ensures, c.loop-port-test.true) in
    more ∙ ap (λ t. t ++ c.letter.result.now) c.loop-port.invariant ∙ append_assoc (start ++ codes " ") so_far c.letter.result.now
    ∙ ap (λ t. start ++ codes " " ++ t) (ap (λ t. so_far ++ t) letter ∙ letters_more kinds port below)
