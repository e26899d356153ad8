use Rattle.std.proofs.Common.{◌≡◌, map, take}
use Rattle.std.specs.Arc.{arc_value}
use Rattle.rv_layout.specs.Layout.{item_lists}
use Rattle.cc_emit.specs.Image.{function_items, lambdas_of}
use Rattle.cc_emit.proofs.functions.all_items.Given as goal

abbrev pub invariant-loop-answer : goal.invariant-loop-answer
invariant-loop-answer l = item_lists l.all.items ≡ map (function_items l.form) (lambdas_of (map arc_value (take l.answer-index l.answers)))
