use Rattle.std.proofs.Common.{◌≡◌, ◌++◌, ◌∷◌, [], ◌/◌, ◌*◌, ◌^◌}
use Rattle.c_typed.specs.Typed.{word_at}
use Rattle.g_build_def.specs.Globals.{bytes_from}
use Rattle.g_build.proofs.globals.push_word.Given as goal

abbrev pub invariant-loop-i : goal.invariant-loop-i
invariant-loop-i l = record {
  bytes : l.bytes.items ≡ l.initial.bytes.items ++ bytes_from (word_at l.offset l.width l.word ∷ []) l.offset l.i;
  rest : l.rest ≡ l.word / 2 ^ (8 * l.i);
}
