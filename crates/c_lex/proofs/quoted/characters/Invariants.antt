use Rattle.std.proofs.Common.{◌≡◌, ◌≤◌, ◌-◌, length, drop}
use Rattle.c_lex.specs.Quoted as spec
use Rattle.c_lex.proofs.Characters.{then_characters}
use Rattle.c_lex.proofs.quoted.characters.Given as goal

abbrev pub invariant-loop-at : goal.invariant-loop-at
invariant-loop-at l = record {
  within : l.at ≤ length l.text;
  read : then_characters l.values.items (spec.characters 0 (drop l.at l.text)) ≡ spec.characters 0 l.text;
}

abbrev pub decreases-loop-at : goal.decreases-loop-at
decreases-loop-at l = length l.text - l.at
