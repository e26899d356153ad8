use Rattle.std.proofs.Common.{◌≡◌, ◌-◌, length, drop, Some, sym, ap, ◌∙◌, arith}
use Rattle.std.proofs.lemmas.List.{take_rest, length-take, length-drop}
use Rattle.c_lex.specs.Quoted as spec
use Rattle.c_lex.proofs.Characters.{characters_push}
use Rattle.c_lex.proofs.quoted.characters.Goals as goal

pub loop-at-preserved : goal.loop-at-preserved
loop-at-preserved c =
    let text = c.args.text.now in
    let at = c.loop-at.at in
    let e : spec.character_at (drop at text) ≡ Some (c.in-Some.value, c.in-Some.n) = ap spec.character_at (sym (take_rest text at)) ∙ sym c.in-Some.ensures.character in
    record {
      within = omega (arith, c.in-Some.ensures.within.1, length-take (length text - at) (drop at text), length-drop at text);
      read = characters_push c.loop-at.values.items c.push.new.self.items c.in-Some.value c.in-Some.n at text
          (spec.characters 0 text) c.in_ok-push-in-Some.ensures.items c.in-Some.ensures.within.0 e c.loop-at-test.true c.loop-at.invariant.read;
    }
