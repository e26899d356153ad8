use Rattle.std.proofs.Common.{◌≡◌, [], ◌∷◌, ◌++◌, ◌∙◌, ap, refl, length, set, get_or, arith, vec_len}
use Rattle.std.proofs.lemmas.Result.{on_ok_weaker}
use Rattle.a_place.proofs.Steps.{placed}
use Rattle.a_place.proofs.sweep.Sweep.give.Goals as goal

pub returns-clause-sweep : goal.returns-clause-sweep
returns-clause-sweep c =
    let size : vec_len c.args.self.now.of ≡ length c.args.self.now.of.items = c.args.self.now.of.ok.0 in
    on_ok_weaker c.put.result
    (λ put ls i gs starts ends within s.
    placed ls i c.args.name c.args.end c.take-place.result gs c.args.self.now c.take-place.new.self _
    starts ends within (omega (arith, size, c.requires.name)) s c.take-place.ensures.taken c.take-place.ensures.free
    (ap (λ of. set of.items c.args.name c.take-place.result) c.take-place.ensures.of) refl refl c.requires.end
    (put ∙ ap (λ lists. set lists c.args.end (get_or lists c.args.end [] ++ c.take-place.result ∷ [])) c.take-place.ensures.ends))
    c.put.ensures
