-- Names stand once still.
use Rattle.std.proofs.Common.{List, ◌∷◌, ◌++◌, [], cond, ap, sym, subst, ◌∙◌}
use Rattle.g_arena_use.specs.declared.use_index.Use.{Use}
use Rattle.g_arena_use.specs.Named.{AreOnce}
use Rattle.g_arena_use.proofs.NameLemmas.{once_with, any_is}
use Rattle.g_arena_use.proofs.use_index.UseNames.add.Goals as goal

pub invariant_of-self-2 : goal.invariant_of-self-2
invariant_of-self-2 c =
    let ks = c.self.inside.set.keys in
    let P : List Use → Type 0 = λ us. AreOnce us in
    subst P (sym (c.in_ok-insert.ensures.keys ∙ ap (λ b. cond b c.self.inside.set.keys (c.self.inside.set.keys ++ c.args.name ∷ [])) (any_is c.args.name c.self.inside.set.keys)))
    (once_with c.args.name c.self.inside.set.keys c.self.invariant)
