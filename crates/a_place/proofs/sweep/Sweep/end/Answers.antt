use Rattle.std.proofs.Common.{◌||◌, ◌==◌, ◌∙◌, ap, refl}
use Rattle.std.specs.BTreeSet.{contains}
use Rattle.std.specs.Ordering.{nat_cmp}
use Rattle.std.proofs.lemmas.Result.{on_ok_weaker}
use Rattle.g_graph.specs.WellFormed.{some_of}
use Rattle.a_place.proofs.Steps.{ended}
use Rattle.a_place.proofs.sweep.Sweep.end.Goals as goal

pub returns-clause-sweep : goal.returns-clause-sweep
returns-clause-sweep c =
    on_ok_weaker c.insert_all.result
    (λ free ls gs s.
    ended ls c.args.position gs c.args.self.now
    (record { of = c.args.self.now.of; count = c.args.self.now.count; free = c.insert_all.new.set; ends = c.args.self.now.ends })
    refl refl refl (λ q. free q ∙ ap (λ list. some_of (λ p. p == q) list || contains nat_cmp c.args.self.now.free q) c.get.ensures) s)
    c.insert_all.ensures
