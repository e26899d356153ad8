-- As many cells hold a use as lists do.
use Rattle.g_arena_use.proofs.StoredLemmas.{stored, count_is, count_most}
use Rattle.g_arena_use.proofs.use_lists.UseLists.count.Goals as goal

pub returns-clause-value : goal.returns-clause-value
returns-clause-value c =
    count_is c.self.inside.sites.items c.self.inside.owners.items c.self.inside.uses c.args.self.now (stored c.self.inside c.args.self.now c.self.invariant c.self.view_is) c.args.used c.count.result c.count.ensures

pub returns-clause-most : goal.returns-clause-most
returns-clause-most c =
    count_most c.self.inside.sites.items c.self.inside.owners.items c.self.inside.uses c.args.self.now (stored c.self.inside c.args.self.now c.self.invariant c.self.view_is) c.args.used c.count.result c.count.ensures
