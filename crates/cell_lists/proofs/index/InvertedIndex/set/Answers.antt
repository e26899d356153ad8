-- A cell loses its key, and comes to hold another.
use Rattle.cell_lists.proofs.KeyLemmas.{after_clear, set_twice}
use Rattle.cell_lists.proofs.index.InvertedIndex.set.Goals as goal

pub put-requires : goal.put-requires
put-requires c =
    let p = after_clear c.args.self.now c.clear.new.self c.args.cell c.args.key c.clear.ensures c.requires.cell_in c.requires.key_in in
    record { cell_in = p.0; key_in = p.1; free = p.2 }

pub returns : goal.returns
returns c = set_twice c.args.self.now c.clear.new.self c.put.new.self c.args.cell c.args.key c.clear.ensures c.put.ensures
