use Rattle.s_select_keeps.proofs.Functions as lemma
use Rattle.s_select_keeps.proofs.laws.functions_run.Goals as goal

pub returns : goal.returns
returns c =
    lemma.functions_run c.instructions_are_done.ensures c.store_keeps_blocks.ensures c.clear_keeps_blocks.ensures c.new_blocks_keep_loads.ensures
    c.closed_blocks_keep_loads.ensures
