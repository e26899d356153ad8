-- What was named before goes on being so.
use Rattle.g_graph.specs.declared.op.Origin.TheVariants.{Arg}
use Rattle.g_arena_def.specs.Flat.{body_place}
use Rattle.g_arena_use.specs.Lists.{use_in}
use Rattle.g_arena.proofs.StepLemmas.{slot_kept}
use Rattle.g_arena.proofs.making.names_of.Goals as goal

pub returns : goal.returns
returns c = record {
  body = λ k lt. c.in_ok-name_lists.ensures.kept (use_in body_place (Arg k)) (c.in_ok-name_slots.ensures.kept (use_in body_place (Arg k)) (c.in_ok-name_args.ensures.named k lt));
  slots = λ i s e. slot_kept c.name_slots.new.names c.name_lists.new.names s c.in_ok-name_lists.ensures.kept (c.in_ok-name_slots.ensures.named i s e);
  lists = c.in_ok-name_lists.ensures.named;
}
