use Rattle.cc_top.proofs.Certified.{logs_certify_images}
use Rattle.cc_top.proofs.compile_laws.logs_certify_images.Goals as goal

pub returns : goal.returns
returns c =
    logs_certify_images c.tokens_are_in_range.ensures c.checked_are_well_typed.ensures c.functions_have_names.ensures c.well_typed_are_built.ensures
    c.numbers_count_nodes.ensures.values c.programs_can_be_emitted.ensures.graphs c.programs_can_be_emitted.ensures.lists c.orders_are_unique.ensures.ranked
    c.answers_keep_lists.ensures.replayed c.answers_keep_lists-2.ensures.lists c.answers_have_few_steps.ensures
