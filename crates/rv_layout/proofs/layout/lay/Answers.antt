use Rattle.std.proofs.Common.{◌∙◌, ap, arith}
use Rattle.rv_layout.specs.Layout.{Addresses, item_lists}
use Rattle.rv_layout.proofs.lemmas.Addresses.{function_count, main_after, functions_fit, globals_fit}
use Rattle.rv_layout.proofs.layout.lay.Goals as goal

pub text_of-requires-clause-fits : goal.text_of-requires-clause-fits
text_of-requires-clause-fits c =
    functions_fit c.in_ok-addresses.addresses (item_lists c.args.functions.now) c.args.deltas.now c.in_ok-addresses.ensures c.requires.functions_fit

pub text_of-requires-clause-has_main : goal.text_of-requires-clause-has_main
text_of-requires-clause-has_main c =
    omega (arith, function_count c.in_ok-addresses.addresses (item_lists c.args.functions.now) c.args.deltas.now c.in_ok-addresses.ensures)

pub text_of-requires-clause-after_start : goal.text_of-requires-clause-after_start
text_of-requires-clause-after_start c =
    omega
    (arith, main_after c.in_ok-addresses.addresses (item_lists c.args.functions.now) c.args.deltas.now c.args.main c.in_ok-addresses.ensures c.requires.has_main)

pub fixed_section-requires-clause-fits : goal.fixed_section-requires-clause-fits
fixed_section-requires-clause-fits c =
    globals_fit c.in_ok-addresses.addresses (item_lists c.args.functions.now) c.args.deltas.now c.deref.result.now
    (c.deref.ensures.value ∙ ap (λ (a : Addresses). a.globals) c.addresses.view_is) c.in_ok-addresses.ensures c.requires.globals_fit

pub data_section-requires-clause-fits : goal.data_section-requires-clause-fits
data_section-requires-clause-fits c =
    globals_fit c.in_ok-addresses.addresses (item_lists c.args.functions.now) c.args.deltas.now c.deref-2.result.now
    (c.deref-2.ensures.value ∙ ap (λ (a : Addresses). a.globals) c.addresses.view_is) c.in_ok-addresses.ensures c.requires.globals_fit
