use Rattle.std.proofs.Common.{Some, option_map, sym, ap, ◌∙◌}
use Rattle.g_graph.specs.Plain.{inputs_in}
use Rattle.g_graph.specs.Replace.{region_redirected}
use Rattle.g_graph.specs.Splice.{args_to_inputs, region_spliced}
use Rattle.r_invert.proofs.rule.InvertingChange.make.Goals as goal

pub returns-clause-ok : goal.returns-clause-ok
returns-clause-ok c =
    ap (option_map (λ x. region_spliced c.args.self.now.node (region_redirected (args_to_inputs (inputs_in x)) c.args.self.now.part) c.args.region.now)) (sym c.in-Some.ensures)
    ∙ ap (λ os. Some (region_spliced c.args.self.now.node (region_redirected (args_to_inputs os) c.args.self.now.part) c.args.region.now)) (ap inputs_in (sym c.found.view_is) ∙ sym c.as_slice.ensures)
    ∙ ap Some (sym (c.in_ok-splice_region.ensures.ok ∙ ap (λ part. region_spliced c.args.self.now.node part c.args.region.now) c.with_inputs-part.ensures))
