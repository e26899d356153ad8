use Rattle.std.proofs.Common.{ℕ, List, Option, option_map, sym, ap, subst}
use Rattle.cc_view.specs.Shown.{GraphShows}
use Rattle.cc_view.proofs.shown.graph_of_made.Goals as goal

pub returns-in-Some : goal.returns-in-Some
returns-in-Some c recipe source made =
    let shown = c.function_of_made.result in
    subst (λ (f : Option (List ℕ)). GraphShows recipe f c.args.after c.args.drawing source shown.ended shown.text.items) (sym (ap (option_map (λ s. s.now)) c.in-Some.is))
    (c.function_of_made.ensures recipe source made)

pub returns-in-None : goal.returns-in-None
returns-in-None c recipe source made =
    let shown = c.functions_of_made.result in
    subst (λ (f : Option (List ℕ)). GraphShows recipe f c.args.after c.args.drawing source shown.ended shown.text.items) (sym (ap (option_map (λ s. s.now)) c.in-None.is))
    (c.functions_of_made.ensures recipe source c.args.after made)
