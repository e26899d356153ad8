use Rattle.std.proofs.Common.{◌∙◌, ap}
use Rattle.std.specs.Map.{lookup}
use Rattle.std.specs.Option.{is_some}
use Rattle.std.proofs.lemmas.Result.{on_ok_weaker}
use Rattle.c_check_scope.specs.Scopes.{same_name}
use Rattle.c_check_scope.proofs.TagsLemmas.{named-last}
use Rattle.c_check_scope.proofs.tags.Tags.number.Goals as goal

pub returns-clause-tags : goal.returns-clause-tags
returns-clause-tags c =
    let tags = c.args.self.now in
    let name = c.args.name.now in
    let none = c.in_default.ensures.found ∙ ap (λ es. is_some (lookup (same_name name) es)) c.self.view_is in
    on_ok_weaker c.put.result (λ made. made ∙ named-last tags name none) c.put.ensures.tags
