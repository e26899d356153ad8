use Rattle.std.proofs.Common.{◌≡◌, ◌∙◌, false, Some, Result, Ok, Err, ap, sym, OnOk}
use Rattle.std.specs.Result.{is_err}
use Rattle.indexmap.specs.IndexMap.{get, Updates}
use Rattle.c_check_scope.specs.Scopes.{same_name}
use Rattle.c_check_scope.proofs.lemmas.Latest.{pushed}
use Rattle.c_check_scope.proofs.declarations.Declarations.push.Goals as goal

when-ok : {T E : Type 0} (P : Type 0) (r : Result T E) → false ≡ is_err r → OnOk r P → P
when-ok P (Ok x) ok is = is
when-ok P (Err e) ok is = cc

pub invariant_of-self-else-is_err : goal.invariant_of-self-else-is_err
invariant_of-self-else-is_err g c =
    let all = c.self.inside.all in
    let table = get same_name c.self.inside.latest in
    let named = c.in_ok-name.ensures.ok in
    let done = Updates same_name c.self.inside.latest c.note-noted.new.latest c.in_ok-key.key (Some c.len-index.result) in
    let noted = when-ok done c.note-noted.result c.if-is_err.ensures.value c.note-noted.ensures.ok in
    pushed table (get same_name c.note-noted.new.latest) all.items c.push.new.self.items _ c.in_ok-key.key c.len-index.result c.self.invariant c.in_ok-push.ensures.items
    (c.copied-hidden.ensures ∙ c.get.ensures.value ∙ ap table (sym named)) (c.in_ok-key.ensures.ok ∙ sym named) (c.len-index.ensures ∙ all.ok.0) noted.0
