use Rattle.std.proofs.Common.{◌≡◌, ◌+◌, ◌++◌, ◌∷◌, [], Some, None, slice_get, take, sym, ap, ◌∙◌, arith}
use Rattle.std.proofs.lemmas.List.{take_more}
use Rattle.std.proofs.lemmas.Option.{slice_get-get_or}
use Rattle.c_check_def.specs.Externals.{Member, types_of}
use Rattle.c_check.proofs.TypeLemmas.{types-more, types-none}
use Rattle.c_check.proofs.member_list.types_of.Goals as goal

pub returns-in-None : goal.returns-in-None
returns-in-None c =
    let xs = c.args.members.now in
    let i = c.loop-x.x-index in
    let x = c.x-item.result in
    let here : slice_get xs i ≡ Some x = slice_get-get_or xs i x (omega arith) ∙ ap Some (sym c.x-item.is) in
    let none : x.type ≡ None = sym (ap (λ (x : Member). x.type) c.x.view_is) ∙ c.in-None.ensures in
    types-none xs i x here none

pub loop-x-preserved : goal.loop-x-preserved
loop-x-preserved c =
    let xs = c.args.members.now in
    let i = c.loop-x.x-index in
    let x = c.x-item.result in
    let t = c.in-Some.ty.now.value in
    let some : x.type ≡ Some t = sym (ap (λ (x : Member). x.type) c.x.view_is) ∙ c.in-Some.ensures in
    let grown : take (i + 1) xs ≡ take i xs ++ x ∷ [] = take_more xs i x (omega arith) ∙ ap (λ ys. take i xs ++ ys ∷ []) (sym c.x-item.is) in
    let copied : c.in_ok-copy-in-Some.field-0 ≡ t = c.in_ok-copy-in-Some.ensures ∙ c.deref.ensures in
    let pushed : c.push.new.self.items ≡ c.loop-x.types.items ++ c.in_ok-copy-in-Some.field-0 ∷ [] = c.in_ok-push-in-Some.ensures.items in
    ap types_of grown ∙ types-more (take i xs) x c.loop-x.types.items t c.loop-x.invariant some
    ∙ ap (λ u. Some (c.loop-x.types.items ++ u ∷ [])) (sym copied) ∙ ap Some (sym pushed)
