use Rattle.std.proofs.Common.{◌≡◌, ℕ, suc, ◌+◌, ◌<◌, ◌&&◌, ◌++◌, ◌∷◌, [], Some, take, length, refl, sym, ap, ◌∙◌, arith, false}
use Rattle.std.proofs.lemmas.List.{take_more, take_all, length-take-le}
use Rattle.c_ast.specs.Declarations.{init_tree, inits}
use Rattle.c_ast.specs.Expressions.{expr_tree}
use Rattle.c_ast.proofs.lemmas.InitViews.{tree-Value}
use Rattle.c_typed.specs.Typed.{no_elements}
use Rattle.c_check_def.specs.State.{if_some}
use Rattle.c_check_def.specs.Initialisers.{both_joined, initialiser, elements, list_for, sets_to_zero, count_in, part_of, part_at}
use Rattle.c_check_declaration.specs.Pieces.{if_made}
use Rattle.c_check_declaration.specs.Parts.{element}
use Rattle.c_check_declaration.proofs.InitLemmas.{count-inits}
use Rattle.c_check_declaration.proofs.PieceLemmas.{joined-none}
use Rattle.c_check_declaration.proofs.BegunLemmas.{elements-one, elements-more, list-zero, list-elements, made-both}
use Rattle.c_check_declaration.proofs.initialisers.+initialiser.Goals as goal
use Rattle.c_check_declaration.proofs.initialisers.+initialiser.Goals.{then-made, else-made}

pub returns-in-Value-clause-made : goal.returns-in-Value-clause-made
returns-in-Value-clause-made t c =
    let v : init_tree c.args.init.now ≡ expr_tree c.in-Value.e = ap init_tree c.in-Value.is ∙ tree-Value c.in-Value.e in
    rw v c.whole_value.ensures.made

pub returns-in-Value-clause-state : goal.returns-in-Value-clause-state
returns-in-Value-clause-state t c =
    let v : init_tree c.args.init.now ≡ expr_tree c.in-Value.e = ap init_tree c.in-Value.is ∙ tree-Value c.in-Value.e in
    rw v c.whole_value.ensures.state

-- ---- zeros

zeros : (t : ℕ) (c : goal.Then-sets_to_zero t) → initialiser c.args.is_static c.args.ty.now c.args.object_offset (init_tree c.args.init.now) c.args.state.now ≡ (Some no_elements, c.args.state.now)
zeros t c =
    let same : inits init_tree c.get.result.now c.as_slice.result.now ≡ inits init_tree c.in-List.first c.in-List.more =
    ap (λ x. inits init_tree x c.as_slice.result.now) c.get.ensures ∙ ap (inits init_tree c.in-List.first) c.as_slice.ensures in
    ap (λ x. initialiser c.args.is_static c.args.ty.now c.args.object_offset (init_tree x) c.args.state.now) c.in-List.is
    ∙ list-zero c.args.is_static c.args.ty.now c.args.object_offset c.in-List.open c.in-List.first c.in-List.more c.in-List.comma c.in-List.close c.args.state.now
    (sym (ap (sets_to_zero c.args.ty.now) same) ∙ sym c.sets_to_zero.ensures ∙ c.if-sets_to_zero.true)

pub returns-then-sets_to_zero-clause-made : goal.returns-then-sets_to_zero-clause-made
returns-then-sets_to_zero-clause-made t c =
    ap Some (sym (joined-none c.args.out.now)) ∙ ap (λ r. both_joined (Some c.args.out.now) r.0) (sym (zeros t c))

pub returns-then-sets_to_zero-clause-state : goal.returns-then-sets_to_zero-clause-state
returns-then-sets_to_zero-clause-state t c = ap (λ r. r.1) (sym (zeros t c))

-- ---- the first element

pub loop-next-init : goal.loop-next-init
loop-next-init t c =
    let b = c.args.is_static in
    let u = c.args.ty.now in
    let object_offset = c.args.object_offset in
    let s = c.args.state.now in
    let part = c.in_ok-part-in-List.part in
    let first = c.get-in-List.result.now in
    let e : initialiser b part.ty part.object_offset (init_tree first) s ≡ elements b u object_offset (inits init_tree c.in-List.first []) s =
    ap (λ v. initialiser b v part.object_offset (init_tree first) s) c.in_ok-part-in-List.ensures.ty
    ∙ ap (λ a. initialiser b (part_of s.structs u 0) a (init_tree first) s) c.in_ok-part-in-List.ensures.object_offset
    ∙ ap (λ x. initialiser b (part_of s.structs u 0) (object_offset + part_at s.structs u 0) (init_tree x) s) c.get-in-List.ensures
    ∙ sym (elements-one b u object_offset c.in-List.first s) in
    record {
      index = refl;
      made = c.in_ok-made-in-List.ensures.made ∙ ap (λ r. both_joined (Some c.args.out.now) r.0) e;
      state = c.in_ok-made-in-List.ensures.state ∙ ap (λ r. r.1) e;
      keeps = c.in_ok-made-in-List.ensures.keeps;
    }

-- ---- one more element

pub loop-next-preserved : goal.loop-next-preserved
loop-next-preserved t c =
    let b = c.args.is_static in
    let u = c.args.ty.now in
    let object_offset = c.args.object_offset in
    let s = c.loop-next.state in
    let i = c.loop-next.next-index in
    let more = c.in-List.more in
    let first = c.in-List.first in
    let item = c.next-item.result in
    let part = c.in_ok-part-in-List-2.part in
    let index = c.in_ok-index-in-List.index in
    let before = elements b u object_offset (inits init_tree first (take i more)) c.args.state.now in
    let items = c.as_slice-next-items.result.now in
    let whole : items ≡ more = c.as_slice-next-items.ensures in
    let within : i < length items = omega arith in
    let grown : take (i + 1) more ≡ take i more ++ item ∷ [] =
    ap (take (i + 1)) (sym whole) ∙ take_more items i item within ∙ ap (λ y. take i items ++ y ∷ []) (sym c.next-item.is)
    ∙ ap (λ xs. take i xs ++ item ∷ []) whole in
    let next : index ≡ suc (length (take i more)) = omega (arith, length-take-le i more (omega (arith, ap length whole)), c.loop-next.invariant.index, c.in_ok-index-in-List.ensures) in
    let one : initialiser b part.ty part.object_offset (init_tree item.element) s ≡ element b u object_offset (suc (length (take i more))) (init_tree item.element) before.1 =
    ap (λ v. initialiser b v part.object_offset (init_tree item.element) s) c.in_ok-part-in-List-2.ensures.ty
    ∙ ap (λ a. initialiser b (part_of s.structs u index) a (init_tree item.element) s) c.in_ok-part-in-List-2.ensures.object_offset
    ∙ ap (λ n. element b u object_offset n (init_tree item.element) s) next
    ∙ ap (λ r. element b u object_offset (suc (length (take i more))) (init_tree item.element) r) c.loop-next.invariant.state in
    let all = ap (λ xs. elements b u object_offset (inits init_tree first xs) c.args.state.now) grown ∙ elements-more b u object_offset first (take i more) item c.args.state.now in
    let is : c.if-made.made ≡ (c.loop-next.made && c.in_ok-also-in-List.also) =
    elim c.if-made.branch [
      | then-made w ↦ w.made-is ∙ ap (λ m. m && c.in_ok-also-in-List.also) (sym w.if-made.true)
      | else-made w ↦ w.made-is ∙ w.if-made.false ∙ ap (λ m. m && c.in_ok-also-in-List.also) (sym w.if-made.false)
    ] in
    record {
      index = next ∙ ap suc (length-take-le i more (omega (arith, ap length whole))) ∙ omega arith;
      made =
          ap (λ m. if_made m c.initialiser-in-loop-next.new.out) is
          ∙ made-both c.loop-next.made c.in_ok-also-in-List.also c.args.out.now c.loop-next.out c.initialiser-in-loop-next.new.out before.0
          (element b u object_offset (suc (length (take i more))) (init_tree item.element) before.1).0 c.loop-next.invariant.made
          (c.in_ok-also-in-List.ensures.made ∙ ap (λ r. both_joined (Some c.loop-next.out) r.0) one)
          ∙ ap (λ r. both_joined (Some c.args.out.now) r.0) (sym all);
      state = c.in_ok-also-in-List.ensures.state ∙ ap (λ r. r.1) one ∙ ap (λ r. r.1) (sym all);
      keeps = (c.in_ok-also-in-List.ensures.keeps.0 ∙ c.loop-next.invariant.keeps.0, c.in_ok-also-in-List.ensures.keeps.1 ∙ c.loop-next.invariant.keeps.1);
    }

-- ---- the whole list

-- ---- the whole list

pub returns-in_ok-count-in-List-clause-made : goal.returns-in_ok-count-in-List-clause-made
returns-in_ok-count-in-List-clause-made t c =
    let b = c.args.is_static in
    let u = c.args.ty.now in
    let object_offset = c.args.object_offset in
    let s = c.args.state.now in
    let i = c.loop-next.next-index in
    let more = c.in-List.more in
    let first = c.in-List.first in
    let opening = c.in-List.open in
    let count = c.in_ok-count-in-List.count in
    let last = c.loop-next.state in
    let same : inits init_tree c.get.result.now c.as_slice.result.now ≡ inits init_tree first more =
    ap (λ x. inits init_tree x c.as_slice.result.now) c.get.ensures ∙ ap (inits init_tree first) c.as_slice.ensures in
    let counted : inits init_tree c.get-in-List-2.result.now c.as_slice-in-List.result.now ≡ inits init_tree first more =
    ap (λ x. inits init_tree x c.as_slice-in-List.result.now) c.get-in-List-2.ensures ∙ ap (inits init_tree first) c.as_slice-in-List.ensures in
    let set : sets_to_zero u (inits init_tree first more) ≡ false = sym (ap (sets_to_zero u) same) ∙ sym c.sets_to_zero.ensures ∙ c.if-sets_to_zero.false in
    let n : suc (length more) ≡ count = sym (count-inits init_tree first more) ∙ sym (ap count_in counted) ∙ sym c.in_ok-count-in-List.ensures in
    let all : take i more ≡ more = take_all i more (omega (arith, ap length c.as_slice-next-items.ensures)) in
    let made = elements b u object_offset (inits init_tree first (take i more)) s in
    let is : initialiser b u object_offset (init_tree c.args.init.now) s ≡ if_some made.0 (list_for u opening.at count) last =
    ap (λ x. initialiser b u object_offset (init_tree x) s) c.in-List.is
    ∙ list-elements b u object_offset opening first more c.in-List.comma c.in-List.close s set
    ∙ ap (λ xs. let r = elements b u object_offset (inits init_tree first xs) s in if_some r.0 (list_for u opening.at (suc (length more))) r.1) (sym all)
    ∙ ap (λ k. if_some made.0 (list_for u opening.at k) made.1) n
    ∙ ap (λ r. if_some made.0 (list_for u opening.at count) r) (sym c.loop-next.invariant.state) in
    c.list_made.ensures.made c.args.out.now c.loop-next.out made.0 c.loop-next.invariant.made ∙ ap (λ r. both_joined (Some c.args.out.now) r.0) (sym is)

pub returns-in_ok-count-in-List-clause-state : goal.returns-in_ok-count-in-List-clause-state
returns-in_ok-count-in-List-clause-state t c =
    let b = c.args.is_static in
    let u = c.args.ty.now in
    let object_offset = c.args.object_offset in
    let s = c.args.state.now in
    let i = c.loop-next.next-index in
    let more = c.in-List.more in
    let first = c.in-List.first in
    let opening = c.in-List.open in
    let count = c.in_ok-count-in-List.count in
    let last = c.loop-next.state in
    let same : inits init_tree c.get.result.now c.as_slice.result.now ≡ inits init_tree first more =
    ap (λ x. inits init_tree x c.as_slice.result.now) c.get.ensures ∙ ap (inits init_tree first) c.as_slice.ensures in
    let counted : inits init_tree c.get-in-List-2.result.now c.as_slice-in-List.result.now ≡ inits init_tree first more =
    ap (λ x. inits init_tree x c.as_slice-in-List.result.now) c.get-in-List-2.ensures ∙ ap (inits init_tree first) c.as_slice-in-List.ensures in
    let set : sets_to_zero u (inits init_tree first more) ≡ false = sym (ap (sets_to_zero u) same) ∙ sym c.sets_to_zero.ensures ∙ c.if-sets_to_zero.false in
    let n : suc (length more) ≡ count = sym (count-inits init_tree first more) ∙ sym (ap count_in counted) ∙ sym c.in_ok-count-in-List.ensures in
    let all : take i more ≡ more = take_all i more (omega (arith, ap length c.as_slice-next-items.ensures)) in
    let made = elements b u object_offset (inits init_tree first (take i more)) s in
    let is : initialiser b u object_offset (init_tree c.args.init.now) s ≡ if_some made.0 (list_for u opening.at count) last =
    ap (λ x. initialiser b u object_offset (init_tree x) s) c.in-List.is
    ∙ list-elements b u object_offset opening first more c.in-List.comma c.in-List.close s set
    ∙ ap (λ xs. let r = elements b u object_offset (inits init_tree first xs) s in if_some r.0 (list_for u opening.at (suc (length more))) r.1) (sym all)
    ∙ ap (λ k. if_some made.0 (list_for u opening.at k) made.1) n
    ∙ ap (λ r. if_some made.0 (list_for u opening.at count) r) (sym c.loop-next.invariant.state) in
    c.list_made.ensures.state c.args.out.now c.loop-next.out made.0 c.loop-next.invariant.made ∙ ap (λ r. r.1) (sym is)
