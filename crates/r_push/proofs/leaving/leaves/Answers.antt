-- The tests, one after the other.
use Rattle.std.proofs.Common.{◌≡◌, ◌&&◌, ◌^◌, [], map, Bool, nat_lt, length, refl, sym, ap, ap₂, subst, ◌∙◌, arith}
use Rattle.g_graph.specs.Plain.{regions_of, has_none}
use Rattle.g_graph.specs.Signatures.{is_pure}
use Rattle.g_graph.specs.WellFormed.{all_of}
use Rattle.r_edit.specs.Size.{may_change_size}
use Rattle.r_push.specs.Walk.{is_open, growth_of, goes_along, leaves, node_now}
use Rattle.r_walk.specs.Walk.{origin_now}
use Rattle.r_push.specs.Walks.{walking}
use Rattle.r_push.proofs.LeftOut.{both_hold, first_fails}
use Rattle.r_push.proofs.leaving.leaves.Goals as goal
use Rattle.r_push.proofs.leaving.leaves.Goals.{then-has_room, else-has_room, then-is_pure, else-is_pure, then-has_none, else-has_none}

pub returns-then-all_go_along-clause-is : goal.returns-then-all_go_along-clause-is
returns-then-all_go_along-clause-is c = λ k steps is.
    let x = c.node.inside in
    let args = length c.args.outside.now.inputs.items in
    let len : c.len-args.result ≡ args = omega (arith, c.args.outside.now.inputs.ok.0) in
    let room : Bool = is_open k.exit && may_change_size c.args.values (growth_of k.exit) 0 && nat_lt args (2 ^ 32) in
    let pure : Bool = room && is_pure x.op in
    let none : Bool = pure && has_none (regions_of x.regions.items) in
    let has : c.has_room.result ≡ room =
    c.has_room.ensures ∙ ap₂ (λ e n. is_open e && may_change_size c.args.values (growth_of e) 0 && nat_lt n (2 ^ 32)) (sym is.exit_is) len in
    let first : c.if-has_room.value ≡ pure =
    elim c.if-has_room.branch [
      | then-has_room w ↦ both_hold _ _ _ _ _ w.if-has_room.true w.value-is has w.is_pure.ensures
      | else-has_room w ↦ first_fails _ _ _ _ w.if-has_room.false w.value-is has
    ] in
    let second : c.if-is_pure.value ≡ none =
    elim c.if-is_pure.branch [
      | then-is_pure w ↦ both_hold _ _ _ _ _ w.if-is_pure.true w.value-is first (w.has_none.ensures ∙ ap (λ rs. has_none (regions_of rs)) w.deref.ensures.value)
      | else-is_pure w ↦ first_fails _ _ _ _ w.if-is_pure.false w.value-is first
    ] in
    let third : c.if-has_none.value ≡ (none && all_of (goes_along k args) (map (origin_now k.moved []) x.inputs.items)) =
    elim c.if-has_none.branch [
      | then-has_none w ↦
          both_hold _ _ _ _ _ w.if-has_none.true w.value-is second
          (w.all_go_along.ensures k is ∙ ap₂ (λ n os. all_of (goes_along k n) (map (origin_now k.moved []) os)) len w.as_slice.ensures)
      | else-has_none w ↦ first_fails _ _ _ _ w.if-has_none.false w.value-is second
    ] in
    subst (λ y. c.is_used.result ≡ leaves k (walking c.args.values c.args.outside.now steps) (node_now k.moved y)) c.node.view_is
    (both_hold _ _ _ _ _ c.if-all_go_along.true refl third (c.is_used.ensures ∙ is.used x.id 0 (omega arith)))

pub returns-else-all_go_along-clause-is : goal.returns-else-all_go_along-clause-is
returns-else-all_go_along-clause-is c = λ k steps is.
    let x = c.node.inside in
    let args = length c.args.outside.now.inputs.items in
    let len : c.len-args.result ≡ args = omega (arith, c.args.outside.now.inputs.ok.0) in
    let room : Bool = is_open k.exit && may_change_size c.args.values (growth_of k.exit) 0 && nat_lt args (2 ^ 32) in
    let pure : Bool = room && is_pure x.op in
    let none : Bool = pure && has_none (regions_of x.regions.items) in
    let has : c.has_room.result ≡ room =
    c.has_room.ensures ∙ ap₂ (λ e n. is_open e && may_change_size c.args.values (growth_of e) 0 && nat_lt n (2 ^ 32)) (sym is.exit_is) len in
    let first : c.if-has_room.value ≡ pure =
    elim c.if-has_room.branch [
      | then-has_room w ↦ both_hold _ _ _ _ _ w.if-has_room.true w.value-is has w.is_pure.ensures
      | else-has_room w ↦ first_fails _ _ _ _ w.if-has_room.false w.value-is has
    ] in
    let second : c.if-is_pure.value ≡ none =
    elim c.if-is_pure.branch [
      | then-is_pure w ↦ both_hold _ _ _ _ _ w.if-is_pure.true w.value-is first (w.has_none.ensures ∙ ap (λ rs. has_none (regions_of rs)) w.deref.ensures.value)
      | else-is_pure w ↦ first_fails _ _ _ _ w.if-is_pure.false w.value-is first
    ] in
    let third : c.if-has_none.value ≡ (none && all_of (goes_along k args) (map (origin_now k.moved []) x.inputs.items)) =
    elim c.if-has_none.branch [
      | then-has_none w ↦
          both_hold _ _ _ _ _ w.if-has_none.true w.value-is second
          (w.all_go_along.ensures k is ∙ ap₂ (λ n os. all_of (goes_along k n) (map (origin_now k.moved []) os)) len w.as_slice.ensures)
      | else-has_none w ↦ first_fails _ _ _ _ w.if-has_none.false w.value-is second
    ] in
    subst (λ y. c.if-has_none.value ≡ leaves k (walking c.args.values c.args.outside.now steps) (node_now k.moved y)) c.node.view_is
    (first_fails _ _ _ _ c.if-all_go_along.false refl third)
