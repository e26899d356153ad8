use Rattle.std.proofs.Common.{◌≡◌, ℕ, true, false, Bool, List, Vec, Global, length, slice_index_or, sym, ap, subst, ◌∙◌, arith}
use Rattle.std.specs.Prelude.{◌↔◌, Result, Ok, Err, IfOk}
use Rattle.std.proofs.lemmas.List.{length-map}
use Rattle.call_order.specs.Units.{call_lists, AllKnown}
use Rattle.g_graph.specs.Plain.{PlainLambda}
use Rattle.g_pass_order.specs.Calls.{IsOrder}
use Rattle.g_pass_order.specs.Laws.{OrdersAreRanked}
use Rattle.g_pass_work.specs.Ranks.{DepsAreBelow, IsSettled}
use Rattle.g_pass_work.specs.Stale.{IsUnchanged, AreStale}
use Rattle.g_pass_work.proofs.staleness.stale.Goals as goal

-- an order has as many lists of deps as the list has lambdas
many : OrdersAreRanked → (ls : List PlainLambda) (ranks : List ℕ) (deps : List (Vec ℕ Global)) → IsOrder ls ranks (call_lists deps) → length deps ≡ length ls
many is_ranked ls ranks deps order = sym (length-map deps (λ (v : Vec ℕ Global). v.items)) ∙ (is_ranked ls ranks (call_lists deps) order).deps_length

pub changes-requires : goal.changes-requires
changes-requires c =
    ap (λ (xs : List (Vec ℕ Global)). length xs) c.deref.ensures.value
    ∙ many c.orders_are_unique.ensures.ranked c.args.new.now c.args.order.now.ranks.items c.args.order.now.deps.items c.requires.order

pub spread-requires-clause-all_ranks : goal.spread-requires-clause-all_ranks
spread-requires-clause-all_ranks c =
    let law = c.orders_are_unique.ensures.ranked in
    let order = c.args.order.now in
    ap (λ (xs : List ℕ). length xs) c.deref-2.ensures.value
    ∙ ((law c.args.new.now order.ranks.items (call_lists order.deps.items) c.requires.order).ranks_length
    ∙ (sym (many law c.args.new.now order.ranks.items order.deps.items c.requires.order) ∙ ap (λ (xs : List (Vec ℕ Global)). length xs) (sym c.deref-3.ensures.value)))

pub spread-requires-clause-all_changed : goal.spread-requires-clause-all_changed
spread-requires-clause-all_changed c =
    let order = c.args.order.now in
    ap (λ (xs : List Bool). length xs) c.deref-4.ensures.value
    ∙ (c.in_ok-changed.ensures.count
    ∙ (sym (many c.orders_are_unique.ensures.ranked c.args.new.now order.ranks.items order.deps.items c.requires.order) ∙ ap (λ (xs : List (Vec ℕ Global)). length xs) (sym c.deref-3.ensures.value)))

pub spread-requires-clause-known : goal.spread-requires-clause-known
spread-requires-clause-known c =
    let law = c.orders_are_unique.ensures.ranked in
    let order = c.args.order.now in
    let ranked = law c.args.new.now order.ranks.items (call_lists order.deps.items) c.requires.order in
    subst (λ (xs : List (Vec ℕ Global)). AllKnown (call_lists xs)) (sym c.deref-3.ensures.value) (λ j k called. omega (arith, (ranked.dep j k called).known, ranked.deps_length))

pub spread-requires-clause-below : goal.spread-requires-clause-below
spread-requires-clause-below c =
    let law = c.orders_are_unique.ensures.ranked in
    let order = c.args.order.now in
    let ranked = law c.args.new.now order.ranks.items (call_lists order.deps.items) c.requires.order in
    subst (λ (ranks : List ℕ). DepsAreBelow ranks (call_lists c.deref-3.result.now)) (sym c.deref-2.ensures.value)
    (subst (λ (xs : List (Vec ℕ Global)). DepsAreBelow order.ranks.items (call_lists xs)) (sym c.deref-3.ensures.value) (λ j d called. (ranked.dep j d called).smaller))

both : {X Y : Type 0} (r : Result X Y) (P Q R : X → Type 0) → ((x : X) → P x → Q x → R x) → IfOk r P → IfOk r Q → IfOk r R
both (Ok x) P Q R f p q = f x p q
both (Err e) P Q R f p q = tt

pub returns : goal.returns
returns c =
    let law = c.orders_are_unique.ensures.ranked in
    let old = c.args.old.now in
    let old_deps = call_lists c.args.old_deps.now in
    let new = c.args.new.now in
    let order = c.args.order.now in
    let deps = order.deps.items in
    let changed = c.in_ok-changed.changed.items in
    let unchanged : (k : ℕ) → (slice_index_or changed k true ≡ false) ↔ IsUnchanged old old_deps new (call_lists deps) k =
    λ k. subst (λ (ds : List (Vec ℕ Global)). (slice_index_or changed k true ≡ false) ↔ IsUnchanged old old_deps new (call_lists ds) k) c.deref.ensures.value (c.in_ok-changed.ensures.each k) in
    let as_many = ap (λ (xs : List (Vec ℕ Global)). length xs) c.deref-3.ensures.value ∙ many law new order.ranks.items deps c.requires.order in
    both c.spread.result _ _ (λ stale. AreStale old old_deps new (call_lists deps) stale.items)
    (λ stale count each. record {
      count = count ∙ as_many;
      each = λ j.
          let settled =
          subst (λ (ds : List (Vec ℕ Global)). IsSettled (call_lists ds) changed stale.items j) c.deref-3.ensures.value
          (subst (λ (ch : List Bool). IsSettled (call_lists c.deref-3.result.now) ch stale.items j) c.deref-4.ensures.value (each j)) in
          (λ e k path. (unchanged k).0 (settled.0 e k path), λ all. settled.1 (λ k path. (unchanged k).1 (all k path)));
    })
    c.spread.ensures.count c.spread.ensures.each
