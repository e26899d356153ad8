use Rattle.std.proofs.Common.{Global, ◌≡◌, ◌≢◌, ℕ, ◌+◌, ◌-◌, List, length, take, vec_len, slice_index, sym, ap, ◌∙◌, arith, subst}
use Rattle.std.specs.declared.vec.Vec.{Vec}
use Rattle.std.proofs.lemmas.List.{get_or_default, length-map}
use Rattle.call_order.specs.declared.stages.Stage.{Stage}
use Rattle.call_order.specs.declared.stages.Stage.TheVariants.{New}
use Rattle.call_order.specs.declared.search.Group.{Group}
use Rattle.call_order.specs.declared.search.Search.{Search}
use Rattle.call_order.specs.Units.{call_lists, Reaches}
use Rattle.call_order.specs.Search.{IsSearch, is_closed, stage_of}
use Rattle.call_order.proofs.FollowLemmas.{closed-search, closed-entered, closed-new, busy, callee-inside, callee-reached, followed-closed, followed-held}
use Rattle.call_order.proofs.search.Search.follow.Goals as goal
use Rattle.call_order.proofs.search.Search.follow.Goals.{in-Held, in-Closed}

popped : {X A : Type 0} (old new : Vec X A) (items : List X) (n : ℕ) → old.items ≡ items → n ≡ length items → new.items ≡ take (vec_len old - 1) old.items → new.items ≡ take (n - 1) items
popped old new items n e f g =
    let count : vec_len old - 1 ≡ n - 1 = omega (arith, old.ok.0, ap length e, f) in
    g ∙ (ap (λ k. take k old.items) count ∙ ap (take (n - 1)) e)

pub returns-then-len-group-clause-search : goal.returns-then-len-group-clause-search
returns-then-len-group-clause-search c =
    let s = c.args.self.now in
    let e : c.len.result ≡ length s.groups.items = omega (arith, c.len.ensures, s.groups.ok.0) in
    closed-search (call_lists c.args.calls.now) s.stages.items s.members.items s.pending.items s.groups.items c.requires.search c.index-group.result.now (c.len.result - 1)
    (omega (arith, c.requires.busy, e)) c.index-group.ensures
    (omega (arith, c.len-2.ensures, s.pending.ok.0, c.if-len-group.true)) _ _ _ _ c.close.ensures.closed c.close.ensures.pending
    (popped {A = Global} c.close.new.self.groups c.pop.new.self s.groups.items c.len.result c.close.ensures.groups e c.pop.ensures.rest)

pub returns-then-len-group-clause-kept : goal.returns-then-len-group-clause-kept
returns-then-len-group-clause-kept c =
    let s = c.args.self.now in
    let e : c.len.result ≡ length s.groups.items = omega (arith, c.len.ensures, s.groups.ok.0) in
    closed-entered (call_lists c.args.calls.now) s.stages.items s.members.items s.pending.items s.groups.items c.requires.search c.index-group.result.now (c.len.result - 1)
    (omega (arith, c.requires.busy, e)) c.index-group.ensures
    (omega (arith, c.len-2.ensures, s.pending.ok.0, c.if-len-group.true)) _ _ _ _ c.close.ensures.closed c.close.ensures.pending
    (popped {A = Global} c.close.new.self.groups c.pop.new.self s.groups.items c.len.result c.close.ensures.groups e c.pop.ensures.rest)

pub returns-then-len-group-clause-fewer : goal.returns-then-len-group-clause-fewer
returns-then-len-group-clause-fewer c =
    let s = c.args.self.now in
    let e : c.len.result ≡ length s.groups.items = omega (arith, c.len.ensures, s.groups.ok.0) in
    closed-new (call_lists c.args.calls.now) s.stages.items s.members.items s.pending.items s.groups.items c.requires.search c.index-group.result.now (c.len.result - 1)
    (omega (arith, c.requires.busy, e)) c.index-group.ensures
    (omega (arith, c.len-2.ensures, s.pending.ok.0, c.if-len-group.true)) _ _ _ _ c.close.ensures.closed c.close.ensures.pending
    (popped {A = Global} c.close.new.self.groups c.pop.new.self s.groups.items c.len.result c.close.ensures.groups e c.pop.ensures.rest)

pub index-requires : goal.index-requires
index-requires c =
    let s = c.args.self.now in
    let e : c.len.result ≡ length s.groups.items = omega (arith, c.len.ensures, s.groups.ok.0) in
    let more : length s.pending.items ≢ c.index-group.result.now.pending_from = λ h. c.if-len-group.false (omega (arith, c.len-2.ensures, s.pending.ok.0)) in
    let some = busy (call_lists c.args.calls.now) s.stages.items s.members.items s.pending.items s.groups.items c.requires.search c.index-group.result.now (c.len.result - 1)
    (omega (arith, c.requires.busy, e)) c.index-group.ensures more in
    let p : ℕ = c.len-3.result - 1 in
    let long : length s.pending.items ≡ p + 1 = omega (arith, c.len-3.ensures, s.pending.ok.0, some) in
    let inside = callee-inside (call_lists c.args.calls.now) s.stages.items s.members.items s.pending.items s.groups.items c.requires.search c.index-group.result.now (c.len.result - 1)
    (omega (arith, c.requires.busy, e)) c.index-group.ensures more c.requires.known p long in
    let at = c.index-function.ensures ∙ get_or_default s.pending.items p c.index-function.result.now 0 (omega arith) in
    omega (arith, at, inside, c.requires.search.counted, s.stages.ok.0)

pub returns-in-New-clause-inside : goal.returns-in-New-clause-inside
returns-in-New-clause-inside c =
    let s = c.args.self.now in
    let e : c.len.result ≡ length s.groups.items = omega (arith, c.len.ensures, s.groups.ok.0) in
    let more : length s.pending.items ≢ c.index-group.result.now.pending_from = λ h. c.if-len-group.false (omega (arith, c.len-2.ensures, s.pending.ok.0)) in
    let some = busy (call_lists c.args.calls.now) s.stages.items s.members.items s.pending.items s.groups.items c.requires.search c.index-group.result.now (c.len.result - 1)
    (omega (arith, c.requires.busy, e)) c.index-group.ensures more in
    let p : ℕ = c.len-3.result - 1 in
    let long : length s.pending.items ≡ p + 1 = omega (arith, c.len-3.ensures, s.pending.ok.0, some) in
    let inside = callee-inside (call_lists c.args.calls.now) s.stages.items s.members.items s.pending.items s.groups.items c.requires.search c.index-group.result.now (c.len.result - 1)
    (omega (arith, c.requires.busy, e)) c.index-group.ensures more c.requires.known p long in
    let at = c.index-function.ensures ∙ get_or_default s.pending.items p c.index-function.result.now 0 (omega arith) in
    omega (arith, at, inside, length-map c.args.calls.now (λ (x : Vec ℕ Global). x.items))

pub returns-in-New-clause-reached : goal.returns-in-New-clause-reached
returns-in-New-clause-reached c =
    let s = c.args.self.now in
    let e : c.len.result ≡ length s.groups.items = omega (arith, c.len.ensures, s.groups.ok.0) in
    let more : length s.pending.items ≢ c.index-group.result.now.pending_from = λ h. c.if-len-group.false (omega (arith, c.len-2.ensures, s.pending.ok.0)) in
    let some = busy (call_lists c.args.calls.now) s.stages.items s.members.items s.pending.items s.groups.items c.requires.search c.index-group.result.now (c.len.result - 1)
    (omega (arith, c.requires.busy, e)) c.index-group.ensures more in
    let p : ℕ = c.len-3.result - 1 in
    let long : length s.pending.items ≡ p + 1 = omega (arith, c.len-3.ensures, s.pending.ok.0, some) in
    let at = c.index-function.ensures ∙ get_or_default s.pending.items p c.index-function.result.now 0 (omega arith) in
    λ a h.
    let family : ℕ → Type 0 = λ x. Reaches (call_lists c.args.calls.now) (slice_index s.members.items a) x in
    subst family (sym at)
    (callee-reached (call_lists c.args.calls.now) s.stages.items s.members.items s.pending.items s.groups.items c.requires.search c.index-group.result.now (c.len.result - 1)
    (omega (arith, c.requires.busy, e)) c.index-group.ensures more p long a h)

settled : (calls : List (List ℕ)) (old new : Search) (groups : List Group) (p : ℕ) (pending : Vec ℕ Global) → new.stages.items ≡ old.stages.items → new.members.items ≡ old.members.items
    → new.pending.items ≡ old.pending.items → new.groups.items ≡ groups → length old.pending.items ≡ p + 1 → pending.items ≡ take (vec_len new.pending - 1) new.pending.items
    → IsSearch calls old.stages.items old.members.items (take p old.pending.items) groups → IsSearch calls new.stages.items new.members.items pending.items new.groups.items
settled calls old new groups p pending a b q g long cut is =
    let is_cut : pending.items ≡ take p old.pending.items = popped {A = Global} new.pending pending old.pending.items (p + 1) q (sym long) cut ∙ ap (λ k. take k old.pending.items) (omega arith) in
    let family : List Stage → List ℕ → List ℕ → List Group → Type 0 = IsSearch calls in
    subst (λ x. family x new.members.items pending.items new.groups.items) (sym a)
    (subst (λ x. family old.stages.items x pending.items new.groups.items) (sym b)
    (subst (λ x. family old.stages.items old.members.items x new.groups.items) (sym is_cut)
    (subst (λ x. family old.stages.items old.members.items (take p old.pending.items) x) (sym g) is)))

pub returns-clause-search : goal.returns-clause-search
returns-clause-search c =
    let s = c.args.self.now in
    let calls = call_lists c.args.calls.now in
    let e : c.len.result ≡ length s.groups.items = omega (arith, c.len.ensures, s.groups.ok.0) in
    let more : length s.pending.items ≢ c.index-group.result.now.pending_from = λ h. c.if-len-group.false (omega (arith, c.len-2.ensures, s.pending.ok.0)) in
    let last : length s.groups.items ≡ (c.len.result - 1) + 1 = omega (arith, c.requires.busy, e) in
    let some = busy calls s.stages.items s.members.items s.pending.items s.groups.items c.requires.search c.index-group.result.now (c.len.result - 1) last c.index-group.ensures more in
    let p : ℕ = c.len-3.result - 1 in
    let long : length s.pending.items ≡ p + 1 = omega (arith, c.len-3.ensures, s.pending.ok.0, some) in
    let at = c.index-function.ensures ∙ get_or_default s.pending.items p c.index-function.result.now 0 (omega arith) in
    let stage : stage_of s.stages.items (slice_index s.pending.items p) ≡ c.index.result.now =
    let inside = callee-inside calls s.stages.items s.members.items s.pending.items s.groups.items c.requires.search c.index-group.result.now
    (c.len.result - 1) last c.index-group.ensures more c.requires.known p long in
    ap (stage_of s.stages.items) (sym at)
    ∙ (get_or_default s.stages.items c.index-function.result.now New c.index.result.now (omega (arith, at, inside, c.requires.search.counted)) ∙ sym c.index.ensures) in
    elim c.match-index.branch [
      | in-Held w ↦
          settled calls s c.match-index.self w.join.new.groups.items p c.pop-2.new.self
          (ap (λ (x : Search). x.stages.items) w.self-is) (ap (λ (x : Search). x.members.items) w.self-is) (ap (λ (x : Search). x.pending.items) w.self-is)
          (ap (λ (x : Search). x.groups.items) w.self-is) long c.pop-2.ensures.rest
          (let family : List Group → Type 0 = λ x. IsSearch calls s.stages.items s.members.items (take p s.pending.items) x in
          subst family (sym w.join.ensures.front)
          (followed-held calls s.stages.items s.members.items s.pending.items s.groups.items c.requires.search c.index-group.result.now
          (c.len.result - 1) last c.index-group.ensures more p long w.in-Held.index (stage ∙ w.in-Held.is)
          (length w.join.new.groups.items) w.join.ensures.fewer w.join.ensures.dropped w.join.ensures.kept))
      | in-Closed w ↦
          settled calls s c.match-index.self s.groups.items p c.pop-2.new.self
          (ap (λ (x : Search). x.stages.items) w.self-is) (ap (λ (x : Search). x.members.items) w.self-is) (ap (λ (x : Search). x.pending.items) w.self-is)
          (ap (λ (x : Search). x.groups.items) w.self-is) long c.pop-2.ensures.rest
          (followed-closed calls s.stages.items s.members.items s.pending.items s.groups.items c.requires.search c.index-group.result.now (c.len.result - 1) last c.index-group.ensures more p long
          (ap is_closed (stage ∙ w.in-Closed.is)))
    ]
