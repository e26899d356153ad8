-- One call of the last group is followed, or the group is closed.
use Rattle.std.proofs.Common.{◌≡◌, ◌≢◌, ℕ, ◌+◌, ◌-◌, ◌<◌, ◌≤◌, true, inl, inr, List, length, take, count_by, slice_index, slice_index_or, sym, ap, subst, ◌∙◌, arith}
use Rattle.std.proofs.lemmas.List.{get_or_default, get_or-take, length-take-le}
use Rattle.call_order.specs.declared.stages.Stage.{Stage}
use Rattle.call_order.specs.declared.stages.Stage.TheVariants.{Held}
use Rattle.call_order.specs.declared.search.Group.{Group}
use Rattle.call_order.specs.Units.{AllKnown, Reaches}
use Rattle.call_order.specs.Search.{is_new, is_closed, stage_of, StayEntered, IsSearch, ClosesFrom}
use Rattle.call_order.proofs.JoinLemmas.{reaches-called, join-keeps, join-before, pop-keeps}
use Rattle.call_order.proofs.CloseLemmas.{close-keeps, close-entered, close-new}

module _ (calls : List (List ℕ)) (stages : List Stage) (members pending : List ℕ) (groups : List Group) (was : IsSearch calls stages members pending groups) (d : Group) (n : ℕ)
    (last : length groups ≡ n + 1) (at : d ≡ slice_index_or groups n d) where
  pending-at : (slice_index_or groups n d).pending_from ≡ d.pending_from
  pending-at = ap (λ (x : Group). x.pending_from) (sym at)

  module _ (done : length pending ≡ d.pending_from) (stages' : List Stage) (members' pending' : List ℕ) (groups' : List Group) (put : ClosesFrom calls stages members d.members_from stages' members')
      (same : pending' ≡ pending) (popped : groups' ≡ take n groups) where
    put' : ClosesFrom calls stages members (slice_index_or groups n d).members_from stages' members'
    put' = let family : Group → Type 0 = λ x. ClosesFrom calls stages members x.members_from stages' members' in subst family at put

    done' : length pending ≡ (slice_index_or groups n d).pending_from
    done' = done ∙ sym pending-at

    pub closed-search : IsSearch calls stages' members' pending' groups'
    closed-search =
        let pends : List ℕ → Type 0 = λ x. IsSearch calls stages' members' x groups' in
        let groupings : List Group → Type 0 = λ x. IsSearch calls stages' members' pending x in
        subst pends (sym same) (subst groupings (sym popped) (close-keeps calls stages members pending groups was d n last done' stages' members' put'))

    pub closed-entered : StayEntered stages stages'
    closed-entered = close-entered calls stages members pending groups was d n last done' stages' members' put'

    pub closed-new : count_by is_new stages' ≡ count_by is_new stages
    closed-new = close-new calls stages members pending groups was d n last done' stages' members' put'

  module _ (more : length pending ≢ d.pending_from) where
    pub busy : d.pending_from < length pending
    busy = omega (arith, pending-at, was.pending_end n d (omega arith))

    top : (p : ℕ) → length pending ≡ p + 1 → (t : ℕ) (e : Group) → t < length groups → (slice_index_or groups t e).pending_from ≤ p
    top p e t f h =
        let default = ap (λ (x : Group). x.pending_from) (get_or_default groups t f d h) in
        omega (arith, default, pending-at, busy, was.pending_order t n d (omega arith) (omega arith))

    pub callee-inside : AllKnown calls → (p : ℕ) → length pending ≡ p + 1 → slice_index pending p < length calls
    callee-inside known p e =
        let it = was.callers p (omega arith) in
        known (slice_index members it.caller) (slice_index pending p) it.called

    pub callee-reached : (p : ℕ) → length pending ≡ p + 1 → (a : ℕ) → a < length members → Reaches calls (slice_index members a) (slice_index pending p)
    callee-reached p e = reaches-called calls stages members pending groups was d p (omega arith) (top p e)

    pub followed-closed : (p : ℕ) → length pending ≡ p + 1 → is_closed (stage_of stages (slice_index pending p)) ≡ true → IsSearch calls stages members (take p pending) groups
    followed-closed p e shut = pop-keeps calls stages members pending groups was p e (top p e) (inl shut)

    pub followed-held : (p : ℕ) → length pending ≡ p + 1 → (index : ℕ) → stage_of stages (slice_index pending p) ≡ Held index → (count : ℕ) → count ≤ length groups
        → ((t : ℕ) (e : Group) → count ≤ t → t < length groups → index < (slice_index_or groups t e).members_from)
        → ((e : Group) → 0 < count → (slice_index_or groups (count - 1) e).members_from ≤ index) → IsSearch calls stages members (take p pending) (take count groups)
    followed-held p e index is count fewer dropped kept =
        let short : p < length pending = omega arith in
        let now = join-keeps calls stages members pending groups was d p short (top p e) index is count fewer dropped kept in
        let before = join-before calls stages members pending groups was d p short (top p e) index is count fewer dropped kept in
        pop-keeps calls stages members pending (take count groups) now p e
        (λ t f h.
        let inside : t < count = omega (arith, length-take-le count groups fewer) in
        let same = ap (λ (x : Group). x.pending_from) (get_or-take count groups t f inside) in
        omega (arith, same, top p e t f (omega arith)))
        (inr (index, is, before))
