-- Stages.
use Rattle.std.proofs.Common.{◌≡◌, ◌≢◌, ℕ, ◌<◌, ◌≤◌, ◌⊎◌, max, true, inl, inr, List, [], ◌∷◌, ◌++◌, length, count_by, slice_index_or, slice_set, Contains, refl, sym, ap, subst, ◌∙◌, arith}
use Rattle.std.specs.declared.vec.Vec.{Vec}
use Rattle.std.proofs.lemmas.List.{get_or-map, get_or_past}
use Rattle.std.proofs.lemmas.Bool.{cases_lt}
use Rattle.call_order.specs.declared.stages.Stage.{Stage}
use Rattle.call_order.specs.declared.stages.Stage.TheVariants.{New, Held, Closed}
use Rattle.call_order.specs.Units.{call_lists, Calls, CallsOut, Reaches}
use Rattle.call_order.specs.Search.{is_closed, rank_in, above, stage_of, all_at, IsClosedAs}
use Rattle.call_order.proofs.ReachLemmas.{reaches-keeps}

pub closed-parts : (stage : Stage) → is_closed stage ≡ true → (unit : ℕ) × (rank : ℕ) × (stage ≡ Closed unit rank)
closed-parts New h = cc
closed-parts (Held index) h = cc
closed-parts (Closed unit rank) h = (unit, rank, refl)

pub closed-from : (stage : Stage) (unit rank : ℕ) → stage ≡ Closed unit rank → is_closed stage ≡ true
closed-from stage unit rank e = ap is_closed e

-- a function with a stage is one of the list
pub inside-from_stage : (stages : List Stage) (j : ℕ) → stage_of stages j ≢ New → j < length stages
inside-from_stage stages j entered =
    elim (cases_lt j (length stages)) [ inl inside ↦ inside | inr past ↦ absurd (entered (get_or_past stages j New past)) ]

pub all_at-push : (stages : List Stage) (js : List ℕ) (j : ℕ) (stage : Stage) → all_at stages (js ++ j ∷ []) stage ≡ slice_set (all_at stages js stage) j stage
all_at-push stages [] j stage = refl
all_at-push stages (k ∷ ks) j stage = all_at-push (slice_set stages k stage) ks j stage

-- the plain form of the calls of a function
pub row-is : {A : Type 0} → (calls : List (Vec ℕ A)) (j : ℕ) (row : Vec ℕ A) → j < length calls → slice_index_or calls j row ≡ row → slice_index_or (call_lists calls) j [] ≡ row.items
row-is calls j row inside is = get_or-map (λ callees. callees.items) calls j row [] inside ∙ ap (λ callees. callees.items) is

-- closed functions call closed functions alone, and so on
pub closed-onward : (calls : List (List ℕ)) (stages : List Stage) → ((j unit rank : ℕ) → stage_of stages j ≡ Closed unit rank → IsClosedAs calls stages j unit rank) → (j k : ℕ) → Reaches calls j k
    → is_closed (stage_of stages j) ≡ true → is_closed (stage_of stages k) ≡ true
closed-onward calls stages closed j k there h =
    reaches-keeps calls (λ x. is_closed (stage_of stages x) ≡ true)
    (λ x y shut called. let parts = closed-parts (stage_of stages x) shut in (closed x parts.0 parts.1 parts.2).onward y called)
    j k there h

-- what is closed stays so while no closed function changes
pub closed-kept : (calls : List (List ℕ)) (old new : List Stage) → ((j unit rank : ℕ) → stage_of old j ≡ Closed unit rank → IsClosedAs calls old j unit rank)
    → ((j : ℕ) → is_closed (stage_of old j) ≡ true → stage_of new j ≡ stage_of old j) → count_by is_closed old ≤ count_by is_closed new → (j unit rank : ℕ) → stage_of old j ≡ Closed unit rank
    → IsClosedAs calls new j unit rank
closed-kept calls old new closed same more j unit rank is =
    let was = closed j unit rank is in
    let out : (k : ℕ) → CallsOut calls j k → stage_of new k ≡ stage_of old k = λ k leaves.
    let shut = closed-onward calls old closed j leaves.caller leaves.within.0 (closed-from (stage_of old j) unit rank is) in
    let parts = closed-parts (stage_of old leaves.caller) shut in
    same k ((closed leaves.caller parts.0 parts.1 parts.2).onward k leaves.called) in
    record {
      unit_of = was.unit_of;
      onward = λ k called. ap is_closed (same k (was.onward k called)) ∙ was.onward k called;
      above = λ k leaves. omega (arith, ap rank_in (out k leaves), was.above k leaves);
      tight = elim was.tight [ inl none ↦ inl none | inr some ↦ inr (some.0, some.1, omega (arith, ap rank_in (out some.0 some.1), some.2)) ];
      small = omega (arith, was.small);
    }

pub max-steps : (m n top : ℕ) → top ≡ max m n → (m ≤ top) × (n ≤ top) × ((top ≡ m) ⊎ (top ≡ n))
max-steps m n top e = (omega arith, omega arith, elim (cases_lt m n) [ inl below ↦ inr (omega arith) | inr over ↦ inl (omega arith) ])

-- a call of a function is one of its row
pub row-calls : {A : Type 0} → (calls : List (Vec ℕ A)) (j : ℕ) (row : Vec ℕ A) (items : List ℕ) → j < length calls → row ≡ slice_index_or calls j row → items ≡ row.items → (k : ℕ)
    → (Contains items k → Calls (call_lists calls) j k) × (Calls (call_lists calls) j k → Contains items k)
row-calls calls j row items inside is value k =
    let same : slice_index_or (call_lists calls) j [] ≡ items = row-is calls j row inside (sym is) ∙ sym value in
    let family : List ℕ → Type 0 = λ x. Contains x k in
    (subst family (sym same), subst family same)

-- ranks are small
pub above-small : (calls : List (List ℕ)) (stages : List Stage) → ((j unit rank : ℕ) → stage_of stages j ≡ Closed unit rank → IsClosedAs calls stages j unit rank) → (stage : Stage) (k : ℕ)
    → stage_of stages k ≡ stage → above stage ≤ count_by is_closed stages
above-small calls stages closed New k is = omega arith
above-small calls stages closed (Held index) k is = omega arith
above-small calls stages closed (Closed unit rank) k is = omega (arith, (closed k unit rank is).small)
