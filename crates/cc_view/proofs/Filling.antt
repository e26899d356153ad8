-- Depths that are found in turn are the depths.
use Rattle.std.proofs.Common.{◌≡◌, ◌≢◌, ℕ, ◌+◌, ◌*◌, ◌^◌, ◌≤◌, ◌<◌, List, length, Contains, Option, None, Some, slice_get, slice_index_or, set, sym, ap, subst, ◌∙◌, inl, inr, ◌⊎◌, arith}
use Rattle.std.proofs.lemmas.Bool.{cases_lt}
use Rattle.std.proofs.lemmas.List.{get_or_default, get_or-set_same, get_or-set_other, length-set}
use Rattle.std.proofs.lemmas.Option.{slice_get_within}
use Rattle.g_graph.specs.Plain.{PlainLambda}
use Rattle.g_pass_order.specs.Calls.{region_calls}
use Rattle.cc_view.specs.Depths.{depth_at, most_of, with_frame, IsRecursive, IsDepth}
use Rattle.cc_view.specs.Turns.{AreTurns, IsFilled}
use Rattle.cc_view.proofs.Lists.{most-none, most-same, most-low, frame-parts}
use Rattle.cc_view.proofs.Called.{called-from, callee-recursive}

same-or-not : (a b : ℕ) → (a ≡ b) ⊎ (a ≢ b)
same-or-not a b =
    elim (cases_lt a b) [
      | inl less ↦ inr (λ e. omega (arith, less, e))
      | inr not_less ↦
          elim (cases_lt b a) [
            | inl more ↦ inr (λ e. omega (arith, more, e))
            | inr not_more ↦ inl (omega (arith, not_less, not_more))
          ]
    ]

some-lambda : (a b : PlainLambda) (o : Option PlainLambda) → o ≡ Some a → o ≡ Some b → a ≡ b
some-lambda a b o p q = cc

-- one more turn, that of function f
module _ (ls : List PlainLambda) (sizes turns : List ℕ) (t f : ℕ) (l : PlainLambda) (depths : List (Option ℕ)) (are : AreTurns ls turns) (inside : t < length turns)
    (is : slice_index_or turns t 0 ≡ f) (at : slice_get ls f ≡ Some l) (filled : IsFilled ls sizes turns t depths) where
  abbrev found : Option ℕ
  found = with_frame (slice_index_or sizes f 0) (most_of depths (region_calls l.body))

  abbrev after : List (Option ℕ)
  after = set depths f found

  here : f < length depths
  here = let low = slice_get_within ls f l at in omega (arith, low, filled.counted)

  at-found : depth_at after f ≡ found
  at-found = get_or-set_same depths f found None here

  elsewhere : (k : ℕ) → k ≢ f → depth_at after k ≡ depth_at depths k
  elsewhere k other = get_or-set_other depths f k found None other

  found-recursive : IsRecursive ls f → found ≡ None
  found-recursive r =
      let callee = callee-recursive ls f r.callee r.called r.back in
      let none = most-none depths (region_calls l.body) r.callee (called-from ls f r.callee l at r.called) (filled.recursive r.callee callee) in
      ap (with_frame (slice_index_or sizes f 0)) none

  -- a depth changes only where calls do not lead back
  stays : (k : ℕ) → (k ≡ f → IsRecursive ls f) → depth_at after k ≡ depth_at depths k
  stays k back =
      elim (same-or-not k f) [
        | inl same ↦ ap (depth_at after) same ∙ (at-found ∙ (found-recursive (back same) ∙ (sym (filled.recursive f (back same)) ∙ ap (depth_at depths) (sym same))))
        | inr other ↦ elsewhere k other
      ]

  -- what a function calls that has had its turn has the depth that it had
  most-stays : (i : ℕ) (c : PlainLambda) → i ≤ t → slice_get ls (slice_index_or turns i 0) ≡ Some c → most_of after (region_calls c.body) ≡ most_of depths (region_calls c.body)
  most-stays i c le there =
      most-same depths after (region_calls c.body)
      (λ k h. stays k (λ e. subst (IsRecursive ls) is (are.callees i t c le inside there (subst (Contains (region_calls c.body)) (e ∙ sym is) h))))

  one-more : slice_index_or sizes f 0 < 2 ^ 32 → IsFilled ls sizes turns (t + 1) after
  one-more small =
      record {
        counted = length-set depths f found ∙ filled.counted;
        low = λ k d e.
            elim (same-or-not k f) [
              | inl same ↦
                  let parts = frame-parts (slice_index_or sizes f 0) (most_of depths (region_calls l.body)) d (sym at-found ∙ (ap (depth_at after) (sym same) ∙ e)) in
                  omega (arith, small, parts.2, most-low depths (region_calls l.body) (2 ^ 32 * t) filled.low parts.0 parts.1)
              | inr other ↦ let old = filled.low k d (sym (elsewhere k other) ∙ e) in omega (arith, old)
            ];
        each = λ i c low there.
            let most = most-stays i c (omega (arith, low)) there in
            elim (same-or-not (slice_index_or turns i 0) f) [
              | inl same ↦
                  let lambda = some-lambda l c (slice_get ls f) at (subst (λ g. slice_get ls g ≡ Some c) same there) in
                  ap (depth_at after) same
                  ∙ (at-found
                  ∙ (ap (λ (b : PlainLambda). with_frame (slice_index_or sizes f 0) (most_of depths (region_calls b.body))) lambda
                  ∙ (ap (λ g. with_frame (slice_index_or sizes g 0) (most_of depths (region_calls c.body))) (sym same)
                  ∙ ap (with_frame (slice_index_or sizes (slice_index_or turns i 0) 0)) (sym most))))
              | inr other ↦
                  let earlier : i < t = before-t i low other in
                  elsewhere (slice_index_or turns i 0) other ∙ (filled.each i c earlier there ∙ ap (with_frame (slice_index_or sizes (slice_index_or turns i 0) 0)) (sym most))
            ];
        recursive = λ k r. stays k (λ e. subst (IsRecursive ls) e r) ∙ filled.recursive k r;
      }
    where
      before-t : (i : ℕ) → i < t + 1 → slice_index_or turns i 0 ≢ f → i < t
      before-t i low other =
          elim (cases_lt i t) [
            | inl less ↦ less
            | inr no_less ↦ let e : i ≡ t = omega (arith, low, no_less) in absurd (other (ap (λ j. slice_index_or turns j 0) e ∙ is))
          ]

pub filled-more : (ls : List PlainLambda) (sizes turns : List ℕ) (t f : ℕ) (l : PlainLambda) (depths : List (Option ℕ)) → AreTurns ls turns → t < length turns → slice_index_or turns t 0 ≡ f →
    slice_get ls f ≡ Some l →
    slice_index_or sizes f 0 < 2 ^ 32 → IsFilled ls sizes turns t depths →
    IsFilled ls sizes turns (t + 1) (set depths f (with_frame (slice_index_or sizes f 0) (most_of depths (region_calls l.body))))
filled-more ls sizes turns t f l depths are inside is at small filled = one-more ls sizes turns t f l depths are inside is at filled small

-- after all turns
pub filled-all : (ls : List PlainLambda) (sizes turns : List ℕ) (count : ℕ) (depths : List (Option ℕ)) → AreTurns ls turns → length turns ≤ count → IsFilled ls sizes turns count depths →
    IsDepth ls sizes depths
filled-all ls sizes turns count depths are whole filled =
    record {
      counted = filled.counted;
      each = λ f l at.
          let turn = are.all f (slice_get_within ls f l at) in
          let is : slice_index_or turns turn.0 0 ≡ f = get_or_default turns turn.0 0 f turn.1 ∙ turn.2 in
          let had : turn.0 < count = omega (arith, turn.1, whole) in
          let done = filled.each turn.0 l had (ap (slice_get ls) is ∙ at) in
          subst (λ g. depth_at depths g ≡ with_frame (slice_index_or sizes g 0) (most_of depths (region_calls l.body))) is done;
      recursive = filled.recursive;
    }
