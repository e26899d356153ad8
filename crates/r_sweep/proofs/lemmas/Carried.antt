-- Uses of outputs that move to what these carry, one output after the other.
use Rattle.std.proofs.Common.{◌≡◌, ◌≤◌, ◌<◌, ◌+◌, ◌-◌, ℕ, zero, suc, ◌==◌, ◌&&◌, not, nat_lt, Bool, true, false, Option, None, Some, unwrap_or, List, [], ◌∷◌, map, length, refl, sym, ap, subst, ◌∙◌, arith}
use Rattle.std.specs.Prelude.{slice_get, if◌then◌else◌}
use Rattle.std.specs.List.{remove}
use Rattle.std.proofs.lemmas.Bool.{ne_eqb}
use Rattle.std.proofs.lemmas.Bool.Decides.{nat_tests}
use Rattle.std.proofs.lemmas.Option.{same_Some}
use Rattle.g_graph.specs.declared.op.Kind.{Kind}
use Rattle.g_graph.specs.declared.op.Origin.{Origin}
use Rattle.g_graph.specs.declared.op.Origin.TheVariants.{Arg, Out}
use Rattle.g_graph.specs.Plain.{RegionTrees, PlainLambda}
use Rattle.g_graph.specs.Signatures.{joined}
use Rattle.g_graph.specs.Scope.{same_origin}
use Rattle.g_graph.specs.Replace.{origin_replaced}
use Rattle.g_graph.proofs.lemmas.Indexes.{same_number_true}
use Rattle.g_graph.proofs.lemmas.Unique.{equal_back, same_number}
use Rattle.g_arena_def.specs.Flat.{place_in}
use Rattle.g_arena_def.specs.Edits.{output_less, result_removed}
use Rattle.r_edit.specs.Places.{stays_at, place_after}
use Rattle.r_edit.specs.Carried.{output_carried, staying}
use Rattle.r_sweep.specs.Removals.{from_last, each_of, exit_removed, uses_moved, uses_carried, exits_carried}
use Rattle.r_sweep.proofs.lemmas.Inputs.{map_map, map_id}
use Rattle.r_sweep.proofs.lemmas.Blocks.{Within, HaveNumbers, place, state, record_now, nodes_now, node_now, state_uses, state_output}
use Rattle.r_sweep.proofs.lemmas.FromLast.{behind, places, places_are, less_own, is_beyond, is_there}
use Rattle.r_sweep.proofs.lemmas.Composed.{results_gone, results_state, results_keep, from_last-keeps}
use Rattle.r_sweep.proofs.lemmas.Kept.{IsOther, less_fixes}
use Rattle.r_sweep.proofs.lemmas.UsesMove.{uses_are_moved}

-- none of what is carried names an output of node n
abbrev pub AreOther : ℕ → List (Option Origin) → Type 0
AreOther n [] = Unit {0}
AreOther n (None ∷ cs) = AreOther n cs
AreOther n (Some b ∷ cs) = IsOther n b × AreOther n cs

-- an origin, where uses of outputs moved, and where these outputs went too
abbrev pub origin_moved : (n k : ℕ) → (carried : List (Option Origin)) → Origin → Origin
origin_moved n k [] o = o
origin_moved n k (None ∷ cs) o = origin_moved n (suc k) cs o
origin_moved n k (Some b ∷ cs) o = origin_replaced (Out n k) b (origin_moved n (suc k) cs o)

abbrev pub origin_gone : (n k : ℕ) → (carried : List (Option Origin)) → (outputs : List Kind) → Origin → Origin
origin_gone n k [] xs o = o
origin_gone n k (None ∷ cs) xs o = origin_gone n (suc k) cs xs o
origin_gone n k (Some b ∷ cs) xs o =
    output_less n k (length (from_last (λ j ys. remove ys j) (suc k) (staying cs) xs)) (origin_replaced (Out n k) b (origin_gone n (suc k) cs xs o))

apart : (n k : ℕ) (b : Origin) → IsOther n b → same_origin (Out n k) b ≡ false
apart n k (Arg j) h = refl
apart n k (Out m q) h = ap (λ t. t && (k == q)) (equal_back n m ∙ first (m == n) (nat_lt q 0) (grind (arith, nat_tests)) h)
  where
    first : (t u : Bool) → u ≡ false → (t && not u) ≡ false → t ≡ false
    first false u e f = refl
    first true true e f = absurd cc
    first true false e f = absurd cc

-- ---- the changes

module _ (n : ℕ) (l : PlainLambda) (w : Within n l) where
  move_state : (k : ℕ) (b : Origin) → IsOther n b → (f : Origin → Origin) (outs : List Kind) (is : List Origin) (rs : RegionTrees) → HaveNumbers n l w rs →
      uses_moved (place n l w) (Out n k) b (state n l w f outs is rs) ≡ state n l w (λ o. origin_replaced (Out n k) b (f o)) outs (map (origin_replaced (Out n k) b) is) rs
  move_state k b other f outs is rs h =
      uses_are_moved (place n l w) (Out n k) b (apart n k b other) (state n l w f outs is rs) (record_now n l w f)
      (w.around.gets (record_now n l w f) (nodes_now n l w f (node_now n l w outs is rs) rs))
      ∙ state_uses n l w (origin_replaced (Out n k) b) f outs is rs h

  pub moved_state : (k : ℕ) (cs : List (Option Origin)) → AreOther n cs → (outs : List Kind) (is : List Origin) (rs : RegionTrees) → HaveNumbers n l w rs →
      uses_carried n (place n l w) k cs (state n l w (λ o. o) outs is rs) ≡ state n l w (origin_moved n k cs) outs (map (origin_moved n k cs) is) rs
  moved_state k [] other outs is rs h = ap (λ js. state n l w (λ o. o) outs js rs) (sym (map_id is))
  moved_state k (None ∷ cs) other outs is rs h = moved_state (suc k) cs other outs is rs h
  moved_state k (Some b ∷ cs) other outs is rs h =
      ap (uses_moved (place n l w) (Out n k) b) (moved_state (suc k) cs other.1 outs is rs h)
      ∙ move_state k b other.0 (origin_moved n (suc k) cs) outs (map (origin_moved n (suc k) cs) is) rs h
      ∙ ap (λ js. state n l w (origin_moved n k (Some b ∷ cs)) outs js rs) (map_map (origin_replaced (Out n k) b) (origin_moved n (suc k) cs) is)

  pub gone_state : (c k : ℕ) (cs : List (Option Origin)) → AreOther n cs → (outs : List Kind) (is : List Origin) (rs : RegionTrees) → HaveNumbers n l w rs →
      exits_carried n c (place n l w) k cs (state n l w (λ o. o) outs is rs)
      ≡ state n l w (origin_gone n k cs outs) (from_last (λ j ys. remove ys j) k (staying cs) outs) (map (origin_gone n k cs outs) is) (from_last (results_gone c) k (staying cs) rs)
  gone_state c k [] other outs is rs h = ap (λ js. state n l w (λ o. o) outs js rs) (sym (map_id is))
  gone_state c k (None ∷ cs) other outs is rs h = gone_state c (suc k) cs other outs is rs h
  gone_state c k (Some b ∷ cs) other outs is rs h =
      let g = origin_gone n (suc k) cs outs in
      let left = from_last (λ j ys. remove ys j) (suc k) (staying cs) outs in
      let less = output_less n k (length left) in
      let move = origin_replaced (Out n k) b in
      let qs = from_last (results_gone c) (suc k) (staying cs) rs in
      let numbers = (from_last-keeps (results_gone c) (results_keep c) (suc k) (staying cs)).ids rs ∙ h in
      ap (λ a. exit_removed n c k (uses_moved (place n l w) (Out n k) b a)) (gone_state c (suc k) cs other.1 outs is rs h)
      ∙ ap (exit_removed n c k) (move_state k b other.0 g left (map g is) qs numbers)
      ∙ ap (λ a. each_of (λ j. result_removed (place_in n j) k) c a) (state_output n l w k (λ o. move (g o)) left (map move (map g is)) qs numbers)
      ∙ results_state n l w c k (λ o. less (move (g o))) (remove left k) (map less (map move (map g is))) qs
      ∙ ap (λ js. state n l w (λ o. less (move (g o))) (remove left k) js (results_gone c k qs)) (ap (map less) (map_map move g is) ∙ map_map less (λ o. move (g o)) is)

-- ---- origins

stays_put : (n k : ℕ) (b o : Origin) → same_origin (Out n k) o ≡ false → origin_replaced (Out n k) b o ≡ o
stays_put n k b o e = ap (λ t. if t then b else o) e

other_port : (n k m q : ℕ) → (k ≡ q → ⊥) → same_origin (Out n k) (Out m q) ≡ false
other_port n k m q h = by (n == m)
  where
    by : (t : Bool) → (t && (k == q)) ≡ false
    by true = ne_eqb k q h
    by false = refl

-- what names no output of the node stays
pub gone_fixes : (n k : ℕ) (cs : List (Option Origin)) (xs : List Kind) (o : Origin) → IsOther n o → origin_gone n k cs xs o ≡ o
gone_fixes n k [] xs o h = refl
gone_fixes n k (None ∷ cs) xs o h = gone_fixes n (suc k) cs xs o h
gone_fixes n k (Some b ∷ cs) xs o h =
    let c = length (from_last (λ j ys. remove ys j) (suc k) (staying cs) xs) in
    ap (λ p. output_less n k c (origin_replaced (Out n k) b p)) (gone_fixes n (suc k) cs xs o h)
    ∙ ap (output_less n k c) (stays_put n k b o (apart n k o h)) ∙ less_fixes n k c o h

pub moved_fixes : (n k : ℕ) (cs : List (Option Origin)) (o : Origin) → IsOther n o → origin_moved n k cs o ≡ o
moved_fixes n k [] o h = refl
moved_fixes n k (None ∷ cs) o h = moved_fixes n (suc k) cs o h
moved_fixes n k (Some b ∷ cs) o h = ap (origin_replaced (Out n k) b) (moved_fixes n (suc k) cs o h) ∙ stays_put n k b o (apart n k o h)

-- a port before the first one
less_before : (n k c q : ℕ) → q < suc k → output_less n k c (Out n q) ≡ Out n q
less_before n k c q b =
    let t : nat_lt k q ≡ false = grind (arith, nat_tests) in
    less_own n k c n q (same_number_true n) ∙ ap (λ u. Out n (if u && nat_lt q c then q - 1 else q)) t

gone_before : (n k : ℕ) (cs : List (Option Origin)) (xs : List Kind) (q : ℕ) → q < k → origin_gone n k cs xs (Out n q) ≡ Out n q
gone_before n k [] xs q b = refl
gone_before n k (None ∷ cs) xs q b = gone_before n (suc k) cs xs q (omega (arith, b))
gone_before n k (Some o ∷ cs) xs q b =
    let c = length (from_last (λ j ys. remove ys j) (suc k) (staying cs) xs) in
    ap (λ p. output_less n k c (origin_replaced (Out n k) o p)) (gone_before n (suc k) cs xs q (omega (arith, b)))
    ∙ ap (output_less n k c) (stays_put n k o (Out n q) (other_port n k n q (λ e. omega (arith, e, b)))) ∙ less_before n k c q (omega (arith, b))

moved_before : (n k : ℕ) (cs : List (Option Origin)) (q : ℕ) → q < k → origin_moved n k cs (Out n q) ≡ Out n q
moved_before n k [] q b = refl
moved_before n k (None ∷ cs) q b = moved_before n (suc k) cs q (omega (arith, b))
moved_before n k (Some o ∷ cs) q b =
    ap (origin_replaced (Out n k) o) (moved_before n (suc k) cs q (omega (arith, b))) ∙ stays_put n k o (Out n q) (other_port n k n q (λ e. omega (arith, e, b)))

itself : (n k : ℕ) → same_origin (Out n k) (Out n k) ≡ true
itself n k = λ i. same_number_true n i && same_number_true k i

-- a port that carries an origin
gone_carried : (n k j : ℕ) (cs : List (Option Origin)) → AreOther n cs → (xs : List Kind) (b : Origin) → joined (slice_get cs j) ≡ Some b → (q : ℕ) → q ≡ k + j → (origin_gone n k cs xs (Out n q) ≡ b) × IsOther n b
gone_carried n k j [] other xs b e q at = absurd cc
gone_carried n k zero (None ∷ cs) other xs b e q at = absurd cc
gone_carried n k zero (Some o ∷ cs) other xs b e q at =
    let same : o ≡ b = same_Some o b e in
    let here : q ≡ k = omega (arith, at) in
    let c = length (from_last (λ i ys. remove ys i) (suc k) (staying cs) xs) in (
      ap (λ p. output_less n k c (origin_replaced (Out n k) o p)) (gone_before n (suc k) cs xs q (omega (arith, here)))
          ∙ ap (λ i. output_less n k c (origin_replaced (Out n k) o (Out n i))) here ∙ ap (λ t. output_less n k c (if t then o else Out n k)) (itself n k)
          ∙ less_fixes n k c o other.0 ∙ same,
      subst (IsOther n) same other.0,
    )
gone_carried n k (suc j) (None ∷ cs) other xs b e q at = gone_carried n (suc k) j cs other xs b e q (omega (arith, at))
gone_carried n k (suc j) (Some o ∷ cs) other xs b e q at =
    let rest = gone_carried n (suc k) j cs other.1 xs b e q (omega (arith, at)) in
    let c = length (from_last (λ i ys. remove ys i) (suc k) (staying cs) xs) in (
      ap (λ p. output_less n k c (origin_replaced (Out n k) o p)) rest.0 ∙ ap (output_less n k c) (stays_put n k o b (apart n k b rest.1)) ∙ less_fixes n k c b rest.1,
      rest.1,
    )

moved_carried : (n k j : ℕ) (cs : List (Option Origin)) → AreOther n cs → (b : Origin) → joined (slice_get cs j) ≡ Some b → (q : ℕ) → q ≡ k + j → (origin_moved n k cs (Out n q) ≡ b) × IsOther n b
moved_carried n k j [] other b e q at = absurd cc
moved_carried n k zero (None ∷ cs) other b e q at = absurd cc
moved_carried n k zero (Some o ∷ cs) other b e q at =
    let same : o ≡ b = same_Some o b e in
    let here : q ≡ k = omega (arith, at) in (
      ap (origin_replaced (Out n k) o) (moved_before n (suc k) cs q (omega (arith, here))) ∙ ap (λ i. origin_replaced (Out n k) o (Out n i)) here
          ∙ ap (λ t. if t then o else Out n k) (itself n k) ∙ same,
      subst (IsOther n) same other.0,
    )
moved_carried n k (suc j) (None ∷ cs) other b e q at = moved_carried n (suc k) j cs other b e q (omega (arith, at))
moved_carried n k (suc j) (Some o ∷ cs) other b e q at =
    let rest = moved_carried n (suc k) j cs other.1 b e q (omega (arith, at)) in
    (ap (origin_replaced (Out n k) o) rest.0 ∙ stays_put n k o b (apart n k b rest.1), rest.1)

-- a port that carries nothing
moved_stays : (n k j : ℕ) (cs : List (Option Origin)) → joined (slice_get cs j) ≡ None → (q : ℕ) → q ≡ k + j → origin_moved n k cs (Out n q) ≡ Out n q
moved_stays n k j [] e q at = refl
moved_stays n k zero (None ∷ cs) e q at = moved_before n (suc k) cs q (omega (arith, at))
moved_stays n k zero (Some o ∷ cs) e q at = absurd cc
moved_stays n k (suc j) (None ∷ cs) e q at = moved_stays n (suc k) j cs e q (omega (arith, at))
moved_stays n k (suc j) (Some o ∷ cs) e q at =
    ap (origin_replaced (Out n k) o) (moved_stays n (suc k) j cs e q (omega (arith, at))) ∙ stays_put n k o (Out n q) (other_port n k n q (λ c. omega (arith, c, at)))

place_behind : (k : ℕ) (ts : List Bool) (q : ℕ) → k ≤ q → k ≤ place_after (behind k ts) q
place_behind zero ts q b = omega arith
place_behind (suc k) ts zero b = absurd (omega (arith, b))
place_behind (suc k) ts (suc q) b = omega (arith, place_behind k ts q (omega (arith, b)))

stays_behind : (k : ℕ) (cs : List (Option Origin)) (j : ℕ) → joined (slice_get cs j) ≡ None → (q : ℕ) → q ≡ k + j → stays_at (behind k (staying cs)) q ≡ true
stays_behind zero [] j e q at = refl
stays_behind zero (None ∷ cs) zero e q at = let here : q ≡ 0 = omega (arith, at) in ap (stays_at (true ∷ staying cs)) here
stays_behind zero (Some o ∷ cs) zero e q at = absurd cc
stays_behind zero (c ∷ cs) (suc j) e zero at = absurd (omega (arith, at))
stays_behind zero (c ∷ cs) (suc j) e (suc q) at = stays_behind zero cs j e q (omega (arith, at))
stays_behind (suc k) cs j e zero at = absurd (omega (arith, at))
stays_behind (suc k) cs j e (suc q) at = stays_behind k cs j e q (omega (arith, at))

places_before : (k : ℕ) (ts : List Bool) (xs : List Kind) (q : ℕ) → q < k → places k ts xs q ≡ q
places_before k [] xs q b = refl
places_before k (true ∷ ts) xs q b = places_before (suc k) ts xs q (omega (arith, b))
places_before k (false ∷ ts) xs q b =
    let c = length (from_last (λ i ys. remove ys i) (suc k) ts xs) in
    let t : nat_lt k q ≡ false = grind (arith, nat_tests) in
    ap (λ p. if nat_lt k p && nat_lt p c then p - 1 else p) (places_before (suc k) ts xs q (omega (arith, b))) ∙ ap (λ u. if u && nat_lt q c then q - 1 else q) t

gone_stays : (n k j : ℕ) (cs : List (Option Origin)) (xs : List Kind) → joined (slice_get cs j) ≡ None → (q : ℕ) → q ≡ k + j → q < length xs → origin_gone n k cs xs (Out n q) ≡ Out n (places k (staying cs) xs q)
gone_stays n k j [] xs e q at b = refl
gone_stays n k zero (None ∷ cs) xs e q at b =
    gone_before n (suc k) cs xs q (omega (arith, at)) ∙ ap (Out n) (sym (places_before (suc k) (staying cs) xs q (omega (arith, at))))
gone_stays n k zero (Some o ∷ cs) xs e q at b = absurd cc
gone_stays n k (suc j) (None ∷ cs) xs e q at b = gone_stays n (suc k) j cs xs e q (omega (arith, at)) b
gone_stays n k (suc j) (Some o ∷ cs) xs e q at b =
    let c = length (from_last (λ i ys. remove ys i) (suc k) (staying cs) xs) in
    let p = places (suc k) (staying cs) xs q in
    let is : p ≡ place_after (behind (suc k) (staying cs)) q = places_are (suc k) (staying cs) xs q (stays_behind (suc k) cs j e q (omega (arith, at))) b in
    let past : suc k ≤ p = omega (arith, is, place_behind (suc k) (staying cs) q (omega (arith, at))) in
    ap (λ i. output_less n k c (origin_replaced (Out n k) o i)) (gone_stays n (suc k) j cs xs e q (omega (arith, at)) b)
    ∙ ap (output_less n k c) (stays_put n k o (Out n p) (other_port n k n p (λ i. omega (arith, i, past)))) ∙ less_own n k c n p (same_number_true n)

-- ---- both at once

pub moved_is : (n : ℕ) (cs : List (Option Origin)) → AreOther n cs → (o : Origin) → origin_moved n 0 cs o ≡ output_carried n cs [] o
moved_is n cs other (Arg k) = moved_fixes n 0 cs (Arg k) refl
moved_is n cs other (Out m q) = by (n == m) refl (joined (slice_get cs q)) refl
  where
    by : (t : Bool) → (n == m) ≡ t → (c : Option Origin) → joined (slice_get cs q) ≡ c → origin_moved n 0 cs (Out m q) ≡ (if n == m then unwrap_or (joined (slice_get cs q)) (Out m q) else Out m q)
    by true t None c =
        let same = same_number n m t in
        ap (λ i. origin_moved n 0 cs (Out i q)) (sym same) ∙ moved_stays n 0 q cs c q (omega arith) ∙ ap (λ i. Out i q) same
        ∙ sym (λ i. if t i then unwrap_or (c i) (Out m q) else Out m q)
    by true t (Some b) c =
        let same = same_number n m t in
        ap (λ i. origin_moved n 0 cs (Out i q)) (sym same) ∙ (moved_carried n 0 q cs other b c q (omega arith)).0 ∙ sym (λ i. if t i then unwrap_or (c i) (Out m q) else Out m q)
    by false t c e =
        let fixed : IsOther n (Out m q) = ap (λ u. u && not (nat_lt q 0)) (equal_back m n ∙ t) in
        moved_fixes n 0 cs (Out m q) fixed ∙ sym (ap (λ u. if u then unwrap_or (joined (slice_get cs q)) (Out m q) else Out m q) t)

pub gone_is : (n : ℕ) (cs : List (Option Origin)) → AreOther n cs → (xs : List Kind) (o : Origin) → is_beyond n (length xs) o ≡ false → origin_gone n 0 cs xs o ≡ output_carried n cs (staying cs) o
gone_is n cs other xs (Arg k) b = gone_fixes n 0 cs xs (Arg k) refl
gone_is n cs other xs (Out m q) b = by (n == m) refl (joined (slice_get cs q)) refl
  where
    by : (t : Bool) → (n == m) ≡ t → (c : Option Origin) → joined (slice_get cs q) ≡ c →
        origin_gone n 0 cs xs (Out m q) ≡ (if n == m then unwrap_or (joined (slice_get cs q)) (Out m (place_after (staying cs) q)) else Out m q)
    by true t None c =
        let same = same_number n m t in
        let within : q < length xs = is_there q (length xs) (sym (ap (λ u. u && not (nat_lt q (length xs))) (equal_back m n ∙ t)) ∙ b) in
        ap (λ i. origin_gone n 0 cs xs (Out i q)) (sym same) ∙ gone_stays n 0 q cs xs c q (omega arith) within
        ∙ (λ i. Out (same i) (places_are 0 (staying cs) xs q (stays_behind 0 cs q c q (omega arith)) within i))
        ∙ sym (λ i. if t i then unwrap_or (c i) (Out m (place_after (staying cs) q)) else Out m q)
    by true t (Some o) c =
        let same = same_number n m t in
        ap (λ i. origin_gone n 0 cs xs (Out i q)) (sym same) ∙ (gone_carried n 0 q cs other xs o c q (omega arith)).0
        ∙ sym (λ i. if t i then unwrap_or (c i) (Out m (place_after (staying cs) q)) else Out m q)
    by false t c e =
        let fixed : IsOther n (Out m q) = ap (λ u. u && not (nat_lt q 0)) (equal_back m n ∙ t) in
        gone_fixes n 0 cs xs (Out m q) fixed ∙ sym (ap (λ u. if u then unwrap_or (joined (slice_get cs q)) (Out m (place_after (staying cs) q)) else Out m q) t)
