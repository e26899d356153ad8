-- A Gamma while its exits go, from the last to the first, and then its entries.
use Rattle.std.proofs.Common.{◌≡◌, ◌<◌, ◌≤◌, ◌-◌, ◌&&◌, ◌||◌, not, nat_lt, ℕ, suc, Bool, true, false, Some, List, [], ◌∷◌, drop, length, length-drop, Result, Ok, Err, OnErr, refl, sym, ap, subst, ◌∙◌, arith}
use Rattle.std.specs.Prelude.{slice_get, is_some, option_and_then, IsSome}
use Rattle.std.proofs.lemmas.Bool.{or_parts}
use Rattle.std.proofs.lemmas.Option.{same_Some}
use Rattle.g_graph.specs.declared.op.Kind.{Kind}
use Rattle.g_graph.specs.declared.op.Kind.TheVariants.{Value}
use Rattle.g_graph.specs.declared.op.Op.TheVariants.{Gamma}
use Rattle.g_graph.specs.declared.op.Origin.TheVariants.{Out}
use Rattle.r_rule.specs.declared.steps.Step.{Step}
use Rattle.g_graph.specs.Scope.{same_kind}
use Rattle.r_edit.specs.InPlace.{all_stay}
use Rattle.g_arena_def.specs.Flat.{FlatRegion, FlatNode, Flat}
use Rattle.g_arena_def.specs.Reads.{found, kind_in, uses_in}
use Rattle.r_sweep.specs.Removals.{from_last, exit_removed}
use Rattle.r_sweep.specs.Fast.{IsWhole}
use Rattle.r_sweep.proofs.lemmas.ExitSteps.{ExitsAt, exits_go, kind_before, some_within, within_some}
use Rattle.r_sweep.proofs.lemmas.Fits.{GammaFits, gamma_fits}
use Rattle.r_sweep.proofs.lemmas.Whole.{Stands, stands}
use Rattle.r_sweep.specs.Exit.{IsExit}
use Rattle.r_dne.specs.Listed.{exits_in, without_exits}
use Rattle.r_dne.specs.declared.judging.Shape.{Shape}
use Rattle.r_dne.specs.Gone.{with_note}
use Rattle.r_dne.specs.Shape.{IsShape}
use Rattle.r_dne.proofs.Judged.{no_use, output_stays, output_at, outputs_count, At, at_index, none_after}

unused_of : (t : Bool) (c : ℕ) → (t || nat_lt 0 c) ≡ false → c ≡ 0
unused_of t c e = no_use c (or_parts t (nat_lt 0 c) e).1

module _ (n : ℕ) (a : Flat) (x : FlatNode) (whole : IsWhole a) (e : found n a.nodes ≡ Some x) (g : x.op ≡ Gamma) where
  fits : GammaFits x
  fits = gamma_fits n a x whole e g

  here : Stands n x a
  here = stands n x a whole e

  abbrev count : ℕ
  count = length x.regions

  abbrev stays : List Bool
  stays = exits_in a x

  stays_count : length stays ≡ length x.outputs
  stays_count = outputs_count a x.home x.id 0 x.outputs

  start : ExitsAt n x a count (length x.outputs) a
  start = record {
    node = x;
    at = record { there = e; number = here.number; apart = here.apart };
    home = refl;
    outputs = λ k lt. refl;
    uses = λ k lt. refl;
    results = λ j k lt lk. let f = fits.each j lt in
        ap (λ o. is_some (option_and_then (λ (r : FlatRegion). slice_get r.results k) o)) f.there ∙ some_within k f.region.results (omega (arith, f.results, lk));
  }

  -- after those from an index on were judged
  abbrev pub exits_from : ℕ → Flat
  exits_from p = from_last (exit_removed n count) p (drop p stays) a

  exits_here : (p : ℕ) → p ≤ length x.outputs → ExitsAt n x a count p (exits_from p)
  exits_here p le = exits_go n x a count (drop p stays) p (omega (arith, length-drop p stays, stays_count, le)) start

  -- ---- the exit of an index

  module _ (p : ℕ) (lt : p < length x.outputs) where
    pub kind_at : At p x.outputs
    kind_at = at_index p x.outputs lt

    abbrev kind : Kind
    kind = kind_at.element

    abbrev before : Flat
    before = exits_from (suc p)

    there : ExitsAt n x a count (suc p) before
    there = exits_here (suc p) (omega (arith, lt))

    pub kind_is : kind_in x.home (Out n p) before ≡ Some kind
    kind_is = kind_before n x a count (suc p) p before kind there (omega arith) kind_at.there

    uses_are : uses_in x.home (Out n p) before ≡ uses_in x.home (Out n p) a
    uses_are = there.uses p (omega arith)

    stay_at : At p stays
    stay_at = at_index p stays (omega (arith, stays_count, lt))

    -- the test
    module _ (k : Kind) (uses : ℕ) (kind_told : kind_in x.home (Out n p) before ≡ Some k) (uses_told : uses ≡ uses_in x.home (Out n p) before) where
      abbrev test : Bool
      test = not (same_kind Value k) || nat_lt 0 uses

      test_is : test ≡ stay_at.element
      test_is =
          let same : k ≡ kind = same_Some k kind (sym kind_told ∙ kind_is) in
          (λ i. not (same_kind Value (same i)) || nat_lt 0 ((uses_told ∙ uses_are) i)) ∙ ap (λ m. output_stays a x.home m p kind) (sym here.number)
          ∙ same_Some (output_stays a x.home x.id p kind) stay_at.element (sym (output_at a x.home x.id p x.outputs kind kind_at.there) ∙ stay_at.there)

      rest_is : drop p stays ≡ test ∷ drop (suc p) stays
      rest_is = stay_at.rest ∙ ap (λ t. t ∷ drop (suc p) stays) (sym test_is)

      pub exit_stays : test ≡ true → exits_from p ≡ before
      exit_stays t = ap (λ ts. from_last (exit_removed n count) p ts a) (rest_is ∙ ap (λ u. u ∷ drop (suc p) stays) t)

      pub exit_gone : test ≡ false → exits_from p ≡ exit_removed n count p before
      exit_gone t = ap (λ ts. from_last (exit_removed n count) p ts a) (rest_is ∙ ap (λ u. u ∷ drop (suc p) stays) t)

      pub all_of_them : all_stay (drop p stays) ≡ test && all_stay (drop (suc p) stays)
      all_of_them = ap all_stay rest_is

      pub may_go : test ≡ false → IsExit n count p before
      may_go t = record {
        node = there.node;
        there = there.at.there;
        number = there.at.number;
        apart = there.at.apart;
        output = within_some p there.node.outputs (ap is_some (there.outputs p (omega arith)) ∙ some_within p x.outputs lt);
        unused = ap (λ q. uses_in q (Out n p) before) there.home ∙ sym uses_told ∙ unused_of (not (same_kind Value k)) uses t;
        results = λ j l. there.results j p l (omega arith);
      }

-- ---- as the code has it: at port P, which is one more than p

module _ (s : Shape) (a : Flat) (whole : IsWhole a) (h : IsShape s a) (g : s.op ≡ Gamma) where
  abbrev x : FlatNode
  x = h.node

  abbrev op : x.op ≡ Gamma
  op = sym h.op ∙ g

  abbrev state : FlatNode → ℕ → Flat
  state y p = from_last (exit_removed s.node (length y.regions)) p (drop p (exits_in a y)) a

  module _ (port : ℕ) (some : 0 < port) (within : port ≤ s.outputs) (b : Flat) (is : b ≡ state x port) where
    abbrev p : ℕ
    p = port - 1

    next : port ≡ suc p
    next = omega (arith, some)

    lt : p < length x.outputs
    lt = omega (arith, some, within, h.outputs)

    before_is : b ≡ state x (suc p)
    before_is = is ∙ ap (state x) next

    pub origin_there : IsSome (kind_in s.home (Out s.node p) b)
    origin_there =
        (λ i. is_some (kind_in (h.home i) (Out s.node p) (before_is i))) ∙ ap is_some (kind_is s.node a x whole h.there op p lt)

    module _ (k : Kind) (uses : ℕ) (kind_told : kind_in s.home (Out s.node p) b ≡ Some k) (uses_told : uses ≡ uses_in s.home (Out s.node p) b) where
      told_kind : kind_in x.home (Out s.node p) (state x (suc p)) ≡ Some k
      told_kind = sym (λ i. kind_in (h.home i) (Out s.node p) (before_is i)) ∙ kind_told

      told_uses : uses ≡ uses_in x.home (Out s.node p) (state x (suc p))
      told_uses = uses_told ∙ (λ i. uses_in (h.home i) (Out s.node p) (before_is i))

      abbrev asked : Bool
      asked = not (same_kind Value k) || nat_lt 0 uses

      own_node : (y : FlatNode) → found s.node a.nodes ≡ Some y → x ≡ y
      own_node y e = same_Some x y (sym h.there ∙ e)

      pub now_stays : asked ≡ true → (y : FlatNode) → found s.node a.nodes ≡ Some y → b ≡ state y p
      now_stays t y e = before_is ∙ sym (exit_stays s.node a x whole h.there op p lt k uses told_kind told_uses t) ∙ ap (λ z. state z p) (own_node y e)

      pub now_gone : asked ≡ false → (y : FlatNode) → found s.node a.nodes ≡ Some y → exit_removed s.node s.regions p b ≡ state y p
      now_gone t y e =
          (λ i. exit_removed s.node (h.regions i) p (before_is i)) ∙ sym (exit_gone s.node a x whole h.there op p lt k uses told_kind told_uses t) ∙ ap (λ z. state z p) (own_node y e)

      pub now_all : (y : FlatNode) → found s.node a.nodes ≡ Some y → all_stay (drop p (exits_in a y)) ≡ asked && all_stay (drop port (exits_in a y))
      now_all y e =
          ap (λ z. all_stay (drop p (exits_in a z))) (sym (own_node y e)) ∙ all_of_them s.node a x whole h.there op p lt k uses told_kind told_uses
          ∙ (λ i. asked && all_stay (drop (sym next i) (exits_in a (own_node y e i))))

      pub now_may_go : asked ≡ false → IsExit s.node s.regions p b
      now_may_go t =
          subst (λ c. IsExit s.node c p b) (sym h.regions) (subst (IsExit s.node (length x.regions) p) (sym before_is) (may_go s.node a x whole h.there op p lt k uses told_kind told_uses t))

  -- at the start, and at the end
  pub none_judged : (y : FlatNode) → found s.node a.nodes ≡ Some y → drop s.outputs (exits_in a y) ≡ []
  none_judged y e =
      none_after s.outputs (exits_in a y) (outputs_count a y.home y.id 0 y.outputs ∙ sym (h.outputs ∙ ap (λ (z : FlatNode). length z.outputs) (same_Some x y (sym h.there ∙ e))))

  pub all_judged : (port : ℕ) → port ≡ 0 → (y : FlatNode) → found s.node a.nodes ≡ Some y → state y port ≡ without_exits a y
  all_judged port last y e =
      ap (state y) last
      ∙ ap (λ n. from_last (exit_removed n (length y.regions)) 0 (exits_in a y) a) (sym (stands s.node y a whole e).number)

-- a step is noted once
pub noted_once : (noted : Bool) (n : ℕ) (steps now : List Step) → now ≡ with_note noted n steps → with_note (not noted) n now ≡ with_note true n steps
noted_once true n steps now e = e
noted_once false n steps now e = ap (with_note true n) e

pub on_err : {A B : Type 0} (P : Type 0) (r : Result A B) → P → OnErr r P
on_err P (Ok x) p = tt
on_err P (Err e) p = p
