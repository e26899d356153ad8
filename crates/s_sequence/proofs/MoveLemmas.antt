-- Lists of names, one name further.
use Rattle.std.proofs.Common.{◌≡◌, ◌<◌, ◌≤◌, ℕ, suc, ◌+◌, ◌-◌, List, [], ◌∷◌, ◌++◌, map, length, take, drop, get_or, refl, ap, ◌∙◌, sym, subst, arith, add-one, append_assoc, append-nil, drop-cons, drop_of_length-le}
use Rattle.std.specs.declared.option.Option.{Option}
use Rattle.std.specs.declared.option.Option.TheVariants.{Some, None}
use Rattle.g_graph.specs.declared.op.Kind.{Kind}
use Rattle.g_graph.specs.declared.op.Kind.TheVariants.{Value, Memory, Io}
use Rattle.g_graph.specs.declared.op.Origin.{Origin}
use Rattle.s_linear.specs.Linear.{move}
use Rattle.s_linear.specs.Lines.{Line, done}
use Rattle.val_core.specs.Numbers.{numbers_from}
use Rattle.s_sequence.specs.Sequence.{value_args, kept, without_states, moves}
use Rattle.s_sequence.specs.Ports.{name_after}
use Rattle.s_sequence.specs.Instructions.{exit_lines}

pub kept_none : (ks : List (Option Kind)) → kept ks [] ≡ []
kept_none [] = refl
kept_none (None ∷ ks) = refl
kept_none (Some Value ∷ ks) = refl
kept_none (Some Memory ∷ ks) = refl
kept_none (Some Io ∷ ks) = refl

pub numbers_more : (first i n : ℕ) → i < n → numbers_from first (n - i) ≡ first ∷ numbers_from (first + 1) (n - (i + 1))
numbers_more first i n h =
    let e : n - i ≡ suc (n - (i + 1)) = omega arith in
    ap (numbers_from first) e ∙ ap (λ k. first ∷ numbers_from k (n - (i + 1))) (sym (add-one first))

pub without_last : (f : Origin → ℕ) (os : List Origin) → without_states (map f os) ≡ map f (take (length os - 2) os)
without_last f [] = refl
without_last f (a ∷ []) = refl
without_last f (a ∷ b ∷ []) = refl
without_last f (a ∷ b ∷ c ∷ os) = ap (λ xs. f a ∷ xs) (without_last f (b ∷ c ∷ os)) ∙ ap (λ k. map f (take k (a ∷ b ∷ c ∷ os))) more
  where
    more : suc (length (b ∷ c ∷ os) - 2) ≡ length (a ∷ b ∷ c ∷ os) - 2
    more = omega arith

pub one_more : {X : Type 0} (old new rest whole all : List X) (x : X) → new ≡ old ++ x ∷ [] → whole ≡ x ∷ rest → old ++ whole ≡ all → new ++ rest ≡ all
one_more old new rest whole all x e f g = ap (λ ys. ys ++ rest) e ∙ append_assoc old (x ∷ []) rest ∙ ap (λ ys. old ++ ys) (sym f) ∙ g

pub entry_more : (old new : List Line) (target next : ℕ) (k : Kind) (x : ℕ) (ks : List (Option Kind)) (xs : List ℕ) → new ≡ old ++ exit_lines (Some k) target x →
    next ≡ name_after (Some k) target →
    new ++ map done (moves next (kept ks xs)) ≡ old ++ map done (moves target (kept (Some k ∷ ks) (x ∷ xs)))
entry_more old new target next Value x ks xs e f =
    one_more old new (map done (moves next (kept ks xs))) (map done (moves target (x ∷ kept ks xs))) _ (done (move target x)) e
    (ap (λ t. done (move target x) ∷ map done (moves t (kept ks xs))) (sym f)) refl
entry_more old new target next Memory x ks xs e f = ap (λ ys. ys ++ map done (moves next (kept ks xs))) (e ∙ append-nil old)
    ∙ ap (λ t. old ++ map done (moves t (kept ks xs))) f
entry_more old new target next Io x ks xs e f = ap (λ ys. ys ++ map done (moves next (kept ks xs))) (e ∙ append-nil old)
    ∙ ap (λ t. old ++ map done (moves t (kept ks xs))) f

pub back_more : (t s i n : ℕ) → i < n →
    map done (moves (t + i) (numbers_from (s + i) (n - i))) ≡ done (move (t + i) (s + i)) ∷ map done (moves (t + (i + 1)) (numbers_from (s + (i + 1)) (n - (i + 1))))
back_more t s i n h =
    let e : s + i + 1 ≡ s + (i + 1) = omega arith in
    let f : suc (t + i) ≡ t + (i + 1) = omega arith in
    ap (λ xs. map done (moves (t + i) xs)) (numbers_more (s + i) i n h ∙ ap (λ k. (s + i) ∷ numbers_from k (n - (i + 1))) e)
    ∙ ap (λ k. done (move (t + i) (s + i)) ∷ map done (moves k (numbers_from (s + (i + 1)) (n - (i + 1))))) f

module _ (kinds : List Kind) (sources : List ℕ) (i : ℕ) where
  abbrev Left : (target : ℕ) → (i : ℕ) → List Line
  Left t i = map done (moves t (kept (map Some (drop i kinds)) (drop i sources)))

  pub moves_more : (old new whole : List Line) (target next : ℕ) → i < length kinds → i < length sources →
      new ≡ old ++ exit_lines (Some (get_or kinds i Value)) target (get_or sources i 0) →
      next ≡ name_after (Some (get_or kinds i Value)) target → old ++ Left target i ≡ whole → new ++ Left next (i + 1) ≡ whole
  moves_more old new whole target next h k e f g =
      let ks : drop i kinds ≡ get_or kinds i Value ∷ drop (i + 1) kinds = rw (add-one, drop-cons kinds i Value) refl in
      let xs : drop i sources ≡ get_or sources i 0 ∷ drop (i + 1) sources = rw (add-one, drop-cons sources i 0) refl in
      entry_more old new target next (get_or kinds i Value) (get_or sources i 0) (map Some (drop (i + 1) kinds)) (drop (i + 1) sources) e f
      ∙ ap (λ zs. old ++ map done (moves target (kept (map Some zs) (get_or sources i 0 ∷ drop (i + 1) sources)))) (sym ks)
      ∙ ap (λ zs. old ++ map done (moves target (kept (map Some (drop i kinds)) zs))) (sym xs) ∙ g

  pub moves_end : (old whole : List Line) (target : ℕ) → length sources ≤ i → old ++ Left target i ≡ whole → old ++ Left target (i + 1) ≡ whole
  moves_end old whole target h g =
      let none : (j : ℕ) → length sources ≤ j → Left target j ≡ [] = λ j k.
      ap (λ zs. map done (moves target (kept (map Some (drop j kinds)) zs))) (drop_of_length-le sources k)
      ∙ ap (λ zs. map done (moves target zs)) (kept_none (map Some (drop j kinds))) in
      ap (λ zs. old ++ zs) (none (i + 1) (omega arith) ∙ sym (none i h)) ∙ g

  pub room_more : (target next : ℕ) → i < length kinds → next ≡ name_after (Some (get_or kinds i Value)) target →
      next + value_args (drop (i + 1) kinds) ≡ target + value_args (drop i kinds)
  room_more target next h f =
      let ks : drop i kinds ≡ get_or kinds i Value ∷ drop (i + 1) kinds = rw (add-one, drop-cons kinds i Value) refl in
      by_kind target next (get_or kinds i Value) (drop (i + 1) kinds) f ∙ ap (λ zs. target + value_args zs) (sym ks)
    where
      by_kind : (target next : ℕ) (k : Kind) (ks : List Kind) → next ≡ name_after (Some k) target → next + value_args ks ≡ target + value_args (k ∷ ks)
      by_kind target next Value ks f = omega (arith, f)
      by_kind target next Memory ks f = omega (arith, f)
      by_kind target next Io ks f = omega (arith, f)

  pub room_end : i < length kinds → value_args (drop (i + 1) kinds) ≤ value_args (drop i kinds)
  room_end h =
      let ks : drop i kinds ≡ get_or kinds i Value ∷ drop (i + 1) kinds = rw (add-one, drop-cons kinds i Value) refl in
      subst (λ zs. value_args (drop (i + 1) kinds) ≤ value_args zs) (sym ks) (by_kind (get_or kinds i Value) (drop (i + 1) kinds))
    where
      by_kind : (k : Kind) (ks : List Kind) → value_args ks ≤ value_args (k ∷ ks)
      by_kind Value ks = omega arith
      by_kind Memory ks = omega arith
      by_kind Io ks = omega arith
