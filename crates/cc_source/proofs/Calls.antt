-- A list that keeps the graph of a program has the meaning of the program, call for call.
use Rattle.std.proofs.Common.{◌≡◌, inl, inr, ℕ, ◌+◌, List, [], ◌∷◌, length, map, sym, ◌∙◌, ap₂, subst, le_trans, Option, Some, None, slice_get}
use Rattle.val_core.specs.declared.values.Value.{Value}
use Rattle.val_core.specs.Values.{IsLessDefined}
use Rattle.val_core.specs.Memory.{Memory as Blocks, IsSoundMemory}
use Rattle.val_core.specs.Answers.{IsUndefined}
use Rattle.val_core.specs.Within.{behaviour, Given, IsLessDefinedOption}
use Rattle.val_core.proofs.lemmas.Objects.{address-sound}
use Rattle.val_core.proofs.lemmas.Within.{within_composes}
use Rattle.c_typed.specs.Typed.{ProgramTree}
use Rattle.c_mean.specs.Run.{call_run, global_sizes, global_address}
use Rattle.g_graph.specs.Lists.{IsComplete}
use Rattle.g_graph.specs.Plain.{PlainLambda}
use Rattle.g_build_def.specs.Functions.{graph}
use Rattle.g_mean.specs.Data.{Datum, val, memory, input, taken}
use Rattle.g_mean.specs.Calls.{lambda_at}
use Rattle.g_mean.specs.Kinds.{AreOfKinds, call_takes, ReturnsRefine}
use Rattle.g_mean.specs.LessDefined.{AreBytes, AreSound}
use Rattle.r_edit.specs.Steps.{MayStandForAll, CallsBothWays, CompleteListsReturn}
use Rattle.rv_machine.proofs.lemmas.Nearer.{undefined_is_apart}
use Rattle.g_build_keeps.specs.Laws.{GivesBack, IsCall, CallIsKept, HasMeaning}

-- ---- what a call takes

taken_sound : (vs : List Value) (m : Blocks) (i : List ℕ) → AreSound (map val vs) → IsSoundMemory m → AreBytes i → AreSound (taken vs m i)
taken_sound [] m i h s b = (s, (b, tt))
taken_sound (v ∷ vs) m i h s b = (h.0, taken_sound vs m i h.1 s b)

taken_kinds : (vs : List Value) (m : Blocks) (i : List ℕ) → AreOfKinds (call_takes (length vs)) (taken vs m i)
taken_kinds [] m i = (tt, (tt, tt))
taken_kinds (v ∷ vs) m i = (tt, taken_kinds vs m i)

-- ---- what it gives back

less_through : (o : Option Value) (v w : Value) → IsLessDefinedOption o v → IsLessDefined v w → IsLessDefinedOption o w
less_through None v w a b = tt
less_through (Some x) v w (inl e) (inl f) = inl (e ∙ f)
less_through (Some x) v w (inl e) (inr f) = inr (e ∙ f)
less_through (Some x) v w (inr e) b = inr e

parts_same : (v w : Value) (m n : Blocks) (i j : List ℕ) → val v ∷ memory m ∷ input i ∷ [] ≡ val w ∷ memory n ∷ input j ∷ [] → (v ≡ w) × (m ≡ n) × (i ≡ j)
parts_same v w m n i j e = (cc, cc, cc)

gives_through : (g : Given (Option Value)) (ys us : List Datum) → GivesBack g ys → ReturnsRefine ys us → GivesBack g us
gives_through g ys us a r =
    let same = parts_same a.value r.near g.memory r.blocks g.input r.left (sym a.is ∙ r.near_is) in
    record {
      value = r.far;
      is = r.far_is ∙ ap₂ (λ m i. val r.far ∷ memory m ∷ input i ∷ []) (sym same.1) (sym same.2);
      less = less_through g.value a.value r.far a.less (subst (λ v. IsLessDefined v r.far) (sym same.0) r.less);
    }

-- ---- calls

module _ (returns : CompleteListsReturn) (p : ProgramTree) (ks : List PlainLambda) (means : HasMeaning p (graph p)) (complete : IsComplete (graph p)) (stands : MayStandForAll (graph p) ks) where
  module _ (f : ℕ) (vs : List Value) (m : Blocks) (i : List ℕ) (call : IsCall p f vs m i) (right : (n : ℕ) → IsUndefined (call_run p (global_address p) n f vs m i) → ⊥) where
    lambda_right : (n : ℕ) → IsUndefined (lambda_at n (graph p) (global_address p) f (taken vs m i)) → ⊥
    lambda_right n wrong =
        let back = (means f vs m i call right n).back in
        undefined_is_apart (λ ys g. GivesBack g ys) (lambda_at n (graph p) (global_address p) f (taken vs m i)) (call_run p (global_address p) back.0 f vs m i) wrong back.1

    both : CallsBothWays (graph p) ks (global_address p) f (taken vs m i)
    both =
        returns (graph p) ks stands complete (global_address p) f (length vs) (taken vs m i) (λ k. address-sound (0 + k) (slice_get (global_sizes p) k))
        (taken_sound vs m i call.values call.memory call.input) (taken_kinds vs m i) lambda_right

    call_kept : (n : ℕ) → CallIsKept p ks f vs m i n
    call_kept n = record {
      forward =
          let first = (means f vs m i call right n).forward in
          let next = both.forward first.0 in (
            next.0,
            within_composes GivesBack ReturnsRefine GivesBack gives_through (behaviour (call_run p (global_address p) n f vs m i))
                (behaviour (lambda_at first.0 (graph p) (global_address p) f (taken vs m i))) (behaviour (lambda_at next.0 ks (global_address p) f (taken vs m i))) first.1 next.1,
          );
      back =
          let first = both.back n in
          let next = (means f vs m i call right first.0).back in (
            next.0,
            within_composes (λ us ys. ReturnsRefine ys us) (λ ys g. GivesBack g ys) (λ us g. GivesBack g us) (λ us ys g r a. gives_through g ys us a r)
                (behaviour (lambda_at n ks (global_address p) f (taken vs m i))) (behaviour (lambda_at first.0 (graph p) (global_address p) f (taken vs m i)))
                (behaviour (call_run p (global_address p) next.0 f vs m i)) first.1 next.1,
          );
      no_deeper = λ sizes.
          let first = both.no_deeper n in
          let next = (means f vs m i call right first.0).no_deeper sizes in
          (next.0, le_trans (first.1 sizes) next.1);
    }

  pub kept_means : HasMeaning p ks
  kept_means f vs m i call right n = call_kept f vs m i call right n
