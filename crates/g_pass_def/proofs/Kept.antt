-- Lists of lambdas that keep each other.
use Rattle.std.specs.Prelude.{slice_set}
use Rattle.std.proofs.Common.{◌≡◌, ◌<◌, length, Some, slice_get, get_or, refl, sym, subst, ◌∙◌, inl, inr, arith}
use Rattle.std.proofs.lemmas.Bool.{cases_eq}
use Rattle.std.proofs.lemmas.List.{length-set}
use Rattle.std.proofs.lemmas.Option.{same_Some, slice_get_within, slice_get-get_or}
use Rattle.g_graph.specs.Plain.{PlainLambda}
use Rattle.r_edit.proofs.lemmas.Steps.{set-there, set-elsewhere, no-larger-composes, lists_stand_for_themselves, lists_compose}
use Rattle.g_pass_def.specs.Kept.{KeepsShape}
use Rattle.g_pass_def.specs.Laws.{ListsKeepThemselves, KeepingComposes, StepsKeepLists}

-- ---- shapes

shape-itself : (l : PlainLambda) → KeepsShape l l
shape-itself l = record { interface = record { number = refl; params = refl; objects = refl }; values = inr (omega arith) }

shape-composes : (l k j : PlainLambda) → KeepsShape l k → KeepsShape k j → KeepsShape l j
shape-composes l k j h g =
    record {
      interface = record {
        number = g.interface.number ∙ h.interface.number;
        params = g.interface.params ∙ h.interface.params;
        objects = g.interface.objects ∙ h.interface.objects;
      };
      values = no-larger-composes _ _ _ h.values g.values;
    }

-- ---- lists

pub lists_keep_themselves : ListsKeepThemselves
lists_keep_themselves ls =
    record {
      stands = lists_stand_for_themselves ls;
      count = refl;
      each = λ f l k a b. subst (KeepsShape l) (same_Some l k (sym a ∙ b)) (shape-itself l);
    }

pub keeping_composes : KeepingComposes
keeping_composes ls ks js h g =
    record {
      stands = lists_compose ls ks js h.stands g.stands;
      count = g.count ∙ h.count;
      each = λ f l j a b.
          let inside : f < length ks = omega (arith, slice_get_within ls f l a, h.count) in
          let mid = slice_get-get_or ks f l inside in
          shape-composes l (get_or ks f l) j (h.each f l (get_or ks f l) a mid) (g.each f (get_or ks f l) j mid b);
    }

pub steps_keep_lists : StepsKeepLists
steps_keep_lists held l k step ls at each =
    record {
      stands = step.lists ls at each;
      count = length-set ls l.number k;
      each = λ f a b la lb.
          elim (cases_eq f l.number) [
            | inl same ↦
                let old : l ≡ a = same_Some l a (sym at ∙ subst (λ n. slice_get ls n ≡ Some a) same la) in
                let new : k ≡ b =
                same_Some k b (sym (set-there ls l.number l k at) ∙ subst (λ n. slice_get (slice_set ls l.number k) n ≡ Some b) same lb) in
                subst (λ x. KeepsShape x b) old (subst (KeepsShape l) new (record { interface = step.interface; values = step.values }))
            | inr other ↦ subst (KeepsShape a) (same_Some a b (sym la ∙ (sym (set-elsewhere ls l.number f k other) ∙ lb))) (shape-itself a)
          ];
    }
