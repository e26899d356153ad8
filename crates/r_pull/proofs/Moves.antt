-- A move into one Gamma: where the node may move it is what is planned.
use Rattle.std.proofs.Common.{◌≡◌, ℕ, Bool, true, false, cond, None, Some, option_map, refl, sym, ap, subst, ◌∙◌}
use Rattle.std.proofs.lemmas.Option.{same_Some}
use Rattle.g_graph.specs.Plain.{NodeTree}
use Rattle.r_pull.specs.declared.into.Moved.{Moved}
use Rattle.r_pull.specs.Rule.{Pull, fits, where_fits, gamma_pulled}
use Rattle.r_pull.specs.Edit.{IsCounted, moved_of, gamma_after}

module _ (values next n : ℕ) (h : Pull) where
  -- what may move is what was asked for
  pub same_pull : (k : Pull) → Some k ≡ where_fits values next n h → k ≡ h
  same_pull k e = by (fits values next n h) e
    where
      by : (t : Bool) → Some k ≡ cond t (Some h) None → k ≡ h
      by true d = same_Some k h d
      by false d = absurd cc

  pub counted_here : (copies : ℕ) (k : Pull) → Some k ≡ where_fits values next n h → IsCounted next n copies k → IsCounted next n copies h
  counted_here copies k e c = subst (IsCounted next n copies) (same_pull k e) c

  pub moves_here : (k : Pull) → Some k ≡ where_fits values next n h → Some (moved_of n h) ≡ option_map (moved_of n) (where_fits values next n h)
  moves_here k e = ap (λ j. Some (moved_of n j)) (sym (same_pull k e)) ∙ ap (option_map (moved_of n)) e

  pub after_move : (m : Moved) (g : NodeTree) → Some m ≡ option_map (moved_of n) (where_fits values next n h) → gamma_pulled next n h g ≡ gamma_after next n (where_fits values next n h) g
  after_move m g e = by (fits values next n h) e
    where
      by : (t : Bool) → Some m ≡ option_map (moved_of n) (cond t (Some h) None) → gamma_pulled next n h g ≡ gamma_after next n (cond t (Some h) None) g
      by true d = refl
      by false d = absurd cc

  pub after_none : (g : NodeTree) → None ≡ option_map (moved_of n) (where_fits values next n h) → g ≡ gamma_after next n (where_fits values next n h) g
  after_none g e = by (fits values next n h) e
    where
      by : (t : Bool) → None ≡ option_map (moved_of n) (cond t (Some h) None) → g ≡ gamma_after next n (cond t (Some h) None) g
      by true d = absurd cc
      by false d = refl
