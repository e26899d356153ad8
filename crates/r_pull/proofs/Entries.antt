-- The entries that stay, by the entries themselves.
use Rattle.std.specs.Prelude.{slice_get, unwrap_or}
use Rattle.std.proofs.Common.{◌≡◌, ℕ, zero, suc, Bool, false, List, [], ◌∷◌, option_map, refl, sym, ap, ◌∙◌}
use Rattle.std.proofs.Math.Bool.{not-not}
use Rattle.g_graph.specs.declared.op.Origin.{Origin}
use Rattle.g_graph.specs.declared.op.Origin.TheVariants.{Arg}
use Rattle.r_edit.specs.Uses.{is_output_of}
use Rattle.r_edit.specs.Entries.{is_gone_argument}
use Rattle.r_pull.specs.Rule.{other_entries}

gone-at : (n : ℕ) (entries : List Origin) (k : ℕ) → is_gone_argument (other_entries n entries) (Arg k) ≡ unwrap_or (option_map (is_output_of n) (slice_get entries k)) false
gone-at n [] zero = refl
gone-at n [] (suc k) = refl
gone-at n (a ∷ entries) zero = not-not (is_output_of n a)
gone-at n (a ∷ entries) (suc k) = gone-at n entries k

pub gone_from : (n : ℕ) (entries : List Origin) (k : ℕ) (t : Bool) (o : Origin) → o ≡ Arg k → t ≡ unwrap_or (option_map (is_output_of n) (slice_get entries k)) false →
    t ≡ is_gone_argument (other_entries n entries) o
gone_from n entries k t o a e = e ∙ sym (gone-at n entries k) ∙ ap (is_gone_argument (other_entries n entries)) (sym a)
