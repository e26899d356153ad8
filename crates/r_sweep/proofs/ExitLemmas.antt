-- A node while an exit variable of it goes.
use Rattle.std.proofs.Common.{◌≡◌, ◌<◌, ◌≤◌, ℕ, zero, suc, refl, sym, ap, subst, ◌∙◌, arith}
use Rattle.std.specs.Prelude.{IsSome, slice_get, option_and_then}
use Rattle.std.specs.List.{remove}
use Rattle.g_arena_def.specs.Flat.{FlatRegion, FlatNode, Flat, place_in}
use Rattle.g_arena_def.specs.Reads.{result_at}
use Rattle.g_arena_def.specs.Edits.{output_removed, result_removed}
use Rattle.r_sweep.specs.Removals.{each_of}
use Rattle.r_sweep.proofs.lemmas.Edits.{NodeAt, output_gone, result_less, output_at, result_gone_at, at_other}
use Rattle.r_sweep.specs.Exit.{IsExit}

module _ (n count port : ℕ) (a : Flat) (h : IsExit n count port a) where
  abbrev b : Flat
  b = output_removed n port a

  -- after so many results went
  record Left (c : ℕ) : Type 0 where
    node : FlatNode
    at : NodeAt n node (each_of (λ j. result_removed (place_in n j) port) c b)
    same : (j : ℕ) → c ≤ j → slice_get node.regions j ≡ slice_get h.node.regions j

  left : (c : ℕ) → Left c
  left zero = record { node = output_gone n port h.node; at = output_at n port h.node a (record { there = h.there; number = h.number; apart = h.apart }); same = λ j le. refl }
  left (suc c) =
      let l = left c in
      record {
        node = result_less c port l.node;
        at = result_gone_at n c port l.node (each_of (λ j. result_removed (place_in n j) port) c b) l.at;
        same = λ j le. at_other c j (λ (r : FlatRegion). record r { results = remove r.results port }) l.node.regions (λ e. omega (arith, e, le)) ∙ l.same j (omega (arith, le));
      }

  pub result_there : (c : ℕ) → c < count → IsSome (result_at (place_in n c) port (each_of (λ j. result_removed (place_in n j) port) c b))
  result_there c lt =
      let l = left c in
      subst (λ o. IsSome o)
      (sym (ap (λ o. option_and_then (λ (r : FlatRegion). slice_get r.results port) (option_and_then (λ (x : FlatNode). slice_get x.regions c) o)) l.at.there
      ∙ ap (option_and_then (λ (r : FlatRegion). slice_get r.results port)) (l.same c (omega arith)))) (h.results c lt)
