-- What is put together by the rules is well formed.
use Rattle.std.proofs.Common.{◌≡◌, ℕ, suc, zero, true, false, List, [], ◌∷◌, ◌++◌, length, replicate, refl, ap, ◌∙◌}
use Rattle.std.specs.Prelude.{◌&&◌, ◌||◌}
use Rattle.g_graph.specs.declared.op.Kind.{Kind}
use Rattle.g_graph.specs.declared.op.Kind.TheVariants.{Value, Memory, Io}
use Rattle.g_graph.specs.declared.op.Op.{Op}
use Rattle.g_graph.specs.Ids.{region_ids}
use Rattle.g_graph.specs.Lists.{Calls, NamesGlobal}
use Rattle.g_graph.specs.Plain.{RegionTree, region, args_of}
use Rattle.g_graph.specs.Scope.{same_kind}
use Rattle.g_graph.specs.WellFormed.{some_of, are, same, body_fits, well_formed}
use Rattle.g_build_keeps.specs.Formation.{HasBothStates, RegionForms}
use Rattle.g_build_keeps.specs.FormationLaws.{OpFits, FormedIsWellFormed}
use Rattle.g_build_keeps.proofs.Outputs.{results_are}
use Rattle.g_graph.proofs.lemmas.KindLists.{are_themselves}
use Rattle.g_build_keeps.proofs.Fits.{values_then_states, region_tests}
use Rattle.g_build_keeps.proofs.Once.{region_once, once_fits}
use Rattle.g_build_keeps.proofs.lemmas.Names.{region_ops, fits_allows_only, fits_calls, fits_names}

has_state : (k : Kind) (n : ℕ) (ks : List Kind) → some_of (same_kind k) ks ≡ true → same_kind k Value ≡ false → some_of (same_kind k) (replicate n Value ++ ks) ≡ true
has_state k zero ks h e = h
has_state k (suc n) ks h e = ap (λ b. b || some_of (same_kind k) (replicate n Value ++ ks)) e ∙ has_state k n ks h e

params_have_states : (n : ℕ) → HasBothStates (replicate n Value ++ Memory ∷ Io ∷ [])
params_have_states n =
    record { once = values_then_states n; memory = has_state Memory n (Memory ∷ Io ∷ []) refl refl; io = has_state Io n (Memory ∷ Io ∷ []) refl refl }

args_are : (a : Op → ℕ → Type 0) (n : ℕ) (args outs : List Kind) (r : RegionTree) (m : ℕ) → RegionForms a n args outs r m → args_of r ≡ args
args_are a n args outs (region own nodes results) m h = h.0

pub formed_is_well_formed : FormedIsWellFormed
formed_is_well_formed ls globals l h =
    let a = OpFits ls globals (length l.objects) in
    let args = replicate l.params Value ++ Memory ∷ Io ∷ [] in
    let outs = Value ∷ Memory ∷ Io ∷ [] in
    let starts = params_have_states l.params in
    let fits : body_fits l ≡ true =
    λ i. (ap (λ own. same own args) (args_are a 0 args outs l.body l.next h.body) ∙ are_themselves args) i
    && (ap (λ xs. are xs outs) (results_are a 0 args outs l.body l.next starts h.body) ∙ are_themselves outs) i in
    let tests = region_tests a (length l.objects) 0 args outs l.body l.next (fits_allows_only ls globals (length l.objects)) starts
    (record { once = refl; memory = refl; io = refl }) h.body in
    let whole : well_formed l ≡ true = λ i. ((fits i && once_fits 0 (region_ids l.body) l.next (region_once a 0 args outs l.body l.next h.body) i) && tests i) && h.leaves i in (
      whole,
      region_ops a (Calls ls) (fits_calls ls globals (length l.objects)) 0 args outs l.body l.next h.body,
      region_ops a (NamesGlobal globals) (fits_names ls globals (length l.objects)) 0 args outs l.body l.next h.body,
    )
