-- The laws of turns: what is known of a loop that may be inverted.
use Rattle.std.specs.Prelude.{◌==◌}
use Rattle.std.proofs.Common.{◌≡◌, ℕ, true, false, List, ◌∷◌, Some, sym, ap, subst, ◌∙◌}
use Rattle.val_core.specs.Answers.{then_on}
use Rattle.val_core.specs.Refinement.{Refines, no_deeper}
use Rattle.g_graph.specs.declared.op.Kind.{Kind}
use Rattle.g_graph.specs.declared.op.Origin.{Origin}
use Rattle.g_graph.specs.Plain.{RegionTree, region, NodeTrees, no_nodes, node_then, args_of}
use Rattle.g_graph.specs.Splice.{joined_nodes}
use Rattle.g_graph.specs.WellFormed.{all_of}
use Rattle.g_mean.specs.Data.{Datum}
use Rattle.g_mean.specs.Meaning.{Context, turns, region_meaning}
use Rattle.g_mean.specs.LessDefined.{Paired, IsLessDefinedDatum}
use Rattle.g_mean.proofs.lemmas.Bounds.{Never, Always, never-refines}
use Rattle.g_mean.proofs.lemmas.Calls.{same-itself}
use Rattle.g_mean.proofs.lemmas.Equal.{no_deeper-compares}
use Rattle.g_mean.proofs.lemmas.LessDefined.{less-kept}
use Rattle.g_mean.proofs.lemmas.Regions.{region-refines}
use Rattle.r_invert.specs.Laws.{either, IsLoopRegion, InvertedLoopsTestFirst, InvertedLoopsRefine}
use Rattle.r_invert.specs.Rule.{Parts, parts_of, is_output_of, takes_both_states, giving, word_given, is_zero, is_other}
use Rattle.r_invert.proofs.Forms.{ending, form-of, word-zero, word-other}
use Rattle.r_invert.proofs.Looped.{inverted-does}
use Rattle.r_invert.proofs.PartsFit.{exits, z-kinds, b-kinds, output-kinds, parts-fit, regions-fit, regions-unique}
use Rattle.r_invert.proofs.Turned.{region-given, turn-is}
use Rattle.r_invert.proofs.Turns.{with_word, turns-refine}
use Rattle.r_invert.proofs.Whole.{PartsFit}

-- a turn is the test, and then the one part or the other, with a predicate of its own
pub record LoopSays (objects : ℕ) (r : RegionTree) (p : Parts) : Type 0 where
  pub entries : List Kind
  pub fit : PartsFit objects (args_of r) entries p
  pub word : ℕ
  pub other : (word == 0) ≡ false
  pub turn : (c : Context) (xs : List Datum) →
      region_meaning c r xs ≡ then_on (region_meaning c p.test xs) (either (with_word 0 (region_meaning c p.stop)) (with_word word (region_meaning c p.go)))

shape-says : (objects : ℕ) (args : List Kind) (before : NodeTrees) (g : ℕ) (inputs : List Origin) (z b : RegionTree) (predicate : Origin) (variables : List Origin) →
    IsLoopRegion objects (region args (joined_nodes before (node_then (ending g inputs z b) no_nodes)) (predicate ∷ variables)) → takes_both_states z ≡ true →
    all_of (is_output_of g) (predicate ∷ variables) ≡ true → is_zero (word_given g predicate z) ≡ true → is_other (word_given g predicate b) ≡ true →
    LoopSays objects (region args (joined_nodes before (node_then (ending g inputs z b) no_nodes)) (predicate ∷ variables))
    (record { test = region args before inputs; stop = giving g variables z; go = giving g variables b })
shape-says objects args before g inputs (region own ns rs) (region others ms ss) predicate variables loop states outputs zero_word other_word =
    let z = region own ns rs in
    let b = region others ms ss in
    let fits = regions-fit objects args before g inputs own ns rs others ms ss predicate variables loop states outputs in
    let unique = regions-unique objects args before g inputs own ns rs others ms ss predicate variables loop states outputs in
    let kinds = output-kinds objects args before g inputs own ns rs others ms ss predicate variables loop states outputs in
    let other = word-other (word_given g predicate b) other_word in
    record {
      entries = own;
      fit = parts-fit objects args before g inputs own ns rs others ms ss predicate variables loop states outputs;
      word = other.0;
      other = other.2;
      turn = λ c xs.
          turn-is c args before g inputs (predicate ∷ variables) z b (with_word 0 (region_meaning c (giving g variables z))) (with_word other.0 (region_meaning c (giving g variables b)))
          (λ us o es. region-given objects c g predicate variables own ns rs (exits objects args before g inputs own ns rs others ms ss predicate variables loop states outputs) args 0 fits.0 unique.0
          (z-kinds objects args before g inputs own ns rs others ms ss predicate variables loop states outputs) outputs kinds (word-zero (word_given g predicate z) zero_word) us o es)
          (λ us o es. region-given objects c g predicate variables others ms ss (exits objects args before g inputs own ns rs others ms ss predicate variables loop states outputs) args other.0 fits.1
          unique.1 (b-kinds objects args before g inputs own ns rs others ms ss predicate variables loop states outputs) outputs kinds other.1 us o es)
          xs;
    }

pub loop-says : (objects : ℕ) (r : RegionTree) (p : Parts) → IsLoopRegion objects r → parts_of r ≡ Some p → LoopSays objects r p
loop-says objects (region args nodes results) p loop e =
    let f = form-of args nodes results p e in
    let h = f.ends in
    let is : region args nodes results ≡ region args (joined_nodes f.before (node_then (ending h.g h.inputs h.z h.b) no_nodes)) (h.predicate ∷ h.variables) =
    λ i. region args ((f.whole ∙ ap (λ x. joined_nodes f.before (node_then x no_nodes)) h.node) i) (h.results_are i) in
    subst (λ r. LoopSays objects r p) (sym is)
    (subst (LoopSays objects (region args (joined_nodes f.before (node_then (ending h.g h.inputs h.z h.b) no_nodes)) (h.predicate ∷ h.variables))) h.parts
    (shape-says objects args f.before h.g h.inputs h.z h.b h.predicate h.variables (subst (IsLoopRegion objects) is loop) h.states h.outputs h.zero_word h.other_word))

-- ---- the laws

pub inverted_loops_test_first : InvertedLoopsTestFirst
inverted_loops_test_first objects next r p loop e c xs = let s = loop-says objects r p loop e in inverted-does objects (args_of r) s.entries p s.fit c next xs

pub inverted_loops_refine : InvertedLoopsRefine
inverted_loops_refine direction c d a objects next r p loop e n order xs ys near =
    let s = loop-says objects r p loop e in
    let part : (q : RegionTree) (us vs : List Datum) → Paired IsLessDefinedDatum us vs → Refines no_deeper direction (Paired IsLessDefinedDatum) (region_meaning c q us) (region_meaning d q vs) =
    λ q us vs near'.
    (region-refines no_deeper no_deeper-compares direction IsLessDefinedDatum less-kept Never Always (never-refines no_deeper no_deeper-compares direction IsLessDefinedDatum less-kept) c d a tt q q
    (same-itself Never q)).on us vs near' in
    subst (Refines no_deeper direction (Paired IsLessDefinedDatum) (turns n (region_meaning c r) xs)) (sym (inverted-does objects (args_of r) s.entries p s.fit d next ys))
    (turns-refine direction (region_meaning c p.test) (region_meaning c p.stop) (region_meaning c p.go) (region_meaning c r) (region_meaning d p.test) (region_meaning d p.stop) (region_meaning d p.go)
    s.word s.other (s.turn c) (part p.test) (part p.stop) (part p.go) n d.bound order xs ys near)
