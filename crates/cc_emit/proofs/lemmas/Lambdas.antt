-- A lambda of a program meets what its function asks.
use Rattle.std.proofs.Common.{◌≡◌, ℕ, ◌+◌, ◌^◌, ◌<◌, ◌≤◌, sym, ap, subst, ◌∙◌, true, Some, List, arith}
use Rattle.std.proofs.lemmas.Bool.{lt-ltb, ltb-true}
use Rattle.std.specs.Prelude.{nat_lt, slice_get}
use Rattle.g_graph.specs.Plain.{PlainObject, PlainLambda, PlainOmega}
use Rattle.g_graph.specs.Program.{lambda_values}
use Rattle.g_graph.specs.WellFormed.{all_of}
use Rattle.g_graph.proofs.lemmas.Unique.{all_of_holds}
use Rattle.s_linear.specs.Frame.{PlainPlaces, frame_size, objects_at}
use Rattle.s_linear.specs.Lines.{Line, line_names, names_below}
use Rattle.s_linear.specs.declared.frame.CodeForm.{CodeForm}
use Rattle.s_linear.specs.declared.frame.CodeForm.TheVariants.{Plain, Tight}
use Rattle.s_linear.specs.declared.frame.Frame.{Frame}
use Rattle.s_sequence.proofs.lemmas.Instrs.{calls_keep_arguments, objects_are_there, widths_fit}
use Rattle.s_sequence.proofs.lemmas.Named.{names_are_below}
use Rattle.s_sequence.specs.Sequence.{sequenced}
use Rattle.a_place.proofs.lemmas.Apart.{places_are_below_count}
use Rattle.a_place.proofs.lemmas.Starting.{places_are_few}
use Rattle.a_place.proofs.lemmas.Few.{shared_places_are_few}
use Rattle.a_place.proofs.lemmas.SharedApart.{shared_places_are_counted}
use Rattle.s_select.specs.Conditions.{CanSelect, IsFrameOf}
use Rattle.s_select.specs.Templates.{items_of}
use Rattle.cc_emit.specs.Image.{lines_of, places_of, frame_of, function_items, CanEmit}
use Rattle.cc_emit.specs.Laws.{IsFunction}
use Rattle.cc_emit.proofs.lemmas.FunctionFits.{arguments_few}
use Rattle.cc_emit.proofs.Below.{all_below}
use Rattle.cc_emit.proofs.Placed.{names_have_places}
use Rattle.cc_emit.proofs.Selects.{lambda_can_select}

below_more : (n m : ℕ) → n ≤ m → (ls : List Line) → all_of (names_below n) ls ≡ true → all_of (names_below m) ls ≡ true
below_more n m h ls e =
    all_of_holds (names_below n) (names_below m)
    (λ line q. all_of_holds (λ x. nat_lt x n) (λ x. nat_lt x m) (λ x p. lt-ltb x m (omega (arith, ltb-true x n p))) (line_names line) q) ls e

pub names_fit : (l : PlainLambda) → IsFunction l → all_of (names_below 4294967295) (lines_of l) ≡ true
names_fit l f = below_more (lambda_values l) 4294967295 (omega (arith, f.limits.values)) (lines_of l) (names_are_below l f.well_formed)

-- saved registers and words are few in both forms
pub places_few : (form : CodeForm) (l : PlainLambda) → IsFunction l → (places_of form l).count ≤ lambda_values l + 27
places_few Plain l f = let few = places_are_few (lambda_values l) (lines_of l) (names_are_below l f.well_formed) in omega (arith, few)
places_few Tight l f = shared_places_are_few (lambda_values l) (sequenced l) (all_below l f.well_formed)

pub frame_fits : (form : CodeForm) (l : PlainLambda) → IsFunction l → frame_of form l < 2 ^ 32
frame_fits form l f = omega (arith, f.limits.objects, f.limits.values, places_few form l f)

pub can_select : (form : CodeForm) (l : PlainLambda) (frame : Frame) → IsFunction l → IsFrameOf frame (places_of form l) l.objects
    → CanSelect (lines_of l) (places_of form l) frame l.objects
can_select form l frame f framed =
    lambda_can_select (names_have_places places_are_below_count shared_places_are_counted) objects_are_there calls_keep_arguments widths_fit form l frame f.well_formed
    f.limits.parameters f.arguments framed

-- what the code has of a lambda: its lines, their places, and its objects
module _ (form : CodeForm) (l : PlainLambda) (ls : List Line) (p : PlainPlaces) (os : List PlainObject) (is : ls ≡ lines_of l) (placed : p ≡ places_of form l)
    (are : os ≡ l.objects) where
  pub frame_fits_here : IsFunction l → frame_size p.count os < 2 ^ 32
  frame_fits_here f =
      subst (λ (q : PlainPlaces). frame_size q.count os < 2 ^ 32) (sym placed)
      (subst (λ o. frame_size (places_of form l).count o < 2 ^ 32) (sym are) (frame_fits form l f))

  pub can_select_here : (frame : Frame) (framed : List PlainObject) → IsFunction l → framed ≡ l.objects
      → frame ≡ record { size = frame_size p.count framed; objects_at = objects_at p.count } → CanSelect ls p frame os
  can_select_here frame framed f same made =
      let fits : IsFrameOf frame (places_of form l) l.objects =
      record {
        size =
            ap (λ (x : Frame). x.size) made ∙ ap (λ (q : PlainPlaces). frame_size q.count framed) placed
            ∙ ap (λ o. frame_size (places_of form l).count o) same;
        objects_at = ap (λ (x : Frame). x.objects_at) made ∙ ap (λ (q : PlainPlaces). objects_at q.count) placed;
      } in
      subst (λ x. CanSelect x p frame os) (sym is)
      (subst (λ q. CanSelect (lines_of l) q frame os) (sym placed)
      (subst (λ o. CanSelect (lines_of l) (places_of form l) frame o) (sym are) (can_select form l frame f fits)))

  pub items_are : items_of p os ls ≡ function_items form l
  items_are = ap (λ q. items_of q os ls) placed ∙ ap (λ o. items_of (places_of form l) o ls) are ∙ ap (λ x. items_of (places_of form l) l.objects x) is

pub is_function : (program : PlainOmega) (ls : List PlainLambda) → CanEmit program ls → (f : ℕ) (l : PlainLambda) → slice_get ls f ≡ Some l
    → IsFunction l
is_function program ls can f l there = record {
  well_formed = can.program.complete.well_formed f l there;
  limits = can.limits.each f l there;
  arguments = arguments_few program ls can f l there;
}
