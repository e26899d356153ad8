-- Loop variables of a Theta whose result is their argument keep what they begin with.
use Rattle.std.proofs.Common.{◌≡◌, ℕ, zero, suc, ◌==◌, Bool, true, false, cond, List, [], ◌∷◌, map, slice_get, Some, sym, ap, ◌∙◌}
use Rattle.val_core.specs.declared.values.Value.{Value}
use Rattle.val_core.specs.declared.values.Value.TheVariants.{Num, At, Bad}
use Rattle.val_core.specs.Events.{Event}
use Rattle.val_core.specs.Answers.{Returned, on_number}
use Rattle.g_graph.specs.declared.op.Kind.{Kind}
use Rattle.g_graph.specs.declared.op.Origin.{Origin}
use Rattle.g_graph.specs.declared.op.Origin.TheVariants.{Arg}
use Rattle.g_graph.specs.Plain.{region, NodeTrees}
use Rattle.g_mean.specs.Data.{Datum, at_port, value_of}
use Rattle.g_mean.specs.Meaning.{Context, Meaning, again, turns, Outputs, no_outputs, read, region_meaning, nodes_run}
use Rattle.g_mean.proofs.lemmas.Holds.{was-given}
use Rattle.g_mean.proofs.lemmas.Splices.{get-port}
use Rattle.r_edit.specs.Laws.{LoopsKeepArguments}

-- ---- places in lists

pub given_is : {A : Type 0} (x y : A) (o p : List Event) → Returned x o ≡ Returned y p → x ≡ y
given_is x y o p e = cc

-- ---- a turn

module _ (c : Context) (own : List Kind) (nodes : NodeTrees) (outs : List Origin) (p : ℕ) (invariant : slice_get outs (suc p) ≡ Some (Arg p)) where
  abbrev body : Meaning
  body = region_meaning c (region own nodes outs)

  after_turn : (n : ℕ) → ((us vs : List Datum) (did : List Event) → turns n body us ≡ Returned vs did → at_port vs p ≡ at_port us p) →
      (us : List Datum) (o : Outputs) (os : List Origin) → slice_get os (suc p) ≡ Some (Arg p) → (vs : List Datum) (did : List Event) →
      again (turns n body) (map (read us o) os) ≡ Returned vs did → at_port vs p ≡ at_port us p
  after_turn n rest us o [] i vs did e = absurd cc
  after_turn n rest us o (q ∷ os) i vs did e = by_value (value_of (read us o q)) e
    where
      by_test : (t : Bool) → cond t (Returned (map (read us o) os) []) (turns n body (map (read us o) os)) ≡ Returned vs did → at_port vs p ≡ at_port us p
      by_test true d = ap (λ zs. at_port zs p) (sym (given_is (map (read us o) os) vs [] did d)) ∙ get-port (read us o) os p (Arg p) i
      by_test false d = rest (map (read us o) os) vs did d ∙ get-port (read us o) os p (Arg p) i

      by_value : (v : Value) → on_number v (λ w. cond (w == 0) (Returned (map (read us o) os) []) (turns n body (map (read us o) os))) ≡ Returned vs did → at_port vs p ≡ at_port us p
      by_value (Num w) d = by_test (w == 0) d
      by_value (At b k) d = absurd cc
      by_value Bad d = absurd cc

  turns_keep : (n : ℕ) (us vs : List Datum) (did : List Event) → turns n body us ≡ Returned vs did → at_port vs p ≡ at_port us p
  turns_keep zero us vs did e = absurd cc
  turns_keep (suc n) us vs did e =
      let turn = was-given (body us) (again (turns n body)) vs did e in
      let ran = was-given (nodes_run c nodes us no_outputs) (λ o. Returned (map (read us o) outs) []) turn.first turn.did turn.is in
      let given = given_is (map (read us ran.first) outs) turn.first [] ran.rest ran.follows in
      after_turn n (turns_keep n) us ran.first outs invariant vs turn.rest (ap (again (turns n body)) given ∙ turn.follows)

pub loops_keep_arguments : LoopsKeepArguments
loops_keep_arguments n c own nodes outs us vs did p invariant e = turns_keep c own nodes outs p invariant n us vs did e
