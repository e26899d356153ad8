-- The rule keeps lambdas well formed, and is a step.
use Rattle.std.specs.Prelude.{◌+◌, ◌*◌, ◌-◌, ◌==◌, ◌&&◌, nat_le, ◌^◌, unwrap_or, is_some, slice_set}
use Rattle.std.proofs.Common.{◌≡◌, ℕ, true, List, [], ◌∷◌, map, length, Option, None, Some, slice_get, refl, sym, ap, subst, ◌∙◌, arith}
use Rattle.std.proofs.lemmas.Bool.{and_parts}
use Rattle.std.proofs.lemmas.Bool.Decides.{nat_tests}
use Rattle.std.proofs.lemmas.List.{length-map}
use Rattle.std.proofs.lemmas.Option.{same_Some}
use Rattle.base.specs.Limits.{most_callee_values}
use Rattle.g_graph.specs.declared.op.Op.{Op}
use Rattle.g_graph.specs.Plain.{RegionTree, region, node_then, nodes_in, PlainObject, PlainLambda}
use Rattle.g_graph.specs.Change.{region_changed}
use Rattle.g_graph.specs.Count.{node_values, nodes_values}
use Rattle.g_graph.specs.Lists.{RegionOps, Calls, NamesGlobal}
use Rattle.g_graph.specs.Program.{lambda_values}
use Rattle.g_graph.specs.Replace.{region_redirected, nodes_redirected}
use Rattle.g_graph.specs.Splice.{args_to_inputs, outputs_to_results, joined_nodes, region_spliced}
use Rattle.g_graph.specs.WellFormed.{well_formed, IsWellFormed}
use Rattle.g_graph.proofs.lemmas.Ops.{region_redirected_ops, region_spliced_ops, changed_ops}
use Rattle.g_graph.proofs.lemmas.Redirects.{nodes_values-redirected}
use Rattle.g_graph.proofs.lemmas.Splices.{nodes_values-joined}
use Rattle.g_mean.specs.Edits.{IsEdited}
use Rattle.g_mean.specs.Refining.{LambdasSameBut}
use Rattle.g_mean.specs.Replacement.{Replaces}
use Rattle.g_mean.proofs.lemmas.Exchange.{set-edited}
use Rattle.g_mean.proofs.lemmas.Programs.{programs_keep_meaning}
use Rattle.g_mean.proofs.lemmas.Replacement.{lambdas_keep_meaning}
use Rattle.r_edit.specs.Size.{IsNoLarger, IsResized, may_change_size}
use Rattle.r_edit.specs.Steps.{MayStandForAll}
use Rattle.r_edit.proofs.lemmas.Size as size
use Rattle.r_edit.proofs.lemmas.Steps.{edits_keep_interface}
use Rattle.r_edit.specs.Numbering.{node_count, region_numbered}
use Rattle.r_edit.proofs.lemmas.Copies.{numbered-ops}
use Rattle.r_edit.proofs.lemmas.Fits.{copied-nodes-values}
use Rattle.r_inline.specs.Rule.{inlined, inline_here, call_values, may_inline, applies, lambda_inlined}
use Rattle.r_inline.specs.Laws.{InlineIsAStep}
use Rattle.r_inline.proofs.Call.{inlined-at}
use Rattle.r_inline.proofs.Exchanged.{exchanged-complete, exchanged-program}
use Rattle.r_inline.proofs.Fits.{changed-fits}
use Rattle.r_inline.proofs.Replaced.{same-but}

-- ---- what the condition says

pub none-there : (os : List PlainObject) → (length os == 0) ≡ true → os ≡ []
none-there [] e = refl
none-there (o ∷ os) e = absurd (grind (arith, nat_tests))

some-there : (o : Option RegionTree) → is_some o ≡ true → (s : RegionTree) × (o ≡ Some s)
some-there None e = absurd cc
some-there (Some s) e = (s, refl)

pub record Applies (n : ℕ) (callee l : PlainLambda) : Type 0 where
  pub none : callee.objects ≡ []
  pub small : nat_le (lambda_values callee) most_callee_values ≡ true
  pub numbers : nat_le (l.next + node_count callee.body) (2 ^ 32 - 1) ≡ true
  pub size : may_change_size (lambda_values l) (nodes_values (nodes_in callee.body)) call_values ≡ true
  pub body : RegionTree
  pub changed : region_changed (inline_here l.next n callee) l.body ≡ Some body

pub applies-parts : (n : ℕ) (callee l : PlainLambda) → applies l n callee ≡ true → Applies n callee l
applies-parts n callee l e =
    let objects = length callee.objects == 0 in
    let small = nat_le (lambda_values callee) most_callee_values in
    let numbers = nat_le (l.next + node_count callee.body) (2 ^ 32 - 1) in
    let a = and_parts (may_inline (lambda_values l) l.next callee) (is_some (region_changed (inline_here l.next n callee) l.body)) e in
    let b = and_parts (objects && small && numbers) (may_change_size (lambda_values l) (nodes_values (nodes_in callee.body)) call_values) a.0 in
    let c = and_parts (objects && small) numbers b.0 in
    let d = and_parts objects small c.0 in
    let s = some-there (region_changed (inline_here l.next n callee) l.body) a.1 in
    record { none = none-there callee.objects d.0; small = d.1; numbers = c.1; size = b.1; body = s.0; changed = s.1 }

-- ---- ops

here-ops : (p : Op → ℕ → Type 0) (next n : ℕ) (callee : PlainLambda) → RegionOps p callee.body → (r s : RegionTree) → inline_here next n callee r ≡ Some s → RegionOps p r → RegionOps p s
here-ops p next n callee k (region args nodes results) s e h =
    let at = inlined-at next n callee args nodes results s e in
    subst (λ t. RegionOps p t) (sym at.result)
    (region_spliced_ops p n (inlined next callee at.inputs) (region args nodes results)
    (region_redirected_ops p (args_to_inputs at.inputs) (region_numbered next callee.body) (numbered-ops p next callee.body k)) h)

inlined-ops : (p : Op → ℕ → Type 0) (n : ℕ) (callee l : PlainLambda) → RegionOps p callee.body → RegionOps p l.body → RegionOps p (lambda_inlined n callee l).body
inlined-ops p n callee l k h = changed_ops p (inline_here l.next n callee) (λ r s e. here-ops p l.next n callee k r s e) l h

-- ---- values

spliced-resized : (values next n : ℕ) (callee : PlainLambda) → may_change_size values (nodes_values (nodes_in callee.body)) call_values ≡ true → (r s : RegionTree) →
    inline_here next n callee r ≡ Some s → IsResized values r s
spliced-resized values next n callee may (region args nodes results) s e = by (region_numbered next callee.body) refl
  where
    by : (copy : RegionTree) → region_numbered next callee.body ≡ copy → IsResized values (region args nodes results) s
    by (region own ns outs) is =
        let at = inlined-at next n callee args nodes results s e in
        let placed = nodes_redirected (args_to_inputs at.inputs) ns in
        let outputs = map (args_to_inputs at.inputs) outs in
        let rest = nodes_redirected (outputs_to_results n outputs) at.split.after in
        let now : s ≡ region args (joined_nodes at.split.before (joined_nodes placed rest)) (map (outputs_to_results n outputs) results) =
        at.result ∙ ap (λ copy. region_spliced n (region_redirected (args_to_inputs at.inputs) copy) (region args nodes results)) is
        ∙ ap (λ ms. region args ms (map (outputs_to_results n outputs) results)) (at.split.spliced placed outputs) in
        let count = length-map results (outputs_to_results n outputs) in
        let old = ap nodes_values at.split.whole ∙ nodes_values-joined at.split.before (node_then at.split.here at.split.after) in
        let new = nodes_values-joined at.split.before (joined_nodes placed rest) in
        let tail = nodes_values-joined placed rest in
        let copied = nodes_values-redirected (args_to_inputs at.inputs) ns in
        let moved = nodes_values-redirected (outputs_to_results n outputs) at.split.after in
        let brought = ap (λ copy. nodes_values (nodes_in copy)) (sym is) ∙ copied-nodes-values next callee.body in
        let call = ap node_values at.here in
        subst (λ t. IsResized values (region args nodes results) t) (sym now)
        (record {
          args = refl;
          results = length-map (map (outputs_to_results n outputs) results) _ ∙ count ∙ sym (length-map results _);
          resized = record {
            added = nodes_values (nodes_in callee.body);
            gone = call_values;
            count = omega (arith, count, old, new, tail, copied, moved, brought, call);
            may = may;
          };
        })

-- ---- the lambda

module _ (n : ℕ) (callee l : PlainLambda) (known : IsWellFormed callee) (well : IsWellFormed l) (can : Applies n callee l) where
  abbrev here : RegionTree → Option RegionTree
  here = inline_here l.next n callee

  pub edited : IsEdited here l (lambda_inlined n callee l)
  edited = record { number = refl; params = refl; objects = refl; body = refl }

  pub inline-well-formed : IsWellFormed (lambda_inlined n callee l)
  inline-well-formed =
      ap (λ o. well_formed (record l { body = unwrap_or o l.body; next = l.next + node_count callee.body })) can.changed
      ∙ changed-fits n callee l known can.none well can.body can.changed

  pub inline-is-no-larger : IsNoLarger (lambda_values l) (lambda_values (lambda_inlined n callee l))
  inline-is-no-larger = size.resized_lambdas_are_no_larger here l (λ r s e. spliced-resized (lambda_values l) l.next n callee can.size r s e)

  module _ (ls : List PlainLambda) (at : slice_get ls l.number ≡ Some l) (there : slice_get ls callee.number ≡ Some callee) where
    abbrev ks : List PlainLambda
    ks = slice_set ls l.number (lambda_inlined n callee l)

    same : LambdasSameBut (Replaces ls ks) ls ks
    same =
        same-but ls ks n l.next l.number callee known can.none there (set-edited here l (lambda_inlined n callee l) edited ls l.number at)
        (λ m e. let is = same_Some l m (sym at ∙ e) in (subst (λ (j : PlainLambda). IsWellFormed j) is well, ap (λ (j : PlainLambda). j.next) (sym is)))

    pub stands-for : MayStandForAll ls ks
    stands-for =
        record {
          functions = λ global f xs globals sound right.
              let twice = lambdas_keep_meaning ls ks same global f xs globals sound right in
              record {
                forward = λ m. (2 * m + 2, (twice m).forward);
                back = λ m. (2 * m + 2, (twice m).back);
                no_deeper = λ m. (2 * m + 2, (twice m).no_deeper);
              };
          program = λ omega i deltas bytes right.
              let twice = programs_keep_meaning ls ks same omega i deltas bytes right in
              record {
                forward = λ m. (2 * m + 2, (twice m).forward);
                back = λ m. (2 * m + 2, (twice m).back);
                no_deeper = λ m. (2 * m + 2, (twice m).no_deeper);
              };
          complete = λ complete.
              exchanged-complete ls l.number l (lambda_inlined n callee l) at inline-well-formed refl refl complete
              (inlined-ops (Calls ls) n callee l (complete.calls callee.number callee there) (complete.calls l.number l at));
          image = λ omega program.
              exchanged-program ls l.number l (lambda_inlined n callee l) at inline-well-formed refl refl omega program
              (inlined-ops (Calls ls) n callee l (program.complete.calls callee.number callee there) (program.complete.calls l.number l at))
              (inlined-ops (NamesGlobal (length omega.deltas)) n callee l (program.named callee.number callee there) (program.named l.number l at));
        }

pub inline_is_a_step : InlineIsAStep
inline_is_a_step n callee l known well e =
    let can = applies-parts n callee l e in
    record {
      interface = edits_keep_interface (inline_here l.next n callee) l (lambda_inlined n callee l) (edited n callee l known well can);
      well_formed = inline-well-formed n callee l known well can;
      values = inline-is-no-larger n callee l known well can;
      lists = λ ls at each. stands-for n callee l known well can ls at each.0;
    }
