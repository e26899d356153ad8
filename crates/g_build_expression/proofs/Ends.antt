-- A node with regions ends, and a choice.
use Rattle.std.proofs.Common.{◌≡◌, ℕ, Bool, List, [], ◌∷◌, refl, ap, ◌∙◌}
use Rattle.std.specs.Prelude.{Some}
use Rattle.g_graph.specs.declared.op.Op.{Op}
use Rattle.g_graph.specs.declared.op.Origin.{Origin}
use Rattle.g_graph.specs.declared.op.Origin.TheVariants.{Out}
use Rattle.g_graph.specs.Plain.{RegionTree}
use Rattle.g_build_def.specs.Writer.{Carried, renamed}
use Rattle.g_build_expression.specs.declared.choices.RegionOrder.{RegionOrder}
use Rattle.g_build_expression.specs.declared.choices.RegionOrder.TheVariants.{ZeroFirst, OneFirst}
use Rattle.g_build_expression.specs.Work.{Enclosing, Work, ended_id, node_ended, ended_in, ended, carried_from, extra_count, port_of, closed, open_region, region_added, regions_exchanged, ended_value}
use Rattle.g_build_expression.specs.Choices.{in_order}
use Rattle.g_build_expression.proofs.Renaming.{renamed_ports}

ended_as : (bs : List Enclosing) (o : Op) (x : Bool) (w : Work) (id : ℕ) → Some id ≡ ended_id bs → carried_from (Some id) (extra_count x) (node_ended bs o w) ≡ ended_in bs o x w
ended_as [] o x w id h = absurd cc
ended_as (a ∷ rest) o x w id h =
    let e : id ≡ a.id = cc in
    let c : Carried = w.point.carried in
    let same : renamed c (λ k. Out id (port_of x k)) ≡ renamed c (λ k. Out a.id (port_of x k)) = ap (λ n. renamed c (λ k. Out n (port_of x k))) e in
    let f : Carried → Work = λ d. record { enclosing = rest; nodes = (node_ended (a ∷ rest) o w).nodes; point = record { next = w.point.next; carried = d } } in
    ap f (renamed_ports c id x ∙ same)

pub ended_is : (o : Op) (x : Bool) (w v u : Work) (id : ℕ) → u ≡ carried_from (Some id) (extra_count x) v → v ≡ node_ended w.enclosing o w → Some id ≡ ended_id w.enclosing →
    u ≡ ended o x w
ended_is o x w v u id h k e = h ∙ ap (carried_from (Some id) (extra_count x)) k ∙ ended_as w.enclosing o x w id e

-- the Gamma that stands open is the same once its last branch is closed
value_closed : (bs : List Enclosing) (r : RegionTree) → ended_value (region_added r bs) ≡ ended_value bs
value_closed [] r = refl
value_closed (a ∷ rest) r = refl

value_exchanged : (bs : List Enclosing) → ended_value (regions_exchanged bs) ≡ ended_value bs
value_exchanged [] = refl
value_exchanged (a ∷ rest) = refl

value_in_order : (o : RegionOrder) (w : Work) → ended_value (in_order o w).enclosing ≡ ended_value w.enclosing
value_in_order ZeroFirst w = refl
value_in_order OneFirst w = value_exchanged w.enclosing

pub chosen_output : (o : RegionOrder) (os : List Origin) (w w1 w2 : Work) (v : Origin) → w1 ≡ closed os w → w2 ≡ in_order o w1 → v ≡ ended_value w2.enclosing → v ≡ ended_value w.enclosing
chosen_output o os w w1 w2 v e1 e2 e =
    e ∙ ap (λ u. ended_value u.enclosing) e2 ∙ value_in_order o w1 ∙ ap (λ u. ended_value u.enclosing) e1 ∙ value_closed w.enclosing (open_region os w)
