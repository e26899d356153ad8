-- How the logic stores a construction under way.
use Rattle.std.specs.Prelude.{◌≡◌, ◌⊎◌, ℕ, Bool, true, false, List, refl}
use Rattle.std.proofs.Common.{inl, inr}
use Rattle.std.specs.Coded.{Coded, code_by, coded×, coded⊎, coded_ℕ, coded_bool, coded_list}
use Rattle.g_graph.specs.contracts.op.Origin as origin
use Rattle.g_graph.specs.declared.op.Origin.{Origin}
use Rattle.g_graph.specs.Plain.{RegionTree, NodeTree}
use Rattle.g_graph.specs.Codes.{coded_region, coded_node}
use Rattle.g_build_def.specs.Writer.{Form, straight, jumping, SlotOrigin, held, object, hidden, Carried, Point}
use Rattle.g_build_expression.specs.Work.{Enclosing, Work}

abbrev pub coded_origin : Coded Origin
coded_origin = origin.the_row.coded

abbrev pub slot_parts : SlotOrigin → Origin ⊎ (ℕ ⊎ Origin)
slot_parts (held o) = inl o
slot_parts (object n) = inr (inl n)
slot_parts (hidden o) = inr (inr o)

abbrev pub slot_from : Origin ⊎ (ℕ ⊎ Origin) → SlotOrigin
slot_from (inl o) = held o
slot_from (inr (inl n)) = object n
slot_from (inr (inr o)) = hidden o

pub slot_back : (x : SlotOrigin) → slot_from (slot_parts x) ≡ x
slot_back (held o) = refl
slot_back (object n) = refl
slot_back (hidden o) = refl

abbrev pub coded_slot : Coded SlotOrigin
coded_slot = code_by (Origin ⊎ (ℕ ⊎ Origin)) (coded⊎ coded_origin (coded⊎ coded_ℕ coded_origin)) slot_parts slot_from slot_back

abbrev pub coded_slots : Coded (List SlotOrigin)
coded_slots = coded_list coded_slot

abbrev pub form_part : Form → Bool
form_part straight = false
form_part jumping = true

abbrev pub form_from : Bool → Form
form_from false = straight
form_from true = jumping

pub form_back : (x : Form) → form_from (form_part x) ≡ x
form_back straight = refl
form_back jumping = refl

abbrev pub coded_form : Coded Form
coded_form = code_by Bool coded_bool form_part form_from form_back

abbrev pub coded_carried : Coded Carried
coded_carried =
    code_by (Form × (List SlotOrigin × (Origin × (Origin × (Origin × Origin)))))
    (coded× coded_form (coded× (coded_list coded_slot) (coded× coded_origin (coded× coded_origin (coded× coded_origin coded_origin)))))
    (λ k. (k.form, (k.variables, (k.go, (k.ret, (k.memory, k.io))))))
    (λ p. record { form = p.0; variables = p.1.0; go = p.1.1.0; ret = p.1.1.1.0; memory = p.1.1.1.1.0; io = p.1.1.1.1.1 }) (λ _. refl)

abbrev pub coded_point : Coded Point
coded_point = code_by (ℕ × Carried) (coded× coded_ℕ coded_carried) (λ s. (s.next, s.carried)) (λ p. record { next = p.0; carried = p.1 }) (λ _. refl)

abbrev pub coded_enclosing : Coded Enclosing
coded_enclosing =
    code_by (List NodeTree × (ℕ × (List Origin × List RegionTree)))
    (coded× (coded_list coded_node) (coded× coded_ℕ (coded× (coded_list coded_origin) (coded_list coded_region))))
    (λ a. (a.nodes, (a.id, (a.inputs, a.regions)))) (λ p. record { nodes = p.0; id = p.1.0; inputs = p.1.1.0; regions = p.1.1.1 }) (λ _. refl)

abbrev pub coded_work : Coded Work
coded_work =
    code_by (List Enclosing × (List NodeTree × Point)) (coded× (coded_list coded_enclosing) (coded× (coded_list coded_node) coded_point))
    (λ w. (w.enclosing, (w.nodes, w.point))) (λ p. record { enclosing = p.0; nodes = p.1.0; point = p.1.1 }) (λ _. refl)
