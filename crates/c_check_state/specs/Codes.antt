-- How the logic stores the state of the checker: each record as its fields, and a term as a place or a value.
use Rattle.std.specs.Prelude.{◌≡◌, ℕ, ◌⊎◌, Bool, List, Option, refl}
use mathlib.Core.Logic.{inl, inr}
use Rattle.std.specs.Coded.{Coded, code_by, coded×, coded⊎, coded_ℕ, coded_bool, coded_list, coded_option}
use Rattle.c_type.specs.TreeEncoding.{coded_tree}
use Rattle.c_type.specs.Layout.{Definitions}
use Rattle.c_type.specs.DefinitionEncoding.{coded_definitions}
use Rattle.c_typed.specs.Typed.{ExprTree, PlaceTree, WrittenTree, FunctionTree}
use Rattle.c_typed.specs.ExprEncoding.{coded_expr, coded_place}
use Rattle.c_typed.specs.ProgramEncoding.{coded_written, coded_function}
use Rattle.c_check_def.specs.declared.operand.Operand.{Operand}
use Rattle.c_check_def.specs.declared.operand.Operand.TheVariants.{Place, Value}
use Rattle.c_check_scope.specs.Scopes.{Name, Scopes}
use Rattle.c_check_scope.specs.Tags.{Tags}
use Rattle.c_check_scope.specs.Members.{Members}
use Rattle.c_check_def.specs.contracts.meaning.Meaning as meaning
use Rattle.c_check_def.specs.contracts.refusal_kind.Broken as broken
use Rattle.c_check_def.specs.declared.meaning.Meaning.{Meaning}
use Rattle.c_check_def.specs.declared.refusal_kind.Broken.{Broken}
use Rattle.c_check_def.specs.State.{MaybeType, Declared, Global, Variable, State}
use Rattle.c_check_def.specs.Operands.{Term}

-- ---- terms

abbrev to_sum : Operand → (PlaceTree × Bool) ⊎ ExprTree
to_sum (Place p is_const) = inl (p, is_const)
to_sum (Value e) = inr e

abbrev from_sum : (PlaceTree × Bool) ⊎ ExprTree → Operand
from_sum (inl x) = Place x.0 x.1
from_sum (inr e) = Value e

pub from-to : (a : Operand) → from_sum (to_sum a) ≡ a
from-to (Place p is_const) = refl
from-to (Value e) = refl

abbrev pub coded_operand : Coded Operand
coded_operand = code_by ((PlaceTree × Bool) ⊎ ExprTree) (coded⊎ (coded× coded_place coded_bool) coded_expr) to_sum from_sum from-to

abbrev pub coded_term : Coded Term
coded_term = coded_option coded_operand

-- ---- parts of a state

abbrev pub coded_type : Coded MaybeType
coded_type = coded_option coded_tree

abbrev pub coded_declared : Coded Declared
coded_declared =
    code_by (MaybeType × (List MaybeType × Bool)) (coded× coded_type (coded× (coded_list coded_type) coded_bool)) (λ d. (d.result, (d.params, d.is_defined)))
    (λ p. record { result = p.0; params = p.1.0; is_defined = p.1.1 }) (λ _. refl)

abbrev pub coded_global : Coded Global
coded_global =
    code_by (ℕ × (MaybeType × (Bool × (Bool × List WrittenTree)))) (coded× coded_ℕ (coded× coded_type (coded× coded_bool (coded× coded_bool (coded_list coded_written)))))
    (λ g. (g.offset, (g.type, (g.is_variable, (g.fixed, g.written)))))
    (λ p. record { offset = p.0; type = p.1.0; is_variable = p.1.1.0; fixed = p.1.1.1.0; written = p.1.1.1.1 }) (λ _. refl)

abbrev pub coded_variable : Coded Variable
coded_variable =
    code_by (MaybeType × (Bool × Bool)) (coded× coded_type (coded× coded_bool coded_bool)) (λ v. (v.type, (v.is_taken, v.is_named)))
    (λ p. record { type = p.0; is_taken = p.1.0; is_named = p.1.1 }) (λ _. refl)

abbrev coded_name : Coded Name
coded_name = coded_list coded_ℕ

abbrev coded_scopes : Coded (Scopes Meaning)
coded_scopes = coded_list (coded_list (coded× coded_name meaning.the_row.coded))

abbrev coded_tags : Coded Tags
coded_tags = coded_list (coded× coded_name coded_bool)

abbrev coded_members : Coded Members
coded_members = coded_list (coded× coded_ℕ (coded_list coded_name))

-- ---- the state

-- the broken rule; scopes, tags, structs and members; functions and globals; variables, slots and functions
abbrev Stored : Type 0
Stored =
    Option Broken × ((Scopes Meaning × (Tags × (Definitions × Members))) × ((List Name × (List Declared × List Global)) × (List Variable × (List ℕ × List FunctionTree))))

abbrev coded_stored : Coded Stored
coded_stored =
    coded× (coded_option broken.the_row.coded)
    (coded× (coded× coded_scopes (coded× coded_tags (coded× coded_definitions coded_members)))
    (coded× (coded× (coded_list coded_name) (coded× (coded_list coded_declared) (coded_list coded_global)))
    (coded× (coded_list coded_variable) (coded× (coded_list coded_ℕ) (coded_list coded_function)))))

abbrev to_stored : State → Stored
to_stored s = (s.broken, ((s.scopes, (s.tags, (s.structs, s.members))), ((s.defined, (s.declared, s.globals)), (s.variables, (s.slots, s.functions)))))

abbrev from_stored : Stored → State
from_stored p = record {
  broken = p.0;
  scopes = p.1.0.0;
  tags = p.1.0.1.0;
  structs = p.1.0.1.1.0;
  members = p.1.0.1.1.1;
  defined = p.1.1.0.0;
  declared = p.1.1.0.1.0;
  globals = p.1.1.0.1.1;
  variables = p.1.1.1.0;
  slots = p.1.1.1.1.0;
  functions = p.1.1.1.1.1;
}

abbrev pub coded_state : Coded State
coded_state = code_by Stored coded_stored to_stored from_stored (λ _. refl)
