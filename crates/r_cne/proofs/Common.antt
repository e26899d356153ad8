-- Nodes of equal op and inputs give the same value.
use Rattle.std.proofs.Common.{◌≡◌, ℕ, true, List, [], ◌∷◌, map, Option, None, Some, refl, sym, ap, ◌∙◌}
use Rattle.val_core.specs.declared.values.Value.{Value}
use Rattle.val_core.specs.declared.values.Value.TheVariants.{Num}
use Rattle.val_core.specs.Values.{value1, value2}
use Rattle.val_core.specs.Memory.{Memory, load as load_from, pointers_equal}
use Rattle.val_core.specs.Events.{Event}
use Rattle.val_core.specs.Answers.{Returned, on_defined}
use Rattle.g_graph.specs.declared.op.Kind.TheVariants.{Value as ValueKind}
use Rattle.g_graph.specs.declared.op.Op.{Op}
use Rattle.g_graph.specs.declared.op.Op.TheVariants.{Const, Undef, Local, Delta, Bin, Un, Load, Store, Clear, PtrEq, Apply, Put, Exit, Get, Gamma, Theta}
use Rattle.g_graph.specs.declared.op.Origin.{Origin}
use Rattle.g_graph.specs.Plain.{node, RegionTrees}
use Rattle.g_graph.specs.Signatures.{output_kinds}
use Rattle.g_mean.specs.Data.{Datum, val, memory, input, at_port, value_at, on_memory}
use Rattle.g_mean.specs.Meaning.{Meaning, Context, given, act, Outputs, read, node_run, meanings}
use Rattle.g_mean.specs.Holds.{HasRun}
use Rattle.r_cne.specs.Rule.{is_common}

pub gives_value : (id : ℕ) (op : Op) (inputs : List Origin) (rs : RegionTrees) → is_common op ≡ true → output_kinds (node id op inputs rs) ≡ Some ValueKind ∷ []
gives_value id (Const w) inputs rs e = refl
gives_value id (Local k) inputs rs e = refl
gives_value id (Delta k) inputs rs e = refl
gives_value id (Bin op) inputs rs e = refl
gives_value id (Un op) inputs rs e = refl
gives_value id (Load width) inputs rs e = refl
gives_value id PtrEq inputs rs e = refl
gives_value id Undef inputs rs e = absurd cc
gives_value id (Store width) inputs rs e = absurd cc
gives_value id (Clear k) inputs rs e = absurd cc
gives_value id (Apply f) inputs rs e = absurd cc
gives_value id Put inputs rs e = absurd cc
gives_value id Exit inputs rs e = absurd cc
gives_value id Get inputs rs e = absurd cc
gives_value id Gamma inputs rs e = absurd cc
gives_value id Theta inputs rs e = absurd cc

-- ---- what the op does on these inputs

-- the op gives this value, whatever regions it has
pub record GivesValue (c : Context) (op : Op) (us : List Datum) : Type 0 where
  pub value : Value
  pub same : (ms : List Meaning) → act c op ms us ≡ given value

given_by : {X : Type 0} (x : Option X) (f : X → Value) (ys : List Datum) (did : List Event) → on_defined x (λ z. given (f z)) ≡ Returned ys did →
    (v : Value) × (on_defined x (λ z. given (f z)) ≡ given v)
given_by None f ys did e = absurd cc
given_by (Some z) f ys did e = (f z, refl)

from_memory : {X : Type 0} (d : Datum) (look : Memory → Option X) (f : X → Value) (ys : List Datum) (did : List Event) → on_memory d (λ m. on_defined (look m) (λ z. given (f z))) ≡ Returned ys did →
    (v : Value) × (on_memory d (λ m. on_defined (look m) (λ z. given (f z))) ≡ given v)
from_memory (memory m) look f ys did e = given_by (look m) f ys did e
from_memory (val v) look f ys did e = absurd cc
from_memory (input i) look f ys did e = absurd cc

-- a common op that returns gives one value and does nothing else
common_gives : (c : Context) (op : Op) → is_common op ≡ true → (ms : List Meaning) (us ys : List Datum) (did : List Event) → act c op ms us ≡ Returned ys did → GivesValue c op us
common_gives c (Const w) e ms us ys did run = record { value = _; same = λ k. refl }
common_gives c (Local k) e ms us ys did run = record { value = _; same = λ j. refl }
common_gives c (Delta k) e ms us ys did run = record { value = _; same = λ j. refl }
common_gives c (Bin op) e ms us ys did run = record { value = value2 op (value_at us 0) (value_at us 1); same = λ k. refl }
common_gives c (Un op) e ms us ys did run = record { value = value1 op (value_at us 0); same = λ k. refl }
common_gives c (Load width) e ms us ys did run =
    let v = from_memory (at_port us 1) (λ m. load_from width (value_at us 0) m) (λ z. z) ys did run in
    record { value = v.0; same = λ k. v.1 }
common_gives c PtrEq e ms us ys did run =
    let v = from_memory (at_port us 2) (λ m. pointers_equal (value_at us 0) (value_at us 1) m) (λ n. Num n) ys did run in
    record { value = v.0; same = λ k. v.1 }
common_gives c Undef e ms us ys did run = absurd cc
common_gives c (Store width) e ms us ys did run = absurd cc
common_gives c (Clear k) e ms us ys did run = absurd cc
common_gives c (Apply f) e ms us ys did run = absurd cc
common_gives c Put e ms us ys did run = absurd cc
common_gives c Exit e ms us ys did run = absurd cc
common_gives c Get e ms us ys did run = absurd cc
common_gives c Gamma e ms us ys did run = absurd cc
common_gives c Theta e ms us ys did run = absurd cc

-- ---- a node that has run

-- another node of the same op and inputs gives the value that this one gave
pub record GivesItsValue (c : Context) (xs : List Datum) (o : Outputs) (op : Op) (inputs : List Origin) (n : ℕ) : Type 0 where
  pub value : Value
  pub output : o n 0 ≡ val value
  pub run : (id : ℕ) (rs : RegionTrees) → node_run c (node id op inputs rs) xs o ≡ Returned (val value ∷ []) []

pub given_results : (ys zs : List Datum) (p q : List Event) → Returned ys p ≡ Returned zs q → ys ≡ zs
given_results ys zs p q e = cc

pub ran_gives : (c : Context) (xs : List Datum) (o : Outputs) (n : ℕ) (op : Op) (inputs : List Origin) (rs : RegionTrees) → is_common op ≡ true → HasRun c xs o (node n op inputs rs) →
    GivesItsValue c xs o op inputs n
ran_gives c xs o n op inputs rs e ran =
    let g = common_gives c op e (meanings c rs) (map (read xs o) inputs) ran.results ran.did ran.run in
    let results = given_results (val g.value ∷ []) ran.results [] ran.did (sym (g.same (meanings c rs)) ∙ ran.run) in
    record {
      value = g.value;
      output = ran.outputs 0 ∙ ap (λ ys. at_port ys 0) (sym results);
      run = λ id others. g.same (meanings c others);
    }
