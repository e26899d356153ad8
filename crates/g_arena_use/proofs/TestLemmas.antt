-- What the code finds equal is what the definitions do.
use Rattle.std.proofs.Common.{◌≡◌, ℕ, Bool, true, false, ◌&&◌, eqb, Option, Some, None, List, [], ◌∷◌, refl, ap, sym, ◌∙◌, rules}
use Rattle.std.specs.Option.{option_eq}
use Rattle.std.specs.Cmp.Lexicographic.{pointwise}
use denote.Enum.Bare.{sameb, true_same, false_same}
use Rattle.std.proofs.lemmas.Bool.{eqb-true, eqb-false}
use Rattle.val_core.specs.declared.operation.Op1.{Op1}
use Rattle.val_core.specs.declared.operation.Op2.{Op2}
use Rattle.val_core.specs.contracts.operation.Op1 as op1
use Rattle.val_core.specs.contracts.operation.Op2 as op2
use Rattle.val_core.specs.Views.{op1_number, op1_of, op1_read_back, op2_number, op2_of, op2_read_back}
use Rattle.g_graph.specs.declared.op.Op.{Op}
use Rattle.g_graph.specs.declared.op.Op.TheVariants.{Const, Undef, Local, Delta, Bin, Un, Load, Store, Clear, PtrEq, Apply, Put, Exit, Get, Gamma, Theta}
use Rattle.g_graph.specs.declared.op.Origin.{Origin}
use Rattle.g_graph.specs.declared.op.Origin.TheVariants.{Arg, Out}
use Rattle.g_graph.specs.contracts.op.OpPartialEq.TheImpl as op
use Rattle.g_graph.specs.contracts.op.OriginPartialEq.TheImpl as origin
use Rattle.g_graph.specs.Views.{same_op}
use Rattle.g_graph.specs.Scope.{same_origin}
use Rattle.g_arena_def.specs.Flat.{same_node, same_place}
use Rattle.g_arena_use.specs.declared.keys.Key.{Key}
use Rattle.g_arena_use.specs.contracts.keys.KeyPartialEq.TheImpl.{eq-value}
use Rattle.g_arena_use.specs.Kept.{same_origins, is_for}
use Rattle.g_arena_use.specs.KeptKeys.{key_seen}

op1_test : (a b : Op1) → sameb op1.the_type a b ≡ eqb (op1_number a) (op1_number b)
op1_test a b = by (eqb (op1_number a) (op1_number b)) refl
  where
    by : (t : Bool) → eqb (op1_number a) (op1_number b) ≡ t → sameb op1.the_type a b ≡ t
    by true e = true_same op1.the_type a b (sym (op1_read_back a) ∙ ap op1_of (eqb-true (op1_number a) (op1_number b) e) ∙ op1_read_back b)
    by false e = false_same op1.the_type (search rules) a b (λ z. eqb-false (op1_number a) (op1_number b) e (ap op1_number z))

op2_test : (a b : Op2) → sameb op2.the_type a b ≡ eqb (op2_number a) (op2_number b)
op2_test a b = by (eqb (op2_number a) (op2_number b)) refl
  where
    by : (t : Bool) → eqb (op2_number a) (op2_number b) ≡ t → sameb op2.the_type a b ≡ t
    by true e = true_same op2.the_type a b (sym (op2_read_back a) ∙ ap op2_of (eqb-true (op2_number a) (op2_number b) e) ∙ op2_read_back b)
    by false e = false_same op2.the_type (search rules) a b (λ z. eqb-false (op2_number a) (op2_number b) e (ap op2_number z))

op_test : (a b : Op) → op.eq-value.it a b ≡ same_op a b
op_test (Const w) (Const v) = refl
op_test (Const w) b = refl
op_test Undef Undef = refl
op_test Undef b = refl
op_test (Local w) (Local v) = refl
op_test (Local w) b = refl
op_test (Delta w) (Delta v) = refl
op_test (Delta w) b = refl
op_test (Bin a) (Bin b) = op2_test a b
op_test (Bin a) c = refl
op_test (Un a) (Un b) = op1_test a b
op_test (Un a) c = refl
op_test (Load w) (Load v) = refl
op_test (Load w) b = refl
op_test (Store w) (Store v) = refl
op_test (Store w) b = refl
op_test (Clear w) (Clear v) = refl
op_test (Clear w) b = refl
op_test PtrEq PtrEq = refl
op_test PtrEq b = refl
op_test (Apply w) (Apply v) = refl
op_test (Apply w) b = refl
op_test Put Put = refl
op_test Put b = refl
op_test Exit Exit = refl
op_test Exit b = refl
op_test Get Get = refl
op_test Get b = refl
op_test Gamma Gamma = refl
op_test Gamma b = refl
op_test Theta Theta = refl
op_test Theta b = refl

origin_test : (a b : Origin) → origin.eq-value.it a b ≡ same_origin a b
origin_test (Arg j) (Arg k) = refl
origin_test (Arg j) (Out m q) = refl
origin_test (Out n p) (Arg k) = refl
origin_test (Out n p) (Out m q) = refl

inputs_test : (xs ys : List Origin) → pointwise origin.eq-value.it xs ys ≡ same_origins xs ys
inputs_test [] [] = refl
inputs_test [] (y ∷ ys) = refl
inputs_test (x ∷ xs) [] = refl
inputs_test (x ∷ xs) (y ∷ ys) = let h = origin_test x y in let r = inputs_test xs ys in λ i. h i && r i

node_test : (o p : Option ℕ) → option_eq eqb o p ≡ same_node o p
node_test None None = refl
node_test None (Some m) = refl
node_test (Some n) None = refl
node_test (Some n) (Some m) = refl

and_assoc : (a b c : Bool) → (a && (b && c)) ≡ ((a && b) && c)
and_assoc true b c = refl
and_assoc false b c = refl

pub key_test : (j k : Key) (n : ℕ) → eq-value.it j k ≡ is_for j.home j.op j.inputs.items (key_seen (k, n))
key_test j k n =
    let h = node_test j.home.node k.home.node in
    let o = op_test j.op k.op in
    let r = inputs_test j.inputs.items k.inputs.items in
    (λ i. (h i && eqb j.home.region k.home.region) && (o i && r i))
    ∙ and_assoc (same_place j.home k.home) (same_op j.op k.op) (same_origins j.inputs.items k.inputs.items)
