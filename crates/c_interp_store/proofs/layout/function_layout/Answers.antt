use Rattle.std.proofs.Common.{◌≡◌, ◌+◌, ◌++◌, ◌∷◌, [], length, take, sym, ap, ◌∙◌, arith, length-append}
use Rattle.c_typed.specs.Typed.{VariableTree}
use Rattle.c_typed.specs.Objects.{object_number}
use Rattle.c_mean.specs.Run.{objects_of}
use Rattle.c_interp_store.proofs.Numbers.{more_numbers, shapes_count, few_objects, laid_out_at, more_objects}
use Rattle.c_interp_store.proofs.layout.function_layout.Goals as goal

pub overflow_cast-len : goal.overflow_cast-len
overflow_cast-len c =
    let vs = c.args.variables.now in
    let count = shapes_count c.args.types.now vs c.loop-v.v-index c.loop-v.shapes.items c.loop-v.invariant.shapes in
    let few = few_objects vs c.loop-v.v-index in
    omega (arith, count, few, c.requires.few, c.len.ensures)

pub add_object-requires-clause-laid_out : goal.add_object-requires-clause-laid_out
add_object-requires-clause-laid_out c = laid_out_at c.args.types.now c.args.variables.now c.loop-v.v-index c.v-item.result c.requires.fit c.loop-v-test.true c.v-item.is

pub loop-v-preserved : goal.loop-v-preserved
loop-v-preserved c =
    let types = c.args.types.now in
    let vs = c.args.variables.now in
    let i = c.loop-v.v-index in
    let v = c.v-item.result in
    let inv = c.loop-v.invariant in
    let total = shapes_count types vs i c.loop-v.shapes.items inv.shapes in
    let number : c.len.result ≡ object_number vs i = omega (arith, total, c.len.ensures) in
    record {
      shapes = c.in_ok-add_object.ensures ∙ ap (λ l. l ++ objects_of types (v ∷ [])) inv.shapes
          ∙ ap (λ (x : VariableTree). objects_of types (take i vs) ++ objects_of types (x ∷ [])) c.v-item.is ∙ sym (more_objects types vs i v c.loop-v-test.true);
      numbers = more_numbers vs i c.loop-v.numbers.items c.push.new.self.items c.len.result inv.numbers inv.count number c.in_ok-push.ensures.items;
      count = ap length c.in_ok-push.ensures.items ∙ length-append c.loop-v.numbers.items (c.len.result ∷ []) ∙ ap (λ k. k + 1) inv.count;
    }
