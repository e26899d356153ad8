-- One more item is counted.
use Rattle.std.proofs.Common.{◌≡◌, ℕ, zero, suc, ◌+◌, ◌-◌, ◌≤◌, ◌^◌, Bool, true, false, ◌&&◌, ◌||◌, not, List, [], ◌∷◌, ◌++◌, take, drop, length, length-drop, refl, sym, ap, ◌∙◌, arith}
use Rattle.std.specs.Prelude.{min, if◌then◌else◌}
use Rattle.c_typed.specs.Typed.{ExprTree, StmtTree, return_value, return_none, switch, ItemTrees, stmt_then, declare_then, GroupTrees, DeclarationTree, VariableTree}
use Rattle.c_typed.specs.declared.statement.Group.{Group}
use Rattle.g_build_def.specs.Switch.{some_segment_has_several}
use Rattle.c_typed.specs.StmtViews.{items_of, groups_of}
use Rattle.c_typed.specs.declared.statement.Item.{Item}
use Rattle.c_typed.specs.declared.statement.Item.TheVariants as item
use Rattle.g_graph.specs.Count.{saturated}
use Rattle.g_build_def.specs.Exits.{Exits, stmt_exits, items_exits, groups_exits, either_exits, can_leave, some_items, is_return}
use Rattle.g_build_count.specs.Values.{leaving_values, expr_values, stmt_values, items_values, groups_values, declared_values, declared_object, more_carried, with_from, label_count, segment_count, selected_values, segments_values, jump_ended_values, straight_then_values, straight_values, returned_values}
use Rattle.g_build_count.specs.Weights.{items_weight}
use Rattle.g_build_count.proofs.Near.{Near, near_saturated, items_near, groups_near, segments_near, straight_near}

pub taken_weight : (xs : List Item) (n : ℕ) → items_weight (items_of (take n xs)) ≤ items_weight (items_of xs)
taken_weight xs zero = omega arith
taken_weight [] (suc n) = omega arith
taken_weight (item.Statement a ∷ xs) (suc n) = let h = taken_weight xs n in omega (arith, h)
taken_weight (item.Variable d ∷ xs) (suc n) = let h = taken_weight xs n in omega (arith, h)

and_true : (b : Bool) → (b && true) ≡ b
and_true true = refl
and_true false = refl

or_assoc : (a b c : Bool) → ((a || b) || c) ≡ (a || (b || c))
or_assoc true b c = refl
or_assoc false b c = refl

pub either_assoc : (a b c : Exits) → either_exits (either_exits a b) c ≡ either_exits a (either_exits b c)
either_assoc a b c =
    λ i. record {
      returns = or_assoc a.returns b.returns c.returns i;
      breaks = or_assoc a.breaks b.breaks c.breaks i;
      continues = or_assoc a.continues b.continues c.continues i;
    }

-- a statement, where the one before it can leave or not
pub statement_step : (vs : List VariableTree) (c d : ℕ) (os ps : List Bool) (a : StmtTree) (rest all : ItemTrees) (left next : Bool) (total r t v u w : ℕ) →
    all ≡ stmt_then a rest → d ≡ c → ps ≡ os → next ≡ can_leave (stmt_exits a) →
    saturated (total + (leaving_values c (left && some_items all) + items_values vs c os all)) ≡ w →
    r ≡ saturated (leaving_values c left) → t ≡ min (total + r) (2 ^ 64 - 1) → v ≡ saturated (stmt_values vs c os a) → u ≡ min (t + v) (2 ^ 64 - 1) →
    saturated (u + (leaving_values d (next && some_items rest) + items_values vs d ps rest)) ≡ w
statement_step vs c d os ps a rest all left next total r t v u w e f g n inv hr ht hv hu =
    let one : leaving_values c (left && some_items all) ≡ leaving_values c left =
    ap (λ x. leaving_values c (left && some_items x)) e ∙ ap (leaving_values c) (and_true left) in
    let two : items_values vs c os all ≡ stmt_values vs c os a + (leaving_values c (can_leave (stmt_exits a) && some_items rest) + items_values vs c os rest) =
    ap (items_values vs c os) e in
    let three : leaving_values d (next && some_items rest) ≡ leaving_values c (can_leave (stmt_exits a) && some_items rest) =
    ap (λ x. leaving_values x (next && some_items rest)) f ∙ ap (λ x. leaving_values c (x && some_items rest)) n in
    let four : items_values vs d ps rest ≡ items_values vs c os rest = ap (λ x. items_values vs x ps rest) f ∙ ap (λ x. items_values vs c x rest) g in
    omega (arith, one, two, three, four, inv, hr, ht, hv, hu)

pub statement_exits : (l m whole : Exits) (a : StmtTree) (rest all : ItemTrees) → all ≡ stmt_then a rest → m ≡ either_exits l (stmt_exits a) →
    either_exits l (items_exits all) ≡ whole → either_exits m (items_exits rest) ≡ whole
statement_exits l m whole a rest all e h inv =
    ap (λ x. either_exits x (items_exits rest)) h ∙ either_assoc l (stmt_exits a) (items_exits rest) ∙ ap (λ x. either_exits l (items_exits x)) (sym e) ∙ inv

-- a declaration, which cannot leave
pub declared_step : (vs : List VariableTree) (c d : ℕ) (os ps : List Bool) (x : DeclarationTree) (rest all : ItemTrees) (b left : Bool) (total r t v u w : ℕ) →
    all ≡ declare_then x rest → b ≡ declared_object vs x → d ≡ saturated (more_carried b c) → ps ≡ os ++ b ∷ [] →
    saturated (total + (leaving_values c (left && some_items all) + items_values vs c os all)) ≡ w →
    r ≡ saturated (leaving_values c left) → t ≡ min (total + r) (2 ^ 64 - 1) → v ≡ saturated (declared_values vs c os x) → u ≡ min (t + v) (2 ^ 64 - 1) →
    saturated (u + items_values vs d ps rest) ≡ w
declared_step vs c d os ps x rest all b left total r t v u w e o f g inv hr ht hv hu =
    let one : leaving_values c (left && some_items all) ≡ leaving_values c left =
    ap (λ y. leaving_values c (left && some_items y)) e ∙ ap (leaving_values c) (and_true left) in
    let two : items_values vs c os all ≡ declared_values vs c os x + items_values vs (more_carried (declared_object vs x) c) (os ++ declared_object vs x ∷ []) rest =
    ap (items_values vs c os) e in
    let three : items_values vs (more_carried (declared_object vs x) c) (os ++ declared_object vs x ∷ []) rest ≡ items_values vs (more_carried b c) (os ++ b ∷ []) rest =
    ap (λ y. items_values vs (more_carried y c) (os ++ y ∷ []) rest) (sym o) in
    let four : items_values vs d ps rest ≡ items_values vs (saturated (more_carried b c)) (os ++ b ∷ []) rest =
    ap (λ y. items_values vs y ps rest) f ∙ ap (λ y. items_values vs (saturated (more_carried b c)) y rest) g in
    let near = (items_near (near_saturated (more_carried b c)) vs (os ++ b ∷ []) rest).equal in
    omega (arith, one, two, three, four, near, inv, hr, ht, hv, hu)

take_all : {A : Type 0} → (xs : List A) → take (length xs) xs ≡ xs
take_all [] = refl
take_all (x ∷ xs) = ap (λ ys. x ∷ ys) (take_all xs)

pub take_rest : {A : Type 0} → (xs : List A) (k : ℕ) → take (length xs - k) (drop k xs) ≡ drop k xs
take_rest xs k = ap (λ n. take n (drop k xs)) (sym (length-drop k xs)) ∙ take_all (drop k xs)

-- ---- a `switch`

selected_near : (several : Bool) (n : ℕ) → Near (selected_values several (saturated n)) (selected_values several n)
selected_near true n = record { equal = omega arith }
selected_near false n = record { equal = omega arith }

from_is_more : (several : Bool) (c : ℕ) → more_carried (not several) c ≡ with_from several c
from_is_more true c = refl
from_is_more false c = refl

pub switch_step : (vs : List VariableTree) (c : ℕ) (os : List Bool) (e : ExprTree) (gs : List Group) (x labels count within inner result : ℕ) (several breaks : Bool) →
    (length gs ≡ 0 → ⊥) → x ≡ saturated (expr_values c os e) → labels ≡ saturated (label_count (groups_of gs)) → count ≡ segment_count (groups_of gs) →
    several ≡ some_segment_has_several (groups_of gs) → within ≡ saturated (more_carried (not several) c) →
    inner ≡ saturated (groups_values vs within os true (groups_of gs)) → breaks ≡ (groups_exits (groups_of gs)).breaks →
    result ≡ saturated (x + selected_values several labels + segments_values within count + inner + jump_ended_values breaks) →
    result ≡ saturated (stmt_values vs c os (switch e (groups_of gs)))
switch_step vs c os e [] x labels count within inner result several breaks some hv hl hc hs hw hi hb hr = absurd (some refl)
switch_step vs c os e (g ∷ gs) x labels count within inner result several breaks some hv hl hc hs hw hi hb hr =
    let all : GroupTrees = groups_of (g ∷ gs) in
    let s : Bool = some_segment_has_several all in
    let n : ℕ = saturated (more_carried (not s) c) in
    let near : Near n (with_from s c) =
    record { equal = (near_saturated (more_carried (not s) c)).equal ∙ ap saturated (from_is_more s c) } in
    let w : within ≡ n = hw ∙ ap (λ b. saturated (more_carried (not b) c)) hs in
    let one = (near_saturated (expr_values c os e)).equal in
    let two = (selected_near s (label_count all)).equal in
    let three = (segments_near near (segment_count all)).equal in
    let four = (groups_near near vs os true all).equal in
    let a : selected_values several labels ≡ selected_values s (saturated (label_count all)) = ap (λ b. selected_values b labels) hs ∙ ap (selected_values s) hl in
    let b : segments_values within count ≡ segments_values n (segment_count all) = ap (λ m. segments_values m count) w ∙ ap (segments_values n) hc in
    let d : inner ≡ saturated (groups_values vs n os true all) = hi ∙ ap (λ m. saturated (groups_values vs m os true all)) w in
    let f : jump_ended_values breaks ≡ jump_ended_values (groups_exits all).breaks = ap jump_ended_values hb in
    omega (arith, one, two, three, four, a, b, d, f, hv, hr)

-- ---- bodies without jumps

straight_is_more : (follows : Bool) (vs : List VariableTree) (c : ℕ) (os : List Bool) (a : StmtTree) (n : ℕ) → (not follows && is_return a) ≡ false →
    straight_then_values follows vs c os a n ≡ stmt_values vs c os a + n
straight_is_more true vs c os a n h = refl
straight_is_more false vs c os (return_value e) n h = cc
straight_is_more false vs c os return_none n h = cc
straight_is_more false vs c os a n h = refl

pub straight_step : (vs : List VariableTree) (c d : ℕ) (os ps : List Bool) (a : StmtTree) (rest all : ItemTrees) (follows : Bool) (total v u w : ℕ) →
    all ≡ stmt_then a rest → d ≡ c → ps ≡ os → follows ≡ some_items rest → (not follows && is_return a) ≡ false →
    saturated (total + straight_values vs c os all) ≡ w →
    v ≡ (if not follows && is_return a then saturated (returned_values c os a) else saturated (stmt_values vs c os a)) → u ≡ min (total + v) (2 ^ 64 - 1) →
    saturated (u + straight_values vs d ps rest) ≡ w
straight_step vs c d os ps a rest all follows total v u w e f g o none inv hv hu =
    let given : v ≡ saturated (stmt_values vs c os a) =
    hv ∙ ap (λ b. if b then saturated (returned_values c os a) else saturated (stmt_values vs c os a)) none in
    let same : (not (some_items rest) && is_return a) ≡ false = ap (λ b. not b && is_return a) (sym o) ∙ none in
    let one : straight_values vs c os all ≡ stmt_values vs c os a + straight_values vs c os rest =
    ap (straight_values vs c os) e ∙ straight_is_more (some_items rest) vs c os a (straight_values vs c os rest) same in
    let two : straight_values vs d ps rest ≡ straight_values vs c os rest = ap (λ x. straight_values vs x ps rest) f ∙ ap (λ x. straight_values vs c x rest) g in
    omega (arith, given, one, two, inv, hu)

pub straight_declared : (vs : List VariableTree) (c d : ℕ) (os ps : List Bool) (x : DeclarationTree) (rest all : ItemTrees) (b : Bool) (total v u w : ℕ) →
    all ≡ declare_then x rest → b ≡ declared_object vs x → d ≡ saturated (more_carried b c) → ps ≡ os ++ b ∷ [] →
    saturated (total + straight_values vs c os all) ≡ w → v ≡ saturated (declared_values vs c os x) → u ≡ min (total + v) (2 ^ 64 - 1) →
    saturated (u + straight_values vs d ps rest) ≡ w
straight_declared vs c d os ps x rest all b total v u w e o f g inv hv hu =
    let two : straight_values vs c os all ≡ declared_values vs c os x + straight_values vs (more_carried (declared_object vs x) c) (os ++ declared_object vs x ∷ []) rest =
    ap (straight_values vs c os) e in
    let three : straight_values vs (more_carried (declared_object vs x) c) (os ++ declared_object vs x ∷ []) rest ≡ straight_values vs (more_carried b c) (os ++ b ∷ []) rest =
    ap (λ y. straight_values vs (more_carried y c) (os ++ y ∷ []) rest) (sym o) in
    let four : straight_values vs d ps rest ≡ straight_values vs (saturated (more_carried b c)) (os ++ b ∷ []) rest =
    ap (λ y. straight_values vs y ps rest) f ∙ ap (λ y. straight_values vs (saturated (more_carried b c)) y rest) g in
    let near = (straight_near (near_saturated (more_carried b c)) vs (os ++ b ∷ []) rest).equal in
    omega (arith, two, three, four, near, inv, hv, hu)
