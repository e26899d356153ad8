-- A list of items, one item after the other.
use Rattle.std.proofs.Common.{◌≡◌, ℕ, suc, ◌+◌, Bool, false, List, ◌++◌, sym, ap, ◌∙◌, arith}
use Rattle.std.specs.Prelude.{◌&&◌}
use Rattle.std.proofs.lemmas.List.{append-nil}
use Rattle.c_typed.specs.Typed.{StmtTree, ItemTrees, stmt_then, declare_then, DeclarationTree, VariableTree}
use Rattle.g_build_def.specs.Writer.{Built, bind, nothing, popped}
use Rattle.g_build_def.specs.Exits.{stmt_exits, can_leave, some_items}
use Rattle.g_build_def.specs.Jumps.{unless_left}
use Rattle.g_build_def.specs.Statements.{declared_made, stmt_made, items_made}
use Rattle.g_build_expression.specs.Work.{Work, made, moved_to}
use Rattle.g_build.specs.Variables.{pops}
use Rattle.g_build.proofs.Parts.{then_made}

-- a statement that cannot leave, or that nothing follows
pub statement_step : (vs : List VariableTree) (n : ℕ) (w w1 u : Work) (a : StmtTree) (rest all : ItemTrees) (passed : Bool) → all ≡ stmt_then a rest →
    passed ≡ (can_leave (stmt_exits a) && some_items rest) → passed ≡ false → w1 ≡ made w (stmt_made vs a w.point) → pops n (made w (items_made vs all w.point)) ≡ u →
    pops n (made w1 (items_made vs rest w1.point)) ≡ u
statement_step vs n w w1 u a rest all passed e h f e1 inv =
    let whole : made w (items_made vs all w.point) ≡ made w1 (items_made vs rest w1.point) =
    ap (λ x. made w (items_made vs x w.point)) e
    ∙ ap (λ p. made w (bind (stmt_made vs a w.point) (λ _ t. unless_left p (items_made vs rest) t))) (sym h ∙ f)
    ∙ then_made w w1 (stmt_made vs a w.point) (items_made vs rest) e1 in
    sym (ap (pops n) whole) ∙ inv

scope_ends : (vs : List VariableTree) (w : Work) (rest : ItemTrees) →
    made w (bind (items_made vs rest w.point) (λ _ x. nothing (popped x))) ≡ moved_to (made w (items_made vs rest w.point)) (popped (made w (items_made vs rest w.point)).point)
scope_ends vs w rest =
    let b : Built (Unit {0}) = items_made vs rest w.point in ap (λ ns. record { enclosing = w.enclosing; nodes = w.nodes ++ ns; point = popped b.after }) (append-nil b.nodes)

pub declared_step : (vs : List VariableTree) (n : ℕ) (w w1 u : Work) (d : DeclarationTree) (rest all : ItemTrees) → all ≡ declare_then d rest →
    w1 ≡ made w (declared_made vs d w.point) → pops n (made w (items_made vs all w.point)) ≡ u → pops (n + 1) (made w1 (items_made vs rest w1.point)) ≡ u
declared_step vs n w w1 u d rest all e e1 inv =
    let whole : made w (items_made vs all w.point) ≡ moved_to (made w1 (items_made vs rest w1.point)) (popped (made w1 (items_made vs rest w1.point)).point) =
    ap (λ x. made w (items_made vs x w.point)) e
    ∙ then_made w w1 (declared_made vs d w.point) (λ t. bind (items_made vs rest t) (λ _ x. nothing (popped x))) e1 ∙ scope_ends vs w1 rest in
    let more : n + 1 ≡ suc n = omega arith in
    ap (λ m. pops m (made w1 (items_made vs rest w1.point))) more ∙ sym (ap (pops n) whole) ∙ inv

pub pop_step : (n i j : ℕ) (w w1 u : Work) → n ≡ suc j → w1 ≡ moved_to w (popped w.point) → pops n w ≡ u → pops j w1 ≡ u
pop_step n i j w w1 u e h inv = ap (pops j) h ∙ sym (ap (λ m. pops m w) e) ∙ inv
