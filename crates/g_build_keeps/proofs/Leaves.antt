-- A statement ends in no way but those that its jumps allow: one without jumps that leave it ends normally.
use Rattle.std.proofs.Common.{◌≡◌, ℕ, zero, suc, List, [], ◌∷◌, refl, sym, ◌∙◌}
use Rattle.std.specs.Prelude.{◌-◌, Bool, true, false, cond, ◌||◌, Option, None, Some, slice_get, length}
use Rattle.std.proofs.lemmas.Bool.{or_left, or_right}
use Rattle.val_core.specs.declared.values.Value.{Value}
use Rattle.val_core.specs.declared.values.Value.TheVariants.{Num, At, Bad}
use Rattle.val_core.specs.Answers.{Answer, Returned, Cut, Exited, Undefined, then_on, on_number, on_defined, Gives}
use Rattle.val_core.proofs.lemmas.Answers.{gives-then}
use Rattle.c_type.specs.Trees.{TypeTree}
use Rattle.c_typed.specs.Typed.{ExprTree, OptionalExpr, no_expr, some_expr, StmtTree, null, value, block, if_else, loop, do_while, break, continue, return_value, return_none, switch, ItemTrees, no_items, stmt_then, declare_then, GroupTrees, no_groups, group_then, VariableTree}
use Rattle.c_typed.specs.WellTyped.{type_of}
use Rattle.c_mean.specs.State.{State, used, truth}
use Rattle.c_mean.specs.Expressions.{Context, branched, expr_run}
use Rattle.c_mean.specs.Statements.{Flow, normal, broke, continued, returned, Flowed, flows, goes_on, if_normal, past_flow, past, after_turn, optional_step, while_true, loop_run, do_run, out_of_scope, declared, group_count, chosen_groups, groups_done, stmt_run, items_run, groups_runs}
use Rattle.g_build_keeps.specs.Exits.{Allows, EndsBy}
use Rattle.g_build_def.specs.Exits.{Exits, no_exits, either_exits, past_loop, past_switch, stmt_exits, items_exits, groups_exits, can_leave}

allows-left : (a b : Exits) (f : Flow) → Allows a f → Allows (either_exits a b) f
allows-left a b normal h = tt
allows-left a b broke h = or_left a.breaks b.breaks h
allows-left a b continued h = or_left a.continues b.continues h
allows-left a b (returned v) h = or_left a.returns b.returns h

allows-right : (a b : Exits) (f : Flow) → Allows b f → Allows (either_exits a b) f
allows-right a b normal h = tt
allows-right a b broke h = or_right a.breaks b.breaks h
allows-right a b continued h = or_right a.continues b.continues h
allows-right a b (returned v) h = or_right a.returns b.returns h

ends-more : (d e : Exits) (a : Answer Flowed) → ((f : Flow) → Allows d f → Allows e f) → EndsBy d a → EndsBy e a
ends-more d e (Returned x o) more h = more x.flow h
ends-more d e (Cut o) more h = tt
ends-more d e (Exited o s) more h = tt
ends-more d e (Undefined o) more h = tt

gives-any : {A : Type 0} → (a : Answer A) → Gives (λ _. Unit {0}) a
gives-any (Returned x o) = tt
gives-any (Cut o) = tt
gives-any (Exited o s) = tt
gives-any (Undefined o) = tt

-- whatever is done first
pub after-any : {A B : Type 0} → (P : B → Type 0) (a : Answer A) (next : A → Answer B) → ((x : A) → Gives P (next x)) → Gives P (then_on a next)
after-any P a next go = gives-then (λ _. Unit {0}) P a next (gives-any a) (λ x h. go x)

branched-gives : {A : Type 0} → (P : A → Type 0) (t : TypeTree) (v : Value) (a b : Answer A) → Gives P a → Gives P b → Gives P (branched t v a b)
branched-gives P t v a b h k = by (truth t v)
  where
    by : (z : Option Bool) → Gives P (on_defined z (λ (d : Bool). cond d a b))
    by None = tt
    by (Some true) = h
    by (Some false) = k

pub used-gives : {A : Type 0} → (P : A → Type 0) (v : Value) (next : Value → Answer A) → ((u : Value) → Gives P (next u)) → Gives P (used v next)
used-gives P (Num n) next go = go (Num n)
used-gives P (At b o) next go = go (At b o)
used-gives P Bad next go = tt

number-gives : {A : Type 0} → (P : A → Type 0) (v : Value) (next : ℕ → Answer A) → ((n : ℕ) → Gives P (next n)) → Gives P (on_number v next)
number-gives P (Num n) next go = go n
number-gives P (At b o) next go = tt
number-gives P Bad next go = tt

-- ---- loops

-- how a loop is left, its own `break` too
abbrev pub Left : Exits → Flow → Type 0
Left e normal = Unit {0}
Left e broke = e.breaks ≡ true
Left e continued = ⊥
Left e (returned v) = e.returns ≡ true

turn-left : (e : Exits) (f : Flow) (s : State) (again : State → Answer Flowed) → Allows e f → ((u : State) → Gives (λ (x : Flowed). Left e x.flow) (again u)) → Gives (λ (x : Flowed). Left e x.flow)
    (after_turn f s again)
turn-left e normal s again h go = go s
turn-left e continued s again h go = go s
turn-left e broke s again h go = h
turn-left e (returned v) s again h go = h

while-gives : (P : Flowed → Type 0) (c : Context) (d : OptionalExpr) (turn : State → Answer Flowed) (s : State) → ((u : State) → Gives P (turn u)) →
    ((u : State) → P (record { flow = normal; state = u })) →
    Gives P (while_true c d turn s)
while-gives P c no_expr turn s go ends = go s
while-gives P c (some_expr e) turn s go ends =
    after-any P (expr_run c e s) (λ x. branched (type_of e) x.value (turn x.state) (goes_on x.state))
    (λ x. branched-gives P (type_of e) x.value (turn x.state) (goes_on x.state) (go x.state) (ends x.state))

pub loop-left : (e : Exits) (n : ℕ) (c : Context) (d step : OptionalExpr) (body : State → Answer Flowed) → ((u : State) → EndsBy e (body u)) → (s : State) →
    Gives (λ x. Left e x.flow) (loop_run n c d step body s)
loop-left e zero c d step body h s = while-gives (λ x. Left e x.flow) c d (λ t. Cut []) s (λ u. tt) (λ u. tt)
loop-left e (suc n) c d step body h s =
    while-gives (λ x. Left e x.flow) c d (λ t. then_on (body t) (λ x. after_turn x.flow x.state (λ u. then_on (optional_step c step u) (loop_run n c d step body)))) s
    (λ u. gives-then (λ x. Allows e x.flow) (λ x. Left e x.flow) (body u) (λ x. after_turn x.flow x.state (λ u. then_on (optional_step c step u) (loop_run n c d step body))) (h u)
    (λ x k. turn-left e x.flow x.state (λ u. then_on (optional_step c step u) (loop_run n c d step body)) k
    (λ v. after-any (λ y. Left e y.flow) (optional_step c step v) (loop_run n c d step body) (loop-left e n c d step body h)))) (λ u. tt)

pub do-left : (e : Exits) (n : ℕ) (c : Context) (d : ExprTree) (body : State → Answer Flowed) → ((u : State) → EndsBy e (body u)) → (s : State) → Gives (λ x. Left e x.flow) (do_run n c d body s)
do-left e zero c d body h s = tt
do-left e (suc n) c d body h s =
    gives-then (λ x. Allows e x.flow) (λ x. Left e x.flow) (body s)
    (λ x. after_turn x.flow x.state (λ t. then_on (expr_run c d t) (λ y. branched (type_of d) y.value (do_run n c d body y.state) (goes_on y.state)))) (h s)
    (λ x k. turn-left e x.flow x.state (λ t. then_on (expr_run c d t) (λ y. branched (type_of d) y.value (do_run n c d body y.state) (goes_on y.state))) k
    (λ v. after-any (λ y. Left e y.flow) (expr_run c d v) (λ y. branched (type_of d) y.value (do_run n c d body y.state) (goes_on y.state))
    (λ y. branched-gives (λ y. Left e y.flow) (type_of d) y.value (do_run n c d body y.state) (goes_on y.state) (do-left e n c d body h y.state) tt)))

past-left : (e : Exits) (x : Flowed) → Left e x.flow → EndsBy (past_loop e) (past x)
past-left e x h = by x.flow h
  where
    by : (f : Flow) → Left e f → Allows (past_loop e) (past_flow f)
    by normal h = tt
    by broke h = tt
    by continued h = absurd h
    by (returned v) h = h

past-switched : (e : Exits) (x : Flowed) → Allows e x.flow → EndsBy (past_switch e) (past x)
past-switched e x h = by x.flow h
  where
    by : (f : Flow) → Allows e f → Allows (past_switch e) (past_flow f)
    by normal h = tt
    by broke h = tt
    by continued h = h
    by (returned v) h = h

-- ---- statements

abbrev AllEndBy : Exits → List (State → Answer Flowed) → Type 0
AllEndBy e [] = Unit {0}
AllEndBy e (r ∷ rs) = ((s : State) → EndsBy e (r s)) × AllEndBy e rs

if-normal-ends : (e : Exits) (f : Flow) (s : State) (next : State → Answer Flowed) → Allows e f → ((u : State) → EndsBy e (next u)) → EndsBy e (if_normal f s next)
if-normal-ends e normal s next h go = go s
if-normal-ends e broke s next h go = h
if-normal-ends e continued s next h go = h
if-normal-ends e (returned v) s next h go = h

pub groups-done-end : (e : Exits) (n : ℕ) (rs : List (State → Answer Flowed)) → AllEndBy e rs → (s : State) → EndsBy e (groups_done n rs s)
groups-done-end e n [] h s = tt
groups-done-end e (suc n) (r ∷ rs) h s = groups-done-end e n rs h.1 s
groups-done-end e zero (r ∷ rs) h s =
    gives-then (λ x. Allows e x.flow) (λ x. Allows e x.flow) (r s) (λ x. if_normal x.flow x.state (groups_done zero rs)) (h.0 s)
    (λ x k. if-normal-ends e x.flow x.state (groups_done zero rs) k (groups-done-end e zero rs h.1))

all-more : (d e : Exits) (rs : List (State → Answer Flowed)) → ((f : Flow) → Allows d f → Allows e f) → AllEndBy d rs → AllEndBy e rs
all-more d e [] more h = tt
all-more d e (r ∷ rs) more h = (λ s. ends-more d e (r s) more (h.0 s), all-more d e rs more h.1)

module _ (c : Context) (vs : List VariableTree) where
  mutual
    pub stmt-ends : (a : StmtTree) (s : State) → EndsBy (stmt_exits a) (stmt_run c vs a s)
    stmt-ends null s = tt
    stmt-ends (value e) s = after-any (λ x. Allows no_exits x.flow) (expr_run c e s) (λ x. goes_on x.state) (λ x. tt)
    stmt-ends (block is) s = items-end is s
    stmt-ends (if_else e a b) s =
        after-any (λ x. Allows (either_exits (stmt_exits a) (stmt_exits b)) x.flow) (expr_run c e s) (λ x. branched (type_of e) x.value (stmt_run c vs a x.state) (stmt_run c vs b x.state))
        (λ x. branched-gives (λ x. Allows (either_exits (stmt_exits a) (stmt_exits b)) x.flow) (type_of e) x.value (stmt_run c vs a x.state) (stmt_run c vs b x.state)
        (ends-more (stmt_exits a) (either_exits (stmt_exits a) (stmt_exits b)) (stmt_run c vs a x.state) (allows-left (stmt_exits a) (stmt_exits b)) (stmt-ends a x.state))
        (ends-more (stmt_exits b) (either_exits (stmt_exits a) (stmt_exits b)) (stmt_run c vs b x.state) (allows-right (stmt_exits a) (stmt_exits b)) (stmt-ends b x.state)))
    stmt-ends (loop d step a) s =
        gives-then (λ x. Left (stmt_exits a) x.flow) (λ x. Allows (past_loop (stmt_exits a)) x.flow) (loop_run c.bound c d step (stmt_run c vs a) s) past
        (loop-left (stmt_exits a) c.bound c d step (stmt_run c vs a) (stmt-ends a) s) (past-left (stmt_exits a))
    stmt-ends (do_while a e) s =
        gives-then (λ x. Left (stmt_exits a) x.flow) (λ x. Allows (past_loop (stmt_exits a)) x.flow) (do_run c.bound c e (stmt_run c vs a) s) past
        (do-left (stmt_exits a) c.bound c e (stmt_run c vs a) (stmt-ends a) s) (past-left (stmt_exits a))
    stmt-ends break s = refl
    stmt-ends continue s = refl
    stmt-ends (return_value e) s =
        after-any (λ x. Allows (stmt_exits (return_value e)) x.flow) (expr_run c e s) (λ x. used x.value (λ v. flows x.state (returned (Some v))))
        (λ x. used-gives (λ x. Allows (stmt_exits (return_value e)) x.flow) x.value (λ v. flows x.state (returned (Some v))) (λ u. refl))
    stmt-ends return_none s = refl
    stmt-ends (switch e gs) s =
        after-any (λ x. Allows (past_switch (groups_exits gs)) x.flow) (expr_run c e s)
        (λ x. on_number x.value (λ w. then_on (groups_done (group_count gs - group_count (chosen_groups w gs)) (groups_runs c vs gs) x.state) past))
        (λ x. number-gives (λ x. Allows (past_switch (groups_exits gs)) x.flow) x.value
        (λ w. then_on (groups_done (group_count gs - group_count (chosen_groups w gs)) (groups_runs c vs gs) x.state) past)
        (λ w. gives-then (λ x. Allows (groups_exits gs) x.flow) (λ x. Allows (past_switch (groups_exits gs)) x.flow)
        (groups_done (group_count gs - group_count (chosen_groups w gs)) (groups_runs c vs gs) x.state) past
        (groups-done-end (groups_exits gs) (group_count gs - group_count (chosen_groups w gs)) (groups_runs c vs gs) (groups-end gs) x.state) (past-switched (groups_exits gs))))

    pub items-end : (is : ItemTrees) (s : State) → EndsBy (items_exits is) (items_run c vs is s)
    items-end no_items s = tt
    items-end (stmt_then a is) s =
        let e = either_exits (stmt_exits a) (items_exits is) in
        gives-then (λ x. Allows (stmt_exits a) x.flow) (λ x. Allows e x.flow) (stmt_run c vs a s) (λ x. if_normal x.flow x.state (items_run c vs is)) (stmt-ends a s)
        (λ x k. if-normal-ends e x.flow x.state (items_run c vs is) (allows-left (stmt_exits a) (items_exits is) x.flow k)
        (λ u. ends-more (items_exits is) e (items_run c vs is u) (allows-right (stmt_exits a) (items_exits is)) (items-end is u)))
    items-end (declare_then d is) s =
        after-any (λ x. Allows (items_exits is) x.flow) (declared c vs d.variable (slice_get vs d.variable) d.initial s) (λ t. then_on (items_run c vs is t) (out_of_scope (length s.slots)))
        (λ t. gives-then (λ x. Allows (items_exits is) x.flow) (λ x. Allows (items_exits is) x.flow) (items_run c vs is t) (out_of_scope (length s.slots)) (items-end is t) (λ x k. k))

    pub groups-end : (gs : GroupTrees) → AllEndBy (groups_exits gs) (groups_runs c vs gs)
    groups-end no_groups = tt
    groups-end (group_then cases d is gs) =
        let e = either_exits (items_exits is) (groups_exits gs) in (
          λ s. ends-more (items_exits is) e (items_run c vs is s) (allows-left (items_exits is) (groups_exits gs)) (items-end is s),
          all-more (groups_exits gs) e (groups_runs c vs gs) (allows-right (items_exits is) (groups_exits gs)) (groups-end gs),
        )

-- where nothing leaves, control goes on
pub allows-normal : (e : Exits) (f : Flow) → can_leave e ≡ false → Allows e f → f ≡ normal
allows-normal e normal n h = refl
allows-normal e broke n h = absurd (by e.returns e.breaks e.continues n h)
  where
    by : (a b c : Bool) → (a || b || c) ≡ false → b ≡ true → ⊥
    by true b c n h = absurd cc
    by false true c n h = absurd cc
    by false false c n h = absurd cc
allows-normal e continued n h = absurd (by e.returns e.breaks e.continues n h)
  where
    by : (a b c : Bool) → (a || b || c) ≡ false → c ≡ true → ⊥
    by true b c n h = absurd cc
    by false true c n h = absurd cc
    by false false true n h = absurd cc
    by false false false n h = absurd cc
allows-normal e (returned v) n h = absurd (by e.returns e.breaks e.continues n h)
  where
    by : (a b c : Bool) → (a || b || c) ≡ false → a ≡ true → ⊥
    by true b c n h = absurd cc
    by false b c n h = absurd cc

pub left-normal : (e : Exits) (f : Flow) → can_leave e ≡ false → Left e f → f ≡ normal
left-normal e normal n h = refl
left-normal e broke n h = allows-normal e broke n h
left-normal e continued n h = absurd h
left-normal e (returned v) n h = allows-normal e (returned v) n h

-- where no `break` leaves, none is ended
pub unbroken : (e : Exits) (f : Flow) → Allows e f → e.breaks ≡ false → past_flow f ≡ f
unbroken e normal h n = refl
unbroken e continued h n = refl
unbroken e (returned v) h n = refl
unbroken e broke h n = let z = sym h ∙ n in absurd cc
