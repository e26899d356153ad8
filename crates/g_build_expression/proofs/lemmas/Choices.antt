-- Regions of a node, one after the other.
use Rattle.std.proofs.Common.{◌≡◌, ℕ, suc, Bool, List, [], ◌∷◌, ◌++◌, ◌+◌, length, refl, sym, ap, ◌∙◌, false}
use Rattle.std.specs.Prelude.{Option, None, option_to_list, is_some}
use Rattle.g_graph.specs.declared.op.Op.{Op}
use Rattle.g_graph.specs.declared.op.Op.TheVariants.{Gamma, Theta}
use Rattle.g_graph.specs.declared.op.Origin.{Origin}
use Rattle.g_graph.specs.declared.op.Origin.TheVariants.{Arg, Out}
use Rattle.g_graph.specs.Plain.{region, node, nodes_of, regions_of}
use Rattle.g_build_def.specs.Writer.{SlotOrigin, held, object, hidden, Carried, carried_origins, carried_kinds, value_origins, value_kinds, last_kinds, numbered, beyond, with_last, renamed, Point, Built, Extra, no_value, one_value, inside, nothing, region_made, choice, exchanged, choice_one_first, repeat}
use Rattle.g_build_def.specs.Laws.{shape, Later}
use Rattle.g_build_def.proofs.lemmas.Later.{Keeps, later_here, numbered_twice, form_renamed, shape_renamed}
use Rattle.g_build_expression.specs.declared.choices.RegionOrder.{RegionOrder}
use Rattle.g_build_expression.specs.declared.choices.RegionOrder.TheVariants.{ZeroFirst, OneFirst}
use Rattle.g_build_expression.specs.Work.{Enclosing, Work, made, begun, closed, with_regions, ended, ended_value, port_of}
use Rattle.g_build_expression.specs.Choices.{in_order, chosen}
use Rattle.g_build_expression.proofs.Renaming.{last_same, beyond_is, renamed_same}
use Rattle.g_build_expression.proofs.lemmas.Made.{Makes, made_given}

-- the same variables, whatever their origins
pub record SameShape (k l : Carried) : Type 0 where
  pub form : l.form ≡ k.form
  pub shape : shape l.variables ≡ shape k.variables

kinds_numbered : (xs : List SlotOrigin) (f : ℕ → Origin) → value_kinds (numbered xs f) ≡ value_kinds xs
kinds_numbered [] f = refl
kinds_numbered (held o ∷ xs) f = ap (λ ks. value_kinds (held o ∷ []) ++ ks) (kinds_numbered xs (λ k. f (suc k)))
kinds_numbered (object n ∷ xs) f = kinds_numbered xs f
kinds_numbered (hidden o ∷ xs) f = ap (λ ks. value_kinds (hidden o ∷ []) ++ ks) (kinds_numbered xs (λ k. f (suc k)))

count_numbered : (xs : List SlotOrigin) (f : ℕ → Origin) → length (value_origins (numbered xs f)) ≡ length (value_origins xs)
count_numbered [] f = refl
count_numbered (held o ∷ xs) f = ap suc (count_numbered xs (λ k. f (suc k)))
count_numbered (object n ∷ xs) f = count_numbered xs f
count_numbered (hidden o ∷ xs) f = ap suc (count_numbered xs (λ k. f (suc k)))

same_kinds : (k l : Carried) → SameShape k l → carried_kinds l ≡ carried_kinds k
same_kinds k l h =
    ap (λ ks. ks ++ last_kinds l.form) (sym (kinds_numbered l.variables (λ _. Arg 0)) ∙ ap value_kinds h.shape ∙ kinds_numbered k.variables (λ _. Arg 0))
    ∙ ap (λ x. value_kinds k.variables ++ last_kinds x) h.form

same_renamed : (k l : Carried) → SameShape k l → (f : ℕ → Origin) → renamed l f ≡ renamed k f
same_renamed k l h f =
    let variables : numbered l.variables f ≡ numbered k.variables f =
    sym (numbered_twice l.variables (λ _. Arg 0) f) ∙ ap (λ ys. numbered ys f) h.shape ∙ numbered_twice k.variables (λ _. Arg 0) f in
    let count : length (value_origins l.variables) ≡ length (value_origins k.variables) =
    sym (count_numbered l.variables (λ _. Arg 0)) ∙ ap (λ ys. length (value_origins ys)) h.shape ∙ count_numbered k.variables (λ _. Arg 0) in
    last_same l.form (numbered l.variables f) (numbered k.variables f) (beyond l.variables f) (beyond k.variables f) variables
    (λ j. beyond_is l.variables f j ∙ ap (λ n. f (n + j)) count ∙ sym (beyond_is k.variables f j))
    ∙ ap (λ x. with_last x (numbered k.variables f) (beyond k.variables f)) h.form

later_same : (k : Carried) (m : ℕ) (t : Point) → Later (inside k m) t → SameShape k t.carried
later_same k m t h = record { form = h.form ∙ form_renamed k Arg; shape = h.shape ∙ shape_renamed k Arg }

renamed_twice : (k : Carried) (f : ℕ → Origin) → renamed (renamed k Arg) f ≡ renamed k f
renamed_twice k f = same_renamed k (renamed k Arg) (record { form = form_renamed k Arg; shape = shape_renamed k Arg }) f

-- ---- one region

-- a region stands open in a node with these regions so far, and nothing is made in it
abbrev pub open_in : Enclosing → List Enclosing → Carried → (next : ℕ) → Work
open_in a rest k m = record { enclosing = a ∷ rest; nodes = []; point = inside k m }

abbrev with_region : {A : Type 0} → Enclosing → Extra A → Carried → Built A → Enclosing
with_region a x k b = with_regions a (a.regions ++ region_made x k b ∷ [])

close_step : {A : Type 0} → (x : Extra A) (a : Enclosing) (rest : List Enclosing) (k : Carried) (m : ℕ) (f : Point → Built A) (rs : List Origin) → Keeps f →
    rs ≡ x.results (f (inside k m)).value →
    closed rs (made (open_in a rest k m) (f (inside k m))) ≡ open_in (with_region a x k (f (inside k m))) rest k (f (inside k m)).after.next
close_step {A} x a rest k m f rs h e =
    let b : Built A = f (inside k m) in
    let same : SameShape k b.after.carried = later_same k m b.after (h (inside k m)) in
    λ i. record {
      enclosing = with_regions a (a.regions ++ region (same_kinds k b.after.carried same i) (nodes_of b.nodes) (e i ++ carried_origins b.after.carried) ∷ []) ∷ rest;
      nodes = [];
      point = record { next = b.after.next; carried = same_renamed k b.after.carried same Arg i };
    }

-- a region is made and closed
pub close_from : {A : Type 0} → (x : Extra A) (a : Enclosing) (rest : List Enclosing) (k : Carried) (m : ℕ) (f : Point → Built A) (w w1 w2 : Work) (rs : List Origin) → Keeps f →
    w ≡ open_in a rest k m → w1 ≡ made w (f w.point) → rs ≡ x.results (f w.point).value → w2 ≡ closed rs w1 →
    w2 ≡ open_in (with_region a x k (f (inside k m))) rest k (f (inside k m)).after.next
close_from x a rest k m f w w1 w2 rs h g g1 e g2 =
    g2 ∙ ap (closed rs) g1 ∙ ap (λ u. closed rs (made u (f u.point))) g ∙ close_step x a rest k m f rs h (e ∙ ap (λ u. x.results (f u.point).value) g)

-- the node ends
abbrev after_node : Enclosing → List Enclosing → Carried → Op → (port : ℕ → ℕ) → (next : ℕ) → Work
after_node a rest k o port m = record {
  enclosing = rest;
  nodes = a.nodes ++ node a.id o a.inputs (regions_of a.regions) ∷ [];
  point = record { next = m; carried = renamed k (λ j. Out a.id (port j)) };
}

pub end_from : (a : Enclosing) (rest : List Enclosing) (k : Carried) (m : ℕ) (o : Op) (e : Bool) (port : ℕ → ℕ) (w w1 : Work) → ((j : ℕ) → port_of e j ≡ port j) →
    w ≡ open_in a rest k m → w1 ≡ ended o e w → w1 ≡ after_node a rest k o port m
end_from a rest k m o e port w w1 h g g1 =
    let f : Carried → Work = λ c. record { enclosing = rest; nodes = a.nodes ++ node a.id o a.inputs (regions_of a.regions) ∷ []; point = record { next = m; carried = c } } in
    g1 ∙ ap (ended o e) g
    ∙ ap f (renamed_twice k (λ j. Out a.id (port_of e j)) ∙ renamed_same k (λ j. Out a.id (port_of e j)) (λ j. Out a.id (port j)) (λ j. ap (λ n. Out a.id n) (h j)))

-- ---- a Gamma

abbrev pub gamma_enclosing : (predicate : Origin) → Work → Enclosing
gamma_enclosing p w = record { nodes = w.nodes; id = w.point.next; inputs = p ∷ carried_origins w.point.carried; regions = [] }

-- the choice between two regions that are made in this order
abbrev choice_made : {A : Type 0} → RegionOrder → Extra A → Point → (predicate : Origin) → (first second : Point → Built A) → Built A
choice_made ZeroFirst x s p f g = choice x s p f g
choice_made OneFirst x s p f g = choice_one_first x s p g f

-- both regions are closed, and the Gamma ends
chosen_from : {A : Type 0} → (o : RegionOrder) (x : Extra A) (e : Bool) → ((j : ℕ) → port_of e j ≡ x.port j) → (w : Work) (p : Origin) (f g : Point → Built A) →
    let k : Carried = w.point.carried in
    let a : Enclosing = gamma_enclosing p w in
    let b : Built A = f (inside k (suc w.point.next)) in
    let c : Built A = g (inside k b.after.next) in
    ended Gamma e (in_order o (open_in (with_region (with_region a x k b) x k c) w.enclosing k c.after.next)) ≡ made w (choice_made o x w.point p f g)
chosen_from {A} ZeroFirst x e h w p f g =
    let k : Carried = w.point.carried in
    let a : Enclosing = gamma_enclosing p w in
    let b : Built A = f (inside k (suc w.point.next)) in
    let c : Built A = g (inside k b.after.next) in
    let v : Work = open_in (with_region (with_region a x k b) x k c) w.enclosing k c.after.next in
    end_from (with_region (with_region a x k b) x k c) w.enclosing k c.after.next Gamma e x.port v (ended Gamma e v) h refl refl
chosen_from {A} OneFirst x e h w p f g =
    let k : Carried = w.point.carried in
    let a : Enclosing = gamma_enclosing p w in
    let b : Built A = f (inside k (suc w.point.next)) in
    let c : Built A = g (inside k b.after.next) in
    let both : Enclosing = with_region (with_region a x k b) x k c in
    let v : Work = open_in (with_regions both (exchanged both.regions)) w.enclosing k c.after.next in
    end_from (with_regions both (exchanged both.regions)) w.enclosing k c.after.next Gamma e x.port v (ended Gamma e v) h refl refl

value_made : {A : Type 0} → (o : RegionOrder) (x : Extra A) (s : Point) (p : Origin) (f g : Point → Built A) → x.value s.next ≡ (choice_made o x s p f g).value
value_made ZeroFirst x s p f g = refl
value_made OneFirst x s p f g = refl

-- A choice begins, its first branch is made, then the other one, and it ends: this is the choice of the definition. The
-- last branch gives this result, if any.
pub choice_makes : {A : Type 0} → (o : RegionOrder) (x : Extra A) (r : Option Origin) → ((j : ℕ) → port_of (is_some r) j ≡ x.port j) → (w w1 w2 w3 w4 w5 : Work) (p : Origin)
    (f g : Point → Built A) (rs : List Origin) (v : A) → Keeps f → Keeps g → w1 ≡ begun (p ∷ []) w → w2 ≡ made w1 (f w1.point) → rs ≡ x.results (f w1.point).value → w3 ≡ closed rs w2 →
    w4 ≡ made w3 (g w3.point) → option_to_list r ≡ x.results (g w3.point).value → w5 ≡ chosen o r w4 → v ≡ x.value w.point.next → Makes w (choice_made o x w.point p f g) w5 v
choice_makes {A} o x r h w w1 w2 w3 w4 w5 p f g rs v hf hg e1 e2 er e3 e4 eq e5 ev =
    let k : Carried = w.point.carried in
    let n : ℕ = w.point.next in
    let a : Enclosing = gamma_enclosing p w in
    let b : Built A = f (inside k (suc n)) in
    let first : w3 ≡ open_in (with_region a x k b) w.enclosing k b.after.next = close_from x a w.enclosing k (suc n) f w1 w2 w3 rs hf e1 e2 er e3 in
    let c : Built A = g (inside k b.after.next) in
    let both : Work = closed (option_to_list r) w4 in
    let second : both ≡ open_in (with_region (with_region a x k b) x k c) w.enclosing k c.after.next =
    close_from x (with_region a x k b) w.enclosing k b.after.next g w3 w4 both (option_to_list r) hg first e4 eq refl in
    record { work = e5 ∙ ap (λ u. ended Gamma (is_some r) (in_order o u)) second ∙ chosen_from o x (is_some r) h w p f g; value = ev ∙ value_made o x w.point p f g }

-- what a Gamma gives first is its output 0
pub first_output : {A : Type 0} → (x : Extra A) (w w1 w2 w3 w4 : Work) (p : Origin) (f g : Point → Built A) (rs : List Origin) → Keeps f → w1 ≡ begun (p ∷ []) w → w2 ≡ made w1 (f w1.point) →
    rs ≡ x.results (f w1.point).value → w3 ≡ closed rs w2 → w4 ≡ made w3 (g w3.point) → ended_value w4.enclosing ≡ Out w.point.next 0
first_output {A} x w w1 w2 w3 w4 p f g rs hf e1 e2 er e3 e4 =
    let k : Carried = w.point.carried in
    let n : ℕ = w.point.next in
    let first : w3 ≡ open_in (with_region (gamma_enclosing p w) x k (f (inside k (suc n)))) w.enclosing k (f (inside k (suc n))).after.next =
    close_from x (gamma_enclosing p w) w.enclosing k (suc n) f w1 w2 w3 rs hf e1 e2 er e3 in
    ap (λ u. ended_value u.enclosing) e4 ∙ ap (λ u. ended_value u.enclosing) first

-- ---- a Gamma without extra values

nothing_more : (w : Work) → w ≡ made w (nothing w.point)
nothing_more w = let v : Unit {0} = tt in sym (made_given w v)

-- one branch, and then the other one
pub branches_make : (o : RegionOrder) (w w1 w2 w3 w4 w5 : Work) (p : Origin) (f g : Point → Built (Unit {0})) → Keeps f → Keeps g → w1 ≡ begun (p ∷ []) w → w2 ≡ made w1 (f w1.point) →
    w3 ≡ closed [] w2 → w4 ≡ made w3 (g w3.point) → w5 ≡ chosen o None w4 → w5 ≡ made w (choice_made o no_value w.point p f g)
branches_make o w w1 w2 w3 w4 w5 p f g hf hg e1 e2 e3 e4 e5 =
    (choice_makes o no_value None (λ j. refl) w w1 w2 w3 w4 w5 p f g [] tt hf hg e1 e2 refl e3 e4 refl e5 refl).work

-- region 0 has the part, and region 1 nothing
pub unless_makes : (w w1 w2 w3 w4 : Work) (p : Origin) (f : Point → Built (Unit {0})) → Keeps f → w1 ≡ begun (p ∷ []) w → w2 ≡ made w1 (f w1.point) → w3 ≡ closed [] w2 →
    w4 ≡ chosen ZeroFirst None w3 → w4 ≡ made w (choice no_value w.point p f nothing)
unless_makes w w1 w2 w3 w4 p f h e1 e2 e3 e4 = branches_make ZeroFirst w w1 w2 w3 w3 w4 p f nothing h later_here e1 e2 e3 (nothing_more w3) e4

-- region 0 has nothing, and region 1 the part
pub where_makes : (w w1 w2 w3 w4 : Work) (p : Origin) (f : Point → Built (Unit {0})) → Keeps f → w1 ≡ begun (p ∷ []) w → w2 ≡ closed [] w1 → w3 ≡ made w2 (f w2.point) →
    w4 ≡ chosen ZeroFirst None w3 → w4 ≡ made w (choice no_value w.point p nothing f)
where_makes w w1 w2 w3 w4 p f h e1 e2 e3 e4 = branches_make ZeroFirst w w1 w1 w2 w3 w4 p nothing f later_here h e1 (nothing_more w1) e2 e3 e4

-- ---- a Theta

pub repeat_makes : (w w1 w2 w3 w4 : Work) (f : Point → Built Origin) (v : Origin) → Keeps f → w1 ≡ begun [] w → w2 ≡ made w1 (f w1.point) → v ≡ (f w1.point).value →
    w3 ≡ closed (v ∷ []) w2 → w4 ≡ ended Theta false w3 → w4 ≡ made w (repeat w.point f)
repeat_makes w w1 w2 w3 w4 f v h e1 e2 ev e3 e4 =
    let k : Carried = w.point.carried in
    let n : ℕ = w.point.next in
    let a : Enclosing = record { nodes = w.nodes; id = n; inputs = carried_origins k; regions = [] } in
    let b : Built Origin = f (inside k (suc n)) in
    let first : w3 ≡ open_in (with_region a one_value k b) w.enclosing k b.after.next = close_from one_value a w.enclosing k (suc n) f w1 w2 w3 (v ∷ []) h e1 e2 (ap (λ o. o ∷ []) ev) e3 in
    end_from (with_region a one_value k b) w.enclosing k b.after.next Theta false (λ j. j) w3 w4 (λ j. refl) first e4
