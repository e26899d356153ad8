-- The sweep at a cursor, from the last node to the first.
use Rattle.std.proofs.Common.{◌≡◌, ◌≤◌, ◌<◌, ◌+◌, ◌*◌, ℕ, suc, ◌==◌, true, false, Option, None, Some, List, [], ◌∷◌, ◌++◌, map, length, take, reverse, refl, sym, ap, subst, ◌∙◌, arith}
use Rattle.std.specs.Prelude.{if◌then◌else◌}
use Rattle.std.proofs.lemmas.List.{append-nil, length-map, map-append, reverse-append}
use Rattle.std.proofs.lemmas.Option.{same_Some}
use Rattle.r_rule.specs.declared.steps.Step.{Step}
use Rattle.g_graph.specs.Plain.{PlainLambda}
use Rattle.g_graph.specs.Ids.{region_ids}
use Rattle.g_graph.specs.WellFormed.{IsWellFormed}
use Rattle.g_graph.proofs.lemmas.Indexes.{same_number_true}
use Rattle.g_graph.proofs.lemmas.Unique.{equal_back}
use Rattle.cell_lists.specs.Lists.{first_or, last_or, before_in}
use Rattle.g_arena_def.specs.Flat.{FlatNode, Flat, StandsFor}
use Rattle.g_arena_def.specs.Reads.{ids, found, first_node, last_node, node_before, pair_of, ends_of}
use Rattle.g_arena_def.specs.Size.{lambda_size}
use Rattle.r_sweep_def.specs.Listed.{Listed, stepped_in, swept_in}
use Rattle.r_sweep.specs.Fast.{IsWhole, HasSwept}
use Rattle.r_sweep.specs.Measure.{flat_size, node_size, nodes_size}
use Rattle.r_sweep.specs.Walk.{until}
use Rattle.r_sweep.proofs.lemmas.Sizes.{nodes_size-both, numbers_are, size_within}
use Rattle.r_sweep.proofs.lemmas.Steps.{SweptTo, begins, goes_on, ends}
use Rattle.r_sweep.proofs.lemmas.Walks.{Absent, Once}
use Rattle.r_sweep.proofs.lemmas.Whole.{once_whole, whole_after, has_swept}
use Rattle.r_dne.specs.Rule.{dne}
use Rattle.r_dne.specs.SweepLaws.{DneIsListed, DneSweepsAreListed, dne_change}
use Rattle.r_dne.specs.Listed.{dne_in}
use Rattle.r_dne.proofs.Front.{number, HasFront, dne_front}

-- how many nodes are left from the cursor on
abbrev pub nodes_left : Option ℕ → Flat → ℕ
nodes_left None a = 0
nodes_left (Some n) a = suc (length (until number n a.nodes))

-- the list and the log at the start, and how many looks there were
pub record Start : Type 0 where
  pub nodes : Flat
  pub steps : List Step
  pub looks : ℕ

abbrev pub at_start : Start → Listed
at_start s = record { nodes = s.nodes; steps = s.steps }

-- the nodes in front are left, and each of them is charged as large as it was at the start
pub record IsGoing (s : Start) (a : Flat) (log : List Step) (next : Option ℕ) (looks : ℕ) : Type 0 where
  pub front : List FlatNode
  pub rest : List FlatNode
  pub parts : a.nodes ≡ front ++ rest
  pub next_is : next ≡ last_or None (map number front)
  pub swept : SweptTo dne_change dne_in (reverse (ids s.nodes)) (at_start s) (record { nodes = a; steps = log }) (reverse (map number front))
  pub whole : IsWhole a
  pub cost : looks + 3 * nodes_size front ≤ s.looks + 1 + 3 * nodes_size s.nodes.nodes

-- ---- lists

last_some : (b : Option ℕ) (n : ℕ) (ns : List ℕ) → last_or b (n ∷ ns) ≡ None → ⊥
last_some b n [] e = cc
last_some b n (m ∷ ns) e = last_some (Some n) m ns e

no_last : (xs : List FlatNode) → last_or None (map number xs) ≡ None → xs ≡ []
no_last [] e = refl
no_last (x ∷ xs) e = absurd (last_some None x.id (map number xs) e)

-- a list with a last element
record LastOf (n : ℕ) (xs : List FlatNode) : Type 0 where
  before : List FlatNode
  node : FlatNode
  is : xs ≡ before ++ node ∷ []
  id : node.id ≡ n

last_of : (n : ℕ) (xs : List FlatNode) → last_or None (map number xs) ≡ Some n → LastOf n xs
last_of n [] e = absurd cc
last_of n (x ∷ []) e = record { before = []; node = x; is = refl; id = same_Some x.id n e }
last_of n (x ∷ y ∷ ys) e = let l = last_of n (y ∷ ys) e in record { before = x ∷ l.before; node = l.node; is = ap (λ zs. x ∷ zs) l.is; id = l.id }

appended : (xs : List FlatNode) (y : FlatNode) (zs : List FlatNode) → (xs ++ y ∷ []) ++ zs ≡ xs ++ y ∷ zs
appended [] y zs = refl
appended (x ∷ xs) y zs = ap (λ us. x ∷ us) (appended xs y zs)

absent_at : (m : ℕ) (xs : List FlatNode) (y : FlatNode) (zs : List FlatNode) → Absent number m (xs ++ y ∷ zs) → (y.id == m) ≡ false
absent_at m [] y zs h = h.0
absent_at m (x ∷ xs) y zs h = absent_at m xs y zs h.1

absent_before : (xs : List FlatNode) (y : FlatNode) (zs : List FlatNode) → Once number (xs ++ y ∷ zs) → Absent number y.id xs
absent_before [] y zs h = tt
absent_before (x ∷ xs) y zs h = (equal_back x.id y.id ∙ absent_at x.id xs y zs h.0, absent_before xs y zs h.1)

found_behind : (n : ℕ) (xs : List FlatNode) (y : FlatNode) (zs : List FlatNode) → Absent number n xs → (y.id == n) ≡ true → found n (xs ++ y ∷ zs) ≡ Some y
found_behind n [] y zs h e = ap (λ t. if t then Some y else found n zs) e
found_behind n (x ∷ xs) y zs h e = ap (λ t. if t then Some x else found n (xs ++ y ∷ zs)) h.0 ∙ found_behind n xs y zs h.1 e

before_is : (b : Option ℕ) (n : ℕ) (xs : List FlatNode) (y : FlatNode) (zs : List FlatNode) → Absent number n xs → (y.id == n) ≡ true → before_in b n (map number (xs ++ y ∷ zs)) ≡ last_or b (map number xs)
before_is b n [] y zs h e = ap (λ t. if t then b else before_in (Some y.id) n (map number zs)) (equal_back n y.id ∙ e)
before_is b n (x ∷ xs) y zs h e = ap (λ t. if t then b else before_in (Some x.id) n (map number (xs ++ y ∷ zs))) (equal_back n x.id ∙ h.0) ∙ before_is (Some x.id) n xs y zs h.1 e

until_behind : (n : ℕ) (xs : List FlatNode) (y : FlatNode) (zs : List FlatNode) → Absent number n xs → (y.id == n) ≡ true → until number n (xs ++ y ∷ zs) ≡ xs
until_behind n [] y zs h e = ap (λ t. if t then [] else y ∷ until number n zs) e
until_behind n (x ∷ xs) y zs h e = ap (λ t. if t then [] else x ∷ until number n (xs ++ y ∷ zs)) h.0 ∙ ap (λ us. x ∷ us) (until_behind n xs y zs h.1 e)

turned : (xs : List FlatNode) (y : FlatNode) → reverse (map number (xs ++ y ∷ [])) ≡ y.id ∷ reverse (map number xs)
turned xs y = ap reverse (map-append number xs (y ∷ [])) ∙ reverse-append (map number xs) (y.id ∷ [])

-- ---- the start

pub no_ends : (a : Flat) → ends_of a ≡ None → last_node a ≡ None
no_ends a e = by (ids a) e
  where
    by : (ns : List ℕ) → pair_of (first_or None ns) (last_or None ns) ≡ None → last_or None ns ≡ None
    by [] d = refl
    by (n ∷ ns) d = by_last (last_or None (n ∷ ns)) refl d
      where
        by_last : (o : Option ℕ) → last_or None (n ∷ ns) ≡ o → pair_of (Some n) o ≡ None → last_or None (n ∷ ns) ≡ None
        by_last None q r = q
        by_last (Some m) q r = absurd cc

pub some_ends : (a : Flat) (first last : ℕ) → ends_of a ≡ Some (first, last) → last_node a ≡ Some last
some_ends a first last e = by (first_node a) (last_node a) e
  where
    by : (o p : Option ℕ) → pair_of o p ≡ Some (first, last) → p ≡ Some last
    by None p d = absurd cc
    by (Some n) None d = absurd cc
    by (Some n) (Some m) d = let same : (n, m) ≡ (first, last) = same_Some (n, m) (first, last) d in ap (λ (q : ℕ × ℕ). Some q.1) same

start_goes : (s : Start) → IsWhole s.nodes → IsGoing s s.nodes s.steps (last_node s.nodes) (s.looks + 1)
start_goes s whole = record {
  front = s.nodes.nodes;
  rest = [];
  parts = sym (append-nil s.nodes.nodes);
  next_is = refl;
  swept = begins dne_change dne_in (reverse (ids s.nodes)) (at_start s);
  whole = whole;
  cost = omega arith;
}

pub start_at : (s : Start) → IsWhole s.nodes → (next : Option ℕ) (looks : ℕ) → next ≡ last_node s.nodes → looks ≡ s.looks + 1 → IsGoing s s.nodes s.steps next looks
start_at s whole next looks f h =
    subst (λ o. IsGoing s s.nodes s.steps o looks) (sym f) (subst (λ k. IsGoing s s.nodes s.steps (last_node s.nodes) k) (sym h) (start_goes s whole))

-- ---- a step

module _ (s : Start) (a : Flat) (log : List Step) (n : ℕ) (looks : ℕ) (g : IsGoing s a log (Some n) looks) where
  here : LastOf n g.front
  here = last_of n g.front (sym g.next_is)

  nodes_are : a.nodes ≡ here.before ++ here.node ∷ g.rest
  nodes_are = g.parts ∙ ap (λ us. us ++ g.rest) here.is ∙ appended here.before here.node g.rest

  self : (here.node.id == here.node.id) ≡ true
  self = same_number_true here.node.id

  own : (here.node.id == n) ≡ true
  own = ap (λ m. here.node.id == m) (sym here.id) ∙ self

  absent : Absent number here.node.id here.before
  absent = absent_before here.before here.node g.rest (subst (Once number) nodes_are (once_whole a g.whole))

  absent_too : Absent number n here.before
  absent_too = subst (λ m. Absent number m here.before) here.id absent

  node_there : found n a.nodes ≡ Some here.node
  node_there = ap (found n) nodes_are ∙ found_behind n here.before here.node g.rest absent_too own

  pub there : (x : FlatNode) × (found n a.nodes ≡ Some x)
  there = (here.node, node_there)

  previous : node_before n a ≡ last_or None (map number here.before)
  previous = ap (λ us. before_in None n (map number us)) nodes_are ∙ before_is None n here.before here.node g.rest absent_too own

  front_size : nodes_size g.front ≡ nodes_size here.before + node_size here.node
  front_size = ap nodes_size here.is ∙ nodes_size-both here.before (here.node ∷ []) ∙ omega arith

  left_here : nodes_left (Some n) a ≡ suc (length here.before)
  left_here = ap (λ us. suc (length (until number n us))) nodes_are ∙ ap (λ us. suc (length us)) (until_behind n here.before here.node g.rest absent_too own)

  -- what a node costs is charged
  pub spent_here : (spent : ℕ) → ((x : FlatNode) → found n a.nodes ≡ Some x → spent ≤ looks + 3 * node_size x) → spent ≤ s.looks + 1 + 3 * nodes_size s.nodes.nodes
  spent_here spent f = omega (arith, f here.node node_there, g.cost, front_size)

  module _ (listed : DneIsListed) (keeps : (m : ℕ) (l : PlainLambda) → IsWellFormed l → IsWellFormed (dne m l)) (b : Flat) (now : List Step)
      (step : record { nodes = b; steps = now } ≡ stepped_in dne_change n (record { nodes = a; steps = log }) (dne_in n a)) where
    kept : HasFront here.before b.nodes
    kept = by (dne_in n a) refl (ap (λ (t : Listed). t.nodes) step)
      where
        by : (o : Option Flat) → dne_in n a ≡ o → b ≡ (stepped_in dne_change n (record { nodes = a; steps = log }) o).nodes → HasFront here.before b.nodes
        by None e d = record { front = here.before; rest = here.node ∷ g.rest; is = ap (λ (c : Flat). c.nodes) d ∙ nodes_are; same = record { numbers = refl; size = refl } }
        by (Some c) e d = dne_front a b here.before g.rest here.node nodes_are absent self n node_there (e ∙ ap Some (sym d))

    whole_too : IsWhole b
    whole_too = by (dne_in n a) refl (ap (λ (t : Listed). t.nodes) step)
      where
        by : (o : Option Flat) → dne_in n a ≡ o → b ≡ (stepped_in dne_change n (record { nodes = a; steps = log }) o).nodes → IsWhole b
        by None e d = subst IsWhole (sym d) g.whole
        by (Some c) e d = subst IsWhole (sym d) (whole_after dne_change dne_in listed keeps n a c g.whole e)

    swept_here : SweptTo dne_change dne_in (reverse (ids s.nodes)) (at_start s) (record { nodes = a; steps = log }) (n ∷ reverse (map number here.before))
    swept_here =
        subst (SweptTo dne_change dne_in (reverse (ids s.nodes)) (at_start s) (record { nodes = a; steps = log }))
        (ap (λ us. reverse (map number us)) here.is ∙ turned here.before here.node ∙ ap (λ m. m ∷ reverse (map number here.before)) here.id) g.swept

    pub next_goes : (spent : ℕ) → ((x : FlatNode) → found n a.nodes ≡ Some x → spent ≤ looks + 3 * node_size x) → IsGoing s b now (node_before n a) spent
    next_goes spent f = record {
      front = kept.front;
      rest = kept.rest;
      parts = kept.is;
      next_is = previous ∙ ap (last_or None) (sym kept.same.numbers);
      swept = goes_on dne_change dne_in (reverse (ids s.nodes)) (at_start s) (record { nodes = a; steps = log }) (record { nodes = b; steps = now }) n (reverse (map number kept.front))
          (subst (λ ms. SweptTo dne_change dne_in (reverse (ids s.nodes)) (at_start s) (record { nodes = a; steps = log }) (n ∷ reverse ms)) (sym kept.same.numbers) swept_here) step;
      whole = whole_too;
      cost = omega (arith, f here.node node_there, g.cost, front_size, kept.same.size);
    }

    counted : length kept.front ≡ length here.before
    counted = sym (length-map kept.front number) ∙ ap length kept.same.numbers ∙ length-map here.before number

    -- so many are left then
    left_then : nodes_left (node_before n a) b ≡ length kept.front
    left_then = by (last_or None (map number kept.front)) refl
      where
        by : (o : Option ℕ) → last_or None (map number kept.front) ≡ o → nodes_left (node_before n a) b ≡ length kept.front
        by None e = ap (λ o. nodes_left o b) (previous ∙ ap (last_or None) (sym kept.same.numbers) ∙ e) ∙ ap length (sym (no_last kept.front e))
        by (Some m) e =
            let l = last_of m kept.front e in
            let nodes = kept.is ∙ ap (λ us. us ++ kept.rest) l.is ∙ appended l.before l.node kept.rest in
            let off : Absent number m l.before = subst (λ k. Absent number k l.before) l.id (absent_before l.before l.node kept.rest (subst (Once number) nodes (once_whole b whole_too))) in
            ap (λ o. nodes_left o b) (previous ∙ ap (last_or None) (sym kept.same.numbers) ∙ e) ∙ ap (λ us. suc (length (until number m us))) nodes
            ∙ ap (λ us. suc (length us)) (until_behind m l.before l.node kept.rest off (ap (λ k. l.node.id == k) (sym l.id) ∙ same_number_true l.node.id)) ∙ sym (ap length l.is ∙ longer l.before l.node)
          where
            longer : (xs : List FlatNode) (y : FlatNode) → length (xs ++ y ∷ []) ≡ suc (length xs)
            longer [] y = refl
            longer (x ∷ xs) y = ap suc (longer xs y)

    pub fewer_left : nodes_left (node_before n a) b < nodes_left (Some n) a
    fewer_left = omega (arith, left_then, counted, left_here)

-- ---- the end

pub ended : (sweeps : DneSweepsAreListed) (s : Start) (a : Flat) (log : List Step) (looks : ℕ) → IsGoing s a log None looks →
    (l : PlainLambda) → StandsFor s.nodes l → IsWellFormed l → HasSwept dne_change (reverse (region_ids l.body)) l s.steps a log
ended sweeps s a log looks g l stands well =
    let none : reverse (map number g.front) ≡ [] = ap (λ us. reverse (map number us)) (no_last g.front (sym g.next_is)) in
    has_swept dne_change dne_in sweeps (reverse (region_ids l.body)) s.nodes a s.steps log l stands well
    (ends dne_change dne_in (reverse (ids s.nodes)) (at_start s) (record { nodes = a; steps = log }) (subst (SweptTo dne_change dne_in (reverse (ids s.nodes)) (at_start s) (record { nodes = a; steps = log })) none g.swept)
    ∙ ap (λ ns. swept_in dne_change dne_in (reverse ns) (at_start s)) (ap ids stands ∙ numbers_are l))

pub stopped_at : (sweeps : DneSweepsAreListed) (s : Start) (a b : Flat) (log now : List Step) (next : Option ℕ) (looks : ℕ) → IsGoing s a log next looks → b ≡ a → now ≡ log →
    (l : PlainLambda) → StandsFor s.nodes l → IsWellFormed l → (count : ℕ) × HasSwept dne_change (take count (reverse (region_ids l.body))) l s.steps b now
stopped_at sweeps s a b log now next looks g e f l stands well = (
  g.swept.count,
  has_swept dne_change dne_in sweeps (take g.swept.count (reverse (region_ids l.body))) s.nodes b s.steps now l stands well
      ((λ i. record { nodes = e i; steps = f i }) ∙ g.swept.swept ∙ ap (λ ns. swept_in dne_change dne_in (take g.swept.count (reverse ns)) (at_start s)) (ap ids stands ∙ numbers_are l)),
)

-- what was spent
pub all_within : (s : Start) (spent : ℕ) → spent ≤ s.looks + 1 + 3 * nodes_size s.nodes.nodes → (l : PlainLambda) → StandsFor s.nodes l → spent ≤ s.looks + 3 * lambda_size l
all_within s spent h l stands = omega (arith, h, ap flat_size stands, size_within l)

pub spent_within : (s : Start) (a : Flat) (log : List Step) (next : Option ℕ) (looks : ℕ) → IsGoing s a log next looks → (l : PlainLambda) → StandsFor s.nodes l → looks ≤ s.looks + 3 * lambda_size l
spent_within s a log next looks g l stands = all_within s looks (omega (arith, g.cost)) l stands
