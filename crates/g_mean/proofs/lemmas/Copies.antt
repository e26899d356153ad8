-- Copies of nodes mean the same.
use Rattle.std.proofs.Common.{◌≡◌, ◌≢◌, ℕ, ◌==◌, ◌⊎◌, Bool, true, false, List, [], ◌∷◌, ◌++◌, map, length, refl, sym, ap, ap₂, subst, subst₂, ◌∙◌, inl, inr, arith, eq-eqb}
use Rattle.std.proofs.lemmas.Bool.{cases_Bool, eqb-false}
use Rattle.std.proofs.lemmas.Bool.Decides.{nat_tests}
use Rattle.std.proofs.Math.Path.{fun_ext}
use Rattle.val_core.specs.Events.{Event}
use Rattle.val_core.specs.Answers.{Answer, Returned, Cut, Exited, Undefined, before, then_on}
use Rattle.val_core.proofs.lemmas.Answers.{added, before-is}
use Rattle.g_graph.specs.declared.op.Origin.{Origin}
use Rattle.g_graph.specs.declared.op.Origin.TheVariants.{Arg, Out}
use Rattle.g_graph.specs.Plain.{RegionTree, region, NodeTree, node, NodeTrees, no_nodes, node_then, RegionTrees, no_regions, region_then}
use Rattle.g_graph.specs.Ids.{region_ids, nodes_ids, regions_ids}
use Rattle.g_mean.specs.Data.{Datum, at_port}
use Rattle.g_mean.specs.Meaning.{Context, act, Outputs, no_outputs, extended, read, region_meaning, nodes_run, meanings}
use Rattle.g_graph.specs.Replace.{nodes_redirected}
use Rattle.g_mean.specs.Copies.{renumbered, region_copied, node_moved, nodes_moved, regions_copied, IsAmong, IsOneToOne, IsRead, AreRead, known_after, is_argument, IsClosed, NodesRead, AllClosed, CanMove, Same, ReadSame, CopiedRegionsMeanTheSame, CopiedNodesMeanTheSame}

-- ---- the same answers

same-added : {A B : Type 0} (R : A → B → Type 0) (o : List Event) (a : Answer A) (b : Answer B) → Same R a b → Same R (added o a) (added o b)
same-added R o (Returned x p) (Returned y q) h = (h.0, ap (λ z. o ++ z) h.1)
same-added R o (Cut p) (Cut q) h = ap (λ z. o ++ z) h
same-added R o (Exited p s) (Exited q t) h = (ap (λ z. o ++ z) h.0, h.1)
same-added R o (Undefined p) (Undefined q) h = ap (λ z. o ++ z) h
same-added R o _ _ h = absurd h

pub same-then : {A B C D : Type 0} (R : A → B → Type 0) (S : C → D → Type 0) (a : Answer A) (b : Answer B) (next : A → Answer C) (next' : B → Answer D) → Same R a b →
    ((x : A) (y : B) → R x y → Same S (next x) (next' y)) → Same S (then_on a next) (then_on b next')
same-then R S (Returned x o) (Returned y p) next next' h go =
    subst (λ z. Same S (before o (next x)) (before z (next' y))) h.1
    (rw (before-is o (next x), before-is o (next' y)) (same-added S o (next x) (next' y) (go x y h.0)))
same-then R S (Cut o) (Cut p) next next' h go = h
same-then R S (Exited o s) (Exited p t) next next' h go = h
same-then R S (Undefined o) (Undefined p) next next' h go = h
same-then R S _ _ next next' h go = absurd h

abbrev pub Equals : {A : Type 0} → A → A → Type 0
Equals x y = x ≡ y

pub same-equal : {A : Type 0} (a b : Answer A) → Same Equals a b → a ≡ b
same-equal (Returned x o) (Returned y p) h = ap₂ Returned h.0 h.1
same-equal (Cut o) (Cut p) h = ap Cut h
same-equal (Exited o s) (Exited p t) h = ap₂ Exited h.0 h.1
same-equal (Undefined o) (Undefined p) h = ap Undefined h
same-equal _ _ h = absurd h

pub equal-same : {A : Type 0} (a b : Answer A) → a ≡ b → Same Equals a b
equal-same a b e = subst (λ z. Same Equals a z) e (itself a)
  where
    itself : {A : Type 0} (a : Answer A) → Same Equals a a
    itself (Returned x o) = (refl, refl)
    itself (Cut o) = refl
    itself (Exited o s) = (refl, refl)
    itself (Undefined o) = refl

-- ---- numbers

pub among-left : (n : ℕ) (ms ns : List ℕ) → IsAmong n ms → IsAmong n (ms ++ ns)
among-left n (m ∷ ms) ns (inl e) = inl e
among-left n (m ∷ ms) ns (inr h) = inr (among-left n ms ns h)
among-left n [] ns h = absurd h

pub among-right : (n : ℕ) (ms ns : List ℕ) → IsAmong n ns → IsAmong n (ms ++ ns)
among-right n [] ns h = h
among-right n (m ∷ ms) ns h = inr (among-right n ms ns h)

pub among-split : (n : ℕ) (ms ns : List ℕ) → IsAmong n (ms ++ ns) → IsAmong n ms ⊎ IsAmong n ns
among-split n [] ns h = inr h
among-split n (m ∷ ms) ns (inl e) = inl (inl e)
among-split n (m ∷ ms) ns (inr h) = by (among-split n ms ns h)
  where
    by : IsAmong n ms ⊎ IsAmong n ns → IsAmong n (m ∷ ms) ⊎ IsAmong n ns
    by (inl k) = inl (inr k)
    by (inr k) = inr k

pub fewer : (to : ℕ → ℕ) (ms ns : List ℕ) → ((n : ℕ) → IsAmong n ms → IsAmong n ns) → IsOneToOne to ns → IsOneToOne to ms
fewer to ms ns h one m n a b e = one m n (h m a) (h n b) e

pub same-change : {A B : Type 0} (R S : A → B → Type 0) (a : Answer A) (b : Answer B) → ((x : A) (y : B) → R x y → S x y) → Same R a b → Same S a b
same-change R S (Returned x o) (Returned y p) more h = (more x y h.0, h.1)
same-change R S (Cut o) (Cut p) more h = h
same-change R S (Exited o s) (Exited p t) more h = h
same-change R S (Undefined o) (Undefined p) more h = h
same-change R S _ _ more h = absurd h

test-same : (m n : ℕ) → m ≡ n → (m == n) ≡ true
test-same m n e = eq-eqb m n e

pub test-other : (m n : ℕ) → m ≢ n → (m == n) ≡ false
test-other m n ne = grind (arith, nat_tests)

pub extended-same : (o : Outputs) (id : ℕ) (us : List Datum) (n p : ℕ) → id ≡ n → extended o id us n p ≡ at_port us p
extended-same o id us n p e = rw (test-same id n e)

pub extended-other : (o : Outputs) (id : ℕ) (us : List Datum) (n p : ℕ) → id ≢ n → extended o id us n p ≡ o n p
extended-other o id us n p ne = rw (test-other id n ne)

-- ---- one more node

pub among-more : (all : List ℕ) (id : ℕ) (known : List ℕ) → IsAmong id all → ((n : ℕ) → IsAmong n known → IsAmong n all) → (n : ℕ) → IsAmong n (id ∷ known) → IsAmong n all
among-more all id known first within n (inl e) = subst (λ z. IsAmong z all) (sym e) first
among-more all id known first within n (inr h) = within n h

older-among : (id n : ℕ) (known : List ℕ) → id ≢ n → IsAmong n (id ∷ known) → IsAmong n known
older-among id n known ne (inl e) = absurd (ne (sym e))
older-among id n known ne (inr k) = k

-- An output that another node has run for: what `N` says of the two sides stays.
module _ (N : Datum → Datum → Type 0) (S : Origin → Bool) (move : Origin → Origin) (to : ℕ → ℕ) (all : List ℕ) (can : CanMove S move to all) (xs ys : List Datum) where
  abbrev ReadAs : List ℕ → Outputs → Outputs → Type 0
  ReadAs known o q = (a : Origin) → IsRead S known a → N (read xs o a) (read ys q (move a))

  less-side : (o : Outputs) (id : ℕ) (us : List Datum) → IsAmong id all → (b : Origin) → S b ≡ true → (b' : Origin) → b ≡ b' → read xs (extended o id us) b ≡ read xs o b
  less-side o id us first b s (Arg k) e = ap (read xs (extended o id us)) e ∙ sym (ap (read xs o) e)
  less-side o id us first b s (Out n p) e =
      ap (read xs (extended o id us)) e ∙ extended-other o id us n p (λ t. can.apart b n p s e (subst (λ z. IsAmong z all) t first)) ∙ sym (ap (read xs o) e)

  far-side : (q : Outputs) (id : ℕ) (vs : List Datum) → IsAmong id all → (b : Origin) → S b ≡ true → (b' : Origin) → move b ≡ b' → read ys (extended q (to id) vs) (move b) ≡ read ys q (move b)
  far-side q id vs first b s (Arg k) e = ap (read ys (extended q (to id) vs)) e ∙ sym (ap (read ys q) e)
  far-side q id vs first b s (Out n p) e =
      ap (read ys (extended q (to id) vs)) e ∙ extended-other q (to id) vs n p (λ t. can.fresh b n p id s e first (sym t)) ∙ sym (ap (read ys q) e)

  pub read-more : (known : List ℕ) → ((n : ℕ) → IsAmong n known → IsAmong n all) → (id : ℕ) → IsAmong id all → (o q : Outputs) → ReadAs known o q → (us vs : List Datum) →
      ((p : ℕ) → N (at_port us p) (at_port vs p)) → ReadAs (id ∷ known) (extended o id us) (extended q (to id) vs)
  read-more known within id first o q near us vs ports b (inl s) =
      subst₂ (λ x y. N x y) (sym (less-side o id us first b s b refl)) (sym (far-side q id vs first b s (move b) refl)) (near b (inl s))
  read-more known within id first o q near us vs ports (Arg k) (inr h) = absurd h
  read-more known within id first o q near us vs ports (Out n p) (inr h) =
      subst (λ z. N (extended o id us n p) (read ys (extended q (to id) vs) z)) (sym (can.outputs n p (among-more all id known first within n h))) (by (cases_Bool (id == n)))
    where
      older : id ≢ n → N (extended o id us n p) (extended q (to id) vs (to n) p)
      older ne =
          let here = among-more all id known first within n h in
          subst₂ (λ x y. N x y) (sym (extended-other o id us n p ne)) (sym (extended-other q (to id) vs (to n) p (λ e. ne (can.one id n first here e))))
          (subst (λ z. N (o n p) (read ys q z)) (can.outputs n p here) (near (Out n p) (inr (older-among id n known ne h))))

      newer : id ≡ n → N (extended o id us n p) (extended q (to id) vs (to n) p)
      newer e = subst₂ (λ x y. N x y) (sym (extended-same o id us n p e)) (sym (extended-same q (to id) vs (to n) p (ap to e))) (ports p)

      by : ((id == n) ≡ true) ⊎ ((id == n) ≡ false) → N (extended o id us n p) (extended q (to id) vs (to n) p)
      by (inl t) = newer (grind (arith, nat_tests))
      by (inr t) = older (eqb-false id n t)

-- ---- nodes and regions

abbrev Carries : Datum → Datum → Type 0
Carries x y = y ≡ x

pub reads-same : (S : Origin → Bool) (known : List ℕ) (move : Origin → Origin) (xs ys : List Datum) (o q : Outputs) → ReadSame S known move xs ys o q → (origins : List Origin) →
    AreRead S known origins → map (read ys q) (map move origins) ≡ map (read xs o) origins
reads-same S known move xs ys o q same [] h = refl
reads-same S known move xs ys o q same (a ∷ origins) h =
    ap₂ (λ z zs. z ∷ zs) (same a h.0) (reads-same S known move xs ys o q same origins h.1)

argument-kept : (count : ℕ) (to : ℕ → ℕ) (xs : List Datum) (o q : Outputs) (a : Origin) → IsRead (is_argument count) [] a → read xs q (renumbered to a) ≡ read xs o a
argument-kept count to xs o q (Arg k) h = refl
argument-kept count to xs o q (Out n p) (inl e) = absurd cc
argument-kept count to xs o q (Out n p) (inr h) = absurd h

renumbered-moves : (count : ℕ) (to : ℕ → ℕ) (ids : List ℕ) → IsOneToOne to ids → CanMove (is_argument count) (renumbered to) to ids
renumbered-moves count to ids one = record { one = one; outputs = λ n p h. refl; apart = apart; fresh = fresh }
  where
    apart : (a : Origin) (n p : ℕ) → is_argument count a ≡ true → a ≡ Out n p → IsAmong n ids → ⊥
    apart (Arg k) n p s e h = absurd cc
    apart (Out m q) n p s e h = absurd cc

    fresh : (a : Origin) (n p m : ℕ) → is_argument count a ≡ true → renumbered to a ≡ Out n p → IsAmong m ids → n ≢ to m
    fresh (Arg k) n p m s e h d = absurd cc
    fresh (Out i q) n p m s e h d = absurd cc

mutual
  region-same : (to : ℕ → ℕ) (r : RegionTree) → IsClosed r → IsOneToOne to (region_ids r) → (c : Context) (xs : List Datum) → region_meaning c r xs ≡ region_meaning c (region_copied to r) xs
  region-same to (region args nodes results) closed one c xs =
      same-equal (region_meaning c (region args nodes results) xs) (region_meaning c (region_copied to (region args nodes results)) xs)
      (same-then (ReadSame (is_argument (length args)) (known_after [] nodes) (renumbered to) xs xs) Equals (nodes_run c nodes xs no_outputs)
      (nodes_run c (nodes_moved (renumbered to) to nodes) xs no_outputs)
      (λ o. Returned (map (read xs o) results) []) (λ q. Returned (map (read xs q) (map (renumbered to) results)) [])
      (nodes-same (is_argument (length args)) (renumbered to) to (nodes_ids nodes) (renumbered-moves (length args) to (nodes_ids nodes) one) nodes [] (λ n h. absurd h)
      (λ n h. h) closed.0 c xs xs no_outputs no_outputs (argument-kept (length args) to xs no_outputs no_outputs))
      (λ o q h. (sym (reads-same (is_argument (length args)) (known_after [] nodes) (renumbered to) xs xs o q h results closed.1), refl)))

  nodes-same : (S : Origin → Bool) (move : Origin → Origin) (to : ℕ → ℕ) (all : List ℕ) → CanMove S move to all → (ns : NodeTrees) (known : List ℕ) → ((n : ℕ) → IsAmong n known → IsAmong n all) →
      ((n : ℕ) → IsAmong n (nodes_ids ns) → IsAmong n all) → NodesRead S known ns → (c : Context) (xs ys : List Datum) (o q : Outputs) → ReadSame S known move xs ys o q →
      Same (ReadSame S (known_after known ns) move xs ys) (nodes_run c ns xs o) (nodes_run c (nodes_moved move to ns) ys q)
  nodes-same S move to all can no_nodes known within rest reads c xs ys o q same = (same, refl)
  nodes-same S move to all can (node_then (node id op inputs rs) ns) known within rest reads c xs ys o q same =
      let here : IsAmong id ((id ∷ regions_ids rs) ++ nodes_ids ns) = inl refl in
      let first = rest id here in
      let one = fewer to (regions_ids rs) all (λ n h. rest n (among-left n (id ∷ regions_ids rs) (nodes_ids ns) (inr h))) can.one in
      let run = ap₂ (act c op) (regions-same to rs reads.0.1 one c) (sym (reads-same S known move xs ys o q same inputs reads.0.0)) in
      same-then Equals (ReadSame S (known_after (id ∷ known) ns) move xs ys)
      (act c op (meanings c rs) (map (read xs o) inputs)) (act c op (meanings c (regions_copied to rs)) (map (read ys q) (map move inputs)))
      (λ us. nodes_run c ns xs (extended o id us)) (λ us. nodes_run c (nodes_moved move to ns) ys (extended q (to id) us))
      (equal-same (act c op (meanings c rs) (map (read xs o) inputs)) (act c op (meanings c (regions_copied to rs)) (map (read ys q) (map move inputs))) run)
      (λ us vs e. nodes-same S move to all can ns (id ∷ known) (among-more all id known first within) (λ n h. rest n (among-right n (id ∷ regions_ids rs) (nodes_ids ns) h)) reads.1 c xs ys
      (extended o id us) (extended q (to id) vs)
      (read-more Carries S move to all can xs ys known within id first o q same us vs (λ p. ap (λ ws. at_port ws p) (sym e))))

  pub regions-same : (to : ℕ → ℕ) (rs : RegionTrees) → AllClosed rs → IsOneToOne to (regions_ids rs) → (c : Context) → meanings c rs ≡ meanings c (regions_copied to rs)
  regions-same to no_regions closed one c = refl
  regions-same to (region_then r rs) closed one c =
      let one-first = fewer to (region_ids r) (region_ids r ++ regions_ids rs) (λ n h. among-left n (region_ids r) (regions_ids rs) h) one in
      let one-rest = fewer to (regions_ids rs) (region_ids r ++ regions_ids rs) (λ n h. among-right n (region_ids r) (regions_ids rs) h) one in
      ap₂ (λ z zs. z ∷ zs) (fun_ext (λ xs. region-same to r closed.0 one-first c xs)) (regions-same to rs closed.1 one-rest c)

pub copied_regions_mean_the_same : CopiedRegionsMeanTheSame
copied_regions_mean_the_same to r closed one c = fun_ext (λ xs. sym (region-same to r closed one c xs))

pub copied_nodes_mean_the_same : CopiedNodesMeanTheSame
copied_nodes_mean_the_same S move to ns can reads c xs ys o q same =
    nodes-same S move to (nodes_ids ns) can ns [] (λ n h. absurd h) (λ n h. h) reads c xs ys o q same

-- ---- the same numbers

origin-itself : (a : Origin) → renumbered (λ n. n) a ≡ a
origin-itself (Arg k) = refl
origin-itself (Out n p) = refl

origins-itself : (origins : List Origin) → map (renumbered (λ n. n)) origins ≡ origins
origins-itself [] = refl
origins-itself (a ∷ origins) = ap₂ (λ b bs. b ∷ bs) (origin-itself a) (origins-itself origins)

mutual
  pub region-itself : (r : RegionTree) → region_copied (λ n. n) r ≡ r
  region-itself (region args nodes results) = ap₂ (region args) (nodes-itself nodes) (origins-itself results)

  node-itself : (x : NodeTree) → node_moved (renumbered (λ n. n)) (λ n. n) x ≡ x
  node-itself (node id op inputs rs) = ap₂ (node id op) (origins-itself inputs) (regions-itself rs)

  nodes-itself : (ns : NodeTrees) → nodes_moved (renumbered (λ n. n)) (λ n. n) ns ≡ ns
  nodes-itself no_nodes = refl
  nodes-itself (node_then x ns) = ap₂ node_then (node-itself x) (nodes-itself ns)

  regions-itself : (rs : RegionTrees) → regions_copied (λ n. n) rs ≡ rs
  regions-itself no_regions = refl
  regions-itself (region_then r rs) = ap₂ region_then (region-itself r) (regions-itself rs)

-- nodes with other inputs alone
pub redirected-moved : (f : Origin → Origin) (ns : NodeTrees) → nodes_moved f (λ n. n) ns ≡ nodes_redirected f ns
redirected-moved f no_nodes = refl
redirected-moved f (node_then (node id op inputs rs) ns) =
    ap₂ node_then (ap (node id op (map f inputs)) (regions-itself rs)) (redirected-moved f ns)
