-- What is found after some nodes, by number and by kind of state.
use Rattle.std.proofs.Common.{◌≡◌, ◌⊎◌, inl, inr, ℕ, ◌+◌, suc, Bool, true, false, List, [], ◌∷◌, ◌++◌, refl, sym, ap, ◌∙◌, arith, append-nil, append_assoc}
use Rattle.std.specs.Prelude.{◌==◌, ◌&&◌, ◌||◌, slice_get, if◌then◌else◌}
use Rattle.std.proofs.lemmas.Bool.Decides.{nat_tests}
use Rattle.std.specs.declared.option.Option.{Option}
use Rattle.std.specs.declared.option.Option.TheVariants.{Some, None}
use Rattle.std.proofs.Math.Bool.{and_assoc, or_assoc}
use Rattle.std.proofs.lemmas.Bool.{cases_Bool, or_right}
use Rattle.g_graph.specs.declared.op.Kind.{Kind}
use Rattle.g_graph.specs.declared.op.Kind.TheVariants.{Value, Memory, Io}
use Rattle.g_graph.specs.declared.op.Origin.{Origin}
use Rattle.g_graph.specs.declared.op.Origin.TheVariants.{Arg, Out}
use Rattle.g_graph.specs.Plain.{NodeTree, NodeTrees, no_nodes, node_then, nodes_of, id_of}
use Rattle.g_graph.specs.Signatures.{joined, output_kinds, kind_after}
use Rattle.g_graph.specs.Scope.{same_kind, is_of, same_origin, known, last_index, origin_at, state_after, last_state, each_node}
use Rattle.g_graph.specs.Change.{has_node}
use Rattle.g_graph.specs.WellFormed.{some_of, gives, is_origin, is_last_of, is_last}
use Rattle.g_graph.specs.Splice.{joined_nodes}
use Rattle.g_graph.proofs.lemmas.Moved.{same_origin_true}

pub same_number_true : (n : ℕ) → (n == n) ≡ true
same_number_true n = grind (arith, nat_tests)

pub same_origin_self : (o : Origin) → same_origin o o ≡ true
same_origin_self (Arg k) = same_number_true k
same_origin_self (Out n p) = λ i. same_number_true n i && same_number_true p i

pub same_kind_true : (j k : Kind) → same_kind j k ≡ true → j ≡ k
same_kind_true Value Value e = refl
same_kind_true Value Memory e = absurd (cc)
same_kind_true Value Io e = absurd (cc)
same_kind_true Memory Value e = absurd (cc)
same_kind_true Memory Memory e = refl
same_kind_true Memory Io e = absurd (cc)
same_kind_true Io Value e = absurd (cc)
same_kind_true Io Memory e = absurd (cc)
same_kind_true Io Io e = refl

pub is_of_true : (k : Kind) (x : Option Kind) → is_of k x ≡ true → x ≡ Some k
is_of_true k None e = absurd (cc)
is_of_true k (Some j) e = ap Some (sym (same_kind_true k j e))

-- ---- numbers

pub has_node-joined : (n : ℕ) (xs ys : NodeTrees) → has_node n (joined_nodes xs ys) ≡ (has_node n xs || has_node n ys)
has_node-joined n no_nodes ys = refl
has_node-joined n (node_then x xs) ys = ap (λ b. (id_of x == n) || b) (has_node-joined n xs ys) ∙ sym (or_assoc (id_of x == n) (has_node n xs) (has_node n ys))

pub kind_absent : (xs : NodeTrees) (n p : ℕ) (found : Option Kind) → has_node n xs ≡ false → kind_after xs n p found ≡ found
kind_absent no_nodes n p found e = refl
kind_absent (node_then x xs) n p found e = by_test (id_of x == n) e (λ c q. kind_absent xs n p c q)
  where
    by_test : (t : Bool) → (t || has_node n xs) ≡ false → ((c : Option Kind) → has_node n xs ≡ false → kind_after xs n p c ≡ c) →
        kind_after xs n p (if t then joined (slice_get (output_kinds x) p) else found) ≡ found
    by_test true q h = absurd (cc)
    by_test false q h = h found q

pub kind_present : (xs : NodeTrees) (n p : ℕ) (b c : Option Kind) → has_node n xs ≡ true → kind_after xs n p b ≡ kind_after xs n p c
kind_present no_nodes n p b c e = absurd (cc)
kind_present (node_then x xs) n p b c e = by_test (id_of x == n) e (λ q. kind_present xs n p b c q)
  where
    by_test : (t : Bool) → (t || has_node n xs) ≡ true → (has_node n xs ≡ true → kind_after xs n p b ≡ kind_after xs n p c) →
        kind_after xs n p (if t then joined (slice_get (output_kinds x) p) else b) ≡ kind_after xs n p (if t then joined (slice_get (output_kinds x) p) else c)
    by_test true q h = refl
    by_test false q h = h q

pub kind_known : (xs : NodeTrees) (n p : ℕ) (k : Kind) → kind_after xs n p None ≡ Some k → has_node n xs ≡ true
kind_known xs n p k e = by_either (cases_Bool (has_node n xs))
  where
    by_either : (has_node n xs ≡ true) ⊎ (has_node n xs ≡ false) → has_node n xs ≡ true
    by_either (inl h) = h
    by_either (inr h) =
        let none : None ≡ Some k = sym (kind_absent xs n p None h) ∙ e in
        absurd (cc)

-- ---- places of kinds

index_kept : (k : Kind) (i : ℕ) (xs : List (Option Kind)) (found : Option ℕ) → some_of (is_of k) xs ≡ false → last_index k i xs found ≡ found
index_kept k i [] found e = refl
index_kept k i (x ∷ xs) found e = by_test (is_of k x) e (λ c q. index_kept k (suc i) xs c q)
  where
    by_test : (t : Bool) → (t || some_of (is_of k) xs) ≡ false → ((c : Option ℕ) → some_of (is_of k) xs ≡ false → last_index k (suc i) xs c ≡ c) →
        last_index k (suc i) xs (if t then Some i else found) ≡ found
    by_test true q h = absurd (cc)
    by_test false q h = h found q

pub record FoundAt (k : Kind) (i : ℕ) (xs : List (Option Kind)) (found : Option ℕ) : Type 0 where
  pub index : ℕ
  pub reached : last_index k i xs found ≡ Some (i + index)
  pub kind : slice_get xs index ≡ Some (Some k)

index_found : (k : Kind) (i : ℕ) (xs : List (Option Kind)) (found : Option ℕ) → some_of (is_of k) xs ≡ true → FoundAt k i xs found
index_found k i [] found e = absurd (cc)
index_found k i (x ∷ xs) found e = by_either (cases_Bool (some_of (is_of k) xs)) (λ c q. index_found k (suc i) xs c q)
  where
    own : (t : Bool) → (t || some_of (is_of k) xs) ≡ true → some_of (is_of k) xs ≡ false → t ≡ true
    own true a b = refl
    own false a b = cc

    by_either : (some_of (is_of k) xs ≡ true) ⊎ (some_of (is_of k) xs ≡ false) → ((c : Option ℕ) → some_of (is_of k) xs ≡ true → FoundAt k (suc i) xs c) → FoundAt k i (x ∷ xs) found
    by_either (inl h) g =
        let r = g (if is_of k x then Some i else found) h in
        record { index = suc r.index; reached = r.reached ∙ ap Some (omega arith); kind = r.kind }
    by_either (inr h) g =
        let t = own (is_of k x) e h in
        record {
          index = 0;
          reached = index_kept k (suc i) xs (if is_of k x then Some i else found) h ∙ ap (λ b. if b then Some i else found) t ∙ ap Some (omega arith);
          kind = ap Some (is_of_true k x t);
        }

pub index_kind : (k : Kind) (xs : List (Option Kind)) (p : ℕ) → last_index k 0 xs None ≡ Some p → (slice_get xs p ≡ Some (Some k)) × (some_of (is_of k) xs ≡ true)
index_kind k xs p e = by_either (cases_Bool (some_of (is_of k) xs))
  where
    by_either : (some_of (is_of k) xs ≡ true) ⊎ (some_of (is_of k) xs ≡ false) → (slice_get xs p ≡ Some (Some k)) × (some_of (is_of k) xs ≡ true)
    by_either (inl h) =
        let r = index_found k 0 xs None h in
        let inside : Some (0 + r.index) ≡ Some p = sym r.reached ∙ e in
        let origin_replaced : 0 + r.index ≡ p = cc in
        let same : r.index ≡ p = omega arith in
        (ap (slice_get xs) (sym same) ∙ r.kind, h)
    by_either (inr h) =
        let none : None ≡ Some p = sym (index_kept k 0 xs None h) ∙ e in
        absurd (cc)

pub index_none : (k : Kind) (xs : List (Option Kind)) → last_index k 0 xs None ≡ None → some_of (is_of k) xs ≡ false
index_none k xs e = by_either (cases_Bool (some_of (is_of k) xs))
  where
    by_either : (some_of (is_of k) xs ≡ true) ⊎ (some_of (is_of k) xs ≡ false) → some_of (is_of k) xs ≡ false
    by_either (inl h) =
        let none : None ≡ Some (0 + (index_found k 0 xs None h).index) = sym e ∙ (index_found k 0 xs None h).reached in
        absurd (cc)
    by_either (inr h) = h

-- ---- states

-- some node gives the state, the last of which is known
pub record GivesState (k : Kind) (xs : NodeTrees) : Type 0 where
  pub number : ℕ
  pub port : ℕ
  pub has : has_node number xs ≡ true
  pub from : (found : Option Origin) → state_after k xs found ≡ Some (Out number port)
  pub given : gives k xs ≡ true

-- no node gives the state
pub record KeepsState (k : Kind) (xs : NodeTrees) : Type 0 where
  pub from : (found : Option Origin) → state_after k xs found ≡ found
  pub given : gives k xs ≡ false

pub state_cases : (k : Kind) (xs : NodeTrees) → GivesState k xs ⊎ KeepsState k xs
state_cases k no_nodes = inr (record { from = λ found. refl; given = refl })
state_cases k (node_then x xs) = by_rest (state_cases k xs)
  where
    step : Option Origin → Option Origin
    step found = origin_at (λ p. Out (id_of x) p) (last_index k 0 (output_kinds x) None) found

    by_index : (l : Option ℕ) → last_index k 0 (output_kinds x) None ≡ l → KeepsState k xs → GivesState k (node_then x xs) ⊎ KeepsState k (node_then x xs)
    by_index (Some p) q r = inl (record {
      number = id_of x;
      port = p;
      has = ap (λ b. b || has_node (id_of x) xs) (same_number_true (id_of x));
      from = λ found. r.from (origin_at (λ p. Out (id_of x) p) (last_index k 0 (output_kinds x) None) found) ∙ ap (λ l. origin_at (λ p. Out (id_of x) p) l found) q;
      given = ap (λ b. b || gives k xs) (index_kind k (output_kinds x) p q).1;
    })
    by_index None q r = inr (record {
      from = λ found. r.from (origin_at (λ p. Out (id_of x) p) (last_index k 0 (output_kinds x) None) found) ∙ ap (λ l. origin_at (λ p. Out (id_of x) p) l found) q;
      given = ap (λ b. b || gives k xs) (index_none k (output_kinds x) q) ∙ r.given;
    })

    by_rest : GivesState k xs ⊎ KeepsState k xs → GivesState k (node_then x xs) ⊎ KeepsState k (node_then x xs)
    by_rest (inl g) = inl (record {
      number = g.number;
      port = g.port;
      has = or_right (id_of x == g.number) (has_node g.number xs) g.has;
      from = λ found. g.from (origin_at (λ p. Out (id_of x) p) (last_index k 0 (output_kinds x) None) found);
      given = or_right (some_of (is_of k) (output_kinds x)) (gives k xs) g.given;
    })
    by_rest (inr r) = by_index (last_index k 0 (output_kinds x) None) refl r

-- ---- what is last

pub is_origin_some : (s : Option Origin) (o : Origin) → is_origin s o ≡ true → s ≡ Some o
is_origin_some None o e = absurd (cc)
is_origin_some (Some p) o e = ap Some (same_origin_true p o e)

-- an origin that may be used is a value, or the last of its kind of state
pub last_gives : (k : Kind) (args : List Kind) (bs : NodeTrees) (o : Origin) → known args bs o ≡ Some k → is_last args bs o ≡ true → (k ≡ Value) ⊎ (last_state k args bs ≡ Some o)
last_gives Value args bs o n e = inl refl
last_gives Memory args bs o n e = inr (is_origin_some (last_state Memory args bs) o (sym (ap (λ x. is_last_of x args bs o) n) ∙ e))
last_gives Io args bs o n e = inr (is_origin_some (last_state Io args bs) o (sym (ap (λ x. is_last_of x args bs o) n) ∙ e))

pub gives_last : (k : Kind) (args : List Kind) (bs : NodeTrees) (o : Origin) → known args bs o ≡ Some k → (k ≡ Value) ⊎ (last_state k args bs ≡ Some o) → is_last args bs o ≡ true
gives_last Value args bs o n s = ap (λ x. is_last_of x args bs o) n
gives_last Memory args bs o n (inl v) = absurd (cc)
gives_last Memory args bs o n (inr s) = ap (λ x. is_last_of x args bs o) n ∙ ap (λ t. is_origin t o) s ∙ same_origin_self o
gives_last Io args bs o n (inl v) = absurd (cc)
gives_last Io args bs o n (inr s) = ap (λ x. is_last_of x args bs o) n ∙ ap (λ t. is_origin t o) s ∙ same_origin_self o

-- ---- tests along joined nodes

pub each_node-joined : (test : NodeTrees → NodeTree → Bool) (bs fs : List NodeTree) (rest : NodeTrees) →
    each_node test bs (joined_nodes (nodes_of fs) rest) ≡ (each_node test bs (nodes_of fs) && each_node test (bs ++ fs) rest)
each_node-joined test bs [] rest = ap (λ xs. each_node test xs rest) (sym (append-nil bs))
each_node-joined test bs (x ∷ fs) rest =
    ap (λ b. test (nodes_of bs) x && b) (each_node-joined test (bs ++ x ∷ []) fs rest ∙ ap (λ xs. each_node test (bs ++ x ∷ []) (nodes_of fs) && each_node test xs rest) (append_assoc bs (x ∷ []) fs))
    ∙ sym (and_assoc (test (nodes_of bs) x) (each_node test (bs ++ x ∷ []) (nodes_of fs)) (each_node test (bs ++ (x ∷ fs)) rest))
