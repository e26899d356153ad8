-- Which node uses another one among those that are written.
use Rattle.std.specs.Prelude.{option_and_then}
use Rattle.std.proofs.Common.{◌≡◌, ◌<◌, ℕ, suc, ◌+◌, ◌==◌, ◌&&◌, ◌||◌, not, Bool, true, false, cond, List, [], ◌∷◌, ◌++◌, length, Option, None, Some, option_map, refl, sym, ap, ap₂, subst, ◌∙◌, arith}
use Rattle.std.proofs.lemmas.Bool.{or_parts}
use Rattle.g_graph.specs.declared.op.Op.{Op}
use Rattle.g_graph.specs.declared.op.Origin.{Origin}
use Rattle.g_graph.specs.Plain.{region, NodeTree, node, NodeTrees, no_nodes, node_then, RegionTrees, id_of, has_none}
use Rattle.g_graph.specs.Signatures.{is_pure}
use Rattle.g_graph.specs.WellFormed.{some_of}
use Rattle.g_graph.proofs.lemmas.Unique.{same_number}
use Rattle.r_edit.specs.Uses.{nodes_read, is_output_of}
use Rattle.r_pull.specs.Rule.{node_uses, only_user, user_changed, where_fits, Pull}
use Rattle.r_pull.specs.Edit.{takes, where_takes, user_of, pull_into}
use Rattle.r_pull.proofs.Found.{pull_seen_of}
use Rattle.r_pull.specs.Walk.{pull_behind}
use Rattle.r_pull.specs.declared.users.User.{User}
use Rattle.r_pull.specs.declared.users.User.TheVariants.{Nobody, Entries, Others}
use Rattle.r_pull.specs.Behind.{nodes_behind, behind, can_leave}
use Rattle.r_pull.specs.Users.{both_use, used_by, node_user, users_from, user_among}
use Rattle.r_pull.proofs.Uses.{use_none, use_others, use_assoc, some_uses}
use Rattle.r_walk.specs.Walk.{Walking}

-- ---- nodes behind others

pub behind_both : (xs ys : List NodeTree) (ns : NodeTrees) → nodes_behind (xs ++ ys) ns ≡ nodes_behind ys (nodes_behind xs ns)
behind_both [] ys ns = refl
behind_both (x ∷ xs) ys ns = behind_both xs ys (node_then x ns)

read_is : (n : ℕ) (x : NodeTree) (ns : NodeTrees) → nodes_read (is_output_of n) (node_then x ns) ≡ (node_uses n x || nodes_read (is_output_of n) ns)
read_is n (node id op inputs rs) ns = refl

module _ (n : ℕ) where
  unread_behind : (ws : List NodeTree) (ns : NodeTrees) → some_uses n ws ≡ false → nodes_read (is_output_of n) ns ≡ false → nodes_read (is_output_of n) (nodes_behind ws ns) ≡ false
  unread_behind [] ns e d = d
  unread_behind (x ∷ xs) ns e d =
      let both = or_parts (node_uses n x) (some_uses n xs) e in
      unread_behind xs (node_then x ns) both.1 (read_is n x ns ∙ (λ i. both.0 i || d i))

  only_behind : (ws : List NodeTree) (ns : NodeTrees) → some_uses n ws ≡ false → only_user n (nodes_behind ws ns) ≡ only_user n ns
  only_behind [] ns e = refl
  only_behind (x ∷ xs) ns e =
      let both = or_parts (node_uses n x) (some_uses n xs) e in
      only_behind xs (node_then x ns) both.1 ∙ ap (λ t. cond t (cond (nodes_read (is_output_of n) ns) None (Some x)) (only_user n ns)) both.0

  changed_behind : (f : NodeTree → NodeTree) (ws : List NodeTree) (ns : NodeTrees) → some_uses n ws ≡ false → user_changed n f (nodes_behind ws ns) ≡ nodes_behind ws (user_changed n f ns)
  changed_behind f [] ns e = refl
  changed_behind f (x ∷ xs) ns e =
      let both = or_parts (node_uses n x) (some_uses n xs) e in
      changed_behind f xs (node_then x ns) both.1 ∙ ap (nodes_behind xs) (ap (λ t. cond t (node_then (f x) ns) (node_then x (user_changed n f ns))) both.0)

  -- ---- nobody

  none_of_both : (u v : User) → both_use u v ≡ Nobody → (u ≡ Nobody) × (v ≡ Nobody)
  none_of_both Nobody v e = (refl, e)
  none_of_both Others v e = absurd cc
  none_of_both (Entries i) Nobody e = absurd cc
  none_of_both (Entries i) Others e = absurd cc
  none_of_both (Entries i) (Entries j) e = by (i == j) e
    where
      by : (t : Bool) → cond t (Entries i) Others ≡ Nobody → (Entries i ≡ Nobody) × (Entries j ≡ Nobody)
      by true d = absurd cc
      by false d = absurd cc

  node_unused : (k : ℕ) (x : NodeTree) → node_user n k x ≡ Nobody → node_uses n x ≡ false
  node_unused k x e = by (node_uses n x) (takes n x) e
    where
      by : (s t : Bool) → cond s (cond t (Entries k) Others) Nobody ≡ Nobody → s ≡ false
      by true true d = absurd cc
      by true false d = absurd cc
      by false t d = refl

  unused : (k : ℕ) (ws : List NodeTree) → users_from n k ws ≡ Nobody → some_uses n ws ≡ false
  unused k [] e = refl
  unused k (x ∷ xs) e =
      let both = none_of_both (node_user n k x) (users_from n (suc k) xs) e in
      λ i. node_unused k x both.0 i || unused (suc k) xs both.1 i

  -- ---- one Gamma

  -- the node of place j, counted from k
  pub record Entry (k j : ℕ) (ws : List NodeTree) : Type 0 where
    pub earlier : List NodeTree
    pub gamma : NodeTree
    pub later : List NodeTree
    pub is : ws ≡ earlier ++ gamma ∷ later
    pub place : k + length earlier ≡ j
    pub none_earlier : some_uses n earlier ≡ false
    pub none_later : some_uses n later ≡ false
    pub uses : node_uses n gamma ≡ true
    pub takes_it : takes n gamma ≡ true

  later_entry : (k j : ℕ) (x : NodeTree) (xs : List NodeTree) → node_uses n x ≡ false → Entry (suc k) j xs → Entry k j (x ∷ xs)
  later_entry k j x xs u h =
      record {
        earlier = x ∷ h.earlier;
        gamma = h.gamma;
        later = h.later;
        is = ap (λ ys. x ∷ ys) h.is;
        place = omega (arith, h.place);
        none_earlier = λ i. u i || h.none_earlier i;
        none_later = h.none_later;
        uses = h.uses;
        takes_it = h.takes_it;
      }

  first_entry : (k j : ℕ) (x : NodeTree) (xs : List NodeTree) → node_uses n x ≡ true → takes n x ≡ true → ((i : ℕ) → users_from n (suc k) xs ≡ Entries i → Entry (suc k) i xs) →
      (v : User) → users_from n (suc k) xs ≡ v → both_use (Entries k) v ≡ Entries j → Entry k j (x ∷ xs)
  first_entry k j x xs u t rest Nobody q d =
      record {
        earlier = [];
        gamma = x;
        later = xs;
        is = refl;
        place = (let same : k ≡ j = cc in omega (arith, same));
        none_earlier = refl;
        none_later = unused (suc k) xs q;
        uses = u;
        takes_it = t;
      }
  first_entry k j x xs u t rest Others q d = absurd cc
  first_entry k j x xs u t rest (Entries i) q d = two (k == i) refl d (rest i q)
    where
      two : (s : Bool) → (k == i) ≡ s → cond s (Entries k) Others ≡ Entries j → Entry (suc k) i xs → Entry k j (x ∷ xs)
      two false p f h = absurd cc
      two true p f h =
          let same : k ≡ i = same_number k i p in
          absurd (omega (arith, same, h.place))

  entry_from : (k j : ℕ) (ws : List NodeTree) → users_from n k ws ≡ Entries j → Entry k j ws
  entry_from k j [] e = absurd cc
  entry_from k j (x ∷ xs) e = by (node_uses n x) refl (takes n x) refl e (λ i d. entry_from (suc k) i xs d)
    where
      by : (s : Bool) → node_uses n x ≡ s → (t : Bool) → takes n x ≡ t → both_use (cond s (cond t (Entries k) Others) Nobody) (users_from n (suc k) xs) ≡ Entries j →
          ((i : ℕ) → users_from n (suc k) xs ≡ Entries i → Entry (suc k) i xs) → Entry k j (x ∷ xs)
      by false u t q d rest = later_entry k j x xs u (rest j d)
      by true u false q d rest = absurd cc
      by true u true q d rest = first_entry k j x xs u q rest (users_from n (suc k) xs) refl d

  module _ (k j : ℕ) (ws : List NodeTree) (entry : Entry k j ws) where
    pub only_entry : only_user n (nodes_behind ws no_nodes) ≡ Some entry.gamma
    only_entry =
        let before = nodes_behind entry.earlier no_nodes in
        ap (λ vs. only_user n (nodes_behind vs no_nodes)) entry.is ∙ ap (only_user n) (behind_both entry.earlier (entry.gamma ∷ entry.later) no_nodes)
        ∙ only_behind entry.later (node_then entry.gamma before) entry.none_later
        ∙ ap (λ t. cond t (cond (nodes_read (is_output_of n) before) None (Some entry.gamma)) (only_user n before)) entry.uses
        ∙ ap (λ t. cond t None (Some entry.gamma)) (unread_behind entry.earlier no_nodes entry.none_earlier refl)

    pub changed_entry : (f : NodeTree → NodeTree) → user_changed n f (nodes_behind ws no_nodes) ≡ nodes_behind (entry.earlier ++ f entry.gamma ∷ entry.later) no_nodes
    changed_entry f =
        let before = nodes_behind entry.earlier no_nodes in
        ap (λ vs. user_changed n f (nodes_behind vs no_nodes)) entry.is ∙ ap (user_changed n f) (behind_both entry.earlier (entry.gamma ∷ entry.later) no_nodes)
        ∙ changed_behind f entry.later (node_then entry.gamma before) entry.none_later
        ∙ ap (nodes_behind entry.later) (ap (λ t. cond t (node_then (f entry.gamma) before) (node_then entry.gamma (user_changed n f before))) entry.uses)
        ∙ sym (behind_both entry.earlier (f entry.gamma ∷ entry.later) no_nodes)

  -- ---- others

  record Stuck (ns : NodeTrees) : Type 0 where
    pub read : nodes_read (is_output_of n) ns ≡ true
    pub none : option_and_then (where_takes n) (only_user n ns) ≡ None

  abbrev Seen : (k : ℕ) → User → NodeTrees → Type 0
  Seen k Nobody ns = Unit {0}
  Seen k (Entries j) ns = (j < k) × (nodes_read (is_output_of n) ns ≡ true)
  Seen k Others ns = Stuck ns

  or_true : (s t : Bool) → t ≡ true → (s || t) ≡ true
  or_true true t e = refl
  or_true false t e = e

  second : (x : NodeTree) (ns : NodeTrees) → node_uses n x ≡ true → nodes_read (is_output_of n) ns ≡ true → Stuck (node_then x ns)
  second x ns u r = record {
    read = read_is n x ns ∙ or_true (node_uses n x) (nodes_read (is_output_of n) ns) r;
    none = ap (option_and_then (where_takes n)) (ap (λ t. cond t (cond (nodes_read (is_output_of n) ns) None (Some x)) (only_user n ns)) u ∙ ap (λ t. cond t None (Some x)) r);
  }

  not_taken : (x : NodeTree) (ns : NodeTrees) → node_uses n x ≡ true → takes n x ≡ false → Stuck (node_then x ns)
  not_taken x ns u t = record {
    read = read_is n x ns ∙ (λ i. u i || nodes_read (is_output_of n) ns);
    none = ap (option_and_then (where_takes n)) (ap (λ s. cond s (cond (nodes_read (is_output_of n) ns) None (Some x)) (only_user n ns)) u) ∙ by (nodes_read (is_output_of n) ns);
  }
    where
      by : (s : Bool) → option_and_then (where_takes n) (cond s None (Some x)) ≡ None
      by true = refl
      by false = ap (λ s. cond s (Some x) None) t

  passed : (k : ℕ) (u : User) (x : NodeTree) (ns : NodeTrees) → node_uses n x ≡ false → Seen k u ns → Seen (suc k) u (node_then x ns)
  passed k Nobody x ns e h = h
  passed k (Entries j) x ns e h = (omega (arith, h.0), read_is n x ns ∙ or_true (node_uses n x) (nodes_read (is_output_of n) ns) h.1)
  passed k Others x ns e h = record {
    read = read_is n x ns ∙ or_true (node_uses n x) (nodes_read (is_output_of n) ns) h.read;
    none = ap (option_and_then (where_takes n)) (ap (λ s. cond s (cond (nodes_read (is_output_of n) ns) None (Some x)) (only_user n ns)) e) ∙ h.none;
  }

  entry_seen : (k : ℕ) (u : User) (x : NodeTree) (ns : NodeTrees) → node_uses n x ≡ true → Seen k u ns → Seen (suc k) (both_use u (Entries k)) (node_then x ns)
  entry_seen k Nobody x ns e h = (omega arith, read_is n x ns ∙ (λ i. e i || nodes_read (is_output_of n) ns))
  entry_seen k Others x ns e h = second x ns e h.read
  entry_seen k (Entries j) x ns e h = by (j == k) refl
    where
      by : (t : Bool) → (j == k) ≡ t → Seen (suc k) (cond t (Entries j) Others) (node_then x ns)
      by true q =
          let same : j ≡ k = same_number j k q in
          absurd (omega (arith, same, h.0))
      by false q = second x ns e h.1

  next_seen : (k : ℕ) (u : User) (x : NodeTree) (ns : NodeTrees) → Seen k u ns → Seen (suc k) (both_use u (node_user n k x)) (node_then x ns)
  next_seen k u x ns h = by (node_uses n x) refl (takes n x) refl
    where
      by : (s : Bool) → node_uses n x ≡ s → (t : Bool) → takes n x ≡ t → Seen (suc k) (both_use u (cond s (cond t (Entries k) Others) Nobody)) (node_then x ns)
      by false e t q = subst (λ v. Seen (suc k) v (node_then x ns)) (sym (use_none u)) (passed k u x ns e h)
      by true e true q = entry_seen k u x ns e h
      by true e false q = subst (λ v. Seen (suc k) v (node_then x ns)) (sym (use_others u)) (not_taken x ns e q)

  stuck_from : (k : ℕ) (u : User) (ws : List NodeTree) (ns : NodeTrees) → Seen k u ns → both_use u (users_from n k ws) ≡ Others → Stuck (nodes_behind ws ns)
  stuck_from k u [] ns h e =
      let same : u ≡ Others = sym (use_none u) ∙ e in
      subst (λ v. Seen k v ns) same h
  stuck_from k u (x ∷ xs) ns h e =
      stuck_from (suc k) (both_use u (node_user n k x)) xs (node_then x ns) (next_seen k u x ns h) (use_assoc u (node_user n k x) (users_from n (suc k) xs) ∙ e)

  -- ---- the user of the node

  module _ (results : List Origin) (ws : List NodeTree) where
    abbrev in_region : (op : Op) → RegionTrees → Option NodeTree
    in_region op rs = cond (is_pure op && has_none rs && not (some_of (is_output_of n) results)) (option_and_then (where_takes n) (only_user n (nodes_behind ws no_nodes))) None

    no_second : (s : Bool) (o : Option NodeTree) → o ≡ None → cond s o None ≡ None
    no_second true o e = e
    no_second false o e = refl

    given : (r s : Bool) (o : Option NodeTree) → r ≡ true → cond (s && not r) o None ≡ None
    given true true o e = refl
    given true false o e = refl
    given false s o e = absurd cc

    nobody_takes : (op : Op) (rs : RegionTrees) → user_among results ws n ≡ Nobody → in_region op rs ≡ None
    nobody_takes op rs e =
        let both = none_of_both (used_by n Others results) (users_from n 0 ws) e in
        no_second (is_pure op && has_none rs && not (some_of (is_output_of n) results)) (option_and_then (where_takes n) (only_user n (nodes_behind ws no_nodes)))
        (ap (option_and_then (where_takes n)) (only_behind ws no_nodes (unused 0 ws both.1)))

    others_take : (op : Op) (rs : RegionTrees) → user_among results ws n ≡ Others → in_region op rs ≡ None
    others_take op rs e = by (some_of (is_output_of n) results) refl e
      where
        by : (r : Bool) → some_of (is_output_of n) results ≡ r → both_use (cond r Others Nobody) (users_from n 0 ws) ≡ Others → in_region op rs ≡ None
        by true q d = given (some_of (is_output_of n) results) (is_pure op && has_none rs) (option_and_then (where_takes n) (only_user n (nodes_behind ws no_nodes))) q
        by false q d =
            no_second (is_pure op && has_none rs && not (some_of (is_output_of n) results)) (option_and_then (where_takes n) (only_user n (nodes_behind ws no_nodes)))
            (stuck_from 0 Nobody ws no_nodes tt d).none

    pub record Used (j : ℕ) : Type 0 where
      pub no_result : some_of (is_output_of n) results ≡ false
      pub entry : Entry 0 j ws

    pub used_at : (j : ℕ) → user_among results ws n ≡ Entries j → Used j
    used_at j e = by (some_of (is_output_of n) results) refl e
      where
        by : (r : Bool) → some_of (is_output_of n) results ≡ r → both_use (cond r Others Nobody) (users_from n 0 ws) ≡ Entries j → Used j
        by true q d = absurd cc
        by false q d = record { no_result = q; entry = entry_from 0 j ws d }

    entries_take : (op : Op) (rs : RegionTrees) (j : ℕ) → (is_pure op && has_none rs) ≡ true → (u : Used j) → in_region op rs ≡ Some u.entry.gamma
    entries_take op rs j leaves u =
        ap₂ (λ s r. cond (s && not r) (option_and_then (where_takes n) (only_user n (nodes_behind ws no_nodes))) None) leaves u.no_result
        ∙ ap (option_and_then (where_takes n)) (only_entry 0 j ws u.entry) ∙ ap (λ t. cond t (Some u.entry.gamma) None) u.entry.takes_it

    stays_in : (op : Op) (rs : RegionTrees) → (is_pure op && has_none rs) ≡ false → in_region op rs ≡ None
    stays_in op rs e = ap (λ s. cond (s && not (some_of (is_output_of n) results)) (option_and_then (where_takes n) (only_user n (nodes_behind ws no_nodes))) None) e

-- ---- how the node moves

module _ (x : NodeTree) (results : List Origin) (ws : List NodeTree) (w : Walking) where
  abbrev seen : Option NodeTree → Option Pull
  seen o = option_and_then (where_fits w.values w.next (id_of x)) (option_map (pull_into x) o)

  seen_is : pull_behind x results (behind ws w) ≡ seen (user_of (id_of x) (region [] (nodes_behind ws no_nodes) results) x)
  seen_is = ap (option_and_then (where_fits w.values w.next (id_of x))) (pull_seen_of (id_of x) (region [] (nodes_behind ws no_nodes) results) x)

  -- it stays where not one Gamma takes it
  pub stays_behind : ((j : ℕ) → user_among results ws (id_of x) ≡ Entries j → can_leave x ≡ true → ⊥) → pull_behind x results (behind ws w) ≡ None
  stays_behind h = seen_is ∙ ap seen (by x h)
    where
      by : (y : NodeTree) → ((j : ℕ) → user_among results ws (id_of y) ≡ Entries j → can_leave y ≡ true → ⊥) → user_of (id_of y) (region [] (nodes_behind ws no_nodes) results) y ≡ None
      by (node n op inputs rs) k = cases (user_among results ws n) refl
        where
          leaving : (j : ℕ) → user_among results ws n ≡ Entries j → (t : Bool) → (is_pure op && has_none rs) ≡ t → in_region n results ws op rs ≡ None
          leaving j e true q = absurd (k j e q)
          leaving j e false q = stays_in n results ws op rs q

          cases : (u : User) → user_among results ws n ≡ u → in_region n results ws op rs ≡ None
          cases Nobody e = nobody_takes n results ws op rs e
          cases Others e = others_take n results ws op rs e
          cases (Entries j) e = leaving j e (is_pure op && has_none rs) refl

  -- it moves into the Gamma that takes it, where it may
  pub moves_behind : (j : ℕ) (u : Used (id_of x) results ws j) → can_leave x ≡ true → pull_behind x results (behind ws w) ≡ where_fits w.values w.next (id_of x) (pull_into x u.entry.gamma)
  moves_behind j u leaves = seen_is ∙ ap seen (by x u leaves)
    where
      by : (y : NodeTree) (v : Used (id_of y) results ws j) → can_leave y ≡ true → user_of (id_of y) (region [] (nodes_behind ws no_nodes) results) y ≡ Some v.entry.gamma
      by (node n op inputs rs) v q = entries_take n results ws op rs j q v
