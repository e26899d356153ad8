-- The users after a node was written, or moved.
use Rattle.std.proofs.Common.{◌≡◌, ◌≢◌, ℕ, suc, ◌+◌, ◌==◌, ◌||◌, not, Bool, true, false, cond, List, [], ◌∷◌, ◌++◌, length, refl, sym, ap, ap₂, subst, ◌∙◌, arith}
use Rattle.std.proofs.lemmas.Bool.Decides.{nat_tests}
use Rattle.g_graph.specs.declared.op.Op.TheVariants.{Const, Undef, Local, Delta, Bin, Un, Load, Store, Clear, PtrEq, Apply, Put, Exit, Get, Gamma, Theta}
use Rattle.g_graph.specs.declared.op.Origin.{Origin}
use Rattle.g_graph.specs.declared.op.Origin.TheVariants.{Arg, Out}
use Rattle.g_graph.specs.Plain.{NodeTree, node, no_nodes, node_then, RegionTrees, inputs_in}
use Rattle.g_graph.specs.WellFormed.{some_of}
use Rattle.g_graph.proofs.lemmas.Unique.{same_number}
use Rattle.r_edit.specs.Uses.{is_output_of}
use Rattle.r_edit.specs.Places.{kept}
use Rattle.r_pull.specs.Rule.{other_entries, inputs_carried, copies_of, gamma_pulled}
use Rattle.r_pull.specs.Edit.{takes, pull_into}
use Rattle.r_pull.proofs.Found.{none_carried, all_carried}
use Rattle.r_pull.specs.declared.users.User.{User}
use Rattle.r_pull.specs.declared.users.User.TheVariants.{Nobody, Entries, Others}
use Rattle.r_pull.specs.Behind.{nodes_behind}
use Rattle.r_pull.specs.Users.{both_use, used_by, node_user, users_from, user_among, carried_with, user_after}
use Rattle.r_pull.proofs.Uses.{use_none, use_comm, use_assoc, same_use, users_more, none_use}
use Rattle.r_pull.proofs.Written.{behind_both, Used}

-- ---- a node that is written

pub node_behind : (ws : List NodeTree) (x : NodeTree) → nodes_behind (ws ++ x ∷ []) no_nodes ≡ node_then x (nodes_behind ws no_nodes)
node_behind ws x = behind_both ws (x ∷ []) no_nodes

pub users_written : (results : List Origin) (ws : List NodeTree) (x : NodeTree) (n : ℕ) →
    both_use (user_among results ws n) (node_user n (length ws) x) ≡ user_among results (ws ++ x ∷ []) n
users_written results ws x n =
    let first : 0 + length ws ≡ length ws = omega arith in
    use_assoc (used_by n Others results) (users_from n 0 ws) (node_user n (length ws) x)
    ∙ ap (both_use (used_by n Others results))
    (ap (both_use (users_from n 0 ws)) (ap (λ k. node_user n k x) (sym first) ∙ sym (use_none (node_user n (0 + length ws) x))) ∙ sym (users_more n 0 ws (x ∷ [])))

-- ---- the Gamma that takes a node

-- a Gamma whose predicate is no output of the node
record Taking (n : ℕ) (g : NodeTree) : Type 0 where
  pub id : ℕ
  pub predicate : Origin
  pub entries : List Origin
  pub regions : RegionTrees
  pub is : g ≡ node id Gamma (predicate ∷ entries) regions
  pub no_predicate : is_output_of n predicate ≡ false

taking : (n : ℕ) (g : NodeTree) → takes n g ≡ true → Taking n g
taking n (node id Gamma (p ∷ entries) rs) e = record { id = id; predicate = p; entries = entries; regions = rs; is = refl; no_predicate = by (is_output_of n p) e }
  where
    by : (t : Bool) → not t ≡ true → t ≡ false
    by true d = absurd cc
    by false d = refl
taking n (node id Gamma [] rs) e = absurd cc
taking n (node id (Const w) is rs) e = absurd cc
taking n (node id Undef is rs) e = absurd cc
taking n (node id (Local k) is rs) e = absurd cc
taking n (node id (Delta k) is rs) e = absurd cc
taking n (node id (Bin b) is rs) e = absurd cc
taking n (node id (Un b) is rs) e = absurd cc
taking n (node id (Load w) is rs) e = absurd cc
taking n (node id (Store w) is rs) e = absurd cc
taking n (node id (Clear k) is rs) e = absurd cc
taking n (node id PtrEq is rs) e = absurd cc
taking n (node id (Apply f) is rs) e = absurd cc
taking n (node id Put is rs) e = absurd cc
taking n (node id Exit is rs) e = absurd cc
taking n (node id Get is rs) e = absurd cc
taking n (node id Theta is rs) e = absurd cc

-- ---- the entries that stay

both_outputs : (n m : ℕ) (a : Origin) → (m == n) ≡ false → is_output_of n a ≡ true → is_output_of m a ≡ false
both_outputs n m (Arg k) e d = absurd cc
both_outputs n m (Out j p) e d =
    let same : n ≡ j = same_number n j d in
    ap (λ k. m == k) (sym same) ∙ e

module _ (n : ℕ) (carried : List Origin) where
  none_kept : some_of (is_output_of n) (kept [] carried) ≡ some_of (is_output_of n) carried
  none_kept = ap (some_of (is_output_of n)) (all_kept carried)
    where
      all_kept : (os : List Origin) → kept [] os ≡ os
      all_kept [] = refl
      all_kept (o ∷ os) = refl

  kept_itself : (entries : List Origin) → some_of (is_output_of n) (kept (other_entries n entries) (entries ++ carried)) ≡ some_of (is_output_of n) carried
  kept_itself [] = none_kept
  kept_itself (a ∷ entries) = by (is_output_of n a) refl (kept_itself entries)
    where
      by : (t : Bool) → is_output_of n a ≡ t → some_of (is_output_of n) (kept (other_entries n entries) (entries ++ carried)) ≡ some_of (is_output_of n) carried →
          some_of (is_output_of n) (kept (not t ∷ other_entries n entries) (a ∷ (entries ++ carried))) ≡ some_of (is_output_of n) carried
      by true u rest = rest
      by false u rest = ap (λ s. s || some_of (is_output_of n) (kept (other_entries n entries) (entries ++ carried))) u ∙ rest

kept_others : (n m : ℕ) (carried entries : List Origin) → (m == n) ≡ false →
    some_of (is_output_of m) (kept (other_entries n entries) (entries ++ carried)) ≡ (some_of (is_output_of m) entries || some_of (is_output_of m) carried)
kept_others n m carried [] e = none_kept m carried
kept_others n m carried (a ∷ entries) e = by (is_output_of n a) refl (kept_others n m carried entries e)
  where
    or_both : (s t u : Bool) → (s || (t || u)) ≡ ((s || t) || u)
    or_both true t u = refl
    or_both false t u = refl

    by : (t : Bool) → is_output_of n a ≡ t →
        some_of (is_output_of m) (kept (other_entries n entries) (entries ++ carried)) ≡ (some_of (is_output_of m) entries || some_of (is_output_of m) carried) →
        some_of (is_output_of m) (kept (not t ∷ other_entries n entries) (a ∷ (entries ++ carried))) ≡ ((is_output_of m a || some_of (is_output_of m) entries) || some_of (is_output_of m) carried)
    by true u rest = rest ∙ ap (λ s. (s || some_of (is_output_of m) entries) || some_of (is_output_of m) carried) (sym (both_outputs n m a e u))
    by false u rest = ap (λ s. is_output_of m a || s) rest ∙ or_both (is_output_of m a) (some_of (is_output_of m) entries) (some_of (is_output_of m) carried)

-- ---- the uses that it then makes

module _ (next n k : ℕ) (g : NodeTree) (t : Taking n g) where
  abbrev whole : NodeTree
  whole = node t.id Gamma (t.predicate ∷ t.entries) t.regions

  other_user : (x : NodeTree) (m : ℕ) → (m == n) ≡ false →
      node_user m k (gamma_pulled next n (pull_into x whole) whole) ≡ both_use (node_user m k whole) (used_by m (Entries k) (inputs_carried n (pull_into x whole)))
  other_user (node id op inputs rs) m e =
      let carried = inputs_carried n (pull_into (node id op inputs rs) whole) in
      ap (λ s. cond (is_output_of m t.predicate || s) (cond (not (is_output_of m t.predicate)) (Entries k) Others) Nobody) (kept_others n m carried t.entries e)
      ∙ by (is_output_of m t.predicate) (some_of (is_output_of m) t.entries) (some_of (is_output_of m) carried)
    where
      by : (p q c : Bool) → cond (p || (q || c)) (cond (not p) (Entries k) Others) Nobody ≡ both_use (cond (p || q) (cond (not p) (Entries k) Others) Nobody) (cond c (Entries k) Nobody)
      by true q true = refl
      by true q false = refl
      by false true true = sym (same_use (Entries k))
      by false true false = refl
      by false false true = refl
      by false false false = refl

  own_user : (x : NodeTree) → node_user n k (gamma_pulled next n (pull_into x whole) whole) ≡ used_by n (Entries k) (inputs_carried n (pull_into x whole))
  own_user (node id op inputs rs) =
      ap₂ (λ p s. cond (p || s) (cond (not p) (Entries k) Others) Nobody) t.no_predicate (kept_itself n (inputs_carried n (pull_into (node id op inputs rs) whole)) t.entries)

-- ---- all users after the move

move_last : (r e g c l : User) → both_use r (both_use e (both_use (both_use g c) l)) ≡ both_use (both_use r (both_use e (both_use g l))) c
move_last r e g c l =
    ap (λ z. both_use r (both_use e z)) (use_assoc g c l ∙ ap (both_use g) (use_comm c l) ∙ sym (use_assoc g l c))
    ∙ ap (both_use r) (sym (use_assoc e (both_use g l) c)) ∙ sym (use_assoc r (both_use e (both_use g l)) c)

module _ (next n k : ℕ) (x : NodeTree) (results : List Origin) (ws : List NodeTree) (u : Used n results ws k) where
  abbrev g : NodeTree
  g = u.entry.gamma

  abbrev now : NodeTree
  now = gamma_pulled next n (pull_into x g) g

  abbrev taken : List Origin
  taken = inputs_carried n (pull_into x g)

  users_with : (y : NodeTree) (m : ℕ) → user_among results (u.entry.earlier ++ y ∷ u.entry.later) m ≡
      both_use (used_by m Others results) (both_use (users_from m 0 u.entry.earlier) (both_use (node_user m k y) (users_from m (suc k) u.entry.later)))
  users_with y m =
      ap (both_use (used_by m Others results)) (users_more m 0 u.entry.earlier (y ∷ u.entry.later)
      ∙ ap (λ j. both_use (users_from m 0 u.entry.earlier) (both_use (node_user m j y) (users_from m (suc j) u.entry.later))) u.entry.place)

  others_after : (m : ℕ) → (m == n) ≡ false → user_among results (u.entry.earlier ++ now ∷ u.entry.later) m ≡ both_use (user_among results ws m) (used_by m (Entries k) taken)
  others_after m e =
      let t = taking n g u.entry.takes_it in
      let r = used_by m Others results in
      let front = users_from m 0 u.entry.earlier in
      let back = users_from m (suc k) u.entry.later in
      let same = subst (λ y. node_user m k (gamma_pulled next n (pull_into x y) y) ≡ both_use (node_user m k y) (used_by m (Entries k) (inputs_carried n (pull_into x y)))) (sym t.is)
      (other_user next n k g t x m e) in
      users_with now m ∙ ap (λ z. both_use r (both_use front (both_use z back))) same
      ∙ move_last r front (node_user m k g) (used_by m (Entries k) taken) back
      ∙ ap (λ z. both_use z (used_by m (Entries k) taken)) (sym (users_with g m) ∙ ap (λ vs. user_among results vs m) (sym u.entry.is))

  own_after : user_among results (u.entry.earlier ++ now ∷ u.entry.later) n ≡ used_by n (Entries k) taken
  own_after =
      let t = taking n g u.entry.takes_it in
      let same = subst (λ y. node_user n k (gamma_pulled next n (pull_into x y) y) ≡ used_by n (Entries k) (inputs_carried n (pull_into x y))) (sym t.is) (own_user next n k g t x) in
      users_with now n
      ∙ ap₂ both_use (ap (λ s. cond s Others Nobody) u.no_result)
      (ap₂ both_use (none_use n 0 u.entry.earlier u.entry.none_earlier) (ap₂ both_use same (none_use n (suc k) u.entry.later u.entry.none_later)))
      ∙ use_none (used_by n (Entries k) taken)

  taken_is : (copies : ℕ) → copies ≡ copies_of n (pull_into x g) → (own : inputs_in x ≡ (pull_into x g).inputs) → carried_with copies (inputs_in x) ≡ taken
  taken_is copies e own = by (copies == 0) refl
    where
      by : (t : Bool) → (copies == 0) ≡ t → cond t [] (inputs_in x) ≡ taken
      by true q =
          let none : copies ≡ 0 = same_number copies 0 q in
          sym (none_carried n (pull_into x g) (sym e ∙ none))
      by false q =
          let some : copies_of n (pull_into x g) ≢ 0 = λ z. grind (arith, nat_tests, q, e, z) in
          own ∙ sym (all_carried n (pull_into x g) some)

  pub users_moved : (copies : ℕ) → copies ≡ copies_of n (pull_into x g) → (inputs_in x ≡ (pull_into x g).inputs) → (m : ℕ) →
      user_after n k (carried_with copies (inputs_in x)) m (user_among results ws m) ≡ user_among results (u.entry.earlier ++ now ∷ u.entry.later) m
  users_moved copies e own m = ap (λ os. user_after n k os m (user_among results ws m)) (taken_is copies e own) ∙ by (m == n) refl
    where
      by : (t : Bool) → (m == n) ≡ t → both_use (cond t Nobody (user_among results ws m)) (used_by m (Entries k) taken) ≡ user_among results (u.entry.earlier ++ now ∷ u.entry.later) m
      by true q =
          let same : m ≡ n = same_number m n q in
          subst (λ j. used_by j (Entries k) taken ≡ user_among results (u.entry.earlier ++ now ∷ u.entry.later) j) (sym same) (sym own_after)
      by false q = sym (others_after m q)

-- the inputs that move are those of the node
pub own_inputs : (x g : NodeTree) → inputs_in x ≡ (pull_into x g).inputs
own_inputs (node id op inputs rs) (node gamma own entries qs) = refl
