-- Uses one after the other.
use Rattle.std.proofs.Common.{◌≡◌, ℕ, suc, ◌+◌, ◌==◌, ◌||◌, Bool, true, false, cond, List, [], ◌∷◌, ◌++◌, length, refl, sym, ap, ap₂, ◌∙◌, arith}
use Rattle.std.proofs.lemmas.Bool.{or_parts}
use Rattle.std.proofs.lemmas.Bool.Decides.{nat_tests}
use Rattle.g_graph.specs.declared.op.Origin.{Origin}
use Rattle.g_graph.specs.Plain.{NodeTree}
use Rattle.g_graph.specs.WellFormed.{some_of}
use Rattle.g_graph.proofs.lemmas.Indexes.{same_number_true}
use Rattle.g_graph.proofs.lemmas.Unique.{same_number}
use Rattle.r_edit.specs.Uses.{is_output_of}
use Rattle.r_pull.specs.Edit.{takes}
use Rattle.r_pull.specs.Rule.{node_uses}
use Rattle.r_pull.specs.declared.users.User.{User}
use Rattle.r_pull.specs.declared.users.User.TheVariants.{Nobody, Entries, Others}
use Rattle.r_pull.specs.Users.{both_use, used_by, node_user, users_from}

pub use_none : (u : User) → both_use u Nobody ≡ u
use_none Nobody = refl
use_none (Entries j) = refl
use_none Others = refl

pub use_others : (u : User) → both_use u Others ≡ Others
use_others Nobody = refl
use_others (Entries j) = refl
use_others Others = refl

pub same_use : (u : User) → both_use u u ≡ u
same_use Nobody = refl
same_use (Entries j) = ap (λ t. cond t (Entries j) Others) (same_number_true j)
same_use Others = refl

other_number : (i j : ℕ) → (i == j) ≡ false → (j == i) ≡ false
other_number i j e = by (j == i) refl
  where
    by : (t : Bool) → (j == i) ≡ t → t ≡ false
    by false d = refl
    by true d =
        let same : j ≡ i = same_number j i d in
        absurd (grind (arith, nat_tests, e, same))

pub use_comm : (u v : User) → both_use u v ≡ both_use v u
use_comm Nobody v = sym (use_none v)
use_comm Others v = sym (use_others v)
use_comm (Entries i) Nobody = refl
use_comm (Entries i) Others = refl
use_comm (Entries i) (Entries j) = by (i == j) refl
  where
    by : (t : Bool) → (i == j) ≡ t → cond t (Entries i) Others ≡ cond (j == i) (Entries j) Others
    by true e =
        let same : i ≡ j = same_number i j e in
        ap Entries same ∙ sym (ap (λ t. cond t (Entries j) Others) (ap (λ k. j == k) same ∙ same_number_true j))
    by false e = sym (ap (λ t. cond t (Entries j) Others) (other_number i j e))

pub use_assoc : (u v w : User) → both_use (both_use u v) w ≡ both_use u (both_use v w)
use_assoc Nobody v w = refl
use_assoc Others v w = refl
use_assoc (Entries i) Nobody w = refl
use_assoc (Entries i) Others w = refl
use_assoc (Entries i) (Entries j) Nobody = use_none (cond (i == j) (Entries i) Others)
use_assoc (Entries i) (Entries j) Others = use_others (cond (i == j) (Entries i) Others)
use_assoc (Entries i) (Entries j) (Entries k) = by (i == j) (j == k) refl refl
  where
    by : (s t : Bool) → (i == j) ≡ s → (j == k) ≡ t → both_use (cond s (Entries i) Others) (Entries k) ≡ both_use (Entries i) (cond t (Entries j) Others)
    by true true e d =
        let one : i ≡ j = same_number i j e in
        ap (λ r. cond r (Entries i) Others) (ap (λ m. m == k) one ∙ d) ∙ sym (ap (λ r. cond r (Entries i) Others) e)
    by true false e d =
        let one : i ≡ j = same_number i j e in
        ap (λ r. cond r (Entries i) Others) (ap (λ m. m == k) one ∙ d)
    by false true e d = sym (ap (λ r. cond r (Entries i) Others) e)
    by false false e d = refl

-- ---- origins

pub no_origin : (n : ℕ) (u v : User) → u ≡ both_use u (used_by n v [])
no_origin n u v = sym (use_none u)

-- one origin more
pub more_origins : (n : ℕ) (u old new : User) (o : Origin) (os : List Origin) → new ≡ both_use old (cond (is_output_of n o) u Nobody) →
    both_use new (used_by n u os) ≡ both_use old (used_by n u (o ∷ os))
more_origins n u old new o os e = ap (λ v. both_use v (used_by n u os)) e ∙ by (is_output_of n o) (some_of (is_output_of n) os)
  where
    by : (s t : Bool) → both_use (both_use old (cond s u Nobody)) (cond t u Nobody) ≡ both_use old (cond (s || t) u Nobody)
    by true true = use_assoc old u u ∙ ap (both_use old) (same_use u)
    by true false = use_none (both_use old u)
    by false t = ap (λ v. both_use v (cond t u Nobody)) (use_none old)

-- ---- nodes

pub users_more : (n k : ℕ) (xs ys : List NodeTree) → users_from n k (xs ++ ys) ≡ both_use (users_from n k xs) (users_from n (k + length xs) ys)
users_more n k [] ys = ap (λ j. users_from n j ys) (omega arith)
users_more n k (x ∷ xs) ys =
    let next : suc k + length xs ≡ k + suc (length xs) = omega arith in
    ap (both_use (node_user n k x)) (users_more n (suc k) xs ys)
    ∙ sym (use_assoc (node_user n k x) (users_from n (suc k) xs) (users_from n (suc k + length xs) ys))
    ∙ ap (λ j. both_use (both_use (node_user n k x) (users_from n (suc k) xs)) (users_from n j ys)) next

abbrev pub some_uses : (n : ℕ) → List NodeTree → Bool
some_uses n [] = false
some_uses n (x ∷ xs) = node_uses n x || some_uses n xs

-- nodes that do not use it
pub none_use : (n k : ℕ) (ws : List NodeTree) → some_uses n ws ≡ false → users_from n k ws ≡ Nobody
none_use n k [] e = refl
none_use n k (x ∷ xs) e =
    let both = or_parts (node_uses n x) (some_uses n xs) e in
    ap₂ both_use (ap (λ t. cond t (cond (takes n x) (Entries k) Others) Nobody) both.0) (none_use n (suc k) xs both.1)
