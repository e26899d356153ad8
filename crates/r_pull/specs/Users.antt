-- What uses outputs of a node: of the region's nodes those that are written, and the results.
use Rattle.std.specs.Prelude.{◌≡◌, ℕ, suc, ◌==◌, if◌then◌else◌, Bool, true, false, List, [], ◌∷◌, nat_eq}
use Rattle.std.specs.declared.option.Option.{Option}
use Rattle.std.specs.declared.option.Option.TheVariants.{Some, None}
use Rattle.g_graph.specs.declared.op.Op.{Op}
use Rattle.g_graph.specs.declared.op.Op.TheVariants.{Gamma}
use Rattle.g_graph.specs.declared.op.Origin.{Origin}
use Rattle.g_graph.specs.Plain.{NodeTree}
use Rattle.g_graph.specs.WellFormed.{some_of}
use Rattle.indexmap.specs.IndexMap.{get}
use Rattle.r_edit.specs.Uses.{is_output_of}
use Rattle.r_pull.specs.Edit.{takes}
use Rattle.r_pull.specs.Rule.{node_uses}
use Rattle.r_pull.specs.declared.users.User.{User}
use Rattle.r_pull.specs.declared.users.User.TheVariants.{Nobody, Entries, Others}
use Rattle.r_pull.specs.declared.users.Users.{Users}

-- the one and the other
abbrev pub both_use : User → User → User
both_use Nobody u = u
both_use (Entries j) Nobody = Entries j
both_use (Entries j) (Entries k) = if j == k then Entries j else Others
both_use (Entries j) Others = Others
both_use Others u = Others

-- these origins, where one is an output of node n, are used so
abbrev pub used_by : (n : ℕ) → User → List Origin → User
used_by n u os = if some_of (is_output_of n) os then u else Nobody

-- Node x has place k among the nodes that are written; a predicate is no entry.
abbrev pub node_user : (n k : ℕ) → NodeTree → User
node_user n k x = if node_uses n x then (if takes n x then Entries k else Others) else Nobody

abbrev pub is_gamma : Op → Bool
is_gamma Gamma = true
is_gamma op = false

-- the same of the inputs of a Gamma
abbrev pub gamma_user : (n k : ℕ) → (inputs : List Origin) → User
gamma_user n k [] = Nobody
gamma_user n k (p ∷ entries) = if is_output_of n p then Others else used_by n (Entries k) entries

-- nodes that are written, from a place on
abbrev pub users_from : (n k : ℕ) → List NodeTree → User
users_from n k [] = Nobody
users_from n k (x ∷ xs) = both_use (node_user n k x) (users_from n (suc k) xs)

abbrev pub user_among : (results : List Origin) → (written : List NodeTree) → (n : ℕ) → User
user_among results ws n = both_use (used_by n Others results) (users_from n 0 ws)

-- ---- the table

abbrev pub user_or_nobody : Option User → User
user_or_nobody None = Nobody
user_or_nobody (Some u) = u

abbrev pub user_in : Users → (n : ℕ) → User
user_in t n = user_or_nobody (get nat_eq t.users n)

abbrev pub AreUsers : Users → (results : List Origin) → (written : List NodeTree) → Type 0
AreUsers t results ws = (n : ℕ) → user_in t n ≡ user_among results ws n

-- the inputs that a Gamma takes with so many copies
abbrev pub carried_with : (copies : ℕ) → List Origin → List Origin
carried_with copies inputs = if copies == 0 then [] else inputs

-- after node n moved into the Gamma of this place, which takes these inputs
abbrev pub user_after : (n place : ℕ) → (carried : List Origin) → (m : ℕ) → User → User
user_after n place carried m u = both_use (if m == n then Nobody else u) (used_by m (Entries place) carried)
