-- What an image asks of the globals and names of a program, and of the lambdas that are put in it.
use Rattle.std.specs.Prelude.{◌≡◌, ◌≤◌, ℕ, suc, ◌==◌, nat_lt, if◌then◌else◌, Bool, true, false, ◌&&◌, IsTrue, List, [], ◌∷◌, map, length, Option, None, Some, option_map, slice_get, slice_set}
use Rattle.std.specs.List.{sum_by}
use Rattle.base.specs.Limits.{most_functions, most_parameters, counted_bytes, most_object_bytes, most_global_bytes, most_lambda_values, most_program_values}
use Rattle.val_core.specs.declared.leaf.Leaf.{Leaf}
use Rattle.g_graph.specs.declared.link.Link.{Link}
use Rattle.g_graph.specs.Plain.{PlainObject, PlainLambda, PlainDelta, PlainOmega}
use Rattle.g_graph.specs.Count.{region_values}
use Rattle.g_graph.specs.WellFormed.{all_of, some_of, distinct, leaves_fit}
use Rattle.g_graph.specs.Lists.{RegionOps, NamesGlobal, IsComplete}

-- ---- names

abbrev pub same_bytes : List ℕ → List ℕ → Bool
same_bytes [] [] = true
same_bytes (x ∷ xs) (y ∷ ys) = if x == y then same_bytes xs ys else false
same_bytes _ _ = false

-- the index of a name among others
abbrev pub name_index : List ℕ → List (List ℕ) → Option ℕ
name_index name [] = None
name_index name (x ∷ xs) = if same_bytes x name then Some 0 else option_map suc (name_index name xs)

-- "main"
abbrev pub main_name : List ℕ
main_name = 109 ∷ 97 ∷ 105 ∷ 110 ∷ []

-- ---- globals

-- a leaf of width 4 begins where the link stands, and the link names one of so many globals
abbrev pub link_fits : (globals : ℕ) → List Leaf → Link → Bool
link_fits globals leaves link = some_of (λ (l : Leaf). (l.offset == link.at) && (l.width == 4)) leaves && nat_lt link.delta globals

-- a global of a program with so many: its leaves lie within its bytes, and its links stand at leaves, no two at one
pub record IsGlobal (globals : ℕ) (d : PlainDelta) : Type 0 where
  pub bytes : IsTrue (all_of (λ b. nat_lt b 256) d.bytes)
  pub leaves : IsTrue (leaves_fit (length d.bytes) 0 d.leaves)
  pub links : IsTrue (all_of (link_fits globals d.leaves) d.links)
  pub apart : IsTrue (distinct (map (λ (link : Link). link.at) d.links))

-- ---- the program

-- `main` is among the lambdas, and has no parameters
pub record HasMain (names : List (List ℕ)) (ls : List PlainLambda) : Type 0 where
  pub index : ℕ
  pub lambda : PlainLambda
  pub named : name_index main_name names ≡ Some index
  pub there : slice_get ls index ≡ Some lambda
  pub params : lambda.params ≡ 0

-- These lambdas, with the globals and names of the program, are those of an image: they are complete, one for each
-- function of the program and with its parameters, and `main` and each global that they name is there. An image asks
-- this of them, and that they are within the limits.
pub record IsProgram (omega : PlainOmega) (ls : List PlainLambda) : Type 0 where
  pub complete : IsComplete ls
  pub params : map (λ (l : PlainLambda). l.params) ls ≡ map (λ (l : PlainLambda). l.params) omega.lambdas
  pub main : HasMain omega.names ls
  pub named : (f : ℕ) (l : PlainLambda) → slice_get ls f ≡ Some l → RegionOps (NamesGlobal (length omega.deltas)) l.body
  pub globals : (k : ℕ) (d : PlainDelta) → slice_get omega.deltas k ≡ Some d → IsGlobal (length omega.deltas) d

-- ---- the limits

abbrev pub lambda_values : PlainLambda → ℕ
lambda_values l = region_values l.body

-- the parameters, objects and values of a lambda are within the limits of a function
pub record IsFunctionWithinLimits (l : PlainLambda) : Type 0 where
  pub parameters : l.params ≤ most_parameters
  pub objects : sum_by (λ (o : PlainObject). counted_bytes o.size) l.objects ≤ most_object_bytes
  pub values : lambda_values l ≤ most_lambda_values

-- The lambdas that are put in an image, and the globals of the program, are within the limits.
pub record IsWithinLimits (omega : PlainOmega) (ls : List PlainLambda) : Type 0 where
  pub functions : length ls ≤ most_functions
  pub each : (f : ℕ) (l : PlainLambda) → slice_get ls f ≡ Some l → IsFunctionWithinLimits l
  pub values : sum_by lambda_values ls ≤ most_program_values
  pub globals : sum_by (λ (d : PlainDelta). counted_bytes (length d.bytes)) omega.deltas ≤ most_global_bytes

-- ---- one lambda for another

-- with the one lambda instead of the other they are still those of an image
abbrev pub KeepsPrograms : PlainLambda → PlainLambda → Type 0
KeepsPrograms l k = (omega : PlainOmega) (ls : List PlainLambda) (f : ℕ) → slice_get ls f ≡ Some l → IsProgram omega ls → IsProgram omega (slice_set ls f k)
