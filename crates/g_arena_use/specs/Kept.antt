-- The first node of each place, op and inputs, as contracts see it: a list of the keys with their nodes.
use Rattle.std.specs.Prelude.{ℕ, ◌&&◌, Bool, true, false, if◌then◌else◌, List, [], ◌∷◌, ◌++◌}
use Rattle.std.specs.declared.option.Option.{Option}
use Rattle.std.specs.declared.option.Option.TheVariants.{Some, None}
use Rattle.g_graph.specs.declared.op.Op.{Op}
use Rattle.g_graph.specs.declared.op.Origin.{Origin}
use Rattle.g_graph.specs.Views.{same_op}
use Rattle.g_graph.specs.Scope.{same_origin}
use Rattle.g_arena_def.specs.declared.place.Place.{Place}
use Rattle.g_arena_def.specs.Flat.{same_place}

pub record Kept : Type 0 where
  pub home : Place
  pub op : Op
  pub inputs : List Origin
  pub node : ℕ

abbrev pub same_origins : List Origin → List Origin → Bool
same_origins [] [] = true
same_origins (x ∷ xs) (y ∷ ys) = same_origin x y && same_origins xs ys
same_origins _ _ = false

abbrev pub is_for : Place → Op → List Origin → Kept → Bool
is_for p op inputs k = same_place p k.home && same_op op k.op && same_origins inputs k.inputs

-- the node that is kept for a place, an op and inputs
abbrev pub kept : Place → Op → List Origin → List Kept → Option ℕ
kept p op inputs [] = None
kept p op inputs (k ∷ ks) = if is_for p op inputs k then Some k.node else kept p op inputs ks

-- that, or the node that is kept from now on
abbrev pub or_else : Option ℕ → ℕ → ℕ
or_else None n = n
or_else (Some m) n = m

abbrev pub kept_or : Place → Op → List Origin → (node : ℕ) → List Kept → ℕ
kept_or p op inputs n ks = or_else (kept p op inputs ks) n

abbrev pub with_new : Option ℕ → Kept → List Kept → List Kept
with_new None k ks = ks ++ k ∷ []
with_new (Some m) k ks = ks

abbrev pub with_kept : Place → Op → List Origin → (node : ℕ) → List Kept → List Kept
with_kept p op inputs n ks = with_new (kept p op inputs ks) (record { home = p; op = op; inputs = inputs; node = n }) ks
