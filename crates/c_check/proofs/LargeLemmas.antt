-- The size of a struct, member by member.
use Rattle.std.proofs.Common.{◌≡◌, ℕ, ◌*◌, ◌<◌, ◌≤◌, max, List, [], ◌∷◌, refl, arith}
use Rattle.c_type.specs.Trees.{TypeTree}
use Rattle.c_type.specs.Layout.{Definitions, align, largest, size, members_end}
use Rattle.c_type.specs.WellDefined.{AreLaidOut}

-- these members are left of all, the others end there, and are so many
pub record EndAt (defs : Definitions) (all rest : List TypeTree) (count end alignment : ℕ) : Type 0 where
  pub ends : members_end (size defs) (align defs) end rest ≡ members_end (size defs) (align defs) 0 all
  pub aligned : max alignment (largest (align defs) rest) ≡ largest (align defs) all
  pub positive : 0 < alignment
  pub narrow : alignment ≤ 4
  pub short : end ≤ count * 2097152
  pub laid : AreLaidOut defs rest

largest-positive : (defs : Definitions) (ts : List TypeTree) → 0 < largest (align defs) ts
largest-positive defs [] = omega arith
largest-positive defs (t ∷ ts) = let h = largest-positive defs ts in omega (arith, h)

pub end-first : (defs : Definitions) (all : List TypeTree) → AreLaidOut defs all → EndAt defs all all 0 0 1
end-first defs all laid =
    let h = largest-positive defs all in
    record { ends = refl; aligned = omega (arith, h); positive = omega arith; narrow = omega arith; short = omega arith; laid = laid }
