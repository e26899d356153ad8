-- A struct of the code that was found by its tag.
use Rattle.std.specs.Prelude.{◌≡◌, ℕ, true}
use Rattle.c_type.specs.Layout.{Definitions, is_defined}
use Rattle.c_type.specs.Level.{IsLevel}
use Rattle.c_type.specs.WellDefined.{AreDefinitions}
use Rattle.c_type.specs.Structs.{IsKept}
use Rattle.c_type.specs.declared.structs.Struct.{Struct}

pub record IsFound (defs : Definitions) (tag : ℕ) (s : Struct) : Type 0 where
  pub defined : is_defined defs tag ≡ true
  pub tagged : s.tag ≡ tag
  pub kept : IsKept defs s
  pub level : IsLevel defs tag
  pub ordered : AreDefinitions defs
