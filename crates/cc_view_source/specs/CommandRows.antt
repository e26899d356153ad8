-- Lists of arguments with their commands.
use Rattle.std.specs.Prelude.{◌≡◌, ℕ, List, [], ◌∷◌, Option, Some, None, codes}
use Rattle.cc_command.specs.Command.{default_recipe}
use Rattle.cc_view_source.specs.Command.{Command, graph, steps, listing, explain, command_of}
use Rattle.cc_view_source.specs.declared.arguments.Drawing.TheVariants.{Dot, Rows}

-- the command of the arguments after the program's name
abbrev pub command_after_name : List (List ℕ) → Option Command
command_after_name arguments = command_of (codes "rvcc-view" ∷ arguments)

pub record GraphRows : Type 0 where
  pub name_alone : command_after_name (codes "graph" ∷ codes "a" ∷ []) ≡ Some (graph (codes "a") (codes "none") None None Dot)
  pub all_options : command_after_name (codes "graph" ∷ codes "--form=rows" ∷ codes "a" ∷ codes "--after" ∷ codes "12" ∷ codes "--function" ∷ codes "main" ∷ codes "--recipe=cne" ∷ [])
      ≡ Some (graph (codes "a") (codes "cne") (Some (codes "main")) (Some 12) Rows)
  pub no_step : command_after_name (codes "graph" ∷ codes "a" ∷ codes "--function=" ∷ codes "--after=0" ∷ []) ≡ Some (graph (codes "a") (codes "none") (Some []) (Some 0) Dot)
  pub after_alone : command_after_name (codes "graph" ∷ codes "a" ∷ codes "--after" ∷ codes "12" ∷ []) ≡ None
  pub great_after : command_after_name (codes "graph" ∷ codes "a" ∷ codes "--function" ∷ codes "f" ∷ codes "--after" ∷ codes "4294967296" ∷ []) ≡ None
  pub unknown_form : command_after_name (codes "graph" ∷ codes "a" ∷ codes "--form" ∷ codes "svg" ∷ []) ≡ None
  pub no_name : command_after_name (codes "graph" ∷ []) ≡ None
  pub two_names : command_after_name (codes "graph" ∷ codes "a" ∷ codes "b" ∷ []) ≡ None

pub record OtherRows : Type 0 where
  pub steps_alone : command_after_name (codes "steps" ∷ codes "a" ∷ []) ≡ Some (steps (codes "a") default_recipe)
  pub steps_recipe : command_after_name (codes "steps" ∷ codes "a" ∷ codes "--recipe" ∷ codes "fold" ∷ []) ≡ Some (steps (codes "a") (codes "fold"))
  pub steps_after : command_after_name (codes "steps" ∷ codes "a" ∷ codes "--after" ∷ codes "1" ∷ []) ≡ None
  pub listing_alone : command_after_name (codes "listing" ∷ codes "a" ∷ []) ≡ Some (listing (codes "a") default_recipe)
  pub listing_recipe : command_after_name (codes "listing" ∷ codes "--recipe=none" ∷ codes "a" ∷ []) ≡ Some (listing (codes "a") (codes "none"))
  pub explain_alone : command_after_name (codes "explain" ∷ codes "a" ∷ []) ≡ Some (explain (codes "a") default_recipe)
  pub explain_recipe : command_after_name (codes "explain" ∷ codes "a" ∷ codes "--recipe=" ∷ []) ≡ Some (explain (codes "a") [])
  pub nothing : command_after_name [] ≡ None
  pub another_command : command_after_name (codes "build" ∷ codes "a" ∷ codes "b" ∷ []) ≡ None
  pub help : command_after_name (codes "explain" ∷ codes "--help" ∷ []) ≡ None

pub record CommandRows : Type 0 where
  pub graphs : GraphRows
  pub others : OtherRows
