-- Images of programs, given the items of their functions.
use Rattle.std.specs.Prelude.{◌≡◌, List, map}
use Rattle.elf_file.specs.Image.{Sections}
use Rattle.g_graph.specs.Plain.{PlainLambda, PlainOmega}
use Rattle.s_linear.specs.declared.frame.CodeForm.{CodeForm}
use Rattle.rv_layout.specs.declared.item.Item.{Item}
use Rattle.rv_layout.specs.Layout.{laid_out}
use Rattle.cc_emit.specs.Image.{function_items, main_of, CanEmit}

-- the sections of a program of whose functions these are the items
abbrev pub image_of_items : PlainOmega → List (List Item) → Sections
image_of_items omega functions = laid_out functions omega.deltas (main_of omega)

-- These are the items, in a form of code, of the functions of lambdas of which an image of the program can be made.
pub record CanEmitItems (omega : PlainOmega) (functions : List (List Item)) : Type 0 where
  pub form : CodeForm
  pub lambdas : List PlainLambda
  pub can : CanEmit omega lambdas
  pub items_are : functions ≡ map (function_items form) lambdas
