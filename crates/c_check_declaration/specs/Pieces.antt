-- The trees that written elements of the code stand for, while their offsets may still be large.
use Rattle.std.specs.Prelude.{ℕ, Bool, true, false, List, [], ◌∷◌, Option, None, Some, refl}
use Rattle.std.specs.Coded.{Coded, code_by}
use Rattle.c_typed.specs.StmtEncoding.{coded_initial}
use Rattle.c_typed.specs.Typed.{ElementTrees, no_elements, value_then, characters_then, InitialTree, initial_value, initial_elements, PlaceTree, place, global, WrittenTree, word_at, link_at}
use Rattle.c_check_declaration.specs.declared.pieces.Piece.{Piece}
use Rattle.c_check_declaration.specs.declared.pieces.Piece.TheVariants as piece

abbrev pub trees_of : List Piece → ElementTrees
trees_of [] = no_elements
trees_of (piece.Value object_offset e ∷ ps) = value_then object_offset e (trees_of ps)
trees_of (piece.Characters object_offset cs ∷ ps) = characters_then object_offset cs (trees_of ps)

-- what was made, where no rule is broken
abbrev pub if_made : (made : Bool) → ElementTrees → Option ElementTrees
if_made true es = Some es
if_made false es = None

-- a lone value, or else the elements
abbrev pub value_or_elements : ElementTrees → InitialTree
value_or_elements (value_then object_offset e no_elements) = initial_value e
value_or_elements es = initial_elements es

-- the address of a global
abbrev pub written_link : (object_offset : ℕ) → PlaceTree → WrittenTree
written_link object_offset (place u (global k)) = link_at object_offset k
written_link object_offset p = word_at object_offset 4 0

-- How the logic stores elements: as an initialiser of these.
abbrev elements_in : InitialTree → ElementTrees
elements_in (initial_elements es) = es
elements_in i = no_elements

abbrev pub coded_elements : Coded ElementTrees
coded_elements = code_by InitialTree coded_initial initial_elements elements_in (λ _. refl)
