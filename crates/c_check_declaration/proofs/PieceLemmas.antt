-- Written elements grow at their end.
use Rattle.std.proofs.Common.{◌≡◌, ◌<◌, map, length, List, [], ◌∷◌, ◌++◌, None, Some, refl, sym, ap, ◌∙◌, arith}
use Rattle.std.proofs.lemmas.List.{map-append}
use Rattle.c_typed.specs.ProgramEncoding as program
use Rattle.c_typed.specs.declared.program.Written.{Written}
use Rattle.c_typed.specs.Typed.{ElementTrees, no_elements, value_then, characters_then, initial_elements, characters_at}
use Rattle.c_typed.specs.StmtViews.{elements_of}
use Rattle.c_typed.specs.declared.statement.Element.{Element}
use Rattle.c_typed.specs.declared.statement.Element.TheVariants as element
use Rattle.c_check_def.specs.Initialisers.{Elements, both_joined, joined, written_value, written_of}
use Rattle.c_check_declaration.specs.Pieces.{trees_of, value_or_elements}
use Rattle.c_check_declaration.specs.declared.pieces.Piece.{Piece}
use Rattle.c_check_declaration.specs.declared.pieces.Piece.TheVariants as piece

pub joined-none : (es : ElementTrees) → joined es no_elements ≡ es
joined-none no_elements = refl
joined-none (value_then object_offset e es) = ap (value_then object_offset e) (joined-none es)
joined-none (characters_then object_offset cs es) = ap (characters_then object_offset cs) (joined-none es)

pub joined-joined : (xs ys zs : ElementTrees) → joined (joined xs ys) zs ≡ joined xs (joined ys zs)
joined-joined no_elements ys zs = refl
joined-joined (value_then object_offset e xs) ys zs = ap (value_then object_offset e) (joined-joined xs ys zs)
joined-joined (characters_then object_offset cs xs) ys zs = ap (characters_then object_offset cs) (joined-joined xs ys zs)

pub trees-more : (ps : List Piece) (p : Piece) → trees_of (ps ++ p ∷ []) ≡ joined (trees_of ps) (trees_of (p ∷ []))
trees-more [] p = refl
trees-more (piece.Value object_offset e ∷ ps) p = ap (value_then object_offset e) (trees-more ps p)
trees-more (piece.Characters object_offset cs ∷ ps) p = ap (characters_then object_offset cs) (trees-more ps p)

pub elements-more : (es : List Element) (e : Element) → elements_of (es ++ e ∷ []) ≡ joined (elements_of es) (elements_of (e ∷ []))
elements-more [] e = refl
elements-more (element.Value object_offset x ∷ es) e = ap (value_then object_offset x) (elements-more es e)
elements-more (element.Characters object_offset cs ∷ es) e = ap (characters_then object_offset cs) (elements-more es e)

pub written-joined : (xs ys : ElementTrees) → written_of (joined xs ys) ≡ written_of xs ++ written_of ys
written-joined no_elements ys = refl
written-joined (value_then object_offset e xs) ys = ap (λ ws. written_value object_offset e ∷ ws) (written-joined xs ys)
written-joined (characters_then object_offset cs xs) ys = ap (λ ws. characters_at object_offset cs ∷ ws) (written-joined xs ys)

-- more than one element
two-or-more : (p : Piece) (ps : List Piece) (q : Piece) → value_or_elements (trees_of ((p ∷ ps) ++ q ∷ [])) ≡ initial_elements (trees_of ((p ∷ ps) ++ q ∷ []))
two-or-more (piece.Value object_offset e) [] (piece.Value o x) = refl
two-or-more (piece.Value object_offset e) [] (piece.Characters o cs) = refl
two-or-more (piece.Value object_offset e) (piece.Value o x ∷ ps) q = refl
two-or-more (piece.Value object_offset e) (piece.Characters o cs ∷ ps) q = refl
two-or-more (piece.Characters object_offset cs) ps q = refl

pub not-lone : (ps : List Piece) (q : Piece) → 0 < length ps → value_or_elements (trees_of (ps ++ q ∷ [])) ≡ initial_elements (trees_of (ps ++ q ∷ []))
not-lone [] q h = absurd (omega arith)
not-lone (p ∷ ps) q h = two-or-more p ps q

-- one more written element
pub written-more : (ws : List Written) (w : Written) (ps : List Piece) (p : Piece) → map program.written_of ws ≡ written_of (trees_of ps) →
    program.written_of w ∷ [] ≡ written_of (trees_of (p ∷ [])) → map program.written_of (ws ++ w ∷ []) ≡ written_of (trees_of (ps ++ p ∷ []))
written-more ws w ps p before now =
    map-append program.written_of ws (w ∷ []) ∙ ap (λ vs. vs ++ program.written_of w ∷ []) before ∙ ap (λ vs. written_of (trees_of ps) ++ vs) now
    ∙ sym (ap written_of (trees-more ps p) ∙ written-joined (trees_of ps) (trees_of (p ∷ [])))

pub ruleset grows = (joined-none, trees-more, elements-more, written-joined)

-- what is added to nothing
pub joined-empty : (xs : Elements) → both_joined (Some no_elements) xs ≡ xs
joined-empty None = refl
joined-empty (Some es) = refl

pub ruleset empty = (joined-empty)
