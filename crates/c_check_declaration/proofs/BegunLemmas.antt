-- What an initialiser is by its form.
use Rattle.std.proofs.Common.{◌≡◌, ℕ, suc, ◌&&◌, Bool, true, false, List, [], ◌∷◌, ◌++◌, length, Option, None, Some, unwrap_or, if◌then◌else◌, refl, sym, ◌∙◌, ap}
use Rattle.std.specs.Option.{option_and_then}
use Rattle.c_ast.specs.declared.list.Next.{Next}
use Rattle.c_ast.specs.declared.token.Span.{Span}
use Rattle.c_ast.specs.declared.declaration.Init.{Init}
use Rattle.c_ast.specs.declared.declaration.Init.TheVariants as e
use Rattle.c_ast.specs.Productions as l
use Rattle.c_ast.specs.Tree.{Tree, Leaf, Node, Nil, Cons}
use Rattle.c_ast.specs.Declarations.{init_tree, inits, ended_by}
use Rattle.c_ast.proofs.lemmas.InitViews.{tree-List, inits-none, inits-snoc}
use Rattle.c_ast.specs.Spelling.{start_of}
use Rattle.c_typed.specs.Typed.{ElementTrees, no_elements}
use Rattle.c_check_def.specs.State.{MaybeType, State, Elaborated, ◌>>=◌, pure, if_some}
use Rattle.c_check_def.specs.Leaves.{characters_of}
use Rattle.c_check_def.specs.Expressions.{more_characters}
use Rattle.c_check_def.specs.Initialisers.{Elements, joined, both_joined, value, string_for, characters, initialiser, elements, list_for, character_array, count_in, is_list_type, sets_to_zero}
use Rattle.c_check_declaration.specs.Pieces.{if_made}
use Rattle.c_check_declaration.specs.Parts.{text_in, is_list, begun, element}
use Rattle.c_check_declaration.proofs.InitLemmas.{count-inits, count-ended, zero-ended}
use Rattle.c_check_declaration.proofs.PieceLemmas.{joined-joined}

-- ---- expressions

text-begun : (b : Bool) (t : MaybeType) (object_offset : ℕ) (x : Tree) (cs : List ℕ) (n : Option ℕ) (s : State) → string_for b t object_offset x cs n s ≡ begun b t object_offset x (Some cs) n s
text-begun b t object_offset x cs None s = refl
text-begun b t object_offset x cs (Some n) s = refl

pub init-begun : (b : Bool) (t : MaybeType) (object_offset : ℕ) (x : Tree) (s : State) → is_list x ≡ false →
    initialiser b t object_offset x s ≡ begun b t object_offset x (text_in x) (option_and_then character_array t) s
init-begun b t object_offset (Node l.InitList c) s h = absurd cc
init-begun b t object_offset (Node l.Text (Cons x (Cons xs none))) s h =
    text-begun b t object_offset (Node l.Text (Cons x (Cons xs none))) (characters_of x ++ more_characters xs) (option_and_then character_array t) s
init-begun b t object_offset (Node l.Text (Cons x (Leaf k))) s h = refl
init-begun b t object_offset (Node l.Text (Cons x (Node k c))) s h = refl
init-begun b t object_offset (Node l.Text (Cons x Nil)) s h = refl
init-begun b t object_offset (Node l.Text (Leaf k)) s h = refl
init-begun b t object_offset (Node l.Text (Node k c)) s h = refl
init-begun b t object_offset (Node l.Text Nil) s h = refl
init-begun b t object_offset (Node k c) s h = refl
init-begun b t object_offset (Leaf k) s h = refl
init-begun b t object_offset Nil s h = refl
init-begun b t object_offset (Cons x y) s h = refl

-- a string for an array of characters, and anything else
pub begun-text : (b : Bool) (t : MaybeType) (object_offset : ℕ) (x : Tree) (s : State) (cs : List ℕ) (n o : ℕ) → is_list x ≡ false → text_in x ≡ Some cs →
    option_and_then character_array t ≡ Some n → start_of x ≡ Some o → initialiser b t object_offset x s ≡ characters object_offset o cs n s
begun-text b t object_offset x s cs n o plain text length start =
    init-begun b t object_offset x s plain ∙ ap (λ y. begun b t object_offset x y (option_and_then character_array t) s) text ∙ ap (λ m. begun b t object_offset x (Some cs) m s) length
    ∙ ap (λ p. characters object_offset (unwrap_or p 0) cs n s) start

begun-none : (b : Bool) (t : MaybeType) (object_offset : ℕ) (x : Tree) (cs : Option (List ℕ)) (s : State) → begun b t object_offset x cs None s ≡ value b t object_offset x s
begun-none b t object_offset x None s = refl
begun-none b t object_offset x (Some cs) s = refl

pub begun-other : (b : Bool) (t : MaybeType) (object_offset : ℕ) (x : Tree) (s : State) → is_list x ≡ false → option_and_then character_array t ≡ None →
    initialiser b t object_offset x s ≡ value b t object_offset x s
begun-other b t object_offset x s plain none =
    init-begun b t object_offset x s plain ∙ ap (λ m. begun b t object_offset x (text_in x) m s) none ∙ begun-none b t object_offset x (text_in x) s

pub begun-value : (b : Bool) (t : MaybeType) (object_offset : ℕ) (x : Tree) (s : State) → is_list x ≡ false → text_in x ≡ None → initialiser b t object_offset x s ≡ value b t object_offset x s
begun-value b t object_offset x s plain none =
    init-begun b t object_offset x s plain ∙ ap (λ y. begun b t object_offset x y (option_and_then character_array t) s) none

-- ---- lists

module _ (b : Bool) (t : MaybeType) (object_offset : ℕ) where
  zero-set : (u : MaybeType) (x : Init) (xs : List (Next Init)) (comma : Option Span) → sets_to_zero u (ended_by (inits init_tree x xs) comma) ≡ sets_to_zero u (inits init_tree x xs)
  zero-set None x xs comma = refl
  zero-set (Some u) x xs comma = ap (λ z. is_list_type u && z) (zero-ended init_tree x xs comma)

  elements-ended : (x : Init) (xs : List (Next Init)) (comma : Option Span) (s : State) →
      elements b t object_offset (ended_by (inits init_tree x xs) comma) s ≡ elements b t object_offset (inits init_tree x xs) s
  elements-ended x xs None s = refl
  elements-ended x xs (Some a) s = refl

  pub elements-one : (x : Init) (s : State) → elements b t object_offset (inits init_tree x []) s ≡ element b t object_offset 0 (init_tree x) s
  elements-one x s = ap (λ z. elements b t object_offset z s) (inits-none init_tree x)

  pub elements-more : (x : Init) (xs : List (Next Init)) (y : Next Init) (s : State) →
      elements b t object_offset (inits init_tree x (xs ++ y ∷ [])) s
      ≡ (
        both_joined (elements b t object_offset (inits init_tree x xs) s).0
            (element b t object_offset (suc (length xs)) (init_tree y.element) (elements b t object_offset (inits init_tree x xs) s).1).0,
        (element b t object_offset (suc (length xs)) (init_tree y.element) (elements b t object_offset (inits init_tree x xs) s).1).1,
      )
  elements-more x xs y s =
      let r = elements b t object_offset (inits init_tree x xs) s in
      ap (λ z. elements b t object_offset z s) (inits-snoc init_tree x xs y)
      ∙ ap (λ (n : ℕ). (both_joined r.0 (element b t object_offset n (init_tree y.element) r.1).0, (element b t object_offset n (init_tree y.element) r.1).1)) (count-inits init_tree x xs)

  -- the whole list: zeros, or its elements
  abbrev chosen : (zero : Bool) → (offset count : ℕ) → Elements × State → State → Elements × State
  chosen true o n r s = (Some no_elements, s)
  chosen false o n r s = if_some r.0 (list_for t o n) r.1

  whole-chosen : (q : Bool) (o n : ℕ) (x : Tree) (s : State) →
      (if q then pure (Some no_elements) else (elements b t object_offset x >>= λ xs. if_some xs (list_for t o n))) s ≡ chosen q o n (elements b t object_offset x s) s
  whole-chosen true o n x s = refl
  whole-chosen false o n x s = refl

  pub init-list : (a : Span) (x : Init) (xs : List (Next Init)) (comma : Option Span) (z : Span) (s : State) →
      initialiser b t object_offset (init_tree (e.List a x xs comma z)) s
      ≡ chosen (sets_to_zero t (inits init_tree x xs)) a.at (suc (length xs)) (elements b t object_offset (inits init_tree x xs) s) s
  init-list a x xs comma z s =
      let ended = ended_by (inits init_tree x xs) comma in
      ap (λ y. initialiser b t object_offset y s) (tree-List a x xs comma z)
      ∙ whole-chosen (sets_to_zero t ended) a.at (count_in ended) ended s
      ∙ ap (λ q. chosen q a.at (count_in ended) (elements b t object_offset ended s) s) (zero-set t x xs comma)
      ∙ ap (λ n. chosen (sets_to_zero t (inits init_tree x xs)) a.at n (elements b t object_offset ended s) s) (count-ended init_tree x xs comma)
      ∙ ap (λ r. chosen (sets_to_zero t (inits init_tree x xs)) a.at (suc (length xs)) r s) (elements-ended x xs comma s)

  pub list-zero : (a : Span) (x : Init) (xs : List (Next Init)) (comma : Option Span) (z : Span) (s : State) → sets_to_zero t (inits init_tree x xs) ≡ true →
      initialiser b t object_offset (init_tree (e.List a x xs comma z)) s ≡ (Some no_elements, s)
  list-zero a x xs comma z s h =
      init-list a x xs comma z s ∙ ap (λ q. chosen q a.at (suc (length xs)) (elements b t object_offset (inits init_tree x xs) s) s) h

  pub list-elements : (a : Span) (x : Init) (xs : List (Next Init)) (comma : Option Span) (z : Span) (s : State) → sets_to_zero t (inits init_tree x xs) ≡ false →
      initialiser b t object_offset (init_tree (e.List a x xs comma z)) s
      ≡ if_some (elements b t object_offset (inits init_tree x xs) s).0 (list_for t a.at (suc (length xs))) (elements b t object_offset (inits init_tree x xs) s).1
  list-elements a x xs comma z s h =
      init-list a x xs comma z s ∙ ap (λ q. chosen q a.at (suc (length xs)) (elements b t object_offset (inits init_tree x xs) s) s) h

-- ---- made

pub made-none : (old : ElementTrees) (xs : Elements) → None ≡ both_joined (Some old) xs → xs ≡ None
made-none old None h = refl
made-none old (Some es) h = cc

pub made-both : (a b : Bool) (old new newer : ElementTrees) (xs ys : Elements) → if_made a new ≡ both_joined (Some old) xs → if_made b newer ≡ both_joined (Some new) ys →
    if_made (a && b) newer ≡ both_joined (Some old) (both_joined xs ys)
made-both false b old new newer None ys h g = refl
made-both false b old new newer (Some x) ys h g = cc
made-both true b old new newer None ys h g = cc
made-both true false old new newer (Some x) None h g = refl
made-both true false old new newer (Some x) (Some y) h g = cc
made-both true true old new newer (Some x) None h g = cc
made-both true true old new newer (Some x) (Some y) h g = let one : new ≡ joined old x = cc in let two : newer ≡ joined new y = cc in ap Some (two ∙ ap (λ z. joined z y) one ∙ joined-joined old x y)

-- a list that is made, or is not
made-some : (old new : ElementTrees) (xs : Elements) → Some new ≡ both_joined (Some old) xs → (es : ElementTrees) × (xs ≡ Some es) × (new ≡ joined old es)
made-some old new None h = absurd cc
made-some old new (Some es) h = (es, refl, cc)

fits-joined : (b : Bool) (old new es : ElementTrees) → new ≡ joined old es → if_made b new ≡ both_joined (Some old) (if_made b es)
fits-joined false old new es h = refl
fits-joined true old new es h = ap Some h

module _ (f : ElementTrees → Elaborated Elements) (s : State) (old new : ElementTrees) (xs : Elements) where
  pub finish-none : (made : Bool) → if_made made new ≡ both_joined (Some old) xs → made ≡ false → None ≡ both_joined (Some old) (if_some xs f s).0
  finish-none made h m = let none : xs ≡ None = made-none old xs (ap (λ b. if_made b new) (sym m) ∙ h) in ap (λ x. both_joined (Some old) (if_some x f s).0) (sym none)

  pub finish-still : (made : Bool) → if_made made new ≡ both_joined (Some old) xs → made ≡ false → s ≡ (if_some xs f s).1
  finish-still made h m = let none : xs ≡ None = made-none old xs (ap (λ b. if_made b new) (sym m) ∙ h) in ap (λ x. (if_some x f s).1) (sym none)

  pub finish-some : (made fits : Bool) → if_made made new ≡ both_joined (Some old) xs → made ≡ true → ((es : ElementTrees) → if_made fits es ≡ (f es s).0) →
      if_made fits new ≡ both_joined (Some old) (if_some xs f s).0
  finish-some made fits h m g =
      let r = made-some old new xs (ap (λ b. if_made b new) (sym m) ∙ h) in
      fits-joined fits old new r.0 r.2 ∙ ap (both_joined (Some old)) (g r.0) ∙ ap (λ x. both_joined (Some old) (if_some x f s).0) (sym r.1)

  pub finish-state : (made : Bool) (u : State) → if_made made new ≡ both_joined (Some old) xs → made ≡ true → ((es : ElementTrees) → u ≡ (f es s).1) → u ≡ (if_some xs f s).1
  finish-state made u h m g =
      let r = made-some old new xs (ap (λ b. if_made b new) (sym m) ∙ h) in
      g r.0 ∙ ap (λ x. (if_some x f s).1) (sym r.1)
