-- The types of members that all have one.
use Rattle.std.proofs.Common.{◌≡◌, ℕ, zero, suc, List, [], ◌∷◌, ◌++◌, length, slice_get, Option, None, Some, refl, sym, ap, ◌∙◌, subst}
use Rattle.std.specs.Option.{option_map, option_and_then}
use Rattle.c_type.specs.Trees.{TypeTree}
use Rattle.c_type.specs.Layout.{Definitions}
use Rattle.c_type.specs.WellDefined.{AreLaidOut}
use Rattle.c_check_def.specs.State.{MaybeType}
use Rattle.c_check_def.specs.Externals.{Member, types_of}
use Rattle.c_check.specs.MemberLists.{LaidIfSome, AllLaid}

abbrev cons_if : MaybeType → Option (List TypeTree) → Option (List TypeTree)
cons_if t r = option_and_then (λ t. option_map (λ ts. t ∷ ts) r) t

record ConsIs (t : MaybeType) (r : Option (List TypeTree)) (ts : List TypeTree) : Type 0 where
  first : TypeTree
  rest : List TypeTree
  first_is : t ≡ Some first
  rest_is : r ≡ Some rest
  whole : ts ≡ first ∷ rest

cons-is : (t : MaybeType) (r : Option (List TypeTree)) (ts : List TypeTree) → cons_if t r ≡ Some ts → ConsIs t r ts
cons-is None r ts h = absurd (cc)
cons-is (Some t) None ts h = absurd (cc)
cons-is (Some t) (Some us) ts h = record { first = t; rest = us; first_is = refl; rest_is = refl; whole = cc }

pub types-more : (xs : List Member) (x : Member) (ts : List TypeTree) (t : TypeTree) → types_of xs ≡ Some ts → x.type ≡ Some t → types_of (xs ++ x ∷ []) ≡ Some (ts ++ t ∷ [])
types-more [] x ts t h e = let none : [] ≡ ts = cc in ap (λ u. cons_if u (Some [])) e ∙ ap (λ us. Some (us ++ t ∷ [])) none
types-more (y ∷ xs) x ts t h e =
    let c = cons-is y.type (types_of xs) ts h in
    ap (cons_if y.type) (types-more xs x c.rest t c.rest_is e) ∙ ap (λ u. cons_if u (Some (c.rest ++ t ∷ []))) c.first_is
    ∙ ap (λ us. Some (us ++ t ∷ [])) (sym c.whole)

none-rest : (t : MaybeType) → cons_if t None ≡ None
none-rest None = refl
none-rest (Some t) = refl

pub types-none : (xs : List Member) (k : ℕ) (x : Member) → slice_get xs k ≡ Some x → x.type ≡ None → types_of xs ≡ None
types-none [] k x h e = absurd (cc)
types-none (y ∷ xs) zero x h e = let same : y ≡ x = cc in ap (λ (y : Member). cons_if y.type (types_of xs)) same ∙ ap (λ u. cons_if u (types_of xs)) e
types-none (y ∷ xs) (suc k) x h e = ap (cons_if y.type) (types-none xs k x h e) ∙ none-rest y.type

pub types-length : (xs : List Member) (ts : List TypeTree) → types_of xs ≡ Some ts → length ts ≡ length xs
types-length [] ts h = let none : [] ≡ ts = cc in ap length (sym none)
types-length (x ∷ xs) ts h = let c = cons-is x.type (types_of xs) ts h in ap length c.whole ∙ ap suc (types-length xs c.rest c.rest_is)

pub types-laid : (defs : Definitions) (xs : List Member) (ts : List TypeTree) → AllLaid defs xs → types_of xs ≡ Some ts → AreLaidOut defs ts
types-laid defs [] ts laid h = let none : [] ≡ ts = cc in subst (AreLaidOut defs) none tt
types-laid defs (x ∷ xs) ts laid h =
    let c = cons-is x.type (types_of xs) ts h in
    subst (AreLaidOut defs) (sym c.whole) (subst (LaidIfSome defs) c.first_is laid.0, types-laid defs xs c.rest laid.1 c.rest_is)

pub laid-more : (defs : Definitions) (xs : List Member) (x : Member) → AllLaid defs xs → LaidIfSome defs x.type → AllLaid defs (xs ++ x ∷ [])
laid-more defs [] x h k = (k, tt)
laid-more defs (y ∷ xs) x h k = (h.0, laid-more defs xs x h.1 k)
