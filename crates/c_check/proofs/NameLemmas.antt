-- The set of the names of members, one member more.
use Rattle.std.proofs.Common.{◌≡◌, Bool, true, false, List, [], ◌∷◌, ◌++◌, fold, refl, sym, ap, ◌∙◌}
use Rattle.std.proofs.Math.Bool.{or_assoc, or-false}
use Rattle.std.specs.Prelude.{◌||◌, if◌then◌else◌}
use Rattle.std.specs.Cmp.Lexicographic.{nat_list_eq_equiv}
use Rattle.std.proofs.lemmas.List.Folds.{list_any-append}
use Rattle.c_check_scope.specs.Scopes.{Name, same_name}
use Rattle.c_check_scope.specs.Names.{has_name, with_name}
use Rattle.c_check_def.specs.Externals.{Member, has_member}
use Rattle.c_check.specs.MemberLists.{names_of, name_set}

-- a name that is the same as another is among the names where that is
same-among : (ns : List Name) (m n : Name) → same_name m n ≡ true → has_name ns m ≡ has_name ns n
same-among [] m n h = refl
same-among (k ∷ ns) m n h = ap (λ b. b || has_name ns m) (nat_list_eq_equiv.congr m n k h) ∙ ap (λ b. same_name n k || b) (same-among ns m n h)

with-has : (ns : List Name) (m n : Name) → has_name (with_name ns m) n ≡ (has_name ns n || same_name m n)
with-has ns m n = by_test (has_name ns m) refl
  where
    by_same : (b : Bool) → same_name m n ≡ b → has_name ns m ≡ true → has_name ns n ≡ (has_name ns n || b)
    by_same true e h = let k : has_name ns n ≡ true = sym (same-among ns m n e) ∙ h in k ∙ sym (ap (λ b. b || true) k)
    by_same false e h = sym (or-false (has_name ns n))

    by_test : (b : Bool) → has_name ns m ≡ b → has_name (if b then ns else ns ++ m ∷ []) n ≡ (has_name ns n || same_name m n)
    by_test true h = by_same (same_name m n) refl h
    by_test false h =
        list_any-append (same_name n) ns (m ∷ []) ∙ ap (λ b. has_name ns n || b) (or-false (same_name n m))
        ∙ ap (λ b. has_name ns n || b) (nat_list_eq_equiv.symm n m)

has-fold : (ns : List Name) (xs : List Member) (name : Name) → has_name (fold with_name ns (names_of xs)) name ≡ (has_name ns name || has_member xs name)
has-fold ns [] name = sym (or-false (has_name ns name))
has-fold ns (x ∷ xs) name =
    has-fold (with_name ns x.name) xs name ∙ ap (λ b. b || has_member xs name) (with-has ns x.name name)
    ∙ or_assoc (has_name ns name) (same_name x.name name) (has_member xs name)

pub has-set : (xs : List Member) (name : Name) → has_name (name_set xs) name ≡ has_member xs name
has-set xs name = has-fold [] xs name

fold-more : (ns : List Name) (xs : List Member) (x : Member) → fold with_name ns (names_of (xs ++ x ∷ [])) ≡ with_name (fold with_name ns (names_of xs)) x.name
fold-more ns [] x = refl
fold-more ns (y ∷ xs) x = fold-more (with_name ns y.name) xs x

pub set-more : (xs : List Member) (x : Member) → name_set (xs ++ x ∷ []) ≡ with_name (name_set xs) x.name
set-more xs x = fold-more [] xs x

names-more : (xs : List Member) (x : Member) → names_of (xs ++ x ∷ []) ≡ names_of xs ++ x.name ∷ []
names-more [] x = refl
names-more (y ∷ xs) x = ap (λ ns. y.name ∷ ns) (names-more xs x)

-- The names stay distinct where the new one is not among them.
pub distinct-more : (xs : List Member) (x : Member) → name_set xs ≡ names_of xs → has_member xs x.name ≡ false → name_set (xs ++ x ∷ []) ≡ names_of (xs ++ x ∷ [])
distinct-more xs x same new =
    set-more xs x ∙ ap (λ b. if b then name_set xs else name_set xs ++ x.name ∷ []) (has-set xs x.name ∙ new)
    ∙ ap (λ ns. ns ++ x.name ∷ []) same ∙ sym (names-more xs x)
