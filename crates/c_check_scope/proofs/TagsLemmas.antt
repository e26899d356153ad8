-- A tag that is new goes last.
use Rattle.std.proofs.Common.{◌≡◌, Bool, true, false, cond, [], ◌∷◌, ◌++◌, Option, Some, is_some, if◌then◌else◌, refl, sym, ap, ◌∙◌, true≢false}
use Rattle.std.specs.Map.{lookup}
use Rattle.indexmap.specs.IndexMap.{insert_entry}
use Rattle.c_check_scope.specs.Scopes.{Name, same_name}
use Rattle.c_check_scope.specs.Tags.{Tags, with_named_tag}

next : (b : Bool) (e : Name × Bool) (changed rest tail : Tags) (value : Option Bool) → false ≡ is_some (cond b (Some e.1) value) → (false ≡ is_some value → rest ≡ tail)
    → (if b then changed else e ∷ rest) ≡ e ∷ tail
next true e changed rest tail value none same = absurd (true≢false (sym none))
next false e changed rest tail value none same = ap (λ es. e ∷ es) (same none)

absent-last : (tags : Tags) (name : Name) → false ≡ is_some (lookup (same_name name) tags) → insert_entry same_name tags name false ≡ tags ++ (name, false) ∷ []
absent-last [] name none = refl
absent-last (e ∷ es) name none =
    next (same_name name e.0) e ((e.0, false) ∷ es) (insert_entry same_name es name false) (es ++ (name, false) ∷ []) (lookup (same_name name) es) none (absent-last es name)

pub named-last : (tags : Tags) (name : Name) → false ≡ is_some (lookup (same_name name) tags) → insert_entry same_name tags name false ≡ with_named_tag tags name
named-last tags name none = absent-last tags name none ∙ ap (λ b. if b then tags else tags ++ (name, false) ∷ []) none
