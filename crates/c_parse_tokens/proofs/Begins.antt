-- Whether something begins with the next token.
use Rattle.std.proofs.Common.{◌≡◌, Bool, true, false, ◌||◌, Option, Some, None, refl, ap, ◌∙◌, if◌then◌else◌, is_some}
use Rattle.std.specs.Prelude.{option_map}
use Rattle.std.specs.Option.{option_and_then, option_map_or}
use Rattle.c_lex.specs.declared.keyword.Keyword.TheVariants as w
use Rattle.c_lex.specs.declared.token.TokenKind.{TokenKind}
use Rattle.c_ast.specs.Productions.{Production}
use Rattle.c_ast.specs.Productions as production
use Rattle.c_ast.specs.Terminals.{ThisKeyword, is}
use Rattle.c_ast.specs.PredictSets.{at, stmt, item, begins_type, begins_external, begins_repeated}

of_production : (l : Option Production) → is_some l ≡ option_map_or (λ x. true) l false
of_production None = refl
of_production (Some l) = refl

of_map : {X : Type 0} (f : X → Production) (o : Option X) → is_some o ≡ is_some (option_map f o)
of_map f None = refl
of_map f (Some x) = refl

of_head : (g : TokenKind → Option Production) (h : Option TokenKind) → is_some (option_and_then g h) ≡ at (λ k. option_map_or (λ l. true) (g k) false) h
of_head g None = refl
of_head g (Some k) = of_production (g k)

-- by the production that begins
pub begins_by : {X : Type 0} (f : X → Production) (g : TokenKind → Option Production) (o : Option X) (h : Option TokenKind) →
    option_map f o ≡ option_and_then g h → is_some o ≡ at (λ k. option_map_or (λ l. true) (g k) false) h
begins_by f g o h e = of_map f o ∙ ap is_some e ∙ of_head g h

by_type : (b : Bool) (l : Option Production) → option_map_or (λ x. true) (if b then Some production.Locals else l) false ≡ (b || option_map_or (λ x. true) l false)
by_type true l = refl
by_type false l = refl

pub item-begins : (h : Option TokenKind) → at (begins_repeated production.Items) h ≡ (at begins_type h || at (begins_repeated production.MoreStmts) h)
unfolding begins_repeated item
item-begins None = refl
item-begins (Some k) = by_type (begins_type k) (stmt k)

pub external-begins : (h : Option TokenKind) → at (begins_repeated production.Externals) h ≡ (at begins_type h || at (is (ThisKeyword w.Static)) h)
unfolding begins_repeated begins_external
external-begins None = refl
external-begins (Some k) = refl

pub ruleset beginnings = (item-begins, external-begins)
