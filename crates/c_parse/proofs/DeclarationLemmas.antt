-- Steps of the reader at declarations.
use Rattle.std.proofs.Common.{◌≡◌, ℕ, ◌-◌, ◌+◌, ◌<◌, Bool, true, ◌||◌, List, [], ◌∷◌, Option, Some, None, refl, sym, ap, ◌∙◌, arith, fold, if◌then◌else◌}
use Rattle.c_lex.specs.declared.punct.Punct.TheVariants as m
use Rattle.c_lex.specs.declared.token.Token.{Token}
use Rattle.c_lex.specs.declared.token.TokenKind.{TokenKind}
use Rattle.c_ast.specs.declared.declaration.Init.{Init}
use Rattle.c_ast.specs.declared.declaration.Locals.{Locals}
use Rattle.c_ast.specs.declared.list.Next.{Next}
use Rattle.c_ast.specs.Nonterminals.{Nonterminal, Opt, Many, InitItems}
use Rattle.c_ast.specs.Nonterminals as nonterminal
use Rattle.c_ast.specs.Grammar.{symbols_of, rule}
use Rattle.c_ast.specs.Declarations.{init_tree, inits, init_after, declarator, more_declarators, locals_tree}
use Rattle.c_ast.specs.Productions.{Production}
use Rattle.c_ast.specs.Productions as production
use Rattle.c_ast.specs.Nodes.{node, mark}
use Rattle.c_ast.specs.Specifiers.{constant, spec_tree}
use Rattle.c_ast.specs.Terminals.{Mark, is}
use Rattle.c_ast.specs.Tree.{Tree}
use Rattle.c_ast.proofs.lemmas.InitViews.{init_views}
use Rattle.c_ast.proofs.lemmas.Lists.{grows}
use Rattle.c_ast.specs.Reader.{ReadResult, Read, and_then, token, read, first, begun, children, one, turns, later, production_of}
use Rattle.c_ast.specs.PredictSets.{head, at, start, next, init_next, begins_init, begins_expr}
use Rattle.c_ast.specs.declared.token.Span.{Span}
use Rattle.c_parse.specs.declared.declaration.Inits.{Inits}
use Rattle.c_parse.specs.Made.{inits_tree, more_production}
use Rattle.c_parse_tokens.proofs.lemmas.Expressions.{turn-none, turn-some, read-steps}
use Rattle.c_parse.proofs.FlatReads.{begun-row}
use Rattle.c_parse.proofs.PlainReads.{read-locals}
use Rattle.c_parse_tokens.proofs.lemmas.Reads.{loops, repeats}
use Rattle.c_parse_tokens.proofs.lemmas.SameNonterminal.{init-other, init-list}

abbrev comma_next : Option TokenKind → Option Production
comma_next h = if at (is (Mark m.Comma)) h then Some production.InitComma else None

next_first : (h : Option TokenKind) → next InitItems production.InitFirst h ≡ comma_next h
unfolding next init_next
next_first None = refl
next_first (Some k) = refl

next_next : (h : Option TokenKind) → next InitItems production.InitNext h ≡ comma_next h
unfolding next init_next
next_next None = refl
next_next (Some k) = refl

next_fold : (xs : List (Next Init)) (before : Tree) → ((h : Option TokenKind) → next InitItems (production_of before) h ≡ comma_next h) →
    (h : Option TokenKind) → next InitItems (production_of (fold (init_after init_tree) before xs)) h ≡ comma_next h
unfolding production_of
next_fold [] before e h = e h
next_fold (x ∷ xs) before e h = next_fold xs (init_after init_tree before x) next_next h

pub next-inits : (x : Init) (xs : List (Next Init)) (h : Option TokenKind) →
    next InitItems (production_of (inits init_tree x xs)) h ≡ comma_next h
unfolding inits production_of
next-inits x xs h = next_fold xs (node production.InitFirst (init_tree x ∷ [])) next_first h

pub next-comma : (h : Option TokenKind) →
    next InitItems production.InitComma h ≡ (if at begins_init h then Some production.InitNext else None)
unfolding next init_next
next-comma None = refl
next-comma (Some k) = refl

pub more-some : (x : Inits) (comma : Span) (h : Option TokenKind) → x.comma ≡ Some comma →
    next InitItems (production_of (inits_tree x)) h ≡ (if at begins_init h then Some (more_production x) else None)
unfolding production_of
more-some x comma h e = rw e (next-comma h)

pub init-begins : (h : Option TokenKind) → at begins_init h ≡ (at begins_expr h || at (is (Mark m.LBrace)) h)
unfolding begins_init
init-begins None = refl
init-begins (Some k) = refl

first_inits : (rd : Nonterminal → List Token → ReadResult) (x : Init) (ts k : List Token) → rd nonterminal.Init ts ≡ Read (init_tree x) k →
    first rd InitItems ts ≡ Read (node production.InitFirst (init_tree x ∷ [])) k
unfolding first begun start children one symbols_of rule
first_inits rd x ts k e = rw e

pub inits-begin : (n : ℕ) (x : Init) (ts k : List Token) → 0 < n → read (n - 1) nonterminal.Init ts ≡ Read (init_tree x) k →
    read n InitItems ts ≡ turns (read (n - 1)) (n - 0) InitItems (inits init_tree x []) k
unfolding inits
inits-begin n x ts k h e =
    let d : n - 0 ≡ n = omega arith in
    read-steps n InitItems ts h
    ∙ ap (λ (o : ReadResult). and_then o (turns (read (n - 1)) n InitItems)) (first_inits (read (n - 1)) x ts k e)
    ∙ ap (λ (m : ℕ). turns (read (n - 1)) m InitItems (node production.InitFirst (init_tree x ∷ [])) k) (sym d)

pub inits-go : (n i : ℕ) (x y : Inits) (ts k : List Token) (b : Bool) → i < n →
    next InitItems (production_of (inits_tree x)) (head ts) ≡ (if b then Some (more_production x) else None) → b ≡ true →
    later (read (n - 1)) (more_production x) (inits_tree x) ts ≡ Read (inits_tree y) k →
    turns (read (n - 1)) (n - i) InitItems (inits_tree x) ts ≡ turns (read (n - 1)) (n - (i + 1)) InitItems (inits_tree y) k
inits-go n i x y ts k b h e d made =
    turn-some (read (n - 1)) n i InitItems (inits_tree x) ts (more_production x) h (e ∙ ap (λ (c : Bool). if c then Some (more_production x) else None) d)
    ∙ ap (λ (o : ReadResult). and_then o (turns (read (n - 1)) (n - (i + 1)) InitItems)) made

pub ruleset declarations = (loops, grows, init_views, read-steps, turn-none, turn-some, next-inits, next-comma, init-begins, init-other, init-list)

-- ---- declarations in blocks

pub locals-read : (n : ℕ) (ts : List Token) → 0 < n →
    read n nonterminal.Locals ts
    ≡ and_then (read (n - 1) (Opt production.Constant) ts) (λ q k. and_then (read (n - 1) nonterminal.Spec k) (λ s j.
    and_then (read (n - 1) nonterminal.Decl j) (λ t i. and_then (read (n - 1) (Many production.MoreDecls) i) (λ u h.
    and_then (token (Mark m.Semicolon) h) (λ v g. Read (node production.Locals (q ∷ s ∷ t ∷ u ∷ v ∷ [])) g)))))
unfolding one symbols_of rule
locals-read n ts h = read-locals n ts h ∙ begun-row (read (n - 1)) production.Locals ts

pub locals-tree : (x : Locals) → locals_tree x ≡
    node production.Locals (constant x.qualifier ∷ spec_tree x.spec ∷ declarator x.first ∷ more_declarators x.more ∷ mark m.Semicolon x.semicolon ∷ [])
unfolding locals_tree
locals-tree x = refl

pub ruleset local_reads = (repeats, locals-read, locals-tree)
