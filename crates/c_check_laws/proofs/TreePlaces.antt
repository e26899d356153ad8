-- Where trees begin, and where their tokens stand.
use Rattle.std.proofs.Common.{◌≡◌, ◌≤◌, ◌<◌, inl, inr, ℕ, Bool, true, false, List, [], ◌∷◌, ◌++◌, length, refl, sym, ap, subst, arith}
use Rattle.std.specs.Prelude.{◌||◌, Some, All, unwrap_or}
use Rattle.std.proofs.lemmas.Bool.{cases_lt, false≢true}
use Rattle.std.proofs.lemmas.Bool.Decides.{nat_tests}
use Rattle.std.proofs.lemmas.List.Elements.{All-head, All-tail}
use Rattle.c_lex.specs.declared.token.Token.{Token}
use Rattle.c_ast.specs.Productions as l
use Rattle.c_ast.specs.Nonterminals as class
use Rattle.c_ast.specs.Tree.{Tree, Leaf, Node, Nil, Cons}
use Rattle.c_ast.specs.Grammar as grammar
use Rattle.c_ast.specs.Spelling.{spelled, tokens_of, first_offset}
use Rattle.c_ast.proofs.lemmas.Spelling.{spelled_append}
use Rattle.c_check_def.specs.Leaves.{begin_of}
use Rattle.c_check_laws.proofs.lemmas.ExpressionShapes.{level_small}
use Rattle.c_check_laws.proofs.lemmas.FileShapes.{spelled_more}

-- ---- a tree of a nonterminal that is no repetition and no option has a token

abbrev pub is_solid : class.Nonterminal → Bool
is_solid (class.Many k) = false
is_solid (class.Opt k) = false
is_solid c = true

abbrev some_solid : List grammar.Symbol → Bool
some_solid [] = false
some_solid (grammar.T s ∷ ss) = true
some_solid (grammar.N c ∷ ss) = is_solid c || some_solid ss

abbrev solid_form : grammar.Form → Bool
solid_form (grammar.One c) = is_solid c
solid_form (grammar.All ss) = some_solid ss

solid_low : (c : class.Nonterminal) → is_solid c ≡ true → class.nonterminal_number c ≤ 41
unfolding class.nonterminal_number
solid_low (class.Many k) e = absurd (false≢true e)
solid_low (class.Opt k) e = absurd (false≢true e)
solid_low (class.Binary level) e = let few = level_small level in omega (arith, few)
solid_low c e = omega arith

includes_low : (c b : class.Nonterminal) → class.nonterminal_number c ≤ 41 → class.includes c b ≡ true → class.nonterminal_number b ≤ 41
unfolding class.includes class.same_nonterminal class.nonterminal_number
includes_low (class.Many k) b h e = absurd (omega (arith, h))
includes_low (class.Opt k) b h e = absurd (omega (arith, h))
includes_low (class.Binary level) b h e = grind (arith, nat_tests, e, h)
includes_low c b h e = grind (arith, nat_tests, e)

-- a production of such a nonterminal has such a symbol
rule_solid : (p : l.Production) → class.nonterminal_number (grammar.rule p).of ≤ 41 → some_solid (grammar.symbols_of p) ≡ true
unfolding grammar.symbols_of grammar.rule class.nonterminal_number
rule_solid (l.Empty k) h = absurd (omega (arith, h))
rule_solid (l.More k) h = absurd (omega (arith, h))
rule_solid (l.Absent k) h = absurd (omega (arith, h))
rule_solid (l.Present k) h = absurd (omega (arith, h))
rule_solid p h = refl

-- the first part of some has a token, or the others have
solid_part : (first rest : Bool) → (first || rest) ≡ true → (more others all : ℕ) → more ≤ others → others ≤ all → (first ≡ true → others < all) → (rest ≡ true → more < others) → more < all
solid_part true rest e more others all a b c d = let x = c refl in omega (arith, a, x)
solid_part false rest e more others all a b c d = let x = d e in omega (arith, b, x)

solid_more : (f : grammar.Form) (t : Tree) → grammar.Fits f t → solid_form f ≡ true → (more : List Token) → length more < length (spelled t more)
unfolding grammar.Fits grammar.allowed spelled
solid_more (grammar.One c) (Node p children) h e more =
    solid_more (grammar.All (grammar.symbols_of p)) children h.2 (rule_solid p (includes_low c (grammar.rule p).of (solid_low c e) h.0)) more
solid_more (grammar.All []) Nil h e more = absurd (false≢true e)
solid_more (grammar.All (grammar.T s ∷ ss)) (Cons (Leaf x) children) h e more = let a = spelled_more children more in omega (arith, a)
solid_more (grammar.All (grammar.N c ∷ ss)) (Cons t children) h e more =
    solid_part (is_solid c) (some_solid ss) e (length more) (length (spelled children more)) (length (spelled t (spelled children more))) (spelled_more children more)
    (spelled_more t (spelled children more)) (λ q. solid_more (grammar.One c) t h.0 q (spelled children more)) (λ q. solid_more (grammar.All ss) children h.1 q more)
solid_more f t h e more = absurd h

-- ---- places of tokens

module _ (P : ℕ → Type 0) where
  -- each token of a tree stands at such an offset
  abbrev pub AllAt : Tree → Type 0
  AllAt (Leaf x) = P x.at
  AllAt (Node p children) = AllAt children
  AllAt Nil = Unit {0}
  AllAt (Cons t ts) = AllAt t × AllAt ts

  abbrev Opens : List Token → Type 0
  Opens xs = (x : Token) × (first_offset xs ≡ Some x.at) × P x.at

  opens : (t : Tree) → AllAt t → (more : List Token) → length more < length (spelled t more) → Opens (spelled t more)
  unfolding spelled
  opens (Leaf x) a more long = (x, refl, a)
  opens (Node p children) a more long = opens children a more long
  opens Nil a more long = absurd (omega (arith, long))
  opens (Cons t ts) a more long = elim (cases_lt (length (spelled ts more)) (length (spelled t (spelled ts more)))) [
    | inl more_first ↦ opens t a.0 (spelled ts more) more_first
    | inr none ↦
        let same : spelled t (spelled ts more) ≡ spelled ts more = empty (spelled t []) (spelled ts more) (spelled t (spelled ts more)) (spelled_append t (spelled ts more)) none in
        subst Opens (sym same) (opens ts a.1 more (subst (λ xs. length more < length xs) same long))
  ]
    where
      longer : (xs ys : List Token) → length ys ≤ length (xs ++ ys)
      longer [] ys = omega arith
      longer (x ∷ xs) ys = let a = longer xs ys in omega (arith, a)

      empty : (xs ys zs : List Token) → zs ≡ xs ++ ys → length zs ≤ length ys → zs ≡ ys
      empty [] ys zs e short = e
      empty (x ∷ xs) ys zs e short =
          let long : length zs ≡ length (x ∷ (xs ++ ys)) = ap length e in
          let part = longer xs ys in
          absurd (omega (arith, long, part, short))

  begun : (t : Tree) → Opens (spelled t []) → P (begin_of t)
  begun t o = subst P (sym (ap (λ x. unwrap_or x 0) o.1)) o.2

  pub begins : (c : class.Nonterminal) (t : Tree) → is_solid c ≡ true → grammar.Fits (grammar.One c) t → AllAt t → P (begin_of t)
  begins c t e h a = begun t (opens t a [] (solid_more (grammar.One c) t h e []))

  -- of a tree that follows another one
  pub begins_after : (c : class.Nonterminal) (before t : Tree) → is_solid c ≡ true → grammar.Fits (grammar.One c) t → AllAt before → AllAt t → P (begin_of (Cons before (Cons t Nil)))
  unfolding spelled
  begins_after c before t e h b a =
      let first = solid_more (grammar.One c) t h e [] in
      let whole = spelled_more before (spelled t []) in
      begun (Cons before (Cons t Nil)) (opens (Cons before (Cons t Nil)) (b, (a, tt)) [] (omega (arith, first, whole)))

  module _ (Q : Token → Type 0) (at : (x : Token) → Q x → P x.at) where
    all_before : (t : Tree) (more : List Token) → All Q (spelled t more) → AllAt t × All Q more
    unfolding spelled
    all_before (Leaf x) more h = (at x (All-head Q x more h), All-tail Q x more h)
    all_before (Node p children) more h = all_before children more h
    all_before Nil more h = (tt, h)
    all_before (Cons t ts) more h =
        let a = all_before t (spelled ts more) h in
        let b = all_before ts more a.1 in
        ((a.0, b.0), b.1)

    pub all_at : (t : Tree) → All Q (tokens_of t) → AllAt t
    all_at t h = (all_before t [] h).0
