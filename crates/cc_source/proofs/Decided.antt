-- A source is accepted, or has a fault.
use Rattle.std.specs.Prelude.{◌≡◌, ◌≢◌, ◌⊎◌, ℕ, ◌≤◌, List, [], ◌∷◌, length, Option, Some, None, Result, Ok, Err, map}
use Rattle.std.proofs.Common.{refl, sym, ap, ◌∙◌, subst, inl, inr, arith}
use Rattle.c_lex.specs.Tokens.{lexed}
use Rattle.c_lex.specs.declared.fault.LexFault.{LexFault}
use Rattle.c_lex.specs.declared.token.Token.{Token}
use Rattle.c_ast.specs.Nesting.{depth}
use Rattle.c_ast.specs.Shape.{FollowsGrammar, Shaped}
use Rattle.c_ast.specs.Spelling.{kinds, tokens_of}
use Rattle.c_ast.specs.Tree.{Tree}
use Rattle.c_ast.specs.Beginnings.{WrongFrom}
use Rattle.c_ast.proofs.lemmas.GrammarLaws.{one_tree_at_spans, tree_or_wrong}
use Rattle.c_parse_tokens.specs.LeftOut.{first_left_out}
use Rattle.c_parse_tokens.specs.Reading.{offset_of}
use Rattle.c_parse.specs.declared.fault.ParseFault.TheVariants as parse
use Rattle.c_parse_tokens.proofs.lemmas.FirstDeep.{Found, first_deep, finds}
use Rattle.c_typed.specs.Typed.{ProgramTree}
use Rattle.c_check_def.specs.Check.{check}
use Rattle.c_check_def.specs.Refusals.{Refusal, rule_broken, no_main, above_limit}
use Rattle.c_check_def.specs.declared.refusal_kind.RefusalKind.{RefusalKind}
use Rattle.c_check_def.specs.declared.refusal_kind.RefusalKind.TheVariants as rule
use Rattle.c_check.specs.Faults as checker
use Rattle.c_check.specs.declared.fault.CheckFault.{CheckFault}
use Rattle.c_check.specs.declared.fault.CheckFault.TheVariants as check_fault
use Rattle.g_build.specs.Passed.{limit_passed}
use Rattle.g_build.specs.declared.passed.Passed.{Passed}
use Rattle.g_build.specs.declared.omega.BuildFault.TheVariants as build_fault
use Rattle.cc_source.specs.Accepted.{HasTree, Checks, Accepts, Refuses, AcceptedOrRefused}
use Rattle.cc_source.specs.declared.fault.CompileFault.{CompileFault}
use Rattle.cc_source.specs.declared.fault.CompileFault.TheVariants as fault

abbrev Refused : List ℕ → Type 0
Refused source = (e : CompileFault) × (e ≢ fault.NoMemory) × Refuses e source

abbrev Decided : List ℕ → Type 0
Decided source = ((p : ProgramTree) × Accepts source p) ⊎ Refused source

-- ---- the fault of a refusal of the checker

abbrev HasFault : Result ProgramTree Refusal → Type 0
HasFault answer = (e : CheckFault) × (e ≢ check_fault.NoMemory) × checker.Refuses e answer

breaks : (answer : Result ProgramTree Refusal) (r : RefusalKind) (at : ℕ) → answer ≡ Err (rule_broken (record { rule = r; offset = at })) → HasFault answer
breaks answer rule.Unknown at h = (check_fault.Unknown at, (λ q. absurd cc), h)
breaks answer rule.Redeclared at h = (check_fault.Redeclared at, (λ q. absurd cc), h)
breaks answer rule.NotAssignable at h = (check_fault.NotAssignable at, (λ q. absurd cc), h)
breaks answer rule.BadOperands at h = (check_fault.BadOperands at, (λ q. absurd cc), h)
breaks answer rule.BadCall at h = (check_fault.BadCall at, (λ q. absurd cc), h)
breaks answer rule.NotConstant at h = (check_fault.NotConstant at, (λ q. absurd cc), h)
breaks answer rule.BadInitialiser at h = (check_fault.BadInitialiser at, (λ q. absurd cc), h)
breaks answer rule.BadType at h = (check_fault.BadType at, (λ q. absurd cc), h)
breaks answer rule.BadReturn at h = (check_fault.BadReturn at, (λ q. absurd cc), h)
breaks answer rule.BadJump at h = (check_fault.BadJump at, (λ q. absurd cc), h)
breaks answer rule.BadLabel at h = (check_fault.BadLabel at, (λ q. absurd cc), h)

has_fault : (answer : Result ProgramTree Refusal) (r : Refusal) → answer ≡ Err r → HasFault answer
has_fault answer (rule_broken b) h = breaks answer b.rule b.offset h
has_fault answer (no_main at) h = (check_fault.NoMain at, (λ q. absurd cc), h)
has_fault answer (above_limit q at count) h = (check_fault.Limit at (checker.quantity_number q) count, (λ e. absurd cc), (q, refl, h))

-- ---- phase by phase

module _ (source : List ℕ) where
  by_limit : (p : ProgramTree) → Checks source p → (o : Option Passed) → limit_passed p.functions ≡ o → Decided source
  by_limit p c None h = inl (p, record { checks = c; within = h })
  by_limit p c (Some l) h = inr (fault.Build (build_fault.Limit l), (λ q. absurd cc), ((λ q. absurd cc), (p, c, sym h)))

  by_check : (t : Tree) → HasTree source t → (answer : Result ProgramTree Refusal) → check t (length source) ≡ answer → Decided source
  by_check t has (Ok p) h = by_limit p (record { tree = t; has_tree = has; checked = h }) (limit_passed p.functions) refl
  by_check t has (Err r) h =
      let f = has_fault (check t (length source)) r h in
      inr (fault.Check f.0, (λ q. absurd cc), (f.1, (t, has, f.2)))

  module _ (ts : List Token) (lexed_so : lexed source ≡ Ok ts) where
    refused : (e : CompileFault) → e ≢ fault.NoMemory → Refuses e source → Decided source
    refused e n r = inr (e, n, r)

    by_tree : first_left_out ts ≡ None → depth (kinds ts) ≤ 200 → ((t : Tree) × FollowsGrammar t × (tokens_of t ≡ ts)) ⊎ ((rest : List Token) × WrongFrom ts rest) → Decided source
    by_tree known low (inl (t, g, s)) =
        let shaped : FollowsGrammar t × (depth (kinds (tokens_of t)) ≤ 200) = (g, subst (λ (z : List Token). depth (kinds z) ≤ 200) (sym s) low) in
        let only : (u : Tree) → Shaped u → tokens_of u ≡ ts → u ≡ t =
        λ u h e. one_tree_at_spans u t h.0 g (ap kinds (e ∙ sym s)) (ap (λ (zs : List Token). map (λ (z : Token). (z.at, z.end)) zs) (e ∙ sym s)) in
        by_check t (record { tokens = ts; lexed = lexed_so; known = known; tree = record { shaped = shaped; spells = s; only = only } }) (check t (length source)) refl
    by_tree known low (inr (rest, w)) =
        refused (fault.Parse (parse.Syntax (offset_of rest (length source)))) (λ q. absurd cc)
        ((λ q. absurd cc), (ts, lexed_so, (known, low, record { rest = rest; wrong = w; at = refl })))

    by_depth : first_left_out ts ≡ None → (o : Option ℕ) → Found (0 ∷ []) ts o → Decided source
    by_depth known None low = by_tree known low (tree_or_wrong ts)
    by_depth known (Some at) f =
        refused (fault.Parse (parse.TooDeep at)) (λ q. absurd cc) (
          (λ q. absurd cc),
          (ts, lexed_so, (known, record { before = f.before; token = f.token; rest = f.rest; split = f.split; at = f.at; shallow = f.shallow; deep = f.deep })),
        )

    by_left_out : (o : Option ℕ) → first_left_out ts ≡ o → Decided source
    by_left_out (Some at) h = refused (fault.Parse (parse.LeftOut at)) (λ q. absurd cc) ((λ q. absurd cc), (ts, lexed_so, h))
    by_left_out None h = by_depth h (first_deep (0 ∷ []) ts) (finds (0 ∷ []) ts (omega arith))

  by_tokens : (r : Result (List Token) LexFault) → lexed source ≡ r → Decided source
  by_tokens (Err e) h = inr (fault.Lex e, (λ q. absurd cc), h)
  by_tokens (Ok ts) h = by_left_out ts h (first_left_out ts) refl

pub accepted_or_refused : AcceptedOrRefused
accepted_or_refused source = by_tokens source (lexed source) refl
