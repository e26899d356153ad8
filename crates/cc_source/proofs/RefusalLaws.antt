-- A source has at most one refusal; one that is accepted has none, and any other has one.
use Rattle.std.proofs.Common.{◌≡◌, ◌≢◌, ℕ, List, Some, Err, refl, ap, sym, subst, ◌∙◌, inl, inr}
use Rattle.std.proofs.lemmas.Option.{same_Some}
use Rattle.c_lex.specs.Faults.{FaultsAreFirst}
use Rattle.c_lex.specs.Tokens.{lexed}
use Rattle.c_lex.specs.declared.fault.LexFault.{LexFault}
use Rattle.c_lex.specs.declared.fault.LexFault.TheVariants as lexer
use Rattle.c_parse.specs.declared.fault.ParseFault.{ParseFault}
use Rattle.c_parse.specs.declared.fault.ParseFault.TheVariants as parser
use Rattle.c_check.specs.declared.fault.CheckFault.{CheckFault}
use Rattle.c_check.specs.declared.fault.CheckFault.TheVariants as checker
use Rattle.g_build.specs.declared.omega.BuildFault.{BuildFault}
use Rattle.g_build.specs.declared.omega.BuildFault.TheVariants as construction
use Rattle.cc_source.specs.Accepted.{AcceptedIsNotRefused as AcceptedHasNoFault, AcceptedOrRefused as AcceptedOrFaulty, OneFault, Refuses}
use Rattle.cc_source.specs.declared.fault.CompileFault.{CompileFault}
use Rattle.cc_source.specs.declared.fault.CompileFault.TheVariants as fault
use Rattle.cc_source.specs.Refusal.{refusal_of, refusal_of_text, refusal_of_tokens, refusal_of_tree, refusal_of_values}
use Rattle.cc_source.specs.Refused.{AcceptedIsNotRefused, AcceptedOrRefused, IsRefused, OneRefusal}
use Rattle.cc_report.specs.declared.refusal.Refusal.{Refusal}

-- running out of memory is no refusal
not_memory : (e : CompileFault) (s : List ℕ) (r : Refusal) → refusal_of e s ≡ Some r → e ≢ fault.NoMemory
not_memory e s r is same = let none : refusal_of fault.NoMemory s ≡ Some r = subst (λ f. refusal_of f s ≡ Some r) same is in cc

pub one_refusal : OneFault → OneRefusal
one_refusal law s p q h k =
    let same : h.0 ≡ k.0 = law s h.0 k.0 (not_memory h.0 s p h.2) (not_memory k.0 s q k.2) h.1 k.1 in
    same_Some p q (sym h.2 ∙ ap (λ e. refusal_of e s) same ∙ k.2)

pub accepted_is_not_refused : AcceptedHasNoFault → AcceptedIsNotRefused
accepted_is_not_refused law s p r a h = law s p h.0 (not_memory h.0 s r h.2) a h.1

-- ---- each fault but `NoMemory` is a refusal

text_told : (s : List ℕ) (e : LexFault) → e ≢ lexer.NoMemory → (r : Refusal) × (refusal_of_text e s ≡ Some r)
text_told s (lexer.BadByte at) some = (_, refl)
text_told s (lexer.OpenComment at) some = (_, refl)
text_told s (lexer.OpenText at) some = (_, refl)
text_told s (lexer.BadText at) some = (_, refl)
text_told s (lexer.TooWide at) some = (_, refl)
text_told s (lexer.LongName at) some = (_, refl)
text_told s (lexer.Directive at) some = (_, refl)
text_told s (lexer.ManyTokens at) some = (_, refl)
text_told s (lexer.BadNumber at) some = (_, refl)
text_told s (lexer.LongSource at) some = (_, refl)
text_told s lexer.NoMemory some = absurd (some refl)

tokens_told : (s : List ℕ) (e : ParseFault) → e ≢ parser.NoMemory → (r : Refusal) × (refusal_of_tokens e s ≡ Some r)
tokens_told s (parser.LeftOut at) some = (_, refl)
tokens_told s (parser.TooDeep at) some = (_, refl)
tokens_told s (parser.Syntax at) some = (_, refl)
tokens_told s parser.NoMemory some = absurd (some refl)

tree_told : (s : List ℕ) (e : CheckFault) → e ≢ checker.NoMemory → (r : Refusal) × (refusal_of_tree e s ≡ Some r)
tree_told s (checker.Unknown at) some = (_, refl)
tree_told s (checker.Redeclared at) some = (_, refl)
tree_told s (checker.NotAssignable at) some = (_, refl)
tree_told s (checker.BadOperands at) some = (_, refl)
tree_told s (checker.BadCall at) some = (_, refl)
tree_told s (checker.NotConstant at) some = (_, refl)
tree_told s (checker.BadInitialiser at) some = (_, refl)
tree_told s (checker.BadType at) some = (_, refl)
tree_told s (checker.BadReturn at) some = (_, refl)
tree_told s (checker.BadJump at) some = (_, refl)
tree_told s (checker.NoMain at) some = (_, refl)
tree_told s (checker.BadLabel at) some = (_, refl)
tree_told s (checker.Limit at which count) some = (_, refl)
tree_told s checker.NoMemory some = absurd (some refl)

values_told : (s : List ℕ) (e : BuildFault) → e ≢ construction.NoMemory → (r : Refusal) × (refusal_of_values e s ≡ Some r)
values_told s (construction.Limit passed) some = (_, refl)
values_told s construction.NoMemory some = absurd (some refl)

-- a text has no such fault
not_text : FaultsAreFirst → (s : List ℕ) (e : LexFault) → lexed s ≡ Err e → e ≢ lexer.NoMemory
not_text law s e is same =
    elim ((law s lexer.NoMemory).0 (is ∙ ap Err same)) [
      | inl long ↦ absurd (cc long.1)
      | inr faulty ↦ absurd faulty.fault
    ]

refusal_is : FaultsAreFirst → (s : List ℕ) (e : CompileFault) → e ≢ fault.NoMemory → Refuses e s → (r : Refusal) × (refusal_of e s ≡ Some r)
refusal_is law s (fault.Lex e) some h = text_told s e (not_text law s e h)
refusal_is law s (fault.Parse e) some h = tokens_told s e h.0
refusal_is law s (fault.Check e) some h = tree_told s e h.0
refusal_is law s (fault.Build e) some h = values_told s e h.0
refusal_is law s fault.NoMemory some h = absurd (some refl)

refused_so : FaultsAreFirst → (s : List ℕ) (e : CompileFault) → e ≢ fault.NoMemory → Refuses e s → (r : Refusal) × IsRefused s r
refused_so law s e some h = let is = refusal_is law s e some h in (is.0, (e, h, is.1))

pub accepted_or_refused : FaultsAreFirst → AcceptedOrFaulty → AcceptedOrRefused
accepted_or_refused law decided s =
    elim (decided s) [
      | inl accepted ↦ inl accepted
      | inr faulty ↦ inr (refused_so law s faulty.0 faulty.1 faulty.2)
    ]
