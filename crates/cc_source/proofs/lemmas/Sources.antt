-- A source that is longer than the limit is refused at the limit, so the limit and one more byte decide.
use Rattle.std.proofs.Common.{◌≡◌, ℕ, ◌<◌, ◌+◌, List, length, take, Option, None, Some, Ok, Err, refl, ap, sym, ◌∙◌, subst, inl, inr, count_by, arith}
use Rattle.std.specs.Option.{ForSome}
use Rattle.std.proofs.lemmas.Bool.{cases_lt, lt-ltb}
use Rattle.std.proofs.lemmas.List.{take_all, length-take-le, take-take}
use Rattle.c_lex.specs.Tokens.{lexed}
use Rattle.c_lex.specs.declared.fault.LexFault.TheVariants as lexer
use Rattle.c_lex.specs.declared.token.Token.{Token}
use Rattle.c_typed.specs.Typed.{ProgramTree}
use Rattle.cc_source.specs.Accepted.{Accepts, Refuses}
use Rattle.cc_source.specs.declared.fault.CompileFault.{CompileFault}
use Rattle.cc_source.specs.declared.fault.CompileFault.TheVariants as fault
use Rattle.cc_io.specs.Files.{Name, FileSet, content}
use Rattle.cc_source.specs.Refusal.{is_line_end, refusal_of, refusal_of_text, refused_at}
use Rattle.cc_source.specs.Refused.{CompileFails, IsRefused, IsRejectionOf, outcome_of_refusal}
use Rattle.cc_report.specs.declared.refusal.Refusal.{Refusal}
use Rattle.cc_report.specs.declared.refusal.RefusalKind.TheVariants.{LongSource}
use Rattle.cc_report.specs.declared.outcome.Outcome.{Outcome}
use Rattle.cc_report.specs.declared.outcome.Outcome.TheVariants.{Refused, NoMemory}

too_long : (s : List ℕ) → 1048576 < length s → lexed s ≡ Err (lexer.LongSource 1048576)
unfolding lexed
too_long s long = rw (lt-ltb 1048576 (length s) long) refl

front_too_long : (s : List ℕ) → 1048576 < length s → lexed (take 1048577 s) ≡ Err (lexer.LongSource 1048576)
front_too_long s long =
    let whole : length (take 1048577 s) ≡ 1048577 = length-take-le 1048577 s (omega arith) in
    too_long (take 1048577 s) (omega (arith, whole))

no_tokens : (s : List ℕ) (tokens : List Token) → 1048576 < length s → lexed (take 1048577 s) ≡ Ok tokens → ⊥
no_tokens s tokens long is = clash (sym (front_too_long s long) ∙ is) where
  clash : Err (lexer.LongSource 1048576) ≡ Ok tokens → ⊥
  clash e = cc

-- ---- what is said of the first bytes of a source is said of the source

same_refusal : (s : List ℕ) → refused_at LongSource 1048576 (take 1048577 s) ≡ refused_at LongSource 1048576 s
same_refusal s = ap (λ t. record { kind = LongSource; line = count_by is_line_end t + 1 }) (take-take 1048576 1048577 s (omega arith))

refused-long : (s : List ℕ) (r : Refusal) (e : CompileFault) → 1048576 < length s → Refuses e (take 1048577 s) → refusal_of e (take 1048577 s) ≡ Some r → IsRefused s r
refused-long s r (fault.Lex e) long h is =
    let front = front_too_long s long in
    let same : e ≡ lexer.LongSource 1048576 = cc in
    let refused : refusal_of_text (lexer.LongSource 1048576) (take 1048577 s) ≡ Some r = subst (λ f. refusal_of_text f (take 1048577 s) ≡ Some r) same is in
    (fault.Lex (lexer.LongSource 1048576), too_long s long, ap Some (sym (same_refusal s)) ∙ refused)
refused-long s r (fault.Parse e) long h is = absurd (no_tokens s h.1.0 long h.1.1)
refused-long s r (fault.Check e) long h is = absurd (no_tokens s h.1.1.tokens long h.1.1.lexed)
refused-long s r (fault.Build e) long h is = absurd (no_tokens s h.1.1.has_tree.tokens long h.1.1.has_tree.lexed)
refused-long s r fault.NoMemory long h is = cc

refused-take : (s : List ℕ) (r : Refusal) → IsRefused (take 1048577 s) r → IsRefused s r
refused-take s r h =
    elim (cases_lt 1048576 (length s)) [
      | inl long ↦ refused-long s r h.0 long h.1 h.2
      | inr short ↦ subst (λ t. IsRefused t r) (take_all 1048577 s (omega arith)) h
    ]

-- ---- what the bytes that were read compile to, the source compiles to

-- the bytes that were read are the whole text, where they are accepted
pub whole_text : (s read : List ℕ) (p : ProgramTree) → read ≡ take 1048577 s → Accepts read p → read ≡ s
whole_text s read p same a =
    elim (cases_lt 1048576 (length s)) [
      | inl long ↦
          let front = subst (λ t. Accepts t p) same a in
          absurd (no_tokens s front.checks.has_tree.tokens long front.checks.has_tree.lexed)
      | inr short ↦ same ∙ take_all 1048577 s (omega arith)
    ]

pub refused_of_read : (s read : List ℕ) (r : Refusal) → read ≡ take 1048577 s → IsRefused read r → IsRefused s r
refused_of_read s read r same h = refused-take s r (subst (λ t. IsRefused t r) same h)

-- a refusal of the bytes that were read is one of the source
pub fails_of_read : (name : Name) (e : Outcome) (known : Option FileSet) (unread : Type 0) (read : List ℕ) → ForSome known (λ files. read ≡ take 1048577 (content name files)) → IsRejectionOf read e
    → CompileFails name e known unread
fails_of_read name (Refused refusal) known unread read same h = λ files is. refused_of_read (content name files) read refusal (same files is) h
fails_of_read name NoMemory known unread read same h = tt
fails_of_read name _ known unread read same h = absurd h

-- ---- the outcome of a source that is not compiled

pub rejected : (s : List ℕ) (e : CompileFault) (o : Option Refusal) → Refuses e s → refusal_of e s ≡ o → IsRejectionOf s (outcome_of_refusal o)
rejected s e None h is = tt
rejected s e (Some r) h is = (e, h, is)
