-- A text is a log, or it breaks at a line.
use Rattle.std.specs.Prelude.{codes, decimal}
use Rattle.std.proofs.Common.{◌≡◌, ◌≢◌, ◌<◌, ◌≤◌, ◌^◌, ◌⊎◌, ℕ, zero, suc, true, false, List, [], ◌∷◌, ◌++◌, length, refl, sym, ap, subst, ◌∙◌, inl, inr, append_assoc, length-append, arith}
use Rattle.std.specs.List.{list_all, AllByRecursion, flat_map}
use Rattle.std.specs.Str.{bytes_eq}
use Rattle.std.proofs.lemmas.Bool.{cases_Bool, cases_eq, cases_lt}
use Rattle.std.proofs.lemmas.Slice.Eq.{bytes_eq-Decides}
use Rattle.base.specs.Limits.{most_name_bytes}
use Rattle.c_lex.specs.Classes.{is_letter, is_name_byte}
use Rattle.c_lex.specs.Grammar.{IsIdentifier}
use Rattle.r_rule.specs.Names.{rule_name}
use Rattle.r_rule.specs.declared.steps.Rule.{Rule}
use Rattle.r_rule.specs.declared.steps.Step.{Step}
use Rattle.cc_watch.specs.Rows.{PlainRow}
use Rattle.cc_watch.specs.Texts.{head_text, step_text, row_text, log_text}
use Rattle.log_check.specs.Log.{line_count, IsHead, IsRow, IsStep, LogOrBreak}
use Rattle.log_check.specs.Lines.{head_line, head_row, step_line}
use Rattle.log_check.specs.Pieces.{HasNo, named_text, pair_text}
use Rattle.log_check.proofs.Splits.{not_same}
use Rattle.log_check.proofs.Words.{is_head, no_head_rest, no_head_split, no_head_word, no_name_first, no_name_second, no_name_split, no_pair_first, no_pair_second, no_pair_split, no_step_node, no_step_rule, no_step_split}
use Rattle.log_check.proofs.LineEnds.{begins_with_head, begins_with_step, no_head_end, no_head_line, no_step_end, no_step_line}
use Rattle.log_check.proofs.OneReading.{named, rule_at}
use Rattle.log_check.proofs.ReadSoFar.{begins_with_row, row-long, row_is, shorter}

-- ---- words

same-text : (xs ys : List ℕ) → (xs ≡ ys) ⊎ (xs ≢ ys)
same-text xs ys =
    elim (cases_Bool (bytes_eq xs ys)) [ inl same ↦ inl ((bytes_eq-Decides xs ys).0 same) | inr other ↦ inr (not_same xs ys (sym other)) ]

found-below : (P : ℕ → Type 0) → ((n : ℕ) → P n ⊎ (P n → ⊥)) → (bound : ℕ) → ((n : ℕ) × (n < bound) × P n) ⊎ ((n : ℕ) → n < bound → P n → ⊥)
found-below P test zero = inr (λ n low h. absurd (omega (arith, low)))
found-below P test (suc bound) = by (test bound) (found-below P test bound)
  where
    by : P bound ⊎ (P bound → ⊥) → ((n : ℕ) × (n < bound) × P n) ⊎ ((n : ℕ) → n < bound → P n → ⊥) → ((n : ℕ) × (n < suc bound) × P n) ⊎ ((n : ℕ) → n < suc bound → P n → ⊥)
    by (inl here) rest = inl (bound, omega arith, here)
    by (inr none) (inl some) = inl (some.0, omega (arith, some.1), some.2)
    by (inr none) (inr rest) = inr (λ n low h. elim (cases_eq n bound) [ inl same ↦ none (subst P same h) | inr other ↦ rest n (omega (arith, low, other)) h ])

abbrev Number : List ℕ → Type 0
Number text = (n : ℕ) × (n < 2 ^ 32) × (text ≡ decimal n)

number-of : (text : List ℕ) → Number text ⊎ ((n : ℕ) → n < 2 ^ 32 → text ≢ decimal n)
number-of text = found-below (λ n. text ≡ decimal n) (λ n. same-text text (decimal n)) (2 ^ 32)

rule-of : (text : List ℕ) → ((k : Rule) × (text ≡ rule_name k)) ⊎ ((k : Rule) → text ≢ rule_name k)
rule-of text =
    elim (same-text text (rule_name (rule_at text))) [
      | inl same ↦ inl (rule_at text, same)
      | inr other ↦ inr (λ k e. other (e ∙ ap rule_name (sym (named k) ∙ ap rule_at (sym e))))
    ]

name-of : (text : List ℕ) → (IsIdentifier text × (length text ≤ most_name_bytes)) ⊎ (IsIdentifier text → length text ≤ most_name_bytes → ⊥)
name-of [] = inr (λ h short. h)
name-of (b ∷ bs) = by (cases_Bool (is_letter b)) (cases_Bool (list_all is_name_byte bs)) (cases_lt most_name_bytes (length (b ∷ bs)))
  where
    by : (is_letter b ≡ true) ⊎ (is_letter b ≡ false) → (list_all is_name_byte bs ≡ true) ⊎ (list_all is_name_byte bs ≡ false) →
        (most_name_bytes < length (b ∷ bs)) ⊎ (length (b ∷ bs) ≤ most_name_bytes) →
        (IsIdentifier (b ∷ bs) × (length (b ∷ bs) ≤ most_name_bytes)) ⊎ (IsIdentifier (b ∷ bs) → length (b ∷ bs) ≤ most_name_bytes → ⊥)
    by (inr other) rest size = inr (λ h short. let clash : true ≡ false = sym h.0 ∙ other in absurd cc)
    by (inl letter) (inr other) size = inr (λ h short. let clash : true ≡ false = sym h.1 ∙ other in absurd cc)
    by (inl letter) (inl all) (inl long) = inr (λ h short. absurd (omega (arith, long, short)))
    by (inl letter) (inl all) (inr short) = inl ((letter, all), short)

-- ---- a text that is split at the first of a byte

record Split (byte : ℕ) (text : List ℕ) : Type 0 where
  front : List ℕ
  back : List ℕ
  parts : text ≡ front ++ (byte ∷ back)
  first : HasNo byte front

split-of : (byte : ℕ) (text : List ℕ) → Split byte text ⊎ HasNo byte text
split-of byte [] = inr tt
split-of byte (b ∷ text) = by (cases_eq b byte) (split-of byte text)
  where
    by : (b ≡ byte) ⊎ (b ≢ byte) → Split byte text ⊎ HasNo byte text → Split byte (b ∷ text) ⊎ HasNo byte (b ∷ text)
    by (inl same) rest = inl (record { front = []; back = text; parts = ap (λ x. x ∷ text) same; first = tt })
    by (inr other) (inl s) = inl (record { front = b ∷ s.front; back = s.back; parts = ap (λ t. b ∷ t) s.parts; first = (other, s.first) })
    by (inr other) (inr none) = inr (other, none)

-- ---- what a line says

record Pair (text : List ℕ) : Type 0 where
  before : ℕ
  after : ℕ
  low : before < 2 ^ 32
  small : after < 2 ^ 32
  is : text ≡ pair_text before after

pair-of : (text : List ℕ) → Pair text ⊎ ((before after : ℕ) → before < 2 ^ 32 → after < 2 ^ 32 → text ≢ pair_text before after)
pair-of text = by (split-of 32 text)
  where
    in-parts : (s : Split 32 text) → Number s.front ⊎ ((n : ℕ) → n < 2 ^ 32 → s.front ≢ decimal n) → Number s.back ⊎ ((n : ℕ) → n < 2 ^ 32 → s.back ≢ decimal n) →
        Pair text ⊎ ((before after : ℕ) → before < 2 ^ 32 → after < 2 ^ 32 → text ≢ pair_text before after)
    in-parts s (inr none) other = inr (λ before after low small. no_pair_first text s.front s.back before after s.parts s.first low (none before low))
    in-parts s (inl first) (inr none) = inr (λ before after low small. no_pair_second text s.front s.back before after s.parts s.first low (none after small))
    in-parts s (inl first) (inl second) =
        inl (record {
          before = first.0;
          after = second.0;
          low = first.1;
          small = second.1;
          is = s.parts ∙ (ap (λ t. t ++ (32 ∷ s.back)) first.2 ∙ ap (λ t. decimal first.0 ++ (32 ∷ t)) second.2);
        })

    by : Split 32 text ⊎ HasNo 32 text → Pair text ⊎ ((before after : ℕ) → before < 2 ^ 32 → after < 2 ^ 32 → text ≢ pair_text before after)
    by (inr none) = inr (λ before after low small. no_pair_split text before after none)
    by (inl s) = in-parts s (number-of s.front) (number-of s.back)

-- a name and two numbers
record Entry : Type 0 where
  name : List ℕ
  before : ℕ
  after : ℕ
  head : IsHead (head_row name before after)

abbrev row-of : Entry → PlainRow
row-of e = head_row e.name e.before e.after

named-of : (text : List ℕ) → ((e : Entry) × (text ≡ named_text e.name e.before e.after)) ⊎ ((r : PlainRow) → IsHead r → text ≢ named_text r.name r.before r.after)
named-of text = by (split-of 32 text)
  where
    in-parts : (s : Split 32 text) → (IsIdentifier s.front × (length s.front ≤ most_name_bytes)) ⊎ (IsIdentifier s.front → length s.front ≤ most_name_bytes → ⊥) →
        Pair s.back ⊎ ((before after : ℕ) → before < 2 ^ 32 → after < 2 ^ 32 → s.back ≢ pair_text before after) →
        ((e : Entry) × (text ≡ named_text e.name e.before e.after)) ⊎ ((r : PlainRow) → IsHead r → text ≢ named_text r.name r.before r.after)
    in-parts s (inr none) other =
        inr (λ r head. no_name_first text s.front s.back r s.parts s.first head
        (λ e. none (subst IsIdentifier (sym e) head.name) (subst (λ (t : List ℕ). length t ≤ most_name_bytes) (sym e) head.short)))
    in-parts s (inl name) (inr none) =
        inr (λ r head. no_name_second text s.front s.back r s.parts s.first head (none r.before r.after head.before head.after))
    in-parts s (inl name) (inl pair) =
        inl (
          record {
            name = s.front;
            before = pair.before;
            after = pair.after;
            head = record { name = name.0; short = name.1; before = pair.low; after = pair.small };
          },
          s.parts ∙ ap (λ t. s.front ++ (32 ∷ t)) pair.is,
        )

    by : Split 32 text ⊎ HasNo 32 text → ((e : Entry) × (text ≡ named_text e.name e.before e.after)) ⊎ ((r : PlainRow) → IsHead r → text ≢ named_text r.name r.before r.after)
    by (inr none) = inr (λ r head. no_name_split text r none)
    by (inl s) = in-parts s (name-of s.front) (pair-of s.back)

head-of : (line : List ℕ) → ((e : Entry) × (line ≡ head_line (row-of e))) ⊎ ((r : PlainRow) → IsHead r → line ≢ head_line r)
head-of line = by (split-of 32 line)
  where
    in-parts : (s : Split 32 line) → (s.front ≡ codes "function") ⊎ (s.front ≢ codes "function") →
        ((e : Entry) × (s.back ≡ named_text e.name e.before e.after)) ⊎ ((r : PlainRow) → IsHead r → s.back ≢ named_text r.name r.before r.after) →
        ((e : Entry) × (line ≡ head_line (row-of e))) ⊎ ((r : PlainRow) → IsHead r → line ≢ head_line r)
    in-parts s (inr other) rest = inr (λ r head. no_head_word line s.front s.back r s.parts s.first other)
    in-parts s (inl same) (inr none) = inr (λ r head. no_head_rest line s.front s.back r s.parts s.first (none r head))
    in-parts s (inl same) (inl some) = inl (some.0, is_head line s.front s.back (row-of some.0) s.parts same some.1)

    by : Split 32 line ⊎ HasNo 32 line → ((e : Entry) × (line ≡ head_line (row-of e))) ⊎ ((r : PlainRow) → IsHead r → line ≢ head_line r)
    by (inr none) = inr (λ r head. no_head_split line r none)
    by (inl s) = in-parts s (same-text s.front (codes "function")) (named-of s.back)

step-of : (line : List ℕ) → ((s : Step) × IsStep s × (line ≡ step_line s)) ⊎ ((s : Step) → IsStep s → line ≢ step_line s)
step-of line = by (split-of 32 line)
  where
    in-parts : (p : Split 32 line) → ((k : Rule) × (p.front ≡ rule_name k)) ⊎ ((k : Rule) → p.front ≢ rule_name k) →
        Number p.back ⊎ ((n : ℕ) → n < 2 ^ 32 → p.back ≢ decimal n) → ((s : Step) × IsStep s × (line ≡ step_line s)) ⊎ ((s : Step) → IsStep s → line ≢ step_line s)
    in-parts p (inr none) rest = inr (λ s small. no_step_rule line p.front p.back s p.parts p.first (none s.rule))
    in-parts p (inl rule) (inr none) = inr (λ s small. no_step_node line p.front p.back s p.parts p.first (none s.node small))
    in-parts p (inl rule) (inl node) =
        inl (
          record { rule = rule.0; node = node.0 },
          node.1,
          p.parts ∙ (ap (λ t. t ++ (32 ∷ p.back)) rule.1 ∙ ap (λ t. rule_name rule.0 ++ (32 ∷ t)) node.2),
        )

    by : Split 32 line ⊎ HasNo 32 line → ((s : Step) × IsStep s × (line ≡ step_line s)) ⊎ ((s : Step) → IsStep s → line ≢ step_line s)
    by (inr none) = inr (λ s small. no_step_split line s none)
    by (inl p) = in-parts p (rule-of p.front) (number-of p.back)

-- ---- the line that a text begins with

abbrev NoHead : List ℕ → Type 0
NoHead text = (r : PlainRow) (after : List ℕ) → IsHead r → text ≢ head_text r ++ after

abbrev NoStep : List ℕ → Type 0
NoStep text = (s : Step) (after : List ℕ) → IsStep s → text ≢ step_text s ++ after

record FirstHead (text : List ℕ) : Type 0 where
  entry : Entry
  rest : List ℕ
  is : text ≡ head_text (row-of entry) ++ rest

first-head-of : (text : List ℕ) → FirstHead text ⊎ NoHead text
first-head-of text = by (split-of 10 text)
  where
    in-parts : (s : Split 10 text) → ((e : Entry) × (s.front ≡ head_line (row-of e))) ⊎ ((r : PlainRow) → IsHead r → s.front ≢ head_line r) → FirstHead text ⊎ NoHead text
    in-parts s (inr none) = inr (λ r after head. no_head_line text s.front s.back r after s.parts s.first head (none r head))
    in-parts s (inl some) =
        inl (record { entry = some.0; rest = s.back; is = begins_with_head text s.front s.back (row-of some.0) s.parts some.1 })

    by : Split 10 text ⊎ HasNo 10 text → FirstHead text ⊎ NoHead text
    by (inr none) = inr (λ r after head. no_head_end text r after none)
    by (inl s) = in-parts s (head-of s.front)

record FirstStep (text : List ℕ) : Type 0 where
  step : Step
  small : IsStep step
  rest : List ℕ
  is : text ≡ step_text step ++ rest

first-step-of : (text : List ℕ) → FirstStep text ⊎ NoStep text
first-step-of text = by (split-of 10 text)
  where
    in-parts : (p : Split 10 text) → ((s : Step) × IsStep s × (p.front ≡ step_line s)) ⊎ ((s : Step) → IsStep s → p.front ≢ step_line s) → FirstStep text ⊎ NoStep text
    in-parts p (inr none) = inr (λ s after small. no_step_line text p.front p.back s after p.parts p.first small (none s small))
    in-parts p (inl some) =
        inl (record { step = some.0; small = some.1; rest = p.back; is = begins_with_step text p.front p.back some.0 p.parts some.2 })

    by : Split 10 text ⊎ HasNo 10 text → FirstStep text ⊎ NoStep text
    by (inr none) = inr (λ s after small. no_step_end text s after none)
    by (inl p) = in-parts p (step-of p.front)

-- ---- all lines

-- the step lines that a text begins with, as many as there are
record Steps (text : List ℕ) : Type 0 where
  steps : List Step
  rest : List ℕ
  fine : AllByRecursion IsStep steps
  is : text ≡ flat_map step_text steps ++ rest
  ends : NoStep rest

steps-of : (bound : ℕ) (text : List ℕ) → length text < bound → Steps text
steps-of zero text low = absurd (omega (arith, low))
steps-of (suc bound) text low = by (first-step-of text) (λ rest less. steps-of bound rest less)
  where
    more : (f : FirstStep text) → Steps f.rest → Steps text
    more f m =
        record {
          steps = f.step ∷ m.steps;
          rest = m.rest;
          fine = (f.small, m.fine);
          is = f.is ∙ (ap (λ t. step_text f.step ++ t) m.is ∙ sym (append_assoc (step_text f.step) (flat_map step_text m.steps) m.rest));
          ends = m.ends;
        }

    by : FirstStep text ⊎ NoStep text → ((rest : List ℕ) → length rest < bound → Steps rest) → Steps text
    by (inr none) next = record { steps = []; rest = text; fine = tt; is = refl; ends = none }
    by (inl f) next = more f (next f.rest (omega (arith, low, shorter text f.rest f.step f.is)))

record Reads (text : List ℕ) : Type 0 where
  rows : List PlainRow
  fine : AllByRecursion IsRow rows
  is : text ≡ log_text rows

record Breaks (text : List ℕ) : Type 0 where
  rows : List PlainRow
  rest : List ℕ
  fine : AllByRecursion IsRow rows
  is : text ≡ log_text rows ++ rest
  more : rest ≢ []
  no_head : NoHead rest
  no_step : rows ≢ [] → NoStep rest

-- where one more row stands before a text that is read or breaks
module _ (text : List ℕ) (r : PlainRow) (left : List ℕ) (is_row : IsRow r) (begins : text ≡ row_text r ++ left) (ends : NoStep left) where
  reads-more : Reads left → Reads text
  reads-more m = record { rows = r ∷ m.rows; fine = (is_row, m.fine); is = begins ∙ ap (λ t. row_text r ++ t) m.is }

  breaks-more : Breaks left → Breaks text
  breaks-more m =
      record {
        rows = r ∷ m.rows;
        rest = m.rest;
        fine = (is_row, m.fine);
        is = begins ∙ (ap (λ t. row_text r ++ t) m.is ∙ sym (append_assoc (row_text r) (log_text m.rows) m.rest));
        more = m.more;
        no_head = m.no_head;
        no_step = λ some. by m.rows m.is m.no_step;
      }
    where
      by : (rows : List PlainRow) → left ≡ log_text rows ++ m.rest → (rows ≢ [] → NoStep m.rest) → NoStep m.rest
      by [] same no_step = subst NoStep same ends
      by (q ∷ rows) same no_step = no_step (λ e. absurd cc)

reads-or-breaks : (bound : ℕ) (text : List ℕ) → length text < bound → Reads text ⊎ Breaks text
reads-or-breaks zero text low = absurd (omega (arith, low))
reads-or-breaks (suc bound) [] low = inl (record { rows = []; fine = tt; is = refl })
reads-or-breaks (suc bound) (b ∷ text) low = by (first-head-of (b ∷ text)) (λ rest less. reads-or-breaks bound rest less)
  where
    in-row : (f : FirstHead (b ∷ text)) → Steps f.rest → ((rest : List ℕ) → length rest < bound → Reads rest ⊎ Breaks rest) → Reads (b ∷ text) ⊎ Breaks (b ∷ text)
    in-row f m next =
        let e = f.entry in
        let r : PlainRow = record { name = e.name; before = e.before; after = e.after; steps = m.steps } in
        let begins : (b ∷ text) ≡ row_text r ++ m.rest = begins_with_row (b ∷ text) f.rest m.rest e.name e.before e.after m.steps f.is m.is in
        let is_row = row_is e.name e.before e.after m.steps e.head m.fine in
        let less : length m.rest < bound = omega (arith, low, row-long r, ap length begins, length-append (row_text r) m.rest) in
        elim (next m.rest less) [
          | inl reads ↦ inl (reads-more (b ∷ text) r m.rest is_row begins m.ends reads)
          | inr breaks ↦ inr (breaks-more (b ∷ text) r m.rest is_row begins m.ends breaks)
        ]

    by : FirstHead (b ∷ text) ⊎ NoHead (b ∷ text) → ((rest : List ℕ) → length rest < bound → Reads rest ⊎ Breaks rest) → Reads (b ∷ text) ⊎ Breaks (b ∷ text)
    by (inr none) next =
        inr (record { rows = []; rest = b ∷ text; fine = tt; is = refl; more = λ e. absurd cc; no_head = none; no_step = λ some. absurd (some refl) })
    by (inl f) next = in-row f (steps-of (suc (length f.rest)) f.rest (omega arith)) next

pub log_or_break : LogOrBreak
log_or_break bytes =
    elim (reads-or-breaks (suc (length bytes)) bytes (omega arith)) [
      | inl m ↦ inl (m.rows, record { rows_are = m.fine; text = m.is })
      | inr m ↦
          inr (
            suc (line_count m.rows),
            record {
              rows = m.rows;
              rest = m.rest;
              rows_are = m.fine;
              text = m.is;
              number = refl;
              more = m.more;
              no_head = m.no_head;
              no_step = m.no_step;
            },
          )
    ]
