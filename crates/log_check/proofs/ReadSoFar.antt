-- What has been read of a log so far.
use Rattle.std.proofs.Common.{◌≡◌, ◌≢◌, ◌<◌, ◌≤◌, ◌+◌, ℕ, suc, List, [], ◌∷◌, ◌++◌, length, map, refl, sym, ap, subst, ◌∙◌, append_assoc, append-nil, length-append, arith}
use Rattle.std.specs.List.{AllByRecursion, flat_map}
use Rattle.std.proofs.lemmas.Grind.{flat_map-append}
use Rattle.r_rule.specs.declared.steps.Step.{Step}
use Rattle.cc_watch.specs.Rows.{PlainRow}
use Rattle.cc_watch.specs.Texts.{head_text, step_text, row_text, log_text}
use Rattle.log_check.specs.Log.{IsHead, IsStep, IsRow, IsLogOf, BreaksAt, line_count, PlainPart, row_of_part, rows_of, part_of, parts_from, parts_of, LogsHaveFewLines}
use Rattle.log_check.specs.Lines.{head_line, step_line, head_row}

all-append : {X : Type 0} (P : X → Type 0) (xs : List X) (x : X) → AllByRecursion P xs → P x → AllByRecursion P (xs ++ x ∷ [])
all-append P [] x h g = (g, tt)
all-append P (y ∷ xs) x h g = (h.0, all-append P xs x h.1 g)

flat-one : {X : Type 0} (f : X → List ℕ) (xs : List X) (x : X) (rest : List ℕ) → flat_map f xs ++ (f x ++ rest) ≡ flat_map f (xs ++ x ∷ []) ++ rest
flat-one f xs x rest =
    sym (append_assoc (flat_map f xs) (f x) rest)
    ∙ ap (λ t. t ++ rest) (ap (λ t. flat_map f xs ++ t) (sym (append-nil (f x))) ∙ sym (flat_map-append f xs (x ∷ [])))

-- ---- steps

pub steps_more : (text rest after : List ℕ) (steps : List Step) (s : Step) → text ≡ flat_map step_text steps ++ rest → rest ≡ step_text s ++ after →
    text ≡ flat_map step_text (steps ++ s ∷ []) ++ after
steps_more text rest after steps s e g = e ∙ (ap (λ t. flat_map step_text steps ++ t) g ∙ flat-one step_text steps s after)

pub steps_fine : (steps : List Step) (s : Step) → AllByRecursion IsStep steps → IsStep s → AllByRecursion IsStep (steps ++ s ∷ [])
steps_fine steps s h g = all-append IsStep steps s h g

ends-long : (xs : List ℕ) → 0 < length (xs ++ 10 ∷ [])
ends-long xs = omega (arith, length-append xs (10 ∷ []))

pub shorter : (rest after : List ℕ) (s : Step) → rest ≡ step_text s ++ after → length after < length rest
shorter rest after s e =
    let long : length rest ≡ length (step_text s) + length after = ap length e ∙ length-append (step_text s) after in
    let some : 0 < length (step_text s) = ends-long (step_line s) in
    omega (arith, long, some)

-- ---- functions

pub row_is : (name : List ℕ) (before after : ℕ) (steps : List Step) → IsHead (head_row name before after) → AllByRecursion IsStep steps →
    IsRow (record { name = name; before = before; after = after; steps = steps })
row_is name before after steps h g = record { head = record { name = h.name; short = h.short; before = h.before; after = h.after }; steps = g }

pub begins_with_row : (text rest left name : List ℕ) (before after : ℕ) (steps : List Step) → text ≡ head_text (head_row name before after) ++ rest →
    rest ≡ flat_map step_text steps ++ left → text ≡ row_text (record { name = name; before = before; after = after; steps = steps }) ++ left
begins_with_row text rest left name before after steps e g =
    e ∙ (ap (λ t. head_text (head_row name before after) ++ t) g ∙ sym (append_assoc (head_text (head_row name before after)) (flat_map step_text steps) left))

-- ---- the log so far

pub record HasRead (bytes : List ℕ) (log : List PlainPart) (line : ℕ) (rest : List ℕ) : Type 0 where
  pub text : bytes ≡ log_text (rows_of log) ++ rest
  pub fine : AllByRecursion IsRow (rows_of log)
  pub lines : log ≡ parts_of (rows_of log)
  pub number : line ≡ suc (line_count (rows_of log))
  pub no_step : rows_of log ≢ [] → (s : Step) (after : List ℕ) → IsStep s → rest ≢ step_text s ++ after

pub begins_read : (bytes : List ℕ) → HasRead bytes [] 1 bytes
begins_read bytes = record { text = refl; fine = tt; lines = refl; number = refl; no_step = λ h. absurd (h refl) }

map-push : {A B : Type 0} (f : A → B) (xs : List A) (x : A) → map f (xs ++ x ∷ []) ≡ map f xs ++ f x ∷ []
map-push f [] x = refl
map-push f (y ∷ xs) x = ap (λ t. f y ∷ t) (map-push f xs x)

pub count-push : (rows : List PlainRow) (r : PlainRow) → line_count (rows ++ r ∷ []) ≡ line_count rows + suc (length r.steps)
count-push [] r = omega arith
count-push (q ∷ rows) r = omega (arith, count-push rows r)

parts-push : (line : ℕ) (rows : List PlainRow) (r : PlainRow) → parts_from line (rows ++ r ∷ []) ≡ parts_from line rows ++ part_of r (line + line_count rows) ∷ []
parts-push line [] r = ap (λ n. part_of r n ∷ []) (omega arith)
parts-push line (q ∷ rows) r =
    ap (λ t. part_of q line ∷ t)
    (parts-push (line + suc (length q.steps)) rows r
    ∙ ap (λ n. parts_from (line + suc (length q.steps)) rows ++ part_of r n ∷ []) (omega arith))

pub reads_more : (bytes : List ℕ) (log : List PlainPart) (line : ℕ) (rest left : List ℕ) (p : PlainPart) → HasRead bytes log line rest →
    rest ≡ row_text (row_of_part p) ++ left → IsRow (row_of_part p) → p.line ≡ line → ((s : Step) (after : List ℕ) → IsStep s → left ≢ step_text s ++ after) →
    HasRead bytes (log ++ p ∷ []) (line + (1 + length p.steps)) left
reads_more bytes log line rest left p h e fine number all =
    let pushed : rows_of (log ++ p ∷ []) ≡ rows_of log ++ row_of_part p ∷ [] = map-push row_of_part log p in
    record {
      text =
          h.text
          ∙ (ap (λ t. log_text (rows_of log) ++ t) e
          ∙ (flat-one row_text (rows_of log) (row_of_part p) left ∙ ap (λ rows. log_text rows ++ left) (sym pushed)));
      fine = subst (AllByRecursion IsRow) (sym pushed) (all-append IsRow (rows_of log) (row_of_part p) h.fine fine);
      lines =
          ap (λ l. l ++ p ∷ []) h.lines
          ∙ (ap (λ n. parts_of (rows_of log) ++ part_of (row_of_part p) n ∷ []) (number ∙ (h.number ∙ omega arith))
          ∙ (sym (parts-push 1 (rows_of log) (row_of_part p)) ∙ ap parts_of (sym pushed)));
      number = omega (arith, h.number, count-push (rows_of log) (row_of_part p), ap line_count pushed);
      no_step = λ some. all;
    }

pub all_read : (bytes : List ℕ) (log : List PlainPart) (line : ℕ) (rest : List ℕ) → HasRead bytes log line rest → length rest ≡ 0 → IsLogOf (rows_of log) bytes
all_read bytes log line [] h none = record { rows_are = h.fine; text = h.text ∙ append-nil (log_text (rows_of log)) }
all_read bytes log line (b ∷ rest) h none = absurd (omega (arith, none))

pub read_breaks : (bytes : List ℕ) (log : List PlainPart) (line : ℕ) (rest : List ℕ) → HasRead bytes log line rest → length rest ≢ 0 →
    ((r : PlainRow) (after : List ℕ) → IsHead r → rest ≢ head_text r ++ after) → BreaksAt line bytes
read_breaks bytes log line rest h some no_head =
    record {
      rows = rows_of log;
      rest = rest;
      rows_are = h.fine;
      text = h.text;
      number = h.number;
      more = λ e. some (ap length e);
      no_head = no_head;
      no_step = h.no_step;
    }

-- ---- how many lines there are

steps-long : (steps : List Step) → length steps ≤ length (flat_map step_text steps)
steps-long [] = omega arith
steps-long (s ∷ steps) =
    let some : 0 < length (step_text s) = ends-long (step_line s) in
    omega (arith, some, steps-long steps, length-append (step_text s) (flat_map step_text steps))

pub row-long : (r : PlainRow) → suc (length r.steps) ≤ length (row_text r)
row-long r =
    let some : 0 < length (head_text r) = ends-long (head_line r) in
    omega (arith, some, steps-long r.steps, length-append (head_text r) (flat_map step_text r.steps))

log-long : (rows : List PlainRow) → line_count rows ≤ length (log_text rows)
log-long [] = omega arith
log-long (r ∷ rows) = omega (arith, row-long r, log-long rows, length-append (row_text r) (log_text rows))

pub logs_have_few_lines : LogsHaveFewLines
logs_have_few_lines rows bytes log = omega (arith, log-long rows, ap length log.text)

-- after one more function the number of the next line is one of 32 bits
pub lines_fit : (bytes : List ℕ) (log : List PlainPart) (line : ℕ) (rest left : List ℕ) (p : PlainPart) → HasRead bytes log line rest →
    rest ≡ row_text (row_of_part p) ++ left → line + (1 + length p.steps) ≤ length bytes + 1
lines_fit bytes log line rest left p h e =
    omega (
      arith,
      h.number,
      log-long (rows_of log),
      row-long (row_of_part p),
      ap length h.text,
      length-append (log_text (rows_of log)) rest,
      ap length e,
      length-append (row_text (row_of_part p)) left,
    )

pub left_shorter : (rest left : List ℕ) (p : PlainPart) → rest ≡ row_text (row_of_part p) ++ left → length left < length rest
left_shorter rest left p e = omega (arith, row-long (row_of_part p), ap length e, length-append (row_text (row_of_part p)) left)
