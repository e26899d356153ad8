-- A text is the log of one list of rows at most, or breaks at one line at most.
use Rattle.std.specs.Prelude.{codes, decimal, ◌==◌, if◌then◌else◌}
use Rattle.std.proofs.Common.{◌≡◌, ◌≢◌, ◌≤◌, ℕ, suc, List, [], ◌∷◌, ◌++◌, length, refl, sym, ap, ◌∙◌, append_assoc, append-nil, arith}
use Rattle.std.specs.List.{AllByRecursion, flat_map}
use Rattle.std.proofs.lemmas.Fmt.{decimal_injective}
use Rattle.r_rule.specs.Names.{rule_name}
use Rattle.r_rule.specs.declared.steps.Rule.{Rule}
use Rattle.r_rule.specs.declared.steps.Rule.TheVariants.{Fold, Cne, Dne, Inv, Push, Pull, Invert, Unroll, Inline}
use Rattle.r_rule.specs.declared.steps.Step.{Step}
use Rattle.cc_watch.specs.Rows.{PlainRow}
use Rattle.cc_watch.specs.Texts.{head_text, step_text, log_text}
use Rattle.log_check.specs.Log.{line_count, IsHead, IsStep, IsRow, LogsDoNotBreak, OneBreak, OneReading}
use Rattle.log_check.specs.Lines.{head_line, step_line}
use Rattle.log_check.specs.Pieces.{HasNo, pair_text, named_text}
use Rattle.log_check.proofs.Splits.{split_once, decimal_has_no, name_has_no, rule_has_no, function_has_no}
use Rattle.log_check.proofs.Words.{head_line_is}
use Rattle.log_check.proofs.LineEnds.{head_has_no, step_has_no}

-- ---- what a line says

record SameHead (r q : PlainRow) : Type 0 where
  name : r.name ≡ q.name
  before : r.before ≡ q.before
  after : r.after ≡ q.after

same-head : (r q : PlainRow) → IsHead r → IsHead q → head_line r ≡ head_line q → SameHead r q
same-head r q h g e =
    let words =
    split_once 32 (codes "function") (codes "function") (named_text r.name r.before r.after) (named_text q.name q.before q.after) (function_has_no 32 (omega arith))
    (function_has_no 32 (omega arith)) (sym (head_line_is r) ∙ (e ∙ head_line_is q)) in
    let names =
    split_once 32 r.name q.name (pair_text r.before r.after) (pair_text q.before q.after) (name_has_no 32 refl r.name h.name) (name_has_no 32 refl q.name g.name) words.1 in
    let numbers =
    split_once 32 (decimal r.before) (decimal q.before) (decimal r.after) (decimal q.after) (decimal_has_no 32 r.before (omega arith) h.before)
    (decimal_has_no 32 q.before (omega arith) g.before) names.1 in
    record {
      name = names.0;
      before = decimal_injective r.before q.before (omega (arith, h.before)) (omega (arith, g.before)) numbers.0;
      after = decimal_injective r.after q.after (omega (arith, h.after)) (omega (arith, g.after)) numbers.1;
    }

-- the rule with this name
rule_by : ℕ → ℕ → Rule
rule_by a b =
    if a == 102 then Fold else if a == 99 then Cne else if a == 100 then Dne else if a == 117 then Unroll
    else if a == 112 then (if b == 115 then Push else Pull) else if b == 110 then Inv else if b == 118 then Invert else Inline

pub rule_at : List ℕ → Rule
rule_at (a ∷ b ∷ rest) = rule_by a b
rule_at rest = Fold

pub named : (r : Rule) → rule_at (rule_name r) ≡ r
unfolding rule_at rule_by
named Fold = refl
named Cne = refl
named Dne = refl
named Inv = refl
named Push = refl
named Pull = refl
named Invert = refl
named Unroll = refl
named Inline = refl

same-step : (s t : Step) → IsStep s → IsStep t → step_line s ≡ step_line t → s ≡ t
same-step s t h g e =
    let words =
    split_once 32 (rule_name s.rule) (rule_name t.rule) (decimal s.node) (decimal t.node) (rule_has_no 32 (omega arith) s.rule) (rule_has_no 32 (omega arith) t.rule) e in
    let rules : s.rule ≡ t.rule = sym (named s.rule) ∙ (ap rule_at words.0 ∙ named t.rule) in
    let nodes : s.node ≡ t.node = decimal_injective s.node t.node (omega (arith, h)) (omega (arith, g)) words.1 in
    λ i. record { rule = rules i; node = nodes i }

short-rule : (r : Rule) → length (rule_name r) ≤ 4
short-rule Fold = omega arith
short-rule Cne = omega arith
short-rule Dne = omega arith
short-rule Inv = omega arith
short-rule Push = omega arith
short-rule Pull = omega arith
short-rule Invert = omega arith
short-rule Unroll = omega arith
short-rule Inline = omega arith

head-or-step : (r : PlainRow) (s : Step) → head_line r ≡ step_line s → ⊥
head-or-step r s e =
    let words =
    split_once 32 (codes "function") (rule_name s.rule) (named_text r.name r.before r.after) (decimal s.node) (function_has_no 32 (omega arith))
    (rule_has_no 32 (omega arith) s.rule) (sym (head_line_is r) ∙ e) in
    let long : 8 ≡ length (rule_name s.rule) = ap length words.0 in
    omega (arith, long, short-rule s.rule)

-- ---- texts by lines

lines-apart : (xs ys more rest : List ℕ) → HasNo 10 xs → HasNo 10 ys → (xs ++ (10 ∷ [])) ++ more ≡ (ys ++ (10 ∷ [])) ++ rest → (xs ≡ ys) × (more ≡ rest)
lines-apart xs ys more rest h g e =
    split_once 10 xs ys more rest h g (sym (append_assoc xs (10 ∷ []) more) ∙ (e ∙ append_assoc ys (10 ∷ []) rest))

ends-some : (xs more : List ℕ) → (xs ++ (10 ∷ [])) ++ more ≢ []
ends-some [] more e = absurd cc
ends-some (x ∷ xs) more e = absurd cc

-- a text that begins with no function line and with no step line
record Ends (rest : List ℕ) : Type 0 where
  no_head : (r : PlainRow) (after : List ℕ) → IsHead r → rest ≢ head_text r ++ after
  no_step : (s : Step) (after : List ℕ) → IsStep s → rest ≢ step_text s ++ after

regroup : (a b c d : List ℕ) → ((a ++ b) ++ c) ++ d ≡ a ++ (b ++ (c ++ d))
regroup a b c d = append_assoc (a ++ b) c d ∙ append_assoc a b (c ++ d)

-- rows and what follows them, by the first line
by-head : (r : PlainRow) (rows : List PlainRow) (rest : List ℕ) → log_text (r ∷ rows) ++ rest ≡ head_text r ++ (flat_map step_text r.steps ++ (log_text rows ++ rest))
by-head r rows rest = regroup (head_text r) (flat_map step_text r.steps) (log_text rows) rest

by-step : (s : Step) (steps : List Step) (after : List ℕ) → flat_map step_text (s ∷ steps) ++ after ≡ step_text s ++ (flat_map step_text steps ++ after)
by-step s steps after = append_assoc (step_text s) (flat_map step_text steps) after

step-goes-on : (s : Step) (more : List ℕ) (rows : List PlainRow) (rest : List ℕ) → IsStep s → AllByRecursion IsRow rows → Ends rest → log_text rows ++ rest ≡ step_text s ++ more → ⊥
step-goes-on s more [] rest h all ends e = ends.no_step s more h e
step-goes-on s more (r ∷ rows) rest h all ends e =
    head-or-step r s
    (lines-apart (head_line r) (step_line s) (flat_map step_text r.steps ++ (log_text rows ++ rest)) more (head_has_no r all.0.head) (step_has_no s h) (sym (by-head r rows rest) ∙ e)).0

same-steps : (steps others : List Step) (rows more : List PlainRow) (rest left : List ℕ) → AllByRecursion IsStep steps → AllByRecursion IsStep others → AllByRecursion IsRow rows →
    AllByRecursion IsRow more → Ends rest → Ends left → flat_map step_text steps ++ (log_text rows ++ rest) ≡ flat_map step_text others ++ (log_text more ++ left) →
    (steps ≡ others) × (log_text rows ++ rest ≡ log_text more ++ left)
same-steps [] [] rows more rest left h g all every ends stops e = (refl, e)
same-steps [] (t ∷ others) rows more rest left h g all every ends stops e =
    absurd (step-goes-on t (flat_map step_text others ++ (log_text more ++ left)) rows rest g.0 all ends (e ∙ by-step t others (log_text more ++ left)))
same-steps (s ∷ steps) [] rows more rest left h g all every ends stops e =
    absurd (step-goes-on s (flat_map step_text steps ++ (log_text rows ++ rest)) more left h.0 every stops (sym e ∙ by-step s steps (log_text rows ++ rest)))
same-steps (s ∷ steps) (t ∷ others) rows more rest left h g all every ends stops e =
    let first =
    lines-apart (step_line s) (step_line t) (flat_map step_text steps ++ (log_text rows ++ rest)) (flat_map step_text others ++ (log_text more ++ left)) (step_has_no s h.0) (step_has_no t g.0)
    (sym (by-step s steps (log_text rows ++ rest)) ∙ (e ∙ by-step t others (log_text more ++ left))) in
    let others_are = same-steps steps others rows more rest left h.1 g.1 all every ends stops first.1 in
    (ap (λ x. x ∷ steps) (same-step s t h.0 g.0 first.0) ∙ ap (λ xs. t ∷ xs) others_are.0, others_are.1)

same-row : (r q : PlainRow) → SameHead r q → r.steps ≡ q.steps → r ≡ q
same-row r q head steps = λ i. record { name = head.name i; before = head.before i; after = head.after i; steps = steps i }

same-rows : (rows others : List PlainRow) (rest left : List ℕ) → AllByRecursion IsRow rows → AllByRecursion IsRow others → Ends rest → Ends left →
    log_text rows ++ rest ≡ log_text others ++ left → (rows ≡ others) × (rest ≡ left)
same-rows [] [] rest left h g ends stops e = (refl, e)
same-rows [] (q ∷ others) rest left h g ends stops e =
    absurd (ends.no_head q (flat_map step_text q.steps ++ (log_text others ++ left)) g.0.head (e ∙ by-head q others left))
same-rows (r ∷ rows) [] rest left h g ends stops e =
    absurd (stops.no_head r (flat_map step_text r.steps ++ (log_text rows ++ rest)) h.0.head (sym e ∙ by-head r rows rest))
same-rows (r ∷ rows) (q ∷ others) rest left h g ends stops e =
    let first =
    lines-apart (head_line r) (head_line q) (flat_map step_text r.steps ++ (log_text rows ++ rest)) (flat_map step_text q.steps ++ (log_text others ++ left)) (head_has_no r h.0.head)
    (head_has_no q g.0.head) (sym (by-head r rows rest) ∙ (e ∙ by-head q others left)) in
    let steps = same-steps r.steps q.steps rows others rest left h.0.steps g.0.steps h.1 g.1 ends stops first.1 in
    let more = same-rows rows others rest left h.1 g.1 ends stops steps.1 in
    (ap (λ x. x ∷ rows) (same-row r q (same-head r q h.0.head g.0.head first.0) steps.0) ∙ ap (λ xs. q ∷ xs) more.0, more.1)

-- ---- one reading

nothing-more : Ends []
nothing-more =
    record {
      no_head = λ r after h e. ends-some (head_line r) after (sym e);
      no_step = λ s after h e. ends-some (step_line s) after (sym e);
    }

pub one_reading : OneReading
one_reading rows others bytes one other =
    (same-rows rows others [] [] one.rows_are other.rows_are nothing-more nothing-more
    (append-nil (log_text rows) ∙ (sym one.text ∙ (other.text ∙ sym (append-nil (log_text others)))))).0

-- ---- one line at which a log breaks

-- what follows some rows, where no line of a log may
after-rows : (rows : List PlainRow) (rest : List ℕ) → ((r : PlainRow) (after : List ℕ) → IsHead r → rest ≢ head_text r ++ after) →
    (rows ≢ [] → (s : Step) (after : List ℕ) → IsStep s → rest ≢ step_text s ++ after) → rows ≢ [] → Ends rest
after-rows rows rest no_head no_step some = record { no_head = no_head; no_step = no_step some }

same-break : (rows others : List PlainRow) (rest left : List ℕ) → AllByRecursion IsRow rows → AllByRecursion IsRow others →
    ((r : PlainRow) (after : List ℕ) → IsHead r → rest ≢ head_text r ++ after) → (rows ≢ [] → Ends rest) →
    ((r : PlainRow) (after : List ℕ) → IsHead r → left ≢ head_text r ++ after) → (others ≢ [] → Ends left) →
    log_text rows ++ rest ≡ log_text others ++ left → (rows ≡ others) × (rest ≡ left)
same-break [] [] rest left h g no_head ends not_head stops e = (refl, e)
same-break [] (q ∷ others) rest left h g no_head ends not_head stops e =
    absurd (no_head q (flat_map step_text q.steps ++ (log_text others ++ left)) g.0.head (e ∙ by-head q others left))
same-break (r ∷ rows) [] rest left h g no_head ends not_head stops e =
    absurd (not_head r (flat_map step_text r.steps ++ (log_text rows ++ rest)) h.0.head (sym e ∙ by-head r rows rest))
same-break (r ∷ rows) (q ∷ others) rest left h g no_head ends not_head stops e =
    same-rows (r ∷ rows) (q ∷ others) rest left h g (ends (λ none. absurd cc)) (stops (λ none. absurd cc)) e

pub one_break : OneBreak
one_break bytes line other a b =
    let same =
    same-break a.rows b.rows a.rest b.rest a.rows_are b.rows_are a.no_head (after-rows a.rows a.rest a.no_head a.no_step) b.no_head (after-rows b.rows b.rest b.no_head b.no_step)
    (sym a.text ∙ b.text) in
    a.number ∙ (ap (λ rows. suc (line_count rows)) same.0 ∙ sym b.number)

pub logs_do_not_break : LogsDoNotBreak
logs_do_not_break rows bytes line one b =
    let same =
    same-break rows b.rows [] b.rest one.rows_are b.rows_are nothing-more.no_head (λ some. nothing-more) b.no_head (after-rows b.rows b.rest b.no_head b.no_step)
    (append-nil (log_text rows) ∙ (sym one.text ∙ b.text)) in
    b.more (sym same.1)
