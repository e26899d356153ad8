use Rattle.std.proofs.Common.{◌≡◌, ◌≢◌, ◌<◌, ◌+◌, ◌≤◌, [], ◌∷◌, ◌++◌, ℕ, List, None, length, inl, inr, ap, sym, ◌∙◌, arith}
use Rattle.std.specs.List.{slice_range}
use Rattle.std.proofs.lemmas.Bool.{eqb-true, eqb-false}
use Rattle.cc_io.specs.Source.{prepend}
use Rattle.cc_script_text.specs.Script.{cut, lacks, first}
use Rattle.cc_script_text.specs.Taken.{left_of, read_ahead}
use Rattle.cc_script_text.proofs.lemmas.Cuts.{cut_push}
use Rattle.cc_script_text.proofs.lemmas.Takes.{broken_fault, line_ahead, line_goes_on, line_part, line_pushed, line_long, some_ahead}
use Rattle.cc_script_text.proofs.reader.ScriptReader.take_line.Goals as goal

-- a byte is ahead where more than a part of a command is
low : (line all buffer : List ℕ) (at end : ℕ) → all ≡ line ++ slice_range buffer at end → cut 10 line ≡ None → length line ≤ 100 → first all ≢ lacks → at < end
low line all buffer at end e none few whole = some_ahead buffer at end (line_ahead line all (slice_range buffer at end) e none few whole)

pub returns-in-Ok-None-clause-fault : goal.returns-in-Ok-None-clause-fault
returns-in-Ok-None-clause-fault g c =
    let read = rw c.in-Ok-None.field-0-is at c.in-Ok-None.ensures.taken in
    let left = g.I.Source.left in
    let before = left_of c.args.self.now (left c.args.input.now) in
    let mid = left_of c.loop-byte.self (left c.loop-byte.input) in
    let after = left_of c.next_byte.new.self (left c.next_byte.new.input) in
    let line = c.loop-byte.line.items in
    let inv = c.loop-byte.invariant in
    broken_fault first c.broken.result c.next_byte.new.self.count c.args.self.now.count before after c.broken.ensures (c.next_byte.ensures.count ∙ inv.count)
    (inr (line_part before mid after line inv.taken read.0 inv.one inv.few, read.1))

pub returns-in-Err-clause-fault : goal.returns-in-Err-clause-fault
returns-in-Err-clause-fault g c =
    let left = g.I.Source.left in
    let before = left_of c.args.self.now (left c.args.input.now) in
    let mid = left_of c.loop-byte.self (left c.loop-byte.input) in
    let after = left_of c.next_byte.new.self (left c.next_byte.new.input) in
    let line = c.loop-byte.line.items in
    let inv = c.loop-byte.invariant in
    line_part before mid after line inv.taken c.in-Err.ensures.err inv.one inv.few

pub returns-then-is_full-clause-fault : goal.returns-then-is_full-clause-fault
returns-then-is_full-clause-fault g c =
    let read = rw c.in-Ok-Some.field-0-is at c.in-Ok-Some.ensures.taken in
    let left = g.I.Source.left in
    let before = left_of c.args.self.now (left c.args.input.now) in
    let mid = left_of c.loop-byte.self (left c.loop-byte.input) in
    let after = left_of c.next_byte.new.self (left c.next_byte.new.input) in
    let line = c.loop-byte.line.items in
    let inv = c.loop-byte.invariant in
    let full : length line ≡ 100 = eqb-true (length line) 100 (sym c.is_full.ensures.value ∙ c.if-is_full.true) in
    broken_fault first c.broken-then-is_full.result c.next_byte.new.self.count c.args.self.now.count before after c.broken-then-is_full.ensures (c.next_byte.ensures.count ∙ inv.count)
    (inl (line_long before mid after line c.in-Ok-Some.byte inv.taken read inv.one c.if-byte-eq10.false (omega arith)))

pub returns-in-Ok-None-clause-unasked : goal.returns-in-Ok-None-clause-unasked
returns-in-Ok-None-clause-unasked g c =
    let next = rw c.in-Ok-None.field-0-is at c.in-Ok-None.ensures.unasked in
    let was = c.loop-byte.self in
    let inv = c.loop-byte.invariant in
    λ whole. absurd (next (low c.loop-byte.line.items (read_ahead c.args.self.now) was.buffer was.at was.end (inv.unasked whole).1 inv.one inv.few whole)).0

pub returns-in-Err-clause-unasked : goal.returns-in-Err-clause-unasked
returns-in-Err-clause-unasked g c =
    let was = c.loop-byte.self in
    let inv = c.loop-byte.invariant in
    λ whole. absurd (c.in-Err.ensures.unasked (low c.loop-byte.line.items (read_ahead c.args.self.now) was.buffer was.at was.end (inv.unasked whole).1 inv.one inv.few whole)).0

pub returns-then-byte-eq10-clause-unasked : goal.returns-then-byte-eq10-clause-unasked
returns-then-byte-eq10-clause-unasked g c =
    let next = rw c.in-Ok-Some.field-0-is at c.in-Ok-Some.ensures.unasked in
    let was = c.loop-byte.self in
    let line = c.loop-byte.line.items in
    let all = read_ahead c.args.self.now in
    let inv = c.loop-byte.invariant in
    λ whole.
    (let h = next (low line all was.buffer was.at was.end (inv.unasked whole).1 inv.one inv.few whole) in (
      h.1 ∙ (inv.unasked whole).0,
      line_goes_on line all (read_ahead was) (read_ahead c.next_byte.new.self) c.in-Ok-Some.byte (inv.unasked whole).1 h.0
          ∙ ap (λ (b : ℕ). (line ++ b ∷ []) ++ read_ahead c.next_byte.new.self) c.if-byte-eq10.true,
    ))

pub returns-then-is_full-clause-unasked : goal.returns-then-is_full-clause-unasked
returns-then-is_full-clause-unasked g c =
    let next = rw c.in-Ok-Some.field-0-is at c.in-Ok-Some.ensures.unasked in
    let was = c.loop-byte.self in
    let inv = c.loop-byte.invariant in
    λ whole. (
      (next (low c.loop-byte.line.items (read_ahead c.args.self.now) was.buffer was.at was.end (inv.unasked whole).1 inv.one inv.few whole)).1 ∙ (inv.unasked whole).0,
      tt,
    )

pub loop-byte-preserved : goal.loop-byte-preserved
loop-byte-preserved g c =
    let read = rw c.in-Ok-Some.field-0-is at c.in-Ok-Some.ensures.taken in
    let left = g.I.Source.left in
    let before = left_of c.args.self.now (left c.args.input.now) in
    let mid = left_of c.loop-byte.self (left c.loop-byte.input) in
    let after = left_of c.next_byte.new.self (left c.next_byte.new.input) in
    let line = c.loop-byte.line.items in
    let inv = c.loop-byte.invariant in
    let not_full : length line ≢ 100 = eqb-false (length line) 100 (sym c.is_full.ensures.value ∙ c.if-is_full.false) in
    let fits : length line ≤ 100 = inv.few in
    let more : length c.push.new.self.items ≡ length line + 1 = c.push.ensures.len in
    let next = rw c.in-Ok-Some.field-0-is at c.in-Ok-Some.ensures.unasked in
    let was = c.loop-byte.self in
    let all = read_ahead c.args.self.now in
    record {
      unasked = λ whole.
          (let h = next (low line all was.buffer was.at was.end (inv.unasked whole).1 inv.one inv.few whole) in (
            h.1 ∙ (inv.unasked whole).0,
            line_goes_on line all (read_ahead was) (read_ahead c.next_byte.new.self) c.in-Ok-Some.byte (inv.unasked whole).1 h.0
                ∙ ap (λ (items : List ℕ). items ++ read_ahead c.next_byte.new.self) (sym c.push.ensures.items),
          ));
      taken = line_pushed before mid after line c.in-Ok-Some.byte inv.taken read ∙ ap (λ (items : List ℕ). prepend items after) (sym c.push.ensures.items);
      few = omega arith;
      one = ap (cut 10) c.push.ensures.items ∙ cut_push 10 line c.in-Ok-Some.byte inv.one c.if-byte-eq10.false;
      faults = omega (arith, inv.faults, c.next_byte.ensures.cause.kept);
      count = c.next_byte.ensures.count ∙ inv.count;
    }
