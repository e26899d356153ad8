-- How a script ends at its next command.
use Rattle.std.proofs.Common.{◌≡◌, ◌⊎◌, ◌+◌, ◌<◌, ◌≤◌, ℕ, suc, List, [], ◌∷◌, ◌++◌, length, take, min, Option, None, Some, option_map, refl, ap, sym, subst, ◌∙◌, inl, inr, length-append, arith}
use Rattle.cc_io.specs.Faults.{Increased, LAST_COUNT}
use Rattle.cc_io.specs.Files.{Name, put_file}
use Rattle.cc_io.specs.Laws.{PutTwice}
use Rattle.cc_io.specs.Source.{prepend, IsAtEnd}
use Rattle.cc_io.specs.Sink.{append}
use Rattle.cc_io.proofs.lemmas.Prepends.{prepend-none}
use Rattle.cc_io.proofs.lemmas.Sink.{append-none, append-append}
use Rattle.cc_io.specs.Outside.{Outside, WriteFails}
use Rattle.cc_report.specs.declared.outcome.Outcome.{Outcome}
use Rattle.cc_report.specs.declared.outcome.Outcome.TheVariants as outcome
use Rattle.cc_session.specs.Session.{PlainSession}
use Rattle.cc_script_text.specs.Script.{first, most_commands}
use Rattle.cc_script_text.specs.Taken.{TakesPart, TakesBroken}
use Rattle.cc_script_text.specs.declared.command.Command.{Command}
use Rattle.cc_script_text.specs.declared.command.Command.TheVariants.{Build, End}
use Rattle.cc_top.specs.declared.answer.Answer.{Answer}
use Rattle.cc_top.specs.Answers.{Held, held_first, IsAnswered, IsMade, line_of, lines_of}
use Rattle.cc_top.specs.ScriptEnds.{HasAnswered, Leaves, LeavesAnswers, with_image, IsPlayed, IsBroken, IsUnread, LacksMemory, IsUnsaved, IsUnsaid, ScriptEnds}
use Rattle.cc_top.specs.Steps.{HasRead, HasNotSaved, HasNotSaid, IsNone, IsPlaying, IsQuiet, IsStep, KeepsFaults, StepEnds}
use Rattle.cc_top.proofs.Answering.{later, with_later, answered_at, answered_more, are_no_end, is_no_end, lines_more}
use Rattle.cc_top.proofs.Reading.{takes_more, said_of, script_after, ends_there, breaks_there, lacks_there, goes_there, is_full, taken_twice}

-- ---- counts of faults

rises : (a b c last : ℕ) → a ≤ b → min (b + 1) last ≤ c → min (a + 1) last ≤ c
rises a b c last kept more = omega (arith, kept, more)

pub increased_since : (a b c : ℕ) → a ≤ b → Increased b c → Increased a c
increased_since a b c kept more = rises a b c LAST_COUNT kept more

-- ---- one more command

module _ (put : PutTwice) (begun : PlainSession) (image : Name) (session : PlainSession) (count : ℕ) (before mid : Outside) (p : IsPlaying begun image session count before mid) where
  -- the command is answered so by the session as it is after the commands before
  answered_now : (new : PlainSession) (out : Option (List ℕ)) (command : Command) (answer : Answer) → IsAnswered (held_first session) command answer (record { session = new; image = out })
      → IsAnswered p.held command answer (record { session = new; image = later p.held.image out })
  answered_now new out command answer h =
      answered_at p.held.session new out p.held.image command answer
      (subst (λ (s : PlainSession). IsAnswered (held_first s) command answer (record { session = new; image = out })) (sym p.session_is) h)

  -- files and output after it
  leaves_more : (out : Option (List ℕ)) (text : List ℕ) (after : Outside) → after.files.known ≡ with_image image out mid.files.known → after.output.bytes ≡ append mid.output.bytes text
      → Leaves image (later p.held.image out) (lines_of p.answers ++ text) before after
  leaves_more out text after files output = (
    files ∙ (ap (with_image image out) p.leaves.0 ∙ with_later put image p.held.image out before.files.known),
    output ∙ (ap (λ held. append held text) p.leaves.1 ∙ append-append before.output.bytes (lines_of p.answers) text),
  )

  leaves_same : (after : Outside) → IsQuiet mid after → LeavesAnswers image p.held p.answers before after
  leaves_same after quiet = (quiet.0 ∙ p.leaves.0, quiet.1 ∙ p.leaves.1)

  pub plays_on : (new : PlainSession) (count' : ℕ) (after : Outside) → IsStep image session new count count' mid after → KeepsFaults image mid after → IsPlaying begun image new count' before after
  plays_on new count' after step kept = record {
    taken = p.taken ++ step.read.takes.bytes;
    input = taken_twice before.input.bytes mid.input.bytes after.input.bytes p.taken step.read.takes.bytes p.input step.read.takes.taken;
    commands = p.commands ++ step.command ∷ [];
    takes = takes_more p.commands p.taken step.command mid.input.bytes after.input.bytes step.read.takes p.takes;
    counted = length-append p.commands (step.command ∷ []) ∙ counts (length p.commands) p.counted step.counted;
    few = limits step.read.given step.counted;
    answers = p.answers ++ step.answer ∷ [];
    held = record { session = new; image = later p.held.image step.carried.out };
    answered =
        answered_more (held_first begun) p.held (record { session = new; image = later p.held.image step.carried.out }) p.commands p.answers step.command step.answer p.answered
        (answered_now new step.carried.out step.command step.answer step.carried.answered);
    session_is = refl;
    leaves =
        subst (λ text. Leaves image (later p.held.image step.carried.out) text before after) (sym (lines_more p.answers step.answer))
        (leaves_more step.carried.out (line_of step.answer) after step.carried.files step.output);
    kept = record {
      files = record {
        creates = omega (arith, p.kept.files.creates, kept.files.creates);
        writes = omega (arith, p.kept.files.writes, kept.files.writes);
      };
      input = omega (arith, p.kept.input, kept.input);
      output = omega (arith, p.kept.output, kept.output);
    };
  } where
    counts : (n : ℕ) → n ≡ count → count' ≡ suc count → n + 1 ≡ count'
    counts n is more = omega (arith, is, more)

    limits : count < most_commands → count' ≡ suc count → count' ≤ most_commands
    limits low more = omega (arith, low, more)

  -- ---- what was answered, where these bytes more were taken

  abbrev has_answered : (left : Option (List ℕ)) (more : List ℕ) → mid.input.bytes ≡ prepend more left → HasAnswered begun before.input.bytes left
  has_answered left more is = record {
    taken = p.taken ++ more;
    input = taken_twice before.input.bytes mid.input.bytes left p.taken more p.input is;
    commands = p.commands;
    rest = script_after count more;
    said = said_of p.commands count p.taken more (are_no_end (held_first begun) p.held p.commands p.answers p.answered) p.counted p.few (p.takes more);
    answers = p.answers;
    held = p.held;
    answered = p.answered;
  }

  -- ---- the script ends there

  module _ (after : Outside) (ahead : List ℕ) where
    -- what is left for the reader
    abbrev seen : Outside
    seen = record after { input = record after.input { bytes = prepend ahead after.input.bytes } }

    -- these bytes more were taken of the input, and those that were read ahead
    more_taken : (bytes : List ℕ) → mid.input.bytes ≡ prepend bytes (prepend ahead after.input.bytes) → mid.input.bytes ≡ prepend (bytes ++ ahead) after.input.bytes
    more_taken bytes is = taken_twice mid.input.bytes (prepend ahead after.input.bytes) after.input.bytes bytes ahead is refl

    ends_done : HasRead End count mid seen → IsQuiet mid seen → IsPlayed begun image before after
    ends_done read quiet = record {
      has = has_answered after.input.bytes (read.takes.bytes ++ ahead) (more_taken read.takes.bytes read.takes.taken);
      ended = ends_there count read.given mid.input.bytes seen.input.bytes ahead read.takes;
      leaves = leaves_same after quiet;
    }

    number_is : (number : ℕ) → number ≡ suc count → number ≡ suc (length p.commands)
    number_is number is = is ∙ ap suc (sym p.counted)

    ends_full : (number : ℕ) → number ≡ suc count → count ≡ most_commands → seen.input.bytes ≡ mid.input.bytes → IsQuiet mid seen → IsBroken begun image number before after
    ends_full number is full same quiet = record {
      has = has_answered after.input.bytes ahead (sym same);
      counted = number_is number is;
      broken = inl (is_full count ahead full);
      leaves = leaves_same after quiet;
    }

    ends_broken : (number : ℕ) → number ≡ suc count → count < most_commands → TakesBroken first mid.input.bytes seen.input.bytes → IsQuiet mid seen → IsBroken begun image number before after
    ends_broken number is low t quiet = record {
      has = has_answered after.input.bytes (t.bytes ++ ahead) (more_taken t.bytes t.taken);
      counted = number_is number is;
      broken = inl (breaks_there count low mid.input.bytes seen.input.bytes ahead t);
      leaves = leaves_same after quiet;
    }

    -- nothing is left, or it is not known what
    at_end : (bytes : List ℕ) (left : Option (List ℕ)) → IsAtEnd (prepend ahead left) → mid.input.bytes ≡ prepend bytes (prepend ahead left) → (mid.input.bytes ≡ prepend bytes left) × IsAtEnd left
    at_end bytes None end is = (is, tt)
    at_end bytes (Some left) end is =
        let none = nothing ahead left end in
        (is ∙ ap (λ l. Some (bytes ++ l)) (ap (λ a. a ++ left) none.0), none.1)
      where
        nothing : (a l : List ℕ) → a ++ l ≡ [] → (a ≡ []) × (l ≡ [])
        nothing [] l e = (refl, e)
        nothing (x ∷ a) l e = absurd cc

    ends_lack : (number : ℕ) → number ≡ suc count → count < most_commands → (t : TakesPart first mid.input.bytes seen.input.bytes) → IsAtEnd seen.input.bytes → IsQuiet mid seen
        → IsBroken begun image number before after
    ends_lack number is low t end quiet =
        let found = at_end t.bytes after.input.bytes end t.taken in
        record {
          has = has_answered after.input.bytes t.bytes found.0;
          counted = number_is number is;
          broken = inr (lacks_there count low mid.input.bytes seen.input.bytes ahead t, found.1);
          leaves = leaves_same after quiet;
        }

    ends_script : (number : ℕ) → number ≡ suc count → IsNone count mid.input.bytes seen.input.bytes → IsQuiet mid seen → IsBroken begun image number before after
    ends_script number is (inl full) quiet = ends_full number is full.0 full.1 quiet
    ends_script number is (inr (low, inl t)) quiet = ends_broken number is low t quiet
    ends_script number is (inr (low, inr (t, end))) quiet = ends_lack number is low t end quiet

    ends_unread : count < most_commands → TakesPart first mid.input.bytes seen.input.bytes → ahead ≡ [] → Increased mid.input.faults after.input.faults → IsQuiet mid seen
        → IsUnread begun image before after
    ends_unread low t none more quiet = record {
      has = has_answered after.input.bytes t.bytes (t.taken ∙ ap (prepend t.bytes) (ap (λ a. prepend a after.input.bytes) none ∙ sym (prepend-none after.input.bytes)));
      fails = increased_since before.input.faults mid.input.faults after.input.faults p.kept.input more;
      lacks = lacks_there count low mid.input.bytes seen.input.bytes ahead t;
      leaves = leaves_same after quiet;
    }

    ends_memory : (bytes : List ℕ) → mid.input.bytes ≡ prepend bytes seen.input.bytes → IsQuiet mid seen → LacksMemory begun image before after
    ends_memory bytes is quiet = record {
      has = has_answered after.input.bytes (bytes ++ ahead) (more_taken bytes is);
      leaves = leaves_same after quiet;
    }

    write_fails : WriteFails image mid.files after.files → WriteFails image before.files after.files
    write_fails (inl more) = inl (increased_since (before.files.create_faults image) (mid.files.create_faults image) (after.files.create_faults image) p.kept.files.creates more)
    write_fails (inr more) = inr (increased_since before.files.write_faults mid.files.write_faults after.files.write_faults p.kept.files.writes more)

    -- OUT is as it was before the `build`, or holds a prefix of its image
    ends_unsaved : HasNotSaved image session count mid seen → IsUnsaved begun image before after
    ends_unsaved h = by-files h.why.files
      where
        by-files : (seen.files.known ≡ mid.files.known) ⊎ ((n : ℕ) × (seen.files.known ≡ option_map (put_file image (take n h.why.bytes)) mid.files.known)) → IsUnsaved begun image before after
        by-files (inl same) = record {
          has = has_answered after.input.bytes (h.read.takes.bytes ++ ahead) (more_taken h.read.takes.bytes h.read.takes.taken);
          fails = write_fails h.why.fails;
          next = goes_there count h.read.given mid.input.bytes seen.input.bytes ahead Build tt h.read.takes;
          bytes = h.why.bytes;
          jobs = h.why.jobs;
          made = subst (λ (s : PlainSession). IsMade s h.why.bytes h.why.jobs) (sym p.session_is) h.why.made;
          out = p.held.image;
          out_is = inl refl;
          leaves = leaves_same after (same, h.output);
        }
        by-files (inr (n, cut)) = record {
          has = has_answered after.input.bytes (h.read.takes.bytes ++ ahead) (more_taken h.read.takes.bytes h.read.takes.taken);
          fails = write_fails h.why.fails;
          next = goes_there count h.read.given mid.input.bytes seen.input.bytes ahead Build tt h.read.takes;
          bytes = h.why.bytes;
          jobs = h.why.jobs;
          made = subst (λ (s : PlainSession). IsMade s h.why.bytes h.why.jobs) (sym p.session_is) h.why.made;
          out = Some (take n h.why.bytes);
          out_is = inr (n, refl);
          leaves = (cut ∙ (ap (with_image image (Some (take n h.why.bytes))) p.leaves.0 ∙ with_later put image p.held.image (Some (take n h.why.bytes)) before.files.known), h.output ∙ p.leaves.1);
        }

    ends_unsaid : HasNotSaid image session count mid seen → IsUnsaid begun image before after
    ends_unsaid h =
        let held : Held = record { session = h.new; image = later p.held.image h.carried.out } in
        let answered = answered_now h.new h.carried.out h.command h.answer h.carried.answered in
        record {
          has = has_answered after.input.bytes (h.read.takes.bytes ++ ahead) (more_taken h.read.takes.bytes h.read.takes.taken);
          fails = increased_since before.output.faults mid.output.faults after.output.faults p.kept.output h.fails;
          command = h.command;
          next = goes_there count h.read.given mid.input.bytes seen.input.bytes ahead h.command (is_no_end p.held held h.command h.answer answered) h.read.takes;
          answer = h.answer;
          held = held;
          answered = answered;
          count = h.written;
          leaves = leaves_more h.carried.out (take h.written (line_of h.answer)) after h.carried.files h.output;
        }

    pub ends : (e : Outcome) → StepEnds image e session count ahead mid seen → ScriptEnds begun image e before after
    ends outcome.Done h = ends_done h.0 h.1
    ends (outcome.Script number) h = ends_script number h.0.0 h.0.1 h.1
    ends outcome.ReadFault h = ends_unread h.0.0 h.0.1 h.0.2 h.0.3 h.1
    ends outcome.NoMemory h = ends_memory h.0.0 h.0.1 h.1
    ends outcome.WriteFault (inl h) = inl (ends_unsaved h)
    ends outcome.WriteFault (inr h) = inr (ends_unsaid h)
    ends _ h = absurd h

-- ---- before the first command

module _ (session : PlainSession) (image : Name) (before : Outside) where
  pub starts : (ahead : List ℕ) (count : ℕ) → ahead ≡ [] → count ≡ 0 →
      IsPlaying session image session count before (record before { input = record before.input { bytes = prepend ahead before.input.bytes } })
  starts ahead count none zero = record {
    taken = [];
    input = prepend-none before.input.bytes ∙ (prepend-none (prepend [] before.input.bytes) ∙ ap (λ a. prepend [] (prepend a before.input.bytes)) (sym none));
    commands = [];
    takes = λ more. refl;
    counted = sym zero;
    few = omega (arith, zero);
    answers = [];
    held = held_first session;
    answered = refl;
    session_is = refl;
    leaves = (refl, sym (append-none before.output.bytes));
    kept = record { files = record { creates = omega arith; writes = omega arith }; input = omega arith; output = omega arith };
  }
