-- The arguments of a command of any form are read as they are defined to be: after any that were read, the reading of
-- those that are left is what the definition says of them.
use Rattle.std.proofs.Common.{◌≡◌, ◌+◌, ◌<◌, ◌||◌, ◌++◌, Bool, true, false, ℕ, List, [], ◌∷◌, Option, Some, None, refl, sym, ap, ap₂, subst, ◌∙◌, length, length-append, min, arith}
use Rattle.std.specs.Prelude.{if◌then◌else◌, option_map}
use Rattle.std.specs.Str.{IsUtf8}
use Rattle.std.proofs.Math.Bool.{and-false}
use Rattle.std.proofs.lemmas.Bool.{or_left, or_right}
use Rattle.clap.specs.Lexer.{usize_max}
use Rattle.clap.specs.Kinds.{Kinds, or_else}
use Rattle.clap.specs.Walk.{Held, Row, Rule, Walk, arg_by_index, arg_by_long, Waiting, arg_by_short, finished, idle, is_pending, option_word, pushed, settled, used, to_positional, value, walked}
use Rattle.clap.specs.Faults.{check_fault, defaults_fault, long_fault, react_fault, repeat_fault, settle_fault, short_fault, step_fault, turn_fault, use_fault, walk_fault}
use Rattle.cc_command.specs.ParsedArguments.{Text, parsed, values_of}
use Rattle.cc_command.specs.Forms.{Form, Positional, option_names}
use Rattle.cc_command.specs.Reading.{read_by}
use Rattle.cc_command.proofs.Classes.{IsPositional, IsOption, Class, a_positional, an_end, an_option, are_letters, class}
use Rattle.cc_command.proofs.Lookups.{IsHelpOrNone, LongFound, TakesOne, by_index, by_name, bytes-refl, id-found, index-found, is_known, is_positional, long-found, named_rule, next_of, positional_rule, rules_from, short-found}
use Rattle.cc_command.proofs.Rows.{rows_for}
use Rattle.cc_command.proofs.Settled.{Given, IsFaulty, Ready, a-row, faulty-left, held, is_name, no-row, repeat-again, repeat-new, settle-again, settle-fault, settle-waiting, settled-held, use-one, used-new, waiting, whole}
use Rattle.cc_command.proofs.ReadSoFar.{IsRead, has_distinct_names, next-free, next-positional, none-some, read-option, read-positional}
use Rattle.cc_command.proofs.AtEnd.{at-end, command_at, end_fault, leaf}
use Rattle.cc_command.proofs.Defined.{after, after-again, after-full, after-none, after-option, after-positional}
use Rattle.cc_command.proofs.Steps.{before, expecting, letters-before, letters-expecting, long-refused, option-before, option-expecting, outcome, short-refused, step, step-end, step-end-expecting, stop, stuck, trailing, turn-positional, walked-positional, walked-trailing}

-- the arguments are valid text
abbrev pub AreTexts : List Text → Type 0
AreTexts [] = Unit {0}
AreTexts (w ∷ ws) = IsUtf8 w × AreTexts ws

pub next-below : {A : Type 0} (form : Form A) (xs : List Text) (r : Text) → next_of form.positionals xs ≡ Some r → length xs < length form.positionals
next-below form xs r is = below form.positionals xs is where
  below : (ps : List Positional) (xs : List Text) → next_of ps xs ≡ Some r → length xs < length ps
  below [] xs is = none-some r is
  below (p ∷ ps) [] is = omega arith
  below (p ∷ ps) (x ∷ xs) is = let rest = below ps xs is in omega arith

module _ {A : Type 0} (form : Form A) (distinct : has_distinct_names form.positionals form.options ≡ true) (few : 1 + length form.positionals < 1000) where
  abbrev pub rules : List Rule
  rules = rules_from 1 form.positionals form.options

  abbrev pub IsReady : Given → Option (Text × Text) → Type 0
  IsReady = Ready form.positionals form.options

  abbrev pub ReadAs : Given → List Text → Given → Type 0
  ReadAs = IsRead form.positionals form.options

  abbrev pub reads : Walk → List Text → Option A
  reads = outcome (leaf form) (read_by form)

  -- the argument that has the next index
  pub at-index : (xs : List Text) → arg_by_index rules (1 + length xs) ≡ option_map (positional_rule (1 + length xs)) (next_of form.positionals xs)
  at-index xs = index-found 1 form.positionals form.options xs (1 + length xs) refl few

  pub no-index : (xs : List Text) (h : Held) → next_of form.positionals xs ≡ None → IsFaulty (step_fault (leaf form) (1 + length xs) h value)
  no-index xs h full =
      let none = at-index xs ∙ ap (option_map (positional_rule (1 + length xs))) full in
      rw none refl

  pub index-fault : (xs : List Text) (r : Text) (h : Held) → next_of form.positionals xs ≡ Some r → step_fault (leaf form) (1 + length xs) h value ≡ settle_fault rules false h
  index-fault xs r h is =
      let found = at-index xs ∙ ap (option_map (positional_rule (1 + length xs))) is in
      let alone = and-false (is_pending (positional_rule (1 + length xs) r) h.pending) in
      rw (found, alone) refl

  -- ---- where what is held cannot be settled, no arguments are a command

  module _ (h : Held) (dead : IsFaulty (settle_fault rules false h)) where
    pub dead-held : command_at (leaf form) (read_by form) [] h ≡ None
    dead-held =
        let fault : IsFaulty (end_fault (leaf form) h) =
        faulty-left (settle_fault rules false h) (or_else (defaults_fault (settled rules h).rows rules) (check_fault (leaf form) (finished rules h) false)) dead in
        rw fault refl

    pub dead-end : (w : Walk) → w.held ≡ h → reads w [] ≡ None
    unfolding walk_fault
    dead-end w is = ap (command_at (leaf form) (read_by form) []) is ∙ dead-held

    pub dead-index : (xs : List Text) → IsFaulty (step_fault (leaf form) (1 + length xs) h value)
    dead-index xs = by_next (next_of form.positionals xs) refl where
      by_next : (next : Option Text) → next_of form.positionals xs ≡ next → IsFaulty (step_fault (leaf form) (1 + length xs) h value)
      by_next None is = no-index xs h is
      by_next (Some r) is = let fault = index-fault xs r h is in rw fault dead

    pub dead-trailing : (xs : List Text) (ws : List Text) → reads (trailing h (1 + length xs)) ws ≡ None
    dead-trailing xs [] = dead-end (trailing h (1 + length xs)) refl
    dead-trailing xs (w ∷ ws) = stop (leaf form) (read_by form) (trailing h (1 + length xs)) w ws (dead-index xs)

    pub dead-stuck : (id : Text) (xs : List Text) (ws : List Text) → reads (stuck id h (1 + length xs)) ws ≡ None
    dead-stuck id xs [] = dead-end (stuck id h (1 + length xs)) refl
    dead-stuck id xs (w ∷ ws) = stop (leaf form) (read_by form) (stuck id h (1 + length xs)) w ws (dead-index xs)

    pub dead-long : (name : Text) (v : Option Text) → IsFaulty (long_fault rules false (arg_by_long rules name) v h)
    dead-long name v = by_test (is_known form.options name) v (long-found 1 form.positionals form.options name) where
      by_test : (t : Bool) (v : Option Text) → LongFound t name (arg_by_long rules name) → IsFaulty (long_fault rules false (arg_by_long rules name) v h)
      by_test false v found = long-refused rules h (arg_by_long rules name) v found
      by_test true None found = rw found dead
      by_test true (Some v) found = rw found (faulty-left (settle_fault rules false h) (use_fault false (named_rule name) (v ∷ []) (settled rules h).rows) dead)

  pub no-letters : (c : ℕ) (rest : Text) (h : Held) (further : Held → Kinds) → IsFaulty (short_fault rules false (arg_by_short rules c) rest h further)
  no-letters c rest h further = short-refused rules h (arg_by_short rules c) rest further (short-found 1 form.positionals form.options c)

  module _ (h : Held) (dead : IsFaulty (settle_fault rules false h)) (unbundled : h.skip ≡ 0) where
    pub dead-before : (xs : List Text) (ws : List Text) → AreTexts ws → reads (before h (1 + length xs)) ws ≡ None
    dead-before xs [] u = dead-end h dead (before h (1 + length xs)) refl
    dead-before xs (w ∷ ws) u = by_class w (class w u.0) where
      by_class : (w : Text) → Class w → reads (before h (1 + length xs)) (w ∷ ws) ≡ None
      by_class w (a_positional _ p) = stop (leaf form) (read_by form) (before h (1 + length xs)) w ws (let t = turn-positional (leaf form) h (1 + length xs) w p in rw t (dead-index h dead xs))
      by_class _ an_end = step-end (leaf form) (read_by form) h (1 + length xs) ws ∙ dead-trailing h dead xs ws
      by_class w (an_option _ name v p) = stop (leaf form) (read_by form) (before h (1 + length xs)) w ws (option-before (leaf form) h (1 + length xs) w name v p (dead-long h dead name v))
      by_class w (are_letters _ c x cs p) = stop (leaf form) (read_by form) (before h (1 + length xs)) w ws (letters-before (leaf form) h (1 + length xs) w c x cs p unbundled (no-letters c))

  -- ---- a positional argument goes to the next index

  abbrev pub name_of : Text → Bool
  name_of = is_name form.positionals form.options

  -- the walk after it, where it stood after `--` or not
  abbrev pub walk_at : Bool → Held → ℕ → Walk
  walk_at t h position = record { held = h; waiting = idle; position = position; is_trailing = t; stopped = None }

  pub to-next : (t : Bool) (seen : Given) (last : Option (Text × Text)) (xs : List Text) (w r : Text) → IsReady seen last → next_of form.positionals xs ≡ Some r →
      to_positional rules (arg_by_index rules (1 + length xs)) w (walk_at t (held seen last) (1 + length xs)) (held seen last)
      ≡ walk_at (t || false) (held (whole seen last) (Some (r, w))) (1 + length (xs ++ w ∷ []))
  to-next t seen last xs w r ready is =
      let found = at-index xs ∙ ap (option_map (positional_rule (1 + length xs))) is in
      let alone = and-false (is_pending (positional_rule (1 + length xs) r) (held seen last).pending) in
      let settles = settled-held form.positionals form.options seen last ready in
      let below = next-below form xs r is in
      let position : min (1 + length xs + 1) usize_max ≡ 1 + length (xs ++ w ∷ []) = omega (arith, length-append xs (w ∷ [])) in
      ap (λ a. to_positional rules a w (walk_at t (held seen last) (1 + length xs)) (held seen last)) found
      ∙ ap (λ b. walk_at (t || false) (pushed r w (if b then held seen last else settled rules (held seen last))) (min (1 + length xs + 1) usize_max)) alone
      ∙ ap₂ (λ (h : Held) (k : ℕ). walk_at (t || false) (pushed r w h) k) settles position

  module _ (seen : Given) (last : Option (Text × Text)) (xs : List Text) (given : Given) (ready : IsReady seen last) (read : ReadAs (whole seen last) xs given)
      (r w : Text) (is : next_of form.positionals xs ≡ Some r) where
    pub next-ready : IsReady (whole seen last) (Some (r, w))
    next-ready = (or_left (is_positional form.positionals r) (is_known form.options r) (next-positional form.positionals xs r is), next-free form.positionals xs (whole seen last) r is read.required)

    pub next-read : ReadAs (whole (whole seen last) (Some (r, w))) (xs ++ w ∷ []) given
    next-read = read-positional form.positionals form.options distinct (whole seen last) xs given read r w is

    pub next-fault : step_fault (leaf form) (1 + length xs) (held seen last) value ≡ []
    next-fault = index-fault xs r (held seen last) is ∙ settle-fault form.positionals form.options seen last ready

  -- ---- after `--`

  abbrev pub TrailingReads : List Text → Type 0
  TrailingReads ws = (seen : Given) (last : Option (Text × Text)) (xs : List Text) (given : Given) → IsReady seen last → ReadAs (whole seen last) xs given →
      reads (trailing (held seen last) (1 + length xs)) ws ≡ after form xs given (Some (record { positionals = ws; options = [] }))

  pub trailing-reads : (ws : List Text) → TrailingReads ws
  unfolding walk_fault
  trailing-reads [] seen last xs given ready read = at-end form seen last xs given ready read ∙ after-none form xs given
  trailing-reads (w ∷ ws) seen last xs given ready read = by_next (next_of form.positionals xs) refl (trailing-reads ws) where
    by_next : (next : Option Text) → next_of form.positionals xs ≡ next → TrailingReads ws →
        reads (trailing (held seen last) (1 + length xs)) (w ∷ ws) ≡ after form xs given (Some (record { positionals = w ∷ ws; options = [] }))
    by_next None is rest =
        stop (leaf form) (read_by form) (trailing (held seen last) (1 + length xs)) w ws (no-index xs (held seen last) is)
        ∙ sym (after-full form xs given w (Some (record { positionals = ws; options = [] })) is)
    by_next (Some r) is rest =
        step (leaf form) (read_by form) (trailing (held seen last) (1 + length xs)) (trailing (held (whole seen last) (Some (r, w))) (1 + length (xs ++ w ∷ []))) w ws
        (next-fault seen last xs given ready read r w is)
        (walked-trailing (leaf form) (held seen last) (1 + length xs) w ∙ to-next true seen last xs w r ready is)
        ∙ rest (whole seen last) (Some (r, w)) (xs ++ w ∷ []) given (next-ready seen last xs given ready read r w is) (next-read seen last xs given ready read r w is)
        ∙ after-positional form xs given w (Some (record { positionals = ws; options = [] }))

  -- ---- an option

  abbrev pub names : List Text
  names = option_names form.options

  pub named-found : (name : Text) → is_known form.options name ≡ true → arg_by_long rules name ≡ Some (named_rule name)
  named-found name known = subst (λ t. LongFound t name (arg_by_long rules name)) known (long-found 1 form.positionals form.options name)

  pub named-unknown : (name : Text) → is_known form.options name ≡ false → IsHelpOrNone (arg_by_long rules name)
  named-unknown name unknown = subst (λ t. LongFound t name (arg_by_long rules name)) unknown (long-found 1 form.positionals form.options name)

  pub known-name : (name : Text) → is_known form.options name ≡ true → name_of name ≡ true
  known-name name known = or_right (is_positional form.positionals name) (is_known form.options name) known

  module _ (seen : Given) (last : Option (Text × Text)) (xs : List Text) (given : Given) (ready : IsReady seen last) (read : ReadAs (whole seen last) xs given)
      (a name : Text) (known : is_known form.options name ≡ true) where
    -- whose value is the next argument
    pub to-value : IsOption a name None → walked rules [] (before (held seen last) (1 + length xs)) a ≡ expecting name (waiting (whole seen last) name) (1 + length xs)
    unfolding walked
    to-value p =
        let found = named-found name known in
        let settles = settled-held form.positionals form.options seen last ready in
        rw (p.not_end, p.long, found) (ap (λ (h : Held). expecting name (record h { pending = Some (name, []) }) (1 + length xs)) settles)

    pub to-value-fault : IsOption a name None → turn_fault (leaf form) [] (before (held seen last) (1 + length xs)) a ≡ []
    to-value-fault p =
        let found = named-found name known in
        let fault = settle-fault form.positionals form.options seen last ready in
        rw (p.not_end, p.long, found, fault) refl

    -- whose value follows `=`
    pub at-once : (v : Text) → IsOption a name (Some v) → values_of name (whole seen last) ≡ [] →
        walked rules [] (before (held seen last) (1 + length xs)) a ≡ before (held (whole seen last ++ (name, v) ∷ []) None) (1 + length xs)
    unfolding walked
    at-once v p none =
        let found = named-found name known in
        let settles = settled-held form.positionals form.options seen last ready in
        rw (p.not_end, p.long, found)
        (ap (λ (h : Held). before (record h { rows = used (named_rule name) (v ∷ []) h.rows; pending = None }) (1 + length xs)) settles
        ∙ ap (λ (rows : List Row). before (record { rows = rows; pending = None; skip = 0 }) (1 + length xs)) (used-new name v (named_rule name) (whole seen last) by_name none))

    pub use-named : (v : Text) → react_fault rules false (named_rule name) (v ∷ []) (held seen last) ≡ repeat_fault false name (rows_for (whole seen last))
    use-named v =
        let fault = settle-fault form.positionals form.options seen last ready in
        let settles = settled-held form.positionals form.options seen last ready in
        ap (λ f. or_else f (use_fault false (named_rule name) (v ∷ []) (settled rules (held seen last)).rows)) fault
        ∙ ap (λ (h : Held). use_fault false (named_rule name) (v ∷ []) h.rows) settles
        ∙ use-one name v (named_rule name) (rows_for (whole seen last)) by_name

    pub at-once-fault : (v : Text) → IsOption a name (Some v) → values_of name (whole seen last) ≡ [] → turn_fault (leaf form) [] (before (held seen last) (1 + length xs)) a ≡ []
    at-once-fault v p none =
        let found = named-found name known in
        let fault = use-named v ∙ repeat-new name (rows_for (whole seen last)) (no-row name (whole seen last) none) in
        rw (p.not_end, p.long, found, fault) refl

    pub at-once-again : (v w : Text) (vs : List Text) → values_of name (whole seen last) ≡ w ∷ vs → IsFaulty (long_fault rules false (arg_by_long rules name) (Some v) (held seen last))
    at-once-again v w vs some =
        let found = named-found name known in
        let fault = use-named v in
        rw (found, fault) (repeat-again name (rows_for (whole seen last)) (a-row name w vs (whole seen last) some))

  -- ---- what is left, by induction

  abbrev pub Reads : List Text → Type 0
  Reads ws = (seen : Given) (last : Option (Text × Text)) (xs : List Text) (given : Given) → IsReady seen last → ReadAs (whole seen last) xs given →
      reads (before (held seen last) (1 + length xs)) ws ≡ after form xs given (parsed names None ws)

  -- where an option waits for its value
  abbrev pub ReadsValue : List Text → Type 0
  ReadsValue ws = (seen : Given) (name : Text) (xs : List Text) (given : Given) → is_known form.options name ≡ true → ReadAs seen xs given →
      reads (expecting name (waiting seen name) (1 + length xs)) ws ≡ after form xs given (parsed names (Some name) ws)

  pub own-value : (name v : Text) → values_of name ((name, v) ∷ []) ≡ v ∷ []
  own-value name v = let same = bytes-refl name in rw same refl

  pub taken : (name w : Text) (h : Held) (a : Rule) → TakesOne name a → option_word (Some a) name w (record h { pending = Some (name, []) }) ≡ (record h { pending = Some (name, w ∷ []) }, idle)
  taken name w h _ (by_index i) = let same = bytes-refl name in rw same refl
  taken name w h _ by_name = let same = bytes-refl name in rw same refl

  module _ (seen : Given) (name : Text) (k : ℕ) (w : Text) (known : is_known form.options name ≡ true) (p : IsPositional w) where
    pub value-taken : walked rules [] (expecting name (waiting seen name) k) w ≡ before (held seen (Some (name, w))) k
    unfolding walked
    value-taken =
        let found = id-found 1 form.positionals form.options name (known-name name known) in
        rw (p.not_end, p.not_long, p.not_short, found.1)
        (ap (λ (m : Held × Waiting). record { held = m.0; waiting = m.1; position = k; is_trailing = false; stopped = None }) (taken name w (held seen None) found.0 found.2))

    pub value-fault : turn_fault (leaf form) [] (expecting name (waiting seen name) k) w ≡ []
    value-fault = rw (p.not_end, p.not_long, p.not_short) refl

  module _ (w : Text) (ws : List Text) (u : AreTexts ws) (rest : Reads ws) where
    pub step-positional : IsPositional w → Reads (w ∷ ws)
    step-positional p seen last xs given ready read = by_next (next_of form.positionals xs) refl where
      by_next : (next : Option Text) → next_of form.positionals xs ≡ next → reads (before (held seen last) (1 + length xs)) (w ∷ ws) ≡ after form xs given (parsed names None (w ∷ ws))
      by_next None is =
          let turn = turn-positional (leaf form) (held seen last) (1 + length xs) w p in
          stop (leaf form) (read_by form) (before (held seen last) (1 + length xs)) w ws (rw turn (no-index xs (held seen last) is))
          ∙ sym (rw p.is (after-full form xs given w (parsed names None ws) is))
      by_next (Some r) is =
          step (leaf form) (read_by form) (before (held seen last) (1 + length xs)) (before (held (whole seen last) (Some (r, w))) (1 + length (xs ++ w ∷ []))) w ws
          (turn-positional (leaf form) (held seen last) (1 + length xs) w p ∙ next-fault seen last xs given ready read r w is)
          (walked-positional (leaf form) (held seen last) (1 + length xs) w p ∙ to-next false seen last xs w r ready is)
          ∙ rest (whole seen last) (Some (r, w)) (xs ++ w ∷ []) given (next-ready seen last xs given ready read r w is) (next-read seen last xs given ready read r w is)
          ∙ sym (rw p.is (sym (after-positional form xs given w (parsed names None ws))))

    pub step-at-once : (name v : Text) → IsOption w name (Some v) → is_known form.options name ≡ true → Reads (w ∷ ws)
    step-at-once name v p known seen last xs given ready read = by_values (values_of name (whole seen last)) refl where
      by_values : (vs : List Text) → values_of name (whole seen last) ≡ vs → reads (before (held seen last) (1 + length xs)) (w ∷ ws) ≡ after form xs given (parsed names None (w ∷ ws))
      by_values [] none =
          step (leaf form) (read_by form) (before (held seen last) (1 + length xs)) (before (held (whole seen last ++ (name, v) ∷ []) None) (1 + length xs)) w ws
          (at-once-fault seen last xs given ready read w name known v p none) (at-once seen last xs given ready read w name known v p none)
          ∙ rest (whole seen last ++ (name, v) ∷ []) None xs (given ++ (name, v) ∷ []) tt (read-option form.positionals form.options distinct (whole seen last) xs given read name v known none)
          ∙ sym (rw (p.is, known) (sym (after-option form xs given name v (parsed names None ws))))
      by_values (x ∷ vs) some =
          stop (leaf form) (read_by form) (before (held seen last) (1 + length xs)) w ws
          (option-before (leaf form) (held seen last) (1 + length xs) w name (Some v) p (at-once-again seen last xs given ready read w name known v x vs some))
          ∙ sym (rw (p.is, known) (after-again form xs given name v x vs (parsed names None ws) known (sym (read.options name known) ∙ some) (own-value name v)))

    pub step-value : IsPositional w → ReadsValue (w ∷ ws)
    step-value p seen name xs given known read = by_values (values_of name seen) refl where
      next : reads (expecting name (waiting seen name) (1 + length xs)) (w ∷ ws) ≡ reads (before (held seen (Some (name, w))) (1 + length xs)) ws
      next =
          step (leaf form) (read_by form) (expecting name (waiting seen name) (1 + length xs)) (before (held seen (Some (name, w))) (1 + length xs)) w ws
          (value-fault seen name (1 + length xs) w known p) (value-taken seen name (1 + length xs) w known p)

      by_values : (vs : List Text) → values_of name seen ≡ vs → reads (expecting name (waiting seen name) (1 + length xs)) (w ∷ ws) ≡ after form xs given (parsed names (Some name) (w ∷ ws))
      by_values [] none =
          next
          ∙ rest seen (Some (name, w)) xs (given ++ (name, w) ∷ []) (known-name name known, none) (read-option form.positionals form.options distinct seen xs given read name w known none)
          ∙ sym (rw p.is (sym (after-option form xs given name w (parsed names None ws))))
      by_values (x ∷ vs) some =
          next
          ∙ dead-before (held seen (Some (name, w))) (settle-again form.positionals form.options seen name w x vs (known-name name known) some) refl xs ws u
          ∙ sym (rw p.is (after-again form xs given name w x vs (parsed names None ws) known (sym (read.options name known) ∙ some) (own-value name w)))

  -- ---- any argument

  pub none-left : Reads []
  unfolding walk_fault
  none-left seen last xs given ready read = at-end form seen last xs given ready read ∙ after-none form xs given

  pub no-value : ReadsValue []
  no-value seen name xs given known read =
      dead-end (waiting seen name) (settle-waiting form.positionals form.options seen name (known-name name known)) (expecting name (waiting seen name) (1 + length xs)) refl

  module _ (ws : List Text) (u : AreTexts ws) (rest : Reads ws) (rest_value : ReadsValue ws) where
    pub step-option : (w name : Text) (v : Option Text) → IsOption w name v → Reads (w ∷ ws)
    step-option w name v p seen last xs given ready read = by_test (is_known form.options name) refl v p where
      by_test : (t : Bool) → is_known form.options name ≡ t → (v : Option Text) → IsOption w name v →
          reads (before (held seen last) (1 + length xs)) (w ∷ ws) ≡ after form xs given (parsed names None (w ∷ ws))
      by_test false unknown v p =
          stop (leaf form) (read_by form) (before (held seen last) (1 + length xs)) w ws
          (option-before (leaf form) (held seen last) (1 + length xs) w name v p (long-refused rules (held seen last) (arg_by_long rules name) v (named-unknown name unknown)))
          ∙ sym (rw (p.is, unknown) refl)
      by_test true known (Some v) p = step-at-once w ws u rest name v p known seen last xs given ready read
      by_test true known None p =
          step (leaf form) (read_by form) (before (held seen last) (1 + length xs)) (expecting name (waiting (whole seen last) name) (1 + length xs)) w ws
          (to-value-fault seen last xs given ready read w name known p) (to-value seen last xs given ready read w name known p)
          ∙ rest_value (whole seen last) name xs given known read
          ∙ sym (rw (p.is, known) refl)

    pub step-any : (w : Text) → Class w → Reads (w ∷ ws)
    step-any w (a_positional _ p) = step-positional w ws u rest p
    step-any _ an_end = λ seen last xs given ready read. step-end (leaf form) (read_by form) (held seen last) (1 + length xs) ws ∙ trailing-reads ws seen last xs given ready read
    step-any w (an_option _ name v p) = step-option w name v p
    step-any w (are_letters _ c x cs p) = λ seen last xs given ready read.
        stop (leaf form) (read_by form) (before (held seen last) (1 + length xs)) w ws (letters-before (leaf form) (held seen last) (1 + length xs) w c x cs p refl (no-letters c))
        ∙ sym (rw p.is refl)

    pub step-any-value : (w : Text) → Class w → ReadsValue (w ∷ ws)
    step-any-value w (a_positional _ p) = step-value w ws u rest p
    step-any-value _ an_end = λ seen name xs given known read.
        step-end-expecting (leaf form) (read_by form) name (waiting seen name) (1 + length xs) ws
        ∙ dead-stuck (waiting seen name) (settle-waiting form.positionals form.options seen name (known-name name known)) name xs ws
    step-any-value w (an_option _ other v p) = λ seen name xs given known read.
        stop (leaf form) (read_by form) (expecting name (waiting seen name) (1 + length xs)) w ws
        (option-expecting (leaf form) (waiting seen name) (1 + length xs) w other v p
        (dead-long (waiting seen name) (settle-waiting form.positionals form.options seen name (known-name name known)) other v) name)
        ∙ sym (rw p.is refl)
    step-any-value w (are_letters _ c x cs p) = λ seen name xs given known read.
        stop (leaf form) (read_by form) (expecting name (waiting seen name) (1 + length xs)) w ws
        (letters-expecting (leaf form) (waiting seen name) (1 + length xs) w c x cs p refl (no-letters c) name)
        ∙ sym (rw p.is refl)

  pub all-reads : (ws : List Text) → AreTexts ws → Reads ws × ReadsValue ws
  all-reads [] u = (none-left, no-value)
  all-reads (w ∷ ws) u =
      let rest = all-reads ws u.1 in
      (step-any ws u.1 rest.0 rest.1 w (class w u.0), step-any-value ws u.1 rest.0 rest.1 w (class w u.0))
