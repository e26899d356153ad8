-- Lines that stand are cut as items are; the lines of branches and jumps lead to the addresses of their labels.
use Rattle.std.proofs.Common.{◌≡◌, ℕ, ◌+◌, ◌-◌, ◌%◌, ◌^◌, ◌<◌, ◌≤◌, ◌==◌, if◌then◌else◌, List, [], ◌∷◌, ◌++◌, Option, Some, unwrap_or, refl, sym, ap, subst, ◌∙◌, append_assoc, arith}
use Rattle.std.proofs.lemmas.Grind.{flat_map-append}
use Rattle.val_core.specs.declared.values.Value.TheVariants.{Num}
use Rattle.g_graph.specs.Plain.{PlainObject}
use Rattle.rv_isa.specs.Registers.{x0, t0, t1}
use Rattle.rv_isa.specs.declared.instruction.Instr as isa
use Rattle.rv_isa.specs.declared.instruction.Instr.TheVariants.{Beq, Bne, Jal}
use Rattle.rv_machine.specs.Laws.{Reaches}
use Rattle.rv_machine.specs.Machine.{State, next, act, jump}
use Rattle.rv_machine.specs.Standing.{Text, CodeStands}
use Rattle.rv_machine.proofs.lemmas.Standing.{fetched-there}
use Rattle.rv_machine.proofs.lemmas.RunLaws.{step_reaches}
use Rattle.rv_isa.specs.Words.{word_of}
use Rattle.rv_isa.proofs.lemmas.EncodedDecodes.{encoded_decodes}
use Rattle.rv_layout.specs.declared.item.Item.{Item}
use Rattle.rv_layout.specs.declared.item.Item.TheVariants.{Jump}
use Rattle.rv_layout.specs.Items.{item_size}
use Rattle.rv_layout.specs.Layout.{Addresses, offset_to}
use Rattle.s_linear.specs.Frame.{PlainPlaces}
use Rattle.s_linear.specs.Lines as lines
use Rattle.s_linear.specs.Lines.{Line, branch_not_zero, branch_zero, branch_equal, label}
use Rattle.s_linear.specs.Meaning as linear
use Rattle.s_select.specs.declared.location.Location.{Location}
use Rattle.s_select.specs.Operands.{location_of, load_immediate, in_of, load_in}
use Rattle.s_select.specs.Templates.{words, place_of, line_items, items_of}
use Rattle.s_select_keeps.specs.Codes.{LinesStand}
use Rattle.s_select_keeps.specs.Relation.{Frame, HasWords, Represents}
use Rattle.s_select_keeps.specs.Standing.{ItemsStand}
use Rattle.s_select_keeps.specs.Steps.{Arrives}
use Rattle.s_select_keeps.specs.Table.{place_at}
use Rattle.s_select_keeps.proofs.Branches.{offset_leads, branch_not_zero_is_done, branch_zero_is_done, branch_equal_is_done}
use Rattle.s_select_keeps.proofs.Items.{items_are_cut, words_stand}
use Rattle.s_select_keeps.proofs.Locations.{HasPlaceIn, locations-same}
use Rattle.s_select_keeps.proofs.Table.{code-joined}

module _ (text : Text) (addresses : Addresses) (labels : ℕ → Option ℕ) where
  items-le : (a : ℕ) (is : List Item) (b : ℕ) → ItemsStand text addresses labels a is b → a ≤ b
  items-le a [] b h = let e : a ≡ b = h in omega (arith, e)
  items-le a (i ∷ is) b h = let more = items-le (a + item_size i) is b h.2 in omega (arith, more)

  module _ (p : PlainPlaces) (os : List PlainObject) where
    abbrev Stand : ℕ → List Line → ℕ → Type 0
    Stand a ls b = LinesStand text addresses labels p os a ls b

    pub lines-le : (a b : ℕ) (ls : List Line) → Stand a ls b → a ≤ b
    lines-le a b ls h = items-le a (items_of p os ls) b h

    pub lines-cut : (a b : ℕ) (first second : List Line) → Stand a (first ++ second) b → (m : ℕ) × Stand a first m × Stand m second b
    lines-cut a b first second h =
        items_are_cut text addresses labels a b (items_of p os first) (items_of p os second)
        (subst (λ is. ItemsStand text addresses labels a is b) (flat_map-append (line_items p os) first second) h)

    pub line-cut : (a b : ℕ) (line : Line) (ls : List Line) → Stand a (line ∷ ls) b → (m : ℕ) × ItemsStand text addresses labels a (line_items p os line) m × Stand m ls b
    line-cut a b line ls h = items_are_cut text addresses labels a b (line_items p os line) (items_of p os ls) h

    -- a label is resolved to its address, and takes none
    pub label-here : (a b l : ℕ) (ls : List Line) → Stand a (label l ∷ ls) b → (labels l ≡ Some a) × Stand a ls b
    label-here a b l ls h = let same : a + 0 ≡ a = omega arith in (h.0, subst (λ x. Stand x ls b) same h.2)

    -- the instructions of a branch over a jump
    branch-code : (a b l target : ℕ) (code : List isa.Instr) (last : isa.Instr) → ItemsStand text addresses labels a (words (code ++ last ∷ []) ++ Jump l ∷ []) b
        → labels l ≡ Some target
        → b < 2 ^ 32 → target < 2 ^ 32 → (distance : ℕ) × CodeStands text a (code ++ last ∷ Jal x0 distance ∷ []) b × ((b - 4 + distance) % 2 ^ 32 ≡ target)
    branch-code a b l target code last h is low small =
        let cut = items_are_cut text addresses labels a b (words (code ++ last ∷ [])) (Jump l ∷ []) h in
        let m = cut.0 in
        let end : m + 4 ≡ b = cut.2.2 in
        let distance = offset_to m (unwrap_or (labels l) 0) in
        let joined = code-joined text a m b (code ++ last ∷ []) (Jal x0 distance ∷ []) (words_stand text addresses labels a m (code ++ last ∷ []) cut.1)
        (subst (λ x. CodeStands text m (Jal x0 distance ∷ []) x) end cut.2.1) in
        let from : b - 4 ≡ m = omega (arith, end) in
        let to : unwrap_or (labels l) 0 ≡ target = ap (λ o. unwrap_or o 0) is in (
          distance,
          subst (λ c. CodeStands text a c b) (append_assoc code (last ∷ []) (Jal x0 distance ∷ [])) joined,
          ap (λ n. (n + distance) % 2 ^ 32) from ∙ ap (λ n. (m + offset_to m n) % 2 ^ 32) to ∙ offset_leads m target (omega (arith, end, low)) small,
        )

    module _ (f : Frame) (has : HasWords text f) (q : linear.State) (s : State) (x w b l target : ℕ) (rep : Represents text f q s) (within : HasPlaceIn f p x)
        (is : q.names (place_at p x) ≡ Num w) (low : b < 2 ^ 32) (there : labels l ≡ Some target) (small : target < 2 ^ 32) where
      -- code at the place of the predicate, which is code at that of the frame
      stands-at : (e : ℕ) (code : Location → List isa.Instr) → CodeStands text s.pc (code (place_of p x)) e
          → CodeStands text s.pc (code (location_of f.temporaries (place_at p x))) e
      stands-at e code h = subst (λ at. CodeStands text s.pc (code (at (place_at p x))) e) (locations-same p f within.0) h

      pub branches-not-zero : ItemsStand text addresses labels s.pc (line_items p os (branch_not_zero x l)) b → Arrives text f (if w == 0 then b else target) q s
      branches-not-zero h =
          let place = place_of p x in
          let c = branch-code s.pc b l target (load_in t0 place) (Beq (in_of place t0) x0 8) h there low small in
          branch_not_zero_is_done text f q s has rep (place_at p x) w c.0 target b within.1 is
          (stands-at b (λ l. load_in t0 l ++ Beq (in_of l t0) x0 8 ∷ Jal x0 c.0 ∷ []) c.1) low c.2

      pub branches-zero : ItemsStand text addresses labels s.pc (line_items p os (branch_zero x l)) b → Arrives text f (if w == 0 then target else b) q s
      branches-zero h =
          let place = place_of p x in
          let c = branch-code s.pc b l target (load_in t0 place) (Bne (in_of place t0) x0 8) h there low small in
          branch_zero_is_done text f q s has rep (place_at p x) w c.0 target b within.1 is
          (stands-at b (λ l. load_in t0 l ++ Bne (in_of l t0) x0 8 ∷ Jal x0 c.0 ∷ []) c.1) low c.2

      pub branches-equal : (number : ℕ) → number < 2 ^ 32 → ItemsStand text addresses labels s.pc (line_items p os (branch_equal x number l)) b
          → Arrives text f (if w == number then target else b) q s
      branches-equal number fits h =
          let place = place_of p x in
          let code = load_in t0 place ++ load_immediate t1 number in
          let last = Bne (in_of place t0) t1 8 in
          let whole = subst (λ k. ItemsStand text addresses labels s.pc (words k ++ Jump l ∷ []) b)
          (sym (append_assoc (load_in t0 place) (load_immediate t1 number) (last ∷ []))) h in
          let c = branch-code s.pc b l target code last whole there low small in
          branch_equal_is_done text f q s has rep (place_at p x) w number c.0 target b within.1 is fits
          (stands-at b (λ l. load_in t0 l ++ load_immediate t1 number ++ Bne (in_of l t0) t1 8 ∷ Jal x0 c.0 ∷ []) c.1) low c.2

    -- a jump is one instruction
    pub jumps-once : (f : Frame) (q : linear.State) (s : State) (b l target : ℕ) (input : List ℕ) → Represents text f q s
        → ItemsStand text addresses labels s.pc (line_items p os (lines.jump l)) b
        → b < 2 ^ 32 → labels l ≡ Some target → target < 2 ^ 32
        → (t : State) × Reaches text.flags 1 s input [] t input × Represents text f q t × (t.pc ≡ target)
    unfolding act jump
    jumps-once f q s b l target input rep h low there small =
        let end : s.pc + 4 ≡ b = h.2 in
        let distance = offset_to s.pc (unwrap_or (labels l) 0) in
        let to : unwrap_or (labels l) 0 ≡ target = ap (λ o. unwrap_or o 0) there in
        let lands : (s.pc + distance) % 2 ^ 32 ≡ target = ap (λ n. (s.pc + offset_to s.pc n) % 2 ^ 32) to ∙ offset_leads s.pc target (omega (arith, end, low)) small in
        let t : State = record { pc = target; regs = s.regs; mem = s.mem } in
        let stands = h.1.0 in (
          t,
          step_reaches text.flags s t (word_of (Jal x0 distance)) (Jal x0 distance) input (fetched-there text s (Jal x0 distance) rep.has_text stands)
              (encoded_decodes (Jal x0 distance) stands.fits)
              (ap (λ a. next (record { pc = a; regs = s.regs; mem = s.mem })) lands),
          record {
            stack = rep.stack;
            base = rep.base;
            places = rep.places;
            saved = rep.saved;
            above = rep.above;
            memory = rep.memory;
            apart = rep.apart;
            has_text = rep.has_text;
          },
          refl,
        )
