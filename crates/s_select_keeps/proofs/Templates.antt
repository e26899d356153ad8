-- Each template without memory writes its value to its place.
use Rattle.std.proofs.Common.{◌≡◌, ◌≢◌, ◌⊎◌, ℕ, ◌^◌, ◌<◌, ◌≤◌, List, ◌++◌, refl, sym, ap, ap₂, subst, ◌∙◌, append_assoc, arith, inl, inr}
use Rattle.val_core.specs.declared.values.Value.{Value}
use Rattle.val_core.specs.declared.operation.Op1.{Op1}
use Rattle.val_core.specs.declared.operation.Op1.TheVariants.{Sext8, Zext8, Sext16, Zext16}
use Rattle.val_core.specs.declared.operation.Op2.{Op2}
use Rattle.val_core.specs.declared.operation.Op2.TheVariants as op
use Rattle.rv_isa.specs.Registers.{x0, sp, t0, t1}
use Rattle.rv_isa.specs.declared.instruction.Instr.{Instr}
use Rattle.rv_isa.specs.declared.instruction.Instr.TheVariants as rv
use Rattle.rv_machine.specs.Machine as machine
use Rattle.rv_machine.specs.Machine.{next, act, give, look}
use Rattle.rv_machine.specs.Words.{sltu, sll, srl, sra}
use Rattle.s_select.specs.declared.location.Location.{Location}
use Rattle.s_select.specs.declared.location.Location.TheVariants.{Register, Near, Far}
use Rattle.s_select.specs.Operands.{put, in_of, load_in, out_of, store_out}
use Rattle.s_select.specs.Templates.{binary_instr, binary_code, unary_code, with_two, with_one, move_code}
use Rattle.rv_machine.specs.Standing.{Text, HasText, CodeStands}
use Rattle.s_select_keeps.specs.Computed.{first_word, computed1, computed2}
use Rattle.s_select_keeps.specs.Relation.{Shows, held, Frame, HasWords}
use Rattle.s_select_keeps.specs.Steps.{Steps}
use Rattle.rv_machine.proofs.lemmas.Standing.{code_is_cut}
use Rattle.s_select_keeps.proofs.Registers.{steps-then, look-at, Computes, code-le, one-computes, two-compute}
use Rattle.s_select_keeps.proofs.Locations.{IsNoTemporary, no-temporary, place-above, temporary-apart, LocationFits, IsOtherRegister, held-same}
use Rattle.s_select_keeps.proofs.Operands.{Writes, Operand, get-done, operand-done, put-done, result-stored}

-- ---- registers of operands and results

in-register : (f : Frame) (l : Location) (scratch : ℕ) → LocationFits f l → (in_of l scratch ≡ scratch) ⊎ (8 < in_of l scratch)
in-register f (Register r) scratch fits = inr (place-above r fits)
in-register f (Near o) scratch fits = inl refl
in-register f (Far o) scratch fits = inl refl

-- it is none of the other temporaries
pub in-apart : (f : Frame) (l : Location) (scratch n : ℕ) → LocationFits f l → n ≤ 8 → scratch ≢ n → in_of l scratch ≢ n
in-apart f l scratch n fits low ne same = by (in-register f l scratch fits)
  where
    by : (in_of l scratch ≡ scratch) ⊎ (8 < in_of l scratch) → ⊥
    by (inl e) = ne (sym e ∙ same)
    by (inr high) = absurd (omega (arith, high, same, low))

pub out-apart : (f : Frame) (l : Location) → LocationFits f l → out_of l ≢ 0
out-apart f (Register r) fits same = let high = place-above r fits in let e : r ≡ 0 = same in absurd (omega (arith, high, e))
out-apart f (Near o) fits same = absurd (omega (arith, same))
out-apart f (Far o) fits same = absurd (omega (arith, same))

kept-out : (l : Location) (r : ℕ) → IsNoTemporary r → IsOtherRegister l r → r ≢ out_of l
kept-out (Register q) r kept other = other
kept-out (Near o) r kept other = temporary-apart r 5 kept (omega arith) (omega arith)
kept-out (Far o) r kept other = temporary-apart r 5 kept (omega arith) (omega arith)

-- Up to address b a register gets a word, and of the others those that are kept stay.
pub record Makes (text : Text) (s : machine.State) (b rd x : ℕ) : Type 0 where
  pub state : machine.State
  pub steps : Steps text.flags s state
  pub pc : state.pc ≡ b
  pub holds : state.regs rd ≡ x
  pub others : (r : ℕ) → IsNoTemporary r → r ≢ rd → state.regs r ≡ s.regs r
  pub mem : state.mem ≡ s.mem

pub made : (text : Text) (s : machine.State) (b rd x : ℕ) → Computes text s b rd x → Makes text s b rd x
made text s b rd x h = record {
  state = h.state;
  steps = h.steps;
  pc = h.pc;
  holds = h.holds;
  others = λ r kept other. h.others r other (temporary-apart r 7 kept (omega arith) (omega arith));
  mem = h.mem;
}

-- ---- the instructions of operations

module _ (text : Text) where
  binary-acts : (s : machine.State) (o : Op2) (rd a b : ℕ) → act text.flags (binary_instr o rd a b) s ≡ next (give s rd (first_word o (look s.regs a) (look s.regs b)))
  unfolding act
  binary-acts s op.Add rd a b = refl
  binary-acts s op.Sub rd a b = refl
  binary-acts s op.Mul rd a b = refl
  binary-acts s op.Div rd a b = refl
  binary-acts s op.Rem rd a b = refl
  binary-acts s op.Divu rd a b = refl
  binary-acts s op.Remu rd a b = refl
  binary-acts s op.And rd a b = refl
  binary-acts s op.Or rd a b = refl
  binary-acts s op.Xor rd a b = refl
  binary-acts s op.Sll rd a b = refl
  binary-acts s op.Srl rd a b = refl
  binary-acts s op.Sra rd a b = refl
  binary-acts s op.Eq rd a b = refl
  binary-acts s op.Ne rd a b = refl
  binary-acts s op.Slt rd a b = refl
  binary-acts s op.Sltu rd a b = refl

  binary-starts : (s : machine.State) (o : Op2) (rd a b x y : ℕ) → a ≢ 0 → b ≢ 0 → s.regs a ≡ x → s.regs b ≡ y
      → act text.flags (binary_instr o rd a b) s ≡ next (give s rd (first_word o x y))
  binary-starts s o rd a b x y ne ne' is is' =
      binary-acts s o rd a b ∙ ap (λ n. next (give s rd n)) (ap₂ (first_word o) (look-at s.regs a ne ∙ is) (look-at s.regs b ne' ∙ is'))

  pub binary-computes : (o : Op2) (s : machine.State) (m rd a b x y : ℕ) → HasText text s.mem → CodeStands text s.pc (binary_code o rd a b) m → m < 2 ^ 32
      → rd ≢ 0 → a ≢ 0 → b ≢ 0
      → s.regs a ≡ x → s.regs b ≡ y → Computes text s m rd (computed2 o x y)
  unfolding act
  binary-computes op.Eq s m rd a b x y has code low ne nea neb is is' =
      two-compute text s m (rv.Sub rd a b) (rv.Sltiu rd rd 1) rd (first_word op.Eq x y) rd (computed2 op.Eq x y) has code low ne ne (inl refl)
      (binary-starts s op.Eq rd a b x y nea neb is is') (λ u held others mem. ap (λ n. next (give u rd (sltu n 1))) (look-at u.regs rd ne ∙ held))
  binary-computes op.Ne s m rd a b x y has code low ne nea neb is is' =
      two-compute text s m (rv.Sub rd a b) (rv.Sltu rd x0 rd) rd (first_word op.Ne x y) rd (computed2 op.Ne x y) has code low ne ne (inl refl)
      (binary-starts s op.Ne rd a b x y nea neb is is') (λ u held others mem. ap (λ n. next (give u rd (sltu 0 n))) (look-at u.regs rd ne ∙ held))
  binary-computes o s m rd a b x y has code low ne nea neb is is' =
      one-computes text s m (binary_instr o rd a b) rd (computed2 o x y) has code low ne (binary-starts s o rd a b x y nea neb is is')

  pub unary-computes : (o : Op1) (s : machine.State) (m rd a x : ℕ) → HasText text s.mem → CodeStands text s.pc (unary_code o rd a) m → m < 2 ^ 32 → rd ≢ 0 → a ≢ 0
      → s.regs a ≡ x → Computes text s m rd (computed1 o x)
  unfolding act
  unary-computes Sext8 s m rd a x has code low ne nea is =
      two-compute text s m (rv.Slli rd a 24) (rv.Srai rd rd 24) rd (sll x 24) rd (computed1 Sext8 x) has code low ne ne (inl refl)
      (ap (λ n. next (give s rd (sll n 24))) (look-at s.regs a nea ∙ is)) (λ u held others mem. ap (λ n. next (give u rd (sra n 24))) (look-at u.regs rd ne ∙ held))
  unary-computes Zext8 s m rd a x has code low ne nea is =
      one-computes text s m (rv.Andi rd a 255) rd (computed1 Zext8 x) has code low ne (ap (λ n. next (give s rd (computed1 Zext8 n))) (look-at s.regs a nea ∙ is))
  unary-computes Sext16 s m rd a x has code low ne nea is =
      two-compute text s m (rv.Slli rd a 16) (rv.Srai rd rd 16) rd (sll x 16) rd (computed1 Sext16 x) has code low ne ne (inl refl)
      (ap (λ n. next (give s rd (sll n 16))) (look-at s.regs a nea ∙ is)) (λ u held others mem. ap (λ n. next (give u rd (sra n 16))) (look-at u.regs rd ne ∙ held))
  unary-computes Zext16 s m rd a x has code low ne nea is =
      two-compute text s m (rv.Slli rd a 16) (rv.Srli rd rd 16) rd (sll x 16) rd (computed1 Zext16 x) has code low ne ne (inl refl)
      (ap (λ n. next (give s rd (sll n 16))) (look-at s.regs a nea ∙ is)) (λ u held others mem. ap (λ n. next (give u rd (srl n 16))) (look-at u.regs rd ne ∙ held))

  -- ---- templates of no, one and two operands

  module _ (f : Frame) (words : HasWords text f) where
    pub writes-after : (s u : machine.State) (b : ℕ) (l : Location) (v : Value) → Steps text.flags s u
        → ((r : ℕ) → IsNoTemporary r → IsOtherRegister l r → u.regs r ≡ s.regs r) → u.mem ≡ s.mem
        → Writes text f u b l v → Writes text f s b l v
    writes-after s u b l v steps regs mem w = record {
      state = w.state;
      steps = steps-then text.flags s u w.state steps w.steps;
      pc = w.pc;
      shows = w.shows;
      registers = λ r kept other. w.registers r kept other ∙ regs r kept other;
      memory = λ a other. w.memory a other ∙ ap (λ m. m a) mem;
    }

    -- an operand is loaded, and the code after it
    pub record Loaded (s : machine.State) (b scratch : ℕ) (l : Location) (v : Value) (rest : List Instr) : Type 0 where
      pub word : ℕ
      pub shows : Shows f.bases v word
      pub at : ℕ
      pub low : at ≤ b
      pub operand : Operand text s at scratch l word
      pub code : CodeStands text operand.state.pc rest b
      pub has : HasText text operand.state.mem
      pub stack : operand.state.regs sp ≡ f.sp

    pub loads : (s : machine.State) (b scratch : ℕ) (l : Location) (v : Value) (rest : List Instr) → HasText text s.mem → s.regs sp ≡ f.sp → LocationFits f l
        → CodeStands text s.pc (load_in scratch l ++ rest) b → b < 2 ^ 32 → 2 < scratch → scratch < 8 → Shows f.bases v (held f.sp s.regs s.mem l)
        → Loaded s b scratch l v rest
    loads s b scratch l v rest has stack fits code low least most shows =
        let cut = code_is_cut text s.pc b (load_in scratch l) rest code in
        let le = code-le text cut.0 rest b cut.2 in
        let h = operand-done text f words s cut.0 scratch l v has stack fits cut.1 (omega (arith, le, low)) (omega (arith, least)) shows in
        record {
          word = h.0;
          shows = h.1;
          at = cut.0;
          low = le;
          operand = h.2;
          code = subst (λ a. CodeStands text a rest b) (sym h.2.pc) cut.2;
          has = subst (HasText text) (sym h.2.mem) has;
          stack = h.2.others sp (omega (arith, least)) (omega arith) ∙ stack;
        }

    -- the code of a result, and the store of it
    pub finishes : (s : machine.State) (b x : ℕ) (l : Location) (v : Value) (code : List Instr) → HasText text s.mem → s.regs sp ≡ f.sp → LocationFits f l
        → CodeStands text s.pc (code ++ store_out l) b → b < 2 ^ 32 → ((m : ℕ) → m < 2 ^ 32 → CodeStands text s.pc code m → Makes text s m (out_of l) x)
        → Shows f.bases v x
        → Writes text f s b l v
    finishes s b x l v code has stack fits there low makes shows =
        let cut = code_is_cut text s.pc b code (store_out l) there in
        let le = code-le text cut.0 (store_out l) b cut.2 in
        let h = makes cut.0 (omega (arith, le, low)) cut.1 in
        writes-after s h.state b l v h.steps (λ r kept other. h.others r kept (kept-out l r kept other)) h.mem
        (result-stored text f words h.state b x l v (subst (HasText text) (sym h.mem) has) (h.others sp (inl refl) (stack-apart l fits) ∙ stack) fits
        (subst (λ a. CodeStands text a (store_out l) b) (sym h.pc) cut.2) low h.holds shows)
      where
        stack-apart : (k : Location) → LocationFits f k → sp ≢ out_of k
        stack-apart (Register r) above same = let high = place-above r above in let e : 2 ≡ r = same in absurd (omega (arith, high, e))
        stack-apart (Near o) above same = absurd (omega (arith, same))
        stack-apart (Far o) above same = absurd (omega (arith, same))

    pub one-writes : (s : machine.State) (b : ℕ) (l la : Location) (v va : Value) (code : ℕ → ℕ → List Instr) (g : ℕ → ℕ) → HasText text s.mem → s.regs sp ≡ f.sp
        → LocationFits f l
        → LocationFits f la → CodeStands text s.pc (with_one l la code) b → b < 2 ^ 32 → Shows f.bases va (held f.sp s.regs s.mem la)
        → ((u : machine.State) (m rd a x : ℕ) → HasText text u.mem → CodeStands text u.pc (code rd a) m → m < 2 ^ 32 → rd ≢ 0 → a ≢ 0 → u.regs a ≡ x
        → Computes text u m rd (g x))
        → ((x : ℕ) → Shows f.bases va x → Shows f.bases v (g x)) → Writes text f s b l v
    one-writes s b l la v va code g has stack fits fitsa there low shows computes gives =
        let whole = subst (λ c. CodeStands text s.pc c b) (append_assoc (load_in t0 la) (code (out_of l) (in_of la t0)) (store_out l)) there in
        let one = loads s b 5 la va (code (out_of l) (in_of la t0) ++ store_out l) has stack fitsa whole low (omega arith) (omega arith) shows in
        let u = one.operand.state in
        writes-after s u b l v one.operand.steps
        (λ r kept other. one.operand.others r (temporary-apart r 5 kept (omega arith) (omega arith)) (temporary-apart r 7 kept (omega arith) (omega arith)))
        one.operand.mem
        (finishes u b (g one.word) l v (code (out_of l) (in_of la t0)) one.has one.stack fits one.code low
        (λ m below stands.
        made text u m (out_of l) (g one.word)
        (computes u m (out_of l) (in_of la t0) one.word one.has stands below (out-apart f l fits) (in-apart f la 5 0 fitsa (omega arith) (omega arith)) one.operand.is))
        (gives one.word one.shows))

    pub two-write : (s : machine.State) (b : ℕ) (l la lb : Location) (v va vb : Value) (code : ℕ → ℕ → ℕ → List Instr) (g : ℕ → ℕ → ℕ) → HasText text s.mem
        → s.regs sp ≡ f.sp
        → LocationFits f l → LocationFits f la → LocationFits f lb → CodeStands text s.pc (with_two l la lb code) b → b < 2 ^ 32
        → Shows f.bases va (held f.sp s.regs s.mem la)
        → Shows f.bases vb (held f.sp s.regs s.mem lb)
        → ((u : machine.State) (m rd a c x y : ℕ) → HasText text u.mem → CodeStands text u.pc (code rd a c) m → m < 2 ^ 32 → rd ≢ 0 → a ≢ 0 → c ≢ 0 → u.regs a ≡ x
        → u.regs c ≡ y
        → Computes text u m rd (g x y)) → ((x y : ℕ) → Shows f.bases va x → Shows f.bases vb y → Shows f.bases v (g x y)) → Writes text f s b l v
    two-write s b l la lb v va vb code g has stack fits fitsa fitsb there low showsa showsb computes gives =
        let last = code (out_of l) (in_of la t0) (in_of lb t1) in
        let whole = subst (λ c. CodeStands text s.pc c b) (append_assoc (load_in t0 la ++ load_in t1 lb) last (store_out l)
        ∙ append_assoc (load_in t0 la) (load_in t1 lb) (last ++ store_out l)) there in
        let one = loads s b 5 la va (load_in t1 lb ++ (last ++ store_out l)) has stack fitsa whole low (omega arith) (omega arith) showsa in
        let u = one.operand.state in
        let still = held-same f lb fitsb s.regs u.regs s.mem u.mem
        (λ r place. one.operand.others r (temporary-apart r 5 (no-temporary r (inr (inr place))) (omega arith) (omega arith))
        (temporary-apart r 7 (no-temporary r (inr (inr place))) (omega arith) (omega arith))) one.operand.mem in
        let two = loads u b 6 lb vb (last ++ store_out l) one.has one.stack fitsb one.code low (omega arith) (omega arith)
        (subst (Shows f.bases vb) (sym still) showsb) in
        let w = two.operand.state in
        let first : w.regs (in_of la t0) ≡ one.word =
        two.operand.others (in_of la t0) (in-apart f la 5 6 fitsa (omega arith) (omega arith)) (in-apart f la 5 7 fitsa (omega arith) (omega arith)) ∙ one.operand.is in
        writes-after s w b l v (steps-then text.flags s u w one.operand.steps two.operand.steps)
        (λ r kept other.
        two.operand.others r (temporary-apart r 6 kept (omega arith) (omega arith)) (temporary-apart r 7 kept (omega arith) (omega arith))
        ∙ one.operand.others r (temporary-apart r 5 kept (omega arith) (omega arith)) (temporary-apart r 7 kept (omega arith) (omega arith)))
        (two.operand.mem ∙ one.operand.mem)
        (finishes w b (g one.word two.word) l v last two.has two.stack fits two.code low
        (λ m below stands.
        made text w m (out_of l) (g one.word two.word)
        (computes w m (out_of l) (in_of la t0) (in_of lb t1) one.word two.word two.has stands below (out-apart f l fits)
        (in-apart f la 5 0 fitsa (omega arith) (omega arith))
        (in-apart f lb 6 0 fitsb (omega arith) (omega arith)) first two.operand.is))
        (gives one.word two.word one.shows two.shows))

    -- a move to a register, or to a word by way of a register
    pub move-writes : (s : machine.State) (b : ℕ) (l la : Location) (v : Value) → HasText text s.mem → s.regs sp ≡ f.sp → LocationFits f l → LocationFits f la
        → CodeStands text s.pc (move_code l la) b → b < 2 ^ 32 → Shows f.bases v (held f.sp s.regs s.mem la) → Writes text f s b l v
    move-writes s b (Register r) la v has stack fits fitsa there low shows =
        let above = place-above r fits in
        let h = get-done text f words s b r la v has stack fitsa there low (λ e. omega (arith, above, e)) shows in
        record {
          state = h.2.state;
          steps = h.2.steps;
          pc = h.2.pc;
          shows = subst (Shows f.bases v) (sym h.2.holds) h.1;
          registers = λ q kept other. h.2.others q other (temporary-apart q 7 kept (omega arith) (omega arith));
          memory = λ a other. ap (λ m. m a) h.2.mem;
        }
    move-writes s b (Near o) la v has stack fits fitsa there low shows =
        let one = loads s b 5 la v (put (Near o) (in_of la t0)) has stack fitsa there low (omega arith) (omega arith) shows in
        let u = one.operand.state in
        writes-after s u b (Near o) v one.operand.steps
        (λ r kept other. one.operand.others r (temporary-apart r 5 kept (omega arith) (omega arith)) (temporary-apart r 7 kept (omega arith) (omega arith)))
        one.operand.mem
        (put-done text f words u b (in_of la t0) one.word (Near o) v one.has one.stack fits one.code low (in-apart f la 5 0 fitsa (omega arith) (omega arith))
        (in-apart f la 5 7 fitsa (omega arith) (omega arith)) one.operand.is one.shows)
    move-writes s b (Far o) la v has stack fits fitsa there low shows =
        let one = loads s b 5 la v (put (Far o) (in_of la t0)) has stack fitsa there low (omega arith) (omega arith) shows in
        let u = one.operand.state in
        writes-after s u b (Far o) v one.operand.steps
        (λ r kept other. one.operand.others r (temporary-apart r 5 kept (omega arith) (omega arith)) (temporary-apart r 7 kept (omega arith) (omega arith)))
        one.operand.mem
        (put-done text f words u b (in_of la t0) one.word (Far o) v one.has one.stack fits one.code low (in-apart f la 5 0 fitsa (omega arith) (omega arith))
        (in-apart f la 5 7 fitsa (omega arith) (omega arith)) one.operand.is one.shows)
