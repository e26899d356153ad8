-- What is judged of what was read of three files, one byte over the limit of each at most, is judged of the files.
use Rattle.std.proofs.Common.{◌≡◌, ◌<◌, ◌≤◌, ℕ, zero, suc, List, [], ◌∷◌, length, take, None, slice_get, refl, sym, ap, subst, ◌∙◌, inl, inr, arith}
use Rattle.std.proofs.lemmas.Bool.{cases_lt}
use Rattle.std.proofs.lemmas.List.{length-take, length-take-le, take_all}
use Rattle.std.proofs.lemmas.Option.{slice_get-get_or, slice_get_past}
use Rattle.c_typed.specs.Typed.{ProgramTree}
use Rattle.g_graph.specs.Plain.{PlainLambda}
use Rattle.g_build_def.specs.Functions.{graph}
use Rattle.g_build_def.specs.Functions as built
use Rattle.s_linear.specs.declared.frame.CodeForm.{CodeForm}
use Rattle.cc_emit.specs.Image.{file_of_program}
use Rattle.cc_source.specs.Accepted.{Accepts}
use Rattle.cc_source.specs.declared.fault.CompileFault.{CompileFault}
use Rattle.cc_source.proofs.lemmas.Sources.{whole_text}
use Rattle.log_check.specs.Log.{BreaksAt, PlainPart}
use Rattle.log_check.specs.Right.{AreRight}
use Rattle.log_check.specs.Judgement.{IsJudgeFault, IsNamedFault, IsNameFault}
use Rattle.log_check.specs.Parting.{PartAt}
use Rattle.log_check.specs.declared.judge_fault.JudgeFault.{JudgeFault}
use Rattle.log_check.specs.declared.judge_fault.JudgeFault.TheVariants.{Source, LongLog, BadLine, BadFunction, BadCount, BadStep, OtherImage, NoMemory}
use Rattle.cc_top.specs.CheckEnds.{IsCertain}

-- ---- beginnings

-- fewer bytes than were asked for are all
all-read : (n : ℕ) (xs read : List ℕ) → read ≡ take n xs → length read < n → read ≡ xs
all-read n xs read same short =
    elim (cases_lt (length xs) n) [
      | inl low ↦ same ∙ take_all n xs (omega (arith, low))
      | inr high ↦ absurd (omega (arith, short, ap (λ (ys : List ℕ). length ys) same, length-take-le n xs high))
    ]

at-beginning : (n j : ℕ) (xs : List ℕ) → j < n → slice_get (take n xs) j ≡ slice_get xs j
at-beginning zero j xs low = absurd (omega (arith, low))
at-beginning (suc n) j [] low = refl
at-beginning (suc n) zero (x ∷ xs) low = refl
at-beginning (suc n) (suc j) (x ∷ xs) low = at-beginning n j xs (omega (arith, low))

ends : (xs : List ℕ) (n : ℕ) → slice_get xs n ≡ None → length xs ≤ n
ends xs n none = elim (cases_lt n (length xs)) [ inl inside ↦ (let clash = sym none ∙ slice_get-get_or xs n 0 inside in absurd cc) | inr past ↦ past ]

-- texts part no further than at the end of the second one
part-within : (xs ys : List ℕ) (n : ℕ) → PartAt xs ys n → n ≤ length ys
part-within xs ys n h =
    elim (cases_lt (length ys) n) [
      | inl far ↦
          let short = ends xs (length ys) (h.same (length ys) far ∙ slice_get_past ys (length ys) (omega arith)) in
          absurd (h.other (slice_get_past xs n (omega (arith, short, far)) ∙ sym (slice_get_past ys n (omega (arith, far)))))
      | inr near ↦ near
    ]

part-of-beginning : (n : ℕ) (xs ys read : List ℕ) (at : ℕ) → read ≡ take n xs → length ys < n → PartAt read ys at → PartAt xs ys at
part-of-beginning n xs ys read at same short parts =
    let h = subst (λ zs. PartAt zs ys at) same parts in
    let within = part-within (take n xs) ys at h in
    record {
      same = λ j low. sym (at-beginning n j xs (omega (arith, low, within, short))) ∙ h.same j low;
      other = λ e. h.other (at-beginning n at xs (omega (arith, within, short)) ∙ e);
    }

-- ---- what is judged

module _ (form : CodeForm) (s l i source log image : List ℕ) (source_is : source ≡ take 1048577 s) (log_is : log ≡ take 2147483649 l) (image_is : image ≡ take 268435457 i)
    (short : (p : ProgramTree) → Accepts source p → (functions : List PlainPart) (ks : List PlainLambda) → AreRight (graph p) functions ks →
    length (file_of_program form (built.omega p) ks) ≤ 268435456) where
  whole : (p : ProgramTree) → Accepts source p → source ≡ s
  whole p accepted = whole_text s source p source_is accepted

  accepts : (p : ProgramTree) → Accepts source p → Accepts s p
  accepts p accepted = subst (λ t. Accepts t p) (whole p accepted) accepted

  whole-log : length log ≤ 2147483648 → log ≡ l
  whole-log few = all-read 2147483649 l log log_is (omega (arith, few))

  pub whole-certain : IsCertain form source log image → IsCertain form s l i
  whole-certain c =
      let p = c.certifies.program in
      let all = c.certifies.certified in
      let few : length image ≤ 268435456 = omega (arith, ap (λ (xs : List ℕ). length xs) all.file, short p c.certifies.accepted all.functions all.lambdas all.right) in
      subst (λ t. IsCertain form t l i) (whole p c.certifies.accepted)
      (subst (λ t. IsCertain form source t i) (whole-log all.read.short) (subst (λ t. IsCertain form source log t) (all-read 268435457 i image image_is (omega (arith, few))) c))

  log-named : (e : JudgeFault) (p : ProgramTree) → IsNamedFault e p form log image → IsNamedFault e p form l image
  log-named e p h = subst (λ t. IsNamedFault e p form t image) (whole-log h.read.short) h

  pub whole-fault : (e : JudgeFault) → ((f : CompileFault) → e ≡ Source f → ⊥) → IsJudgeFault e source form log image → IsJudgeFault e s form l i
  whole-fault (Source f) other h = absurd (other f refl)
  whole-fault NoMemory other h = tt
  whole-fault LongLog other h =
      (h.0, accepts h.0 h.1, omega (arith, h.2, ap (λ (xs : List ℕ). length xs) log_is, length-take 2147483649 l))
  whole-fault (BadLine line) other h = (h.0, accepts h.0 h.1, subst (λ (t : List ℕ). (length t ≤ 2147483648) × BreaksAt line t) (whole-log h.2.0) h.2)
  whole-fault (BadFunction line) other h = (h.0, accepts h.0 h.1, subst (λ t. IsNameFault h.0 t line) (whole-log h.2.read.short) h.2)
  whole-fault (BadCount line) other h =
      let n = log-named (BadCount line) h.0 h.2 in
      (h.0, accepts h.0 h.1, record { functions = n.functions; read = n.read; named = n.named; wrong = n.wrong })
  whole-fault (BadStep line) other h =
      let n = log-named (BadStep line) h.0 h.2 in
      (h.0, accepts h.0 h.1, record { functions = n.functions; read = n.read; named = n.named; wrong = n.wrong })
  whole-fault (OtherImage byte) other h =
      let n = log-named (OtherImage byte) h.0 h.2 in
      let w = n.wrong in
      let few = short h.0 h.1 n.functions w.lambdas w.right in (
        h.0,
        accepts h.0 h.1,
        record {
          functions = n.functions;
          read = n.read;
          named = n.named;
          wrong = record {
            lambdas = w.lambdas;
            right = w.right;
            bytes = part-of-beginning 268435457 i (file_of_program form (built.omega h.0) w.lambdas) image byte image_is (omega (arith, few)) w.bytes;
          };
        },
      )
