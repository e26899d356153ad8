-- A log has one fault at most, none where it is right, and makes one list.
use Rattle.std.proofs.Common.{◌≡◌, ◌≢◌, ◌<◌, ◌⊎◌, ℕ, List, [], length, Some, slice_get, slice_index, slice_index_or, Contains, refl, sym, ap, subst, ◌∙◌, inl, inr, arith}
use Rattle.std.specs.Prelude.{unwrap_or}
use Rattle.std.proofs.lemmas.Bool.{cases_eq, cases_lt}
use Rattle.std.proofs.Math.ListN.{get_or-map}
use Rattle.std.proofs.lemmas.Option.{slice_get-get_or, unwrap_or-slice_get}
use Rattle.g_graph.specs.Plain.{PlainLambda}
use Rattle.g_pass_order.specs.Calls.{no_lambda, IsOrder}
use Rattle.g_pass_order.specs.Laws.{IsRankedOrder, OrdersAreRanked, OrdersAreUnique}
use Rattle.g_pass_def.specs.Answers.{lambda_of}
use Rattle.g_pass_def.specs.Sweep.{replayed}
use Rattle.g_pass_def.specs.Replayed.{lambdas_at}
use Rattle.g_pass_def.specs.Laws.{ReplayedAreUnique}
use Rattle.g_pass_def.proofs.lemmas.Replayed.{same-at, same-replayed}
use Rattle.g_pass.specs.Sweep.{rules}
use Rattle.log_check.specs.Log.{PlainPart}
use Rattle.log_check.specs.Right.{no_part, part_at, steps_of, AreRightUntil, IsRight, IsTaken}
use Rattle.log_check.specs.Fault.{IsFirstFault, IsFunctionFault, IsReplayFault}
use Rattle.log_check.specs.ReplayLaws.{OneReplayFault, RightAreUnique, RightHaveNoFault}
use Rattle.log_check.specs.declared.replay_fault.ReplayFault.{ReplayFault}
use Rattle.log_check.specs.declared.replay_fault.ReplayFault.TheVariants.{BadCount, BadStep, NoMemory}
use Rattle.log_check.proofs.Stops.{one_function_fault, right_has_no_fault}

-- the steps that a log has of a function
pub steps-at : (log : List PlainPart) (j : ℕ) → slice_index_or (steps_of log) j [] ≡ (part_at log j).steps
steps-at log j = get_or-map (λ (p : PlainPart). p.steps) log j no_part

-- what a list has at a number within
pub some-at : (ks : List PlainLambda) (j : ℕ) → j < length ks → slice_get ks j ≡ Some (lambda_of ks j)
some-at ks j inside = slice_get-get_or ks j no_lambda inside ∙ ap (λ k. Some k) (sym (unwrap_or-slice_get ks j no_lambda))

module _ (ls : List PlainLambda) (ranks : List ℕ) (deps : List (List ℕ)) (log : List PlainPart) (ranked : IsRankedOrder ls ranks deps) where
  abbrev rank : ℕ → ℕ
  rank f = slice_index ranks f

  -- the functions of the list that are taken before function j
  abbrev Among : (j d : ℕ) → Type 0
  Among j d = (d < length ls) × IsTaken ranks (rank j) j d

  closed : (j i d : ℕ) → Among j i → Contains (slice_index_or deps i []) d → Among j d
  closed j i d among h =
      let dep = ranked.dep i d h in (
        dep.known,
        elim among.1 [
          | inl low ↦ inl (omega (arith, low, dep.smaller))
          | inr same ↦ inl (omega (arith, same.0, dep.smaller))
        ],
      )

  -- the deps of a function that is there are taken before it
  dep-among : (j d : ℕ) → Contains (slice_index_or deps j []) d → Among j d
  dep-among j d h = let dep = ranked.dep j d h in (dep.known, inl dep.smaller)

  -- what is taken before a function that is taken before another one is taken before that
  later : (i j d : ℕ) → IsTaken ranks (rank j) j i → Among i d → Among j d
  later i j d before among = (
    among.0,
    elim before [
      | inl low ↦ elim among.1 [ inl under ↦ inl (omega (arith, low, under)) | inr same ↦ inl (omega (arith, low, same.0)) ]
      | inr equal ↦
          elim among.1 [ inl under ↦ inl (omega (arith, equal.0, under)) | inr same ↦ inr (omega (arith, equal.0, same.0), omega (arith, equal.1, same.1)) ]
    ],
  )

  -- two lists that are right before a function have the same for it
  same-callees : (j : ℕ) (ks js : List PlainLambda) → ((d : ℕ) → Among j d → IsRight ls deps log ks d) → ((d : ℕ) → Among j d → IsRight ls deps log js d) →
      lambdas_at ks (slice_index_or deps j []) ≡ lambdas_at js (slice_index_or deps j [])
  same-callees j ks js one other =
      same-at ks js (slice_index_or deps j [])
      (λ d h. ap (λ o. unwrap_or o no_lambda)
      (same-replayed rules ls ranks deps (steps_of log) ranked ks js (Among j) (closed j) (λ i among. (one i among).replayed) (λ i among. (other i among).replayed) d (dep-among j d h)))

  abbrev Wrong : (ks : List PlainLambda) → (j : ℕ) → ReplayFault → Type 0
  Wrong ks j e = IsFunctionFault (lambdas_at ks (slice_index_or deps j [])) (lambda_of ls j) (part_at log j) e

  -- a function is not wrong where it is right
  not-both : (j : ℕ) (ks js : List PlainLambda) (e : ReplayFault) → e ≢ NoMemory → j < length ls → length js ≡ length ls →
      ((d : ℕ) → Among j d → IsRight ls deps log ks d) → ((d : ℕ) → Among j d → IsRight ls deps log js d) → IsRight ls deps log js j → Wrong ks j e → ⊥
  not-both j ks js e some inside count one other right wrong =
      let callees = lambdas_at js (slice_index_or deps j []) in
      let made : replayed rules callees (part_at log j).steps (lambda_of ls j) ≡ Some (lambda_of js j) =
      ap (λ steps. replayed rules callees steps (lambda_of ls j)) (sym (steps-at log j))
      ∙ (right.replayed ∙ some-at js j (omega (arith, inside, count))) in
      right_has_no_fault callees (lambda_of ls j) (part_at log j) (lambda_of js j) e some made right.counts
      (subst (λ cs. IsFunctionFault cs (lambda_of ls j) (part_at log j) e) (same-callees j ks js one other) wrong)

  one-fault : (i j : ℕ) (ks js : List PlainLambda) (e f : ReplayFault) → e ≢ NoMemory → f ≢ NoMemory → i < length ls → j < length ls →
      AreRightUntil ls ranks deps log (rank i) i ks → AreRightUntil ls ranks deps log (rank j) j js → Wrong ks i e → Wrong js j f → e ≡ f
  one-fault i j ks js e f some any within inside one other a b = by (order i j)
    where
      order : (i j : ℕ) → ((i ≡ j) ⊎ (IsTaken ranks (rank j) j i ⊎ IsTaken ranks (rank i) i j))
      order i j =
          elim (cases_eq (rank i) (rank j)) [
            | inl same ↦
                elim (cases_eq i j) [
                  | inl equal ↦ inl equal
                  | inr apart ↦
                      elim (cases_lt i j) [
                        | inl low ↦ inr (inl (inr (same, low)))
                        | inr high ↦ inr (inr (inr (sym same, omega (arith, high, apart))))
                      ]
                ]
            | inr other ↦
                elim (cases_lt (rank i) (rank j)) [
                  | inl low ↦ inr (inl (inl low))
                  | inr high ↦ inr (inr (inl (omega (arith, high, other))))
                ]
          ]

      by : ((i ≡ j) ⊎ (IsTaken ranks (rank j) j i ⊎ IsTaken ranks (rank i) i j)) → e ≡ f
      by (inl same) =
          let moved : AreRightUntil ls ranks deps log (rank i) i js = subst (λ n. AreRightUntil ls ranks deps log (rank n) n js) (sym same) other in
          one_function_fault (lambdas_at js (slice_index_or deps i [])) (lambda_of ls i) (part_at log i) e f some any
          (subst (λ cs. IsFunctionFault cs (lambda_of ls i) (part_at log i) e)
          (same-callees i ks js (λ d among. one.each d among.0 among.1) (λ d among. moved.each d among.0 among.1)) a)
          (subst (λ n. Wrong js n f) (sym same) b)
      by (inr (inl before)) =
          absurd (not-both i ks js e some within other.count (λ d among. one.each d among.0 among.1)
          (λ d among. let far = later i j d before among in other.each d far.0 far.1) (other.each i within before) a)
      by (inr (inr before)) =
          absurd (not-both j js ks f any inside one.count (λ d among. other.each d among.0 among.1)
          (λ d among. let far = later j i d before among in one.each d far.0 far.1) (one.each j inside before) b)

-- ---- all orders of a list are one

first-of : (ls : List PlainLambda) (log : List PlainPart) (e : ReplayFault) → e ≢ NoMemory → IsReplayFault ls log e → IsFirstFault ls log e
first-of ls log (BadCount line) some h = h
first-of ls log (BadStep line) some h = h
first-of ls log NoMemory some h = absurd (some refl)

-- what is first wrong, by the order that is known of the list
record IsWrongBy (ls : List PlainLambda) (ranks : List ℕ) (deps : List (List ℕ)) (log : List PlainPart) (e : ReplayFault) : Type 0 where
  function : ℕ
  inside : function < length ls
  lambdas : List PlainLambda
  before : AreRightUntil ls ranks deps log (slice_index ranks function) function lambdas
  wrong : IsFunctionFault (lambdas_at lambdas (slice_index_or deps function [])) (lambda_of ls function) (part_at log function) e

wrong-by : OrdersAreUnique → (ls : List PlainLambda) (ranks : List ℕ) (deps : List (List ℕ)) (order : IsOrder ls ranks deps) (log : List PlainPart) (e : ReplayFault) → IsFirstFault ls log e →
    IsWrongBy ls ranks deps log e
wrong-by is_unique ls ranks deps order log e h =
    let same = is_unique ls h.ranks ranks h.deps deps h.order order in
    subst (λ ds. IsWrongBy ls ranks ds log e) same.1
    (subst (λ rs. IsWrongBy ls rs h.deps log e) same.0
    (record { function = h.function; inside = h.inside; lambdas = h.lambdas; before = h.before; wrong = h.wrong }))

pub one_replay_fault : OrdersAreRanked → OrdersAreUnique → OneReplayFault
one_replay_fault is_ranked is_unique ls log e f some any h g =
    let a = first-of ls log e some h in
    let b = wrong-by is_unique ls a.ranks a.deps a.order log f (first-of ls log f any g) in
    one-fault ls a.ranks a.deps log (is_ranked ls a.ranks a.deps a.order) a.function b.function a.lambdas b.lambdas e f some any a.inside b.inside a.before b.before a.wrong b.wrong

pub right_have_no_fault : OrdersAreRanked → OrdersAreUnique → RightHaveNoFault
right_have_no_fault is_ranked is_unique ls log ks e some right h =
    let all = right.replayed in
    let a = wrong-by is_unique ls all.ranks all.deps all.order log e (first-of ls log e some h) in
    let each : (d : ℕ) → d < length ls → IsRight ls all.deps log ks d = λ d inside. record { replayed = all.each d inside; counts = right.counts d inside } in
    not-both ls all.ranks all.deps log (is_ranked ls all.ranks all.deps all.order) a.function a.lambdas ks e some a.inside all.count
    (λ d among. a.before.each d among.0 among.1) (λ d among. each d among.0) (each a.function a.inside) a.wrong

pub right_are_unique : ReplayedAreUnique → RightAreUnique
right_are_unique unique ls log ks js one other = unique rules ls (steps_of log) ks js one.replayed other.replayed
