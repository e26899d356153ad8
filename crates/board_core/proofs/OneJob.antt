-- What the one worker of a board does.
use Rattle.std.proofs.Common.{◌≡◌, ◌≢◌, ℕ, zero, suc, ◌<◌, inl, inr, List, [], ◌∷◌, ◌++◌, length, refl, sym, ap, subst, ◌∙◌, arith}
use Rattle.std.specs.Prelude.{slice_index_or, Contains}
use Rattle.std.specs.List.{cons_option}
use Rattle.std.proofs.lemmas.List.{length-set, length-append, get_or_default, get_or-set_same, get_or-set_other}
use Rattle.std.proofs.lemmas.List.Elements.{Contains-append_cases}
use Rattle.std.proofs.lemmas.Bool.{cases_eq}
use Rattle.board_core.specs.declared.event.Event.{Event}
use Rattle.board_core.specs.declared.event.Event.TheVariants.{Claim, Publish, Stop}
use Rattle.board_core.specs.Answers.{IsRanked}
use Rattle.board_core.specs.Board.{Job, Open, Held, Out, Program, State, job_at, result_of, deps_of, results, after}
use Rattle.board_core.specs.Calls.{with_event, Claims, SomebodyStopped, IsFirstBad}
use Rattle.board_core.specs.History.{History, program_of, state_of}
use Rattle.board_core.specs.Beginnings.{EventsGoOn}
use Rattle.board_core.specs.Alone.{GoesOn, IsBetweenJobs}

pub none-bad : {M : Type 0} (program : Program M) → IsRanked program → (j d : ℕ) → IsFirstBad program.ranks program.deps j d → ⊥
none-bad program ranked j d bad =
    let at = bad.first in
    let has : Contains (deps_of program j) d = (at.index, at.inside, get_or_default (deps_of program j) at.index d 0 at.inside ∙ at.value) in
    elim at.bad [
      | inl past ↦ omega (arith, past, ranked.known j d has, ranked.counted)
      | inr no_less ↦ omega (arith, no_less, ranked.smaller j d has)
    ]

-- ---- one job

same-results : {M : Type 0} (s t : State M) → ((d : ℕ) → result_of (job_at s d) ≡ result_of (job_at t d)) → (ds : List ℕ) → results s ds ≡ results t ds
same-results s t same [] = refl
same-results s t same (d ∷ ds) =
    ap (λ o. cons_option o (results s ds)) (same d) ∙ ap (λ xs. cons_option (result_of (job_at t d)) xs) (same-results s t same ds)

-- no worker stops by a claim or a publication
going-on : (events : List Event) (event : Event) → ((worker : ℕ) → Stop worker ≢ event) → ¬ SomebodyStopped events → ¬ SomebodyStopped (events ++ event ∷ [])
going-on events event apart going stopped =
    elim (Contains-append_cases events (event ∷ []) (Stop stopped.0) stopped.1) [
      | inl before ↦ going (stopped.0, before)
      | inr last ↦ apart stopped.0 (only (Stop stopped.0) last.0 last.1 last.2)
    ]
  where
    only : (e : Event) (i : ℕ) → i < 1 → slice_index_or (event ∷ []) i e ≡ e → e ≡ event
    only e zero inside is = sym is
    only e (suc i) inside is = absurd (omega (arith, inside))

module _ {W M : Type 0} (go_on : EventsGoOn M) (made : W → ℕ → List M → M) (old : History W) (j : ℕ) (given : List M) where
  -- the state after the claim, and after the publication
  abbrev claimed : State M
  claimed = after (program_of made old) (state_of made old) (Claim 0 j)

  abbrev published : State M
  published = after (program_of made old) claimed (Publish 0 j)

  claimed-is : state_of made (with_event old (Claim 0 j)) ≡ claimed
  claimed-is = go_on (program_of made old) old.events (Claim 0 j)

  published-is : state_of made (with_event (with_event old (Claim 0 j)) (Publish 0 j)) ≡ published
  published-is =
      go_on (program_of made old) (with_event old (Claim 0 j)).events (Publish 0 j)
      ∙ ap (λ s. after (program_of made old) s (Publish 0 j)) claimed-is

  module _ (mid : History W) (claims : Claims made old mid 0 j given) where
    inside : j < length (state_of made old).jobs
    inside = claims.may.next.ready.inside

    is-held : job_at claimed j ≡ Held 0
    is-held = get_or-set_same (state_of made old).jobs j (Held 0) Open inside

    pub held-claimed : job_at (state_of made mid) j ≡ Held 0
    held-claimed =
        subst (λ (h : History W). job_at (state_of made h) j ≡ Held 0) (sym claims.happens) (ap (λ (s : State M). job_at s j) claimed-is ∙ is-held)

    no-result : (d : ℕ) → result_of (job_at (state_of made old) d) ≡ result_of (job_at claimed d)
    no-result d =
        elim (cases_eq d j) [
          | inl same ↦
              ap (λ k. result_of (job_at (state_of made old) k)) same
              ∙ (ap result_of claims.may.next.ready.still_open ∙ (sym (ap result_of is-held) ∙ sym (ap (λ k. result_of (job_at claimed k)) same)))
          | inr apart ↦ ap result_of (sym (get_or-set_other (state_of made old).jobs j d (Held 0) Open apart))
        ]

    pub given-claimed : given ≡ results (state_of made mid) (deps_of (program_of made mid) j)
    given-claimed =
        let ds = deps_of (program_of made old) j in
        let here : given ≡ results (state_of made (with_event old (Claim 0 j))) ds =
        claims.results_are ∙ (same-results (state_of made old) claimed no-result ds ∙ ap (λ s. results s ds) (sym claimed-is)) in
        subst (λ (h : History W). given ≡ results (state_of made h) (deps_of (program_of made h) j)) (sym claims.happens) here

    module _ (new : History W) (publishes : new ≡ with_event mid (Publish 0 j)) where
      new-is : new ≡ with_event (with_event old (Claim 0 j)) (Publish 0 j)
      new-is = publishes ∙ ap (λ (h : History W). with_event h (Publish 0 j)) claims.happens

      free-at : ((k worker : ℕ) → ¬ (job_at (state_of made old) k ≡ Held worker)) → (k worker : ℕ) → ¬ (job_at published k ≡ Held worker)
      free-at free k worker held =
          let it : Job M = Out (made old.work j (results claimed (deps_of (program_of made old) j))) in
          let long : j < length claimed.jobs = omega (arith, inside, length-set (state_of made old).jobs j (Held 0)) in
          elim (cases_eq k j) [
            | inl same ↦
                let out : it ≡ Held worker = sym (ap (λ n. job_at published n) same ∙ get_or-set_same claimed.jobs j it Open long) ∙ held in
                cc
            | inr apart ↦
                free k worker
                (sym (get_or-set_other (state_of made old).jobs j k (Held 0) Open apart)
                ∙ (sym (get_or-set_other claimed.jobs j k it Open apart) ∙ held))
          ]

      pub between-again : IsBetweenJobs made old → IsBetweenJobs made new
      between-again before = subst (λ (h : History W). IsBetweenJobs made h) (sym new-is) (record {
        workers = before.workers;
        free = λ k worker held. free-at before.free k worker (sym (ap (λ (s : State M). job_at s k) published-is) ∙ held);
        going = going-on (with_event old (Claim 0 j)).events (Publish 0 j) (λ w e. cc) (going-on old.events (Claim 0 j) (λ w e. cc) before.going);
      })

      pub goes-on : GoesOn old new
      goes-on = subst (λ (h : History W). GoesOn old h) (sym new-is) (record {
        ranks = refl;
        deps = refl;
        workers = refl;
        work = refl;
        longer =
            omega (arith, length-append (with_event old (Claim 0 j)).events (Publish 0 j ∷ []), length-append old.events (Claim 0 j ∷ []));
      })
