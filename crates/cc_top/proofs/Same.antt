-- Two sessions on the same source answer the same commands alike.
use Rattle.std.proofs.Common.{◌≡◌, ◌↔◌, ℕ, Bool, true, false, List, [], ◌∷◌, get_or, Option, None, Some, refl, ap, sym, subst, ◌∙◌}
use Rattle.std.specs.Prelude.{count_by}
use Rattle.std.proofs.lemmas.List.{ext_get_or}
use Rattle.g_graph.specs.Plain.{PlainLambda}
use Rattle.g_build_def.specs.Functions.{graph}
use Rattle.g_pass_order.specs.Calls.{IsOrder}
use Rattle.g_pass_order.specs.Laws.{OrdersAreUnique}
use Rattle.g_pass_work.specs.Stale.{AreStale, IsUnstale}
use Rattle.c_typed.specs.Typed.{ProgramTree}
use Rattle.cc_source.specs.Accepted as source
use Rattle.cc_source.specs.Accepted.{Accepts, Refuses}
use Rattle.cc_source.specs.declared.fault.CompileFault.{CompileFault}
use Rattle.cc_compile.specs.Compiled.{IsImageUnder, OneImage}
use Rattle.cc_source.specs.Refusal.{refusal_of}
use Rattle.cc_report.specs.declared.refusal.Refusal.{Refusal}
use Rattle.cc_session.specs.Accepted.{PlainAccepted}
use Rattle.cc_session.specs.Edits.{extent_of, names_of, replaced, IsReplaced}
use Rattle.cc_session.specs.declared.fault.EditFault.TheVariants as fault
use Rattle.cc_session.specs.Session.{PlainSession, Replaces, IsReplaceRefused}
use Rattle.cc_session.specs.Rebuilds.{HasDeps, HadDeps, AreStaleSince, IsRebuilt}
use Rattle.cc_script_text.specs.declared.command.Command.{Command}
use Rattle.cc_script_text.specs.declared.command.Command.TheVariants.{Build, Replace, End}
use Rattle.cc_top.specs.declared.answer.Answer.{Answer}
use Rattle.cc_top.specs.declared.answer.Answer.TheVariants.{Replaced, Image, NoFunction, Refused, OtherNames}
use Rattle.cc_top.specs.Answers.{Held, AnswersImage, IsAnswered, AreAnswered}

-- ---- stale functions

same_test : (b c : Bool) (P : Type 0) → (b ≡ false) ↔ P → (c ≡ false) ↔ P → b ≡ c
same_test false false P one two = refl
same_test true true P one two = refl
same_test false true P one two = absurd (let clash : true ≡ false = two.1 (one.0 refl) in cc)
same_test true false P one two = absurd (let clash : true ≡ false = one.1 (two.0 refl) in cc)

one_stale : (old : List PlainLambda) (old_deps : List (List ℕ)) (new : List PlainLambda) (deps : List (List ℕ)) (stale other : List Bool)
    → AreStale old old_deps new deps stale → AreStale old old_deps new deps other → stale ≡ other
one_stale old old_deps new deps stale other one two =
    ext_get_or true stale other (one.count ∙ sym two.count)
    (λ i low. same_test (get_or stale i true) (get_or other i true) (IsUnstale old old_deps new deps i) (one.each i) (two.each i))

module _ (one_program : source.OneProgram) (orders : OrdersAreUnique) where
  one_lambdas : (text : List ℕ) (ls other : List PlainLambda) (deps deps' : List (List ℕ)) → HasDeps text ls deps → HasDeps text other deps' → ls ≡ other
  one_lambdas text ls other deps deps' a b = a.lambdas_are ∙ (ap graph (one_program text a.program b.program a.accepted b.accepted) ∙ sym b.lambdas_are)

  one_deps : (text : List ℕ) (ls other : List PlainLambda) (deps deps' : List (List ℕ)) → HasDeps text ls deps → HasDeps text other deps' → deps ≡ deps'
  one_deps text ls other deps deps' a b =
      (orders other a.ranks b.ranks deps deps' (subst (λ l. IsOrder l a.ranks deps) (one_lambdas text ls other deps deps' a b) a.order) b.order).1

  one_had : (last : Option (List ℕ)) (ls other : List PlainLambda) (deps deps' : List (List ℕ)) → HadDeps last ls deps → HadDeps last other deps' → (ls ≡ other) × (deps ≡ deps')
  one_had None ls other deps deps' a b = (a.0 ∙ sym b.0, a.1 ∙ sym b.1)
  one_had (Some text) ls other deps deps' a b = (one_lambdas text ls other deps deps' a b, one_deps text ls other deps deps' a b)

  stale_at : (old other : List PlainLambda) (old_deps other_deps : List (List ℕ)) (new more : List PlainLambda) (deps more_deps : List (List ℕ)) (stale : List Bool)
      → old ≡ other → old_deps ≡ other_deps → new ≡ more → deps ≡ more_deps → AreStale old old_deps new deps stale → AreStale other other_deps more more_deps stale
  stale_at old other old_deps other_deps new more deps more_deps stale a b c d h =
      subst (λ x. AreStale x other_deps more more_deps stale) a
      (subst (λ x. AreStale old x more more_deps stale) b (subst (λ x. AreStale old old_deps x more_deps stale) c (subst (λ x. AreStale old old_deps new x stale) d h)))

  one_count : (last : Option (List ℕ)) (text : List ℕ) (jobs others : ℕ) → AreStaleSince last text jobs → AreStaleSince last text others → jobs ≡ others
  one_count last text jobs others a b =
      let had = one_had last a.old b.old a.old_deps b.old_deps a.had b.had in
      let new = one_lambdas text a.new b.new a.deps b.deps a.has b.has in
      let deps = one_deps text a.new b.new a.deps b.deps a.has b.has in
      let same = one_stale b.old b.old_deps b.new b.deps a.stale b.stale (stale_at a.old b.old a.old_deps b.old_deps a.new b.new a.deps b.deps a.stale had.0 had.1 new deps a.are_stale) b.are_stale in
      a.count ∙ (ap (λ s. count_by (λ (t : Bool). t) s) same ∙ sym b.count)

  -- ---- images

  module _ (one_image : OneImage) where
    one_file : (session : PlainSession) (bytes others : List ℕ) (jobs more : ℕ) → IsRebuilt session bytes jobs → IsRebuilt session others more → bytes ≡ others
    one_file session bytes others jobs more a b =
        let same = one_program session.source a.program b.program a.accepted b.accepted in
        one_image session.recipe session.form b.program bytes others (subst (λ p. IsImageUnder session.recipe session.form p bytes) same a.image) b.image

    one_build : (before x y : Held) (jobs others : ℕ) → AnswersImage before jobs x → AnswersImage before others y → (Image jobs ≡ Image others) × (x ≡ y)
    one_build before x y jobs others a b =
        let bytes = one_file before.session a.bytes b.bytes jobs others a.made.rebuilt b.made.rebuilt in
        let count = one_count before.session.last before.session.source jobs others a.made.rebuilt.are_stale b.made.rebuilt.are_stale in (
          ap Image count,
          a.after_is
              ∙ (ap (λ file. record { session = record before.session { last = Some before.session.source }; image = Some file }) bytes ∙ sym b.after_is),
        )

  -- ---- edits

  module _ (old : PlainSession) (name text : List ℕ) where
    -- two accepted sources that are the session's
    abbrev IsBefore : PlainAccepted → Type 0
    IsBefore before = (before.source ≡ old.source) × Accepts old.source before.program

    one_before : (a b : PlainAccepted) → IsBefore a → IsBefore b → a ≡ b
    one_before a b one two =
        let sources = one.0 ∙ sym two.0 in
        let programs = one_program old.source a.program b.program one.1 two.1 in
        ap (λ s. record { source = s; program = a.program }) sources ∙ ap (λ p. record { source = b.source; program = p }) programs

    one_new : (a b : PlainAccepted) (new other : List ℕ) → a ≡ b → IsReplaced a name text new → IsReplaced b name text other → new ≡ other
    one_new a b new other same one two =
        let again = subst (λ x. IsReplaced x name text new) same one in
        let extents : again.extent ≡ two.extent = some_same again.extent two.extent (sym again.found ∙ two.found) in
        again.is ∙ (ap (λ e. replaced b.source e text) extents ∙ sym two.is)
      where
        some_same : (x y : ℕ × ℕ) → Some x ≡ Some y → x ≡ y
        some_same x y e = cc

    found_there : (a b : PlainAccepted) (new : List ℕ) → a ≡ b → IsReplaced a name text new → extent_of b.program.functions name ≡ None → ⊥
    found_there a b new same one none =
        let again = subst (λ x. IsReplaced x name text new) same one in
        clash again.extent (sym again.found ∙ none)
      where
        clash : (x : ℕ × ℕ) → Some x ≡ None → ⊥
        clash x e = cc

    module _ (one_fault : source.OneFault) (not_refused : source.AcceptedIsNotRefused) where
      -- the source that the edit makes, and what it was made of
      new_of : (a b : PlainAccepted) (new other : List ℕ) → IsBefore a → IsBefore b → IsReplaced a name text new → IsReplaced b name text other → new ≡ other
      new_of a b new other one two made more = one_new a b new other (one_before a b one two) made more

      replaced_twice : (x y : PlainSession) → Replaces old name text x → Replaces old name text y → x ≡ y
      replaced_twice x y a b =
          let same = new_of a.before b.before a.after.source b.after.source (a.source_was, a.accepted) (b.source_was, b.accepted) a.edited.replaced b.edited.replaced in
          a.new_is ∙ (ap (λ s. record { source = s; recipe = old.recipe; form = old.form; last = old.last }) same ∙ sym b.new_is)

      not_replaced : (x : PlainSession) → Replaces old name text x → IsReplaceRefused fault.NoFunction old name text → ⊥
      not_replaced x a b =
          found_there a.before b.before a.after.source (one_before a.before b.before (a.source_was, a.accepted) (b.source_was, b.accepted)) a.edited.replaced b.refused

      not_accepted : (x : PlainSession) (e : CompileFault) (new : List ℕ) → Replaces old name text x → IsReplaceRefused (fault.Source e new) old name text → ⊥
      not_accepted x e new a b =
          let same = new_of a.before b.before a.after.source new (a.source_was, a.accepted) (b.source_was, b.accepted) a.edited.replaced b.refused.1.0 in
          not_refused new a.after.program e b.refused.0 (subst (λ s. Accepts s a.after.program) same a.edited.accepted) b.refused.1.1

      not_other : (x : PlainSession) → Replaces old name text x → IsReplaceRefused fault.OtherNames old name text → ⊥
      not_other x a b =
          let befores = one_before a.before b.before (a.source_was, a.accepted) (b.source_was, b.accepted) in
          let same = one_new a.before b.before a.after.source b.refused.0 befores a.edited.replaced b.refused.1 in
          let programs = one_program b.refused.0 a.after.program b.refused.2.0 (subst (λ s. Accepts s a.after.program) same a.edited.accepted) b.refused.2.1 in
          b.refused.2.2 (ap (λ (p : ProgramTree). names_of p.functions) (sym programs) ∙ (a.edited.same_names ∙ ap (λ (q : PlainAccepted). names_of q.program.functions) befores))

      none_found : (e : CompileFault) (new : List ℕ) → IsReplaceRefused (fault.Source e new) old name text → IsReplaceRefused fault.NoFunction old name text → ⊥
      none_found e new a b =
          found_there a.before b.before new (one_before a.before b.before (a.source_was, a.accepted) (b.source_was, b.accepted)) a.refused.1.0 b.refused

      none_other : IsReplaceRefused fault.OtherNames old name text → IsReplaceRefused fault.NoFunction old name text → ⊥
      none_other a b =
          found_there a.before b.before a.refused.0 (one_before a.before b.before (a.source_was, a.accepted) (b.source_was, b.accepted)) a.refused.1 b.refused

      refused_other : (e : CompileFault) (new : List ℕ) → IsReplaceRefused (fault.Source e new) old name text → IsReplaceRefused fault.OtherNames old name text → ⊥
      refused_other e new a b =
          let same = new_of a.before b.before new b.refused.0 (a.source_was, a.accepted) (b.source_was, b.accepted) a.refused.1.0 b.refused.1 in
          not_refused b.refused.0 b.refused.2.0 e a.refused.0 b.refused.2.1 (subst (Refuses e) same a.refused.1.1)

      refused_twice : (e f : CompileFault) (new other : List ℕ) → IsReplaceRefused (fault.Source e new) old name text → IsReplaceRefused (fault.Source f other) old name text → (e ≡ f) × (new ≡ other)
      refused_twice e f new other a b =
          let same = new_of a.before b.before new other (a.source_was, a.accepted) (b.source_was, b.accepted) a.refused.1.0 b.refused.1.0 in
          (one_fault other e f a.refused.0 b.refused.0 (subst (Refuses e) same a.refused.1.1) b.refused.1.1, same)

      one_refusal : (r s : Refusal) (e f : CompileFault) (new other : List ℕ) → e ≡ f → new ≡ other → refusal_of e new ≡ Some r → refusal_of f other ≡ Some s → r ≡ s
      one_refusal r s e f new other faults news one two =
          let same : Some r ≡ Some s = sym one ∙ (ap (λ x. refusal_of x new) faults ∙ (ap (refusal_of f) news ∙ two)) in
          cc (same)

-- ---- answers

module _ (one_program : source.OneProgram) (orders : OrdersAreUnique) (one_image : OneImage) (one_fault : source.OneFault) (not_refused : source.AcceptedIsNotRefused) where
  abbrev Alike : Held → Held → Answer → Answer → Type 0
  Alike x y a b = (a ≡ b) × (x ≡ y)

  one_answer : (before x y : Held) (command : Command) (a b : Answer) → IsAnswered before command a x → IsAnswered before command b y → Alike x y a b
  one_answer before x y (Replace name text) Replaced Replaced h k =
      let sessions = replaced_twice one_program orders before.session name text one_fault not_refused x.session y.session h.replaced k.replaced in
      let images : x.image ≡ y.image = h.image ∙ sym k.image in
      (refl, ap (λ s. record { session = s; image = x.image }) sessions ∙ ap (λ i. record { session = y.session; image = i }) images)
  one_answer before x y (Replace name text) Replaced NoFunction h k = absurd (not_replaced one_program orders before.session name text one_fault not_refused x.session h.replaced k.0)
  one_answer before x y (Replace name text) Replaced (Refused r) h k =
      absurd (not_accepted one_program orders before.session name text one_fault not_refused x.session k.0.cause k.0.new h.replaced k.0.refused)
  one_answer before x y (Replace name text) Replaced OtherNames h k = absurd (not_other one_program orders before.session name text one_fault not_refused x.session h.replaced k.0)
  one_answer before x y (Replace name text) NoFunction Replaced h k = absurd (not_replaced one_program orders before.session name text one_fault not_refused y.session k.replaced h.0)
  one_answer before x y (Replace name text) NoFunction NoFunction h k = (refl, h.1 ∙ sym k.1)
  one_answer before x y (Replace name text) NoFunction (Refused r) h k = absurd (none_found one_program orders before.session name text one_fault not_refused k.0.cause k.0.new k.0.refused h.0)
  one_answer before x y (Replace name text) NoFunction OtherNames h k = absurd (none_other one_program orders before.session name text one_fault not_refused k.0 h.0)
  one_answer before x y (Replace name text) (Refused r) Replaced h k =
      absurd (not_accepted one_program orders before.session name text one_fault not_refused y.session h.0.cause h.0.new k.replaced h.0.refused)
  one_answer before x y (Replace name text) (Refused r) NoFunction h k = absurd (none_found one_program orders before.session name text one_fault not_refused h.0.cause h.0.new h.0.refused k.0)
  one_answer before x y (Replace name text) (Refused r) (Refused s) h k =
      let same = refused_twice one_program orders before.session name text one_fault not_refused h.0.cause k.0.cause h.0.new k.0.new h.0.refused k.0.refused in
      (ap Refused (one_refusal one_program orders before.session name text one_fault not_refused r s h.0.cause k.0.cause h.0.new k.0.new same.0 same.1 h.0.told k.0.told), h.1 ∙ sym k.1)
  one_answer before x y (Replace name text) (Refused r) OtherNames h k = absurd (refused_other one_program orders before.session name text one_fault not_refused h.0.cause h.0.new h.0.refused k.0)
  one_answer before x y (Replace name text) OtherNames Replaced h k = absurd (not_other one_program orders before.session name text one_fault not_refused y.session k.replaced h.0)
  one_answer before x y (Replace name text) OtherNames NoFunction h k = absurd (none_other one_program orders before.session name text one_fault not_refused h.0 k.0)
  one_answer before x y (Replace name text) OtherNames (Refused r) h k = absurd (refused_other one_program orders before.session name text one_fault not_refused k.0.cause k.0.new k.0.refused h.0)
  one_answer before x y (Replace name text) OtherNames OtherNames h k = (refl, h.1 ∙ sym k.1)
  one_answer before x y Build (Image jobs) (Image others) h k = one_build one_program orders one_image before x y jobs others h k
  one_answer before x y (Replace name text) (Image jobs) b h k = absurd h
  one_answer before x y (Replace name text) a (Image jobs) h k = absurd k
  one_answer before x y Build (Image jobs) _ h k = absurd k
  one_answer before x y Build _ b h k = absurd h
  one_answer before x y End a b h k = absurd h

  pub one_list : (before x y : Held) (commands : List Command) (given others : List Answer) → AreAnswered before commands given x → AreAnswered before commands others y → (given ≡ others) × (x ≡ y)
  one_list before x y [] [] [] h k = (refl, h ∙ sym k)
  one_list before x y (c ∷ commands) (a ∷ given) (b ∷ others) h k =
      let one = one_answer before h.0 k.0 c a b h.1 k.1 in
      let more = one_list k.0 x y commands given others (subst (λ n. AreAnswered n commands given x) one.1 h.2) k.2 in
      let heads : a ≡ b = one.0 in
      let tails : given ≡ others = more.0 in
      (ap (λ t. a ∷ t) tails ∙ ap (λ t. t ∷ others) heads, more.1)
  one_list before x y [] (a ∷ given) others h k = absurd h
  one_list before x y [] [] (b ∷ others) h k = absurd k
  one_list before x y (c ∷ commands) [] others h k = absurd h
  one_list before x y (c ∷ commands) (a ∷ given) [] h k = absurd k
