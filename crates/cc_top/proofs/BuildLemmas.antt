-- How a build ends.
use Rattle.std.proofs.Common.{◌≡◌, ◌≢◌, ◌⊎◌, ℕ, ◌≤◌, true, false, List, Option, length, take, option_map, refl, ap, sym, ◌∙◌, subst, inl, inr}
use Rattle.std.proofs.lemmas.Bool.{false≢true}
use Rattle.r_rule.specs.declared.steps.Rule.{Rule}
use Rattle.s_linear.specs.declared.frame.CodeForm.{CodeForm}
use Rattle.cc_io.specs.Files.{Name, FileSet, put_file}
use Rattle.g_pass.specs.Recipe.{OneRecipe}
use Rattle.cc_watch.specs.Rows.{PlainRow}
use Rattle.cc_compile.specs.RecipeText.{IsTextOf}
use Rattle.cc_top.specs.BuildEnds.{BuildEnds, BuildEndsUnder, Finishes}
use Rattle.cc_report.specs.Outcome.{text_of as line_of}
use Rattle.cc_io.specs.Outside.{FilesSeen}
use Rattle.cc_top.specs.Compiled.{WasCompiled, rows_in}
use Rattle.cc_top.specs.Watchers.{has_reporter}
use Rattle.cc_report.specs.declared.outcome.Outcome.{Outcome}
use Rattle.cc_report.specs.declared.outcome.Outcome.TheVariants.{Done, Usage, WriteFault, NoMemory}

-- ---- a file that was not written holds a prefix

pub a_prefix : (image : Name) (read bytes : List ℕ) (known known' : Option FileSet) → read ≡ bytes
    → (known' ≡ known) ⊎ ((count : ℕ) × (count ≤ length read) × (known' ≡ option_map (put_file image (take count read)) known))
    → (known' ≡ known) ⊎ ((count : ℕ) × (known' ≡ option_map (put_file image (take count bytes)) known))
a_prefix image read bytes known known' same (inl kept) = inl kept
a_prefix image read bytes known known' same (inr cut) = inr (cut.0, cut.2 ∙ ap (λ b. option_map (put_file image (take cut.0 b)) known) same)

module _ {W : Type 0} (named : W → List ℕ) (stands_for : W → List PlainRow → Type 0) (text_of : W → List PlainRow → List ℕ) where
  abbrev Ended : List Rule → CodeForm → Option (List ℕ) → (source image : Name) → Outcome → List ℕ → FilesSeen → FilesSeen → List W → List W → Type 0
  Ended = BuildEnds named stands_for text_of

  abbrev EndedUnder : List ℕ → CodeForm → Option (List ℕ) → (source image : Name) → Outcome → List ℕ → FilesSeen → FilesSeen → List W → List W → Type 0
  EndedUnder = BuildEndsUnder named stands_for text_of

  abbrev Finished : Option (List ℕ) → Name → List ℕ → List PlainRow → Outcome → List ℕ → FilesSeen → FilesSeen → List W → List W → Type 0
  Finished = Finishes named stands_for text_of

  -- ---- a source that was compiled

  module _ (name : Option (List ℕ)) (image : Name) (bytes : List ℕ) (rows : List PlainRow) (said : List ℕ) (first before after : FilesSeen) (ws ws' : List W)
      (known : before.known ≡ first.known) (created : before.create_faults ≡ first.create_faults) (written : before.write_faults ≡ first.write_faults) where
    -- the files have not changed since then
    abbrev seen : Option FileSet → (Name → ℕ) → ℕ → FilesSeen
    seen k c w = record { known = k; read_faults = first.read_faults; write_faults = w; open_faults = first.open_faults; create_faults = c }

    -- what is said of the files of `before` is said of those of `first`
    since : (P : FilesSeen → Type 0) → P (seen before.known before.create_faults before.write_faults) → P first
    since P h =
        subst (λ w. P (seen first.known first.create_faults w)) written
        (subst (λ c. P (seen first.known c before.write_faults)) created (subst (λ k. P (seen k before.create_faults before.write_faults)) known h))

    pub finishes-since : (e : Outcome) → Finished name image bytes rows e said before after ws ws' → Finished name image bytes rows e said first after ws ws'
    finishes-since Done h = since (λ f. Finished name image bytes rows Done said f after ws ws') h
    finishes-since WriteFault h = since (λ f. Finished name image bytes rows WriteFault said f after ws ws') h
    finishes-since NoMemory h = since (λ f. Finished name image bytes rows NoMemory said f after ws ws') h
    finishes-since _ h = absurd h

  module _ (recipe : List Rule) (form : CodeForm) (name : Option (List ℕ)) (source image : Name) (bytes : List ℕ) (rows : List PlainRow) (said : List ℕ) (before after : FilesSeen) (ws ws' : List W) where
    pub compiled-ends : (e : Outcome) → WasCompiled recipe form source before.known bytes rows → Finished name image bytes rows e said before after ws ws' →
        Ended recipe form name source image e said before after ws ws'
    compiled-ends Done c h =
        let k : Finished name image bytes (rows_in c.image) Done said before after ws ws' = subst (λ rs. Finished name image bytes rs Done said before after ws ws') c.listed h in
        record {
          built = record {
            text = c.text;
            read = c.read;
            program = c.image.program;
            accepted = c.image.accepted;
            bytes = bytes;
            compiled = c.image.image;
            written = k.0;
            meaning = c.image.meaning;
          };
          watchers = k.1;
          report = k.2;
        }
    compiled-ends WriteFault c h = (bytes, rows, c, h)
    compiled-ends NoMemory c h = inr (bytes, rows, c, h)
    compiled-ends _ c h = absurd h

  -- ---- the recipe, and the watcher to report

  module _ (one : OneRecipe) (list : List ℕ) (recipe : List Rule) (form : CodeForm) (name : Option (List ℕ)) (source image : Name) (ended : Outcome) (said : List ℕ) (before after : FilesSeen) (ws ws' : List W) where
    pub under_it : IsTextOf recipe list → true ≡ has_reporter named name ws → (ended ≢ Done → said ≡ line_of ended) → Ended recipe form name source image ended said before after ws ws' →
        EndedUnder list form name source image ended said before after ws ws'
    under_it it some line ends = record {
      build = λ other is has. subst (λ r. Ended r form name source image ended said before after ws ws') (one recipe other (sym it.written ∙ is.written)) ends;
      usage = λ none. absurd (none recipe it (sym some));
      line = line;
    }

  module _ (list : List ℕ) (form : CodeForm) (name : Option (List ℕ)) (source image : Name) (files : FilesSeen) (ws : List W) where
    pub under_none : ((recipe : List Rule) → IsTextOf recipe list → ⊥) → EndedUnder list form name source image Usage (line_of Usage) files files ws ws
    under_none none = record { build = λ recipe is has. absurd (none recipe is); usage = λ all. (inl refl, refl, refl); line = λ other. refl }

    pub under_nobody : false ≡ has_reporter named name ws → EndedUnder list form name source image Usage (line_of Usage) files files ws ws
    under_nobody nobody = record { build = λ recipe is has. absurd (false≢true (nobody ∙ has)); usage = λ all. (inl refl, refl, refl); line = λ other. refl }
