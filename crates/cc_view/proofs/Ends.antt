-- How a command ends, from what it shows and how that was written.
use Rattle.std.proofs.Common.{◌≡◌, ◌+◌, ◌⊎◌, ℕ, List, [], take, Option, None, Some, refl, sym, ap, subst, ◌∙◌, inl, inr, arith}
use Rattle.std.specs.Option.{ForSome}
use Rattle.std.proofs.lemmas.List.{length-take, take_all}
use Rattle.std.proofs.lemmas.Option.{same_Some}
use Rattle.base.specs.Limits.{most_source_bytes}
use Rattle.r_rule.specs.declared.steps.Rule.{Rule}
use Rattle.cc_io.specs.Files.{Name, FileSet, content}
use Rattle.cc_io.specs.Sink.{append}
use Rattle.cc_io.proofs.lemmas.Sink.{append-none}
use Rattle.cc_io.specs.Outside.{FilesSeen, StreamSeen, ReadFails}
use Rattle.cc_report.specs.Outcome.{text_of}
use Rattle.cc_report.specs.declared.outcome.Outcome.{Outcome}
use Rattle.cc_report.specs.declared.outcome.Outcome.TheVariants.{Done, Usage, ReadFault, WriteFault, Refused, BadImage, NoMemory, Exit, Stack, Budget, Stuck, Undefined, Cut, Certified, NotCertified, Script}
use Rattle.g_pass.specs.Recipe.{OneRecipe}
use Rattle.cc_compile.specs.RecipeText.{IsTextOf}
use Rattle.cc_view_source.specs.Command.{Command, graph, steps, listing, explain}
use Rattle.cc_view.specs.ViewEnds.{list_of, said_of, source_of, CommandShows, IsWritten, ShownCause, ViewEnds, ViewEndsUnder, WasShown}

-- where memory ran out nothing is shown, whatever the command
nothing-shown : (recipe : List Rule) (c : Command) (text : List ℕ) → CommandShows recipe c text NoMemory []
nothing-shown recipe (graph source list function after drawing) text = refl
nothing-shown recipe (steps source list) text = refl
nothing-shown recipe (listing source list) text = refl
nothing-shown recipe (explain source list) text = refl

-- what a command shows ends in no fault of a call
no-read_fault : (recipe : List Rule) (c : Command) (text shown : List ℕ) → CommandShows recipe c text ReadFault shown → ⊥
no-read_fault recipe (graph source list function after drawing) text shown h = h
no-read_fault recipe (steps source list) text shown h = h
no-read_fault recipe (listing source list) text shown h = h
no-read_fault recipe (explain source list) text shown h = h

no-write_fault : (recipe : List Rule) (c : Command) (text shown : List ℕ) → CommandShows recipe c text WriteFault shown → ⊥
no-write_fault recipe (graph source list function after drawing) text shown h = h
no-write_fault recipe (steps source list) text shown h = h
no-write_fault recipe (listing source list) text shown h = h
no-write_fault recipe (explain source list) text shown h = h

-- a text that may have been read
some-text : (name : Name) (known : Option FileSet) → (text : List ℕ) × ForSome known (λ files. text ≡ take (most_source_bytes + 1) (content name files))
some-text name None = ([], λ files e. absurd cc)
some-text name (Some all) = (take (most_source_bytes + 1) (content name all), λ files e. let same : all ≡ files = same_Some all files e in ap (λ f. take (most_source_bytes + 1) (content name f)) same)

-- memory ran out while the source was read
pub unread_ends : (recipe : List Rule) (c : Command) (name : Name) (before after : FilesSeen) (output : StreamSeen) →
    ShownCause (CommandShows recipe c) name NoMemory before after output output
unread_ends recipe c name before after output =
    let some = some-text name before.known in
    ([], record { text = some.0; read = some.1; shows = nothing-shown recipe c some.0 }, sym (append-none output.bytes))

-- the source was not read, or memory ran out
pub unread_so : (recipe : List Rule) (c : Command) (name other : Name) (ended : Outcome) (before after : FilesSeen) (output : StreamSeen) → other ≡ name →
    (ended ≡ NoMemory) ⊎ ((ended ≡ ReadFault) × ReadFails other before after) → ShownCause (CommandShows recipe c) name ended before after output output
unread_so recipe c name other ended before after output same (inl none) =
    let P : Outcome → Type 0 = λ o. ShownCause (CommandShows recipe c) name o before after output output in
    subst P (sym none) (unread_ends recipe c name before after output)
unread_so recipe c name other ended before after output same (inr fails) =
    let P : Outcome → Type 0 = λ o. ShownCause (CommandShows recipe c) name o before after output output in
    subst P (sym fails.0) (subst (λ (n : Name). ReadFails n before after) same fails.1, refl)

-- what was read of a source of which no more was read than a byte over the limit
pub read_text : (name other : Name) (known : Option FileSet) (bytes text : List ℕ) → other ≡ name → ForSome known (λ files. bytes ≡ take (most_source_bytes + 1) (content other files)) →
    text ≡ take (most_source_bytes + 1) bytes → ForSome known (λ files. text ≡ take (most_source_bytes + 1) (content name files))
read_text name other known bytes text same read is files e =
    let most = most_source_bytes + 1 in
    let whole = take_all most (take most (content other files)) (omega (arith, length-take most (content other files))) in
    is ∙ (ap (take most) (read files e) ∙ (whole ∙ ap (λ n. take most (content n files)) same))

-- the cause of the outcome of what was written whole
whole_ends : (recipe : List Rule) (c : Command) (name : Name) (ended : Outcome) (shown : List ℕ) (before after : FilesSeen) (output output' : StreamSeen) →
    WasShown (CommandShows recipe c) name before.known ended shown → output'.bytes ≡ append output.bytes shown → ShownCause (CommandShows recipe c) name ended before after output output'
whole_ends recipe c name Done shown before after output output' was held = (shown, was, held)
whole_ends recipe c name Usage shown before after output output' was held = (shown, was, held)
whole_ends recipe c name ReadFault shown before after output output' was held = absurd (no-read_fault recipe c was.text shown was.shows)
whole_ends recipe c name WriteFault shown before after output output' was held = absurd (no-write_fault recipe c was.text shown was.shows)
whole_ends recipe c name (Refused refusal) shown before after output output' was held = (shown, was, held)
whole_ends recipe c name (BadImage fault) shown before after output output' was held = (shown, was, held)
whole_ends recipe c name NoMemory shown before after output output' was held = (shown, was, held)
whole_ends recipe c name (Exit status) shown before after output output' was held = (shown, was, held)
whole_ends recipe c name Stack shown before after output output' was held = (shown, was, held)
whole_ends recipe c name Budget shown before after output output' was held = (shown, was, held)
whole_ends recipe c name (Stuck pc why) shown before after output output' was held = (shown, was, held)
whole_ends recipe c name Undefined shown before after output output' was held = (shown, was, held)
whole_ends recipe c name Cut shown before after output output' was held = (shown, was, held)
whole_ends recipe c name Certified shown before after output output' was held = (shown, was, held)
whole_ends recipe c name (NotCertified kind place) shown before after output output' was held = (shown, was, held)
whole_ends recipe c name (Script number) shown before after output output' was held = (shown, was, held)

pub written_ends : (recipe : List Rule) (c : Command) (name : Name) (ended result : Outcome) (shown : List ℕ) (before after : FilesSeen) (output output' : StreamSeen) →
    WasShown (CommandShows recipe c) name before.known ended shown → IsWritten ended shown result output output' → ShownCause (CommandShows recipe c) name result before after output output'
written_ends recipe c name ended result shown before after output output' was (inl whole) =
    let P : Outcome → Type 0 = λ o. ShownCause (CommandShows recipe c) name o before after output output' in
    subst P (sym whole.0) (whole_ends recipe c name ended shown before after output output' was whole.1)
written_ends recipe c name ended result shown before after output output' was (inr part) =
    let P : Outcome → Type 0 = λ o. ShownCause (CommandShows recipe c) name o before after output output' in
    subst P (sym part.0) (ended, shown, was, part.1, part.2)

-- ---- the recipe of a text

-- the command was carried out under the recipe of its list
pub under_it : OneRecipe → (recipe : List Rule) (c : Command) (list : List ℕ) (ended : Outcome) (before after : FilesSeen) (output output' : StreamSeen) → list ≡ list_of c → IsTextOf recipe list →
    ShownCause (CommandShows recipe c) (source_of c) ended before after output output' → after.known ≡ before.known → ViewEndsUnder c ended before after output output'
under_it one recipe c list ended before after output output' same is cause kept =
    let it : IsTextOf recipe (list_of c) = subst (IsTextOf recipe) same is in
    record {
      shown = λ other of. subst (λ (r : List Rule). ShownCause (CommandShows r c) (source_of c) ended before after output output') (one recipe other (sym it.written ∙ of.written)) cause;
      usage = λ none. absurd (none recipe it);
      files = kept;
    }

-- its list is of no recipe
pub under_none : (c : Command) (list : List ℕ) (files : FilesSeen) (output : StreamSeen) → list ≡ list_of c → ((recipe : List Rule) → IsTextOf recipe list → ⊥) →
    ViewEndsUnder c Usage files files output output
under_none c list files output same none = record {
  shown = λ recipe is. absurd (none recipe (subst (IsTextOf recipe) (sym same) is));
  usage = λ all. (inl refl, refl, refl);
  files = refl;
}

-- memory ran out for the arguments, whatever they are
pub unread_arguments : (o : Option Command) (files : FilesSeen) (output : StreamSeen) → ViewEnds o NoMemory files files output output
unread_arguments None files output = (inr refl, refl, refl)
unread_arguments (Some c) files output = record {
  shown = λ recipe is. unread_ends recipe c (source_of c) files files output;
  usage = λ none. (inr refl, refl, refl);
  files = refl;
}

-- ---- what is said

-- of any end but usage it is the line of the compiler's program
pub said-as : (o : Outcome) → (o ≡ Usage → ⊥) → said_of o ≡ text_of o
said-as Usage other = absurd (other refl)
said-as _ other = refl
