-- What names a later argument follows, and the slot of the node changes.
use Rattle.std.proofs.Common.{◌≡◌, Some, List, length, set, refl, subst, sym, ap, ◌∙◌, arith}
use Rattle.g_graph.specs.declared.op.Kind.{Kind}
use Rattle.g_graph.specs.declared.op.Origin.TheVariants.{Arg}
use Rattle.g_arena_def.specs.declared.place.Place.{Place}
use Rattle.g_arena_def.specs.Edits.{argument_less, argument_removed, uses_with, region_with}
use Rattle.g_arena_use.specs.Lists.{PlainUses, all_renamed}
use Rattle.g_arena_use.specs.Plain.{PlainSlot, args_of, slot_at, argument_gone}
use Rattle.g_arena_use.specs.Indexed.{AreIndexed}
use Rattle.g_arena_use.proofs.ReadLemmas.{has_kind, get_within}
use Rattle.g_arena_use.proofs.ArgumentLemmas.{args_there, no_args, argument_kind, argument_in, no_argument, region_of_slot, no_slot_args, argument_edited, removed_is, node_goes, node_indexed}
use Rattle.std.proofs.lemmas.Option.{same_Some}
use Rattle.g_arena.specs.Seen.{arena_seen}
use Rattle.g_arena.proofs.ShownLemmas.{shown}
use Rattle.g_arena.specs.Gone.{AreGone}
use Rattle.g_arena.proofs.GoneLemmas.{gone_kept}
use Rattle.g_arena.proofs.arena.Arena.remove_node_argument.Goals as goal

pub returns-in_default : goal.returns-in_default
returns-in_default c = absurd (no_argument c.self.inside.args c.self.inside.nodes c.args.home c.args.index (no_args (args_of c.self.inside.args c.args.home.node c.args.home.region c.self.inside.nodes) c.in_default.ensures) (has_kind c.self.inside.args c.self.inside.nodes c.self.inside.inputs c.self.inside.results c.args.self.now (shown c.self.inside c.args.self.now c.self.invariant c.self.view_is) c.args.home (Arg c.args.index) c.requires.there))

pub returns-in_default-slot_of : goal.returns-in_default-slot_of
returns-in_default-slot_of c =
    absurd (no_argument c.self.inside.args c.self.inside.nodes c.args.home c.args.index
    (ap (λ o. args_of c.self.inside.args o c.args.home.region c.self.inside.nodes) c.requires.node ∙ no_slot_args c.self.inside.args c.self.inside.nodes c.args.node c.args.home.region c.in_default-slot_of.ensures.slot)
    (has_kind c.self.inside.args c.self.inside.nodes c.self.inside.inputs c.self.inside.results c.args.self.now (shown c.self.inside c.args.self.now c.self.invariant c.self.view_is) c.args.home (Arg c.args.index) c.requires.there))

pub follow_argument-requires-clause-there : goal.follow_argument-requires-clause-there
follow_argument-requires-clause-there c =
    let t = args_there (args_of c.self.inside.args c.args.home.node c.args.home.region c.self.inside.nodes) c.in-Some.count c.in-Some.ensures in
    omega (arith, argument_in c.self.inside.args c.self.inside.nodes c.args.home t.0 c.args.index t.1 (has_kind c.self.inside.args c.self.inside.nodes c.self.inside.inputs c.self.inside.results c.args.self.now (shown c.self.inside c.args.self.now c.self.invariant c.self.view_is) c.args.home (Arg c.args.index) c.requires.there), t.2)

pub follow_argument-requires-clause-named : goal.follow_argument-requires-clause-named
follow_argument-requires-clause-named c = λ q lt.
    let t = args_there (args_of c.self.inside.args c.args.home.node c.args.home.region c.self.inside.nodes) c.in-Some.count c.in-Some.ensures in
    c.self.invariant.indexed.named_inputs c.args.home (Arg q) (argument_kind c.self.inside.args c.self.inside.nodes c.args.home t.0 q t.1 (omega (arith, lt, t.2)))

pub follow_argument-requires-2-clause-there : goal.follow_argument-requires-2-clause-there
follow_argument-requires-2-clause-there c =
    let t = args_there (args_of c.self.inside.args c.args.home.node c.args.home.region c.self.inside.nodes) c.in-Some.count c.in-Some.ensures in
    omega (arith, argument_in c.self.inside.args c.self.inside.nodes c.args.home t.0 c.args.index t.1 (has_kind c.self.inside.args c.self.inside.nodes c.self.inside.inputs c.self.inside.results c.args.self.now (shown c.self.inside c.args.self.now c.self.invariant c.self.view_is) c.args.home (Arg c.args.index) c.requires.there), t.2)

pub follow_argument-requires-2-clause-named : goal.follow_argument-requires-2-clause-named
follow_argument-requires-2-clause-named c = λ q lt.
    let t = args_there (args_of c.self.inside.args c.args.home.node c.args.home.region c.self.inside.nodes) c.in-Some.count c.in-Some.ensures in
    c.self.invariant.indexed.named_results c.args.home (Arg q) (argument_kind c.self.inside.args c.self.inside.nodes c.args.home t.0 q t.1 (omega (arith, lt, t.2)))

pub remove_argument-requires-clause-region : goal.remove_argument-requires-clause-region
remove_argument-requires-clause-region c =
    let t = args_there (args_of c.self.inside.args c.args.home.node c.args.home.region c.self.inside.nodes) c.in-Some.count c.in-Some.ensures in
    get_within _ _ _ (region_of_slot c.self.inside.args c.self.inside.nodes c.args.node c.args.home.region c.in-Some-slot_of.at t.0 c.in-Some-slot_of.ensures.slot (ap (λ o. args_of c.self.inside.args o c.args.home.region c.self.inside.nodes) (sym c.requires.node) ∙ t.1))

pub remove_argument-requires-clause-there : goal.remove_argument-requires-clause-there
remove_argument-requires-clause-there c = λ ks e.
    let t = args_there (args_of c.self.inside.args c.args.home.node c.args.home.region c.self.inside.nodes) c.in-Some.count c.in-Some.ensures in
    let f = region_of_slot c.self.inside.args c.self.inside.nodes c.args.node c.args.home.region c.in-Some-slot_of.at t.0 c.in-Some-slot_of.ensures.slot (ap (λ o. args_of c.self.inside.args o c.args.home.region c.self.inside.nodes) (sym c.requires.node) ∙ t.1) in
    let q : t.0 ≡ ks = same_Some t.0 ks (sym f ∙ e) in
    omega (arith, argument_in c.self.inside.args c.self.inside.nodes c.args.home t.0 c.args.index t.1 (has_kind c.self.inside.args c.self.inside.nodes c.self.inside.inputs c.self.inside.results c.args.self.now (shown c.self.inside c.args.self.now c.self.invariant c.self.view_is) c.args.home (Arg c.args.index) c.requires.there), ap (λ (is : List Kind). length is) q)

pub invariant_of-self : goal.invariant_of-self
invariant_of-self c =
    record {
      indexed =
          (let P : PlainUses → Type 0 = λ u. AreIndexed c.self.inside.args c.remove_argument.new.self u c.follow_argument-2.new.self in
          let Q : PlainUses → Type 0 = λ u. AreIndexed c.self.inside.args c.remove_argument.new.self (record c.self.inside.inputs { lists = all_renamed c.args.home (argument_less c.args.index c.in-Some.count) c.self.inside.inputs.lists }) u in
          let R : List PlainSlot → Type 0 = λ ss. AreIndexed c.self.inside.args ss (record c.self.inside.inputs { lists = all_renamed c.args.home (argument_less c.args.index c.in-Some.count) c.self.inside.inputs.lists })
          (record c.self.inside.results { lists = all_renamed c.args.home (argument_less c.args.index c.in-Some.count) c.self.inside.results.lists }) in
          subst P (sym c.follow_argument.ensures) (subst Q (sym c.follow_argument-2.ensures) (subst R (sym c.remove_argument.ensures)
          (node_indexed c.self.inside.args c.self.inside.nodes c.self.inside.inputs c.self.inside.results c.args.self.now (shown c.self.inside c.args.self.now c.self.invariant c.self.view_is) c.args.node c.args.home.region c.in-Some-slot_of.at c.in-Some-slot_of.ensures.slot c.args.index c.args.home (argument_less c.args.index c.in-Some.count)))));
      gone = (let P : List PlainSlot → Type 0 = λ ss. AreGone ss in subst P (sym c.remove_argument.ensures) (gone_kept c.self.inside.nodes c.in-Some-slot_of.at (argument_gone c.args.home.region c.args.index (slot_at c.self.inside.nodes c.in-Some-slot_of.at)) refl c.self.invariant.gone));
    }

pub returns : goal.returns
returns c =
    let t = args_there (args_of c.self.inside.args c.args.home.node c.args.home.region c.self.inside.nodes) c.in-Some.count c.in-Some.ensures in
    let home : c.args.home ≡ record { node = Some c.args.node; region = c.args.home.region } = λ i. record { node = c.requires.node i; region = c.args.home.region } in
    (λ i. arena_seen (record c.self.inside { nodes = c.remove_argument.ensures i; inputs = c.follow_argument.ensures i; results = c.follow_argument-2.ensures i }))
    ∙ (λ i. arena_seen (record c.self.inside {
      nodes = set c.self.inside.nodes c.in-Some-slot_of.at (argument_gone c.args.home.region c.args.index (slot_at c.self.inside.nodes c.in-Some-slot_of.at));
      inputs = record c.self.inside.inputs { lists = all_renamed (home i) (argument_less c.args.index (t.2 i)) c.self.inside.inputs.lists };
      results = record c.self.inside.results { lists = all_renamed (home i) (argument_less c.args.index (t.2 i)) c.self.inside.results.lists };
    }))
    ∙ node_goes c.self.inside.args c.self.inside.nodes c.self.inside.inputs c.self.inside.results (arena_seen c.self.inside) (shown c.self.inside (arena_seen c.self.inside) c.self.invariant refl) c.args.node c.args.home.region c.in-Some-slot_of.at c.in-Some-slot_of.ensures.slot c.args.index (argument_less c.args.index (length t.0))
    ∙ ap (λ (p : Place). uses_with p (argument_less c.args.index (length t.0)) (region_with p (argument_edited c.args.index) (arena_seen c.self.inside))) (sym home)
    ∙ removed_is c.self.inside.args c.self.inside.nodes c.self.inside.inputs c.self.inside.results (arena_seen c.self.inside) (shown c.self.inside (arena_seen c.self.inside) c.self.invariant refl) c.args.home c.args.index t.0 t.1
    ∙ ap (argument_removed c.args.home c.args.index) c.self.view_is
