-- What names a later argument follows, and the arguments of the body are one less.
use Rattle.std.proofs.Common.{◌≡◌, None, Some, List, length, refl, subst, sym, ap, ◌∙◌, arith}
use Rattle.std.specs.List.{remove}
use Rattle.g_graph.specs.declared.op.Kind.{Kind}
use Rattle.g_graph.specs.declared.op.Origin.TheVariants.{Arg}
use Rattle.g_arena_def.specs.declared.place.Place.{Place}
use Rattle.g_arena_def.specs.Edits.{argument_less, argument_removed, uses_with, region_with}
use Rattle.g_arena_use.specs.Lists.{PlainUses, all_renamed}
use Rattle.g_arena_use.specs.Plain.{args_of}
use Rattle.g_arena_use.specs.Indexed.{AreIndexed}
use Rattle.g_arena_use.proofs.ReadLemmas.{has_kind}
use Rattle.g_arena_use.proofs.ArgumentLemmas.{args_there, no_args, argument_kind, argument_in, no_argument, body_of, argument_edited, removed_is, body_goes, body_indexed}
use Rattle.g_arena.specs.Seen.{arena_seen}
use Rattle.g_arena.proofs.ShownLemmas.{shown}
use Rattle.g_arena.proofs.arena.Arena.remove_body_argument.Goals as goal

pub returns-in_default : goal.returns-in_default
returns-in_default c = absurd (no_argument c.self.inside.args c.self.inside.nodes c.args.home c.args.index (no_args (args_of c.self.inside.args c.args.home.node c.args.home.region c.self.inside.nodes) c.in_default.ensures) (has_kind c.self.inside.args c.self.inside.nodes c.self.inside.inputs c.self.inside.results c.args.self.now (shown c.self.inside c.args.self.now c.self.invariant c.self.view_is) c.args.home (Arg c.args.index) c.requires.there))

pub follow_argument-requires-clause-there : goal.follow_argument-requires-clause-there
follow_argument-requires-clause-there c =
    let t = args_there (args_of c.self.inside.args c.args.home.node c.args.home.region c.self.inside.nodes) c.in-Some.count c.in-Some.ensures in
    omega (arith, argument_in c.self.inside.args c.self.inside.nodes c.args.home t.0 c.args.index t.1 (has_kind c.self.inside.args c.self.inside.nodes c.self.inside.inputs c.self.inside.results c.args.self.now (shown c.self.inside c.args.self.now c.self.invariant c.self.view_is) c.args.home (Arg c.args.index) c.requires.there), t.2)

pub follow_argument-requires-clause-named : goal.follow_argument-requires-clause-named
follow_argument-requires-clause-named c = λ q lt.
    let t = args_there (args_of c.self.inside.args c.args.home.node c.args.home.region c.self.inside.nodes) c.in-Some.count c.in-Some.ensures in
    c.self.invariant.indexed.named_inputs c.args.home (Arg q) (argument_kind c.self.inside.args c.self.inside.nodes c.args.home t.0 q t.1 (omega (arith, lt, t.2)))

pub follow_argument-requires-2-clause-there : goal.follow_argument-requires-2-clause-there
follow_argument-requires-2-clause-there c =
    let t = args_there (args_of c.self.inside.args c.args.home.node c.args.home.region c.self.inside.nodes) c.in-Some.count c.in-Some.ensures in
    omega (arith, argument_in c.self.inside.args c.self.inside.nodes c.args.home t.0 c.args.index t.1 (has_kind c.self.inside.args c.self.inside.nodes c.self.inside.inputs c.self.inside.results c.args.self.now (shown c.self.inside c.args.self.now c.self.invariant c.self.view_is) c.args.home (Arg c.args.index) c.requires.there), t.2)

pub follow_argument-requires-2-clause-named : goal.follow_argument-requires-2-clause-named
follow_argument-requires-2-clause-named c = λ q lt.
    let t = args_there (args_of c.self.inside.args c.args.home.node c.args.home.region c.self.inside.nodes) c.in-Some.count c.in-Some.ensures in
    c.self.invariant.indexed.named_results c.args.home (Arg q) (argument_kind c.self.inside.args c.self.inside.nodes c.args.home t.0 q t.1 (omega (arith, lt, t.2)))

pub remove-requires : goal.remove-requires
remove-requires c =
    let t = args_there (args_of c.self.inside.args c.args.home.node c.args.home.region c.self.inside.nodes) c.in-Some.count c.in-Some.ensures in
    let b = body_of c.self.inside.args c.self.inside.nodes c.args.home.region t.0 (ap (λ o. args_of c.self.inside.args o c.args.home.region c.self.inside.nodes) (sym c.requires.body) ∙ t.1) in
    omega (arith, argument_in c.self.inside.args c.self.inside.nodes c.args.home t.0 c.args.index t.1 (has_kind c.self.inside.args c.self.inside.nodes c.self.inside.inputs c.self.inside.results c.args.self.now (shown c.self.inside c.args.self.now c.self.invariant c.self.view_is) c.args.home (Arg c.args.index) c.requires.there), ap (λ (ks : List Kind). length ks) b.1)

pub invariant_of-self : goal.invariant_of-self
invariant_of-self c =
    record {
      indexed =
          (let P : PlainUses → Type 0 = λ u. AreIndexed c.remove.new.self c.self.inside.nodes u c.follow_argument-2.new.self in
          let Q : PlainUses → Type 0 = λ u. AreIndexed c.remove.new.self c.self.inside.nodes (record c.self.inside.inputs { lists = all_renamed c.args.home (argument_less c.args.index c.in-Some.count) c.self.inside.inputs.lists }) u in
          let R : List Kind → Type 0 = λ ks. AreIndexed ks c.self.inside.nodes (record c.self.inside.inputs { lists = all_renamed c.args.home (argument_less c.args.index c.in-Some.count) c.self.inside.inputs.lists })
          (record c.self.inside.results { lists = all_renamed c.args.home (argument_less c.args.index c.in-Some.count) c.self.inside.results.lists }) in
          subst P (sym c.follow_argument.ensures) (subst Q (sym c.follow_argument-2.ensures) (subst R (sym c.remove.ensures)
          (body_indexed c.self.inside.args c.self.inside.nodes c.self.inside.inputs c.self.inside.results c.args.self.now (shown c.self.inside c.args.self.now c.self.invariant c.self.view_is) c.args.index c.args.home (argument_less c.args.index c.in-Some.count)))));
      gone = c.self.invariant.gone;
    }

pub returns : goal.returns
returns c =
    let t = args_there (args_of c.self.inside.args c.args.home.node c.args.home.region c.self.inside.nodes) c.in-Some.count c.in-Some.ensures in
    let b = body_of c.self.inside.args c.self.inside.nodes c.args.home.region t.0 (ap (λ o. args_of c.self.inside.args o c.args.home.region c.self.inside.nodes) (sym c.requires.body) ∙ t.1) in
    let home : c.args.home ≡ record { node = None; region = 0 } = λ i. record { node = c.requires.body i; region = b.0 i } in
    let there : args_of c.self.inside.args c.args.home.node c.args.home.region c.self.inside.nodes ≡ Some t.0 = t.1 in
    (λ i. arena_seen (record c.self.inside { args = c.remove.ensures i; inputs = c.follow_argument.ensures i; results = c.follow_argument-2.ensures i }))
    ∙ (λ i. arena_seen (record c.self.inside {
      args = remove c.self.inside.args c.args.index;
      inputs = record c.self.inside.inputs { lists = all_renamed (home i) (argument_less c.args.index (t.2 i)) c.self.inside.inputs.lists };
      results = record c.self.inside.results { lists = all_renamed (home i) (argument_less c.args.index (t.2 i)) c.self.inside.results.lists };
    }))
    ∙ body_goes c.self.inside.args c.self.inside.nodes c.self.inside.inputs c.self.inside.results (arena_seen c.self.inside) (shown c.self.inside (arena_seen c.self.inside) c.self.invariant refl) c.args.index (argument_less c.args.index (length t.0))
    ∙ ap (λ (p : Place). uses_with p (argument_less c.args.index (length t.0)) (region_with p (argument_edited c.args.index) (arena_seen c.self.inside))) (sym home)
    ∙ removed_is c.self.inside.args c.self.inside.nodes c.self.inside.inputs c.self.inside.results (arena_seen c.self.inside) (shown c.self.inside (arena_seen c.self.inside) c.self.invariant refl) c.args.home c.args.index t.0 there
    ∙ ap (argument_removed c.args.home c.args.index) c.self.view_is
