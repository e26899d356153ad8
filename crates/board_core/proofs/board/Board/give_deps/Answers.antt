use Rattle.std.proofs.Common.{◌≡◌, ◌<◌, ◌++◌, ℕ, List, [], Option, length, map, Vec, Global, slice_index, slice_index_or, refl, ap, sym, subst, ◌∙◌, arith}
use Rattle.std.specs.Prelude.{OnOk, option_map, None}
use Rattle.std.specs.Arc.{arc_value}
use Rattle.std.specs.declared.sync.Arc.{Arc}
use Rattle.std.specs.List.{filter_map}
use Rattle.std.proofs.lemmas.Result.{on_ok_weaker}
use Rattle.std.proofs.lemmas.List.{length-map}
use Rattle.std.proofs.lemmas.List.Elements.{Contains-get_or}
use Rattle.board_core.specs.Board.{results, deps_of}
use Rattle.board_core.specs.History.{History, program_of, state_of, dep_lists}
use Rattle.board_core.proofs.JobStateLemmas.{row-is}
use Rattle.board_core.proofs.lemmas.Kept.{made-length, given}
use Rattle.board_core.proofs.board.Board.give_deps.Goals as goal

pub add_results-requires : goal.add_results-requires
add_results-requires g c =
    let inside = λ (h : History g.row.W.Denot). c.args.job < length h.deps in
    let deps = c.self.inside.deps.items in
    let low = subst inside (sym c.self.view_is) c.requires.inside in
    let row = c.as_slice.result.now in
    let same : slice_index_or (dep_lists deps) c.args.job [] ≡ row = row-is deps c.args.job c.index.result.now (omega (arith, low, length-map deps (λ (x : Vec ℕ Global). x.items))) c.index.ensures
    ∙ sym c.as_slice.ensures.value in
    let within : List ℕ → Type 0 = λ x. (e : ℕ) → e < length x → slice_index x e < length deps in
    let found = λ (xs : List (Option (Arc g.row.W-Made.Denot Global))). length xs in
    record {
      known = λ e h.
          let known = subst within same
          (λ e i. let it = c.self.invariant.1.ranked.known c.args.job _ (Contains-get_or (slice_index_or (dep_lists deps) c.args.job []) e 0 i) in omega
          (arith, it, length-map deps (λ (x : Vec ℕ Global). x.items))) e h in
          omega (
            arith,
            known,
            ap found c.as_slice-2.ensures.value,
            made-length _ c.self.inside.events.items _ _ _ _ _ c.self.invariant.1,
            length-map c.self.inside.results.items (option_map (arc_value {X = g.row.W-Made.Denot} {Z = Global})),
            length-map deps (λ (x : Vec ℕ Global). x.items),
          );
    }

pub returns-clause-ok : goal.returns-clause-ok
returns-clause-ok g c =
    let inside = λ (h : History g.row.W.Denot). c.args.job < length h.deps in
    let deps = c.self.inside.deps.items in
    let low = subst inside (sym c.self.view_is) c.requires.inside in
    let row = c.as_slice.result.now in
    let same : slice_index_or (dep_lists deps) c.args.job [] ≡ row = row-is deps c.args.job c.index.result.now (omega (arith, low, length-map deps (λ (x : Vec ℕ Global). x.items))) c.index.ensures
    ∙ sym c.as_slice.ensures.value in
    let value = arc_value {X = g.row.W-Made.Denot} {Z = Global} in
    let kept = given _ c.self.inside.events.items _ _ _ _ _ c.self.invariant.1 value c.self.inside.results.items refl (slice_index_or (dep_lists deps) c.args.job []) in
    let read = λ (xs : List (Option (Arc g.row.W-Made.Denot Global))) (ds : List ℕ). filter_map (λ d. option_map value (slice_index_or xs d None)) ds in
    let made = ap (λ xs. read xs row) c.as_slice-2.ensures.value ∙ (ap (read c.self.inside.results.items) (sym same) ∙ kept) in
    let known = λ (h : History g.row.W.Denot). OnOk c.add_results.result
    (map value c.add_results.new.out.items ≡ map value c.args.out.now.items ++ results (state_of g.W.Work.made h) (deps_of (program_of g.W.Work.made h) c.args.job)) in
    subst known c.self.view_is
    (on_ok_weaker c.add_results.result (λ e. e ∙ ap (λ xs. map value c.args.out.now.items ++ xs) made) c.add_results.ensures.ok)
