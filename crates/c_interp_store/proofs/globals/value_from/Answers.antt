use Rattle.std.proofs.Common.{suc, drop, sym, ap, ◌∙◌, subst}
use Rattle.std.specs.Prelude.{List}
use Rattle.c_typed.specs.Typed.{WrittenTree}
use Rattle.c_typed.specs.WellTyped.{WrittenFits}
use Rattle.c_mean.specs.Run.{leaf_value}
use Rattle.c_interp_store.specs.Starts.{globals_in, are_written, first_is_past}
use Rattle.c_interp_store.proofs.Written.{first_drop, drop_past, fits_drop}
use Rattle.c_interp_store.proofs.globals.value_from.Goals as goal

pub returns-in-Some : goal.returns-in-Some
returns-in-Some c =
    let xs = c.args.written.now in
    let i = c.args.from in
    let o = c.args.offset in
    let l = c.in-Some.ensures.lookup in
    let e = first_drop xs i c.in-Some.w.now l.3.0 l.1 in
    let f = fits_drop (are_written xs) i c.requires.fit in
    c.value_at.ensures f.leaves f.globals f.from (drop (suc i) (are_written xs)) (sym (ap (first_is_past o) e) ∙ c.requires.next)
    (subst (λ (ws : List WrittenTree). WrittenFits f.leaves f.globals f.from ws) e f.fits)
    ∙ ap (leaf_value (globals_in c.args.layouts.now) o) (sym e)

pub returns-in-None : goal.returns-in-None
returns-in-None c = ap (leaf_value (globals_in c.args.layouts.now) c.args.offset) (sym (drop_past c.args.written.now c.args.from c.in-None.ensures.lookup.3))
