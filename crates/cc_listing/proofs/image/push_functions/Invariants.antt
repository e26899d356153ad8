-- With the functions that are left, all functions are listed.
use Rattle.std.proofs.Common.{◌≡◌, ◌++◌, ◌+◌, ◌*◌, ◌≤◌, drop, length, map, sum_by}
use Rattle.std.specs.Arc.{arc_value}
use Rattle.s_linear.specs.declared.frame.CodeForm.TheVariants.{Plain}
use Rattle.cc_emit.specs.Image.{code_size, lambdas_of}
use Rattle.cc_listing.specs.Lines.{functions_text}
use Rattle.cc_listing.proofs.image.push_functions.Given as goal

-- with what is left, all of them
abbrev pub invariant-loop-number : goal.invariant-loop-number
invariant-loop-number l = record {
  text :
      l.out.items ++ functions_text l.names l.number l.here (lambdas_of (map arc_value (drop l.number l.answers))) l.rest
      ≡ l.fn.out.items ++ functions_text l.names 0 l.at (lambdas_of (map arc_value l.answers)) l.words;
  whole : sum_by (code_size Plain) (lambdas_of (map arc_value (drop l.number l.answers))) ≤ 4 * length l.rest;
  end : l.here + 4 * length l.rest ≡ l.at + 4 * length l.words;
}
