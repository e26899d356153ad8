-- The memory of the globals is in the image of a program, apart from its stack.
use Rattle.std.proofs.Common.{◌+◌, map, arith}
use Rattle.g_mean.specs.Calls.{global_of}
use Rattle.rv_layout.specs.Layout.{fixed_address, data_address}
use Rattle.s_select_keeps.specs.LaidFunctions.{function_items}
use Rattle.s_select_keeps.specs.Globals.{GlobalsAreShown, GlobalsHaveBlocks}
use Rattle.s_select_keeps.proofs.Loaded.{other_end}
use Rattle.s_select_keeps.proofs.Blocks.{has_global, no_address, length_blocks, stack_is_outside, buffer_is_outside, global_address}
use Rattle.s_select_keeps.proofs.GlobalValues.{globals_show_memory}

pub globals_are_shown : GlobalsAreShown
globals_are_shown places fs ds main can sound globals = globals_show_memory (map (function_items places) fs) ds main can sound globals

pub globals_have_blocks : GlobalsHaveBlocks
globals_have_blocks places fs ds main can sound = record {
  fresh = λ n past.
      let blocks = length_blocks (global_of ds) ds in
      no_address (fixed_address (map (function_items places) fs)) (data_address (map (function_items places) fs) ds + 8) ds n (omega (arith, blocks, past));
  free = λ a from to. stack_is_outside (map (function_items places) fs) ds main can sound a from;
  globals = λ k below.
      global_address (map (function_items places) fs) ds main can sound k (has_global (fixed_address (map (function_items places) fs)) (data_address (map (function_items places) fs) ds + 8) ds k below);
  below = let end = other_end (map (function_items places) fs) ds main can sound in omega (arith, end);
  outside = buffer_is_outside (map (function_items places) fs) ds main can sound;
}
