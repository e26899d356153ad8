-- What lines, places and a frame must meet so that items can be selected.
use Rattle.std.specs.Prelude.{◌≡◌, ◌≤◌, ℕ, nat_le, Bool, true, ◌&&◌, IsTrue, List, length, slice_get, slice_index, is_some}
use Rattle.g_graph.specs.Plain.{PlainObject}
use Rattle.g_graph.specs.WellFormed.{all_of}
use Rattle.s_linear.specs.Frame.{PlainPlaces, counted_for, frame_size, objects_at}
use Rattle.s_linear.specs.Linear.{Instr, call}
use Rattle.s_linear.specs.Lines.{Line, enter, does, line_names}
use Rattle.s_linear.specs.Operands.{has_its_object, has_its_width}
use Rattle.s_linear.specs.declared.frame.Frame.{Frame}

-- a name has a place, for which there are saved registers and words enough
abbrev pub has_place : PlainPlaces → (name : ℕ) → Bool
has_place p x = is_some (slice_get p.of x) && nat_le (counted_for p.temporaries (slice_index p.of x)) p.count

abbrev pub names_have_places : PlainPlaces → Line → Bool
names_have_places p line = all_of (has_place p) (line_names line)

-- at most 8 arguments, which are in registers
abbrev pub has_few_arguments : Instr → Bool
has_few_arguments (call f t arguments) = nat_le (length arguments) 8
has_few_arguments _ = true

-- and at most 8 parameters
abbrev pub has_few_params : Line → Bool
has_few_params (enter params) = nat_le (length params) 8
has_few_params _ = true

-- the frame is that of the places and objects
pub record IsFrameOf (frame : Frame) (places : PlainPlaces) (objects : List PlainObject) : Type 0 where
  pub size : frame.size ≡ frame_size places.count objects
  pub objects_at : frame.objects_at ≡ objects_at places.count

-- at most four places are registers that a call loses
pub record CanSelect (lines : List Line) (places : PlainPlaces) (frame : Frame) (objects : List PlainObject) : Type 0 where
  pub few : places.temporaries ≤ 4
  pub placed : IsTrue (all_of (names_have_places places) lines)
  pub named : IsTrue (all_of (does (has_its_object (length objects))) lines)
  pub framed : IsFrameOf frame places objects
  pub params : IsTrue (all_of has_few_params lines)
  pub arguments : IsTrue (all_of (does has_few_arguments) lines)
  pub widths : IsTrue (all_of (does has_its_width) lines)
