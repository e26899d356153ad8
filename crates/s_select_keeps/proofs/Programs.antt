-- A program that is laid out stands in memory.
use Rattle.std.proofs.Common.{◌≡◌, ℕ, ◌+◌, ◌*◌, ◌^◌, ◌<◌, List, ◌++◌, length, slice_index, refl, sym, subst, lit<}
use Rattle.elf_file.specs.Image.{text_at}
use Rattle.elf_file.specs.Laws.{executable_for, text_segment}
use Rattle.elf_file.specs.Segments.{AreSound}
use Rattle.g_graph.specs.Plain.{PlainDelta}
use Rattle.rv_machine.specs.Standing.{Text, CodeStands, AllFit}
use Rattle.rv_machine.proofs.lemmas.Codes.{segment_code_stands}
use Rattle.rv_machine.proofs.lemmas.Standing.{code_is_cut}
use Rattle.rv_layout.specs.declared.item.Item.{Item}
use Rattle.rv_layout.specs.Layout as layout
use Rattle.rv_layout.specs.Layout.{get_at, functions_at, functions_code, text_of, addresses_of, laid_out}
use Rattle.rv_layout.specs.Sequences.{start_code, put_stub, get_stub, bytes_of}
use Rattle.s_select_keeps.specs.Programs.{text_loaded, LaidProgramStands}
use Rattle.s_select_keeps.proofs.Items.{functions_stand}
use Rattle.s_select_keeps.proofs.TextFormats.{text_fits}

-- where the code that every program has ends
start-ends : (text : Text) (stack main m : ℕ) → CodeStands text text_at (start_code stack main) m → m ≡ layout.put_at
start-ends text stack main m h = sym h.1.1.1.1.1.1.1.1

put-ends : (text : Text) (buffer m : ℕ) → CodeStands text layout.put_at (put_stub buffer) m → m ≡ get_at
put-ends text buffer m h = sym h.1.1.1.1.1.1.1.1.1

get-ends : (text : Text) (buffer m : ℕ) → CodeStands text get_at (get_stub buffer) m → m ≡ functions_at
get-ends text buffer m h = sym h.1.1.1.1.1.1.1.1.1.1.1.1

-- the text of an image is in memory
text-stands : (fs : List (List Item)) (ds : List PlainDelta) (main : ℕ) → AreSound (executable_for (laid_out fs ds main)).segments
    → AllFit (text_of (addresses_of fs ds) fs main)
    → CodeStands (text_loaded fs ds main) text_at (text_of (addresses_of fs ds) fs main) (text_at + 4 * length (text_of (addresses_of fs ds) fs main))
unfolding executable_for bytes_of
text-stands fs ds main sound fit =
    segment_code_stands (executable_for (laid_out fs ds main)).segments 0 (text_segment (laid_out fs ds main)) (text_of (addresses_of fs ds) fs main) sound refl refl
    refl refl refl fit

pub laid_program_stands : LaidProgramStands
laid_program_stands fs ds main can fit sound =
    let a = addresses_of fs ds in
    let text = text_loaded fs ds main in
    let start = start_code a.stack_at (slice_index a.functions main) in
    let put = put_stub a.data_at in
    let get = get_stub a.data_at in
    let functions = functions_code a functions_at fs in
    let code = text_of a fs main in
    let end = text_at + 4 * length code in
    let all = text-stands fs ds main sound (text_fits fs ds main can fit) in
    let most = code_is_cut text text_at end (start ++ put ++ get) functions all in
    let some = code_is_cut text text_at most.0 (start ++ put) get most.1 in
    let first = code_is_cut text text_at some.0 start put some.1 in
    let at-put = start-ends text a.stack_at (slice_index a.functions main) first.0 first.1 in
    let puts = subst (λ m. CodeStands text m put some.0) at-put first.2 in
    let at-get = put-ends text a.data_at some.0 puts in
    let gets = subst (λ m. CodeStands text m get most.0) at-get some.2 in
    let at-functions = get-ends text a.data_at most.0 gets in
    record {
      start = subst (λ m. CodeStands text text_at start m) at-put first.1;
      stubs = record {
        put_end = some.0;
        put = puts;
        put_low = subst (λ m. m < 2 ^ 32) (sym at-get) (lit< tt);
        get_end = most.0;
        get = gets;
        get_low = subst (λ m. m < 2 ^ 32) (sym at-functions) (lit< tt);
      };
      functions = functions_stand text a functions_at end fs (subst (λ m. CodeStands text m functions end) at-functions most.2);
    }
