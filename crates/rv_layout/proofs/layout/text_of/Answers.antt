use Rattle.std.proofs.Common.{◌≡◌, ◌++◌, ◌∙◌, ap, sym, slice_index}
use Rattle.rv_layout.specs.Sequences.{start_code, put_stub, get_stub, bytes_of}
use Rattle.rv_layout.specs.Layout.{Addresses, item_lists, functions_at, functions_code}
use Rattle.rv_layout.proofs.lemmas.Items.{bytes_of-append}
use Rattle.rv_layout.proofs.layout.text_of.Goals as goal

pub returns : goal.returns
returns c =
    let a = c.args.addresses.now in
    let later = functions_code a functions_at (item_lists c.args.functions.now) in
    let main : c.address_of.result ≡ slice_index a.functions c.args.main =
    c.address_of.ensures
    ∙ ap (λ xs. slice_index xs c.args.main) (c.deref.ensures.value ∙ ap (λ (x : Addresses). x.functions) c.addresses.view_is)
    in
    c.in_ok-push_functions.ensures
    ∙ ap (λ t. t ++ bytes_of later)
    (c.in_ok-push_code.ensures
    ∙ ap (λ t. t ++ bytes_of c.deref-2.result.now) c.in_ok-text.ensures.items
    ∙ ap bytes_of (c.deref-2.ensures.value ∙ c.in_ok-start.ensures ∙ ap (λ m. start_code a.stack_at m ++ put_stub a.data_at ++ get_stub a.data_at) main))
    ∙ sym (bytes_of-append (start_code a.stack_at (slice_index a.functions c.args.main) ++ put_stub a.data_at ++ get_stub a.data_at) later)
