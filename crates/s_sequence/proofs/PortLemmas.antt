-- Ports of kinds, by their indices.
use Rattle.std.proofs.Common.{◌≡◌, ℕ, zero, suc, ◌+◌, List, [], ◌∷◌, ◌++◌, take, refl, sym, ap, ◌∙◌, arith, append_assoc, append-nil, add-zero}
use Rattle.std.specs.Prelude.{slice_get}
use Rattle.std.specs.declared.option.Option.{Option}
use Rattle.std.specs.declared.option.Option.TheVariants.{Some, None}
use Rattle.g_graph.specs.declared.op.Kind.{Kind}
use Rattle.g_graph.specs.declared.op.Kind.TheVariants.{Value, Memory, Io}
use Rattle.g_graph.specs.Signatures.{joined}
use Rattle.s_sequence.specs.declared.ports.Port.{Port}
use Rattle.s_sequence.specs.Sequence.{values_in}
use Rattle.s_sequence.specs.Ports.{PlainPorts, name_after, no_ports, port_added, ports_added, ports_from, found_at, port_at}

added_first : (p : PlainPorts) (ks : List (Option Kind)) → (ports_added p ks).first ≡ p.first
added_first p [] = refl
added_first p (k ∷ ks) = added_first (port_added p k) ks

one_value : (k : Option Kind) (ks : List (Option Kind)) (n : ℕ) → name_after k n + values_in ks ≡ n + values_in (k ∷ ks)
one_value None ks n = refl
one_value (Some Value) ks n = omega arith
one_value (Some Memory) ks n = refl
one_value (Some Io) ks n = refl

added_end : (p : PlainPorts) (ks : List (Option Kind)) → (ports_added p ks).end ≡ p.end + values_in ks
added_end p [] = omega arith
added_end p (k ∷ ks) = added_end (port_added p k) ks ∙ one_value k ks p.end

pub ports_first : (p : PlainPorts) (first : ℕ) (ks : List (Option Kind)) → p ≡ ports_from first ks → p.first ≡ first
ports_first p first ks e = ap (λ (q : PlainPorts). q.first) e ∙ added_first (no_ports first) ks

pub ports_end : (p : PlainPorts) (first : ℕ) (ks : List (Option Kind)) → p ≡ ports_from first ks → p.end ≡ first + values_in ks
ports_end p first ks e = ap (λ (q : PlainPorts). q.end) e ∙ added_end (no_ports first) ks

-- the list of ports, where the names begin at `n`
abbrev listed : ℕ → List (Option Kind) → List Port
listed n [] = []
listed n (k ∷ ks) = record { name = n; kind = k } ∷ listed (name_after k n) ks

added_list : (p : PlainPorts) (ks : List (Option Kind)) → (ports_added p ks).list ≡ p.list ++ listed p.end ks
added_list p [] = sym (append-nil p.list)
added_list p (k ∷ ks) = added_list (port_added p k) ks ∙ append_assoc p.list (record { name = p.end; kind = k } ∷ []) (listed (name_after k p.end) ks)

listed_at : (n : ℕ) (ks : List (Option Kind)) (p : ℕ) →
    found_at (slice_get (listed n ks) p) (n + values_in ks) ≡ record { name = n + values_in (take p ks); kind = joined (slice_get ks p) }
listed_at n [] zero = refl
listed_at n [] (suc p) = refl
listed_at n (k ∷ ks) zero = ap (λ m. record { name = m; kind = k }) (sym (add-zero n))
listed_at n (k ∷ ks) (suc p) =
    ap (found_at (slice_get (listed (name_after k n) ks) p)) (sym (one_value k ks n)) ∙ listed_at (name_after k n) ks p
    ∙ ap (λ m. record { name = m; kind = joined (slice_get ks p) }) (one_value k (take p ks) n)

pub port_of_kinds : (first : ℕ) (ks : List (Option Kind)) (p : ℕ) →
    port_at (ports_from first ks) p ≡ record { name = first + values_in (take p ks); kind = joined (slice_get ks p) }
port_of_kinds first ks p =
    ap (λ ls. found_at (slice_get ls p) (ports_from first ks).end) (added_list (no_ports first) ks)
    ∙ ap (found_at (slice_get (listed first ks) p)) (added_end (no_ports first) ks) ∙ listed_at first ks p
