-- How the logic stores a program, and what the written parts of its globals stand for.
use Rattle.std.proofs.Common.{◌≡◌, ℕ, List, refl, ap}
use Rattle.std.specs.Prelude.{Bool}
use Rattle.std.specs.Coded.{Coded, code_by, coded×, coded_ℕ, coded_bool, coded_list}
use base.Stored.{Gv, gcons}
use Rattle.c_type.specs.Trees.{TypeTree}
use Rattle.c_type.specs.TreeEncoding.{coded_tree}
use Rattle.c_type.specs.Layout.{Definitions}
use Rattle.c_type.specs.DefinitionEncoding.{coded_definitions}
use Rattle.c_typed.specs.Typed.{ItemTrees, VariableTree, FunctionTree, WrittenTree, word_at, link_at, characters_at, GlobalTree, ProgramTree}
use Rattle.c_typed.specs.ExprEncoding.{head, tail, bit_0, bit_1}
use Rattle.c_typed.specs.StmtEncoding.{coded_items}
use Rattle.c_typed.specs.declared.program.Written.{Written}
use Rattle.c_typed.specs.declared.program.Written.TheVariants as form

abbrev pub coded_variable : Coded VariableTree
coded_variable = code_by (TypeTree × Bool) (coded× coded_tree coded_bool) (λ v. (v.type, v.is_object)) (λ p. record { type = p.0; is_object = p.1 }) (λ _. refl)

abbrev pub coded_function : Coded FunctionTree
coded_function =
    code_by (List ℕ × (ℕ × (ℕ × (ℕ × (TypeTree × (ℕ × (List VariableTree × ItemTrees)))))))
    (coded× (coded_list coded_ℕ) (coded× coded_ℕ (coded× coded_ℕ (coded× coded_ℕ (coded× coded_tree (coded× coded_ℕ (coded× (coded_list coded_variable) coded_items)))))))
    (λ f. (f.name, (f.at, (f.starts, (f.ends, (f.result, (f.params, (f.variables, f.body))))))))
    (λ p. record {
      name = p.0;
      at = p.1.0;
      starts = p.1.1.0;
      ends = p.1.1.1.0;
      result = p.1.1.1.1.0;
      params = p.1.1.1.1.1.0;
      variables = p.1.1.1.1.1.1.0;
      body = p.1.1.1.1.1.1.1;
    })
    (λ _. refl)

abbrev pub written_code : WrittenTree → Gv
written_code (word_at o w v) = bit_0 (gcons (coded_ℕ.code o) (gcons (coded_ℕ.code w) (coded_ℕ.code v)))
written_code (link_at o n) = bit_1 (bit_0 (gcons (coded_ℕ.code o) (coded_ℕ.code n)))
written_code (characters_at o cs) = bit_1 (bit_1 (gcons (coded_ℕ.code o) ((coded_list coded_ℕ).code cs)))

pub written_inj : (x y : WrittenTree) → written_code x ≡ written_code y → x ≡ y
written_inj (word_at o w v) (word_at o' w' v') p =
    λ i. word_at (coded_ℕ.inj o o' (ap (λ g. head (tail g)) p) i) (coded_ℕ.inj w w' (ap (λ g. head (tail (tail g))) p) i) (coded_ℕ.inj v v' (ap (λ g. tail (tail (tail g))) p) i)
written_inj (link_at o n) (link_at o' n') p =
    λ i. link_at (coded_ℕ.inj o o' (ap (λ g. head (tail (tail g))) p) i) (coded_ℕ.inj n n' (ap (λ g. tail (tail (tail g))) p) i)
written_inj (characters_at o cs) (characters_at o' cs') p =
    λ i. characters_at (coded_ℕ.inj o o' (ap (λ g. head (tail (tail g))) p) i) ((coded_list coded_ℕ).inj cs cs' (ap (λ g. tail (tail (tail g))) p) i)
written_inj x y p = absurd cc

abbrev pub coded_written : Coded WrittenTree
coded_written = record { code = written_code; inj = written_inj }

abbrev pub coded_global : Coded GlobalTree
coded_global =
    code_by (ℕ × (TypeTree × (Bool × List WrittenTree))) (coded× coded_ℕ (coded× coded_tree (coded× coded_bool (coded_list coded_written))))
    (λ g. (g.at, (g.type, (g.fixed, g.written)))) (λ p. record { at = p.0; type = p.1.0; fixed = p.1.1.0; written = p.1.1.1 }) (λ _. refl)

abbrev pub coded_program : Coded ProgramTree
coded_program =
    code_by (Definitions × (List FunctionTree × (List GlobalTree × ℕ))) (coded× coded_definitions (coded× (coded_list coded_function) (coded× (coded_list coded_global) coded_ℕ)))
    (λ p. (p.structs, (p.functions, (p.globals, p.main)))) (λ p. record { structs = p.0; functions = p.1.0; globals = p.1.1.0; main = p.1.1.1 }) (λ _. refl)

-- what a written part of a global stands for
abbrev pub written_of : Written → WrittenTree
written_of (form.Word offset width word) = word_at offset width word
written_of (form.Link offset number) = link_at offset number
written_of (form.Characters offset cs) = characters_at offset cs
