-- What the parser makes of declarations at file scope on the way, as plain trees.
use Rattle.std.specs.Prelude.{[], ◌∷◌}
use Rattle.c_lex.specs.declared.punct.Punct.TheVariants as m
use Rattle.c_ast.specs.Declarations.{open_dimensions, initializer, more_declarators}
use Rattle.c_ast.specs.Externals.{params, body_tree, struct_rest}
use Rattle.c_ast.specs.Productions as l
use Rattle.c_ast.specs.Nodes.{node, mark, name}
use Rattle.c_ast.specs.Specifiers.{stars}
use Rattle.c_ast.specs.Tree.{Tree}
use Rattle.c_parse.specs.declared.external.AfterTag.{AfterTag}
use Rattle.c_parse.specs.declared.external.AfterTag.TheVariants as after
use Rattle.c_parse.specs.declared.external.Declared.{Declared}
use Rattle.c_parse.specs.declared.external.Rest.{Rest}
use Rattle.c_parse.specs.declared.external.Rest.TheVariants as rest

-- what stands after a name
abbrev pub rest_tree : Rest → Tree
rest_tree (rest.Function opening inside closing body) =
    node l.Function (mark m.LParen opening ∷ params inside ∷ mark m.RParen closing ∷ body_tree body ∷ [])
rest_tree (rest.Globals dimensions begins more semicolon) =
    node l.Globals (open_dimensions dimensions ∷ initializer begins ∷ more_declarators more ∷ mark m.Semicolon semicolon ∷ [])

-- what stands after a type
abbrev pub declared_tree : Declared → Tree
declared_tree x = node l.Declared (stars x.stars ∷ name x.name ∷ rest_tree x.rest ∷ [])

-- what stands after `struct` and a name
abbrev pub after_tag_tree : AfterTag → Tree
after_tag_tree (after.Struct body semicolon) = struct_rest body semicolon
after_tag_tree (after.Declared x) = declared_tree x
