use Rattle.std.proofs.Common.{◌≡◌, ◌+◌, ◌*◌, ◌≤◌, [], None, length, arith}
use Rattle.std.proofs.lemmas.Grind.{common_steps}
use Rattle.c_ast.specs.Nesting.{depth}
use Rattle.c_ast.specs.Spelling.{kinds}
use Rattle.c_parse_tokens.specs.LeftOut.{first_left_out}
use Rattle.c_parse.proofs.ParserAnswers.{read_ended}
use Rattle.c_parse.proofs.parser.parse.Goals as goal

pub returns-in-Ok : goal.returns-in-Ok
returns-in-Ok c =
    let empty : c.unit.new.tokens ≡ [] = grind (arith, common_steps) in
    let kept : first_left_out c.args.tokens.now ≡ None = grind (arith, common_steps) in
    let shallow : depth (kinds c.args.tokens.now) ≤ 200 = grind (arith, common_steps) in
    let enough : 16 * length c.args.tokens.now + 16 ≤ 16 * (length c.args.tokens.now + 1) = omega arith in
    read_ended (16 * (length c.args.tokens.now + 1)) c.args.tokens.now c.new-rest.result c.unit.new.tokens c.in-Ok.unit c.args.length
    (record { enough = enough; kept = kept; shallow = shallow }) c.new-rest.ensures c.in-Ok.ensures empty
