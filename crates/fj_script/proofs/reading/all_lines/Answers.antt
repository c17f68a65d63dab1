use Rattle.fj_script.proofs.LineByLine.{few_more, line_fails, line_more, makes_handed_on}
use Rattle.fj_script.proofs.reading.all_lines.Goals as goal

pub returns-in_err-session : goal.returns-in_err-session
returns-in_err-session c =
    makes_handed_on c.from_residual.result c.in_err-session.field-0.0 _ c.from_residual.ensures
    (line_fails _ c.lines.number c.lines.session c.lines.left c.in-Some.text c.in-Some.is c.lines.invariant.is c.split_line.result.0.now c.split_line.result.1 c.split_line.ensures.first c.in_err-session.field-0.0 c.in_err-session.ensures)

pub lines-preserved : goal.lines-preserved
lines-preserved c = record {
  is = line_more _ c.lines.number c.lines.session c.lines.left c.in-Some.text c.in-Some.is c.lines.invariant.is c.split_line.result.0.now c.split_line.result.1 c.split_line.ensures.first c.in_ok-session.session c.in_ok-session.ensures;
  few = few_more c.lines.number c.lines.left c.split_line.result.1 c.in-Some.text c.in-Some.is c.lines.invariant.few c.split_line.ensures.fewer;
}
