-- `job_lines::line::answer_line` meets its contract. Assumes nothing.
use Rattle.job_lines.proofs.Printing.{silent_said, field_said, inner_said, nozzle_said, point_said, refused_said}
use Rattle.job_lines.proofs.line.answer_line.Goals as goal

pub returns-in-Silent : goal.returns-in-Silent
returns-in-Silent c = silent_said c.args.offset c.in-Silent.is c.empty.ensures.0 c.empty.ensures.1

pub returns-in-Field : goal.returns-in-Field
returns-in-Field c =
    field_said c.args.offset c.in-Field.is c.in-Field.known_told-1-own.given.1.1.0.1 c.field_line.ensures

pub returns-in-Inner : goal.returns-in-Inner
returns-in-Inner c =
    inner_said c.args.offset c.in-Inner.is c.in-Inner.known_told-in-Inner-1-own.given.1.1.0.1 c.inner_line.ensures

pub returns-in-Nozzle : goal.returns-in-Nozzle
returns-in-Nozzle c =
    nozzle_said c.args.offset c.in-Nozzle.is c.in-Nozzle.known_told-in-Nozzle-1-own.given.0.1 c.in-Nozzle.known_told-in-Nozzle-1-own.given.1.0.1 c.nozzle_line.ensures

pub returns-in-Point : goal.returns-in-Point
returns-in-Point c =
    point_said c.args.offset c.in-Point.is c.in-Point.known_told-in-Point-1-own.given.0.1 c.in-Point.known_told-in-Point-1-own.given.1.0.1 c.in-Point.known_told-in-Point-1-own.given.1.1.0.1 c.in-Point.known_told-in-Point-1-own.given.1.1.1.0.1
    c.point_line.ensures

pub returns-in-Refused : goal.returns-in-Refused
returns-in-Refused c = refused_said c.args.offset c.in-Refused.is c.refused_line.ensures
