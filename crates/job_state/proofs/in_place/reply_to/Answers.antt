-- `job_state::in_place::reply_to` meets its contract. Assumes nothing.
use Rattle.records.specs.declared.Record.TheVariants.{Query, Point}
use Rattle.job_state.specs.InPlace.{In, Lies, Answering, CornerReplied}
use Rattle.job_state.proofs.Steps.{read_back}
use Rattle.job_state.proofs.InPlace.{replied_as, says_query, says_point}
use Rattle.job_state.proofs.in_place.reply_to.Goals as goal

pub returns-then-laid : goal.returns-then-laid
returns-then-laid c =
    let st = c in
    says_query c.in-Query.is c.if-laid.true
    (read_back (λ X Y. Answering (Lies st.args.phase st.args.counts.now st.args.numbers.now) (Query X Y) c.query_answer.result) _ _ (record { sfits = c.in-Query.known_told-in-Query-1-own.given.0.1 }) (record { sfits = c.in-Query.known_told-in-Query-1-own.given.1.0.1 }) c.query_answer.ensures)

pub returns-in-Corner : goal.returns-in-Corner
returns-in-Corner c =
    replied_as c.in-Corner.is
    ((read_back (λ X Y. CornerReplied c.args.phase c.args.count X Y c.corner_reply.result) _ _ (record { sfits = c.in-Corner.known_told-1-own.given.0.1 }) (record { sfits = c.in-Corner.known_told-1-own.given.1.0.1 }) c.corner_reply.ensures).replied _ _ _)

pub returns-in-Point : goal.returns-in-Point
returns-in-Point c =
    says_point c.in-Point.is
    (read_back (λ B L. Answering (In c.args.phase) (Point c.in-Point.code B L) c.point_answer.result) c.in-Point.b c.in-Point.l (record { sfits = c.in-Point.known_told-in-Point-1-own.given.1.0.1 }) (record { sfits = c.in-Point.known_told-in-Point-1-own.given.1.1.0.1 }) c.point_answer.ensures)
