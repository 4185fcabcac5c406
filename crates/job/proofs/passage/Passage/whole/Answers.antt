-- `job::passage::Passage::whole` meets its contract. Assumes nothing.
use Rattle.std.proofs.Common.{◌≡◌}
use Rattle.job.specs.Passages.{storing}
use Rattle.job.proofs.Turning.{says_it, stores_it, lays_out, asks_it, read_back}
use Rattle.job.proofs.passage.Passage.whole.Goals as goal

pub returns-in-Say : goal.returns-in-Say
returns-in-Say c =
    says_it c.args.self _ _ c.in-Say.is c.says.ensures

pub returns-in-Store : goal.returns-in-Store
returns-in-Store c =
    stores_it c.args.self _ _ c.in-Store.is
    (read_back (λ X Y. c.stores.result ≡ storing c.args.self c.args.size X Y) _ _ c.in-Store.known_told-in-Store-1-own.given.0.1 c.in-Store.known_told-in-Store-1-own.given.1.0.1 c.stores.ensures)

pub returns-in-LayOut : goal.returns-in-LayOut
returns-in-LayOut c =
    lays_out c.args.self _ _ c.in-LayOut.is c.asks.ensures

pub returns-in-Take : goal.returns-in-Take
returns-in-Take c =
    asks_it c.args.self _ _ c.asks-in-Take.ensures
