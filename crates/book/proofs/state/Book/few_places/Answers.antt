use Rattle.std.proofs.Common.{rules}
use Rattle.book.proofs.Bounds.{within_room}
use Rattle.book.proofs.state.Book.few_places.Goals as goal

pub overflow_add-count : goal.overflow_add-count
overflow_add-count c = let b = c.args.self.now in let within = within_room b.ledger.lots in let room = b.lotroom in search rules

pub overflow_add-result : goal.overflow_add-result
overflow_add-result c = let b = c.args.self.now in let within = within_room b.ledger.slips in let room = b.sliproom in search rules
