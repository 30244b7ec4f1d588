-- Why keep meets its contract: of FI 00 the phase and the psn are stored, and otherwise all of the state.
use Rattle.delivery.proofs.Joining.{keeps-heard, keeps-stored}
use Rattle.delivery.proofs.packet.keep.Goals as goal

pub returns-in-Whole : goal.returns-in-Whole
returns-in-Whole c = keeps-heard c.args.words.now _ c.args.i _ c.args.ch c.in-Whole.is c.store_heard.ensures

pub returns-in-First : goal.returns-in-First
returns-in-First c = keeps-stored c.args.words.now _ c.args.i _ c.args.ch c.store_channel.ensures
