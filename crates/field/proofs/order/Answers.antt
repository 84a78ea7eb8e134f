-- `field::order` meets its contract. Assumes nothing.
use Rattle.field.proofs.Masks.{one_shifted}
use Rattle.field.proofs.order.Goals as goal

pub returns : goal.returns
returns c = one_shifted c.args.p c.requires
