-- `coder::code` meets its contract: the number is the book's, or the open book is worked with.
-- Assumes nothing.
use mathlib.Core.Path.{refl}
use Rattle.spec_operations.specs.Coding.{code_refusal}
use Rattle.spec_operations.proofs.Coding.{code-goes-on}
use Rattle.book.proofs.Rooms.{any_room}
use Rattle.coder.proofs.Opening.{open_book, some_book, not_opened}
use Rattle.coder.proofs.code.Goals as goal

pub open-requires : goal.open-requires
open-requires c = any_room _ refl

pub returns-in_err-c : goal.returns-in_err-c
unfolding code_refusal
returns-in_err-c c = not_opened _ _ c.from_residual.ensures.1 _ _ c.in_err-c.ensures.0.0

pub code_message-requires : goal.code_message-requires
code_message-requires c = some_book c.in_ok-c.ensures.0

pub returns : goal.returns
returns c =
    let b = open_book c.in_ok-c.ensures.0 in
    code-goes-on _ _ _ refl b.describes.accepted (c.code_message.ensures _ b)
