-- A view may go to another thread.
use denote.Param.Send.{IsSend, sendable}
use Rattle.std.proofs.Crossing as crossing
use Rattle.left_right.proofs.reader.Reader.TheSendSync as reader
use Rattle.run_watch.proofs.rule.Shown.TheSendSync as shown
use Rattle.run_watch.proofs.Words.{the_row}

pub view_send : IsSend the_row
view_send = search (sendable, crossing.crosses, reader.the_send, shown.the_sync, crossing.send, crossing.sync, crossing.frees) depth 20
