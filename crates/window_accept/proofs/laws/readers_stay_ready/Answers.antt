-- Each clause goes by how the session's window ended.
use Rattle.window_accept.proofs.Readers.{stays-ready, stays-unended, stays-faultless, window-is, fault-counted, stays-counted}
use Rattle.window_accept.proofs.Readers.{stays-plain}
use Rattle.window_accept.proofs.laws.readers_stay_ready.Goals as goal

pub returns-clause-ready : goal.returns-clause-ready
returns-clause-ready c relaxes old new reader read answer ready next = stays-ready old reader read relaxes new answer ready next

pub returns-clause-unended : goal.returns-clause-unended
returns-clause-unended c = stays-unended

pub returns-clause-faultless : goal.returns-clause-faultless
returns-clause-faultless c = stays-faultless

pub returns-clause-window : goal.returns-clause-window
returns-clause-window c = window-is

pub returns-clause-failed : goal.returns-clause-failed
returns-clause-failed c = fault-counted

pub returns-clause-counted : goal.returns-clause-counted
returns-clause-counted c = stays-counted

pub returns-clause-plain : goal.returns-clause-plain
returns-clause-plain c = stays-plain
