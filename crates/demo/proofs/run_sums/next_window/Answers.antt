use Rattle.std.proofs.Common.{true, None, Ok, refl, sym}
use Rattle.window_accept.specs.Session.{NextWindow}
use Rattle.demo.specs.Following.{plain_feeding}
use Rattle.demo.proofs.Passing.{not-finished, not-fed, not-wide}
use Rattle.demo.proofs.run_sums.next_window.Goals as goal

pub unreachable-requires : goal.unreachable-requires
unreachable-requires g c =
    not-finished c.args.session.now c.next_window.new.self (plain_feeding c.args.feeds.now) (plain_feeding c.next_window.new.feeds)
    c.requires.following c.requires.left (rw (sym c.in-Err-Finished.field-0-is) c.in-Err-Finished.ensures.next)

pub unreachable-requires-in-Err-Feed : goal.unreachable-requires-in-Err-Feed
unreachable-requires-in-Err-Feed g c =
    not-fed c.args.session.now c.next_window.new.self (plain_feeding c.args.feeds.now) (plain_feeding c.next_window.new.feeds)
    c.requires.following c.in-Err-Feed.field-0-0 refl (rw (sym c.in-Err-Feed.field-0-is) c.in-Err-Feed.ensures.next)

pub unreachable-requires-in-Err-Wide : goal.unreachable-requires-in-Err-Wide
unreachable-requires-in-Err-Wide g c =
    not-wide c.args.session.now c.next_window.new.self (plain_feeding c.args.feeds.now) (plain_feeding c.next_window.new.feeds)
    c.requires.following c.in-Err-Wide.field-0-0 c.requires.small.widths
    (rw (sym c.in-Err-Wide.field-0-is) c.in-Err-Wide.ensures.next)

pub returns-in-Ok-clause-moved : goal.returns-in-Ok-clause-moved
returns-in-Ok-clause-moved g c =
    let reader = plain_feeding c.args.feeds.now in
    let read = plain_feeding c.next_window.new.feeds in
    let old = c.args.session.now in
    let new = c.next_window.new.self in
    let laws = c.sessions_follow_the_run.ensures in
    let next : NextWindow true old new reader read (Ok c.in-Ok.window) = c.in-Ok.ensures.next in
    record {
      same = laws.same true old new reader read c.in-Ok.window next;
      tick = laws.moves true old new reader read c.in-Ok.window next;
      following = laws.along true None old new reader read c.in-Ok.window c.requires.following next;
    }

pub returns-in-Ok-clause-run : goal.returns-in-Ok-clause-run
returns-in-Ok-clause-run g c =
    c.sessions_follow_the_run.ensures.window true None c.args.session.now c.next_window.new.self (plain_feeding c.args.feeds.now)
    (plain_feeding c.next_window.new.feeds) c.in-Ok.window c.requires.following c.in-Ok.ensures.next
