use Rattle.std.proofs.Common.{◌≡◌, ◌⊎◌, ◌∙◌, ◌<◌, ◌+◌, Some, None, Ok, Err, sym, subst, length}
use Rattle.flow_edge.specs.Faults.{Rose}
use Rattle.plant_streams.specs.Streams.{streams_of}
use Rattle.tables.specs.Output.{channels}
use Rattle.feeds.specs.declared.reader.FeedFault.TheVariants.{ReadFault}
use Rattle.feeds.specs.Given.{run_plan, given_by, refusal_by}
use Rattle.feeds.specs.Reader.{IsFailure}
use Rattle.feeds.specs.ReaderOf.{feeding}
use Rattle.window_accept.specs.Wide.{AreNarrowEnough, IsFirstWide, is_signal}
use Rattle.window_accept.specs.declared.end.WindowEnd.{WindowEnd}
use Rattle.window_accept.specs.declared.end.WindowEnd.TheVariants.{Feed, Wide}
use Rattle.window_accept.specs.Session.{IsMadeBy, HasRunAt, NextWindow}
use Rattle.flow_top.specs.WindowsCourse.{bands_by}
use Rattle.flow_top.specs.Uses.{source_use}
use Rattle.flow_top.specs.Ended.{IsBlamed}
use Rattle.flow_top.specs.Steps.{TextsEnded, NextTexts}
use Rattle.flow_top.proofs.Blame.{wide-blamed, feeds-blamed}
use Rattle.flow_top.proofs.Texts.{at-window, at-this, as-texts, moved-on, asked-for, stopped-at, unfed-at, wide-there, same-parts, read-with}
use Rattle.flow_top.proofs.windows.next_texts.Goals as goal

pub end_by_width-requires-clause-stream : goal.end_by_width-requires-clause-stream
end_by_width-requires-clause-stream g c =
    let old = g.W.MakesTexts.session c.args.windows.now in
    let new = g.W.MakesTexts.session c.next_texts.new.self in
    let reader = feeding g.E.Source.left g.E.Source.faults c.args.feeds.now c.args.extra.now in
    let read = feeding g.E.Source.left g.E.Source.faults c.next_texts.new.feeds c.next_texts.new.source in
    let place = c.in-Err-Wide.place in
    let next : NextWindow g.W.MakesTexts.relaxes old new reader read (Err (Wide place)) =
    subst (λ (end : WindowEnd). NextTexts g.W.MakesTexts.relaxes c.args.index old new reader read (Err end)) c.in-Err-Wide.field-0-is c.in-Err-Wide.ensures in
    let same = c.plant.ensures.plant ∙ same-parts _ old new reader read _ next in
    subst (λ parts. place.stream < length (streams_of parts)) (sym same)
    (wide-there _ old new reader read place c.requires.before.unended next).0

pub end_by_width-requires-clause-channel : goal.end_by_width-requires-clause-channel
end_by_width-requires-clause-channel g c =
    let old = g.W.MakesTexts.session c.args.windows.now in
    let new = g.W.MakesTexts.session c.next_texts.new.self in
    let reader = feeding g.E.Source.left g.E.Source.faults c.args.feeds.now c.args.extra.now in
    let read = feeding g.E.Source.left g.E.Source.faults c.next_texts.new.feeds c.next_texts.new.source in
    let place = c.in-Err-Wide.place in
    let next : NextWindow g.W.MakesTexts.relaxes old new reader read (Err (Wide place)) =
    subst (λ (end : WindowEnd). NextTexts g.W.MakesTexts.relaxes c.args.index old new reader read (Err end)) c.in-Err-Wide.field-0-is c.in-Err-Wide.ensures in
    let same = c.plant.ensures.plant ∙ same-parts _ old new reader read _ next in
    subst (λ parts. place.channel < length (channels (is_signal parts place.stream))) (sym same)
    (wide-there _ old new reader read place c.requires.before.unended next).1

pub returns-in-Ok-clause-texts : goal.returns-in-Ok-clause-texts
returns-in-Ok-clause-texts g c records along =
    let old = g.W.MakesTexts.session c.args.windows.now in
    let new = g.W.MakesTexts.session c.next_texts.new.self in
    let reader = feeding g.E.Source.left g.E.Source.faults c.args.feeds.now c.args.extra.now in
    let read = feeding g.E.Source.left g.E.Source.faults c.next_texts.new.feeds c.next_texts.new.source in
    let parts = old.parts in
    let w = c.args.index in
    let window = c.in-Ok.ensures.0 in
    let next = c.in-Ok.ensures.1 in
    let relaxes = g.W.MakesTexts.relaxes in
    let laws = c.sessions_follow_the_run.ensures in
    let here = at-window old w c.requires.before.tick c.requires.more in
    let run = at-this (λ first n. HasRunAt parts records first n window) old w here
    (laws.window relaxes records old new reader read window along next) in
    let made = at-this (λ first n. IsMadeBy relaxes (run_plan parts (given_by parts records) first n) window) old w here
    (laws.made relaxes records old new reader read window along next) in
    record {
      texts_are = as-texts relaxes parts records w window c.in-Ok.texts run made c.in-Ok.ensures.2;
      accepted = record {
        taken = at-this (λ first n. refusal_by parts records (first + n) ≡ None) old w here
            (laws.taken relaxes records old new reader read window along next);
        narrow = at-this (λ first n. AreNarrowEnough parts (bands_by parts records) first n) old w here
            (laws.narrow relaxes records old new reader read window along next);
      };
      along = laws.along relaxes records old new reader read window along next;
      read_up = read-with relaxes parts records old new reader read window (λ text. laws.whole relaxes text old new reader read window)
          along next;
    }

pub returns-in-Ok-clause-moved : goal.returns-in-Ok-clause-moved
returns-in-Ok-clause-moved g c =
    let old = g.W.MakesTexts.session c.args.windows.now in
    let new = g.W.MakesTexts.session c.next_texts.new.self in
    let reader = feeding g.E.Source.left g.E.Source.faults c.args.feeds.now c.args.extra.now in
    let read = feeding g.E.Source.left g.E.Source.faults c.next_texts.new.feeds c.next_texts.new.source in
    let w = c.args.index in
    let window = c.in-Ok.ensures.0 in
    let next = c.in-Ok.ensures.1 in
    let relaxes = g.W.MakesTexts.relaxes in
    let ready = c.readers_stay_ready.ensures in
    moved-on w old new read.reader (at-window old w c.requires.before.tick c.requires.more) c.requires.more
    (same-parts relaxes old new reader read (Ok window) next)
    (c.sessions_follow_the_run.ensures.moves relaxes old new reader read window next)
    (ready.unended relaxes old new reader read window next)
    (ready.ready relaxes old new reader read (Ok window) c.requires.before.ready next)
    (ready.faultless relaxes old new reader read window next)

pub returns-in-Ok-clause-counted : goal.returns-in-Ok-clause-counted
returns-in-Ok-clause-counted g c =
    let old = g.W.MakesTexts.session c.args.windows.now in
    let new = g.W.MakesTexts.session c.next_texts.new.self in
    let reader = feeding g.E.Source.left g.E.Source.faults c.args.feeds.now c.args.extra.now in
    let read = feeding g.E.Source.left g.E.Source.faults c.next_texts.new.feeds c.next_texts.new.source in
    let asked = asked-for g.W.MakesTexts.relaxes c.args.index old new reader read c.next_texts.result c.next_texts.ensures in
    c.readers_stay_ready.ensures.counted g.W.MakesTexts.relaxes old new reader read asked.0 asked.1

pub returns-in-Err-Wide-clause-counted : goal.returns-in-Err-Wide-clause-counted
returns-in-Err-Wide-clause-counted g c =
    let old = g.W.MakesTexts.session c.args.windows.now in
    let new = g.W.MakesTexts.session c.next_texts.new.self in
    let reader = feeding g.E.Source.left g.E.Source.faults c.args.feeds.now c.args.extra.now in
    let read = feeding g.E.Source.left g.E.Source.faults c.next_texts.new.feeds c.next_texts.new.source in
    let asked = asked-for g.W.MakesTexts.relaxes c.args.index old new reader read c.next_texts.result c.next_texts.ensures in
    c.readers_stay_ready.ensures.counted g.W.MakesTexts.relaxes old new reader read asked.0 asked.1

pub returns-in-Err-NoMemory-clause-counted : goal.returns-in-Err-NoMemory-clause-counted
returns-in-Err-NoMemory-clause-counted g c =
    let old = g.W.MakesTexts.session c.args.windows.now in
    let new = g.W.MakesTexts.session c.next_texts.new.self in
    let reader = feeding g.E.Source.left g.E.Source.faults c.args.feeds.now c.args.extra.now in
    let read = feeding g.E.Source.left g.E.Source.faults c.next_texts.new.feeds c.next_texts.new.source in
    let asked = asked-for g.W.MakesTexts.relaxes c.args.index old new reader read c.next_texts.result c.next_texts.ensures in
    c.readers_stay_ready.ensures.counted g.W.MakesTexts.relaxes old new reader read asked.0 asked.1

pub returns-in-Err-Feed-clause-counted : goal.returns-in-Err-Feed-clause-counted
returns-in-Err-Feed-clause-counted g c =
    let old = g.W.MakesTexts.session c.args.windows.now in
    let new = g.W.MakesTexts.session c.next_texts.new.self in
    let reader = feeding g.E.Source.left g.E.Source.faults c.args.feeds.now c.args.extra.now in
    let read = feeding g.E.Source.left g.E.Source.faults c.next_texts.new.feeds c.next_texts.new.source in
    let asked = asked-for g.W.MakesTexts.relaxes c.args.index old new reader read c.next_texts.result c.next_texts.ensures in
    c.readers_stay_ready.ensures.counted g.W.MakesTexts.relaxes old new reader read asked.0 asked.1

pub returns-in-Err-Wide-clause-texts : goal.returns-in-Err-Wide-clause-texts
returns-in-Err-Wide-clause-texts g c records along =
    let old = g.W.MakesTexts.session c.args.windows.now in
    let new = g.W.MakesTexts.session c.next_texts.new.self in
    let reader = feeding g.E.Source.left g.E.Source.faults c.args.feeds.now c.args.extra.now in
    let read = feeding g.E.Source.left g.E.Source.faults c.next_texts.new.feeds c.next_texts.new.source in
    let parts = old.parts in
    let w = c.args.index in
    let place = c.in-Err-Wide.place in
    let relaxes = g.W.MakesTexts.relaxes in
    let laws = c.sessions_follow_the_run.ensures in
    let here = at-window old w c.requires.before.tick c.requires.more in
    let next : NextWindow relaxes old new reader read (Err (Wide place)) = subst (λ (end : WindowEnd). NextTexts g.W.MakesTexts.relaxes c.args.index old new reader read (Err end)) c.in-Err-Wide.field-0-is c.in-Err-Wide.ensures in
    stopped-at c.args.command relaxes parts c.plant.result.now records w new reader read place _
    (c.plant.ensures.plant ∙ same-parts _ old new reader read _ next) c.requires.more
    (at-this (λ first n. refusal_by parts records (first + n) ≡ None) old w here
    (laws.wide_taken relaxes records old new reader read place along next))
    (at-this (λ first n. IsFirstWide parts (bands_by parts records) first n place) old w here
    (laws.wide relaxes records old new reader read place along next)) c.end_by_width.ensures

pub returns-in-Err-Feed-clause-texts : goal.returns-in-Err-Feed-clause-texts
returns-in-Err-Feed-clause-texts g c records along =
    let old = g.W.MakesTexts.session c.args.windows.now in
    let new = g.W.MakesTexts.session c.next_texts.new.self in
    let reader = feeding g.E.Source.left g.E.Source.faults c.args.feeds.now c.args.extra.now in
    let read = feeding g.E.Source.left g.E.Source.faults c.next_texts.new.feeds c.next_texts.new.source in
    let parts = old.parts in
    let w = c.args.index in
    let fault = c.in-Err-Feed.fault in
    let relaxes = g.W.MakesTexts.relaxes in
    let here = at-window old w c.requires.before.tick c.requires.more in
    let next : NextWindow relaxes old new reader read (Err (Feed fault)) = subst (λ (end : WindowEnd). NextTexts g.W.MakesTexts.relaxes c.args.index old new reader read (Err end)) c.in-Err-Feed.field-0-is c.in-Err-Feed.ensures in
    let failed : fault ≡ ReadFault → Rose reader.faults read.faults =
    λ e. c.readers_stay_ready.ensures.failed relaxes old new reader read c.requires.before.unended c.requires.before.faultless
    (subst (λ f. NextWindow relaxes old new reader read (Err (Feed f))) e next) in
    subst (λ end. TextsEnded c.args.command relaxes parts records w new reader read (Err end)) (sym c.end_by_feeds.ensures)
    (unfed-at c.args.command relaxes parts records w new reader read fault c.requires.more
    (at-this (λ first n. (refusal_by parts records (first + n) ≡ Some fault) ⊎ IsFailure fault) old w here
    (c.sessions_follow_the_run.ensures.fed relaxes records old new reader read fault along next)) failed)

pub returns-in-Err-Wide-clause-blamed : goal.returns-in-Err-Wide-clause-blamed
returns-in-Err-Wide-clause-blamed g c =
    wide-blamed c.args.command c.plant.result.now c.in-Err-Wide.place _ _ c.end_by_width.ensures

pub returns-in-Err-Feed-clause-blamed : goal.returns-in-Err-Feed-clause-blamed
returns-in-Err-Feed-clause-blamed g c sinks =
    let old = g.W.MakesTexts.session c.args.windows.now in
    let new = g.W.MakesTexts.session c.next_texts.new.self in
    let reader = feeding g.E.Source.left g.E.Source.faults c.args.feeds.now c.args.extra.now in
    let read = feeding g.E.Source.left g.E.Source.faults c.next_texts.new.feeds c.next_texts.new.source in
    let fault = c.in-Err-Feed.fault in
    let relaxes = g.W.MakesTexts.relaxes in
    let next : NextWindow relaxes old new reader read (Err (Feed fault)) = subst (λ (end : WindowEnd). NextTexts g.W.MakesTexts.relaxes c.args.index old new reader read (Err end)) c.in-Err-Feed.field-0-is c.in-Err-Feed.ensures in
    let extra = source_use g.E.Source.left g.E.Source.faults c.args.extra.now c.next_texts.new.source in
    subst (λ end. IsBlamed c.args.command (Err end) extra sinks) (sym c.end_by_feeds.ensures)
    (feeds-blamed c.args.command fault extra
    (λ e. c.readers_stay_ready.ensures.failed relaxes old new reader read c.requires.before.unended c.requires.before.faultless
    (subst (λ f. NextWindow relaxes old new reader read (Err (Feed f))) e next)) sinks)
