-- Each clause is a lemma on the plan of the next window, which is that of the run's ticks.
use Rattle.std.proofs.Common.{sym}
use Rattle.feeds.specs.Given.{given_by}
use Rattle.feeds.proofs.Windows.{opening-is}
use Rattle.window_accept.proofs.Following.{window-follows, window-made, window-taken, window-narrow, goes-along, wide-follows}
use Rattle.window_accept.proofs.Following.{wide-taken, fed-by, read-whole, window-going, window-moves, same-parts, wide-going}
use Rattle.window_accept.proofs.Following.{all-given, fed-going}
use Rattle.window_accept.proofs.laws.sessions_follow_the_run.Goals as goal

pub returns : goal.returns
returns c = record {
  opening = λ parts records. sym (opening-is parts (given_by parts records) 0);
  window = window-follows;
  made = window-made;
  taken = window-taken;
  narrow = window-narrow;
  going = window-going;
  along = λ relaxes records old new reader read. goes-along relaxes records old new reader read
      c.windows_carry_the_run.ensures.within;
  moves = window-moves;
  same = same-parts;
  whole = read-whole;
  wide = wide-follows;
  wide_taken = wide-taken;
  wide_going = wide-going;
  finished = all-given;
  fed = fed-by;
  fed_going = fed-going;
}
