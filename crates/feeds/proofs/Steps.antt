-- What is to come of a text, record by record.
use Rattle.std.proofs.Common.{◌≡◌, ◌≢◌, ◌∙◌, ℕ, ◌<◌, ◌≤◌, Bool, cond, List, length, Option, None, IfSome, Result, Err, refl, sym, ap, subst, arith, ne_eqb}
use Rattle.flow_edge.specs.ReadText.{ReadText}
use Rattle.parts.specs.Parts.{FileParts}
use Rattle.feeds.specs.declared.record.Record.{Record}
use Rattle.feeds.specs.declared.taken.Taken.{Taken}
use Rattle.feeds.specs.declared.reader.FeedFault.{FeedFault}
use Rattle.feeds.specs.Records.{read_text}
use Rattle.plant_streams.specs.Limits.{limits_at}
use Rattle.feeds.specs.Held.{AreHeldIn, held_of}
use Rattle.feeds.specs.Standing.{IsRecordFor, IsTakenFor, unread}
use Rattle.feeds.specs.Taking.{entries_at, behind, HasHeader, PassesHeader, AnswersNext, ReadsNext}

-- behind the header
pub unread-behind : (parts : FileParts) (text : ReadText) (taken : Taken) → 1 ≤ taken.count →
    unread parts text taken ≡ behind parts text taken
unread-behind parts text taken some =
    let ne : taken.count ≢ 0 = omega arith in
    ap (λ (b : Bool). cond b (read_text parts (entries_at text taken.at)) (behind parts text taken)) (ne_eqb taken.count 0 ne)

-- what is taken stays so, where what is held is the same
pub still-taken : (parts : FileParts) (bytes : List ℕ) (old read : Taken) → IsTakenFor parts bytes old → read.held ≡ old.held →
    read.ahead ≡ None → read.at ≤ length bytes → read.count ≤ read.at → IsTakenFor parts bytes read
still-taken parts bytes old read is held ahead inside counted = record {
  inside = inside;
  counted = counted;
  feeds = ap length held ∙ is.feeds;
  held = subst (λ h. (f : ℕ) → f < length parts.feeds → AreHeldIn (held_of h f) (limits_at parts f)) (sym held) is.held;
  ahead = subst (λ (o : Option Record). IfSome o (IsRecordFor parts)) (sym ahead) tt;
  last = subst (λ (o : Option Record). IfSome o (λ one. (1 ≤ read.count) × (one.tick ≡ read.last))) (sym ahead) tt;
}

-- behind the header that was read
pub behind-header : (parts : FileParts) (text : ReadText) (old first read : Taken) (answer : Result (Option Record) FeedFault) →
    HasHeader parts text old first → first.held ≡ old.held →
    ReadsNext parts text (behind parts text first) first read answer →
    ReadsNext parts text (unread parts text old) old read answer
behind-header parts text old first read answer header held next = record {
  answers = subst (λ coming. AnswersNext parts text coming read answer) (sym header.passes) next.answers;
  taken = next.taken;
  held = next.held ∙ held;
  ahead = next.ahead;
  further = λ other ok. (let l = next.further other ok in let m = header.further in omega arith);
}

pub header-refused : (parts : FileParts) (text : ReadText) (old read : Taken) (fault : FeedFault) →
    IsTakenFor parts text.bytes old → old.ahead ≡ None → PassesHeader parts text old read (Err fault) →
    ReadsNext parts text (unread parts text old) old read (Err fault)
header-refused parts text old read fault taken ahead passes = subst (λ (now : Taken).
    ReadsNext parts text (unread parts text old) old now (Err fault)) (sym passes.2) (record {
      answers = (passes.0, passes.1);
      taken = taken;
      held = refl;
      ahead = ahead;
      further = λ other ok. absurd (cc ok);
    })
