-- Records are taken one after another.
use Rattle.std.proofs.Common.{◌≡◌, ◌≢◌, ◌∙◌, ℕ, ◌+◌, ◌<◌, ◌≤◌, false, List, [], ◌∷◌, ◌++◌, Option, Some, None, IfSome, refl, sym, ap, subst, arith, append_assoc}
use Rattle.std.specs.List.{AllByRecursion}
use Rattle.quant.specs.Interval.{Interval}
use Rattle.flow_edge.specs.ReadText.{ReadText}
use Rattle.parts.specs.Parts.{FileParts}
use Rattle.plant.specs.Sound.{IsPlant}
use Rattle.feeds.specs.declared.record.Record.{Record}
use Rattle.feeds.specs.declared.taken.Taken.{Taken}
use Rattle.feeds.specs.declared.reader.FeedFault.{FeedFault}
use Rattle.feeds.specs.Records.{ReadRecords}
use Rattle.feeds.specs.Held.{held_with, held_after}
use Rattle.feeds.specs.Standing.{IsTakenFor, as_list, unread, pending, with_front}
use Rattle.feeds.specs.Taking.{entries_at, Takes, HasCome, MeetsRefusal, HoldsAhead}
use Rattle.feeds.proofs.Steps.{unread-behind}
use Rattle.feeds.proofs.Turns.{AreInTurn, from-turn, all-later}

pub after-both : (held : List (List (Option Interval))) (xs ys : List Record) →
    held_after held (xs ++ ys) ≡ held_after (held_after held xs) ys
after-both held [] ys = refl
after-both held (x ∷ xs) ys = after-both (held_with held x) xs ys

pub before-both : (first end : ℕ) (xs ys : List Record) → first ≤ end → AllByRecursion (λ one. one.tick < first) xs →
    AllByRecursion (λ one. one.tick < end) ys → AllByRecursion (λ one. one.tick < end) (xs ++ ys)
before-both first end [] ys l all others = others
before-both first end (x ∷ xs) ys l all others = (let m = all.0 in omega arith, before-both first end xs ys l all.1 others)

pub before-later : (first end : ℕ) (xs : List Record) → first ≤ end → AllByRecursion (λ one. one.tick < first) xs →
    AllByRecursion (λ one. one.tick < end) xs
before-later first end [] l all = tt
before-later first end (x ∷ xs) l all = (let m = all.0 in omega arith, before-later first end xs l all.1)

module _ (parts : FileParts) (text : ReadText) where
  pub none-ahead : (taken : Taken) → taken.ahead ≡ None → pending parts text taken ≡ unread parts text taken
  none-ahead taken e = ap (λ ahead. with_front (as_list ahead) (unread parts text taken)) e

  pub takes-none : (end : ℕ) (taken : Taken) → Takes parts text end taken taken
  takes-none end taken = record { records = []; split = refl; before = tt; held = refl }

  -- some, and then others
  pub takes-then : (first end : ℕ) (a b c : Taken) → first ≤ end → Takes parts text first a b → Takes parts text end b c →
      Takes parts text end a c
  takes-then first end a b c l some others = record {
    records = some.records ++ others.records;
    split = some.split ∙ ap (with_front some.records) others.split
        ∙ ap (λ records. record { records = records; refusal = (pending parts text c).refusal })
        (sym (append_assoc some.records others.records (pending parts text c).records));
    before = before-both first end some.records others.records l some.before others.before;
    held = others.held ∙ ap (λ held. held_after held others.records) some.held
        ∙ sym (after-both a.held some.records others.records);
  }

  -- a refusal that is met after some
  pub refused-then : (first end : ℕ) (a b : Taken) (fault : FeedFault) → first ≤ end → Takes parts text first a b →
      MeetsRefusal parts text end b fault → MeetsRefusal parts text end a fault
  refused-then first end a b fault l some refused = record {
    refusal = ap (λ (read : ReadRecords). read.refusal) some.split ∙ refused.refusal;
    before = subst (λ (read : ReadRecords). AllByRecursion (λ one. one.tick < end) read.records) (sym some.split)
        (before-both first end some.records (pending parts text b).records l some.before refused.before);
    other = refused.other;
  }

  pub refused-later : (first end : ℕ) (taken : Taken) (fault : FeedFault) → first ≤ end →
      MeetsRefusal parts text first taken fault → MeetsRefusal parts text end taken fault
  refused-later first end taken fault l refused = record {
    refusal = refused.refusal;
    before = before-later first end (pending parts text taken).records l refused.before;
    other = refused.other;
  }

  -- the record ahead is held
  takes-front : (end : ℕ) (taken : Taken) (ahead : Option Record) → taken.ahead ≡ ahead →
      AllByRecursion (λ one. one.tick < end) (as_list ahead) →
      Takes parts text end taken (record taken { ahead = None; held = held_after taken.held (as_list ahead) })
  takes-front end taken ahead e before = record {
    records = as_list ahead;
    split = ap (λ one. with_front (as_list one) (unread parts text taken)) e;
    before = before;
    held = refl;
  }

  pub takes-ahead : (end : ℕ) (taken : Taken) → AllByRecursion (λ one. one.tick < end) (as_list taken.ahead) →
      Takes parts text end taken (record taken { ahead = None; held = held_after taken.held (as_list taken.ahead) })
  takes-ahead end taken before = takes-front end taken taken.ahead refl before

  -- one record is read, and held or ahead
  module _ (end : ℕ) (mid read : Taken) (one : Record) (none : mid.ahead ≡ None)
      (next : unread parts text mid ≡ with_front (one ∷ []) (unread parts text read)) (ahead : read.ahead ≡ None)
      (same : read.held ≡ mid.held) where
    pub takes-one : one.tick < end → Takes parts text end mid (record read { held = held_with read.held one })
    takes-one before = record {
      records = one ∷ [];
      split = none-ahead mid none ∙ next ∙ ap (with_front (one ∷ [])) (sym (none-ahead read ahead));
      before = (before, tt);
      held = ap (λ held. held_with held one) same;
    }

    pub takes-met : Takes parts text end mid (record read { ahead = Some one })
    takes-met = record {
      records = [];
      split = none-ahead mid none ∙ next;
      before = tt;
      held = same;
    }

  -- what follows a record ahead is not before it
  pub come-ahead : IsPlant parts → (end : ℕ) (taken : Taken) (one : Record) → taken.ahead ≡ Some one → 1 ≤ taken.count →
      one.tick ≡ taken.last → end ≤ one.tick → HasCome parts text end taken
  come-ahead plant end taken one e some last later = record {
    later = subst (λ (ahead : Option Record). AllByRecursion (λ r. end ≤ r.tick) (as_list ahead ++ (unread parts text taken).records))
        (sym e) (
          later,
          all-later parts end taken.last (unread parts text taken).records (omega arith)
              (subst (λ (read : ReadRecords). AreInTurn parts taken.last read.records) (sym (unread-behind parts text taken some))
              (from-turn parts (taken.count + 1) taken.last (entries_at text taken.at) plant)),
        );
    ends = λ none. absurd (let clash : Some one ≡ None = sym e ∙ none in cc);
  }

  -- the record ahead is later, and nothing is taken
  stops-at : IsPlant parts → (end : ℕ) (taken : Taken) (ahead : Option Record) → taken.ahead ≡ ahead →
      IfSome ahead (λ one. (1 ≤ taken.count) × (one.tick ≡ taken.last)) → IfSome ahead (λ one. end ≤ one.tick) → ahead ≢ None →
      HasCome parts text end taken
  stops-at plant end taken None e last later some = absurd (some refl)
  stops-at plant end taken (Some one) e last later some = come-ahead plant end taken one e last.0 last.1 later

  pub stops-ahead : IsPlant parts → (bytes : List ℕ) (end : ℕ) (old read : Taken) → IsTakenFor parts bytes old →
      HoldsAhead end old read false → Takes parts text end old read × HasCome parts text end read
  stops-ahead plant bytes end old read is holds =
      subst (λ (now : Taken). Takes parts text end old now × HasCome parts text end now) (sym holds.0)
      (takes-none end old, stops-at plant end old old.ahead refl is.last holds.1 holds.2)
