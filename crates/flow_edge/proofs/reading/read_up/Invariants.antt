use Rattle.std.proofs.Common.{◌≡◌, ◌+◌, ◌-◌, ◌≤◌, take, drop, Some, None, IfSome, vec_len}
use Rattle.flow_edge.proofs.reading.read_up.Given as goal

-- what was read so far stands before what is left, and no fault count fell
abbrev pub invariant-reading : goal.invariant-reading
invariant-reading g l =
    let left = g.S.Source.left in
    record {
      consumed : IfSome (left l.fn.source) (λ text.
          (l.bytes.items ≡ take (vec_len l.bytes) text) × (left l.source ≡ Some (drop (vec_len l.bytes) text)));
      untold : left l.fn.source ≡ None → left l.source ≡ None;
      within : vec_len l.bytes ≤ l.most + 1;
      counted : g.S.Source.faults l.fn.source ≤ g.S.Source.faults l.source;
    }

abbrev pub decreases-reading : goal.decreases-reading
decreases-reading g l = l.most + 1 - vec_len l.bytes
