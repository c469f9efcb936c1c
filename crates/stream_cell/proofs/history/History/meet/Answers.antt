use Rattle.std.proofs.Common.{◌≡◌, ◌<◌, ◌+◌, length, ◌-◌, max, sym, ap, ◌∙◌, subst, arith, refl}
use Rattle.tubes.specs.Meeting.{Meets}
use Rattle.tubes.specs.declared.tube.Met.TheVariants as met
use Rattle.stream_cell.specs.Histories.{newest}
use Rattle.stream_cell.proofs.Flats.{newest_head, versions_counted}
use Rattle.stream_cell.proofs.Keeping.{last_is, spare_kept, renewal_shape, met_shape, room_kept, more_kept, appended_is, headed_is}
use Rattle.stream_cell.proofs.history.History.meet.Goals as goal

pub returns-in-Same : goal.returns-in-Same
returns-in-Same c =
    let tube = c.copy_from.ensures ∙ sym (last_is c.self.invariant _ c.self.view_is) in
    let met = subst (λ A. Meets met.Same A c.args.renewal.now c.meet_into.new.self) tube c.in-Same.ensures in
    let is : c.len-count.result - 1 + 1 ≡ length c.self.inside.heads.items = omega (arith, c.self.inside.heads.ok.0, c.self.invariant.some) in
    let head = newest_head _ c.self.inside.heads.items c.self.inside.bands.items _ c.self.view_is _ _ is c.index.ensures in
    (met.0, met.1, sym head.0, c.self.view_is)

pub returns-in-Narrowed : goal.returns-in-Narrowed
returns-in-Narrowed c =
    let count : length c.args.self.now ≡ c.len-count.result =
    sym (ap length c.self.view_is)
    ∙ (versions_counted _ c.self.inside.heads.items c.self.inside.bands.items ∙ (sym c.self.inside.heads.ok.0 ∙ sym c.len-count.ensures)) in
    let all : length c.args.self.now ≡ 33 = omega (arith, c.self.inside.heads.ok.0, c.self.invariant.few, c.len-count.ensures, c.if-count-eq-MOST.true) in
    let is : c.len-count.result - 1 + 1 ≡ length c.self.inside.heads.items = omega (arith, c.self.inside.heads.ok.0, c.self.invariant.some) in
    let head = newest_head _ c.self.inside.heads.items c.self.inside.bands.items _ c.self.view_is _ _ is c.index.ensures in
    let tube = c.copy_from.ensures ∙ sym (last_is c.self.invariant _ c.self.view_is) in
    let met = subst (λ A. Meets met.Narrowed A c.args.renewal.now c.meet_into.new.self) tube c.in-Narrowed.ensures in
    (met.0, met.1, all, sym head.0, c.self.view_is)

pub invariant_of-self-then-count-eq-MOST : goal.invariant_of-self-then-count-eq-MOST
invariant_of-self-then-count-eq-MOST c =
    spare_kept c.self.invariant _ (met_shape _ _ _ _ (renewal_shape c.self.invariant _ c.self.view_is _ c.requires.shape) c.copy_from.ensures c.in-Narrowed.ensures.2)

pub overflow_add-stamp : goal.overflow_add-stamp
overflow_add-stamp c =
    let is : c.len-count.result - 1 + 1 ≡ length c.self.inside.heads.items = omega (arith, c.self.inside.heads.ok.0, c.self.invariant.some) in
    let head = newest_head _ c.self.inside.heads.items c.self.inside.bands.items _ c.self.view_is _ _ is c.index-2.ensures in
    omega (arith, head.1, c.requires.stamp, c.requires.base, c.max-stamp.ensures)

pub append-requires-clause-bands : goal.append-requires-clause-bands
append-requires-clause-bands c =
    let few : length c.self.inside.heads.items < 33 = omega (arith, c.self.inside.heads.ok.0, c.self.invariant.few, c.len-count.ensures, c.if-count-eq-MOST.false) in
    let renewed = renewal_shape c.self.invariant _ c.self.view_is _ c.requires.shape in
    let met = met_shape _ _ _ _ renewed c.copy_from.ensures c.in-Narrowed.ensures.2 in
    search (room_kept c.self.invariant)

pub copy_from-requires-in-Narrowed-2 : goal.copy_from-requires-in-Narrowed-2
copy_from-requires-in-Narrowed-2 c = record {
  shape = sym (met_shape _ _ _ _ (renewal_shape c.self.invariant _ c.self.view_is _ c.requires.shape) c.copy_from.ensures c.in-Narrowed.ensures.2);
}

pub invariant_of-self-in-Narrowed-2 : goal.invariant_of-self-in-Narrowed-2
invariant_of-self-in-Narrowed-2 c =
    let few : length c.self.inside.heads.items < 33 = omega (arith, c.self.inside.heads.ok.0, c.self.invariant.few, c.len-count.ensures, c.if-count-eq-MOST.false) in
    more_kept c.self.invariant _ _ _ _ _ _ _
    (met_shape _ _ _ _ (renewal_shape c.self.invariant _ c.self.view_is _ c.requires.shape) c.copy_from.ensures c.in-Narrowed.ensures.2)
    c.copy_from-in-Narrowed-2.ensures c.append.ensures.heads c.append.ensures.bands few c.append.ensures.head_room c.append.ensures.band_room

pub returns-in-Narrowed-2 : goal.returns-in-Narrowed-2
returns-in-Narrowed-2 c =
    let tube = c.copy_from.ensures ∙ sym (last_is c.self.invariant _ c.self.view_is) in
    let met = subst (λ A. Meets met.Narrowed A c.args.renewal.now c.meet_into.new.self) tube c.in-Narrowed.ensures in
    let is : c.len-count.result - 1 + 1 ≡ length c.self.inside.heads.items = omega (arith, c.self.inside.heads.ok.0, c.self.invariant.some) in
    let head = newest_head _ c.self.inside.heads.items c.self.inside.bands.items _ c.self.view_is _ _ is c.index-2.ensures in
    let all : length c.args.self.now ≡ c.len-count.result =
    sym (ap length c.self.view_is)
    ∙ (versions_counted _ c.self.inside.heads.items c.self.inside.bands.items ∙ (sym c.self.inside.heads.ok.0 ∙ sym c.len-count.ensures)) in
    let few : length c.args.self.now < 33 = omega (arith, c.self.inside.heads.ok.0, c.self.invariant.few, c.len-count.ensures, c.if-count-eq-MOST.false) in
    let stamp : 1 + c.max-stamp.result ≡ 1 + max c.args.uses.now.base (newest c.args.self.now).stamp =
    ap (λ k. 1 + k) (c.max-stamp.ensures ∙ ap (max c.args.uses.now.base) (sym head.1)) in (
      met.0,
      met.1,
      few,
      sym all,
      stamp,
      appended_is c.self.invariant _ _ c.self.view_is _ _ _ _ _
          (headed_is _ _ _ _ _ _ (sym all) refl stamp c.copied-refs.ensures met.2)
          (met_shape _ _ _ _ (renewal_shape c.self.invariant _ c.self.view_is _ c.requires.shape) c.copy_from.ensures c.in-Narrowed.ensures.2)
          c.copy_from-in-Narrowed-2.ensures c.append.ensures.heads c.append.ensures.bands,
    )
