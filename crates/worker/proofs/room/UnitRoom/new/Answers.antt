use Rattle.std.proofs.Common.{List, sym, subst}
use Rattle.relaxation.specs.Tube.{Tube}
use Rattle.renewal.specs.Room.{planned, AreOpened}
use Rattle.renewal.proofs.Openings.{opening-opened}
use Rattle.worker.proofs.room.UnitRoom.new.Goals as goal

pub returns : goal.returns
returns c =
    let plan = c.args.plan.now in
    let reads = (planned plan c.args.unit).reads in
    record {
      inputs = subst (λ (tubes : List Tube). AreOpened plan reads tubes) (sym c.in_ok-inputs.ensures) (opening-opened plan reads);
      outputs = c.in_ok-outputs.ensures;
    }
