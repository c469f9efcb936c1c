-- A refusal is why nothing is to be read.
use Rattle.std.proofs.Common.{◌≡◌, Err, sym, ap, ◌∙◌}
use Rattle.flow_file.specs.declared.fault.TextFault.{TextFault}
use Rattle.flow_file.specs.declared.fault.Unread.{Unread}
use Rattle.flow_file.specs.declared.fault.Unread.TheVariants as unread
use Rattle.flow_file.specs.Read.{Reading, Fails}
use Rattle.flow_file.specs.Spots.{IsRefusal}

-- what is refused is not read
pub refused : {X : Type 0} (end : Unread) (refusal : TextFault) (reading : Reading X) →
    IsRefusal refusal end → reading ≡ Err refusal → Fails end reading
refused (unread.Fault fault) refusal reading same stopped = stopped ∙ ap Err (sym same)
refused unread.NoMemory refusal reading same stopped = tt
