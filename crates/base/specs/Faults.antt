-- Faults of the three layers, and how one goes up.
use Rattle.std.specs.Prelude.{Some}
use Rattle.std.specs.declared.convert.Infallible.{Infallible}
use Rattle.base.specs.declared.fault.Fault.{Fault}

abbrev pub MediumFault : Type 0
MediumFault = Fault Infallible

abbrev pub BlockFault : Type 0
BlockFault = Fault MediumFault

abbrev pub ReplayFault : Type 0
ReplayFault = Fault BlockFault

-- a fault that goes up one layer keeps its refusal and its place, and the fault below as its cause
abbrev pub raised : {Cause : Type 0} → Fault Cause → Fault (Fault Cause)
raised e = record { refusal = e.refusal; at = e.at; cause = Some e }
