-- Which fault of a run each fault of a part is, and how each ends the run.
use Rattle.es_model.specs.declared.memory.CallFault.{CallFault}
use Rattle.es_model.specs.declared.memory.CallFault.TheVariants as call
use Rattle.es_process.specs.declared.faults.RunFault.{RunFault}
use Rattle.es_process.specs.declared.faults.RunFault.TheVariants as fault
use Rattle.es_lines.specs.declared.ends.End.{End}
use Rattle.es_lines.specs.declared.ends.End.TheVariants as end

abbrev pub of_call : CallFault → RunFault
of_call call.Failed = fault.Recorder
of_call call.NoMemory = fault.NoMemory

abbrev pub end_of : RunFault → End
end_of (fault.Refused app leader id recordings code rule) = end.Refused app leader id recordings code rule
end_of (fault.Turns app turns) = end.Turns app turns
end_of (fault.Unreadable app id) = end.Unreadable app id
end_of (fault.Full app last capacity) = end.Full app last capacity
end_of fault.Recorder = end.Recorder
end_of fault.NoMemory = end.Memory

-- what a fault leaves: the end that it is, or what its being cut short leaves where the recorder failed or memory ran out
abbrev pub ByFault : RunFault → (End → Type 0) → Type 0 → Type 0 → Type 0
ByFault (fault.Refused app leader id recordings code rule) ended failed starved = ended (end.Refused app leader id recordings code rule)
ByFault (fault.Turns app turns) ended failed starved = ended (end.Turns app turns)
ByFault (fault.Unreadable app id) ended failed starved = ended (end.Unreadable app id)
ByFault (fault.Full app last capacity) ended failed starved = ended (end.Full app last capacity)
ByFault fault.Recorder ended failed starved = failed
ByFault fault.NoMemory ended failed starved = starved
