-- Faults of evaluations as those of triggers, and faults of triggers as those of events.
use Rattle.es_expr.specs.declared.fault.EvalFault.{EvalFault}
use Rattle.es_expr.specs.declared.fault.EvalFault.TheVariants as eval
use Rattle.es_domain.specs.declared.aggregate.ApplyFault.{ApplyFault}
use Rattle.es_domain.specs.declared.aggregate.ApplyFault.TheVariants as apply
use Rattle.es_domain.specs.declared.aggregate.TriggerFault.{TriggerFault}
use Rattle.es_domain.specs.declared.aggregate.TriggerFault.TheVariants.{Overflow, NoMemory}

-- a fault of a trigger, as one of an event
abbrev pub apply_fault_of : TriggerFault → ApplyFault
apply_fault_of Overflow = apply.Overflow
apply_fault_of NoMemory = apply.NoMemory

-- a fault of an evaluation
abbrev pub fault_of : EvalFault → TriggerFault
fault_of eval.Overflow = Overflow
fault_of eval.NoMemory = NoMemory
