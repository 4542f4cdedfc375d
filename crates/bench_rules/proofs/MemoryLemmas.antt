-- No read that failed tells that memory ran out.
use Rattle.std.proofs.Common.{◌≡◌}
use Rattle.base_file.specs.declared.read_fault.ReadFault.{ReadFault}
use Rattle.base_file.specs.declared.read_fault.ReadFault.TheVariants as reads
use Rattle.bench_rules.specs.declared.ask_fault.AskFault.TheVariants as asks
use Rattle.bench_rules.specs.declared.refusal.Refusal.TheVariants.{OutOfMemory}
use Rattle.bench_rules.specs.ReadFaults.{ask_fault_of, refusal_of}

pub ask_read_memory : (read : ReadFault) → ask_fault_of read ≡ asks.OutOfMemory → ⊥
ask_read_memory reads.ReadFailed e = cc
ask_read_memory reads.Changed e = cc
ask_read_memory reads.TooLarge e = cc

pub edit_read_memory : (read : ReadFault) → refusal_of read ≡ OutOfMemory → ⊥
edit_read_memory reads.ReadFailed e = cc
edit_read_memory reads.Changed e = cc
edit_read_memory reads.TooLarge e = cc
