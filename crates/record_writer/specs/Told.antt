use Rattle.std.specs.Prelude.{ℕ}
use Rattle.record_writer.specs.declared.fault.WriteFault.{WriteFault}
use Rattle.record_writer.specs.declared.fault.WriteFault.TheVariants.{Name, Client, Room}

-- The number of each refusal.
abbrev pub write_fault : WriteFault → ℕ
write_fault Name = 1
write_fault Client = 4
write_fault Room = 20
