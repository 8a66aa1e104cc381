use Rattle.psos_rows.proofs.SerialRun.{IsSerialSoFar}
use Rattle.psos_rows.proofs.serial.serial_lines.Given as goal

abbrev pub invariant-turns : goal.invariant-turns
invariant-turns l = IsSerialSoFar l.script l.flat l.lines.items l.stamp
