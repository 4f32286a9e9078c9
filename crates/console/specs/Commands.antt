-- The call that a word with its numbers makes, and whether it prints a number.
use Rattle.std.specs.Prelude.{Bool, true, false}
use Rattle.model.specs.Calls.{Call, add_vcpu, set_running, change_line, read_distributor, write_distributor, read_frame, write_frame, read_system, write_system, query_signal, set_attribute}
use Rattle.console.specs.declared.Command.{Command}
use Rattle.console.specs.declared.Command.TheVariants.{Irqs, Vcpu, Init, Run, Dr, Dw, Rr, Rw, Sr, Sw, Line, Sig}

-- dr to rw are 4 bytes, F a frame's index
unfoldable pub call_of : Command → Call
call_of (Irqs n) = set_attribute 3 0 n
call_of (Vcpu a) = add_vcpu a
call_of Init = set_attribute 4 0 0
call_of (Run v l) = set_running v l
call_of (Dr v off) = read_distributor v off 4
call_of (Dw v off x) = write_distributor v off 4 x
call_of (Rr v f off) = read_frame v f off 4
call_of (Rw v f off x) = write_frame v f off 4 x
call_of (Sr v enc) = read_system v enc
call_of (Sw v enc x) = write_system v enc x
call_of (Line v id l) = change_line v id l
call_of (Sig v) = query_signal v

-- a read's hex is printed, and `ok` for all else
unfoldable pub is_read : Command → Bool
is_read (Irqs n) = false
is_read (Vcpu a) = false
is_read Init = false
is_read (Run v l) = false
is_read (Dr v off) = true
is_read (Dw v off x) = false
is_read (Rr v f off) = true
is_read (Rw v f off x) = false
is_read (Sr v enc) = true
is_read (Sw v enc x) = false
is_read (Line v id l) = false
is_read (Sig v) = true
