use Rattle.std.proofs.Common.{◌≡◌, ◌≤◌, ◌*◌, length}
use Rattle.machine.specs.Bytes.{Held}
use Rattle.rewind.specs.Run.{run_of, answered}
use Rattle.rewind.proofs.answer_chunk.Given as goal

-- the output holds a line for each request so far, and the images are good
abbrev pub invariant-loop-request : goal.invariant-loop-request
invariant-loop-request g l = record { room : length l.out.items ≤ 15 * l.request-index; held : Held l.script l.net; run : run_of l.out.items l.net ≡ answered l.script l.initial.net l.requests l.request-index }
